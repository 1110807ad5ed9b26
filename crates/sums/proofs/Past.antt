-- An item whose checksum would stand past its end.
use mathlib.Core.Path.{◌≡◌}
use mathlib.Core.List.{List}
use Prim.Native.Nat.{ℕ, ◌<◌}
use native.Mathlib.Omega.{arith}
use lib.Dec.{eqb}
use lib.ListN.{length}
use lib.Seq.{take_all}
use Rattle.codec.proofs.Stores.{field_past}
use Rattle.model.specs.Checksum.{sum_holds}

-- n is past the end: all bytes count, and the sum's own read as 0
pub sum_past : (sum : List ℕ → ℕ) (n : ℕ) (xs : List ℕ) → length xs < n → sum_holds sum n xs ≡ eqb (sum xs) 0
unfolding sum_holds
sum_past sum n xs h = rw (take_all n xs (omega arith), field_past 4 n xs (omega arith))

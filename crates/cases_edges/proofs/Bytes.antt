-- The largest byte: a volume that holds it restarts in a well-formed state, with a memory of one frame and with none.
use Prim.Native.Nat.{ℕ, zero, suc, ◌<◌}
use mathlib.Core.Bool.{Bool, true, ◌&&◌}
use mathlib.Core.List.{List, [], ◌∷◌}
use native.Mathlib.Omega.{arith}
use lib.Dec.{T, ltb}
use lib.ListN.{get_or, replicate}
use borrow.Author.Tests.{ltb-true}
use Rattle.model.specs.Bytes.{Octets}
use Rattle.model.specs.Geometry.{page_at}
use Rattle.model.specs.Outcome.{one_item}
use Rattle.model.specs.WellFormed.{RestartFormed}
use Rattle.laws.proofs.Restarted.{gives-well-formed}
use Rattle.cases.specs.Opened.{opened}
use Rattle.cases.specs.Build.{memory}
use Rattle.cases.specs.Table.{whole}
use Rattle.cases.proofs.Cases.{left, right}
use Rattle.cases.proofs.Tests.{holds}

abbrev are_bytes : List ℕ → Bool
are_bytes [] = true
are_bytes (x ∷ xs) = ltb x 256 && are_bytes xs

octets : (xs : List ℕ) → T (are_bytes xs) → (i : ℕ) → get_or xs i 0 < 256
octets [] t i = omega arith
octets (x ∷ xs) t zero = ltb-true x 256 (holds (ltb x 256) (left (ltb x 256) (are_bytes xs) t))
octets (x ∷ xs) t (suc i) = octets xs (right (ltb x 256) (are_bytes xs) t) i

-- K6's log, page 2's place erased
abbrev v : List ℕ
v = whole (one_item (page_at 2) (replicate 256 0xFF) ∷ [])

pub bytes : Octets v
unfolding opened
bytes = octets v tt

pub restarted : RestartFormed v (memory 1)
restarted = gives-well-formed v (memory 1) bytes

pub refused : RestartFormed v []
refused = gives-well-formed v [] bytes

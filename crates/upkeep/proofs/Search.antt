-- A search from 1 on.
use mathlib.Core.Path.{◌≡◌}
use mathlib.Core.Bool.{Bool}
use Prim.Native.Nat.{ℕ, ◌+◌, ◌-◌}
use native.Mathlib.Omega.{arith}
use Rattle.model.specs.Passes.{first_from}

-- from 1 on
pub first-start : (p : ℕ → Bool) (n : ℕ) → first_from (n + 1 - 1) p 1 ≡ first_from n p 1
first-start p n = let z : n + 1 - 1 ≡ n = omega arith in rw z

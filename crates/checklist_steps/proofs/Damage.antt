-- Laws of the disk's part: which bytes an older copy gives back.
use Prim.Native.Nat.{ℕ, min, ◌+◌, ◌-◌, ◌≤◌}
use mathlib.Core.Path.{◌≡◌, sym, ◌∙◌}
use mathlib.Core.List.{List}
use native.Mathlib.Nat.{add-zero}
use native.Mathlib.Omega.{arith}
use lib.ListN.{take, drop, take-append-drop}
use borrow.Author.Tests.{leb-true, leb-false}
use lib.Dec.{leb}
use Rattle.std.proofs.Math.Nat.{min-eq_left, min-eq_right}
use Rattle.laws.proofs.Tables.{by_cases}
use Rattle.model.specs.Bytes.{part, splice}
use Rattle.model.specs.Tables.{smaller}
use Rattle.checklist_steps.specs.Disk.{size, given_back}

pub min-smaller : (a b : ℕ) → min a b ≡ smaller a b
min-smaller a b =
    by_cases (leb a b) (λ t. let h : a ≤ b = omega (arith, leb-true a b t) in rw (t, min-eq_left h))
    (λ t. let h : b ≤ a = omega (arith, leb-false a b t) in rw (t, min-eq_right h))

module _ (v old : List ℕ) (from to end : ℕ) (ee : end ≡ smaller to size) where
  pub given-some : (w : List ℕ) → w ≡ splice v from (part old from (end - from)) → w ≡ given_back v old from to
  unfolding given_back
  given-some w e = e ∙ rw ee

  -- nothing lies between the two places
  pub given-none : end ≤ from → v ≡ given_back v old from to
  unfolding given_back part splice
  given-none h =
      let z : smaller to size - from ≡ 0 = rw (← ee) (omega arith) in
      rw (z, add-zero from) (sym (take-append-drop from v))

-- the image from a place on
pub image-is : (v r : List ℕ) (at from end : ℕ) → from ≡ smaller at (size - 256) → r ≡ take (end - from) (drop from v) → end ≡ from + 256
    → r ≡ part v (smaller at (size - 256)) 256
unfolding part
image-is v r at from end ef er ee = let n : end - from ≡ 256 = omega arith in er ∙ rw (n, ef)

-- The comparison of two logs for C, on any volumes: told in 66 numbers. The proof of `CompareClaim`.
use mathlib.Core.Path.{◌≡◌, sym, ap, ◌∙◌}
use mathlib.Core.Bool.{Bool, false, not}
use mathlib.Core.List.{List, ◌∷◌}
use Prim.Native.Nat.{ℕ, suc}
use native.Mathlib.Omega.{arith}
use lib.Dec.{eqb}
use lib.ListN.{length, length-map, length-replicate}
use borrow.Author.Tests.{eqb-true, eq-eqb}
use Rattle.laws.proofs.Tables.{by_cases, none-at}
use Rattle.laws.proofs.Tabulated.{tabulate-length}
use Rattle.reports_laws.proofs.Mirror.{number_is}
use Rattle.model.specs.Tables.{first_of}
use Rattle.reports.specs.Mirror.{either_rows, later_rows, mirror_rows, mirror_of, mirror_refusal}
use Rattle.reports.specs.Mirror.{flag, numbers_of, compare_rows, compare_of, CompareClaim}

module _ (v w report : List ℕ) where
  abbrev no : ℕ
  no = first_of (compare_rows v w (length report))

  refusal_is : (compare_of v w report).refusal ≡ no
  unfolding compare_of
  refusal_is = by_cases (eqb no 0) (λ t. let e : no ≡ 0 = eqb-true no 0 t in rw t (sym e)) (λ t. rw t)

  -- no row holds, row 2 or another
  open-rows : no ≡ 0 → first_of (mirror_rows v w) ≡ 0
  unfolding compare_rows mirror_rows
  open-rows z =
      let none = none-at (either_rows v w ((not (eqb (length report) 66), 2) ∷ later_rows v w)) (omega arith) z in
      rw (none 0, none 2, none 3, none 4)

  told : (compare_of v w report).refusal ≡ 0
      → (mirror_refusal (mirror_of v w).answer ≡ 0) × ((compare_of v w report).report ≡ numbers_of (mirror_of v w))
  unfolding compare_of
  told z = let e : no ≡ 0 = sym refusal_is ∙ z in (number_is v w ∙ open-rows e, rw (eq-eqb no 0 e))

pub touched-length : (v w : List ℕ) → length (mirror_of v w).touched ≡ 64
unfolding mirror_of
touched-length v w = by_cases (eqb (first_of (mirror_rows v w)) 0)
    (λ t. rw t (tabulate-length 64 _))
    (λ t. rw t (length-replicate {A = Bool} 64 false))

size : (v w : List ℕ) → length (numbers_of (mirror_of v w)) ≡ 66
size v w = ap (λ (n : ℕ). suc (suc n)) (length-map (mirror_of v w).touched flag ∙ touched-length v w)

pub compares : CompareClaim
compares = record { told = told; size = size }

-- One step of the walk, by its tests.
use mathlib.Core.Path.{◌≡◌}
use mathlib.Core.Logic.{⊎_elim}
use mathlib.Core.Bool.{Bool, true, false, cond}
use mathlib.Core.List.{List, [], ◌∷◌}
use Prim.Native.Nat.{ℕ, ◌≤◌}
use lib.Dec.{eqb, leb, ltb}
use borrow.Author.Tests.{leb-true}
use Rattle.laws.proofs.Tables.{all-at, or_cases, true-not-false}
use Rattle.model.specs.Checksum.{sealed}
use Rattle.model.specs.Item.{record_of, record_layout, first_is_format, is_format}
use Rattle.model.specs.Repair.{Walk, stop_at, behind, chain_record}
use Rattle.model.specs.declared.answer.Stop.TheVariants.{Broken, Below}
use Rattle.model.specs.declared.answer.Stop.TheVariants.{Own, Backup, Format}

-- one step of the walk, by its tests
unfoldable pub step : Bool → Bool → Bool → Bool → Bool → ℕ → Walk → Walk
step t u l c f n x =
    cond t (stop_at Own [])
    (cond u (stop_at Backup [])
    (cond l (stop_at Below []) (cond c (cond f (stop_at Format (n ∷ [])) (behind (n ∷ []) x)) (stop_at Broken []))))

-- a record that the walk reads and does not stop at names a number from 1 on
pub named : (p n : ℕ) (r : List ℕ) → chain_record p n r ≡ true → is_format (record_of r) ≡ false → 1 ≤ (record_of r).prev
unfolding chain_record
named p n r h f =
    let e = record_of r in
    let tests = sealed 60 r ∷ eqb e.lsn n ∷ eqb e.page p ∷ record_layout r ∷ ltb e.prev n ∷ first_is_format e ∷ [] in
    ⊎_elim (λ t. absurd (true-not-false t f)) (λ t. leb-true 1 e.prev t) (or_cases (is_format e) (leb 1 e.prev) (all-at tests 5 h))

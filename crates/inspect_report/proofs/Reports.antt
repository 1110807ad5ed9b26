-- A report of three numbers, and the outcome of an inspection that fills one.
use Prim.Native.Nat.{ℕ}
use mathlib.Core.Path.{◌≡◌, refl, sym, ap, ◌∙◌}
use mathlib.Core.Bool.{Bool, true, false, cond, not}
use mathlib.Core.List.{List}
use lib.Dec.{eqb}
use lib.ListN.{length}
use borrow.Author.Tests.{eq-eqb}
use Rattle.laws.proofs.Tables.{by_cases}
use Rattle.volume.proofs.Readings.{unknown-read}
use Rattle.model.specs.Tables.{first_of}
use Rattle.model.specs.Geometry.{known_magic, valid_volume}
use Rattle.model.specs.Refusals.{inspect_rows}
use Rattle.model.specs.Outcome.{refusal_of}
use Rattle.model.specs.Restart.{inspect_of}
use Rattle.reports.specs.Examine.{reported, examine_rows, examine_of}
use Rattle.model.specs.declared.{answer.Answer.Answer}
use Rattle.model.specs.declared.answer.Answer.TheVariants.{Refused}

-- a heading that is not known: row 1, whatever follows it
pub unknown : (v : List ℕ) (p : ℕ) (b r : List ℕ) (k : Bool) → k ≡ known_magic v → k ≡ false
    → (1 ≡ (examine_of v p b r).refusal) × (b ≡ (examine_of v p b r).buffer) × (r ≡ (examine_of v p b r).report)
unfolding examine_of examine_rows
unknown v p b r k ek t = rw (unknown-read v (sym ek ∙ t)) (refl, refl, refl)

-- a report of another length
pub unlike : (v : List ℕ) (p : ℕ) (b r : List ℕ) → eqb (length r) 3 ≡ false → (n : ℕ) → n ≡ cond (not (valid_volume v)) 1 2
    → (n ≡ (examine_of v p b r).refusal) × (b ≡ (examine_of v p b r).buffer) × (r ≡ (examine_of v p b r).report)
unfolding examine_of examine_rows
unlike v p b r f n e = by_cases (valid_volume v) (λ t. rw (t, f) (rw t at e, refl, refl)) (λ t. rw t (rw t at e, refl, refl))

-- ---- a report of three numbers: the rows are Inspect's

module _ (v : List ℕ) (p : ℕ) (b : List ℕ) where
  abbrev number : ℕ
  number = first_of (inspect_rows v p (length b))

  rows_same : (r : List ℕ) → length r ≡ 3 → first_of (examine_rows v p (length b) (length r)) ≡ number
  unfolding examine_rows inspect_rows
  rows_same r e = let q : eqb (length r) 3 ≡ true = eq-eqb (length r) 3 e in
      by_cases (valid_volume v) (λ t. rw (t, q)) (λ t. rw t)

  accepted : eqb number 0 ≡ true → refusal_of (inspect_of v p b).answer ≡ 0
  unfolding inspect_of
  accepted t = rw t

  refused : eqb number 0 ≡ false → ((inspect_of v p b).answer ≡ Refused number) × ((inspect_of v p b).buffer ≡ b)
  unfolding inspect_of
  refused t = rw t (refl, refl)

pub alike : (v : List ℕ) (p : ℕ) (b r : List ℕ) → length r ≡ 3 → (a : Answer) → a ≡ (inspect_of v p b).answer → (x y : List ℕ)
    → x ≡ (inspect_of v p b).buffer → y ≡ reported a r → (n : ℕ) → n ≡ refusal_of a
    → (n ≡ (examine_of v p b r).refusal) × (x ≡ (examine_of v p b r).buffer) × (y ≡ (examine_of v p b r).report)
unfolding examine_of
alike v p b r e a ea x y ex ey n en = rw (rows_same v p b r e) (by_cases (eqb (number v p b) 0)
    (λ t. rw t (en ∙ (ap refusal_of ea ∙ accepted v p b t), ex, rw (← ea) ey))
    (λ t.
    let q = refused v p b t in
    let o : a ≡ Refused (number v p b) = ea ∙ q.0 in
    rw t (en ∙ ap refusal_of o, ex ∙ q.1, ey ∙ ap (λ (z : Answer). reported z r) o)))

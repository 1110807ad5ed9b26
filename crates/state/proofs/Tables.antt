-- Laws of the frame table: the search for a page's frame, row by row.
use Prim.Native.Nat.{ℕ, suc, ◌+◌, ◌≤◌, ◌<◌}
use mathlib.Core.Path.{◌≡◌, ap, sym, ◌∙◌}
use mathlib.Core.List.{List, ◌∷◌}
use lib.ListN.{length, drop, get_or, drop_of_length-le}
use lib.Seq.{drop-cons}
use native.Mathlib.Numerals.{add-one}
use borrow.Author.Tests.{eq-eqb, ne_eqb}
use Rattle.laws.proofs.Tables.{when_true, when_false}
use Rattle.model.specs.State.{empty_frame, holder_from}
use Rattle.model.specs.declared.state.Frame.{Frame}

-- the search for the frame that holds page p: what the rows from i on give
module _ (p : ℕ) (fs : List Frame) (i : ℕ) (l : i < length fs) where
  unfold-row : holder_from i p (drop i fs) ≡ holder_from i p (get_or fs i empty_frame ∷ drop (suc i) fs)
  unfold-row = ap (λ (r : List Frame). holder_from i p r) (drop-cons fs i empty_frame l)

  pub holder-here : (get_or fs i empty_frame).page ≡ p → holder_from i p (drop i fs) ≡ i + 1
  unfolding holder_from
  holder-here e = unfold-row ∙ when_true _ _ (eq-eqb _ _ e) ∙ sym (add-one i)

  pub holder-later : ((get_or fs i empty_frame).page ≡ p → ⊥) → holder_from i p (drop i fs) ≡ holder_from (i + 1) p (drop (i + 1) fs)
  unfolding holder_from
  holder-later e = unfold-row ∙ when_false _ _ (ne_eqb _ _ e) ∙ rw add-one

pub holder-end : (p : ℕ) (fs : List Frame) (i : ℕ) → length fs ≤ i → holder_from i p (drop i fs) ≡ 0
unfolding holder_from
holder-end p fs i l = ap (λ (r : List Frame). holder_from i p r) (drop_of_length-le fs l)

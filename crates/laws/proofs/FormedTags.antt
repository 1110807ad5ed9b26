-- A state that is well formed for a volume that is no ring is well formed for the same counts under any tag.
use mathlib.Core.Path.{◌≡◌, refl, ◌∙◌}
use mathlib.Core.Bool.{Bool, true, false, cond, ◌||◌}
use mathlib.Core.List.{[], ◌∷◌}
use Prim.Native.Nat.{ℕ, ◌+◌, ◌≤◌}
use native.Mathlib.Omega.{arith}
use lib.Dec.{eqb, leb, ltb}
use borrow.Author.Tests.{lt-ltb}
use Rattle.laws.proofs.Tables.{all-at, all-holds}
use Rattle.laws.proofs.WellFormed.{formed, formed-note}
use Rattle.laws.proofs.Frames.{forms}
use Rattle.model.specs.Tables.{within}
use Rattle.model.specs.Geometry.{top_number, ring, most, most_notes, with_tag}
use Rattle.model.specs.Item.{note_layout, is_written}
use Rattle.model.specs.State.{pending_note_fits, frame_fits, entry_fits, page_fits, well_formed}
use Rattle.model.specs.declared.{geometry.Geometry.Geometry, state.State.State}
use Rattle.model.specs.Types.{PendingNote, None, Some}

-- a bound that may only rise
rises : (t : Bool) (n : ℕ) → n ≤ top_number → n ≤ cond t top_number n
rises true n h = h
rises false n h = omega arith

module _ (g : Geometry) (plain : ring g ≡ false) (l-high : g.records ≤ 1024) (n-high : g.notes ≤ 1024) (tag : ℕ) where
  pub most-rises : most g ≤ most (with_tag g tag)
  most-rises = rw plain (rises (ring (with_tag g tag)) g.records (omega arith))

  pub notes-rise : most_notes g ≤ most_notes (with_tag g tag)
  notes-rise = rw plain (rises (ring (with_tag g tag)) g.notes (omega arith))

  note-tag : (notes durable : ℕ) (y : PendingNote) → pending_note_fits g notes durable y ≡ true
      → pending_note_fits (with_tag g tag) notes durable y ≡ true
  unfolding pending_note_fits
  note-tag notes durable None h = refl
  note-tag notes durable (Some n) h =
      let tests = ltb notes (most_notes g) ∷ ltb 0 g.notes ∷ note_layout n ∷ eqb n.number (notes + 1) ∷ within g.pages n.page
      ∷ (is_written n || within g.slots n.slot) ∷ leb n.lsn durable ∷ [] in
      let f = formed-note g notes durable n h in
      all-holds
      (ltb notes (most_notes (with_tag g tag)) ∷ ltb 0 g.notes ∷ note_layout n ∷ eqb n.number (notes + 1) ∷ within g.pages n.page
      ∷ (is_written n || within g.slots n.slot) ∷ leb n.lsn durable ∷ []) (
        lt-ltb notes (most_notes (with_tag g tag)) (omega (arith, f.room, notes-rise)),
        (all-at tests 1 h, (all-at tests 2 h, (all-at tests 3 h, (all-at tests 4 h, (all-at tests 5 h, (all-at tests 6 h, tt)))))),
      )

  frame-tag : (frames : ℕ) (s : State) (i : ℕ) → frame_fits (with_tag g tag) frames s i ≡ frame_fits g frames s i
  unfolding frame_fits
  frame-tag frames s i = refl

  page-tag : (s : State) (i : ℕ) → page_fits (with_tag g tag) s i ≡ page_fits g s i
  unfolding page_fits entry_fits
  page-tag s i = refl

  pub formed-tag : (frames : ℕ) (s : State) → well_formed g frames s ≡ true → well_formed (with_tag g tag) frames s ≡ true
  formed-tag frames s h =
      let w = formed g frames s h in
      forms (with_tag g tag) frames s (record {
        room = omega (arith, w.room, most-rises);
        few = w.few;
        notes = omega (arith, w.notes, notes-rise);
        note = note-tag s.notes s.durable s.note w.note;
        table = λ i l. frame-tag frames s i ∙ w.table i l;
        pages = λ i l. page-tag s i ∙ w.pages i l;
      })

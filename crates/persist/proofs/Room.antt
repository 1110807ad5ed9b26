-- What is known once Write, Backup or Note is not refused and stores: the numbers, the frame, and the room in volume and memory.
use mathlib.Core.Path.{◌≡◌, refl, sym, ap, ◌∙◌}
use mathlib.Core.Bool.{Bool, true, false, ◌&&◌}
use mathlib.Core.List.{List, []}
use Prim.Native.Nat.{ℕ, ◌+◌, ◌≤◌, ◌<◌}
use native.Mathlib.Omega.{arith}
use lib.Dec.{eqb, leb}
use lib.ListN.{length, get_or}
use borrow.Author.Tests.{leb-false, eqb-false, not-false}
use Rattle.laws.proofs.Tables.{or-neither, none-at, within-bounds}
use Rattle.laws.proofs.Places.{valid-facts, place-fits, In}
use Rattle.laws.proofs.WellFormed.{Ready, ready, formed-note, holder-low, holder-high, holder-within, frame-within}
use Rattle.state.proofs.Slots.{most-notes-high, note-fits}
use Rattle.model.specs.Tables.{Row, first_of, within}
use Rattle.model.specs.Item.{image_lsn}
use Rattle.model.specs.Geometry.{most_notes, geometry_of, Place, page_at, slot_at, note_slot, width, start}
use Rattle.model.specs.State.{frame_count, frame_at, frame_bytes, notes_full, holder, held, pending_note_fits}
use Rattle.model.specs.Refusals.{state_rows, page_dirty, write_rows, backup_rows, write_tail, backup_tail}
use Rattle.model.specs.declared.{geometry.Geometry.Geometry, item.Note.Note}
use Rattle.model.specs.declared.state.State.{State}
use Rattle.model.specs.Types.{Some}

-- of an image that goes to a place; g is the code's geometry
pub record Room (v m : List ℕ) (s : State) (g : Geometry) (page : ℕ) (at : Place) : Type 0 where
  pub page-high : page ≤ 64
  pub frame-low : 1 ≤ holder s page
  pub frame-high : holder s page ≤ 16
  pub notes : s.notes < 4294967295
  pub frame : frame_at (holder s page) + 256 ≤ length m
  pub place : start g at + width at ≤ length v

module _ (v m : List ℕ) (s : State) (g : Geometry) (page : ℕ) (sixteen : length s.frames ≡ 16) (eg : g ≡ geometry_of v) where
  -- from the rows that both calls have
  opened : (rows : List Row) (at : Place) → Ready v m s rows → within (geometry_of v).pages page ≡ true → held s page ≡ true
      → notes_full (geometry_of v) v s ≡ false
      → In (geometry_of v) at
      → Room v m s g page at
  unfolding notes_full
  opened rows at k hp hh hn inside =
      let h = geometry_of v in
      let n = frame_count (length m) in
      let f = valid-facts v k.volume in
      let w = within-bounds h.pages page hp in
      let l : s.notes < most_notes h =
      leb-false (most_notes h) s.notes (or-neither (leb (most_notes h) s.notes) _ (or-neither (eqb h.notes 0) _ hn).1).0 in
      let low = holder-low h n s k.state sixteen page hh in
      record {
        page-high = omega (arith, w.1, f.p-high);
        frame-low = low;
        frame-high = holder-high h n s k.state sixteen page hh;
        notes = omega (arith, l, most-notes-high v h k.volume refl);
        frame = frame-within m k.memory (holder s page) low (holder-within h n s k.state sixteen page hh w.0);
        place = rw eg (place-fits h v f.size at inside);
      }

  pub write-room : first_of (write_rows v m s page) ≡ 0 → page_dirty s page ≡ true → Room v m s g page (page_at page)
  unfolding write_rows
  write-room h d =
      let rows = write_tail (geometry_of v) v s page (holder s page) (image_lsn (frame_bytes m (holder s page))) in
      let k = ready v m s rows h in
      let none : (i : ℕ) → (get_or rows i (false, 0)).0 ≡ false =
      none-at rows (eqb-false 3 0 refl, (eqb-false 8 0 refl, (eqb-false 13 0 refl, (eqb-false 14 0 refl, (eqb-false 15 0 refl, tt)))))
      k.rest in
      let hp : within (geometry_of v).pages page ≡ true = not-false _ (none 0) in
      opened rows (page_at page) k hp (not-false _ (none 1))
      (sym (ap (λ (b : Bool). b && notes_full (geometry_of v) v s) d) ∙ none 3)
      (within-bounds (geometry_of v).pages page hp)

  -- the slot, and the room of Backup
  pub backup-room : (slot : ℕ) → first_of (backup_rows v m s page slot) ≡ 0 → (slot ≤ 255) × Room v m s g page (slot_at slot)
  unfolding backup_rows
  backup-room slot h =
      let rows = backup_tail (geometry_of v) v s page slot (holder s page) (image_lsn (frame_bytes m (holder s page))) in
      let k = ready v m s rows h in
      let none : (i : ℕ) → (get_or rows i (false, 0)).0 ≡ false =
      none-at rows (
        eqb-false 3 0 refl,
        (
          eqb-false 5 0 refl,
          (eqb-false 8 0 refl, (eqb-false 13 0 refl, (eqb-false 14 0 refl, (eqb-false 15 0 refl, (eqb-false 16 0 refl, tt))))),
        ),
      )
      k.rest in
      let w = within-bounds (geometry_of v).slots slot (not-false _ (none 1)) in (
        omega (arith, w.1, (valid-facts v k.volume).b-high),
        opened rows (slot_at slot) k (not-false _ (none 0)) (not-false _ (none 2)) (none 4) w,
      )

-- of a note
pub record NoteRoom (v : List ℕ) (s : State) (g : Geometry) (n : Note) : Type 0 where
  pub page-low : 1 ≤ n.page
  pub page-high : n.page ≤ 64
  pub slots : 1 ≤ g.notes
  pub notes : s.notes < 4294967295
  pub place : start g (note_slot g (s.notes + 1)) + 16 ≤ length v

pub note-room : (v m : List ℕ) (s : State) (g : Geometry) (n : Note) → g ≡ geometry_of v → first_of (state_rows v m s []) ≡ 0 → s.note
    ≡ Some n → NoteRoom v s g n
note-room v m s g n eg h e =
    let k = ready v m s [] h in
    let f = valid-facts v k.volume in
    let w = formed-note (geometry_of v) s.notes s.durable n
    (sym (ap (pending_note_fits (geometry_of v) s.notes s.durable) e) ∙ k.state.note) in
    let some : 1 ≤ g.notes = rw eg w.slots in
    record {
      page-low = w.low;
      page-high = omega (arith, w.high, f.p-high);
      slots = some;
      notes = omega (arith, w.room, most-notes-high v (geometry_of v) k.volume refl);
      place = note-fits v g k.volume eg some (s.notes + 1);
    }

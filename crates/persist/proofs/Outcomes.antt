-- What the definitions of Write, Backup and Note say in each of their cases.
use mathlib.Core.Path.{◌≡◌, refl, sym, ap, ◌∙◌}
use mathlib.Core.Bool.{Bool, true, false}
use mathlib.Core.List.{List, []}
use Prim.Native.Nat.{ℕ, ◌+◌}
use Rattle.laws.proofs.Tables.{when_true, when_false}
use Rattle.laws.proofs.Gives.{Gives, gives-is, refused, passed, idle}
use Rattle.model.specs.Tables.{first_of}
use Rattle.model.specs.Bytes.{splice}
use Rattle.model.specs.Checksum.{seal_image}
use Rattle.model.specs.Item.{image_lsn, note_bytes}
use Rattle.model.specs.Geometry.{Place, page_at, slot_at, note_slot, start, store, geometry_of}
use Rattle.model.specs.State.{frame_bytes, frame_of, holder}
use Rattle.model.specs.Refusals.{state_rows, page_dirty, write_rows, backup_rows, note_rows}
use Rattle.model.specs.Outcome.{one_item, unchanged, decided, volume_after}
use Rattle.model.specs.Effects.{with_frame, with_frames, next_note, noted_state, note_stored, backup_done, write_outcome}
use Rattle.model.specs.Calls.{write_of, backup_of, note_call}
use Rattle.model.specs.declared.{geometry.Geometry.Geometry, item.Note.Note, state.Frame.Frame, state.State.State}
use Rattle.model.specs.declared.answer.Answer.TheVariants.{Refused, Nothing, Done}
use Rattle.model.specs.Types.{None, Some}

-- an item stored at a place; the code's geometry and offset
stored : (v m : List ℕ) (t u : State) (g : Geometry) (k : ℕ) (w x y : List ℕ) (at : Place) → t ≡ u → x ≡ y → g ≡ geometry_of v → k
    ≡ start g at
    → w ≡ splice v k x
    → Gives v Done t w (record { answer = Done; state = u; memory = m; stored = one_item at y })
unfolding volume_after store
stored v m t u g k w x y at et ex eg ek ew =
    (ap (λ (q : State). record { answer = Done; state = q }) et, ew ∙ rw (ek, eg, ex))

-- ---- Write and Backup: f is the code's frame, lsn its page lsn
module _ (v m : List ℕ) (s : State) (page : ℕ) where
  pub write-refused : (n : ℕ) → n ≡ first_of (write_rows v m s page) → (n ≡ 0 → ⊥) → Gives v (Refused n) s v (write_of v m s page)
  unfolding decided write_outcome
  write-refused n = refused v m s (write_rows v m s page) _ n

  pub backup-refused : (slot n : ℕ) → n ≡ first_of (backup_rows v m s page slot) → (n ≡ 0 → ⊥) → Gives v (Refused n) s v
      (backup_of v m s page slot)
  unfolding decided backup_done
  backup-refused slot n = refused v m s (backup_rows v m s page slot) _ n

  -- the code's frame says whether the page is dirty
  pub dirty-is : (f : ℕ) (x : Frame) (b : Bool) → f ≡ holder s page → x ≡ frame_of s f → x.dirty ≡ b → page_dirty s page ≡ b
  dirty-is f x b ef ex e = ap (λ (i : ℕ). (frame_of s i).dirty) (sym ef) ∙ ap (λ (y : Frame). y.dirty) (sym ex) ∙ e

  pub write-idle : first_of (write_rows v m s page) ≡ 0 → page_dirty s page ≡ false → Gives v Nothing s v (write_of v m s page)
  unfolding decided write_outcome
  write-idle e d = gives-is v Nothing s v (unchanged Nothing m s) _ (sym (when_false _ _ d) ∙ passed v m s (write_rows v m s page) _ e)
      (idle v m s)

  module _ (g : Geometry) (f lsn k : ℕ) (t : State) (w : List ℕ) (eg : g ≡ geometry_of v) (ef : f ≡ holder s page)
      (el : lsn ≡ image_lsn (frame_bytes m f))
      (ew : w ≡ splice v k (seal_image g (frame_bytes m f))) where
    image-is : seal_image g (frame_bytes m f) ≡ seal_image (geometry_of v) (frame_bytes m (holder s page))
    image-is = ap (λ (i : ℕ). seal_image g (frame_bytes m i)) ef ∙ ap (λ (h : Geometry). seal_image h (frame_bytes m (holder s page))) eg

    pub write_done : first_of (write_rows v m s page) ≡ 0 → page_dirty s page ≡ true → k ≡ start g (page_at page)
        → t ≡ with_frames s (with_frame s f page false) (next_note s page 1 0 lsn)
        → Gives v Done t w (write_of v m s page)
    unfolding decided write_outcome
    write_done e d ek et =
        gives-is v Done t w _ _ (sym (when_true _ _ d) ∙ passed v m s (write_rows v m s page) _ e)
        (stored v m t _ g k w (seal_image g (frame_bytes m f)) _ (page_at page) (et ∙ rw (el, ef)) image-is eg ek ew)

    pub backup-done : (slot : ℕ) → first_of (backup_rows v m s page slot) ≡ 0 → k ≡ start g (slot_at slot)
        → t ≡ with_frames s s.frames (next_note s page 2 slot lsn)
        → Gives v Done t w (backup_of v m s page slot)
    unfolding decided backup_done
    backup-done slot e ek et =
        gives-is v Done t w _ _ (passed v m s (backup_rows v m s page slot) _ e)
        (stored v m t _ g k w (seal_image g (frame_bytes m f)) _ (slot_at slot) (et ∙ rw (el, ef)) image-is eg ek ew)

-- ---- Note
module _ (v m : List ℕ) (s : State) where
  pub note-refused : (n : ℕ) → n ≡ first_of (state_rows v m s []) → (n ≡ 0 → ⊥) → Gives v (Refused n) s v (note_call v m s)
  unfolding decided note_rows
  note-refused n = refused v m s (state_rows v m s []) _ n

  pub note-idle : first_of (state_rows v m s []) ≡ 0 → s.note ≡ None → Gives v Nothing s v (note_call v m s)
  unfolding decided note_rows
  note-idle e d =
      gives-is v Nothing s v (unchanged Nothing m s) _ (sym (ap (note_stored v m s) d) ∙ passed v m s (state_rows v m s []) _ e) (idle v m s)

  pub note-done : (n : Note) (g : Geometry) (k : ℕ) (t : State) (w : List ℕ) → first_of (state_rows v m s []) ≡ 0 → s.note ≡ Some n → g
      ≡ geometry_of v
      → k ≡ start g (note_slot g (s.notes + 1))
      → t ≡ noted_state s n
      → w ≡ splice v k (note_bytes n)
      → Gives v Done t w (note_call v m s)
  unfolding decided note_rows
  note-done n g k t w e d eg ek et ew =
      gives-is v Done t w _ _ (sym (ap (note_stored v m s) d) ∙ passed v m s (state_rows v m s []) _ e)
      (stored v m t _ g k w (note_bytes n) _ (note_slot (geometry_of v) (s.notes + 1)) et refl eg
      (ek ∙ ap (λ (h : Geometry). start g (note_slot h (s.notes + 1))) eg) ew)

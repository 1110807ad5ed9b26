-- The refusals of Write and Backup: the code's tests come to the rows of their tables.
use mathlib.Core.Path.{◌≡◌, ◌∙◌}
use mathlib.Core.Bool.{Bool, true, false, cond}
use mathlib.Core.List.{List, []}
use Prim.Native.Nat.{ℕ}
use lib.Dec.{ltb}
use Rattle.state.proofs.Fits.{refusal-first, refusal-last}
use Rattle.model.specs.Tables.{Row, first_of, within}
use Rattle.model.specs.Item.{image_lsn}
use Rattle.model.specs.Index.{slot_used}
use Rattle.model.specs.Geometry.{geometry_of}
use Rattle.model.specs.State.{frame_bytes, note_pending, notes_full, holder}
use Rattle.model.specs.Refusals.{state_rows, write_rows, backup_rows, note_tail, write_tail, backup_tail}
use Rattle.model.specs.declared.{geometry.Geometry.Geometry, state.State.State}

module _ (v m : List ℕ) (s : State) (n page : ℕ) (e : n ≡ first_of (state_rows v m s [])) where
  abbrev write_own : List Row
  write_own = write_tail (geometry_of v) v s page (holder s page) (image_lsn (frame_bytes m (holder s page)))

  abbrev backup_own : ℕ → List Row
  backup_own slot = backup_tail (geometry_of v) v s page slot (holder s page) (image_lsn (frame_bytes m (holder s page)))

  pub write-first : (n ≡ 0 → ⊥) → n ≡ first_of (write_rows v m s page)
  unfolding write_rows
  write-first = refusal-first v m s write_own n e

  pub backup-first : (slot : ℕ) → (n ≡ 0 → ⊥) → n ≡ first_of (backup_rows v m s page slot)
  unfolding backup_rows
  backup-first slot = refusal-first v m s (backup_own slot) n e

  module _ (g : Geometry) (f lsn r : ℕ) (z : n ≡ 0) (eg : g ≡ geometry_of v) (ef : f ≡ holder s page)
      (el : lsn ≡ image_lsn (frame_bytes m f)) where
    pub write-rows : r ≡ first_of (write_tail g v s page f lsn) → r ≡ first_of (write_rows v m s page)
    unfolding write_rows
    write-rows er = refusal-last v m s write_own n r e z (er ∙ rw (el, ef, eg))

    pub backup-rows : (slot : ℕ) → r ≡ first_of (backup_tail g v s page slot f lsn) → r ≡ first_of (backup_rows v m s page slot)
    unfolding backup_rows
    backup-rows slot er = refusal-last v m s (backup_own slot) n r e z (er ∙ rw (el, ef, eg))

-- where a row of the note's holds, those behind it are not looked at
note-first : (a b c : Bool) (n rest : ℕ) → n ≡ cond a 13 (cond b 14 (cond c 15 0)) → (n ≡ 0 → ⊥) → n ≡ cond a 13 (cond b 14 (cond c 15 rest))
note-first true b c n rest e ne = e
note-first false true c n rest e ne = e
note-first false false true n rest e ne = e
note-first false false false n rest e ne = absurd (ne e)

pub backup-noted : (g : Geometry) (v : List ℕ) (s : State) (page slot f lsn n : ℕ) → within g.pages page ≡ true → within g.slots slot ≡ true
    → ltb 0 f ≡ true → n ≡ first_of (note_tail g v s true lsn []) → (n ≡ 0 → ⊥) → n ≡ first_of (backup_tail g v s page slot f lsn)
backup-noted g v s page slot f lsn n ep es ef en ne =
    rw (ep, es, ef) (note-first (note_pending s.note) (notes_full g v s) (ltb s.durable lsn) n (cond (slot_used slot s.index) 16 0) en ne)

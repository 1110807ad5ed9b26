-- What a call does not touch: Begin, Load, Change and Release leave the volume as it was, Force, Write, Backup, Release, Note and the
-- three that carry a volume over the memory.
use Prim.Native.Nat.{ℕ}
use mathlib.Core.Path.{◌≡◌, refl}
use mathlib.Core.Bool.{Bool, cond}
use mathlib.Core.List.{List}
use lib.Dec.{eqb, ltb}
use Rattle.laws.proofs.Tables.{by_cases}
use Rattle.model.specs.Tables.{Row, first_of}
use Rattle.model.specs.Outcome.{nothing, Outcome, volume_after, decided}
use Rattle.model.specs.Effects.{note_stored, backup_done, begin_done, change_done, force_done, load_done, release_done, restamp_done, write_outcome}
use Rattle.model.specs.Calls.{begin_of, load_of, change_call, force_of, write_of, backup_of, release_of, note_call}
use Rattle.model.specs.Calls.{start_carry_of, restamp_of, finish_carry_of}
use Rattle.model.specs.Refusals.{begin_rows, load_rows, change_rows, force_rows, write_rows, backup_rows, release_rows}
use Rattle.model.specs.Refusals.{note_rows, start_carry_rows, restamp_rows, finish_carry_rows, page_dirty}
use Rattle.model.specs.Geometry.{geometry_of}
use Rattle.model.specs.Passes.{image_count, first_old}
use Rattle.model.specs.declared.change.Change.{Change}
use Rattle.model.specs.declared.state.State.{State}
use Rattle.model.specs.Types.{PendingNote, None, Some}

module _ (v m : List ℕ) (s : State) where
  -- a call that stores nothing where it is not refused
  same-volume : (rows : List Row) (done : Outcome) → done.stored ≡ nothing → v ≡ volume_after v (decided rows m s done).stored
  unfolding volume_after decided
  same-volume rows done e = by_cases (eqb (first_of rows) 0) (λ t. rw (t, e)) (λ t. rw t)

  -- a call that leaves the memory where it is not refused
  same_memory : (rows : List Row) (done : Outcome) → done.memory ≡ m → m ≡ (decided rows m s done).memory
  unfolding decided
  same_memory rows done e = by_cases (eqb (first_of rows) 0) (λ t. rw (t, e)) (λ t. rw t)

  pub begin-volume : (page frame fill : ℕ) → v ≡ volume_after v (begin_of v m s page frame fill).stored
  unfolding decided begin_done
  begin-volume page frame fill = same-volume (begin_rows v m s page frame) _ refl

  pub load-volume : (page frame : ℕ) → v ≡ volume_after v (load_of v m s page frame).stored
  unfolding decided load_done
  load-volume page frame = same-volume (load_rows v m s page frame) _ refl

  pub change-volume : (page : ℕ) (c : Change) (payload : List ℕ) → v ≡ volume_after v (change_call v m s page c payload).stored
  unfolding decided change_done
  change-volume page c payload = same-volume (change_rows v m s page c) _ refl

  -- one of two outcomes that leave the memory
  either : (t : Bool) (a b : Outcome) → a.memory ≡ m → b.memory ≡ m → (cond t a b).memory ≡ m
  either t a b p q = by_cases t (λ e. rw (e, p)) (λ e. rw (e, q))

  pub force-memory : m ≡ (force_of v m s).memory
  unfolding decided force_done
  force-memory = same_memory (force_rows v m s) _ (either (eqb s.pending 0) _ _ refl refl)

  pub write-memory : (page : ℕ) → m ≡ (write_of v m s page).memory
  unfolding decided write_outcome
  write-memory page = same_memory (write_rows v m s page) _ (either (page_dirty s page) _ _ refl refl)

  pub backup-memory : (page slot : ℕ) → m ≡ (backup_of v m s page slot).memory
  unfolding decided backup_done
  backup-memory page slot = same_memory (backup_rows v m s page slot) _ refl

  pub release-volume : (page : ℕ) → v ≡ volume_after v (release_of v m s page).stored
  unfolding decided release_done
  release-volume page = same-volume (release_rows v m s page) _ refl

  pub release-memory : (page : ℕ) → m ≡ (release_of v m s page).memory
  unfolding decided release_done
  release-memory page = same_memory (release_rows v m s page) _ refl

  noted : (p : PendingNote) → (note_stored v m s p).memory ≡ m
  noted None = refl
  noted (Some n) = refl

  pub note-memory : m ≡ (note_call v m s).memory
  unfolding decided
  note-memory = same_memory (note_rows v m s) _ (noted s.note)

  pub start-carry-memory : m ≡ (start_carry_of v m s).memory
  unfolding decided
  start-carry-memory = same_memory (start_carry_rows v m s) _ refl

  pub restamp-memory : m ≡ (restamp_of v m s).memory
  unfolding decided restamp_done
  restamp-memory =
      same_memory (restamp_rows v m s) _ (either (ltb (first_old (geometry_of v) v s.index) (image_count (geometry_of v))) _ _ refl refl)

  pub finish-carry-memory : m ≡ (finish_carry_of v m s).memory
  unfolding decided
  finish-carry-memory = same_memory (finish_carry_rows v m s) _ refl

-- T2: what each of upkeep's calls leaves, where it is not refused: the next state, and a volume with the same notes.
use mathlib.Core.Path.{◌≡◌, refl, ap}
use mathlib.Core.Bool.{Bool, true, false}
use mathlib.Core.List.{List}
use Prim.Native.Nat.{ℕ, suc, ◌+◌, ◌-◌, ◌≤◌}
use native.Mathlib.Numerals.{add-one}
use native.Mathlib.Omega.{arith}
use lib.ListN.{length}
use borrow.Author.Tests.{ne_eqb}
use Rattle.laws.proofs.Search.{count_same}
use Rattle.laws.proofs.Ring.{slot-in}
use Rattle.laws.proofs.WellFormed.{memory-facts, pending-length}
use Rattle.model.specs.Tables.{first_of}
use Rattle.model.specs.Bytes.{field}
use Rattle.model.specs.Geometry.{geometry_of, note_at, item, store, slot_of, log_slot, note_slot}
use Rattle.model.specs.Item.{image_lsn, note_of, note_bytes}
use Rattle.model.specs.Scan.{note_record}
use Rattle.model.specs.State.{pending_bytes, holder, frame_bytes}
use Rattle.model.specs.Refusals.{page_dirty, load_rows, change_rows, force_rows, write_rows, backup_rows, note_rows}
use Rattle.model.specs.Outcome.{StoredItem, volume_after, decided}
use Rattle.model.specs.Effects.{note_stored, with_frame, with_frames, appended_state, forced_state, noted_state, backup_done}
use Rattle.model.specs.Effects.{change_done, force_done, load_done, write_outcome}
use Rattle.model.specs.Calls.{Call, outcome_of, no_payload}
use Rattle.model.specs.declared.{change.Change.TheVariants.Put, geometry.Geometry.Geometry, item.Note.Note}
use Rattle.model.specs.declared.{state.Frame.Frame, state.State.State}
use Rattle.model.specs.declared.command.Command.TheVariants.{Load, Force, Write}
use Rattle.model.specs.declared.command.Command.TheVariants.{Backup, Note as NoteCall}
use Rattle.model.specs.AbstractLog.{Logged}
use Rattle.history.proofs.Images.{sealed-size}
use Rattle.history.proofs.Persists.{writes, backs}
use Rattle.history.proofs.Context.{Ctx, geo}
use Rattle.history.proofs.WellFormed.{memory-ok}
use Rattle.upkeep_policy.specs.Upkeep.{refresh}
use Rattle.upkeep_theory.proofs.Shift.{log-notes}
use Rattle.upkeep_theory.proofs.Tidy.{since_written}
use Rattle.upkeep_theory.proofs.Apart.{apart-page, apart-slot}
use Rattle.upkeep_theory.proofs.Load.{moved}
use Rattle.model.specs.Types.{PendingNote, None, Some}

-- the same notes
pub record SameNotes (g : Geometry) (v v' : List ℕ) : Type 0 where
  pub same : (a : ℕ) → note_record g v' (suc a) ≡ note_record g v (suc a)

pub since-same : (g : Geometry) (v v' : List ℕ) → SameNotes g v v' → (k k0 : ℕ)
    → since_written g v' k k0 ≡ since_written g v k k0
since-same g v v' y k k0 = count_same _ _ (k - k0) (λ i b. rw (y.same (k0 + i)))

by-items : (g : Geometry) (v v' : List ℕ) → 1 ≤ g.notes
    → ((j : ℕ) → 1 ≤ j → j ≤ g.notes → item g v' (note_at j) ≡ item g v (note_at j)) → SameNotes g v v'
by-items g v v' one h =
    record { same = λ a. ap note_of (let q = slot-in g.notes a one in h (slot_of g.notes (suc a)) q.0 q.1) }

-- the state and the volume after a call, and the memory's size
abbrev pub state_of : Call → List ℕ → List ℕ → State → State
state_of c v m s = (outcome_of c v m s).state

abbrev pub volume_of : Call → List ℕ → List ℕ → State → List ℕ
volume_of c v m s = volume_after v (outcome_of c v m s).stored

pub record OweOut (g : Geometry) (v m : List ℕ) (s : State) (c : Call) (p kind : ℕ) : Type 0 where
  pub frames : List Frame
  pub noting : Note
  pub state-is : (outcome_of c v m s).state ≡ with_frames s frames (Some noting)
  pub page-is : noting.page ≡ p
  pub kind-is : noting.kind ≡ kind
  pub same : SameNotes g v (volume_after v (outcome_of c v m s).stored)
  pub memory-is : (outcome_of c v m s).memory ≡ m

module _ {C : Type 0} {g : Geometry} {v m : List ℕ} {past : List StoredItem} {s : State} {k w : List Logged}
    (x : Ctx C g v m past s k w) (l2 : 2 ≤ g.records) (n2 : 2 ≤ g.notes) where
  pub load-out : (p r : ℕ) → first_of (load_rows v m s p r) ≡ 0
      → ((d : Bool) × ((outcome_of (Load p r, no_payload) v m s).state ≡ moved s p r d))
      × (volume_after v (outcome_of (Load p r, no_payload) v m s).stored ≡ v)
  unfolding decided load_done volume_after
  load-out p r e = rw e ((_, refl), refl)

  pub put-out : (p : ℕ) → first_of (change_rows v m s p (Put 0 1)) ≡ 0
      → ((outcome_of (refresh m s p) v m s).state ≡ appended_state s p (holder s p))
      × (volume_after v (outcome_of (refresh m s p) v m s).stored ≡ v)
  unfolding decided change_done volume_after
  put-out p e = rw e (refl, refl)

  pub force-out : 1 ≤ s.pending → first_of (force_rows v m s) ≡ 0
      → ((outcome_of (Force, no_payload) v m s).state ≡ forced_state s g.pages (field 2 8 (pending_bytes m (suc s.durable))))
      × (volume_after v (outcome_of (Force, no_payload) v m s).stored ≡ store g v (log_slot g (suc s.durable))
      (pending_bytes m (suc s.durable)))
      × ((outcome_of (Force, no_payload) v m s).memory ≡ m)
  unfolding decided force_done volume_after
  force-out b e =
      let a1 : s.durable + 1 ≡ suc s.durable = add-one s.durable in
      rw (e, ne_eqb s.pending 0 (λ z. omega arith), geo x, a1) (refl, refl, refl)

  pub bytes-size : length (pending_bytes m (suc s.durable)) ≡ 64
  bytes-size = pending-length m (memory-facts m (memory-ok x)) (suc s.durable)

  pub force-notes : SameNotes g v (store g v (log_slot g (suc s.durable)) (pending_bytes m (suc s.durable)))
  force-notes = by-items g v _ (omega arith) (log-notes g v x.hs.vol (omega arith) s.durable _ bytes-size)

  pub write-out : (p : ℕ) → first_of (write_rows v m s p) ≡ 0 → page_dirty s p ≡ true → OweOut g v m s (Write p, no_payload) p 1
  unfolding decided write_outcome volume_after
  write-out p e d =
      let q = writes x p e in let rd = q.ready d in let fo = q.frame-of in
      let ap' = apart-page g v x.hs.vol p fo.framed.low fo.framed.high _ (sealed-size x p fo rd.2) in
      record {
        frames = with_frame s (holder s p) p false;
        noting = record {
          number = s.notes + 1;
          page = p;
          kind = 1;
          slot = 0;
          lsn =
              image_lsn (frame_bytes m (holder s p));
        };
        state-is = rw (e, d) refl;
        page-is = refl;
        kind-is = refl;
        same = rw (e, d, geo x) (by-items g v _ (omega arith) ap'.notes);
        memory-is = rw (e, d) refl;
      }

  pub backup-out : (p b : ℕ) → first_of (backup_rows v m s p b) ≡ 0 → OweOut g v m s (Backup p b, no_payload) p 2
  unfolding decided backup_done volume_after
  backup-out p b e =
      let q = backs x p b e in let fo = q.frame-of in
      let ap' = apart-slot g v x.hs.vol b q.slot-low q.slot-high _ (sealed-size x p fo q.forced-to) in
      record {
        frames = s.frames;
        noting = record {
          number = s.notes + 1;
          page = p;
          kind = 2;
          slot = b;
          lsn =
              image_lsn (frame_bytes m (holder s p));
        };
        state-is = rw e refl;
        page-is = refl;
        kind-is = refl;
        same = rw (e, geo x) (by-items g v _ (omega arith) ap'.notes);
        memory-is = rw e refl;
      }

  note-of : (n : Note) (y : PendingNote) → y ≡ Some n
      → ((note_stored v m s y).state ≡ noted_state s n)
      × (volume_after v (note_stored v m s y).stored ≡ store (geometry_of v) v (note_slot (geometry_of v) (s.notes + 1))
      (note_bytes n))
      × ((note_stored v m s y).memory ≡ m)
  unfolding volume_after
  note-of n None e = let z : ◌≡◌ {A = ℕ} 0 1 = cc in absurd (omega arith)
  note-of n (Some y) e = let z : y ≡ n = cc in rw z (refl, refl, refl)

  pub note-out : (n : Note) → s.note ≡ Some n → first_of (note_rows v m s) ≡ 0
      → ((outcome_of (NoteCall, no_payload) v m s).state ≡ noted_state s n)
      × (volume_after v (outcome_of (NoteCall, no_payload) v m s).stored ≡ store g v (note_slot g (suc s.notes)) (note_bytes n))
      × ((outcome_of (NoteCall, no_payload) v m s).memory ≡ m)
  unfolding decided
  note-out n noting e =
      let a1 : s.notes + 1 ≡ suc s.notes = add-one s.notes in
      rw e (rw (geo x, a1) at (note-of n s.note noting))

-- A run that goes on: no call was refused so far, and the tally holds. Each call that has room keeps it so.
use mathlib.Core.Path.{◌≡◌, refl, sym, ap, ◌∙◌, subst}
use mathlib.Core.Bool.{true, false, not}
use mathlib.Core.List.{List, [], ◌∷◌}
use Prim.Native.Nat.{ℕ, ◌+◌, ◌≤◌}
use native.Mathlib.Omega.{arith}
use lib.ListN.{length, replicate}
use lib.Dec.{eqb}
use borrow.Author.Tests.{eq-eqb}
use Rattle.laws.proofs.Tables.{by_cases, true-not-false}
use Rattle.model.specs.Tables.{first_of}
use Rattle.model.specs.Bytes.{field, splice}
use Rattle.model.specs.Checksum.{seal_image}
use Rattle.model.specs.Change.{apply_change}
use Rattle.model.specs.Geometry.{page_at, slot_at, log_slot, note_slot, geometry_of}
use Rattle.model.specs.Item.{image_page, image_lsn, image_body, frame_image, record_of, note_bytes}
use Rattle.model.specs.Repair.{repair_of, rebuilt, class_in, state_view}
use Rattle.model.specs.State.{pending_bytes, frame_at, frame_bytes, last_number, holder}
use Rattle.model.specs.Refusals.{page_dirty}
use Rattle.model.specs.Outcome.{StoredItem, nothing, one_item, Outcome, volume_after, unchanged, decided}
use Rattle.model.specs.Effects.{with_frame, with_frames, appended_state, appended_memory, changed_image, is_good, next_note}
use Rattle.model.specs.Effects.{forced_state, noted_state, backup_done, begin_done, change_done, force_done, load_done}
use Rattle.model.specs.Effects.{release_done, write_outcome}
use Rattle.model.specs.Calls.{Call, rows_of, outcome_of, no_payload}
use Rattle.model.specs.declared.{geometry.Geometry.Geometry, change.Change.Change}
use Rattle.model.specs.declared.state.State.{State}
use Rattle.model.specs.declared.command.Command.TheVariants.{Begin, Load, Force, Write, Release}
use Rattle.model.specs.declared.answer.Answer.TheVariants.{Nothing, Done, Repaired}
use Rattle.model.specs.declared.command.Command.TheVariants.{Change as ChangeCall, Backup, Note}
use Rattle.model.specs.AbstractLog.{Logged, AbstractLog, step_call}
use Rattle.model.specs.Carry.{carries}
use Rattle.model.specs.History.{Power, off, on, is_restamp, payload_fits}
use Rattle.planning.specs.Rehearsal.{page_row, set_row, with_load, with_record, one_image, one_backup}
use Rattle.planning.specs.RehearsalRun.{Played, answer_count, stored_count, play_call}
use Rattle.model.specs.declared.change.Change.TheVariants.{Format}
use Rattle.planning.specs.declared.rehearsal.Settings.{Settings}
use Rattle.planning.specs.declared.rehearsal.Figures.{Figures}
use Rattle.history.proofs.Leaf.{valid-page}
use Rattle.history.proofs.Inv.{PendingOk}
use Rattle.history.proofs.Context.{Ctx, sized, geo}
use Rattle.history.proofs.Images.{sealed-valid}
use Rattle.history.proofs.Persists.{backs}
use Rattle.planning_theory.proofs.Play.{Run, run-as, ctx-as}
use Rattle.planning_theory.proofs.Relation.{row_same}
use Rattle.planning_theory.proofs.Taken.{taken-call, note-free, force-free}
use Rattle.planning_theory.proofs.StoreSteps.{read}
use Rattle.planning_theory.proofs.Tally.{Tally, preserved-same, preserved-row, pending-same, tally-any}
use Rattle.planning_theory.proofs.Tally.{tally-frames, splice-grows, tally-appended, tally-forced, tally-noted}
use Rattle.model.specs.Types.{PendingNote, None, Some}

pub record Going (C : Type 0) (g : Geometry) (t : Settings) (b : ℕ) (r : Played) : Type 0 where
  pub volume : List ℕ
  pub memory : List ℕ
  pub past : List StoredItem
  pub state : State
  pub figures : List Figures
  pub durable : List Logged
  pub pending : List Logged
  pub run_is : r ≡ Run volume memory past state figures
  pub ctx : Ctx C g volume memory past state durable pending
  pub tally : Tally t b memory state figures

pub not-refused : {C : Type 0} {g : Geometry} {t : Settings} {b : ℕ} {r : Played} → Going C g t b r → r.refused ≡ false
not-refused a = ap (λ (y : Played). y.refused) a.run_is

pub going : {C : Type 0} {g : Geometry} {v m : List ℕ} {past : List StoredItem} {s : State} {k w : List Logged} (x : Ctx C g v m past s k w)
    (t : Settings) (b : ℕ) (fs : List Figures) → Tally t b m s fs → Going C g t b (Run v m past s fs)
going {C} {g} {v} {m} {past} {s} {k} {w} x t b fs y =
    record {
      volume = v;
      memory = m;
      past = past;
      state = s;
      figures = fs;
      durable = k;
      pending = w;
      run_is = refl;
      ctx = x;
      tally = y;
    }

-- slot b need not stay free
pub going-any : {C : Type 0} {g : Geometry} {t : Settings} {b : ℕ} {r : Played} → Going C g t b r → Going C g t 0 r
going-any {C} {g} {t} {b} {r} a =
    subst (λ (u : Played). Going C g t 0 u) (sym a.run_is) (going a.ctx t 0 a.figures (tally-any a.tally))

-- the tally of a run whose parts are known
pub tally-of : {C : Type 0} {g : Geometry} {t : Settings} {b : ℕ} {r : Played} → Going C g t b r
    → (v m : List ℕ) (past : List StoredItem) (s : State) (fs : List Figures) → r ≡ Run v m past s fs → Tally t b m s fs
tally-of {C} {g} {t} {b} {r} a v m past s fs e =
    let q : Run a.volume a.memory a.past a.state a.figures ≡ Run v m past s fs = sym a.run_is ∙ e in
    subst (λ (y : Played). TallyIn y.machine.power y.figures) q a.tally
  where
    TallyIn : Power → List Figures → Type 0
    TallyIn off l = Unit {0}
    TallyIn (on m₁ s₁) l = Tally t b m₁ s₁ l

-- ---- the calls

module _ {C : Type 0} {g : Geometry} {v m : List ℕ} {past : List StoredItem} {s : State} {k w : List Logged} (x : Ctx C g v m past s k w)
    (t : Settings) (b : ℕ) (fs : List Figures) (y : Tally t b m s fs) where
  abbrev run : Played
  run = Run v m past s fs

  goes : (c : Call) → carries c ≡ false → is_restamp c ≡ false → payload_fits c ≡ true → first_of (rows_of c v m s) ≡ 0 → (o : Outcome)
      → outcome_of c v m s ≡ o
      → Tally t b o.memory o.state (answer_count c o.answer (stored_count o.stored fs))
      → Going C g t b (play_call (Run v m past s fs) c)
  goes c nc nr pf rows o e z =
      let no = taken-call v m past s fs c rows in
      let l : AbstractLog = step_call (record { durable = k; pending = w }) c in
      record {
        volume = volume_after v o.stored;
        memory = o.memory;
        past = o.stored ∷ past;
        state = o.state;
        figures = answer_count c o.answer (stored_count o.stored fs);
        durable = l.durable;
        pending = l.pending;
        run_is = run-as v m past s fs c no nr o e;
        ctx = ctx-as v m past s fs c no x nc pf o e l.durable l.pending refl;
        tally = z;
      }

  note-at : (n : PendingNote) → s.note ≡ n → Going C g t b (play_call (Run v m past s fs) (Note, no_payload))
  unfolding decided
  note-at None e = goes (Note, no_payload) refl refl refl (note-free x) (unchanged Nothing m s) (rw (note-free x, e)) y
  note-at (Some n) e =
      let o : PendingOk C g v k x.ns (Some n) = subst (λ (z : PendingNote). PendingOk C g v k x.ns z) e x.al.note-ok in
      let back = read x n e fs (taken-call v m past s fs (Note, no_payload) (note-free x)) in
      goes (Note, no_payload) refl refl refl (note-free x)
      (record {
        answer = Done;
        state = noted_state s n;
        memory = m;
        stored = one_item (note_slot (geometry_of v) (s.notes + 1))
            (note_bytes n);
      }) (rw (note-free x, e))
      (rw back (tally-noted y n o.0.low (omega (arith, o.0.high, (sized x).p-high)) e))

  force-at : Going C g t b (play_call (Run v m past s fs) (Force, no_payload))
  unfolding decided force_done
  force-at = by_cases (eqb s.pending 0)
      (λ z. goes (Force, no_payload) refl refl refl (force-free x) (unchanged Nothing m s) (rw (force-free x, z)) y)
      (λ z.
      let r = pending_bytes m (s.durable + 1) in
      let p = (record_of r).page in
      goes (Force, no_payload) refl refl refl (force-free x)
      (record {
        answer = Done;
        state = forced_state s (geometry_of v).pages (field 2 8 r);
        memory = m;
        stored = one_item
            (log_slot (geometry_of v) (s.durable + 1)) r;
      }) (rw (force-free x, z))
      (tally-forced y (geometry_of v).pages (field 2 8 r) (set_row fs p (with_record (page_row fs p)))
      (preserved-row fs p (with_record (page_row fs p)) refl (omega arith))))

  pub begin-goes : (p f fill : ℕ) → first_of (rows_of (Begin p f fill, no_payload) v m s) ≡ 0
      → Going C g t b (play_call (Run v m past s fs) (Begin p f fill, no_payload))
  unfolding decided begin_done
  begin-goes p f fill e =
      let image = frame_image p (last_number s + 1) (replicate 244 fill) in
      goes (Begin p f fill, no_payload) refl refl refl e (record {
        answer = Done;
        state = appended_state s p f;
        memory = appended_memory m s p
            (Format fill) [] f image;
        stored = nothing;
      }) (rw e)
      (tally-appended y p f (Format fill) [] image)

  pub change-goes : (p : ℕ) (c : Change) (payload : List ℕ) → length payload ≡ 44 → first_of (rows_of (ChangeCall p c, payload) v m s) ≡ 0
      → Going C g t b (play_call (Run v m past s fs) (ChangeCall p c, payload))
  unfolding decided change_done
  change-goes p c payload size e =
      let f = holder s p in
      let image = changed_image (frame_bytes m f) (last_number s + 1) (apply_change c payload (image_body (frame_bytes m f))) in
      goes (ChangeCall p c, payload) refl refl (eq-eqb (length payload) 44 size) e
      (record { answer = Done; state = appended_state s p f; memory = appended_memory m s p c payload f image; stored = nothing }) (rw e)
      (tally-appended y p f c payload image)

  pub load_goes : (p f : ℕ) → first_of (rows_of (Load p f, no_payload) v m s) ≡ 0 → Going C g t b (play_call (Run v m past s fs) (Load p f, no_payload))
  unfolding decided load_done
  load_goes p f e =
      let h = geometry_of v in
      let u = state_view h v s p in
      let row = with_load (page_row fs p) (repair_of h p u).count in
      let k' = preserved-row fs p row refl (omega arith) in
      let s' : State = with_frames s (with_frame s f p (not (is_good (class_in h p u)))) s.note in
      goes (Load p f, no_payload) refl refl refl e
      (record { answer = Repaired (repair_of h p u); state = s'; memory = splice m (frame_at f) (rebuilt h p u); stored = nothing }) (rw e)
      (tally-frames y (splice m (frame_at f) (rebuilt h p u)) s' (set_row fs p row) (splice-grows m (frame_at f) (rebuilt h p u)) k' refl refl
      (pending-same b fs (set_row fs p row) k'.backups s.note y.pending))

  pub release-goes : (p : ℕ) → first_of (rows_of (Release p, no_payload) v m s) ≡ 0 → Going C g t b (play_call (Run v m past s fs) (Release p, no_payload))
  unfolding decided release_done
  release-goes p e =
      let s' : State = with_frames s (with_frame s (holder s p) 0 false) s.note in
      goes (Release p, no_payload) refl refl refl e (record { answer = Done; state = s'; memory = m; stored = nothing }) (rw e)
      (tally-frames y m s' fs (omega arith) (preserved-same fs) refl refl y.pending)

  pub write_goes : (p : ℕ) → first_of (rows_of (Write p, no_payload) v m s) ≡ 0 → Going C g t b (play_call (Run v m past s fs) (Write p, no_payload))
  unfolding decided write_outcome
  write_goes p e = by_cases (page_dirty s p)
      (λ d.
      let i = frame_bytes m (holder s p) in
      let row = one_image (page_row fs p) in
      let s' : State = with_frames s (with_frame s (holder s p) p false) (next_note s p 1 0 (image_lsn i)) in
      goes (Write p, no_payload) refl refl refl e (record {
        answer = Done;
        state = s';
        memory = m;
        stored = one_item (page_at p)
            (seal_image (geometry_of v) i);
      }) (rw (e, d))
      (tally-frames y m s' (set_row fs p row) (omega arith) (preserved-row fs p row refl (omega arith)) refl refl
      (λ z. absurd (true-not-false refl z))))
      (λ d. goes (Write p, no_payload) refl refl refl e (unchanged Nothing m s) (rw (e, d)) y)

-- a backup may use the slot
pub backup-goes : {C : Type 0} {g : Geometry} {v m : List ℕ} {past : List StoredItem} {s : State} {k w : List Logged}
    (x : Ctx C g v m past s k w)
    (t : Settings) (fs : List Figures)
    → Tally t 0 m s fs
    → (p slot : ℕ) → first_of (rows_of (Backup p slot, no_payload) v m s) ≡ 0 → Going C g t 0 (play_call (Run v m past s fs) (Backup p slot, no_payload))
unfolding decided backup_done
backup-goes {C} {g} {v} {m} {past} {s} {k} {w} x t fs y p slot e =
    let a = backs x p slot e in
    let i = frame_bytes m (holder s p) in
    let row = one_backup (page_row fs p) in
    let s' : State = with_frames s s.frames (next_note s p 2 slot (image_lsn i)) in
    let pg : image_page (seal_image (geometry_of v) (frame_bytes m (holder s p))) ≡ p =
    rw (geo x) (valid-page g p (seal_image g i) (sealed-valid x p a.frame-of a.forced-to)) in
    let low : 1 ≤ p = a.frame-of.framed.low in
    let high : p ≤ 64 = omega (arith, a.frame-of.framed.high, (sized x).p-high) in
    goes x t 0 fs y (Backup p slot, no_payload) refl refl refl e (record {
      answer = Done;
      state = s';
      memory = m;
      stored = one_item (slot_at slot)
          (seal_image (geometry_of v) i);
    }) (rw e)
    (rw pg (tally-frames y m s' (set_row fs p row) (omega arith) (preserved-row fs p row refl (omega arith)) refl refl
    (λ z. (
      λ n. let q : (page_row (set_row fs p row) p).backups ≡ row.backups = ap (λ (r : Figures). r.backups)
          (row_same fs p low high y.size row) in omega arith,
      refl,
    ))))

-- ---- calls that always have room

pub note-goes : {C : Type 0} {g : Geometry} {t : Settings} {b : ℕ} {r : Played} → Going C g t b r → Going C g t b (play_call r (Note, no_payload))
note-goes {C} {g} {t} {b} {r} a =
    subst (λ (y : Played). Going C g t b (play_call y (Note, no_payload))) (sym a.run_is)
    (note-at a.ctx t b a.figures a.tally a.state.note refl)

pub force-goes : {C : Type 0} {g : Geometry} {t : Settings} {b : ℕ} {r : Played} → Going C g t b r → Going C g t b (play_call r (Force, no_payload))
force-goes {C} {g} {t} {b} {r} a =
    subst (λ (y : Played). Going C g t b (play_call y (Force, no_payload))) (sym a.run_is) (force-at a.ctx t b a.figures a.tally)

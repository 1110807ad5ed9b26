-- Force and Note: what they store and count, and what they leave alone.
use mathlib.Core.Path.{◌≡◌, refl, ap, ◌∙◌, subst}
use mathlib.Core.Bool.{false}
use mathlib.Core.List.{List, [], ◌∷◌, ◌++◌}
use Prim.Native.Nat.{ℕ, ◌+◌, ◌≤◌, ◌<◌}
use native.Mathlib.Omega.{arith}
use native.Mathlib.Numerals.{add-one}
use lib.ListN.{length}
use Rattle.laws.proofs.Tables.{by_cases}
use Rattle.laws.proofs.Ring.{slot-in}
use Rattle.laws.proofs.Places.{In}
use Rattle.laws.proofs.Notes.{note-length}
use Rattle.model.specs.Tables.{first_of, within}
use Rattle.model.specs.Bytes.{field}
use Rattle.model.specs.Geometry.{top_number, page_at, log_slot, note_slot, geometry_of, item}
use Rattle.model.specs.Item.{record_of, note_of, note_bytes}
use Rattle.model.specs.Index.{entry_of, with_durable}
use Rattle.model.specs.State.{pending_bytes}
use Rattle.model.specs.Refusals.{force_rows, note_rows}
use Rattle.model.specs.Outcome.{StoredItem, one_item, Outcome, volume_after, decided}
use Rattle.model.specs.Effects.{forced_state, noted_state, force_done}
use Rattle.model.specs.Calls.{force_of, note_call, no_payload}
use Rattle.model.specs.declared.{command.Command.TheVariants.Force, geometry.Geometry.Geometry}
use Rattle.model.specs.declared.{answer.Answer.TheVariants.Done, item.LogRecord.LogRecord, item.Note.Note}
use Rattle.model.specs.declared.state.State.{State}
use Rattle.model.specs.AbstractLog.{Logged, step_call}
use Rattle.planning.specs.Rehearsal.{page_row, set_row, with_record, one_note}
use Rattle.planning.specs.RehearsalRun.{play_call}
use Rattle.planning.specs.declared.rehearsal.Figures.{Figures}
use Rattle.history.proofs.Logs.{at_a}
use Rattle.history.proofs.Leaf.{note-read}
use Rattle.history.proofs.Records.{rec_of-is}
use Rattle.history.proofs.Sections.{store_other, notes-high}
use Rattle.history.proofs.Inv.{PendingOk}
use Rattle.history.proofs.LogSteps.{oldest-is, oldest-fair}
use Rattle.history.proofs.Context.{Ctx, sized, geo, len, few}
use Rattle.history.proofs.Forces.{some-pending}
use Rattle.planning_theory.proofs.Play.{Run, Stage, rows_none, run-as, ctx-as}
use Rattle.planning_theory.proofs.Relation.{backup-same}
use Rattle.model.specs.declared.command.Command.TheVariants.{Note as NoteCall}
use Rattle.model.specs.Types.{PendingNote, Some}

-- the page images as they were
abbrev pub PagesStay : Geometry → List ℕ → List ℕ → Type 0
PagesStay g v v' = (q : ℕ) → 1 ≤ q → q ≤ g.pages → item g v' (page_at q) ≡ item g v (page_at q)

-- ---- Note

module _ {C : Type 0} {g : Geometry} {v m : List ℕ} {past : List StoredItem} {s : State} {k w : List Logged} (x : Ctx C g v m past s k w)
    (n : Note) (e : s.note ≡ Some n)
    (fs : List Figures) (no : (play_call (Run v m past s fs) (NoteCall, no_payload)).refused ≡ false) where
  note0 : first_of (note_rows v m s) ≡ 0
  note0 = rows_none v m past s fs (NoteCall, no_payload) no

  pending : PendingOk C g v k x.ns (Some n)
  pending = subst (λ (y : PendingNote). PendingOk C g v k x.ns y) e x.al.note-ok

  noted : Outcome
  noted = record {
    answer = Done;
    state = noted_state s n;
    memory = m;
    stored = one_item (note_slot (geometry_of v) (s.notes + 1)) (note_bytes n);
  }

  noted-is : note_call v m s ≡ noted
  unfolding decided noted
  noted-is = rw (note0, e)

  pub read : note_of (note_bytes n) ≡ n
  read =
      let o = pending.0 in
      note-read n (omega (arith, o.number_is, pending.1, notes-high g (sized x))) (omega (arith, o.high, (sized x).p-high))
      (omega (arith, o.below, few x, len x))

  here : In g (note_slot g (s.notes + 1))
  here = rw (add-one s.notes) (slot-in g.notes s.notes pending.3.0)

  pub note_step : Stage C g (play_call (Run v m past s fs) (NoteCall, no_payload)) (set_row fs n.page (one_note (page_row fs n.page))) k w
      (λ v' s'. (s' ≡ noted_state s n) × PagesStay g v v')
  unfolding volume_after step_call noted
  note_step =
      record {
        volume = volume_after v noted.stored;
        memory = m;
        past = noted.stored ∷ past;
        state = noted_state s n;
        run_is = run-as v m past s fs (NoteCall, no_payload) no refl noted noted-is ∙ rw read;
        ctx = ctx-as v m past s fs (NoteCall, no_payload) no x refl refl noted noted-is k w refl;
        holds = (
          refl,
          λ q lo hi. rw (geo x) (store_other g v x.hs.vol (note_slot g (s.notes + 1)) (note_bytes n) here (note-length n) (page_at q)
              (lo, hi) (omega (arith, here.0))),
        );
      }

-- ---- Force

-- what a Force leaves as it was
pub record Forced (g : Geometry) (v v' : List ℕ) (s s' : State) : Type 0 where
  pub frames-stay : s'.frames ≡ s.frames
  pub note-stays : s'.note ≡ s.note
  pub backups-stay : (q : ℕ) → (entry_of s'.index q).backup ≡ (entry_of s.index q).backup
  pub pages-stay : PagesStay g v v'

forced-backups : (s : State) (pages p q : ℕ) → (entry_of (forced_state s pages p).index q).backup ≡ (entry_of s.index q).backup
unfolding forced_state
forced-backups s pages p q = by_cases (within pages p)
    (λ t. rw t (backup-same s.index p (with_durable (entry_of s.index p) (s.durable + 1)) refl q)) (λ t. rw t)

module _ {C : Type 0} {g : Geometry} {v m : List ℕ} {past : List StoredItem} {s : State} {k : List Logged} (c : Logged)
    (x : Ctx C g v m past s k (c ∷ []))
    (fs : List Figures) (no : (play_call (Run v m past s fs) (Force, no_payload)).refused ≡ false) where
  force0 : first_of (force_rows v m s) ≡ 0
  force0 = rows_none v m past s fs (Force, no_payload) no

  bytes : List ℕ
  bytes = pending_bytes m (s.durable + 1)

  forced : Outcome
  forced =
      record {
        answer = Done;
        state = forced_state s (geometry_of v).pages (field 2 8 (pending_bytes m (s.durable + 1)));
        memory = m;
        stored = one_item (log_slot (geometry_of v) (s.durable + 1)) (pending_bytes m (s.durable + 1));
      }

  forced-is : force_of v m s ≡ forced
  unfolding decided force_done forced
  forced-is = rw (force0, some-pending x c [] refl)

  below : length k < top_number
  below = omega (arith, few x, len x)

  page-of : (record_of (pending_bytes m (s.durable + 1))).page ≡ c.page
  page-of =
      rw (oldest-is g m s.durable s.pending k (c ∷ []) x.all x.al.log c [] refl)
      (ap (λ (y : LogRecord). y.page)
      (rec_of-is g.pages (k ++ (c ∷ [])) (length k) (sized x).p-high below
      (oldest-fair g m s.durable s.pending k (c ∷ []) x.all x.al.log c [] refl)).fields
      ∙ ap (λ (y : Logged). y.page) (at_a k c))

  size : length (pending_bytes m (s.durable + 1)) ≡ 64
  size =
      rw (oldest-is g m s.durable s.pending k (c ∷ []) x.all x.al.log c [] refl)
      (rec_of-is g.pages (k ++ (c ∷ [])) (length k) (sized x).p-high below
      (oldest-fair g m s.durable s.pending k (c ∷ []) x.all x.al.log c [] refl)).size

  slot : In g (log_slot g (s.durable + 1))
  slot = rw (add-one s.durable) (slot-in g.records s.durable (sized x).l-low)

  pub force-step : Stage C g (play_call (Run v m past s fs) (Force, no_payload)) (set_row fs c.page (with_record (page_row fs c.page)))
      (k ++ (c ∷ [])) [] (λ v' s'. Forced g v v' s s')
  unfolding volume_after step_call forced forced_state
  force-step =
      record {
        volume = volume_after v forced.stored;
        memory = m;
        past = forced.stored ∷ past;
        state = forced.state;
        run_is = run-as v m past s fs (Force, no_payload) no refl forced forced-is ∙ rw page-of;
        ctx = ctx-as v m past s fs (Force, no_payload) no x refl refl forced forced-is (k ++ (c ∷ [])) [] refl;
        holds = record {
          frames-stay = refl;
          note-stays = refl;
          backups-stay = forced-backups s (geometry_of v).pages (field 2 8 (pending_bytes m (s.durable + 1)));
          pages-stay = λ q lo hi.
              rw (geo x) (store_other g v x.hs.vol (log_slot g (s.durable + 1)) (pending_bytes m (s.durable + 1)) slot size (page_at q)
              (lo, hi) (omega (arith, slot.0)));
        };
      }

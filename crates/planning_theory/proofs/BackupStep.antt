-- Backup and Note: the page's noted backup is then its last change.
use mathlib.Core.Path.{◌≡◌, refl, ap, ◌∙◌}
use mathlib.Core.Logic.{◌≢◌, inl}
use mathlib.Core.Bool.{true, false}
use mathlib.Core.List.{List, [], ◌∷◌}
use Prim.Native.Nat.{ℕ, suc, ◌+◌, ◌-◌, ◌%◌, ◌≤◌, ◌<◌}
use native.Mathlib.Omega.{arith}
use native.Mathlib.Decide.{ℕ_discrete}
use lib.ListN.{length, get_or}
use lib.Seq.{get_or-set_same, get_or-set_other}
use Rattle.model.specs.Tables.{first_of}
use Rattle.model.specs.Checksum.{seal_image}
use Rattle.model.specs.Geometry.{page_at, slot_at, item}
use Rattle.model.specs.Item.{image_lsn, image_page}
use Rattle.model.specs.Index.{empty_entry, entry_of, enter_note}
use Rattle.model.specs.State.{empty_frame, frame_row, frame_bytes, holder}
use Rattle.model.specs.Refusals.{backup_rows}
use Rattle.model.specs.Outcome.{StoredItem, one_item, Outcome, volume_after, decided}
use Rattle.model.specs.Effects.{with_frames, next_note, noted_state, backup_done}
use Rattle.model.specs.Calls.{backup_of, no_payload}
use Rattle.model.specs.declared.command.Command.TheVariants.{Backup, Note as NoteCall}
use Rattle.model.specs.AbstractLog.{Logged, step_call}
use Rattle.planning.specs.Rehearsal.{page_row, set_row, one_backup, one_note, with_backup}
use Rattle.planning.specs.RehearsalRun.{Played, play_call}
use Rattle.model.specs.declared.{geometry.Geometry.Geometry, answer.Answer.TheVariants.Done, item.Note.Note}
use Rattle.model.specs.declared.{state.Entry.Entry, state.Frame.Frame}
use Rattle.model.specs.declared.state.State.{State}
use Rattle.planning.specs.declared.rehearsal.Settings.{Settings}
use Rattle.planning.specs.declared.rehearsal.FrameUse.{FrameUse}
use Rattle.planning.specs.declared.rehearsal.Figures.{Figures}
use Rattle.history.proofs.Logs.{last_of}
use Rattle.history.proofs.Leaf.{valid-page}
use Rattle.history.proofs.Sections.{store_other}
use Rattle.history.proofs.Context.{Ctx, sized, geo}
use Rattle.history.proofs.Images.{lsn-is, sealed-size, sealed-valid}
use Rattle.history.proofs.Persists.{Backs, backs}
use Rattle.planning_theory.proofs.Counts.{count-last}
use Rattle.planning_theory.proofs.Play.{Run, Stage, call_stays, rows_none, run-as, ctx-as}
use Rattle.planning_theory.proofs.Relation.{Arrived, Rows, row-twice, rows_same, sim-keep, all-is}
use Rattle.planning_theory.proofs.StoreSteps.{note_step}
use Rattle.planning_theory.proofs.ChangeStep.{mine-dirty, Changed}
use Rattle.model.specs.Types.{None}

-- ---- the state with a note stored

pub noted-frames : (s : State) (n : Note) → (noted_state s n).frames ≡ s.frames
unfolding noted_state
noted-frames s n = refl

pub noted-quiet : (s : State) (n : Note) → (noted_state s n).note ≡ None
unfolding noted_state
noted-quiet s n = refl

-- a backup's note: its page's backup number is the note's, any other page's as it was
module _ (s : State) (p lsn slot number : ℕ) (lo : 1 ≤ p) (b : p ≤ length s.index) where
  abbrev backup_note : Note
  backup_note = record { number = number; page = p; kind = 2; slot = slot; lsn = lsn }

  pub noted_here : (entry_of (noted_state s backup_note).index p).backup ≡ lsn
  unfolding noted_state enter_note
  noted_here = ap (λ (y : Entry). y.backup) (get_or-set_same s.index (p - 1) _ empty_entry (omega arith))

  pub noted-there : (q : ℕ) → 1 ≤ q → q ≢ p → (entry_of (noted_state s backup_note).index q).backup ≡ (entry_of s.index q).backup
  unfolding noted_state enter_note
  noted-there q one ne = ap (λ (y : Entry). y.backup) (get_or-set_other s.index (p - 1) (q - 1) _ empty_entry (λ z. ne (omega arith)))

module _ {C : Type 0} {g : Geometry} {v m : List ℕ} {past : List StoredItem} {s : State} {k : List Logged} (x : Ctx C g v m past s k [])
    (t : Settings) (events : List ℕ) (ms : List FrameUse)
    (f p slot n : ℕ) (low : f < t.frames) (few : t.frames ≤ 16) (lo : 1 ≤ p) (hi : p ≤ g.pages) (fs : List Figures) (rows : Rows fs k)
    (h : Changed t events ms g v s k f p n) (turn : suc n % t.every ≡ 0)
    (nr : (play_call (play_call (Run v m past s fs) (Backup p slot, no_payload)) (NoteCall, no_payload)).refused ≡ false) where
  no₁ : (play_call (Run v m past s fs) (Backup p slot, no_payload)).refused ≡ false
  no₁ = call_stays (play_call (Run v m past s fs) (Backup p slot, no_payload)) (NoteCall, no_payload) nr

  rows0 : first_of (backup_rows v m s p slot) ≡ 0
  rows0 = rows_none v m past s fs (Backup p slot, no_payload) no₁

  asked : Backs x p slot
  asked = backs x p slot rows0

  abbrev image : List ℕ
  image = seal_image g (frame_bytes m (holder s p))

  abbrev lsn : ℕ
  lsn = image_lsn (frame_bytes m (holder s p))

  done : Outcome
  done =
      record {
        answer = Done;
        state = with_frames s s.frames (next_note s p 2 slot (image_lsn (frame_bytes m (holder s p))));
        memory = m;
        stored = one_item (slot_at slot) (seal_image g (frame_bytes m (holder s p)));
      }

  done-is : backup_of v m s p slot ≡ done
  unfolding decided backup_done done
  done-is = rw (rows0, geo x)

  named : image_page image ≡ p
  named = valid-page g p image (sealed-valid x p asked.frame-of asked.forced-to)

  last : lsn ≡ last_of p k
  last = lsn-is x p asked.frame-of asked.forced-to ∙ ap (last_of p) (all-is x)

  p64 : p ≤ 64
  p64 = omega (arith, (sized x).p-high)

  abbrev fs₁ : List Figures
  fs₁ = set_row fs p (one_backup (page_row fs p))

  run₁ : play_call (Run v m past s fs) (Backup p slot, no_payload) ≡ Run (volume_after v done.stored) m (done.stored ∷ past) done.state fs₁
  unfolding done
  run₁ = run-as v m past s fs (Backup p slot, no_payload) no₁ refl done done-is ∙ rw named

  ctx₁ : Ctx C g (volume_after v done.stored) m (done.stored ∷ past) done.state k []
  unfolding step_call done
  ctx₁ = ctx-as v m past s fs (Backup p slot, no_payload) no₁ x refl refl done done-is k [] refl

  pages₁ : (q : ℕ) → 1 ≤ q → q ≤ g.pages → item g (volume_after v done.stored) (page_at q) ≡ item g v (page_at q)
  unfolding volume_after done
  pages₁ q a b =
      rw (geo x) (store_other g v x.hs.vol (slot_at slot) image (asked.slot-low, asked.slot-high)
      (sealed-size x p asked.frame-of asked.forced-to) (page_at q) (a, b) (omega (arith, asked.slot-low)))

  abbrev note_for : Note
  note_for = record { number = s.notes + 1; page = p; kind = 2; slot = slot; lsn = image_lsn (frame_bytes m (holder s p)) }

  note₁ : Stage C g (play_call (Run (volume_after v done.stored) m (done.stored ∷ past) done.state fs₁) (NoteCall, no_payload))
      (set_row fs₁ p (one_note (page_row fs₁ p))) k []
      (λ v' s'. (s' ≡ noted_state done.state note_for)
      × ((q : ℕ) → 1 ≤ q → q ≤ g.pages → item g v' (page_at q) ≡ item g (volume_after v done.stored) (page_at q)))
  unfolding done
  note₁ = note_step ctx₁ note_for refl fs₁ (rw run₁ at nr)

  abbrev fs₂ : List Figures
  fs₂ = set_row fs p (with_backup (page_row fs p))

  after : (v' : List ℕ) (s' : State) → s' ≡ noted_state done.state note_for
      → ((q : ℕ) → 1 ≤ q → q ≤ g.pages → item g v' (page_at q) ≡ item g (volume_after v done.stored) (page_at q))
      → Arrived t events ms g v' s' k f p true
  unfolding done
  after v' s' es pg =
      let fr : (j : ℕ) → frame_row s' j ≡ frame_row s j =
      λ j. ap (λ (l : List Frame). get_or l j empty_frame) (ap (λ (y : State). y.frames) es ∙ noted-frames done.state note_for) in
      let size : p ≤ length s.index = omega (arith, x.al.index.size, p64) in
      record {
        sim = sim-keep t events ms g v v' s s' k f p p low (λ j b z. fr j) (λ q a b. pg q a b ∙ pages₁ q a b) (λ q z. inl z) h.sim;
        backs = λ q a b. elim (ℕ_discrete q p) [
          | yes z ↦ rw (z, es, noted_here done.state p lsn slot (s.notes + 1) lo size, last, h.count, turn)
              (omega (arith, count-last p k (length k), h.count))
          | no z ↦ rw (es, noted-there done.state p lsn slot (s.notes + 1) lo size q a z) (h.others q a b z)
        ];
        quiet = ap (λ (y : State). y.note) es ∙ noted-quiet done.state note_for;
        row_is = fr f ∙ h.row_is;
        alone = λ j b z. rw (fr j) (h.alone j b z);
        mine = mine-dirty t.victim g v' k p;
      }

  pub backup-step : Stage C g (play_call (play_call (Run v m past s fs) (Backup p slot, no_payload)) (NoteCall, no_payload)) fs₂ k []
      (λ v' s'. Arrived t events ms g v' s' k f p true × Rows fs₂ k)
  backup-step =
      record {
        volume = note₁.volume;
        memory = note₁.memory;
        past = note₁.past;
        state = note₁.state;
        run_is = ap (λ (y : Played). play_call y (NoteCall, no_payload)) run₁ ∙
            (note₁.run_is ∙ ap (λ (l : List Figures). Run note₁.volume note₁.memory
            note₁.past note₁.state l) (row-twice fs p lo p64 rows.size one_backup one_note));
        ctx = note₁.ctx;
        holds = (
          after note₁.volume note₁.state note₁.holds.0 note₁.holds.1,
          rows_same fs p lo p64 rows.size k (with_backup (page_row fs p)) refl rows,
        );
      }

-- A frame's page makes way: a dirty one is written and noted.
use mathlib.Core.Path.{◌≡◌, refl, sym, ap, ◌∙◌, subst}
use mathlib.Core.Logic.{◌≢◌, ◌⊎◌, inl, inr, ⊎_elim}
use mathlib.Core.Bool.{true, false}
use mathlib.Core.List.{List, [], ◌∷◌}
use Prim.Native.Nat.{ℕ, ◌+◌, ◌≤◌, ◌<◌}
use native.Mathlib.Omega.{arith}
use native.Mathlib.Decide.{ℕ_discrete}
use lib.ListN.{length, get_or}
use lib.Seq.{get_or-set_same, get_or-set_other}
use Rattle.model.specs.Checksum.{seal_image}
use Rattle.model.specs.Geometry.{page_at, item}
use Rattle.model.specs.Item.{image_lsn}
use Rattle.model.specs.Index.{entry_of, enter_note, with_note}
use Rattle.model.specs.State.{empty_frame, frame_row, frame_bytes, holder}
use Rattle.model.specs.Refusals.{page_dirty}
use Rattle.model.specs.Outcome.{StoredItem, one_item, Outcome, volume_after, decided}
use Rattle.model.specs.Effects.{with_frame, with_frames, next_note, noted_state, write_outcome}
use Rattle.model.specs.Calls.{write_of, no_payload}
use Rattle.model.specs.declared.{geometry.Geometry.Geometry, answer.Answer.TheVariants.Done, item.Note.Note}
use Rattle.model.specs.declared.{state.Entry.Entry, state.Frame.Frame}
use Rattle.model.specs.declared.state.State.{State}
use Rattle.model.specs.declared.command.Command.TheVariants.{Write, Note as NoteCall}
use Rattle.model.specs.AbstractLog.{Logged, step_call}
use Rattle.planning.specs.Rehearsal.{page_row, set_row, one_image, one_note, with_image}
use Rattle.planning.specs.RehearsalRun.{Played, play_call}
use Rattle.planning.specs.declared.rehearsal.Victim.{Victim}
use Rattle.planning.specs.declared.rehearsal.Victim.TheVariants.{Written}
use Rattle.planning.specs.declared.rehearsal.Settings.{Settings}
use Rattle.planning.specs.declared.rehearsal.FrameUse.{FrameUse}
use Rattle.planning.specs.declared.rehearsal.Figures.{Figures}
use Rattle.history.proofs.Logs.{last_of}
use Rattle.history.proofs.Sections.{store_other, store_same}
use Rattle.history.proofs.Context.{Ctx, geo, Found}
use Rattle.history.proofs.Images.{lsn-is, sealed-size, sealed-valid, sealed-lsn}
use Rattle.history.proofs.Persists.{Writes, writes}
use Rattle.planning_theory.proofs.Play.{Run, Stage, call_stays, rows_none, run-as, ctx-as}
use Rattle.planning_theory.proofs.Relation.{DirtyIn, Current, OnDisk, Sim, Backups, Rows, row-twice, rows_same}
use Rattle.planning_theory.proofs.Relation.{backup-same, backups-same, all-is}
use Rattle.planning_theory.proofs.StoreSteps.{note_step}
use Rattle.planning_theory.proofs.BackupStep.{noted-frames, noted-quiet}
use Rattle.planning_theory.proofs.AwayStep.{Away, low-page, high-page, q64, row_is}
use Rattle.model.specs.Types.{None}

-- a written note leaves every backup number
noted-backups : (s : State) (n : Note) → n.kind ≡ 1 → (q : ℕ) → (entry_of (noted_state s n).index q).backup ≡ (entry_of s.index q).backup
unfolding noted_state enter_note
noted-backups s n e q =
    backup-same s.index n.page (with_note (entry_of s.index n.page) n) (same (entry_of s.index n.page) n e) q
  where
    same : (y : Entry) (n : Note) → n.kind ≡ 1 → (with_note y n).backup ≡ y.backup
    same y n e = rw e

module _ {C : Type 0} {g : Geometry} {v m : List ℕ} {past : List StoredItem} {s : State} {k : List Logged} (x : Ctx C g v m past s k [])
    (t : Settings) (events : List ℕ) (ms : List FrameUse)
    (f : ℕ) (low : f < t.frames) (few : t.frames ≤ 16) (fs : List Figures) (rows : Rows fs k) (sim : Sim t events ms g v s k 16 0)
    (bk : Backups t g s k) (quiet : s.note ≡ None) where
  f16 : f < 16
  f16 = omega arith

  module _ (d : (frame_row s f).dirty ≡ true) where
    abbrev q : ℕ
    q = (frame_row s f).page

    module _ (tv : t.victim ≡ Written)
        (nr : (play_call (play_call (Run v m past s fs) (Write (frame_row s f).page, no_payload)) (NoteCall, no_payload)).refused ≡ false) where
      no₁ : (play_call (Run v m past s fs) (Write (frame_row s f).page, no_payload)).refused ≡ false
      no₁ = call_stays (play_call (Run v m past s fs) (Write q, no_payload)) (NoteCall, no_payload) nr

      dirty : page_dirty s (frame_row s f).page ≡ true
      dirty = ap (λ (i : ℕ). (get_or s.frames i empty_frame).dirty) (row_is x f f16 d) ∙ d

      asked : Writes x (frame_row s f).page
      asked = writes x q (rows_none v m past s fs (Write q, no_payload) no₁)

      fo : Found x (frame_row s f).page
      fo = asked.frame-of

      durable : image_lsn (frame_bytes m (holder s (frame_row s f).page)) ≤ s.durable
      durable = (asked.ready dirty).2

      abbrev image : List ℕ
      image = seal_image g (frame_bytes m (holder s (frame_row s f).page))

      abbrev lsn : ℕ
      lsn = image_lsn (frame_bytes m (holder s (frame_row s f).page))

      done : Outcome
      done =
          record {
            answer = Done;
            state = with_frames s (with_frame s (holder s (frame_row s f).page) (frame_row s f).page false)
                (next_note s (frame_row s f).page 1 0 (image_lsn (frame_bytes m (holder s (frame_row s f).page))));
            memory = m;
            stored = one_item (page_at (frame_row s f).page) (seal_image g (frame_bytes m (holder s (frame_row s f).page)));
          }

      done-is : write_of v m s (frame_row s f).page ≡ done
      unfolding decided write_outcome done
      done-is = rw (rows_none v m past s fs (Write q, no_payload) no₁, dirty, geo x)

      abbrev fs₁ : List Figures
      fs₁ = set_row fs q (one_image (page_row fs q))

      run₁ : play_call (Run v m past s fs) (Write (frame_row s f).page, no_payload)
          ≡ Run (volume_after v done.stored) m (done.stored ∷ past) done.state fs₁
      unfolding done
      run₁ = run-as v m past s fs (Write q, no_payload) no₁ refl done done-is

      ctx₁ : Ctx C g (volume_after v done.stored) m (done.stored ∷ past) done.state k []
      unfolding step_call done
      ctx₁ = ctx-as v m past s fs (Write q, no_payload) no₁ x refl refl done done-is k [] refl

      abbrev note_for : Note
      note_for = record {
        number = s.notes + 1;
        page = (frame_row s f).page;
        kind = 1;
        slot = 0;
        lsn = image_lsn (frame_bytes m (holder s (frame_row s f).page));
      }

      note₁ : Stage C g (play_call (Run (volume_after v done.stored) m (done.stored ∷ past) done.state fs₁) (NoteCall, no_payload))
          (set_row fs₁ q (one_note (page_row fs₁ q))) k []
          (λ v' s'. (s' ≡ noted_state done.state note_for)
          × ((r : ℕ) → 1 ≤ r → r ≤ g.pages → item g v' (page_at r) ≡ item g (volume_after v done.stored) (page_at r)))
      unfolding done
      note₁ = note_step ctx₁ note_for refl fs₁ (rw run₁ at nr)

      size : length image ≡ 256
      size = sealed-size x q fo durable

      page-here : item g (volume_after v done.stored) (page_at (frame_row s f).page) ≡ image
      unfolding volume_after done
      page-here = rw (geo x)
          (store_same g v x.hs.vol (page_at q) image (low-page x f f16 d, high-page x f f16 d) size)

      page-there : (r : ℕ) → 1 ≤ r → r ≤ g.pages → r ≢ (frame_row s f).page
          → item g (volume_after v done.stored) (page_at r) ≡ item g v (page_at r)
      unfolding volume_after done
      page-there r a b ne = rw (geo x)
          (store_other g v x.hs.vol (page_at q) image (low-page x f f16 d, high-page x f f16 d) size
          (page_at r) (a, b) (λ z. ne (omega (arith, low-page x f f16 d))))

      other : (j : ℕ) → j ≢ f → frame_row done.state j ≡ frame_row s j
      unfolding done
      other j n = rw (row_is x f f16 d)
          (get_or-set_other s.frames f j (record { page = q; dirty = false }) empty_frame n)

      still : (frame_row done.state f).page ≡ (frame_row s f).page
      unfolding done
      still = rw (row_is x f f16 d) (ap (λ (y : Frame). y.page)
          (get_or-set_same s.frames f (record { page = q; dirty = false }) empty_frame (omega (arith, x.al.frames.size, f16))))

      same_index : (r : ℕ) → (entry_of done.state.index r).backup ≡ (entry_of s.index r).backup
      unfolding done
      same_index r = refl

      after : (v' : List ℕ) (s' : State) → s' ≡ noted_state done.state note_for
          → ((r : ℕ) → 1 ≤ r → r ≤ g.pages → item g v' (page_at r) ≡ item g (volume_after v done.stored) (page_at r))
          → Sim t events ms g v' s' k f 0 × Backups t g s' k × (s'.note ≡ None)
      after v' s' es pg =
          let fr : (j : ℕ) → j ≢ f → frame_row s' j ≡ frame_row s j =
          λ j n. ap (λ (l : List Frame). get_or l j empty_frame)
          (ap (λ (y : State). y.frames) es ∙ noted-frames done.state note_for) ∙ other j n in (
            record {
              frames = record { size = sim.frames.size; each = λ j b n. rw (fr j n) (sim.frames.each j b (λ z. omega arith)) };
              inside = λ j b l. let n : j ≢ f = λ z. omega arith in rw (fr j n) (sim.inside j b l);
              begun = sim.begun;
              disk = subst (λ (w : Victim). OnDisk w g v' s' k f 0) (sym tv) (disk fr);
            },
            backups-same t g s s' k (λ r. rw es (noted-backups done.state note_for refl r ∙ same_index r)) bk,
            ap (λ (y : State). y.note) es ∙ noted-quiet done.state note_for,
          )
        where
          disk : ((j : ℕ) → j ≢ f → frame_row s' j ≡ frame_row s j) → OnDisk Written g v' s' k f 0
          disk fr r lo hi ne some = elim (ℕ_discrete r q) [
            | yes z ↦
                let e : item g v' (page_at q) ≡ image = pg q (low-page x f f16 d) (high-page x f f16 d) ∙ page-here in
                inr (rw (z, e)
                (sealed-valid x q fo durable, sealed-lsn x q fo durable ∙ (lsn-is x q fo durable ∙ ap (last_of q) (all-is x))))
            | no z ↦
                let old : DirtyIn s r 16 ⊎ Current g v r (last_of r k) =
                subst (λ (w : Victim). OnDisk w g v s k 16 0) tv sim.disk r lo hi ne some in
                ⊎_elim
                (λ (y : DirtyIn s r 16).
                let nf : y.row ≢ f = λ w. z (sym y.page-is ∙ ap (λ (i : ℕ). (frame_row s i).page) w) in
                inl (record {
                  row = y.row;
                  below = y.below;
                  other = nf;
                  page-is = rw (fr y.row nf) y.page-is;
                  dirty-is = rw (fr y.row nf) y.dirty-is;
                }))
                (λ (y : Current g v r (last_of r k)). inr (rw (pg r lo hi ∙ page-there r lo hi z) y)) old
          ]

      pub away-write : Stage C g (play_call (play_call (Run v m past s fs) (Write (frame_row s f).page, no_payload)) (NoteCall, no_payload))
          (set_row fs (frame_row s f).page (with_image (page_row fs (frame_row s f).page))) k []
          (λ v' s'. Away t events ms g v' s' k f (frame_row s f).page
          (set_row fs (frame_row s f).page (with_image (page_row fs (frame_row s f).page))))
      away-write =
          let a = after note₁.volume note₁.state note₁.holds.0 note₁.holds.1 in
          record {
            volume = note₁.volume;
            memory = note₁.memory;
            past = note₁.past;
            state = note₁.state;
            run_is = ap (λ (y : Played). play_call y (NoteCall, no_payload)) run₁ ∙
                (note₁.run_is ∙ ap (λ (l : List Figures). Run note₁.volume
                note₁.memory note₁.past note₁.state l)
                (row-twice fs q (low-page x f f16 d) (q64 x f f16 d) rows.size one_image one_note));
            ctx = note₁.ctx;
            holds = record {
              sim = a.0;
              backs = a.1;
              quiet = a.2;
              rows = rows_same fs q (low-page x f f16 d) (q64 x f f16 d) rows.size k (with_image (page_row fs q)) refl
                  rows;
              left = inl (ap (λ (l : List Frame). (get_or l f empty_frame).page)
                  (ap (λ (y : State). y.frames) note₁.holds.0 ∙ noted-frames done.state note_for) ∙ still);
            };
          }

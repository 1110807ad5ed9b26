-- A frame's page makes way: a clean one goes with the next call, a dirty one is let go (or written: WriteStep).
use mathlib.Core.Path.{◌≡◌, refl, sym, ap, ◌∙◌, subst}
use mathlib.Core.Logic.{◌≢◌, ◌⊎◌, inl, inr, ⊎_elim}
use mathlib.Core.Bool.{true, false}
use mathlib.Core.List.{List, [], ◌∷◌}
use Prim.Native.Nat.{ℕ, suc, ◌-◌, ◌≤◌, ◌<◌}
use native.Mathlib.Omega.{arith}
use lib.Seq.{get_or-set_same, get_or-set_other}
use Rattle.laws.proofs.Tables.{true-not-false}
use Rattle.laws.proofs.Frames.{is_held}
use Rattle.model.specs.Tables.{first_of}
use Rattle.model.specs.State.{empty_frame, frame_row, holder, held}
use Rattle.model.specs.Refusals.{release_rows}
use Rattle.model.specs.Outcome.{StoredItem, nothing, Outcome, volume_after, decided}
use Rattle.model.specs.Effects.{with_frame, with_frames, release_done}
use Rattle.model.specs.Calls.{release_of, no_payload}
use Rattle.model.specs.declared.{geometry.Geometry.Geometry, answer.Answer.TheVariants.Done, state.Frame.Frame}
use Rattle.model.specs.declared.state.State.{State}
use Rattle.model.specs.declared.command.Command.TheVariants.{Release}
use Rattle.model.specs.AbstractLog.{Logged, step_call}
use Rattle.planning.specs.RehearsalRun.{play_call}
use Rattle.planning.specs.declared.rehearsal.Victim.{Victim}
use Rattle.planning.specs.declared.rehearsal.Victim.TheVariants.{Written, Released}
use Rattle.planning.specs.declared.rehearsal.Settings.{Settings}
use Rattle.planning.specs.declared.rehearsal.FrameUse.{FrameUse}
use Rattle.planning.specs.declared.rehearsal.Figures.{Figures}
use Rattle.history.proofs.Context.{Ctx, sized, found-frame}
use Rattle.planning_theory.proofs.Play.{Run, Stage, rows_none, run-as, ctx-as}
use Rattle.planning_theory.proofs.Relation.{OnDisk, Sim, Backups, Rows, one-row}
use Rattle.model.specs.Types.{None}

release-done : (v m : List ℕ) (s : State) (p : ℕ) → first_of (release_rows v m s p) ≡ 0
    → release_of v m s p
    ≡ record { answer = Done; state = with_frames s (with_frame s (holder s p) 0 false) s.note; memory = m; stored = nothing }
unfolding decided release_done
release-done v m s p e = rw e

-- row f may be taken: it has its page q still, or none
pub record Away (t : Settings) (events : List ℕ) (ms : List FrameUse) (g : Geometry) (v : List ℕ) (s : State) (k : List Logged) (f q : ℕ)
    (fs : List Figures) : Type 0 where
  pub sim : Sim t events ms g v s k f 0
  pub backs : Backups t g s k
  pub quiet : s.note ≡ None
  pub rows : Rows fs k
  pub left : ((frame_row s f).page ≡ q) ⊎ ((frame_row s f).page ≡ 0)

-- a dirty row has a page, whose frame it is
module _ {C : Type 0} {g : Geometry} {v m : List ℕ} {past : List StoredItem} {s : State} {k : List Logged} (x : Ctx C g v m past s k [])
    (f : ℕ) (f16 : f < 16) (d : (frame_row s f).dirty ≡ true) where
  nz : (frame_row s f).page ≢ 0
  nz z = true-not-false d (x.al.frames.idle f f16 z)

  pub low-page : 1 ≤ (frame_row s f).page
  low-page = (x.al.frames.each f (x.al.frames.inside f f16 nz) nz).low

  pub high-page : (frame_row s f).page ≤ g.pages
  high-page = (x.al.frames.each f (x.al.frames.inside f f16 nz) nz).high

  pub q64 : (frame_row s f).page ≤ 64
  q64 = omega (arith, high-page, (sized x).p-high)

  holder-is : holder s (frame_row s f).page ≡ suc f
  holder-is =
      let q = (frame_row s f).page in
      let h : held s q ≡ true = is_held s q f (omega (arith, x.al.frames.size, f16)) refl in
      let fo = found-frame x q low-page (rw h) in
      let e : fo.row ≡ f =
      one-row x f fo.row f16 (omega (arith, fo.in_table, x.al.memory.high)) nz fo.page-is in
      fo.holder-is ∙ ap suc e

  pub row_is : holder s (frame_row s f).page - 1 ≡ f
  row_is = omega (arith, holder-is)

module _ {C : Type 0} {g : Geometry} {v m : List ℕ} {past : List StoredItem} {s : State} {k : List Logged} (x : Ctx C g v m past s k [])
    (t : Settings) (events : List ℕ) (ms : List FrameUse)
    (f : ℕ) (low : f < t.frames) (few : t.frames ≤ 16) (fs : List Figures) (rows : Rows fs k) (sim : Sim t events ms g v s k 16 0)
    (bk : Backups t g s k) (quiet : s.note ≡ None) where
  f16 : f < 16
  f16 = omega arith

  -- a clean row
  pub away-clean : (frame_row s f).dirty ≡ false → Away t events ms g v s k f (frame_row s f).page fs
  away-clean d =
      record {
        sim = record {
          frames = record { size = sim.frames.size; each = λ j b n. sim.frames.each j b (λ z. omega arith) };
          inside = sim.inside;
          begun = sim.begun;
          disk = go t.victim sim.disk;
        };
        backs = bk;
        quiet = quiet;
        rows = rows;
        left = inl refl;
      }
    where
      go : (w : Victim) → OnDisk w g v s k 16 0 → OnDisk w g v s k f 0
      go Written h = λ q lo hi nz some. ⊎_elim
          (λ y. inl (record {
            row = y.row;
            below = y.below;
            other = λ z. true-not-false (rw z at y.dirty-is) d;
            page-is = y.page-is;
            dirty-is = y.dirty-is;
          }))
          inr (h q lo hi nz some)
      go Released h = (h.0, λ j b n nz. h.1 j b (λ z. omega arith) nz)

  -- a dirty row, let go
  module _ (d : (frame_row s f).dirty ≡ true) where
    abbrev q : ℕ
    q = (frame_row s f).page

    pub away-release : t.victim ≡ Released → (play_call (Run v m past s fs) (Release (frame_row s f).page, no_payload)).refused ≡ false
        → Stage C g (play_call (Run v m past s fs) (Release (frame_row s f).page, no_payload)) fs k []
        (λ v' s'. Away t events ms g v' s' k f (frame_row s f).page fs)
    unfolding volume_after step_call
    away-release tv nr =
        record {
          volume = v;
          memory = m;
          past = nothing ∷ past;
          state = gone.state;
          run_is = run-as v m past s fs (Release q, no_payload) nr refl gone gone-is;
          ctx = ctx-as v m past s fs (Release q, no_payload) nr x refl refl gone gone-is k [] refl;
          holds = record {
            sim = record {
              frames = record { size = sim.frames.size; each = λ j b n. rw (other j n) (sim.frames.each j b (λ z. omega arith)) };
              inside = λ j b l. let n : j ≢ f = λ z. omega arith in rw (other j n) (sim.inside j b l);
              begun = sim.begun;
              disk = subst (λ (w : Victim). OnDisk w g v gone.state k f 0) (sym tv)
                  (let h = subst (λ (w : Victim). OnDisk w g v s k 16 0) tv sim.disk in
                  (h.0, λ j b n z. rw (other j n) (h.1 j b (λ y. omega arith) (rw (other j n) at z))));
            };
            backs = bk;
            quiet = quiet;
            rows = rows;
            left = inr (rw (row_is x f f16 d) (ap (λ (y : Frame). y.page)
                (get_or-set_same s.frames f empty_frame empty_frame (omega (arith, x.al.frames.size, f16)))));
          };
        }
      where
        gone : Outcome
        gone = record { answer = Done; state = with_frames s (with_frame s (holder s q) 0 false) s.note; memory = m; stored = nothing }

        gone-is : release_of v m s q ≡ gone
        gone-is = release-done v m s q (rows_none v m past s fs (Release q, no_payload) nr)

        other : (j : ℕ) → j ≢ f → frame_row (with_frames s (with_frame s (holder s (frame_row s f).page) 0 false) s.note) j ≡ frame_row s j
        other j n = rw (row_is x f f16 d) (get_or-set_other s.frames f j empty_frame empty_frame n)

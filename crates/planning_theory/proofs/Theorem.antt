-- Every figure of the model is that of the real calls: the claim `SameFigures` of document 02, §10.
use mathlib.Core.Path.{◌≡◌, refl, sym, ap, ◌∙◌, subst}
use mathlib.Core.Bool.{true, false}
use mathlib.Core.List.{List, [], ◌∷◌}
use Prim.Native.Nat.{ℕ, suc, ◌+◌, ◌*◌, ◌-◌, ◌/◌, ◌≤◌, ◌<◌}
use native.Mathlib.Omega.{arith}
use native.Mathlib.Nat.{zero-mod}
use lib.ListN.{length, length-replicate, get_or-replicate}
use lib.Dec.{eqb}
use borrow.Author.Tests.{eq-eqb, not-false}
use Rattle.laws.proofs.Tables.{by_cases, and_left, and_right, and_both, within-bounds, within-holds, none-at}
use Rattle.model.specs.Tables.{first_of, within}
use Rattle.model.specs.Geometry.{page_at, item}
use Rattle.model.specs.Item.{valid_image}
use Rattle.model.specs.Index.{entry_of}
use Rattle.model.specs.State.{empty_frame, frame_row, frame_count, valid_memory}
use Rattle.model.specs.Refusals.{restart_rows}
use Rattle.model.specs.Outcome.{refusal_of, decided}
use Rattle.model.specs.Restart.{make_of, restart_of, restart_state}
use Rattle.model.specs.AbstractLog.{AbstractLog, empty_log}
use Rattle.model.specs.History.{on, Event, restart, step, allowed, step_log, fresh_machine, all_allowed, run, log_after}
use Rattle.model.specs.Claim.{History, Legal, fresh, reached, log_of, durable_of}
use Rattle.planning.specs.Rehearsal.{access_of, page_in, no_figures, unused, play_from, idle, pages_fit, rehearsal_rows, rehearsal_of, step_on}
use Rattle.planning.specs.RehearsalRun.{Choices, changes_of, last_use, Played, play_calls, calls_in, play_events, Site}
use Rattle.planning.specs.RehearsalRun.{restarted_site, real_run, SameFigures}
use Rattle.model.specs.declared.{geometry.Geometry.Geometry, state.State.State}
use Rattle.planning.specs.declared.rehearsal.Victim.{Victim}
use Rattle.planning.specs.declared.rehearsal.Victim.TheVariants.{Written, Released}
use Rattle.planning.specs.declared.rehearsal.Settings.{Settings}
use Rattle.planning.specs.declared.rehearsal.Rehearsal.{Rehearsal}
use Rattle.history.proofs.Logs.{last-zero}
use Rattle.history.proofs.Context.{Ctx}
use Rattle.history.proofs.Reached.{Undamaged, made_with, uncarried, live}
use Rattle.history.proofs.Refusals.{restart-refusal}
use Rattle.history.proofs.Facts.{facts}
use Rattle.planning_theory.proofs.Counts.{count-zero}
use Rattle.planning_theory.proofs.Play.{Run, events-stay}
use Rattle.planning_theory.proofs.Relation.{OnDisk}
use Rattle.planning_theory.proofs.ChangeStep.{backup-low}
use Rattle.planning_theory.proofs.Event.{After}
use Rattle.planning_theory.proofs.EventStep.{event}

-- ---- the events, one after the other

module _ {C : Type 0} {g : Geometry} (ok : C) (t : Settings) (F1 : 1 ≤ t.frames) (F16 : t.frames ≤ 16)
    (K1 : 1 ≤ t.every) (choices : Choices)
    (pays : (i : ℕ) (s : State) → length (choices i s).payload ≡ 44) where
  plays : (es past : List ℕ) (mo : Rehearsal) (r : Played) → After C g t past mo r → pages_fit es ≡ true
      → (play_events t choices past r es).refused ≡ false
      → (play_events t choices past r es).figures ≡ (play_from t (length past) mo es).pages
  unfolding play_events play_from pages_fit
  plays [] past mo r a fit nr = ap (λ (y : Played). y.figures) a.stage.run_is
  plays (e ∷ es) past mo r a fit nr =
      let st = a.stage in
      let live-run : Played = Run st.volume st.memory st.past st.state mo.pages in
      let in-range = within-bounds 64 (page_in (access_of e)) (and_left (within 64 (page_in (access_of e))) (pages_fit es) fit) in
      let nr₁ : (play_events t choices (e ∷ past)
      (play_calls live-run (calls_in live-run.machine.power t choices past (access_of e))) es).refused ≡ false =
      subst (λ (y : Played). (play_events t choices (e ∷ past)
      (play_calls y (calls_in y.machine.power t choices past (access_of e))) es).refused ≡ false) st.run_is nr in
      let next = event st.ctx ok t F1 F16 K1 past mo st.holds (page_in (access_of e)) in-range.0 in-range.1 e
      (choices (suc (length past)) st.state) (pays (suc (length past)) st.state) (access_of e) refl refl
      (events-stay t choices es (e ∷ past) (play_calls live-run (calls_in live-run.machine.power t choices past (access_of e))) nr₁) in
      subst (λ (y : Played). (play_events t choices (e ∷ past)
      (play_calls y (calls_in y.machine.power t choices past (access_of e))) es).figures
      ≡ (play_from t (suc (length past)) (step_on t (suc (length past)) mo (access_of e)) es).pages) (sym st.run_is)
      (plays es (e ∷ past) (step_on t (suc (length past)) mo (access_of e))
      (play_calls live-run (calls_in live-run.machine.power t choices past (access_of e))) next
      (and_right (within 64 (page_in (access_of e))) (pages_fit es) fit) nr₁)

-- ---- the fresh volume

restart-done : (v m : List ℕ) → first_of (restart_rows v m) ≡ 0 → (restart_of v m).state ≡ restart_state v
unfolding restart_of decided
restart-done v m e = rw e

-- the history of a site before its first event
abbrev pub history_of : Site → List Event → History
history_of x es = record {
  heading = x.heading;
  found = x.found;
  pages = x.pages;
  slots = x.slots;
  records = x.records;
  notes = x.notes;
  events = es;
}

module _ (x : Site) (t : Settings) (F1 : 1 ≤ t.frames) (F16 : t.frames ≤ 16)
    (make : refusal_of (make_of x.heading x.found x.pages x.slots x.records x.notes).answer ≡ 0)
    (size : length x.memory ≡ 1024 + 256 * t.frames) where
  abbrev v : List ℕ
  v = (fresh (history_of x [])).volume

  abbrev m : List ℕ
  m = (restart_of v x.memory).memory

  abbrev s : State
  s = (restart_of v x.memory).state

  empty-legal : Legal (history_of x [])
  unfolding all_allowed
  empty-legal = record { make = make; events = refl }

  memory-right : valid_memory (length x.memory) ≡ true
  unfolding valid_memory
  memory-right =
      let e : frame_count (length x.memory) ≡ t.frames = let q : (length x.memory - 1024) / 256 ≡ t.frames = omega arith in q in
      rw e (and_both (within-holds 16 t.frames F1 F16) (eq-eqb (length x.memory) (1024 + 256 * t.frames) size))

  pub restarts : first_of (restart_rows (fresh (history_of x [])).volume x.memory) ≡ 0
  unfolding reached run
  restarts = sym (restart-refusal v x.memory) ∙ (facts.restarts (history_of x []) empty-legal x.memory).right memory-right

  legal : Legal (history_of x (restart x.memory ∷ []))
  unfolding all_allowed allowed
  legal = record { make = make; events = refl }

  powered : (reached (history_of x (restart x.memory ∷ []))).power ≡ on (restart_of (fresh (history_of x [])).volume x.memory).memory
      (restart_of (fresh (history_of x [])).volume x.memory).state
  unfolding reached run step fresh_machine
  powered = rw restarts

  pub clean : Undamaged (history_of x (restart x.memory ∷ []))
  clean = refl

  nothing-logged : log_of (history_of x (restart x.memory ∷ [])) ≡ empty_log
  unfolding log_of log_after step_log fresh_machine
  nothing-logged = by_cases (eqb (first_of (restart_rows v x.memory)) 0) (λ z. rw z) (λ z. rw z)

  abbrev g : Geometry
  g = made_with (history_of x (restart x.memory ∷ []))

  abbrev played : History
  played = history_of x (restart x.memory ∷ [])

  pub ctx : Ctx (Undamaged (history_of x (restart x.memory ∷ []))) g (fresh (history_of x [])).volume m [] s [] []
  unfolding reached run step fresh_machine
  ctx =
      subst (λ (b : AbstractLog). Ctx (Undamaged (history_of x (restart x.memory ∷ [])))
      (made_with (history_of x (restart x.memory ∷ []))) (fresh (history_of x [])).volume (restart_of (fresh (history_of x [])).volume
      x.memory).memory [] (restart_of (fresh (history_of x [])).volume x.memory).state b.durable b.pending) nothing-logged
      (subst (λ (y : Geometry). Ctx (Undamaged played) y (reached played).volume m (reached played).past s (durable_of played)
      (log_of played).pending) (uncarried played legal refl)
      (live played legal m s powered))

  pub state-is : s ≡ restart_state (fresh (history_of x [])).volume
  state-is = restart-done v x.memory restarts

  frame-empty : (j : ℕ) → j < 16 → frame_row (restart_of (fresh (history_of x [])).volume x.memory).state j ≡ empty_frame
  unfolding restart_state
  frame-empty j b = rw state-is (get_or-replicate 16 j empty_frame empty_frame b)

  pub begins : After (Undamaged (history_of x (restart x.memory ∷ []))) g t [] idle (restarted_site x)
  unfolding restarted_site step fresh_machine idle changes_of last_use restart_state
  begins =
      record {
        log = [];
        stage = record {
          volume = v;
          memory = m;
          past = [];
          state = s;
          run_is = rw restarts;
          ctx = ctx;
          holds = record {
            sim = record {
              frames =
                  record { size = length-replicate 16 unused; each = λ j b n. rw (frame-empty j b) (get_or-replicate 16 j unused unused b) };
              inside = λ j b l. rw (frame-empty j b);
              begun = λ i b. absurd (omega arith);
              disk = disk t.victim;
            };
            backs = λ p lo hi. let z : (entry_of s.index p).backup ≡ 0 = omega (arith, backup-low ctx p lo hi) in
                rw (z, count-zero p [], zero-mod t.every);
            quiet = rw state-is;
            rows = record {
              size = length-replicate 64 no_figures;
              records = λ p lo hi. rw (get_or-replicate 64 (p - 1) no_figures no_figures (omega arith)) (sym (count-zero p []));
            };
            changes = λ p lo hi. sym (count-zero p []);
          };
        };
      }
    where
      disk : (w : Victim) → OnDisk w g v s [] 16 0
      disk Written = λ p lo hi nz some. absurd (some (last-zero p []))
      disk Released = (
        λ p lo hi. by_cases (valid_image g p (item g v (page_at p)))
            (λ z. absurd (let r = ctx.hs.images p lo hi z in omega (arith, r.below))) (λ z. z),
        λ j b n nz. absurd (nz (rw (frame-empty j b))),
      )

-- ---- the claim

pub same-figures : SameFigures
unfolding real_run rehearsal_of rehearsal_rows
same-figures x t choices events h nr =
    let q = none-at (rehearsal_rows events t) (omega arith) h.taken in
    let f = within-bounds 16 t.frames (not-false (within 16 t.frames) (q 1)) in
    let k = within-bounds 255 t.every (not-false (within 255 t.every) (q 2)) in
    rw h.taken
    (plays (clean x t f.0 f.1 h.make h.memory) t f.0 f.1 k.0 choices h.payloads events [] idle (restarted_site x)
    (begins x t f.0 f.1 h.make h.memory) (not-false (pages_fit events) (q 3)) nr)

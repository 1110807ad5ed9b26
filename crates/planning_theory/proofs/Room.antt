-- With room for all that the model stores, no call of the real run is refused: the claim `EnoughRoom` of document 02, §10. So the figures
-- are the model's on every such site.
use mathlib.Core.Path.{◌≡◌, refl, sym, ap, ◌∙◌, subst}
use mathlib.Core.Bool.{true}
use mathlib.Core.List.{List, [], ◌∷◌}
use Prim.Native.Nat.{ℕ, zero, suc, ◌+◌, ◌*◌, ◌≤◌}
use native.Mathlib.Omega.{arith}
use lib.ListN.{length, replicate, length-replicate}
use borrow.Author.Tests.{not-false}
use Rattle.laws.proofs.Tables.{and_left, and_right, within-bounds, none-at}
use Rattle.model.specs.Tables.{within}
use Rattle.model.specs.Change.{fits}
use Rattle.model.specs.Outcome.{refusal_of, decided}
use Rattle.model.specs.Restart.{make_of, restart_of, restart_state}
use Rattle.model.specs.History.{restart, step, fresh_machine}
use Rattle.model.specs.Claim.{fresh}
use Rattle.planning.specs.Rehearsal.{access_of, page_in, no_figures, page_row, play_from, idle, pages_fit, rehearsal_rows}
use Rattle.planning.specs.Rehearsal.{rehearsal_of, step_on, total_of}
use Rattle.planning.specs.RehearsalRun.{Choices, Played, play_calls, calls_in, play_events, Site, restarted_site, real_run}
use Rattle.planning.specs.RehearsalRun.{Tried, free_slot, backed_up, Roomy, EnoughRoom}
use Rattle.model.specs.declared.{geometry.Geometry.Geometry, change.Change.TheVariants.Put, state.Entry.Entry}
use Rattle.model.specs.declared.state.State.{State}
use Rattle.planning.specs.declared.rehearsal.Settings.{Settings}
use Rattle.planning.specs.declared.rehearsal.Figures.{Figures}
use Rattle.planning.specs.declared.rehearsal.Rehearsal.{Rehearsal}
use Rattle.history.proofs.Marks.{Mark, mark_at, mark-zero}
use Rattle.history.proofs.Reached.{Undamaged, made_with}
use Rattle.planning_theory.proofs.Play.{Run}
use Rattle.planning_theory.proofs.Event.{After}
use Rattle.planning_theory.proofs.EventStep.{event}
use Rattle.planning_theory.proofs.Totals.{Grows, step-grows, play-grows, records-grow, notes-grow, backed-grows}
use Rattle.planning_theory.proofs.Totals.{backed-low, grows-trans}
use Rattle.planning_theory.proofs.Slots.{free-slot, slotted-backed}
use Rattle.planning_theory.proofs.Tally.{PendingCounted, Tally, tally-free}
use Rattle.planning_theory.proofs.Going.{Going, going, not-refused, tally-of}
use Rattle.planning_theory.proofs.EventRoom.{Room, event-goes}
use Rattle.planning_theory.proofs.Theorem.{history_of, restarts, clean, ctx, state-is, begins, same-figures}
use Rattle.model.specs.Types.{PendingNote, None}

-- ---- the events, one after the other

-- room for figures
pub record Ample (g : Geometry) (top : List Figures) : Type 0 where
  pub pages : (p : ℕ) → 1 ≤ (page_row top p).records → p ≤ g.pages
  pub slots : backed_up top 64 + 1 ≤ g.slots
  pub records : (total_of top 64).records ≤ g.records
  pub notes : (total_of top 64).notes ≤ g.notes

module _ {C : Type 0} {g : Geometry} (ok : C) (t : Settings) (F1 : 1 ≤ t.frames) (F16 : t.frames ≤ 16) (K1 : 1 ≤ t.every)
    (choices : Choices)
    (pays : (i : ℕ) (s : State) → length (choices i s).payload ≡ 44) (lowest : (i : ℕ) (s : State) → (choices i s).slot ≡ free_slot s)
    (puts : (i : ℕ) (s : State) → fits (Put (choices i s).offset (choices i s).length) ≡ true) where
  goes_on : (es past : List ℕ) (mo : Rehearsal) (r : Played) → After C g t past mo r → Going C g t 0 r → pages_fit es ≡ true
      → Ample g (play_from t (length past) mo es).pages
      → Going C g t 0 (play_events t choices past r es)
  unfolding play_events play_from pages_fit
  goes_on [] past mo r a go fit ample = go
  goes_on (e ∷ es) past mo r a go fit ample =
      let st = a.stage in
      let s = st.state in
      let p = page_in (access_of e) in
      let c = choices (suc (length past)) s in
      let next = step_on t (suc (length past)) mo (access_of e) in
      let live-run : Played = Run st.volume st.memory st.past s mo.pages in
      let in-range = within-bounds 64 (page_in (access_of e)) (and_left (within 64 (page_in (access_of e))) (pages_fit es) fit) in
      let after : Grows next.pages (play_from t (suc (length past)) next es).pages = play-grows t (suc (length past)) next es in
      let whole = grows-trans (step-grows t (suc (length past)) mo (access_of e)) after in
      let y = tally-of go st.volume st.memory st.past s mo.pages st.run_is in
      let free = free-slot s (backed_up mo.pages 64) (slotted-backed s mo.pages st.ctx.al.index.size y.covered)
      (omega (arith, backed-low mo.pages 64)) in
      let more = backed-grows whole 64 in
      let room : Room g c p next.pages =
      record {
        page = λ b. ample.pages p (omega (arith, after.records p));
        records = omega (arith, records-grow after 64, ample.records);
        notes = omega (arith, notes-grow after 64, ample.notes);
        slot-low = rw (lowest (suc (length past)) s) free.0;
        slot-high = rw (lowest (suc (length past)) s) (omega (arith, free.1, more, ample.slots));
        puts = puts (suc (length past)) s;
      } in
      let y₁ : Tally t c.slot st.memory s mo.pages =
      tally-free y c.slot st.holds.quiet (rw (lowest (suc (length past)) s) free.2) in
      let go₁ = event-goes st.ctx ok t F1 F16 K1 past mo st.holds p in-range.0 in-range.1 c (pays (suc (length past)) s) y₁
      (access_of e) refl room in
      let a₁ = event st.ctx ok t F1 F16 K1 past mo st.holds p in-range.0 in-range.1 e c (pays (suc (length past)) s)
      (access_of e) refl refl (not-refused go₁) in
      subst (λ (u : Played). Going C g t 0 (play_events t choices (e ∷ past)
      (play_calls u (calls_in u.machine.power t choices past (access_of e))) es)) (sym st.run_is)
      (goes_on es (e ∷ past) next (play_calls live-run (calls_in live-run.machine.power t choices past (access_of e))) a₁ go₁
      (and_right (within 64 (page_in (access_of e))) (pages_fit es) fit) ample)

-- ---- the fresh volume

no-notes : (total_of (replicate 64 no_figures) 64).notes ≡ 0
unfolding total_of
no-notes = refl

module _ (x : Site) (t : Settings) (F1 : 1 ≤ t.frames) (F16 : t.frames ≤ 16)
    (make : refusal_of (make_of x.heading x.found x.pages x.slots x.records x.notes).answer ≡ 0)
    (size : length x.memory ≡ 1024 + 256 * t.frames) where
  abbrev v : List ℕ
  v = (fresh (history_of x [])).volume

  abbrev m : List ℕ
  m = (restart_of v x.memory).memory

  abbrev s : State
  s = (restart_of v x.memory).state

  memory-is : length (restart_of (fresh (history_of x [])).volume x.memory).memory ≡ length x.memory
  unfolding restart_of decided
  memory-is = rw (restarts x t F1 F16 make size) (length-replicate (length x.memory) 0)

  -- no note is stored yet: each has the number of a record
  none-noted : length (ctx x t F1 F16 make size).ns ≡ 0
  none-noted = go (length (ctx x t F1 F16 make size).ns) refl
    where
      go : (n : ℕ) → length (ctx x t F1 F16 make size).ns ≡ n → n ≡ 0
      go zero e = refl
      go (suc n) e = let f = (ctx x t F1 F16 make size).no.fit 0 (omega arith) in absurd (omega (arith, f.some, f.below))

  quiet : (restart_of (fresh (history_of x [])).volume x.memory).state.note ≡ None
  unfolding restart_state
  quiet = rw (state-is x t F1 F16 make size)

  first-tally : Tally t 0 m s (replicate 64 no_figures)
  first-tally =
      let c = ctx x t F1 F16 make size in
      record {
        frames = omega (arith, memory-is);
        size = length-replicate 64 no_figures;
        notes = c.al.notes-is ∙ (none-noted ∙ sym no-notes);
        covered = λ p lo hi nz. absurd (nz (ap (λ (y : Entry). y.slot) (c.al.index.entry p lo hi) ∙ ap (λ (k : Mark). k.slot)
            (ap (mark_at p c.ns) none-noted ∙ mark-zero p c.ns)));
        spare = λ nz. absurd (nz refl);
        pending = subst (λ (n : PendingNote). PendingCounted 0 (replicate 64 no_figures) n) (sym quiet) tt;
      }

  set_out : Going (Undamaged (history_of x (restart x.memory ∷ [])))
      (made_with (history_of x (restart x.memory ∷ []))) t 0 (restarted_site x)
  unfolding restarted_site step fresh_machine
  set_out = rw (restarts x t F1 F16 make size) (going (ctx x t F1 F16 make size) t 0 (replicate 64 no_figures) first-tally)

-- ---- the claims

pub enough-room : EnoughRoom
unfolding real_run rehearsal_of rehearsal_rows
enough-room x t choices events h room =
    let q = none-at (rehearsal_rows events t) (omega arith) h.taken in
    let f = within-bounds 16 t.frames (not-false (within 16 t.frames) (q 1)) in
    let k = within-bounds 255 t.every (not-false (within 255 t.every) (q 2)) in
    let g = made_with (history_of x (restart x.memory ∷ [])) in
    let ample : Ample g (rehearsal_of events t).pages =
    record { pages = room.pages; slots = room.slots; records = room.records; notes = room.notes } in
    not-refused (goes_on (clean x t f.0 f.1 h.make h.memory) t f.0 f.1 k.0 choices h.payloads room.lowest-slot
    room.puts events [] idle (restarted_site x)
    (begins x t f.0 f.1 h.make h.memory) (set_out x t f.0 f.1 h.make h.memory) (not-false (pages_fit events) (q 3))
    (rw h.taken at ample))

-- the figures of every site that has room are the model's
pub roomy-figures : (x : Site) (t : Settings) (choices : Choices) (events : List ℕ) → Tried x t choices events → Roomy x t choices events
    → (real_run x t choices events).figures ≡ (rehearsal_of events t).pages
roomy-figures x t choices events h room = same-figures x t choices events h (enough-room x t choices events h room)

-- The calls that an event makes, and a page's change with its Force.
use mathlib.Core.Path.{◌≡◌, refl, ap, ◌∙◌, subst}
use mathlib.Core.Logic.{◌≢◌, ◌⊎◌, inl, inr}
use mathlib.Core.Bool.{Bool, true, false}
use mathlib.Core.List.{List, [], ◌∷◌, ◌++◌}
use Prim.Native.Nat.{ℕ, zero, suc, ◌≤◌, ◌<◌}
use native.Mathlib.Omega.{arith}
use lib.ListN.{length}
use Rattle.laws.proofs.Tables.{true-not-false}
use Rattle.model.specs.State.{frame_row, held, blank}
use Rattle.model.specs.Outcome.{StoredItem}
use Rattle.model.specs.Calls.{Call, no_payload}
use Rattle.model.specs.declared.{geometry.Geometry.Geometry, change.Change.TheVariants.Put, state.State.State}
use Rattle.model.specs.declared.command.Command.TheVariants.{Begin, Load, Force}
use Rattle.model.specs.AbstractLog.{Logged, logged_change}
use Rattle.planning.specs.Rehearsal.{page_row, set_row, with_record, evicted}
use Rattle.planning.specs.RehearsalRun.{Choice, changes_of, eviction_calls, bring_in, back_up, calls_of, Played, play_call, play_calls}
use Rattle.model.specs.declared.change.Change.TheVariants.{Format}
use Rattle.planning.specs.declared.rehearsal.Settings.{Settings}
use Rattle.planning.specs.declared.rehearsal.Access.TheVariants.{Read, Change}
use Rattle.planning.specs.declared.rehearsal.Figures.{Figures}
use Rattle.planning.specs.declared.rehearsal.Rehearsal.{Rehearsal}
use Rattle.history.proofs.Context.{Ctx}
use Rattle.planning_theory.proofs.Counts.{count_of, count_none}
use Rattle.planning_theory.proofs.Play.{Run, Stage, call_stays, calls-append, rows_none}
use Rattle.planning_theory.proofs.Relation.{Arrived, Rows}
use Rattle.planning_theory.proofs.ChangeStep.{Changed, changed-step, begin-step, put_step}
use Rattle.planning_theory.proofs.Event.{Full, stage-as, in_frame, blank-yes, blank-not, fo, f16, row, row_low}
use Rattle.planning_theory.proofs.Event.{row-victim, eviction-stage}
use Rattle.planning_theory.proofs.Backed.{holder-of, page-high, no-page, begin-high}
use Rattle.model.specs.declared.command.Command.TheVariants.{Change as ChangeCall}

-- a later change of page p, and what it logs
abbrev pub put_of : Choice → ℕ → Call
put_of c p = (ChangeCall p (Put c.offset c.length), c.payload)

abbrev pub put_logged : Choice → ℕ → Logged
put_logged c p = logged_change p (Put c.offset c.length) c.payload

-- its first
abbrev pub begin_logged : Choice → ℕ → Logged
begin_logged c p = logged_change p (Format c.fill) []

module _ {C : Type 0} {g : Geometry} {v m : List ℕ} {past : List StoredItem} {s : State} {k : List Logged} (x : Ctx C g v m past s k [])
    (ok : C) (t : Settings)
    (F1 : 1 ≤ t.frames) (F16 : t.frames ≤ 16) (K1 : 1 ≤ t.every) (events : List ℕ) (mo : Rehearsal) (full : Full t events mo g v s k)
    (p : ℕ) (lo : 1 ≤ p) (hi : p ≤ 64)
    (c : Choice) (pays : length c.payload ≡ 44) where
  abbrev run : Played
  run = Run v m past s mo.pages

  abbrev bu : List Call
  bu = back_up t c p (suc (count_of p k))

  -- a put and its Force, of a page that is in row f
  pub put_on : (r : Played) (f : ℕ) (d : Bool) (l : List Figures) → f < t.frames
      → Stage C g r l k [] (λ v' s'. Arrived t events mo.frames g v' s' k f p d × Rows l k)
      → (play_call (play_call r (put_of c p)) (Force, no_payload)).refused ≡ false
      → Stage C g (play_call (play_call r (put_of c p)) (Force, no_payload)) (set_row l p (with_record (page_row l p))) (k ++ (put_logged c p ∷ [])) []
      (λ v' s'. Changed t events mo.frames g v' s' (k ++ (put_logged c p ∷ [])) f p (count_of p k)
      × Rows (set_row l p (with_record (page_row l p))) (k ++ (put_logged c p ∷ [])))
  put_on r f d l b a nr =
      let put = put_of c p in
      let h = a.holds.0 in
      let pg = ap (λ y. y.page) h.row_is in
      let nr₁ : (play_call r put).refused ≡ false = call_stays (play_call r put) (Force, no_payload) nr in
      let st = put_step a.ctx l p f (holder-of a.ctx p f lo (omega arith) pg) c.offset c.length c.payload pays
      (subst (λ (y : Played). (play_call y put).refused ≡ false) a.run_is nr₁) in
      changed-step a.ctx t events mo.frames f p p b F16 lo (page-high a.ctx p f lo (omega arith) pg) l a.holds.1 h.sim
      (λ q z. inl z) h.backs h.quiet h.alone
      (put_logged c p) refl (λ z. absurd (true-not-false z refl)) (play_call r put)
      (stage-as (ap (λ (y : Played). play_call y put) a.run_is) refl st) nr

  changes-now : changes_of p events ≡ count_of p k
  changes-now = full.changes p lo hi

  -- ---- the calls

  pub found-calls : held s p ≡ true
      → play_calls (Run v m past s mo.pages) (calls_of t c events s (Change p)) ≡ play_calls (play_call (play_call run (put_of c p)) (Force, no_payload)) bu
  unfolding calls_of play_calls
  found-calls h =
      let f = (fo x ok t F1 F16 K1 events mo full p lo hi h).row in
      let inf = in_frame x ok t F1 F16 K1 events mo full p lo hi f (f16 x ok t F1 F16 K1 events mo full p lo hi h)
      (fo x ok t F1 F16 K1 events mo full p lo hi h).page-is in
      let nb : blank s p ≡ false = blank-not x ok t F1 F16 K1 events mo full p lo hi (λ z. inf.1 (count_none p k (length k) z)) in
      rw (h, nb, changes-now)

  module _ (h : held s p ≡ false) where
    abbrev f : ℕ
    f = row x ok t F1 F16 K1 events mo full p lo hi h

    abbrev mw : List Call
    mw = eviction_calls t (frame_row s f)

    -- the page makes way, a call, and the rest
    after-way : (d : Call) (rest : List Call) → play_calls run ((mw ++ (d ∷ [])) ++ rest) ≡ play_calls (play_call (play_calls run mw) d) rest
    unfolding play_calls
    after-way d rest = calls-append (mw ++ (d ∷ [])) rest run ∙ ap (λ (y : Played). play_calls y rest) (calls-append mw (d ∷ []) run)

    pub read-calls : count_of p k ≢ 0
        → play_calls (Run v m past s mo.pages) (calls_of t c events s (Read p)) ≡ play_call (play_calls run mw) (Load p (suc f), no_payload)
    unfolding calls_of bring_in play_calls
    read-calls nz =
        let nb : blank s p ≡ false = blank-not x ok t F1 F16 K1 events mo full p lo hi nz in
        let is : calls_of t c events s (Read p) ≡ mw ++ ((Load p (suc f), no_payload) ∷ []) =
        rw (nb, h, row-victim x ok t F1 F16 K1 events mo full p lo hi h) in
        ap (play_calls run) is ∙ calls-append mw ((Load p (suc f), no_payload) ∷ []) run

    pub loaded-calls : count_of p k ≢ 0
        → play_calls (Run v m past s mo.pages) (calls_of t c events s (Change p))
        ≡ play_calls (play_call (play_call (play_call (play_calls run mw) (Load p (suc f), no_payload)) (put_of c p)) (Force, no_payload)) bu
    unfolding calls_of bring_in play_calls
    loaded-calls nz =
        let nb : blank s p ≡ false = blank-not x ok t F1 F16 K1 events mo full p lo hi nz in
        let is : calls_of t c events s (Change p) ≡ (mw ++ ((Load p (suc f), no_payload) ∷ [])) ++ (put_of c p ∷ (Force, no_payload) ∷ bu) =
        rw (h, nb, changes-now, row-victim x ok t F1 F16 K1 events mo full p lo hi h) in
        ap (play_calls run) is ∙ after-way (Load p (suc f), no_payload) (put_of c p ∷ (Force, no_payload) ∷ bu)

    pub begun-calls : count_of p k ≡ 0
        → play_calls (Run v m past s mo.pages) (calls_of t c events s (Change p))
        ≡ play_calls (play_call (play_call (play_calls run mw) (Begin p (suc f) c.fill, no_payload)) (Force, no_payload)) bu
    unfolding calls_of bring_in play_calls
    begun-calls z =
        let yb : blank s p ≡ true = blank-yes x ok t F1 F16 K1 events mo full p lo hi z in
        let is : calls_of t c events s (Change p) ≡ (mw ++ ((Begin p (suc f) c.fill, no_payload) ∷ [])) ++ ((Force, no_payload) ∷ bu) =
        rw (h, yb, changes-now, row-victim x ok t F1 F16 K1 events mo full p lo hi h) in
        ap (play_calls run) is ∙ after-way (Begin p (suc f) c.fill, no_payload) ((Force, no_payload) ∷ bu)

    -- a begin and its Force, once the page there has made way
    pub begin-on : count_of p k ≡ 0 → (play_call (play_call (play_calls run mw) (Begin p (suc f) c.fill, no_payload)) (Force, no_payload)).refused ≡ false
        → Stage C g (play_call (play_call (play_calls run mw) (Begin p (suc f) c.fill, no_payload)) (Force, no_payload))
        (set_row (evicted t mo f) p (with_record (page_row (evicted t mo f) p))) (k ++ (begin_logged c p ∷ [])) []
        (λ v' s'. Changed t events mo.frames g v' s' (k ++ (begin_logged c p ∷ [])) f p (count_of p k) × Rows
        (set_row (evicted t mo f) p (with_record (page_row (evicted t mo f) p))) (k ++ (begin_logged c p ∷ [])))
    begin-on z n =
        let bg : Call = (Begin p (suc f) c.fill, no_payload) in
        let l = evicted t mo f in
        let n₁ = call_stays (play_call (play_calls run mw) bg) (Force, no_payload) n in
        let a = eviction-stage x ok t F1 F16 K1 events mo full p lo hi h (call_stays (play_calls run mw) bg n₁) in
        let n₂ : (play_call (Run a.volume a.memory a.past a.state l) bg).refused ≡ false =
        subst (λ (y : Played). (play_call y bg).refused ≡ false) a.run_is n₁ in
        let pg : p ≤ g.pages = begin-high a.ctx p (suc f) (rows_none a.volume a.memory a.past a.state l bg n₂) in
        changed-step a.ctx t events mo.frames f p 0 (row_low x ok t F1 F16 K1 events mo full p lo hi h) F16 lo pg l a.holds.rows
        a.holds.sim (λ q y. pick q) a.holds.backs a.holds.quiet
        (λ j b y. no-page a.ctx p j lo b z) (begin_logged c p) refl (λ y. count_none p k (length k) z) (play_call (play_calls run mw) bg)
        (stage-as (ap (λ (y : Played). play_call y bg) a.run_is) refl (begin-step a.ctx l p f c.fill n₂)) n
      where
        pick : (q : ℕ) → q ≢ 0 ⊎ (q ≡ 0)
        pick zero = inr refl
        pick (suc q) = inl (λ y. omega arith)

-- One event: the real calls that it makes keep the relation, and what they count is what the model counts.
use mathlib.Core.Path.{◌≡◌, refl, sym, ap, ◌∙◌, subst}
use mathlib.Core.Logic.{◌≢◌, inl, inr, ⊎_elim}
use mathlib.Core.Bool.{Bool, true, false, cond, not}
use mathlib.Core.List.{List, []}
use Prim.Native.Nat.{ℕ, suc, ◌-◌, ◌≤◌, ◌<◌}
use native.Mathlib.Omega.{arith}
use native.Mathlib.Decide.{dec_lt}
use lib.Dec.{eqb}
use borrow.Author.Tests.{ne_eqb, lt-ltb}
use Rattle.laws.proofs.Tables.{by_cases}
use Rattle.laws.proofs.Frames.{not-held}
use Rattle.model.specs.State.{frame_row, held, blank}
use Rattle.model.specs.Outcome.{StoredItem}
use Rattle.model.specs.Calls.{no_payload}
use Rattle.model.specs.declared.{geometry.Geometry.Geometry, state.State.State}
use Rattle.model.specs.declared.command.Command.TheVariants.{Load, Write, Release}
use Rattle.model.specs.declared.command.Command.TheVariants.{Note}
use Rattle.model.specs.AbstractLog.{Logged}
use Rattle.planning.specs.Rehearsal.{victim_written, use_row, page_row, set_row, with_load, with_image, holding, least_used}
use Rattle.planning.specs.Rehearsal.{evicted, brought_in, replayed_by, found_in, missing, touched}
use Rattle.planning.specs.RehearsalRun.{changes_of, victim_row, eviction_calls, Played, play_call, play_calls}
use Rattle.planning.specs.declared.rehearsal.Victim.{Victim}
use Rattle.planning.specs.declared.rehearsal.Victim.TheVariants.{Written, Released}
use Rattle.planning.specs.declared.rehearsal.Settings.{Settings}
use Rattle.planning.specs.declared.rehearsal.FrameUse.{FrameUse}
use Rattle.planning.specs.declared.rehearsal.Figures.{Figures}
use Rattle.planning.specs.declared.rehearsal.Rehearsal.{Rehearsal}
use Rattle.history.proofs.Logs.{last_of}
use Rattle.history.proofs.Context.{Ctx, Found, found-frame}
use Rattle.planning_theory.proofs.Counts.{count_of}
use Rattle.planning_theory.proofs.Searches.{holding-none, holding-one, stamped, victim-is}
use Rattle.planning_theory.proofs.Play.{Run, Stage, call_stays}
use Rattle.planning_theory.proofs.Relation.{DirtyIn, OnDisk, Mine, Sim, Backups, Arrived, Rows, last-is}
use Rattle.planning_theory.proofs.Relation.{is-blank, not-blank, one-row}
use Rattle.planning_theory.proofs.LoadStep.{load_step}
use Rattle.planning_theory.proofs.AwayStep.{Away, away-clean, away-release}
use Rattle.planning_theory.proofs.WriteStep.{away-write}
use Rattle.model.specs.Types.{None}

-- ---- between events

pub record Full (t : Settings) (events : List ℕ) (mo : Rehearsal) (g : Geometry) (v : List ℕ) (s : State) (k : List Logged) : Type 0 where
  pub sim : Sim t events mo.frames g v s k 16 0
  pub backs : Backups t g s k
  pub quiet : s.note ≡ None
  pub rows : Rows mo.pages k
  pub changes : (p : ℕ) → 1 ≤ p → p ≤ 64 → changes_of p events ≡ count_of p k

-- what an event leaves
pub record After (C : Type 0) (g : Geometry) (t : Settings) (events : List ℕ) (mo : Rehearsal) (r : Played) : Type 0 where
  pub log : List Logged
  pub stage : Stage C g r mo.pages log [] (λ v s. Full t events mo g v s log)

pub stage-as : {C : Type 0} {g : Geometry} {r r' : Played} {fs fs' : List Figures} {k w : List Logged} {Q : List ℕ → State → Type 0}
    → r' ≡ r → fs ≡ fs' → Stage C g r fs k w Q → Stage C g r' fs' k w Q
stage-as e q a =
    record {
      volume = a.volume;
      memory = a.memory;
      past = a.past;
      state = a.state;
      run_is = e ∙ (a.run_is ∙ ap (λ (l : List Figures). Run a.volume a.memory a.past a.state l) q);
      ctx = a.ctx;
      holds = a.holds;
    }

-- ---- the page of a frame makes way

gone-as : {C : Type 0} {g : Geometry} {v m : List ℕ} {past : List StoredItem} {s : State} {k : List Logged} (x : Ctx C g v m past s k [])
    (t : Settings) (events : List ℕ) (mo : Rehearsal) (f : ℕ)
    (r r' : Played) (l l' : List Figures) → r' ≡ r → l ≡ l' → Stage C g r l k [] (λ v' s'. Away t events mo.frames g v' s' k f
    (frame_row s f).page l) → Stage C g r' l' k [] (λ v' s'. Away t events mo.frames g v' s' k f (frame_row s f).page l')
gone-as {C} {g} {v} {m} {past} {s} {k} x t events mo f r r' l l' e q a =
    subst (λ (y : Played). Stage C g y l' k [] (λ v' s'. Away t events mo.frames g v' s' k f (frame_row s f).page l')) (sym e)
    (subst (λ (y : List Figures). Stage C g r y k [] (λ v' s'. Away t events mo.frames g v' s' k f (frame_row s f).page y)) q a)

module _ {C : Type 0} {g : Geometry} {v m : List ℕ} {past : List StoredItem} {s : State} {k : List Logged} (x : Ctx C g v m past s k [])
    (t : Settings) (F16 : t.frames ≤ 16) (events : List ℕ) (mo : Rehearsal)
    (f : ℕ) (low : f < t.frames) (al : use_row mo.frames f ≡ stamped events (frame_row s f))
    (sim : Sim t events mo.frames g v s k 16 0) (bk : Backups t g s k) (quiet : s.note ≡ None)
    (rows : Rows mo.pages k) where
  eviction : (d : Bool) → (frame_row s f).dirty ≡ d → (w : Victim) → t.victim ≡ w
      → (play_calls (Run v m past s mo.pages) (eviction_calls t (frame_row s f))).refused ≡ false
      → Stage C g (play_calls (Run v m past s mo.pages) (eviction_calls t (frame_row s f))) (evicted t mo f) k []
      (λ v' s'. Away t events mo.frames g v' s' k f (frame_row s f).page (evicted t mo f))
  unfolding evicted play_calls
  eviction false dd w tv nr =
      gone-as x t events mo f (Run v m past s mo.pages) (play_calls (Run v m past s mo.pages) (eviction_calls t (frame_row s f)))
      mo.pages (evicted t mo f) (rw dd) (rw (al, dd) (by_cases (victim_written t.victim) (λ z. rw z) (λ z. rw z)))
      (record {
        volume = v;
        memory = m;
        past = past;
        state = s;
        run_is = refl;
        ctx = x;
        holds = away-clean x t events mo.frames f low F16 mo.pages rows sim bk quiet dd;
      })
  eviction true dd Written tv nr =
      gone-as x t events mo f (play_call (play_call (Run v m past s mo.pages) (Write (frame_row s f).page, no_payload)) (Note, no_payload))
      (play_calls (Run v m past s mo.pages) (eviction_calls t (frame_row s f)))
      (set_row mo.pages (frame_row s f).page (with_image (page_row mo.pages (frame_row s f).page))) (evicted t mo f)
      (rw (dd, tv)) (rw (al, dd, tv))
      (away-write x t events mo.frames f low F16 mo.pages rows sim bk quiet dd tv (rw (dd, tv) at nr))
  eviction true dd Released tv nr =
      gone-as x t events mo f (play_call (Run v m past s mo.pages) (Release (frame_row s f).page, no_payload))
      (play_calls (Run v m past s mo.pages) (eviction_calls t (frame_row s f))) mo.pages (evicted t mo f) (rw (dd, tv)) (rw (al, tv))
      (away-release x t events mo.frames f low F16 mo.pages rows sim bk quiet dd tv (rw (dd, tv) at nr))

-- ---- the page of the event

module _ {C : Type 0} {g : Geometry} {v m : List ℕ} {past : List StoredItem} {s : State} {k : List Logged}
    (x : Ctx C g v m past s k []) (ok : C) (t : Settings)
    (F1 : 1 ≤ t.frames) (F16 : t.frames ≤ 16) (K1 : 1 ≤ t.every) (events : List ℕ) (mo : Rehearsal) (full : Full t events mo g v s k)
    (p : ℕ) (lo : 1 ≤ p) (hi : p ≤ 64) where
  abbrev fs : List Figures
  fs = mo.pages

  abbrev ms : List FrameUse
  ms = mo.frames

  abbrev run : Played
  run = Run v m past s mo.pages

  pub alike : (j : ℕ) → j < 16 → use_row mo.frames j ≡ stamped events (frame_row s j)
  alike j b = full.sim.frames.each j b (λ z. omega arith)

  pub alike-page : (j : ℕ) → j < 16 → (use_row mo.frames j).page ≡ (frame_row s j).page
  alike-page j b = ap (λ (y : FrameUse). y.page) (alike j b)

  pub row_count : (page_row mo.pages p).records ≡ count_of p k
  row_count = full.rows.records p lo hi

  pub blank-yes : count_of p k ≡ 0 → blank s p ≡ true
  blank-yes = is-blank x p lo hi

  pub blank-not : count_of p k ≢ 0 → blank s p ≡ false
  blank-not = not-blank x p lo hi

  -- a page in a frame has a change
  pub in_frame : (j : ℕ) → j < 16 → (frame_row s j).page ≡ p → (p ≤ g.pages) × (last_of p k ≢ 0)
  in_frame j b e =
      let nz : (frame_row s j).page ≢ 0 = λ z. omega arith in
      let fr = x.al.frames.each j (x.al.frames.inside j b nz) nz in
      let h : p ≤ g.pages = rw e at fr.high in
      (h, λ z. let y : last_of (frame_row s j).page x.all ≡ 0 = rw e (last-all z) in omega (arith, fr.some))
    where
      last-all : last_of p k ≡ 0 → last_of p x.all ≡ 0
      last-all z = sym (ap (λ y. y.last) (x.al.index.entry p lo hi)) ∙ (last-is x p lo hi ∙ z)

  -- ---- found in a frame

  module _ (h : held s p ≡ true) where
    pub fo : Found x p
    fo = found-frame x p lo (rw h)

    abbrev f : ℕ
    f = fo.row

    pub f16 : fo.row < 16
    f16 = omega (arith, fo.in_table, x.al.memory.high)

    pub low : fo.row < t.frames
    low = elim (dec_lt fo.row t.frames) [
      | yes y ↦ y
      | no z ↦ absurd (let e : p ≡ 0 = sym fo.page-is ∙ full.sim.inside fo.row f16 (omega arith) in omega arith)
    ]

    holding-is : holding mo.frames p t.frames ≡ suc fo.row
    holding-is =
        holding-one ms p t.frames f low (alike-page f f16 ∙ fo.page-is)
        (λ i b e. one-row x f i f16 (omega arith) (λ z. omega (arith, sym fo.page-is ∙ z))
        (sym (alike-page i (omega arith)) ∙ (e ∙ sym fo.page-is)))

    pub touched-found : (i : ℕ) (c : Bool) → touched t i mo p c ≡ found_in i mo p c fo.row
    unfolding touched
    touched-found i c = let e : suc fo.row - 1 ≡ fo.row = omega arith in rw (holding-is, lt-ltb 0 (suc fo.row) (omega arith), e)

    pub arrived-found : Arrived t events mo.frames g v s k fo.row p (frame_row s fo.row).dirty
    arrived-found =
        record {
          sim = record {
            frames = record { size = full.sim.frames.size; each = λ j b n. full.sim.frames.each j b (λ z. omega arith) };
            inside = full.sim.inside;
            begun = full.sim.begun;
            disk = go t.victim full.sim.disk;
          };
          backs = full.backs;
          quiet = full.quiet;
          row_is = ap (λ (q : ℕ). record { page = q; dirty = (frame_row s fo.row).dirty }) fo.page-is;
          alone = λ j b n e. n (one-row x f j f16 b (λ z. omega (arith, sym fo.page-is ∙ z)) (e ∙ sym fo.page-is));
          mine = own t.victim full.sim.disk;
        }
      where
        go : (w : Victim) → OnDisk w g v s k 16 0 → OnDisk w g v s k f p
        go Written d = λ q a b ne some. ⊎_elim
            (λ (y : DirtyIn s q 16). inl (record {
              row = y.row;
              below = y.below;
              other = λ z. ne (sym y.page-is ∙ (ap (λ (i : ℕ). (frame_row s i).page) z ∙ fo.page-is));
              page-is = y.page-is;
              dirty-is = y.dirty-is;
            }))
            inr (d q a b (λ z. omega arith) some)
        go Released d = (d.0, λ j b n nz. d.1 j b (λ z. omega arith) nz)

        own : (w : Victim) → OnDisk w g v s k 16 0 → Mine w g v k p (frame_row s f).dirty
        own Written d = ⊎_elim
            (λ (y : DirtyIn s p 16).
            let e : y.row ≡ f =
            one-row x f y.row f16 y.below (λ z. omega (arith, sym fo.page-is ∙ z)) (y.page-is ∙ sym fo.page-is) in
            inl (ap (λ (i : ℕ). (frame_row s i).dirty) (sym e) ∙ y.dirty-is))
            inr (d p lo (in_frame f f16 fo.page-is).0 (λ z. omega arith) (in_frame f f16 fo.page-is).1)
        own Released d = d.1 f f16 (λ z. omega (arith, f16)) (λ z. omega (arith, sym fo.page-is ∙ z))

  -- ---- brought into the least recently used frame

  module _ (h : held s p ≡ false) where
    pub absent : (j : ℕ) → j < 16 → (frame_row s j).page ≢ p
    absent j b = not-held s p h j (omega (arith, x.al.frames.size))

    pub row : ℕ
    row = least_used mo.frames t.frames

    abbrev vi : (victim_row t.frames events s ≡ least_used mo.frames t.frames) × (least_used mo.frames t.frames < t.frames)
    vi = victim-is events mo.frames s full.sim.frames t.frames F1 F16

    pub row_low : row < t.frames
    unfolding row
    row_low = vi.1

    pub row-victim : victim_row t.frames events s ≡ row
    unfolding row
    row-victim = vi.0

    pub row16 : row < 16
    row16 = omega (arith, row_low)

    pub touched-missing : (i : ℕ) (c : Bool) → touched t i mo p c ≡ missing t i mo p c row
    unfolding touched row
    touched-missing i c = let e : holding mo.frames p t.frames
        ≡ 0 = holding-none ms p t.frames (λ j b z. absent j (omega arith) (sym (alike-page j (omega arith)) ∙ z)) in rw e

    -- the page there makes way
    pub eviction-stage : (play_calls (Run v m past s mo.pages) (eviction_calls t (frame_row s row))).refused ≡ false
        → Stage C g (play_calls (Run v m past s mo.pages) (eviction_calls t (frame_row s row))) (evicted t mo row) k []
        (λ v' s'. Away t events mo.frames g v' s' k row (frame_row s row).page (evicted t mo row))
    eviction-stage =
        eviction x t F16 events mo row row_low (alike row row16) full.sim full.backs full.quiet full.rows
        (frame_row s row).dirty refl t.victim refl

    -- the page there makes way, and a page with changes is loaded
    pub loaded : count_of p k ≢ 0
        → (play_call (play_calls (Run v m past s mo.pages) (eviction_calls t (frame_row s row))) (Load p (suc row), no_payload)).refused ≡ false
        → Stage C g (play_call (play_calls (Run v m past s mo.pages) (eviction_calls t (frame_row s row))) (Load p (suc row), no_payload))
        (brought_in t (evicted t mo row) p) k []
        (λ v' s'. Arrived t events mo.frames g v' s' k row p (not (victim_written t.victim)) × Rows
        (brought_in t (evicted t mo row) p) k)
    unfolding brought_in
    loaded nz nr =
        let r = play_calls (Run v m past s mo.pages) (eviction_calls t (frame_row s row)) in
        let a = eviction-stage (call_stays r (Load p (suc row), no_payload) nr) in
        let l = evicted t mo row in
        let b = load_step a.ctx ok t events ms row p row_low F16 l (subst (λ (y : Played). (play_call y
        (Load p (suc row), no_payload)).refused ≡ false) a.run_is nr) a.holds.sim a.holds.backs
        a.holds.quiet a.holds.rows in
        let c : (page_row l p).records ≡ count_of p k = a.holds.rows.records p lo hi in
        let z : eqb (page_row l p).records 0 ≡ false = ne_eqb (page_row l p).records 0 (λ y. nz (sym c ∙ y)) in
        let q : set_row l p (with_load (page_row l p) (replayed_by t (count_of p k))) ≡ cond (eqb (page_row l p).records 0) l
        (set_row l p (with_load (page_row l p) (replayed_by t (page_row l p).records))) = rw (z, c) in
        stage-as (ap (λ (y : Played). play_call y (Load p (suc row), no_payload)) a.run_is) q
        (record {
          volume = b.volume;
          memory = b.memory;
          past = b.past;
          state = b.state;
          run_is = b.run_is;
          ctx = b.ctx;
          holds = (b.holds.0, subst (λ (y : List Figures). Rows y k) q b.holds.1);
        })

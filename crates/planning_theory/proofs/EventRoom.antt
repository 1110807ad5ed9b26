-- One event of a run that has room: each of its calls is taken.
use mathlib.Core.Path.{◌≡◌, refl, sym, ap, ◌∙◌, subst}
use mathlib.Core.Logic.{◌≢◌, ⊎_elim}
use mathlib.Core.Bool.{Bool, true, false, not}
use mathlib.Core.List.{List, [], ◌∷◌, ◌++◌}
use Prim.Native.Nat.{ℕ, suc, ◌+◌, ◌≤◌, ◌<◌}
use native.Mathlib.Omega.{arith}
use native.Mathlib.Decide.{ℕ_discrete}
use lib.ListN.{length}
use lib.Dec.{eqb}
use borrow.Author.Tests.{eq-eqb, ne_eqb}
use Rattle.laws.proofs.Tables.{by_cases}
use Rattle.model.specs.Change.{fits}
use Rattle.model.specs.State.{frame_row, held, blank}
use Rattle.model.specs.Outcome.{StoredItem}
use Rattle.model.specs.Calls.{Call, no_payload}
use Rattle.model.specs.declared.{geometry.Geometry.Geometry, change.Change.TheVariants.Put, state.State.State}
use Rattle.model.specs.declared.command.Command.TheVariants.{Begin, Load, Force}
use Rattle.model.specs.AbstractLog.{Logged}
use Rattle.planning.specs.Rehearsal.{page_in, victim_written, page_row, set_row, with_change, evicted, brought_in, touched}
use Rattle.planning.specs.Rehearsal.{changed, step_on, total_of}
use Rattle.planning.specs.RehearsalRun.{Choice, eviction_calls, back_up, calls_of, Played, play_call, play_calls}
use Rattle.planning.specs.declared.rehearsal.Settings.{Settings}
use Rattle.planning.specs.declared.rehearsal.Access.{Access}
use Rattle.planning.specs.declared.rehearsal.Access.TheVariants.{Read, Change}
use Rattle.planning.specs.declared.rehearsal.FrameUse.{FrameUse}
use Rattle.planning.specs.declared.rehearsal.Figures.{Figures}
use Rattle.planning.specs.declared.rehearsal.Rehearsal.{Rehearsal}
use Rattle.history.proofs.Context.{Ctx, found-frame}
use Rattle.planning_theory.proofs.Counts.{count_of}
use Rattle.planning_theory.proofs.Play.{Run, Stage}
use Rattle.planning_theory.proofs.Relation.{Arrived, Rows, row_same, is-blank, not-blank, in-volume}
use Rattle.planning_theory.proofs.AwayStep.{Away}
use Rattle.planning_theory.proofs.Event.{Full, row_count, blank-yes, blank-not, fo, low, arrived-found}
use Rattle.planning_theory.proofs.Event.{touched-found, absent, row, row_low, row16, alike, touched-missing}
use Rattle.planning_theory.proofs.Event.{eviction-stage, loaded}
use Rattle.planning_theory.proofs.Backed.{page-high}
use Rattle.planning_theory.proofs.EventCalls.{put_of, put_logged, begin_logged, put_on, found-calls, read-calls}
use Rattle.planning_theory.proofs.EventCalls.{loaded-calls, begun-calls, begin-on}
use Rattle.planning_theory.proofs.Taken.{begin-free, change-free, load-free}
use Rattle.planning_theory.proofs.Totals.{notes-grow, grows-trans, brought-grows, change-grows}
use Rattle.planning_theory.proofs.Tally.{Tally}
use Rattle.planning_theory.proofs.Going.{Going, going, not-refused, going-any, tally-of, begin-goes, change-goes}
use Rattle.planning_theory.proofs.Going.{load_goes, force-goes}
use Rattle.planning_theory.proofs.StepRoom.{way-goes, change-record, record-room, backed-goes}

-- room for an event that leaves these figures, and makes its calls by choice c for page p
pub record Room (g : Geometry) (c : Choice) (p : ℕ) (top : List Figures) : Type 0 where
  pub page : 1 ≤ (page_row top p).records → p ≤ g.pages
  pub records : (total_of top 64).records ≤ g.records
  pub notes : (total_of top 64).notes ≤ g.notes
  pub slot-low : 1 ≤ c.slot
  pub slot-high : c.slot ≤ g.slots
  pub puts : fits (Put c.offset c.length) ≡ true

module _ {C : Type 0} {g : Geometry} {v m : List ℕ} {past : List StoredItem} {s : State} {k : List Logged} (x : Ctx C g v m past s k [])
    (ok : C) (t : Settings)
    (F1 : 1 ≤ t.frames) (F16 : t.frames ≤ 16) (K1 : 1 ≤ t.every) (events : List ℕ) (mo : Rehearsal) (full : Full t events mo g v s k)
    (p : ℕ) (lo : 1 ≤ p) (hi : p ≤ 64)
    (b : ℕ) (y : Tally t b m s mo.pages) where
  abbrev run : Played
  run = Run v m past s mo.pages

  -- ---- the page is brought in

  module _ (h : held s p ≡ false) (room : (total_of (evicted t mo (row x ok t F1 F16 K1 events mo full p lo hi h)) 64).notes ≤ g.notes) where
    abbrev f : ℕ
    f = row x ok t F1 F16 K1 events mo full p lo hi h

    abbrev way : Played
    way = play_calls run (eviction_calls t (frame_row s f))

    f-low : row x ok t F1 F16 K1 events mo full p lo hi h < t.frames
    f-low = row_low x ok t F1 F16 K1 events mo full p lo hi h

    f-16 : row x ok t F1 F16 K1 events mo full p lo hi h < 16
    f-16 = row16 x ok t F1 F16 K1 events mo full p lo hi h

    went : Going C g t b way
    went =
        way-goes x t F16 events mo f f-low (alike x ok t F1 F16 K1 events mo full p lo hi f f-16) full.quiet b y room
        (frame_row s f).dirty refl t.victim refl

    left : Stage C g way (evicted t mo f) k [] (λ v' s'. Away t events mo.frames g v' s' k f (frame_row s f).page (evicted t mo f))
    left = eviction-stage x ok t F1 F16 K1 events mo full p lo hi h (not-refused went)

    tally : (a : Stage C g way (evicted t mo f) k []
        (λ v' s'. Away t events mo.frames g v' s' k f (frame_row s f).page (evicted t mo f)))
        → Tally t b a.memory a.state (evicted t mo f)
    tally a = tally-of went a.volume a.memory a.past a.state (evicted t mo f) a.run_is

    -- it is in no frame
    nowhere : (v' : List ℕ) (s' : State) → Away t events mo.frames g v' s' k f (frame_row s f).page (evicted t mo f) → (j : ℕ) → j < 16
        → (frame_row s' j).page ≢ p
    nowhere v' s' a j c e = elim (ℕ_discrete j f) [
      | yes z ↦ ⊎_elim
          (λ (q : (frame_row s' f).page ≡ (frame_row s f).page). absent x ok t F1 F16 K1 events mo full p lo hi h f f-16 (sym q ∙ (rw z at e)))
          (λ (q : (frame_row s' f).page ≡ 0). let u : p ≡ 0 = sym (rw z at e) ∙ q in omega arith) a.left
      | no z ↦
          let q : (frame_row s j).page ≡ (frame_row s' j).page =
          ap (λ (u : FrameUse). u.page) (sym (alike x ok t F1 F16 K1 events mo full p lo hi j c) ∙ a.sim.frames.each j c z) in
          absent x ok t F1 F16 K1 events mo full p lo hi h j c (q ∙ e)
    ]

    free : (a : Stage C g way (evicted t mo f) k [] (λ v' s'. Away t events mo.frames g v' s' k f (frame_row s f).page (evicted t mo f)))
        → held a.state p ≡ false
    free a = by_cases (held a.state p)
        (λ z. let d = found-frame a.ctx p lo (rw z) in absurd
        (nowhere a.volume a.state a.holds d.row (omega (arith, d.in_table, a.ctx.al.memory.high)) d.page-is))
        (λ z. z)

    loaded-goes : count_of p k ≢ 0 → Going C g t b (play_call way (Load p (suc f), no_payload))
    loaded-goes nz =
        let a = left in
        let y₁ = tally a in
        subst (λ (r : Played). Going C g t b (play_call r (Load p (suc f), no_payload))) (sym a.run_is)
        (load_goes a.ctx t b (evicted t mo f) y₁ p (suc f)
        (load-free a.ctx ok p lo (in-volume a.ctx p nz) f t.frames f-low F16 y₁.frames (not-blank a.ctx p lo hi nz)
        (free a)))

    begun-goes : count_of p k ≡ 0 → p ≤ g.pages → length k < g.records → (fill : ℕ)
        → Going C g t b (play_call (play_call way (Begin p (suc f) fill, no_payload)) (Force, no_payload))
    begun-goes z pg r fill =
        let a = left in
        let y₁ = tally a in
        force-goes (subst (λ (r : Played). Going C g t b (play_call r (Begin p (suc f) fill, no_payload))) (sym a.run_is)
        (begin-goes a.ctx t b (evicted t mo f) y₁ p (suc f) fill
        (begin-free a.ctx p f fill t.frames lo pg f-low F16 y₁.frames (is-blank a.ctx p lo hi z) r)))

  -- a put and its Force, of a page that is in row f
  put-goes : (c : Choice) → length c.payload ≡ 44 → fits (Put c.offset c.length) ≡ true
      → (r : Played) (f : ℕ) (d : Bool) (l : List Figures) → f < t.frames
      → Stage C g r l k [] (λ v' s'. Arrived t events mo.frames g v' s' k f p d × Rows l k) → Going C g t b r → length k < g.records
      → Going C g t b (play_call (play_call r (put_of c p)) (Force, no_payload))
  put-goes c pays ft r f d l fl a go room =
      let pg : (frame_row a.state f).page ≡ p = ap (λ u. u.page) a.holds.0.row_is in
      let f16 : f < 16 = omega arith in
      force-goes (subst (λ (u : Played). Going C g t b (play_call u (put_of c p))) (sym a.run_is)
      (change-goes a.ctx t b l (tally-of go a.volume a.memory a.past a.state l a.run_is) p (Put c.offset c.length)
      c.payload pays
      (change-free a.ctx p f (Put c.offset c.length) c.payload lo (page-high a.ctx p f lo f16 pg) f16 pg ft room)))

-- ---- the event

module _ {C : Type 0} {g : Geometry} {v m : List ℕ} {past : List StoredItem} {s : State} {k : List Logged} (x : Ctx C g v m past s k [])
    (ok : C) (t : Settings)
    (F1 : 1 ≤ t.frames) (F16 : t.frames ≤ 16) (K1 : 1 ≤ t.every) (events : List ℕ) (mo : Rehearsal) (full : Full t events mo g v s k)
    (p : ℕ) (lo : 1 ≤ p) (hi : p ≤ 64)
    (c : Choice) (pays : length c.payload ≡ 44) (y : Tally t c.slot m s mo.pages) where
  abbrev i : ℕ
  i = suc (length events)

  abbrev run₁ : Played
  run₁ = Run v m past s mo.pages

  abbrev bu : List Call
  bu = back_up t c p (suc (count_of p k))

  begins : Going C g t c.slot (Run v m past s mo.pages)
  begins = going x t c.slot mo.pages y

  -- a put, its Force and its backup, of a page with changes that is in row f
  put-ends : (r : Played) (f : ℕ) (d : Bool) (l : List Figures) → f < t.frames
      → Stage C g r l k [] (λ v' s'. Arrived t events mo.frames g v' s' k f p d × Rows l k)
      → Going C g t c.slot r → Room g c p (set_row l p (with_change t.every (page_row l p)))
      → Going C g t 0 (play_calls (play_call (play_call r (put_of c p)) (Force, no_payload)) bu)
  put-ends r f d l fl a go room =
      let f16 : f < 16 = omega arith in
      let pg : (frame_row a.state f).page ≡ p = ap (λ u. u.page) a.holds.0.row_is in
      let go₁ = put-goes x ok t F1 F16 K1 events mo full p lo hi c.slot y c pays room.puts r f d l fl a go
      (record-room C g t events mo.frames f p f16 lo hi l k a.ctx a.holds.1 room.records) in
      let a₁ = put_on x ok t F1 F16 K1 events mo full p lo hi c pays r f d l fl a (not-refused go₁) in
      backed-goes C g t events mo.frames f p f16 lo hi l (k ++ (put_logged c p ∷ []))
      (play_call (play_call r (put_of c p)) (Force, no_payload)) c
      (count_of p k) (a.holds.1.records p lo hi) a.holds.1.size a₁ go₁
      room.slot-low room.slot-high (page-high a.ctx p f lo f16 pg) room.notes

  -- the figures after a change
  top-is : (l : List Figures) → (touched t i mo p true).pages ≡ l → Room g c p (step_on t i mo (Change p)).pages
      → Room g c p (set_row l p (with_change t.every (page_row l p)))
  unfolding step_on changed
  top-is l e = subst (λ (u : List Figures). Room g c p (set_row u p (with_change t.every (page_row u p)))) e

  module _ (room : Room g c p (step_on t (suc (length events)) mo (Change p)).pages) where
    abbrev Goes : Played → Type 0
    Goes r = Going C g t 0 r

    change-found : held s p ≡ true → Goes (play_calls (Run v m past s mo.pages) (calls_of t c events s (Change p)))
    change-found h =
        let f = (fo x ok t F1 F16 K1 events mo full p lo hi h).row in
        let l-is : (touched t i mo p true).pages ≡ mo.pages =
        ap (λ (u : Rehearsal). u.pages) (touched-found x ok t F1 F16 K1 events mo full p lo hi h i true) in
        subst Goes (sym (found-calls x ok t F1 F16 K1 events mo full p lo hi c pays h))
        (put-ends run₁ f (frame_row s f).dirty mo.pages (low x ok t F1 F16 K1 events mo full p lo hi h)
        (record {
          volume = v;
          memory = m;
          past = past;
          state = s;
          run_is = refl;
          ctx = x;
          holds = (arrived-found x ok t F1 F16 K1 events mo full p lo hi h, full.rows);
        }) begins (top-is mo.pages l-is room))

    module _ (h : held s p ≡ false) where
      abbrev f₁ : ℕ
      f₁ = row x ok t F1 F16 K1 events mo full p lo hi h

      abbrev way₁ : Played
      way₁ = play_calls run₁ (eviction_calls t (frame_row s f₁))

      -- the page that makes way has its note
      abbrev brought : List Figures
      brought = brought_in t (evicted t mo f₁) p

      fresh : Room g c p (set_row (brought_in t (evicted t mo f₁) p) p (with_change t.every (page_row (brought_in t (evicted t mo f₁) p) p)))
      fresh = top-is brought (ap (λ (u : Rehearsal). u.pages) (touched-missing x ok t F1 F16 K1 events mo full p lo hi h i true)) room

      evicts : (total_of (evicted t mo f₁) 64).notes ≤ g.notes
      evicts =
          let n = notes-grow (grows-trans (brought-grows t (evicted t mo f₁) p) (change-grows t brought p)) 64 in omega
          (arith, n, fresh.notes)

      change-loaded : count_of p k ≢ 0 → Goes (play_calls (Run v m past s mo.pages) (calls_of t c events s (Change p)))
      change-loaded nz =
          let go = loaded-goes x ok t F1 F16 K1 events mo full p lo hi c.slot y h evicts nz in
          subst Goes (sym (loaded-calls x ok t F1 F16 K1 events mo full p lo hi c pays h nz))
          (put-ends (play_call way₁ (Load p (suc f₁), no_payload)) f₁ (not (victim_written t.victim)) brought
          (row_low x ok t F1 F16 K1 events mo full p lo hi h)
          (loaded x ok t F1 F16 K1 events mo full p lo hi h nz (not-refused go)) go fresh)

      change-begun : count_of p k ≡ 0 → Goes (play_calls (Run v m past s mo.pages) (calls_of t c events s (Change p)))
      unfolding brought_in
      change-begun z =
          let l = evicted t mo f₁ in
          let a = left x ok t F1 F16 K1 events mo full p lo hi c.slot y h evicts in
          let f16 : f₁ < 16 = row16 x ok t F1 F16 K1 events mo full p lo hi h in
          let cnt : (page_row l p).records ≡ count_of p k = a.holds.rows.records p lo hi in
          let same : brought_in t l p ≡ l =
          let u : eqb (page_row l p).records 0 ≡ true = eq-eqb (page_row l p).records 0 (cnt ∙ z) in rw u in
          let rm : Room g c p (set_row l p (with_change t.every (page_row l p))) =
          subst (λ (u : List Figures). Room g c p (set_row u p (with_change t.every (page_row u p)))) same fresh in
          let some : (page_row (set_row l p (with_change t.every (page_row l p))) p).records ≡ (page_row l p).records + 1 =
          ap (λ (u : Figures). u.records) (row_same l p lo hi a.holds.rows.size (with_change t.every (page_row l p))) ∙ change-record
          t.every (page_row l p) in
          let pg : p ≤ g.pages = rm.page (omega arith) in
          let go = begun-goes x ok t F1 F16 K1 events mo full p lo hi c.slot y h evicts z pg
          (record-room C g t events mo.frames f₁ p f16 lo hi l k a.ctx a.holds.rows rm.records) c.fill in
          subst Goes (sym (begun-calls x ok t F1 F16 K1 events mo full p lo hi c pays h z))
          (backed-goes C g t events mo.frames f₁ p f16 lo hi l (k ++ (begin_logged c p ∷ []))
          (play_call (play_call way₁ (Begin p (suc f₁) c.fill, no_payload)) (Force, no_payload)) c (count_of p k) cnt a.holds.rows.size
          (begin-on x ok t F1 F16 K1 events mo full p lo hi c pays h z (not-refused go)) go rm.slot-low rm.slot-high pg rm.notes)

    change-goes-on : Goes (play_calls (Run v m past s mo.pages) (calls_of t c events s (Change p)))
    change-goes-on =
        by_cases (held s p) change-found (λ h. elim (ℕ_discrete (count_of p k) 0) [ yes z ↦ change-begun h z | no z ↦ change-loaded h z ])

  module _ (room : Room g c p (step_on t (suc (length events)) mo (Read p)).pages) where
    read_none : calls_of t c events s (Read p) ≡ [] → Going C g t 0 (play_calls (Run v m past s mo.pages) (calls_of t c events s (Read p)))
    unfolding play_calls
    read_none e = subst (λ (l : List Call). Going C g t 0 (play_calls run₁ l)) (sym e) (going-any begins)

    read-loaded : (nz : count_of p k ≢ 0) (h : held s p ≡ false)
        → Going C g t 0 (play_calls (Run v m past s mo.pages) (calls_of t c events s (Read p)))
    unfolding step_on
    read-loaded nz h =
        let f = row x ok t F1 F16 K1 events mo full p lo hi h in
        let l = evicted t mo f in
        let z : eqb (page_row mo.pages p).records 0 ≡ false =
        ne_eqb (page_row mo.pages p).records 0 (λ q. nz (sym (row_count x ok t F1 F16 K1 events mo full p lo hi) ∙ q)) in
        let top : (total_of (touched t i mo p false).pages 64).notes ≤ g.notes = rw z at room.notes in
        let at_top : (total_of (brought_in t l p) 64).notes ≤ g.notes =
        rw (touched-missing x ok t F1 F16 K1 events mo full p lo hi h i false) at top in
        let n = notes-grow (brought-grows t l p) 64 in
        subst (λ (r : Played). Going C g t 0 r) (sym (read-calls x ok t F1 F16 K1 events mo full p lo hi c pays h nz))
        (going-any (loaded-goes x ok t F1 F16 K1 events mo full p lo hi c.slot y h (omega (arith, n, at_top)) nz))

    read-goes-on : Going C g t 0 (play_calls (Run v m past s mo.pages) (calls_of t c events s (Read p)))
    unfolding calls_of
    read-goes-on = elim (ℕ_discrete (count_of p k) 0) [
      | yes z ↦ read_none (let u : blank s p ≡ true = blank-yes x ok t F1 F16 K1 events mo full p lo hi z in rw u)
      | no nz ↦ by_cases (held s p)
          (λ h. read_none (let u : blank s p ≡ false = blank-not x ok t F1 F16 K1 events mo full p lo hi nz in rw (u, h)))
          (read-loaded nz)
    ]

  pub event-goes : (a : Access) → page_in a ≡ p → Room g c p (step_on t (suc (length events)) mo a).pages
      → Going C g t 0 (play_calls (Run v m past s mo.pages) (calls_of t c events s a))
  event-goes (Read q) e room =
      subst (λ (r : ℕ). Going C g t 0 (play_calls run₁ (calls_of t c events s (Read r)))) (sym e)
      (read-goes-on (subst (λ (r : ℕ). Room g c p (step_on t i mo (Read r)).pages) e room))
  event-goes (Change q) e room =
      subst (λ (r : ℕ). Going C g t 0 (play_calls run₁ (calls_of t c events s (Change r)))) (sym e)
      (change-goes-on (subst (λ (r : ℕ). Room g c p (step_on t i mo (Change r)).pages) e room))

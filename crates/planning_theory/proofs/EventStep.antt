-- One event, whole: a change with its Force and its backup, or a read.
use mathlib.Core.Path.{◌≡◌, refl, sym, ap, ◌∙◌, subst}
use mathlib.Core.Logic.{◌≢◌}
use mathlib.Core.Bool.{Bool, true, false, not}
use mathlib.Core.List.{List, [], ◌∷◌, ◌++◌}
use Prim.Native.Nat.{ℕ, suc, ◌≤◌, ◌<◌}
use native.Mathlib.Omega.{arith}
use native.Mathlib.Decide.{ℕ_discrete}
use lib.ListN.{length, set}
use lib.Dec.{eqb}
use borrow.Author.Tests.{eq-eqb}
use Rattle.laws.proofs.Tables.{by_cases}
use Rattle.model.specs.State.{frame_row, held}
use Rattle.model.specs.Outcome.{StoredItem}
use Rattle.model.specs.Calls.{Call, no_payload}
use Rattle.model.specs.declared.{geometry.Geometry.Geometry, state.State.State}
use Rattle.model.specs.declared.command.Command.TheVariants.{Begin, Load, Force}
use Rattle.model.specs.AbstractLog.{Logged}
use Rattle.planning.specs.Rehearsal.{access_of, page_in, victim_written, page_row, set_row, with_change, evicted, brought_in}
use Rattle.planning.specs.Rehearsal.{touched, changed, step_on}
use Rattle.planning.specs.RehearsalRun.{Choice, eviction_calls, back_up, calls_of, Played, play_call, play_calls}
use Rattle.planning.specs.declared.rehearsal.Settings.{Settings}
use Rattle.planning.specs.declared.rehearsal.Access.{Access}
use Rattle.planning.specs.declared.rehearsal.Access.TheVariants.{Read, Change}
use Rattle.planning.specs.declared.rehearsal.Figures.{Figures}
use Rattle.planning.specs.declared.rehearsal.Rehearsal.{Rehearsal}
use Rattle.history.proofs.Context.{Ctx}
use Rattle.planning_theory.proofs.Counts.{count_of, count-new, count-other}
use Rattle.planning_theory.proofs.Play.{Run, Stage, call_stays, calls-stay}
use Rattle.planning_theory.proofs.Relation.{Arrived, Rows, sim-used}
use Rattle.planning_theory.proofs.Event.{Full, After, fo, low, touched-found, arrived-found, row, row_low}
use Rattle.planning_theory.proofs.Event.{touched-missing, eviction-stage, loaded}
use Rattle.planning_theory.proofs.Backed.{changes-hit, changes-miss, page-high, backed}
use Rattle.planning_theory.proofs.EventCalls.{put_of, put_logged, begin_logged, put_on, found-calls, loaded-calls}
use Rattle.planning_theory.proofs.EventCalls.{begun-calls, begin-on}
use Rattle.planning_theory.proofs.ReadEvent.{read-event}

module _ {C : Type 0} {g : Geometry} {v m : List ℕ} {past : List StoredItem} {s : State} {k : List Logged}
    (x : Ctx C g v m past s k []) (ok : C) (t : Settings)
    (F1 : 1 ≤ t.frames) (F16 : t.frames ≤ 16) (K1 : 1 ≤ t.every) (events : List ℕ) (mo : Rehearsal) (full : Full t events mo g v s k)
    (p : ℕ) (lo : 1 ≤ p) (hi : p ≤ 64)
    (e : ℕ) (c : Choice) (pays : length c.payload ≡ 44) where
  abbrev i : ℕ
  i = suc (length events)

  abbrev run : Played
  run = Run v m past s mo.pages

  -- the end of a change
  change-end : (ea : access_of e ≡ Change p) (r : Played) (f : ℕ) (l : List Figures) (ch : Logged) → ch.page ≡ p → f < t.frames
      → touched t i mo p true ≡ record { frames = set mo.frames f (record { page = p; used = i; dirty = true }); pages = l }
      → Stage C g r (set_row l p (with_change t.every (page_row l p))) (k ++ (ch ∷ [])) []
      (λ v' s'. Arrived t events mo.frames g v' s' (k ++ (ch ∷ [])) f p true
      × Rows (set_row l p (with_change t.every (page_row l p))) (k ++ (ch ∷ [])))
      → After C g t (e ∷ events) (changed t (touched t i mo p true) p) r
  unfolding changed
  change-end ea r f l ch cp b q a =
      subst (λ (y : Rehearsal). After C g t (e ∷ events)
      (record { frames = y.frames; pages = set_row y.pages p (with_change t.every (page_row y.pages p)) }) r) (sym q) (record {
        log = k ++ (ch ∷ []);
        stage = record {
          volume = a.volume;
          memory = a.memory;
          past = a.past;
          state = a.state;
          run_is = a.run_is;
          ctx = a.ctx;
          holds =
              let h = a.holds.0 in
              record {
                sim = sim-used t events mo.frames g a.volume a.state (k ++ (ch ∷ [])) e p f true (ap page_in ea) (omega arith)
                    h.row_is h.alone h.sim h.mine;
                backs = h.backs;
                quiet = h.quiet;
                rows = a.holds.1;
                changes = λ r a₁ b₁. elim (ℕ_discrete r p) [
                  | yes z ↦ rw z (changes-hit e p events ea ∙ (ap suc (full.changes p lo hi)
                      ∙ sym (subst (λ (y : ℕ). count_of y (k ++ (ch ∷ [])) ≡ suc (count_of y k)) cp (count-new k ch))))
                  | no z ↦ changes-miss e p events r ea z ∙ (full.changes r a₁ b₁ ∙ sym (count-other k ch r (λ y. z (y ∙ cp))))
                ];
              };
        };
      })

  abbrev put : Call
  put = put_of c p

  abbrev bu : List Call
  bu = back_up t c p (suc (count_of p k))

  -- the change, its Force and its backup, of a page with changes that is in row f
  put-end : (ea : access_of e ≡ Change p) (r : Played) (f : ℕ) (d : Bool) (l : List Figures) → f < t.frames
      → touched t i mo p true ≡ record { frames = set mo.frames f (record { page = p; used = i; dirty = true }); pages = l }
      → Stage C g r l k [] (λ v' s'. Arrived t events mo.frames g v' s' k f p d × Rows l k)
      → (play_calls (play_call (play_call r put) (Force, no_payload)) bu).refused ≡ false
      → After C g t (e ∷ events) (changed t (touched t i mo p true) p) (play_calls (play_call (play_call r put) (Force, no_payload)) bu)
  put-end ea r f d l b q a nr =
      let h = a.holds.0 in
      let pg = ap (λ y. y.page) h.row_is in
      let a₁ = put_on x ok t F1 F16 K1 events mo full p lo hi c pays r f d l b a
      (calls-stay bu (play_call (play_call r put) (Force, no_payload)) nr) in
      change-end ea (play_calls (play_call (play_call r put) (Force, no_payload)) bu) f l (put_logged c p) refl b q
      (backed C g t F16 K1 events mo.frames f p (count_of p k) b lo (page-high a.ctx p f lo (omega arith) pg) hi l a.holds.1.size
      (a.holds.1.records p lo hi) (k ++ (put_logged c p ∷ []))
      (play_call (play_call r put) (Force, no_payload)) c a₁ nr)

  abbrev calls : List Call
  calls = calls_of t c events s (Change p)

  module _ (ea : access_of e ≡ Change p)
      (nr : (play_calls (Run v m past s mo.pages) (calls_of t c events s (Change p))).refused ≡ false) where
    abbrev End : Played → Type 0
    End r = After C g t (e ∷ events) (changed t (touched t i mo p true) p) r

    end-as : (r : Played) → play_calls run calls ≡ r → (r.refused ≡ false → End r) → End (play_calls run calls)
    end-as r q f = subst (λ (y : Played). End y) (sym q) (f (subst (λ (y : Played). y.refused ≡ false) q nr))

    change-found : (h : held s p ≡ true) → End (play_calls (Run v m past s mo.pages) (calls_of t c events s (Change p)))
    change-found h =
        let f = (fo x ok t F1 F16 K1 events mo full p lo hi h).row in
        end-as (play_calls (play_call (play_call run put) (Force, no_payload)) bu)
        (found-calls x ok t F1 F16 K1 events mo full p lo hi c pays h)
        (put-end ea run f (frame_row s f).dirty mo.pages (low x ok t F1 F16 K1 events mo full p lo hi h)
        (touched-found x ok t F1 F16 K1 events mo full p lo hi h i true)
        (record {
          volume = v;
          memory = m;
          past = past;
          state = s;
          run_is = refl;
          ctx = x;
          holds = (arrived-found x ok t F1 F16 K1 events mo full p lo hi h, full.rows);
        }))

    module _ (h : held s p ≡ false) where
      abbrev f : ℕ
      f = row x ok t F1 F16 K1 events mo full p lo hi h

      abbrev mw : List Call
      mw = eviction_calls t (frame_row s f)

      f-low : row x ok t F1 F16 K1 events mo full p lo hi h < t.frames
      f-low = row_low x ok t F1 F16 K1 events mo full p lo hi h

      change-loaded : count_of p k ≢ 0 → End (play_calls (Run v m past s mo.pages) (calls_of t c events s (Change p)))
      change-loaded nz =
          let ld : Call = (Load p (suc f), no_payload) in
          end-as (play_calls (play_call (play_call (play_call (play_calls run mw) ld) put) (Force, no_payload)) bu)
          (loaded-calls x ok t F1 F16 K1 events mo full p lo hi c pays h nz)
          (λ n. put-end ea (play_call (play_calls run mw) ld) f (not (victim_written t.victim)) (brought_in t (evicted t mo f) p) f-low
          (touched-missing x ok t F1 F16 K1 events mo full p lo hi h i true)
          (loaded x ok t F1 F16 K1 events mo full p lo hi h nz
          (call_stays (play_call (play_calls run mw) ld) put (call_stays (play_call (play_call (play_calls run mw) ld) put) (Force, no_payload)
          (calls-stay bu (play_call (play_call (play_call (play_calls run mw) ld) put) (Force, no_payload)) n)))) n)

      change-begun : count_of p k ≡ 0 → End (play_calls (Run v m past s mo.pages) (calls_of t c events s (Change p)))
      unfolding brought_in
      change-begun z = end-as (play_calls
          (play_call (play_call (play_calls run mw) (Begin p (suc f) c.fill, no_payload)) (Force, no_payload)) bu)
          (begun-calls x ok t F1 F16 K1 events mo full p lo hi c pays h z) begun
        where
          begun : (play_calls (play_call (play_call (play_calls run mw) (Begin p (suc f) c.fill, no_payload)) (Force, no_payload)) bu).refused ≡ false
              → End (play_calls (play_call (play_call (play_calls run mw) (Begin p (suc f) c.fill, no_payload)) (Force, no_payload)) bu)
          begun n =
              let r = play_call (play_call (play_calls run mw) (Begin p (suc f) c.fill, no_payload)) (Force, no_payload) in
              let l = evicted t mo f in
              let n₁ = calls-stay bu r n in
              let a = eviction-stage x ok t F1 F16 K1 events mo full p lo hi h
              (call_stays (play_calls run mw) (Begin p (suc f) c.fill, no_payload)
              (call_stays (play_call (play_calls run mw) (Begin p (suc f) c.fill, no_payload)) (Force, no_payload) n₁)) in
              let b = begin-on x ok t F1 F16 K1 events mo full p lo hi c pays h z n₁ in
              let pg : p ≤ g.pages = page-high b.ctx p f lo (omega (arith, f-low)) (ap (λ y. y.page) b.holds.0.row_is) in
              let cnt : (page_row l p).records ≡ count_of p k = a.holds.rows.records p lo hi in
              let same : brought_in t l p ≡ l =
              let y : eqb (page_row l p).records 0 ≡ true = eq-eqb (page_row l p).records 0 (cnt ∙ z) in rw y in
              change-end ea (play_calls r bu) f l (begin_logged c p) refl f-low
              (touched-missing x ok t F1 F16 K1 events mo full p lo hi h i true
              ∙ ap (λ (y : List Figures). record { frames = set mo.frames f (record { page = p; used = i; dirty = true }); pages = y })
              same)
              (backed C g t F16 K1 events mo.frames f p (count_of p k) f-low lo pg hi l a.holds.rows.size cnt
              (k ++ (begin_logged c p ∷ [])) r c b n)

    pub change-event : End (play_calls (Run v m past s mo.pages) (calls_of t c events s (Change p)))
    change-event =
        by_cases (held s p) change-found (λ h. elim (ℕ_discrete (count_of p k) 0) [ yes z ↦ change-begun h z | no z ↦ change-loaded h z ])

  pub event : (a : Access) → access_of e ≡ a → page_in a ≡ p
      → (play_calls (Run v m past s mo.pages) (calls_of t c events s a)).refused ≡ false
      → After C g t (e ∷ events) (step_on t i mo a) (play_calls (Run v m past s mo.pages) (calls_of t c events s a))
  unfolding step_on
  event (Read q) ea qp nr =
      let ea' : access_of e ≡ Read p = ea ∙ ap Read qp in
      subst (λ (r : ℕ). After C g t (e ∷ events) (step_on t i mo (Read r)) (play_calls run (calls_of t c events s (Read r)))) (sym qp)
      (read-event x ok t F1 F16 K1 events mo full p lo hi e c pays ea'
      (subst (λ (r : ℕ). (play_calls run (calls_of t c events s (Read r))).refused ≡ false) qp nr))
  event (Change q) ea qp nr =
      let ea' : access_of e ≡ Change p = ea ∙ ap Change qp in
      subst (λ (r : ℕ). After C g t (e ∷ events) (step_on t i mo (Change r)) (play_calls run (calls_of t c events s (Change r)))) (sym qp)
      (change-event ea' (subst (λ (r : ℕ). (play_calls run (calls_of t c events s (Change r))).refused ≡ false) qp nr))

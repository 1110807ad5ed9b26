-- An event that is a read, whole.
use mathlib.Core.Path.{◌≡◌, refl, sym, ap, ◌∙◌, subst}
use mathlib.Core.Logic.{◌≢◌}
use mathlib.Core.Bool.{Bool, true, false, not}
use mathlib.Core.List.{List, [], ◌∷◌}
use Prim.Native.Nat.{ℕ, suc, ◌≤◌, ◌<◌}
use native.Mathlib.Omega.{arith}
use native.Mathlib.Decide.{ℕ_discrete}
use lib.ListN.{length, set}
use lib.Dec.{eqb}
use borrow.Author.Tests.{eq-eqb, ne_eqb}
use Rattle.laws.proofs.Tables.{by_cases}
use Rattle.model.specs.State.{frame_row, held, blank}
use Rattle.model.specs.Outcome.{StoredItem}
use Rattle.model.specs.Calls.{no_payload}
use Rattle.model.specs.declared.{geometry.Geometry.Geometry, state.State.State}
use Rattle.model.specs.declared.command.Command.TheVariants.{Load}
use Rattle.model.specs.AbstractLog.{Logged}
use Rattle.planning.specs.Rehearsal.{access_of, page_in, victim_written, page_row, evicted, brought_in, found_in, touched}
use Rattle.planning.specs.Rehearsal.{step_on}
use Rattle.planning.specs.RehearsalRun.{Choice, eviction_calls, calls_of, Played, play_call, play_calls}
use Rattle.planning.specs.declared.rehearsal.Settings.{Settings}
use Rattle.planning.specs.declared.rehearsal.Access.TheVariants.{Read}
use Rattle.planning.specs.declared.rehearsal.Figures.{Figures}
use Rattle.planning.specs.declared.rehearsal.Rehearsal.{Rehearsal}
use Rattle.history.proofs.Context.{Ctx}
use Rattle.planning_theory.proofs.Counts.{count_of, count_none}
use Rattle.planning_theory.proofs.Play.{Run, Stage}
use Rattle.planning_theory.proofs.Relation.{Arrived, Rows, alike-idle, sim-used}
use Rattle.planning_theory.proofs.Event.{Full, After, in_frame, blank-yes, blank-not, row_count, fo, f16, low}
use Rattle.planning_theory.proofs.Event.{touched-found, arrived-found, row, row_low, alike, touched-missing}
use Rattle.planning_theory.proofs.Event.{loaded}
use Rattle.planning_theory.proofs.Backed.{changes-read}
use Rattle.planning_theory.proofs.EventCalls.{read-calls}

module _ {C : Type 0} {g : Geometry} {v m : List ℕ} {past : List StoredItem} {s : State} {k : List Logged}
    (x : Ctx C g v m past s k []) (ok : C) (t : Settings)
    (F1 : 1 ≤ t.frames) (F16 : t.frames ≤ 16) (K1 : 1 ≤ t.every) (events : List ℕ) (mo : Rehearsal) (full : Full t events mo g v s k)
    (p : ℕ) (lo : 1 ≤ p) (hi : p ≤ 64)
    (e : ℕ) (c : Choice) (pays : length c.payload ≡ 44) where
  abbrev i : ℕ
  i = suc (length events)

  abbrev run : Played
  run = Run v m past s mo.pages

  -- the end of a read
  read-end : (ea : access_of e ≡ Read p) (r : Played) (f : ℕ) (d : Bool) (l : List Figures) → f < t.frames
      → touched t i mo p false ≡ record { frames = set mo.frames f (record { page = p; used = i; dirty = d }); pages = l }
      → Stage C g r l k [] (λ v' s'. Arrived t events mo.frames g v' s' k f p d × Rows l k)
      → After C g t (e ∷ events) (touched t i mo p false) r
  read-end ea r f d l b q a =
      subst (λ (y : Rehearsal). After C g t (e ∷ events) y r) (sym q) (record {
        log = k;
        stage = record {
          volume = a.volume;
          memory = a.memory;
          past = a.past;
          state = a.state;
          run_is = a.run_is;
          ctx = a.ctx;
          holds =
              let h = a.holds.0 in
              record {
                sim = sim-used t events mo.frames g a.volume a.state k e p f d (ap page_in ea) (omega arith) h.row_is
                    h.alone h.sim h.mine;
                backs = h.backs;
                quiet = h.quiet;
                rows = a.holds.1;
                changes = λ q a₁ b₁. changes-read e p events q ea ∙ full.changes q a₁ b₁;
              };
        };
      })

  -- a read of a page without a change
  read-blank : (ea : access_of e ≡ Read p) → count_of p k ≡ 0 → After C g t (e ∷ events) mo run
  read-blank ea z =
      record {
        log = k;
        stage = record {
          volume = v;
          memory = m;
          past = past;
          state = s;
          run_is = refl;
          ctx = x;
          holds = record {
            sim = record {
              frames = alike-idle events mo.frames s e full.sim.frames
                  (λ j b q. (in_frame x ok t F1 F16 K1 events mo full p lo hi j b (q ∙ ap page_in ea)).1 (count_none p k (length k) z));
              inside = full.sim.inside;
              begun = full.sim.begun;
              disk = full.sim.disk;
            };
            backs = full.backs;
            quiet = full.quiet;
            rows = full.rows;
            changes = λ q a b. changes-read e p events q ea ∙ full.changes q a b;
          };
        };
      }

  module _ (ea : access_of e ≡ Read p) (nr : (play_calls (Run v m past s mo.pages) (calls_of t c events s (Read p))).refused ≡ false) where
    abbrev Ends : Played → Type 0
    Ends r = After C g t (e ∷ events) (touched t i mo p false) r

    ends_as : (r : Played) → play_calls run (calls_of t c events s (Read p)) ≡ r → (r.refused ≡ false → Ends r)
        → Ends (play_calls run (calls_of t c events s (Read p)))
    ends_as r q f = subst (λ (y : Played). Ends y) (sym q) (f (subst (λ (y : Played). y.refused ≡ false) q nr))

    read_found : count_of p k ≢ 0 → (h : held s p ≡ true) → Ends (play_calls (Run v m past s mo.pages) (calls_of t c events s (Read p)))
    unfolding calls_of play_calls
    read_found nz h =
        let f = (fo x ok t F1 F16 K1 events mo full p lo hi h).row in
        let nb : blank s p ≡ false = blank-not x ok t F1 F16 K1 events mo full p lo hi nz in
        ends_as run (rw (nb, h)) (λ n. read-end ea run f (frame_row s f).dirty mo.pages (low x ok t F1 F16 K1 events mo full p lo hi h)
        (touched-found x ok t F1 F16 K1 events mo full p lo hi h i false
        ∙ same (fo x ok t F1 F16 K1 events mo full p lo hi h).row (f16 x ok t F1 F16 K1 events mo full p lo hi h))
        (record {
          volume = v;
          memory = m;
          past = past;
          state = s;
          run_is = refl;
          ctx = x;
          holds = (arrived-found x ok t F1 F16 K1 events mo full p lo hi h, full.rows);
        }))
      where
        same : (f : ℕ) → f < 16 → found_in i mo p false f
            ≡ record { frames = set mo.frames f (record { page = p; used = i; dirty = (frame_row s f).dirty }); pages = mo.pages }
        same f b = rw (alike x ok t F1 F16 K1 events mo full p lo hi f b)

    read-loaded : count_of p k ≢ 0 → (h : held s p ≡ false) → Ends (play_calls (Run v m past s mo.pages) (calls_of t c events s (Read p)))
    read-loaded nz h =
        let f = row x ok t F1 F16 K1 events mo full p lo hi h in
        let r = play_call (play_calls run (eviction_calls t (frame_row s f))) (Load p (suc f), no_payload) in
        ends_as r (read-calls x ok t F1 F16 K1 events mo full p lo hi c pays h nz)
        (λ n. read-end ea r f (not (victim_written t.victim)) (brought_in t (evicted t mo f) p)
        (row_low x ok t F1 F16 K1 events mo full p lo hi h)
        (touched-missing x ok t F1 F16 K1 events mo full p lo hi h i false) (loaded x ok t F1 F16 K1 events mo full p lo hi h nz n))

    pub read-event : After C g t (e ∷ events) (step_on t i mo (Read p))
        (play_calls (Run v m past s mo.pages) (calls_of t c events s (Read p)))
    unfolding step_on calls_of play_calls
    read-event = elim (ℕ_discrete (count_of p k) 0) [
      | yes z ↦
          let y : eqb (page_row mo.pages p).records 0 ≡ true =
          eq-eqb (page_row mo.pages p).records 0 (row_count x ok t F1 F16 K1 events mo full p lo hi ∙ z) in
          let b : blank s p ≡ true = blank-yes x ok t F1 F16 K1 events mo full p lo hi z in
          rw (y, b) (read-blank ea z)
      | no nz ↦
          let y : eqb (page_row mo.pages p).records 0 ≡ false =
          ne_eqb (page_row mo.pages p).records 0 (λ q. nz (sym (row_count x ok t F1 F16 K1 events mo full p lo hi) ∙ q)) in
          rw y (by_cases (held s p) (read_found nz) (read-loaded nz))
    ]

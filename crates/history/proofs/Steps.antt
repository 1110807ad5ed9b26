-- One event, and a list of events, keep the invariant, under the tag that they leave. Beside it: which histories leave every noted backup
-- as it was stored.
use mathlib.Core.Path.{◌≡◌, refl, sym, ◌∙◌, subst}
use mathlib.Core.Logic.{◌≢◌, inl, inr, ⊎_elim}
use mathlib.Core.Bool.{Bool, true, false, cond, not, ◌&&◌, ◌||◌}
use mathlib.Core.List.{List, [], ◌∷◌}
use Prim.Native.Nat.{ℕ}
use lib.ListN.{length}
use lib.Dec.{eqb}
use borrow.Author.Tests.{eqb-true, not-true}
use Rattle.laws.proofs.Tables.{by_cases, and_left, and_right, or_cases, or-neither, true-not-false}
use Rattle.laws.proofs.Carrying.{carrying}
use Rattle.model.specs.Geometry.{carry_tag, geometry_of, with_tag}
use Rattle.model.specs.Passes.{is_image, passes_at}
use Rattle.model.specs.Scan.{index_of}
use Rattle.model.specs.Outcome.{StoredItem}
use Rattle.model.specs.Calls.{Call, outcome_of, restamp_of}
use Rattle.model.specs.AbstractLog.{AbstractLog, Left, old, new, torn, left_new, step_call, step_cut}
use Rattle.model.specs.History.{Power, off, on, Machine, Event, restart, perform, crash, crash_in, damage, lent}
use Rattle.model.specs.History.{is_restamp, is_start_carry, payload_fits, torn_fits, start_fits, stored_before, step, allowed}
use Rattle.model.specs.History.{step_log, all_allowed, run, log_after}
use Rattle.model.specs.Carry.{carries, starts_in}
use Rattle.model.specs.declared.{geometry.Geometry.Geometry, state.State.State}
use Rattle.history.proofs.Inv.{Inv}
use Rattle.history.proofs.Context.{Ctx}
use Rattle.history.proofs.Calls.{inv-call, inv-crash, plain-after, plain-left}
use Rattle.history.proofs.CarryCalls.{Turns, in_noted, inv-carry, start-cut, finish-cut, restamp-cut}
use Rattle.history.proofs.Events.{inv-restart, inv-crash-between, inv-damage}

-- ---- histories without harm to a noted backup

-- a crash within a Restamp of a noted backup leaves it torn
abbrev pub tears_noted : Power → List ℕ → Left → Bool
tears_noted off v l = false
tears_noted (on m s) v old = false
tears_noted (on m s) v new = false
tears_noted (on m s) v (torn xs) = in_noted s.index (restamp_of v m s).stored

-- damage, or such a crash
abbrev pub harms : Machine → Event → Bool
harms w (restart m) = false
harms w (perform c) = false
harms w crash = false
harms w (crash_in c l) = is_restamp c && tears_noted w.power w.volume l
harms w (damage at xs) = true

abbrev pub unharmed : Machine → List Event → Bool
unharmed w [] = true
unharmed w (e ∷ es) = not (harms w e) && unharmed (step w e) es

-- ---- the steps

abbrev pub Tied : Type 0 → Geometry → Machine → AbstractLog → Type 0
Tied C g w b = Inv C g w.volume w.past w.power b

-- the same counts, under the tag that events left, among them a Start or not
abbrev pub TiedTo : Type 0 → Bool → Geometry → Machine → AbstractLog → Type 0
TiedTo C start g w b = (tag : ℕ) × Turns start g tag × Tied C (with_tag g tag) w b

pub context : {C : Type 0} (g : Geometry) (v m : List ℕ) (past : List StoredItem) (s : State) (b : AbstractLog) → Inv C g v past (on m s) b
    → Ctx C g v m past s b.durable b.pending
context g v m past s b i = record { all = i.live.0; ns = i.ns; hs = i.holds; no = i.noted; ps = i.past-ok; al = i.live.1 }

module _ (g : Geometry) (C : Type 0) (v m : List ℕ) (past : List StoredItem) (s : State) (b : AbstractLog)
    (i : Inv C g v past (on m s) b) where
  abbrev here : Machine
  here = record { volume = v; power = on m s; past = past }

  -- a call
  call_step : (c : Call) → payload_fits c ≡ true → start_fits (on m s) v c ≡ true
      → TiedTo C (is_start_carry c) g (step here (perform c)) (step_log here b (perform c))
  unfolding step step_log
  call_step c p f = by_cases (carries c)
      (λ t. inv-carry (context g v m past s b i) c t f)
      (λ t. (g.tag, (λ z ne. refl), rw (plain-after c t v (outcome_of c v m s).stored past) (inv-call (context g v m past s b i) c t p)))

  -- a crash within a call
  carry-cut : (c : Call) → carries c ≡ true → (l : Left) → torn_fits (geometry_of v) (outcome_of c v m s).stored l ≡ true
      → (left_new l ≡ true → start_fits (on m s) v c ≡ true)
      → (C → (is_restamp c && tears_noted (on m s) v l) ≡ false)
      → TiedTo C (is_start_carry c) g (step here (crash_in c l)) (step_log here b (crash_in c l))
  unfolding step step_log step_cut step_call
  carry-cut c o l = carrying
      (λ c. torn_fits (geometry_of v) (outcome_of c v m s).stored l ≡ true → (left_new l ≡ true → start_fits (on m s) v c ≡ true)
      → (C → (is_restamp c && tears_noted (on m s) v l) ≡ false)
      → TiedTo C (is_start_carry c) g (step here (crash_in c l)) (step_log here b (crash_in c l)))
      (λ y t n u. start-cut (context g v m past s b i) y l n t)
      (λ y t n u.
      restamp-cut (context g v m past s b i) y l t (λ c xs e. subst (λ (y : Left). tears_noted (on m s) v y ≡ false) e (u c)))
      (λ y t n u. finish-cut (context g v m past s b i) y l t)
      c o

  cut_step : (c : Call) (l : Left) → torn_fits (geometry_of v) (outcome_of c v m s).stored l ≡ true
      → (left_new l ≡ true → start_fits (on m s) v c ≡ true)
      → (C → (is_restamp c && tears_noted (on m s) v l) ≡ false)
      → TiedTo C (is_start_carry c) g (step here (crash_in c l)) (step_log here b (crash_in c l))
  unfolding step step_log
  cut_step c l t n u = by_cases (carries c)
      (λ o. carry-cut c o l t n u)
      (λ o. (
        g.tag,
        (λ z ne. refl),
        rw (plain-left c o v (outcome_of c v m s).stored l past) (inv-crash (context g v m past s b i) c o l t),
      ))

module _ (C : Type 0) where
  by-start : {g : Geometry} {w : Machine} {b : AbstractLog} (start : Bool) → TiedTo C start g w b → TiedTo C (start || false) g w b
  by-start true x = x
  by-start false x = x

  -- one event
  one-step : (g : Geometry) (v : List ℕ) (past : List StoredItem) (x : Power) (b : AbstractLog) → Inv C g v past x b
      → (e : Event) → (C → harms (record { volume = v; power = x; past = past }) e ≡ false)
      → allowed (record { volume = v; power = x; past = past }) e ≡ true
      → TiedTo C (starts_in (e ∷ [])) g (step (record { volume = v; power = x; past = past }) e)
      (step_log (record { volume = v; power = x; past = past }) b e)
  unfolding step step_log allowed
  one-step g v past x b i (restart m) nd t = (g.tag, (λ z ne. refl), inv-restart g v past x b (lent x m) i)
  one-step g v past x b i crash nd t = (g.tag, (λ z ne. refl), inv-crash-between g v past x b i)
  one-step g v past off b i (perform c) nd t = absurd (true-not-false t refl)
  one-step g v past (on m s) b i (perform c) nd t =
      by-start (is_start_carry c) (call_step g C v m past s b i c (and_left (payload_fits c) (start_fits (on m s) v c) t)
      (and_right (payload_fits c) (start_fits (on m s) v c) t))
  one-step g v past off b i (crash_in c l) nd t = absurd (true-not-false t refl)
  one-step g v past (on m s) b i (crash_in c l) nd t =
      let torn-ok = torn_fits (geometry_of v) (outcome_of c v m s).stored l in
      let rest = payload_fits c && (not (left_new l) || start_fits (on m s) v c) in
      let r = and_right (payload_fits c) (not (left_new l) || start_fits (on m s) v c) (and_right torn-ok rest t) in
      by-start (is_start_carry c) (cut_step g C v m past s b i c l (and_left torn-ok rest t) (λ n. rw n at r) nd)
  one-step g v past x b i (damage at xs) nd t =
      let e = i.holds.vol.geo in
      let t₁ : (is_image g at && (eqb (length xs) 256 && (not (passes_at g (index_of g v) at xs) || stored_before at xs past))) ≡ true =
      rw e at t in
      let t₂ = and_right (is_image g at) (eqb (length xs) 256 && (not (passes_at g (index_of g v) at xs) || stored_before at xs past)) t₁ in (
        g.tag,
        (λ z ne. refl),
        rw e (inv-damage C g v past x b at xs (λ c. true-not-false refl (nd c)) (and_left (is_image g at) _ t₁)
            (eqb-true (length xs) 256 (and_left (eqb (length xs) 256) _ t₂))
            (⊎_elim (λ h. inl (not-true (passes_at g (index_of g v) at xs) h)) inr
            (or_cases (not (passes_at g (index_of g v) at xs)) (stored_before at xs past) (and_right (eqb (length xs) 256) _ t₂))) i),
      )

  pub all-steps : (es : List Event) (g : Geometry) (w : Machine) (b : AbstractLog) → Tied C g w b → (C → unharmed w es ≡ true)
      → all_allowed w es ≡ true → TiedTo C (starts_in es) g (run w es) (log_after w b es)
  unfolding all_allowed run log_after
  all-steps [] g w b i f t = (g.tag, (λ z ne. refl), i)
  all-steps (e ∷ es) g w b i f t =
      let r = both (allowed w e) (all_allowed (step w e) es) t in
      let one = one-step g w.volume w.past w.power b i e
      (λ c. not-true (harms w e) (and_left (not (harms w e)) (unharmed (step w e) es) (f c))) r.0 in
      let rest = all-steps es (with_tag g one.0) (step w e) (step_log w b e) one.2
      (λ c. and_right (not (harms w e)) (unharmed (step w e) es) (f c)) r.1 in
      (rest.0, turned e es g.tag one.0 rest.0 one.1 rest.1, rest.2)
    where
      apart : (e : Event) (es : List Event) → starts_in (e ∷ es) ≡ false → (starts_in (e ∷ []) ≡ false) × (starts_in es ≡ false)
      apart (restart m) es z = (refl, z)
      apart (perform c) es z = let q = or-neither (is_start_carry c) (starts_in es) z in (rw q.0 refl, q.1)
      apart crash es z = (refl, z)
      apart (crash_in c l) es z = let q = or-neither (is_start_carry c) (starts_in es) z in (rw q.0 refl, q.1)
      apart (damage at xs) es z = (refl, z)

      turned : (e : Event) (es : List Event) (a b c : ℕ) → (starts_in (e ∷ []) ≡ false → a ≢ carry_tag → b ≡ a)
          → (starts_in es ≡ false → b ≢ carry_tag → c ≡ b)
          → starts_in (e ∷ es) ≡ false → a ≢ carry_tag → c ≡ a
      turned e es a b c f h z ne =
          let q = apart e es z in
          let ba : b ≡ a = f q.0 ne in
          h q.1 (λ y. ne (sym ba ∙ y)) ∙ ba

      both : (p q : Bool) → cond p q false ≡ true → (p ≡ true) × (q ≡ true)
      both true q h = (refl, h)
      both false q h = absurd (true-not-false h refl)

-- What upkeep's calls keep, from mending's call to the next rest; the power stays on.
use mathlib.Core.Path.{◌≡◌, refl, sym, subst}
use mathlib.Core.Bool.{true, false, cond, not}
use mathlib.Core.List.{List, [], ◌∷◌}
use Prim.Native.Nat.{ℕ, zero, suc}
use lib.Dec.{eqb}
use Rattle.model.specs.Tables.{first_of}
use Rattle.model.specs.Geometry.{ring}
use Rattle.model.specs.Outcome.{StoredItem, volume_after}
use Rattle.model.specs.Calls.{Call, rows_of, outcome_of}
use Rattle.model.specs.AbstractLog.{AbstractLog, step_call, empty_log}
use Rattle.model.specs.History.{Power, off, on, Machine, perform, step, step_log, run, log_after}
use Rattle.model.specs.Carry.{starts_in}
use Rattle.model.specs.Claim.{History, Legal, fresh, reached, log_of}
use Rattle.model.specs.declared.{geometry.Geometry.Geometry, state.State.State}
use Rattle.history.proofs.Context.{Ctx}
use Rattle.history.proofs.Inv.{Inv}
use Rattle.history.proofs.Reached.{Undamaged, made_with, present, tied, uncarried}
use Rattle.history.proofs.Steps.{context}
use Rattle.upkeep_policy.specs.Upkeep.{Advice, idle, stuck, make, advice_of, then_call, upkeep_events}
use Rattle.upkeep_policy.specs.UpkeepClaim.{extended}
use Rattle.upkeep_theory.proofs.Comes.{advised-fits, may-come}
use Rattle.upkeep_theory.proofs.Shape.{Advised, advised}
use Rattle.upkeep_theory.proofs.Text.{run-append, log-append, log-more}
use Rattle.mend_theory.proofs.Less.{less}
use Rattle.mend_theory.proofs.Two.{one-inv}
use Rattle.mend_theory.proofs.Follows.{by-power}
use Rattle.mend_theory.proofs.Risks.{after_one}

-- of an uncarried history the invariant has Make's geometry
pub base : (h : History) → Legal h → starts_in h.events ≡ false
    → Inv ⊥ (made_with h) (reached h).volume (reached h).past (reached h).power (log_of h)
base h legal z =
    subst (λ (g : Geometry). Inv ⊥ g (reached h).volume (reached h).past (reached h).power (log_of h)) (uncarried h legal z)
    (less (Undamaged h) (present h) (reached h).volume (reached h).past (reached h).power (log_of h) (tied h legal))

abbrev pub Told : Type 1
Told = AbstractLog → List ℕ → State → Type 0

-- upkeep's calls keep it
abbrev pub Keeps : Geometry → ℕ → Told → Type 0
Keeps g r Q =
    (v m : List ℕ) (past : List StoredItem) (s : State) (b : AbstractLog) → Ctx ⊥ g v m past s b.durable b.pending
    → (c : Call) → Advised v m s r c → Q b v s
    → Q (cond (not (eqb (first_of (rows_of c v m s)) 0)) b (step_call b c)) (volume_after v (outcome_of c v m s).stored)
    (outcome_of c v m s).state

-- the power is on
abbrev OnAt : Told → Power → AbstractLog → List ℕ → Type 0
OnAt Q off b v = ⊥
OnAt Q (on m s) b v = Q b v s

module _ (g : Geometry) (turns : ring g ≡ true) (r : ℕ) (Q : Told) (one : Keeps g r Q) where
  abbrev At : Machine → AbstractLog → Type 0
  At w b = OnAt Q w.power b w.volume

  along-at : (n : ℕ)
      → ((w : Machine) (b : AbstractLog) → Inv ⊥ g w.volume w.past w.power b → At w b
      → At (run w (upkeep_events r n w)) (log_after w b (upkeep_events r n w)))
      → (v : List ℕ) (y : Power) (past : List StoredItem) (b : AbstractLog) → Inv ⊥ g v past y b → OnAt Q y b v
      → (a : Advice) → advice_of r (record { volume = v; power = y; past = past }) ≡ a
      → let w : Machine = record { volume = v; power = y; past = past } in
      let es = then_call a (λ c. upkeep_events r n (step w (perform c))) in
      At (run w es) (log_after w b es)
  unfolding run log_after step step_log
  along-at n ih v y past b i q idle e = q
  along-at n ih v y past b i q (stuck p) e = q
  along-at n ih v off past b i q (make c) e = absurd q
  along-at n ih v (on m s) past b i q (make c) e =
      let a = advised v m s r c e in
      let f = advised-fits v m s r c a in
      let may = may-come v m past s c f.0 f.1 in
      let w : Machine = record { volume = v; power = on m s; past = past } in
      ih (step w (perform c)) (step_log w b (perform c)) (one-inv g turns w b i (perform c) may.0 may.1)
      (one v m past s b (context g v m past s b i) c a q)

  along : (n : ℕ) (w : Machine) (b : AbstractLog) → Inv ⊥ g w.volume w.past w.power b → At w b
      → At (run w (upkeep_events r n w)) (log_after w b (upkeep_events r n w))
  unfolding run log_after upkeep_events
  along zero w b i q = q
  along (suc n) w b i q = along-at n (along n) w.volume w.power w.past b i q (advice_of r w) refl

-- at the next rest
pub record Stays (Q : Told) (e : History) : Type 0 where
  pub memory : List ℕ
  pub state : State
  pub is-on : (reached e).power ≡ on memory state
  pub holds : Q (log_of e) (reached e).volume state

stays : (Q : Told) (e : History) (y : Power) → (reached e).power ≡ y → OnAt Q y (log_of e) (reached e).volume → Stays Q e
stays Q e off z q = absurd q
stays Q e (on m s) z q = record { memory = m; state = s; is-on = z; holds = q }

-- after call c
abbrev pub Next : Told → History → List ℕ → State → Call → Type 0
Next Q h m s c =
    Q (cond (not (eqb (first_of (rows_of c (reached h).volume m s)) 0)) (log_of h) (step_call (log_of h) c))
    (volume_after (reached h).volume (outcome_of c (reached h).volume m s).stored) (outcome_of c (reached h).volume m s).state

pub onward : (Q : Told) (h : History) → ring (made_with h) ≡ true → (r : ℕ) → Keeps (made_with h) r Q
    → (m : List ℕ) (s : State) → (reached h).power ≡ on m s → (c : Call) → Next Q h m s c
    → Legal (extended h (perform c ∷ [])) → starts_in (extended h (perform c ∷ [])).events ≡ false → (n : ℕ)
    → let k = extended h (perform c ∷ []) in Stays Q (extended k (upkeep_events r n (reached k)))
unfolding reached log_of step step_log
onward Q h turns r one m s e c q legal' z' n =
    let g = made_with h in
    let k = extended h (perform c ∷ []) in
    let es = upkeep_events r n (reached k) in
    let w = reached h in
    let q0 : OnAt Q (step w (perform c)).power (step_log w (log_of h) (perform c)) (step w (perform c)).volume =
    by-power w.volume w.power w.past m s e
    (λ (u : Machine). OnAt Q (step u (perform c)).power (step_log u (log_of h) (perform c)) (step u (perform c)).volume) q in
    let q1 : OnAt Q (reached k).power (log_of k) (reached k).volume =
    subst (λ (b : AbstractLog). OnAt Q (reached k).power b (reached k).volume) (sym (log-more h (perform c)))
    (subst (λ (u : Machine). OnAt Q u.power (step_log w (log_of h) (perform c)) u.volume) (sym (after_one h (perform c))) q0) in
    let q2 = along g turns r Q one n (reached k) (log_of k) (base k legal' z') q1 in
    let we : reached (extended k es) ≡ run (reached k) es = run-append (fresh k) k.events es in
    let le : log_of (extended k es) ≡ log_after (reached k) (log_of k) es = log-append (fresh k) empty_log k.events es in
    stays Q (extended k es) (reached (extended k es)).power refl
    (subst (λ (b : AbstractLog). OnAt Q (reached (extended k es)).power b (reached (extended k es)).volume) (sym le)
    (subst (λ (u : Machine). OnAt Q u.power (log_after (reached k) (log_of k) es) u.volume) (sym we) q2))

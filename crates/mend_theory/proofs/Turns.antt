-- ME2: the alternation of mending's calls and upkeep's, step by step.
use mathlib.Core.Path.{◌≡◌, refl, sym, ap, ◌∙◌, subst}
use mathlib.Core.Logic.{inl, inr}
use mathlib.Core.Bool.{Bool, true, false}
use mathlib.Core.List.{List, [], ◌∷◌, ◌++◌, append_assoc, append-nil}
use Prim.Native.Nat.{ℕ, zero, suc, ◌+◌, ◌≤◌}
use native.Mathlib.Omega.{arith}
use lib.ListN.{length, length-append}
use Rattle.model.specs.Geometry.{geometry_of}
use Rattle.model.specs.Index.{entry_of}
use Rattle.model.specs.Calls.{Call}
use Rattle.model.specs.History.{Power, off, on, Machine, Event, perform, step, run}
use Rattle.model.specs.Carry.{starts_in}
use Rattle.model.specs.Claim.{History, Legal, fresh, reached}
use Rattle.model.specs.declared.state.State.{State}
use Rattle.upkeep_policy.specs.Upkeep.{idle, advice_in, upkeep_of, disciplined, upkeep_events}
use Rattle.upkeep_policy.specs.UpkeepClaim.{extended}
use Rattle.mend_policy.specs.Mend.{Mending, whole, single, lost, ahead, full, call, may_write, mend_of}
use Rattle.mend_policy.specs.MendClaim.{mend_in, then_mend, mend_events, EndsWith, EndedIn, Ended}
use Rattle.mend_theory.proofs.Risks.{after_one}
use Rattle.mend_theory.proofs.Round.{after}

-- mending has ended here
pub record Done (r W C p : ℕ) (h : History) : Type 0 where
  pub legal : Legal h
  pub uncarried : starts_in h.events ≡ false
  pub disciplined : disciplined r W C (fresh h) 0 h.events ≡ true
  pub ended : Ended r p (reached h)

-- it ends within j calls of its own, and n in all
pub record EndsIn (r W C p K j n : ℕ) (h : History) : Type 0 where
  pub done : Done r W C p (extended h (mend_events r p K j (reached h)))
  pub few : length (mend_events r p K j (reached h)) ≤ n

abbrev with_events : History → List Event → History
with_events h es =
    record {
      heading = h.heading;
      found = h.found;
      pages = h.pages;
      slots = h.slots;
      records = h.records;
      notes = h.notes;
      events = es;
    }

-- ---- where it has ended no event comes

answer-none : (may : Bool) (a : Mending) (f : Call → List Event) → EndsWith may a → then_mend idle a f ≡ []
answer-none may whole f q = refl
answer-none may single f q = refl
answer-none may lost f q = refl
answer-none may ahead f q = refl
answer-none may full f q = refl
answer-none may (call c) f q = absurd q

power-none : (r p : ℕ) (y : Power) (v : List ℕ) (f : Call → List Event) → EndedIn r p y v
    → then_mend (advice_in r y v) (mend_in r p y v) f ≡ []
power-none r p off v f q = absurd q
power-none r p (on m s) v f q =
    rw q.0 (answer-none (may_write (geometry_of v) (entry_of s.index p)) (mend_of v m s r p) f q.1)

ended-none : (r p K j : ℕ) (w : Machine) → Ended r p w → mend_events r p K j w ≡ []
unfolding mend_events
ended-none r p K zero w y = refl
ended-none r p K (suc j) w (inl q) = power-none r p w.power w.volume _ q
ended-none r p K (suc j) w (inr (q, e, z)) = rw e refl

pub ends_now : (r W C p K j n : ℕ) (h : History) → Done r W C p h → EndsIn r W C p K j n h
ends_now r W C p K j n h d =
    let e : mend_events r p K j (reached h) ≡ [] = ended-none r p K j (reached h) d.ended in
    record {
      done = subst (λ (es : List Event). Done r W C p (extended h es)) (sym e)
          (subst (λ (es : List Event). Done r W C p (with_events h es)) (sym (append-nil h.events)) d);
      few = rw e (omega arith);
    }

-- ---- one round at the front

module _ (r W C p K : ℕ) (h : History) (m : List ℕ) (s : State) (is-on : (reached h).power ≡ on m s)
    (rests : upkeep_of (reached h).volume m s r ≡ idle) (c : Call) (n : mend_of (reached h).volume m s r p ≡ call c) where
  abbrev first : History
  first = extended h (perform c ∷ [])

  abbrev calls : List Event
  calls = upkeep_events r K (reached (extended h (perform c ∷ [])))

  abbrev next : History
  next = extended (extended h (perform c ∷ [])) (upkeep_events r K (reached (extended h (perform c ∷ []))))

  events-are : (j : ℕ) → mend_events r p K (suc j) (reached h) ≡ perform c ∷ (calls ++ mend_events r p K j (reached next))
  unfolding mend_events
  events-are j =
      let w = reached h in
      let a : mend_events r p K (suc j) w ≡ perform c ∷ (upkeep_events r K (step w (perform c))
      ++ mend_events r p K j (run (step w (perform c)) (upkeep_events r K (step w (perform c))))) = rw (is-on, rests, n) refl in
      a ∙ (ap (λ (u : Machine). perform c ∷ (upkeep_events r K u ++ mend_events r p K j (run u (upkeep_events r K u))))
      (sym (after_one h (perform c)))
      ∙ ap (λ (u : Machine). perform c ∷ (calls ++ mend_events r p K j u)) (sym (after first calls)))

  pub ends-later : (j i a : ℕ) → EndsIn r W C p K j i next → suc (length calls) + i ≤ a → EndsIn r W C p K (suc j) a h
  ends-later j i a y le =
      let rest = mend_events r p K j (reached next) in
      let e = events-are j in
      let l : (h.events ++ (perform c ∷ [])) ++ calls ++ rest ≡ h.events ++ (perform c ∷ (calls ++ rest)) =
      append_assoc (h.events ++ (perform c ∷ [])) calls rest ∙ append_assoc h.events (perform c ∷ []) (calls ++ rest) in
      record {
        done = subst (λ (es : List Event). Done r W C p (extended h es)) (sym e)
            (subst (λ (es : List Event). Done r W C p (with_events h es)) l y.done);
        few = rw e (omega (arith, length-append calls rest, y.few, le));
      }

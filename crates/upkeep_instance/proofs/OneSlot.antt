-- One slot below T2's bound, B 1 where P + 1 is 2, it does not hold: the history is legal and disciplined, there is no
-- damage and no cut, and upkeep is stuck at page 1, which is in its frame.
use Prim.Native.Nat.{ℕ, zero, suc, ◌≤◌}
use mathlib.Core.Path.{◌≡◌, refl, ap, sym, ◌∙◌}
use mathlib.Core.Logic.{inl, inr}
use mathlib.Core.Bool.{true, false}
use mathlib.Core.List.{List, [], ◌∷◌, ◌++◌, append-nil}
use native.Mathlib.Omega.{arith}
use lib.Dec.{eqb→eq}
use Rattle.model.specs.State.{held}
use Rattle.model.specs.History.{Power, off, on, Machine, Event, perform, all_allowed, run}
use Rattle.model.specs.Claim.{History, Legal, fresh, reached}
use Rattle.model.specs.declared.{geometry.Heading.TheVariants.Second, state.State.State}
use Rattle.upkeep_policy.specs.Upkeep.{idle, stuck, advice_of, disciplined, upkeep_events}
use Rattle.upkeep_policy.specs.UpkeepClaim.{Roomy, LostIn, Rests, extended, bound}
use Rattle.cases.specs.Opened.{opened}
use Rattle.cases.specs.Build.{memory_in}
use Rattle.cases.specs.Calls.{force, write, note}
use Rattle.cases.specs.Rings.{put}
use Rattle.cases.specs.Worked.{history_with, makes}
use Rattle.cases.proofs.Tests.{holds, live, state_in}
use Rattle.upkeep_cases.specs.Turns.{first}
use Rattle.upkeep_instance.proofs.Advised.{stuck-is}

abbrev pub one_slot : History
one_slot =
    history_with Second 1 1 4 4 (first ++ (perform (put 2) ∷ perform force ∷ perform (write 1) ∷ perform note ∷ []))

abbrev s : State
s = state_in (reached one_slot).power

pub legal : Legal one_slot
unfolding opened
legal =
    record {
      make = eqb→eq (makes one_slot) 0 tt;
      events = holds (all_allowed (fresh one_slot) one_slot.events) tt;
    }

pub keeps : disciplined 2 1 1 (fresh one_slot) 0 one_slot.events ≡ true
unfolding opened
keeps = holds (disciplined 2 1 1 (fresh one_slot) 0 one_slot.events) tt

pub not-roomy : Roomy one_slot 1 1 → ⊥
not-roomy r = omega (arith, r.slots)

is-on : (reached one_slot).power ≡ on (memory_in (reached one_slot).power) s
unfolding opened
is-on = live (reached one_slot).power tt

is_stuck : advice_of 2 (reached one_slot) ≡ stuck 1
unfolding opened
is_stuck = stuck-is 1 (advice_of 2 (reached one_slot)) tt

in_frame : held s 1 ≡ true
unfolding opened
in_frame = holds (held s 1) tt

-- ---- so no call is advised, and this is no rest

no-calls : (w : Machine) (p : ℕ) → advice_of 2 w ≡ stuck p → (n : ℕ) → upkeep_events 2 n w ≡ []
unfolding upkeep_events
no-calls w p e zero = refl
no-calls w p e (suc n) = rw e

same_end : (n : ℕ) → reached (extended one_slot (upkeep_events 2 n (reached one_slot))) ≡ reached one_slot
unfolding reached
same_end n =
    rw (no-calls (reached one_slot) 1 is_stuck n)
    (ap (λ (es : List Event). run (fresh one_slot) es) (append-nil one_slot.events))

not-lost : (q : Power) (v m : List ℕ) (s' : State) (p : ℕ) → q ≡ on m s' → held s' p ≡ true → LostIn 2 q v p → ⊥
not-lost off v m s' p e h l = l
not-lost (on m₁ s₁) v m s' p e h l =
    let a : s₁ ≡ s' = cc in
    let b : held s₁ p ≡ true = ap (λ (x : State). held x p) a ∙ h in
    let z : true ≡ false = sym b ∙ l.0 in
    let y : ◌≡◌ {A = ℕ} 0 1 = cc in
    omega arith

no-rest : (w : Machine) (m : List ℕ) (s' : State) → advice_of 2 w ≡ stuck 1 → w.power ≡ on m s' → held s' 1 ≡ true
    → Rests 2 w → ⊥
no-rest w m s' e o h (inl i) = let z : idle ≡ stuck 1 = sym i ∙ e in let y : ◌≡◌ {A = ℕ} 0 1 = cc in omega arith
no-rest w m s' e o h (inr (p, i, l)) =
    let z : stuck p ≡ stuck 1 = sym i ∙ e in
    let y : p ≡ 1 = cc in
    not-lost w.power w.volume m s' p o (rw y h) l

pub never-rests :
    ((n : ℕ) × (n ≤ bound 1 1) × Rests 2 (reached (extended one_slot (upkeep_events 2 n (reached one_slot))))) → ⊥
never-rests x =
    no-rest (reached one_slot) (memory_in (reached one_slot).power) s is_stuck is-on in_frame
    (rw (same_end x.0) at x.2)

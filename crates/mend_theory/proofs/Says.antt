-- What mending calls whole is whole, by the volume alone.
use mathlib.Core.Path.{◌≡◌, refl, sym, ◌∙◌}
use mathlib.Core.Logic.{◌≢◌}
use mathlib.Core.Bool.{Bool, true, false, not, ◌&&◌, ◌||◌}
use mathlib.Core.List.{List}
use Prim.Native.Nat.{ℕ}
use native.Mathlib.Omega.{arith}
use lib.Dec.{eqb}
use borrow.Author.Tests.{not-false}
use Rattle.laws.proofs.Tables.{by_cases, and_both, or_left, or_right}
use Rattle.model.specs.Geometry.{ring, geometry_of}
use Rattle.model.specs.Index.{entry_of}
use Rattle.model.specs.Scan.{durable_count}
use Rattle.model.specs.State.{held}
use Rattle.model.specs.Repair.{state_view, class_in}
use Rattle.model.specs.Calls.{Call}
use Rattle.model.specs.Claim.{reached, durable_of}
use Rattle.model.specs.declared.state.State.{State}
use Rattle.history.proofs.Facts.{facts}
use Rattle.history.proofs.LogScan.{durable-count}
use Rattle.history.proofs.Reached.{present, tied}
use Rattle.upkeep_policy.specs.Upkeep.{Advice, idle, stuck, make, renew}
use Rattle.upkeep_theory.proofs.Idle.{renew-busy}
use Rattle.mend_policy.specs.Mend.{stands, reaches_from, reaches, margin, whole_page, may_write, is_ahead, is_stale, whole, single, lost, ahead, full, call, mending, mend_of}
use Rattle.mend_policy.specs.MendClaim.{WholeIsWhole}

call-whole : {A : Type 0} (c : Call) → call c ≡ whole → A
call-whole c e = let z : ◌≡◌ {A = ℕ} 0 1 = cc in absurd (omega arith)

full-whole : {A : Type 0} → full ≡ whole → A
full-whole e = let z : ◌≡◌ {A = ℕ} 0 1 = cc in absurd (omega arith)

lost-whole : {A : Type 0} → lost ≡ whole → A
lost-whole e = let z : ◌≡◌ {A = ℕ} 0 1 = cc in absurd (omega arith)

single-whole : {A : Type 0} → single ≡ whole → A
single-whole e = let z : ◌≡◌ {A = ℕ} 0 1 = cc in absurd (omega arith)

ahead-whole : {A : Type 0} → ahead ≡ whole → A
ahead-whole e = let z : ◌≡◌ {A = ℕ} 0 1 = cc in absurd (omega arith)

busy : {A : Type 0} (t : Bool) (a : Advice) → a ≢ idle → mending t a ≡ whole → A
busy t idle n e = absurd (n refl)
busy true (stuck p) n e = full-whole e
busy false (stuck p) n e = lost-whole e
busy t (make c) n e = call-whole c e

-- by the state
pub says-whole : (v m : List ℕ) (s : State) (r p : ℕ) → ring (geometry_of v) ≡ true → mend_of v m s r p ≡ whole
    → whole_page (geometry_of v) v (state_view (geometry_of v) v s p) (entry_of s.index p) s.durable p ≡ true
unfolding mend_of
says-whole v m s r p turns e =
    let g = geometry_of v in
    let n = entry_of s.index p in
    let w = state_view g v s p in
    let far = reaches g w s.durable p (margin g) in
    by_cases (eqb n.durable 0)
    (λ t. or_left _ t)
    (λ t. by_cases (is_ahead (class_in g p w))
    (λ a. ahead-whole (rw (turns, t, a) at e))
    (λ a. by_cases (not (stands g v n p))
    (λ b. busy (held s p) (renew v m s r p false) (renew-busy v m s r p false) (rw (turns, t, a, b) at e))
    (λ b. by_cases (may_write g n && (not far || is_stale (class_in g p w)))
    (λ d. busy (held s p) (renew v m s r p true) (renew-busy v m s r p true) (rw (turns, t, a, b, d) at e))
    (λ d. by_cases far
    (λ f. or_right (eqb n.durable 0) (and_both (not-false (stands g v n p) b) f))
    (λ f. single-whole (rw (turns, t, a, b, d, f) at e))))))

pub whole-is-whole : WholeIsWhole
unfolding reaches_from
whole-is-whole h legal m s e turns r p lo hi t =
    let v = (reached h).volume in
    let i = tied h legal in
    let y = facts.entries h legal m s e p lo hi in
    let c : durable_count (geometry_of v) v ≡ s.durable =
    rw i.holds.vol.geo (durable-count (present h) v (durable_of h) i.holds i.ns i.noted) ∙ sym (facts.counts h legal m s e).durable in
    rw (← y.durable, ← y.slot, ← y.backup, c) (says-whole v m s r p turns t)

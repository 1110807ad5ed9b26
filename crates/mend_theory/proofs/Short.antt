-- ME2: how many records come until rest, counted on the abstract log: each takes two calls at least, a put and a Force. And
-- how far the run then starts.
use mathlib.Core.Path.{◌≡◌}
use mathlib.Core.Bool.{Bool, true, false, cond}
use mathlib.Core.List.{List, [], ◌∷◌, ◌++◌}
use Prim.Native.Nat.{ℕ, zero, suc, ◌+◌, ◌-◌, ◌*◌, ◌/◌, ◌≤◌}
use native.Mathlib.Omega.{arith}
use lib.ListN.{length, length-append}
use lib.Dec.{leb}
use borrow.Author.Tests.{leb-true}
use Rattle.laws.proofs.Tables.{by_cases, and_right}
use Rattle.model.specs.Checksum.{sealed}
use Rattle.model.specs.Geometry.{ring, item, record_at, slot_of}
use Rattle.model.specs.Scan.{first_held, first_in, durable_count}
use Rattle.model.specs.Calls.{Call}
use Rattle.model.specs.AbstractLog.{Logged, AbstractLog, move_first, step_call}
use Rattle.model.specs.History.{Machine, perform, refused_in, step, step_log, log_after}
use Rattle.model.specs.Claim.{History, Legal, reached, durable_of}
use Rattle.model.specs.declared.geometry.Geometry.{Geometry}
use Rattle.history.proofs.LogScan.{durable-count}
use Rattle.history.proofs.Reached.{present, tied}
use Rattle.model.specs.declared.command.Command.TheVariants.{Begin, Load, Force, Write, Release, StartCarry, Restamp, FinishCarry}
use Rattle.model.specs.declared.command.Command.TheVariants.{Change, Backup, Note}
use Rattle.upkeep_policy.specs.Upkeep.{Advice, idle, stuck, make, advice_of, then_call, upkeep_events}
use Rattle.upkeep_policy.specs.UpkeepClaim.{bound}
use Rattle.mend_policy.specs.MendClaim.{start_next, TwofoldIsLong}
use Rattle.mend_theory.proofs.OwnHolds.{larger-most}

-- two for each durable change, one for each pending one
abbrev pub weight : AbstractLog → ℕ
weight b = 2 * length b.durable + length b.pending

one_more : (a : ℕ) (xs : List Logged) (x : Logged) → a + length (xs ++ (x ∷ [])) ≤ suc (a + length xs)
one_more a xs x = omega (arith, length-append xs (x ∷ []))

moves : (d w : List Logged) → weight (move_first d w) ≤ suc (2 * length d + length w)
moves d [] = omega arith
moves d (c ∷ w) = omega (arith, length-append d (c ∷ []))

call-grows : (b : AbstractLog) (c : Call) → weight (step_call b c) ≤ suc (weight b)
unfolding step_call
call-grows b (Begin page f fill, _) = one_more (2 * length b.durable) b.pending _
call-grows b (Change page c, payload) = one_more (2 * length b.durable) b.pending _
call-grows b (Force, _) = moves b.durable b.pending
call-grows b (Load page f, _) = omega arith
call-grows b (Write page, _) = omega arith
call-grows b (Backup page s, _) = omega arith
call-grows b (Release page, _) = omega arith
call-grows b (Note, _) = omega arith
call-grows b (StartCarry, _) = omega arith
call-grows b (Restamp, _) = omega arith
call-grows b (FinishCarry, _) = omega arith

pub step-grows : (w : Machine) (b : AbstractLog) (c : Call) → weight (step_log w b (perform c)) ≤ suc (weight b)
unfolding step_log
step-grows w b c = by_cases (refused_in w.power w.volume c) (λ t. rw t (omega arith)) (λ t. rw t (call-grows b c))

pub events-grow : (r n : ℕ) (w : Machine) (b : AbstractLog) → weight (log_after w b (upkeep_events r n w)) ≤ weight b + n
unfolding log_after upkeep_events
events-grow r zero w b = omega arith
events-grow r (suc n) w b = go (λ c. events-grow r n (step w (perform c)) (step_log w b (perform c))) (advice_of r w)
  where
    go : ((c : Call) → weight (log_after (step w (perform c)) (step_log w b (perform c)) (upkeep_events r n (step w (perform c))))
        ≤ weight (step_log w b (perform c)) + n)
        → (a : Advice) → weight (log_after w b (then_call a (λ c. upkeep_events r n (step w (perform c))))) ≤ weight b + suc n
    go ih idle = omega arith
    go ih (stuck q) = omega arith
    go ih (make c) = omega (arith, ih c, step-grows w b c)

-- the run holds all but the oldest of the last L records
at-most-next : (t : Bool) (a : ℕ) → cond t a (suc a) ≤ suc a
at-most-next true a = omega arith
at-most-next false a = omega arith

pub run-low : (g : Geometry) (v : List ℕ) (n : ℕ) → first_held g v n ≤ suc (suc (n - g.records))
unfolding first_held first_in
run-low g v n = by_cases (ring g) (λ t. rw t (at-most-next
    (sealed 60 (item g v (record_at (slot_of g.records (suc (n - g.records)))))) (suc (n - g.records)))) (λ t. rw t (omega arith))

pub few-records : (d e K L : ℕ) → 4 * e ≤ 4 * d + 2 + K → K + 3 ≤ 4 * (L - L / 4) → 1 ≤ d
    → (suc (suc (e - L)) ≤ suc d) × (suc (e + L / 4) - L ≤ suc d)
few-records d e K L a b c = (omega arith, omega arith)

-- so the run starts low enough, G more records counted
pub short-next : (h : History) → Legal h → (d K : ℕ) → 4 * length (durable_of h) ≤ 4 * d + 2 + K
    → K + 3 ≤ 4 * (h.records - h.records / 4) → 1 ≤ d → start_next (reached h).volume ≤ suc d
short-next h legal d K a b c =
    let g = present h in
    let v = (reached h).volume in
    let i = tied h legal in
    let n = length (durable_of h) in
    let cnt : durable_count g v ≡ n = durable-count g v (durable_of h) i.holds i.ns i.noted in
    let q = few-records d n K h.records a b c in
    let low : first_held g v n ≤ suc (suc (n - h.records)) = run-low g v n in
    rw (i.holds.vol.geo, cnt)
    (larger-most (first_held g v n) (suc (n + h.records / 4) - h.records) (suc d) (omega (arith, low, q.0)) q.1)

pub twofold-is-long : TwofoldIsLong
twofold-is-long g one t =
    let le = leb-true (4 * g.pages) g.records (and_right (leb (2 * g.pages + 2) g.notes) (leb (4 * g.pages) g.records) t) in
    long g.pages g.records one le
  where
    long : (P L : ℕ) → 1 ≤ P → 4 * P ≤ L → bound P P + 3 ≤ 4 * (L - L / 4)
    long P L a b = omega arith

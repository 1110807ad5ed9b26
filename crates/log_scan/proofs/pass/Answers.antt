-- `log_scan::pass` meets its contract.
use mathlib.Core.Path.{refl, sym, ◌∙◌}
use Prim.Native.Nat.{◌+◌, ◌-◌, ◌≤◌, ◌<◌}
use native.Mathlib.Omega.{arith}
use lib.ListN.{length, take, drop}
use Rattle.log_scan.specs.LogSection.{Sized}
use Rattle.log_scan.proofs.LogSweep.{right-page, going-none, going-room, going-here}
use Rattle.log_scan.proofs.LogSweep.{going-stops, going_on}
use Rattle.log_scan.proofs.pass.Goals.{Start, At-loop-n, Else-not-right}
use Rattle.log_scan.proofs.pass.Goals as goal

-- the counts
sizes : (c : Start) → Sized c.args.v.now.geometry c.args.v.now.bytes.now
sizes c = c.args.v.now.sized

-- the slice that is read is in the volume
room : (c : At-loop-n) → c.loop-n.from + 64 ≤ length c.args.v.now.bytes.now
room c = going-room _ _ c.args.v.now.sized _ _ _ _ c.loop-n.invariant

-- the page has a row
page-in : (c : Else-not-right) → c.named-page.result.0 - 1 < 64
page-in c =
    let h = right-page (take (c.loop-n.from + 64 - c.loop-n.from) (drop c.loop-n.from c.args.v.now.bytes.now)) c.loop-n.n
    (c.named-page.result.0) c.args.v.now.geometry.pages (sym c.right.ensures ∙ c.if-not-right.false) in
    omega (arith, h.0, h.1, c.args.v.now.sized.pages)

pub overflow_add-past : goal.overflow_add-past
overflow_add-past c = omega (arith, (sizes (goal.at.overflow_add-past c).Start).records, c.requires.guessed.low)

pub loop-n-init : goal.loop-n-init
loop-n-init c =
    going-none _ _ (sizes (goal.at.loop-n-init c).Start) c.args.u c.requires.guessed _ _ c.record_at-at.ensures refl _
    c.requires.last_value

pub slice_bounds-r-end : goal.slice_bounds-r-end
slice_bounds-r-end c = room (goal.at.slice_bounds-r-end c).At-loop-n

pub returns-then-not-record_holds : goal.returns-then-not-record_holds
returns-then-not-record_holds c =
    going-stops _ _ (sizes (goal.at.returns-then-not-record_holds c).Start) _ _ _ _ c.loop-n.invariant
    (sym c.record_holds.ensures ∙ c.if-not-record_holds.true)

pub bounds-last-k : goal.bounds-last-k
bounds-last-k c = page-in (goal.at.bounds-last-k c).Else-not-right

pub bounds-last-k-in-loop-n : goal.bounds-last-k-in-loop-n
bounds-last-k-in-loop-n c = page-in (goal.at.bounds-last-k-in-loop-n c).Else-not-right

pub loop-n-preserved : goal.loop-n-preserved
loop-n-preserved c =
    going_on _ _ (sizes (goal.at.loop-n-preserved c).Start) _ _ _ _ c.loop-n.invariant
    (take (c.loop-n.from + 64 - c.loop-n.from) (drop c.loop-n.from c.args.v.now.bytes.now))
    (going-here _ _ (sizes (goal.at.loop-n-preserved c).Start) _ _ _ _ c.loop-n.invariant)
    _ _ c.named-page.ensures.0 c.named-page.ensures.1 _ refl c.requires.guessed.some c.loop-n-test.true
    (sym c.record_holds.ensures ∙ c.if-not-record_holds.false)
    (sym c.right.ensures ∙ c.if-not-right.false)
    (sym (c.links.ensures ∙ rw c.four.ensures refl) ∙ c.if-not-links.false)
    _ _ _ c.onward-from.result c.record_at-at.ensures refl refl c.onward-from.ensures

-- `archive_read::pages` meets its contract. The loop keeps `Counted`: k segments are cut off, up to the place.
use native.Mathlib.Omega.{arith}
use Rattle.archive_read.proofs.Cuts.{counted_none, counted-stops, counted-fits, counted-on, counted-all}
use Rattle.archive_read.proofs.pages.Goals as goal

pub loop-at-init : goal.loop-at-init
loop-at-init c = counted_none _

pub fits-requires : goal.fits-requires
fits-requires c = c.loop-at.invariant.inside

pub returns-then-k-fits : goal.returns-then-k-fits
returns-then-k-fits c =
    let l = c.loop-at in
    counted-stops _ _ _ l.invariant c.loop-at-test.true _ c.fits.ensures c.if-k-fits.true

pub past-at-requires : goal.past-at-requires
past-at-requires c =
    let l = c.loop-at in
    (l.invariant.inside, counted-fits _ _ _ l.invariant c.loop-at-test.true _ c.fits.ensures c.if-k-fits.false)

pub overflow_add-k : goal.overflow_add-k
overflow_add-k c = let l = c.loop-at in omega (arith, l.invariant.few)

pub loop-at-smaller : goal.loop-at-smaller
loop-at-smaller c = omega (arith, c.past-at.ensures, c.loop-at-test.true)

pub loop-at-preserved : goal.loop-at-preserved
loop-at-preserved c =
    let l = c.loop-at in
    let more = c.loop-at-test.true in
    rw c.past-at.ensures (counted-on _ _ _ l.invariant more _ c.fits.ensures c.if-k-fits.false)

pub returns : goal.returns
returns c = counted-all _ _ _ c.loop-at.invariant c.loop-at-test.false

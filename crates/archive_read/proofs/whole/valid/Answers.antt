-- `archive_read::whole::valid` meets its contract. The loop keeps `Checking`: what is left decides.
use mathlib.Core.Path.{◌≡◌, sym, ◌∙◌}
use mathlib.Core.Bool.{true}
use lib.ListN.{drop}
use Rattle.reports.specs.Archive.{segment_fits}
use Rattle.archive_read.proofs.Wholes.{checking-all, checking-short, checking-not, checking-on, checking-end}
use Rattle.archive_read.proofs.whole.valid.Goals.{Else-not-fits}
use Rattle.archive_read.proofs.whole.valid.Goals as goal

-- the segment at the place fits
fitting : (c : goal.Else-not-fits)
    → segment_fits (drop c.loop-i.at c.args.archive.now) ≡ true
fitting c = sym c.fits.ensures ∙ c.if-not-fits.false

pub loop-i-init : goal.loop-i-init
loop-i-init c = checking-all _ _

pub fits-requires : goal.fits-requires
fits-requires c = c.loop-i.invariant.inside

pub returns-then-not-fits : goal.returns-then-not-fits
returns-then-not-fits c =
    let l = c.loop-i in
    checking-short _ _ _ _ l.invariant c.loop-i-test.true (sym c.fits.ensures ∙ c.if-not-fits.true)

pub valid-requires : goal.valid-requires
valid-requires c = (c.loop-i.invariant.inside, fitting c)

pub returns-then-not-valid : goal.returns-then-not-valid
returns-then-not-valid c =
    let l = c.loop-i in
    let v = sym c.valid.ensures ∙ c.if-not-valid.true in
    checking-not _ _ _ _ l.invariant c.loop-i-test.true (fitting (goal.at.returns-then-not-valid c).Else-not-fits) v

pub past-at-requires : goal.past-at-requires
past-at-requires c = (c.loop-i.invariant.inside, (fitting (goal.at.past-at-requires c).Else-not-fits))

pub loop-i-preserved : goal.loop-i-preserved
loop-i-preserved c =
    let l = c.loop-i in
    let t = c.loop-i-test.true in
    let v = sym c.valid.ensures ∙ c.if-not-valid.false in
    rw c.past-at.ensures (checking-on _ _ _ _ l.invariant t (fitting (goal.at.loop-i-preserved c).Else-not-fits) v)

pub returns : goal.returns
returns c = checking-end _ _ _ _ c.loop-i.invariant c.loop-i-test.false

-- `state::well_formed::well_formed` meets its contract.
use Rattle.state.proofs.Fits.{formed-is}
use Rattle.state.proofs.well_formed.well_formed.Goals as goal

pub returns-then-counts_fit : goal.returns-then-counts_fit
returns-then-counts_fit c =
    rw (formed-is c.args.g c.args.s c.args.count, ← c.counts_fit.ensures, c.if-counts_fit.true) c.rows_fit.ensures

pub returns-else-counts_fit : goal.returns-else-counts_fit
returns-else-counts_fit c =
    rw (formed-is c.args.g c.args.s c.args.count, ← c.counts_fit.ensures, c.if-counts_fit.false)

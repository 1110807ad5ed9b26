-- `upkeep::log::ahead`: a position is needed where its record has a number and is needed.
use native.Mathlib.Omega.{arith}
use Rattle.upkeep.proofs.LogPositions.{log-new, log-turned}
use Rattle.upkeep.proofs.log.ahead.Goals as goal

pub returns-then-number-slots : goal.returns-then-number-slots
returns-then-number-slots c = let v = c.args.v.now in log-new v.geometry v.bytes.now c.args.s c.args.i (omega arith)

pub returns : goal.returns
returns c =
    let v = c.args.v.now in
    log-turned v.geometry v.bytes.now c.args.s c.args.i _ (omega arith)
    (rw (c.from.ensures, c.from-2.ensures, c.from-slots.ensures) at c.needed.ensures)

-- `upkeep::log::page` reads the record of the position.
use native.Mathlib.Omega.{arith}
use Rattle.upkeep.proofs.LogPositions.{log-number}
use Rattle.upkeep.proofs.log.page.Goals as goal

pub overflow_sub-number : goal.overflow_sub-number
overflow_sub-number c =
    let v = c.args.v.now in
    omega (arith, log-number v.geometry v.bytes.now c.args.s c.args.i c.requires.1)

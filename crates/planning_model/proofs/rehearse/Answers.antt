-- `planning_model::rehearse` meets its contract.
use native.Mathlib.Omega.{arith}
use Rattle.planning.specs.Rehearsal.{settings}
use Rattle.planning_model.proofs.Laws.{rehearse-refused, rehearse-asks, rehearse-done}
use Rattle.planning_model.proofs.rehearse.Goals as goal

pub play-m-requires : goal.play-m-requires
play-m-requires c = rehearse-asks _ (settings c.args.frames c.args.every c.args.victim) c.in-Ok.ensures.rows

pub returns-in-Ok : goal.returns-in-Ok
returns-in-Ok c = rehearse-done _ _ c.in-Ok.ensures.rows _ c.play-m.ensures

pub returns-in-Err : goal.returns-in-Err
returns-in-Err c =
    rw c.from.ensures (rehearse-refused _ _ _ c.in-Err.ensures.rows (λ z. absurd (omega (arith, z, c.in-Err.ensures.only))))

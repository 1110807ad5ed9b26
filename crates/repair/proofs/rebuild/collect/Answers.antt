-- `repair::rebuild::collect` meets its contract. The loop keeps `Collected`: the numbers stored and the chain from the next one are the
-- whole chain.
use native.Mathlib.Omega.{arith}
use Rattle.repair.proofs.Walks.{collected-none, collected-on, collected-all}
use Rattle.repair.proofs.rebuild.collect.Goals as goal

pub loop-lsn-init : goal.loop-lsn-init
loop-lsn-init c = collected-none _ _ _

pub loop-lsn-preserved : goal.loop-lsn-preserved
loop-lsn-preserved c =
    let l = c.loop-lsn in
    collected-on _ _ _ _ _ _ l.invariant (omega (arith, l.auto.lsns, c.loop-lsn-test.true)) c.previous-n.ensures

pub returns : goal.returns
returns c =
    let l = c.loop-lsn in
    rw (← l.auto.lsns) (collected-all _ _ _ _ _ l.invariant (omega (arith, l.auto.lsns, c.loop-lsn-test.false)))

-- `repair::rebuild::collect` meets its contract. The loop keeps `Collected`: the numbers stored and the chain from the next one are the
-- whole chain.
use Rattle.repair.specs.Walked.{log_of}
use Rattle.repair.proofs.Walks.{Collected}
use Rattle.repair.proofs.rebuild.collect.Given as goal

abbrev pub invariant-loop-lsn : goal.invariant-loop-lsn
invariant-loop-lsn l = Collected (log_of l.v.geometry l.v.bytes.now) l.top l.lsns l.n l.lsn-index

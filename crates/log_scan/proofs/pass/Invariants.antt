-- `log_scan::pass` meets its contract. The loop keeps: the records passed fit and gave the column; the next one's place.
use Rattle.log_scan.proofs.LogSweep.{Going}
use Rattle.log_scan.proofs.pass.Given as goal

abbrev pub invariant-loop-n : goal.invariant-loop-n
invariant-loop-n l = Going l.v.geometry l.v.bytes.now l.fn.u.first l.n l.from l.last

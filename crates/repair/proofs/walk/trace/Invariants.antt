-- `repair::walk::trace` meets its contract. The loop keeps `Down`: the records passed and the walk of the rest are the whole walk.
use Rattle.repair.specs.Walked.{log_of}
use Rattle.repair.proofs.Walks.{Down}
use Rattle.repair.proofs.walk.trace.Given as goal

abbrev pub invariant-loop-stop : goal.invariant-loop-stop
invariant-loop-stop l = Down (log_of l.v.geometry l.v.bytes.now) l.c.first l.c.page l.c.own l.c.backup l.initial.n l.n l.count

abbrev pub decreases-loop-stop : goal.decreases-loop-stop
decreases-loop-stop l = l.n

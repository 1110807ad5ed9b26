-- `compare::report::tell` meets its contract. The loop keeps: behind the first two, the numbers of the pages passed are written.
use Rattle.compare.proofs.Reports.{Flagged}
use Rattle.compare.proofs.report.tell.Given as goal

abbrev pub invariant-loop-i : goal.invariant-loop-i
invariant-loop-i l = Flagged l.initial.report l.t-items l.report l.i

-- `archive_read::whole::valid` meets its contract. The loop keeps `Checking`: what is left decides.
use Rattle.archive_read.proofs.Wholes.{Checking}
use Rattle.archive_read.proofs.whole.valid.Given as goal

abbrev pub invariant-loop-i : goal.invariant-loop-i
invariant-loop-i l = Checking l.archive l.pages l.at l.i

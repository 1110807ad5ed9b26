-- `archive_read::whole::rebuild` meets its contract. The loop keeps `Rebuilding`: the first i images and those of what is left are the whole.
use Rattle.archive_read.proofs.Wholes.{Rebuilding}
use Rattle.archive_read.proofs.whole.rebuild.Given as goal

abbrev pub invariant-loop-i : goal.invariant-loop-i
invariant-loop-i l = Rebuilding l.archive l.pages l.area l.at l.i

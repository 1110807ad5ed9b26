-- `forecast::face::tell` meets its contract: the loop writes two numbers a page.
use Rattle.forecast.proofs.Fills.{Telling}
use Rattle.forecast.proofs.face.tell.Given as goal

abbrev pub invariant-loop-i : goal.invariant-loop-i
invariant-loop-i l = Telling l.pages l.figures l.i

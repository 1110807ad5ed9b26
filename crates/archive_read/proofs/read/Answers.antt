-- `archive_read::read` answers with what `fill` ensures.
use Rattle.archive_read.proofs.Outcomes.{done-answered}
use Rattle.archive_read.proofs.read.Goals as goal

pub returns-in-Ok-clause-answer : goal.returns-in-Ok-clause-answer
returns-in-Ok-clause-answer c = done-answered _ _ c.in-Ok.ensures.answer

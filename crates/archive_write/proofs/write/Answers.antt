-- `archive_write::write` answers with what `fill` ensures.
use mathlib.Core.Path.{refl}
use Rattle.archive_write.proofs.Outcomes.{answer-done}
use Rattle.archive_write.proofs.write.Goals as goal

pub returns-in-Ok-clause-answer : goal.returns-in-Ok-clause-answer
returns-in-Ok-clause-answer c = answer-done _ _ 0 c.in-Ok.ensures.answer refl

use mathlib.Core.Path.{ap, ◌∙◌}
use Rattle.face.specs.Face.{answer_number}
use Rattle.capi.proofs.volumes.pagestore_make.Goals as goal

pub returns : goal.returns
returns c = let e = c.make.ensures in record { answer = c.number.ensures ∙ ap answer_number e.answer; volume = e.volume }

-- `index::fill` meets its contract: the sweeps tell, or the columns are blank again and two passes tell.
use mathlib.Core.Path.{sym, ◌∙◌}
use Rattle.model.specs.declared.answer.Refusal.TheVariants.{BadVolume}
use Rattle.index.proofs.Whole.{refused, volume-refused}
use Rattle.index.proofs.fill.Goals as goal

pub returns-then-not-sound : goal.returns-then-not-sound
returns-then-not-sound c = refused _ BadVolume _ (volume-refused _ (sym c.sound.ensures ∙ c.if-not-sound.true))

-- `index::read` meets its contract: an unknown heading is refused, and a known one leaves the rest to `fill`.
use mathlib.Core.Path.{sym, ◌∙◌}
use Rattle.model.specs.declared.answer.Refusal.TheVariants.{BadVolume}
use Rattle.volume.proofs.Readings.{unknown-read}
use Rattle.index.proofs.Whole.{refused, volume-refused}
use Rattle.index.proofs.read.Goals as goal

pub returns-then-not-known : goal.returns-then-not-known
returns-then-not-known c = refused _ BadVolume _ (volume-refused _ (unknown-read _ (sym c.known.ensures ∙ c.if-not-known.true)))

-- `volume::Volume::open` meets its contract: no count decides where the heading is not known.
use mathlib.Core.Path.{sym, ◌∙◌}
use Rattle.volume.proofs.Readings.{unknown-read}
use Rattle.volume.proofs.Volume.open.Goals as goal

pub returns-then-not-known-clause-refusal : goal.returns-then-not-known-clause-refusal
returns-then-not-known-clause-refusal c = rw (unknown-read _ (sym c.known.ensures ∙ c.if-not-known.true))

pub sound-requires : goal.sound-requires
sound-requires c = (sym c.known.ensures ∙ c.if-not-known.false, c.geometry-geometry.ensures)

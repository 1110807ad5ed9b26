-- `volume::ring::most` meets its contract.
use mathlib.Core.Path.{sym, ◌∙◌}
use Rattle.volume.proofs.ring.most.Goals as goal

pub returns-then-ring : goal.returns-then-ring
returns-then-ring c = rw (sym c.ring.ensures ∙ c.if-ring.true)

pub returns-else-ring : goal.returns-else-ring
returns-else-ring c = rw (sym c.ring.ensures ∙ c.if-ring.false)

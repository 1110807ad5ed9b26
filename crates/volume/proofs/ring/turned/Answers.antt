-- `volume::ring::turned` meets its contract.
use mathlib.Core.Path.{refl, sym}
use native.Mathlib.Nat.{mod-lt, mod-eq_of_lt}
use Rattle.volume.proofs.ring.turned.Goals as goal

pub returns-then-b-slots : goal.returns-then-b-slots
returns-then-b-slots c = (sym (mod-eq_of_lt c.if-b-slots.true), c.if-b-slots.true)

pub returns-else-b-slots : goal.returns-else-b-slots
returns-else-b-slots c = (refl, mod-lt c.args.b c.requires)

-- `volume::ring::slot_of` meets its contract.
use native.Mathlib.Numerals.{add-one}
use native.Mathlib.Omega.{arith}
use Rattle.volume.proofs.ring.slot_of.Goals as goal

pub returns : goal.returns
returns c = (rw (c.turned.ensures.0, c.before-2.ensures, add-one), omega (arith, c.turned.ensures.1))

-- `volume::heading::sound` meets its contract.
use Rattle.volume.proofs.Readings.{known_read}
use Rattle.volume.proofs.heading.sound.Goals as goal

pub returns : goal.returns
returns c =
    known_read c.args.v.now _ _ c.args.g c.requires.0 c.requires.1 c.counts.ensures c.size-length.ensures

-- `volume::Volume::note` meets its contract.
use Rattle.volume.proofs.Slots.{note-fits}
use Rattle.volume.proofs.Volume.note.Goals as goal

pub note-requires : goal.note-requires
note-requires c = (c.requires, note-fits _ _ c.args.self.now.valid c.args.self.now.read c.requires _)

-- `volume::Volume::slot` meets its contract.
use Rattle.volume.proofs.Slots.{slot-fits}
use Rattle.volume.proofs.Volume.slot.Goals as goal

pub slot-requires : goal.slot-requires
slot-requires c = slot-fits _ _ c.args.self.now.valid c.args.self.now.read _ c.requires.0 c.requires.1

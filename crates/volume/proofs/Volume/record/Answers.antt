-- `volume::Volume::record` meets its contract.
use Rattle.volume.proofs.Slots.{records-some, record-fits}
use Rattle.volume.proofs.Volume.record.Goals as goal

pub record-requires : goal.record-requires
record-requires c =
    (records-some _ _ c.args.self.now.valid c.args.self.now.read, record-fits _ _ c.args.self.now.valid c.args.self.now.read _)

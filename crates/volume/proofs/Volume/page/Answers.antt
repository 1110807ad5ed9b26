-- `volume::Volume::page` meets its contract.
use Rattle.volume.proofs.Slots.{page-fits}
use Rattle.volume.proofs.Volume.page.Goals as goal

pub page-requires : goal.page-requires
page-requires c = page-fits _ _ c.args.self.now.valid c.args.self.now.read _ c.requires.0 c.requires.1

-- `volume::heading::geometry` meets its contract.
use Rattle.volume.proofs.Readings.{geometry-read}
use Rattle.volume.proofs.heading.geometry.Goals as goal

pub returns : goal.returns
returns c =
    geometry-read _ _ _ _ _ _ c.byte-tag.ensures c.u32_at-pages.ensures
    c.u32_at-slots.ensures c.u32_at-records.ensures c.u32_at-notes.ensures

-- `volume::place::array` meets its contract.
use mathlib.Core.Path.{ap, ◌∙◌}
use Rattle.std.specs.Prelude.{length}
use Rattle.laws.proofs.Parts.{part_length}
use Rattle.volume.proofs.place.array.Goals as goal

pub unwrap-requires : goal.unwrap-requires
unwrap-requires g c = c.as_array.ensures.variant.1 (ap length c.part.ensures ∙ part_length _ _ _ c.requires)

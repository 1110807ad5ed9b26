-- `volume::make::write` meets its contract. Zeros, then each heading from the last one down, so that each is written over zeros alone.
use borrow.Author.Rules.{rules}
use mathlib.Core.Path.{ap, ◌∙◌}
use Rattle.model.specs.Bytes.{splice}
use Rattle.volume.proofs.Fresh.{fresh}
use Rattle.volume.proofs.make.write.Goals as goal

pub returns : goal.returns
returns c =
    fresh _ _ _ _ _ _ _ _ _ _ _ _
    c.requires (search (rules, c.fill.ensures.after))
    c.put_u32.ensures c.put_u32-2.ensures
    c.put_u32-3.ensures
    c.put_u32-4.ensures
    (c.put.ensures ∙ ap (splice _ 0) c.magic_bytes-magic.ensures)

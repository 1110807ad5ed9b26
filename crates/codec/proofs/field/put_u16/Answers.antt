-- `codec::field::put_u16` meets its contract.
use mathlib.Core.Path.{ap, ◌∙◌}
use Rattle.model.specs.Bytes.{splice}
use Rattle.codec.proofs.Stores.{le-bytes-2}
use Rattle.codec.proofs.field.put_u16.Goals as goal

pub returns : goal.returns
returns c =
    let a = c.args in
    c.put.ensures ∙ ap (splice a.s.now a.at) (c.to_le_bytes.ensures ∙ le-bytes-2 a.v)

-- `index::notes::entering::fields` meets its contract: page, kind and slot are parts of one number.
use Rattle.index.proofs.NoteSweep.{fields-are}
use Rattle.index.proofs.notes.entering.fields.Goals as goal

pub returns : goal.returns
returns c =
    fields-are _ c.fits-r _ c.four-v.ensures _ _
    c.four.ensures c.four-2.ensures

-- `numbers::fits` meets its contract.
use mathlib.Core.Path.{sym}
use Rattle.numbers.proofs.FitLaws.{unlike, alike}
use Rattle.model.specs.Bytes.{part}
use Rattle.numbers.proofs.fits.Goals as goal

pub returns-then-xs-ne360 : goal.returns-then-xs-ne360
returns-then-xs-ne360 c = sym (unlike c.args.xs.now c.if-xs-ne360.true)

pub returns : goal.returns
unfolding part
returns c =
    alike c.args.xs.now c.if-xs-ne360.false c.note_fits-note.result c.frames_fit-frames.result
    c.entries_fit-entries.result c.note_fits-note.ensures c.frames_fit-frames.ensures c.entries_fit-entries.ensures

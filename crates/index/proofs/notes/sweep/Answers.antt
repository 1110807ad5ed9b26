-- `index::notes::sweep` meets its contract: notes that were passed and are closed are all notes.
use mathlib.Core.Path.{sym, ◌∙◌}
use Rattle.index.proofs.NotesSwept.{sweeps}
use Rattle.index.proofs.notes.sweep.Goals as goal

pub returns-clause-swept : goal.returns-clause-swept
returns-clause-swept c =
    let v = c.args.v.now in
    sweeps v.geometry v.bytes.now v.sized _ (rw c.locate-s.ensures.extent at c.guess_start-u.ensures) _ _
    c.in_ok-next.ensures.passed (sym (rw (c.locate-s.ensures.bytes, c.locate-s.ensures.extent) at c.closed.ensures) ∙ c.if-not-closed.false)

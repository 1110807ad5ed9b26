-- `state::well_formed::note_fits` meets its contract.
use Rattle.model.specs.State.{pending_note_fits}
use Rattle.state.proofs.well_formed.note_fits.Goals as goal

pub returns : goal.returns
unfolding pending_note_fits
returns c =
    rw (c.layout-layout.ensures, c.most_notes-most.ensures, c.from.ensures, c.from-2.ensures, c.from-3.ensures, c.from-4.ensures)

-- `planning_model::step::fits` meets its contract.
use Rattle.model.specs.Tables.{within}
use Rattle.planning.specs.Rehearsal.{page_in}
use mathlib.Core.Path.{ap, ◌∙◌}
use Rattle.planning_model.proofs.step.fits.Goals as goal

pub returns : goal.returns
returns c = ap (within 64) (c.page-p.ensures ∙ ap page_in c.access.ensures)

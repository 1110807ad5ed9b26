-- `planning_model::pages_fit` meets its contract.
use Rattle.planning_model.proofs.Laws.{fit-not, fit_on, fit-end}
use mathlib.Core.Path.{sym, ◌∙◌}
use Rattle.planning_model.proofs.pages_fit.Goals as goal

pub returns-then-not-fits : goal.returns-then-not-fits
returns-then-not-fits c =
    sym (fit-not _ _ c.loop-e-test.true (sym c.fits.ensures ∙ c.if-not-fits.true)) ∙ c.loop-e.invariant

pub loop-e-preserved : goal.loop-e-preserved
loop-e-preserved c =
    sym (fit_on _ _ c.loop-e-test.true (sym c.fits.ensures ∙ c.if-not-fits.false)) ∙ c.loop-e.invariant

pub returns : goal.returns
returns c = sym (fit-end _ _ c.loop-e-test.false) ∙ c.loop-e.invariant

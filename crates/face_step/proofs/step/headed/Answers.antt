-- `face_step::step::headed`: any known heading, or the call's own.
use mathlib.Core.Path.{◌∙◌, sym}
use borrow.Author.Tests.{eq-eqb, ne_eqb}
use Rattle.laws.proofs.Tables.{when_true, when_false}
use Rattle.face_step.proofs.step.headed.Goals as goal

pub returns-then-own-eq0 : goal.returns-then-own-eq0
returns-then-own-eq0 c = c.known.ensures ∙ sym (when_true _ _ (eq-eqb _ 0 c.if-own-eq0.true))

pub returns : goal.returns
returns c = c.headed.ensures ∙ sym (when_false _ _ (ne_eqb _ 0 c.if-own-eq0.false))

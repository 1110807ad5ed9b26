-- A law of a verdict: an answer that a page was rebuilt.
use mathlib.Core.Path.{◌≡◌, ap, ◌∙◌}
use mathlib.Core.Bool.{Bool}
use Rattle.model.specs.declared.answer.Answer.{Answer}
use Rattle.checklist_steps.specs.Text.{is_repaired}

pub repaired-as : (r : Bool) (a b : Answer) → r ≡ is_repaired a → a ≡ b → r ≡ is_repaired b
repaired-as r a b e h = e ∙ ap is_repaired h

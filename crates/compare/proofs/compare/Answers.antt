-- `compare::compare` is its definition.
use mathlib.Core.Path.{sym, ◌∙◌}
use Rattle.laws.proofs.Refused.{refusal-some}
use Rattle.compare.proofs.Outcomes.{refused}
use Rattle.compare.proofs.compare.Goals as goal

pub returns-in-Err : goal.returns-in-Err
returns-in-Err c =
    refused _ _ _ (c.from.ensures ∙ c.in-Err.ensures.refusal) (λ z. refusal-some _ (sym c.from.ensures ∙ z))

-- `failing::failing` is its definition.
use mathlib.Core.Path.{◌∙◌}
use Rattle.laws.proofs.Tables.{by_cases}
use Rattle.model.specs.Geometry.{valid_volume}
use Rattle.laws.proofs.Refused.{refusal-some}
use Rattle.convert.proofs.Places.{failing-none, failing-some}
use Rattle.convert.proofs.failing.failing.Goals as goal

pub returns-in-Ok : goal.returns-in-Ok
returns-in-Ok c = let v = c.in-Ok.v in failing-some _ _ _ _ _ c.in-Ok.ensures.bytes v.valid v.read c.count.ensures

pub returns-in-Err : goal.returns-in-Err
returns-in-Err c =
    failing-none _ _ (by_cases (valid_volume c.args.volume.now)
    (λ t. absurd (refusal-some _ (c.in-Err.ensures.refusal ∙ rw t)))
    (λ t. t))

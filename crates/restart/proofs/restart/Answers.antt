-- `restart::restart` is its definition: the laws of Outcomes.antt say what each case is.
use mathlib.Core.Path.{ap, ◌∙◌}
use Rattle.laws.proofs.Refused.{refusal-some}
use Rattle.state.specs.Resumed.{resumed_state}
use Rattle.restart.proofs.Outcomes.{refused, done}
use Rattle.restart.proofs.restart.Goals as goal

pub returns-in-Err : goal.returns-in-Err
returns-in-Err c =
    let k = refused _ _ _ _ c.in-Err.ensures.refusal (refusal-some _) c.zero.ensures in
    record { reply = c.refused.ensures ∙ k.0; memory = k.1 }

pub returns-in-Ok : goal.returns-in-Ok
returns-in-Ok c =
    let k = done _ _ _ _ c.in-Ok.ensures.refusal (c.resumed.ensures ∙ ap resumed_state c.in-Ok.ensures.clean) (c.fill.ensures.after (λ y h. h)) in
    record { reply = c.done.ensures ∙ k.0; memory = k.1 }

-- `face_step::touched::forced_page` meets its contract.
use mathlib.Core.Path.{refl, ◌∙◌}
use Rattle.face_step.proofs.RowLaws.{forced-page}
use Rattle.face_step.proofs.touched.forced_page.Goals as goal

pub returns : goal.returns
returns c =
    let a = c.args in
    c.from.ensures ∙ c.u16_at.ensures ∙ forced-page a.memory.now a.durable _ refl

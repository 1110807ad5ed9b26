use Rattle.capi.proofs.ArgumentLaws.{begin-few, begin-many}
use mathlib.Core.Path.{refl, ◌∙◌}
use Rattle.capi.proofs.begin.pagestore_begin.Goals as goal

pub returns-then-fill-le255 : goal.returns-then-fill-le255
returns-then-fill-le255 c =
    let q = c.step in
    let a = c.args in
    begin-few a.page a.frame a.fill a.volume.now a.memory.now a.state.now a.report.now c.if-fill-le255.true
    q.result q.new.state q.new.report q.new.memory q.new.volume q.ensures

pub returns : goal.returns
returns c =
    let a = c.args in
    begin-many a.page a.frame a.fill a.volume.now a.memory.now a.state.now a.report.now
    c.if-fill-le255.false c.from.result
    (c.from.ensures ∙ c.misfilled-refusal.ensures a.memory.now a.report.now refl refl)

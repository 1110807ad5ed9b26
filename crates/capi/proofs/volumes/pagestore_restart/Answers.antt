use Rattle.face_step.proofs.FaceLaws.{restart-unknown, restart-unlike, restart-alike}
use mathlib.Core.Path.{refl, ap, ◌∙◌}
use mathlib.Core.Bool.{not}
use Rattle.capi.proofs.volumes.pagestore_restart.Goals as goal

pub returns-then-not-known : goal.returns-then-not-known
returns-then-not-known c =
    let a = c.args in
    let k = c.known in
    let z = c.clear in
    rw c.from.ensures (
    restart-unknown a.volume.now a.memory.now a.state.now k.result k.ensures (ap not c.if-not-known.true) z.new.state
    z.ensures
    )

pub returns-then-state-ne360 : goal.returns-then-state-ne360
returns-then-state-ne360 c =
    let a = c.args in
    restart-unlike a.volume.now a.memory.now a.state.now c.from-then-state-ne360.result _
    c.if-state-ne360.true
    refl (c.from-then-state-ne360.ensures ∙ c.bad_buffer.ensures)

pub returns : goal.returns
returns c =
    let a = c.args in
    let q = c.restart-returned in
    restart-alike a.volume.now a.memory.now a.state.now c.if-state-ne360.false q.result.answer
    q.result.store.state
    c.number.result c.encode.new.out q.new.memory
    (ap (λ r. r.answer) q.ensures.outcome) (ap (λ r. r.store.state) q.ensures.outcome) q.ensures.memory
    c.number.ensures c.encode.ensures

-- `capi::failing::pagestore_failing` hands on what `convert::failing` ensures.
use Rattle.capi.proofs.FailingLaws.{none, counted}
use Rattle.capi.proofs.failing.pagestore_failing.Goals as goal

pub returns-then-state-ne360 : goal.returns-then-state-ne360
returns-then-state-ne360 c =
    let a = c.args in
    none a.volume.now a.state.now c.if-state-ne360.true

pub returns : goal.returns
returns c =
    let a = c.args in
    counted a.volume.now a.state.now c.decode.result c.failing.result c.if-state-ne360.false
    c.decode.ensures c.failing.ensures

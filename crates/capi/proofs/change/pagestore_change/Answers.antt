use Rattle.capi.proofs.ArgumentLaws.{change-named}
use Rattle.capi.proofs.change.pagestore_change.Goals as goal

pub returns : goal.returns
returns c =
    let q = c.step in
    let p = c.payload_from-bytes in
    let h = c.change_from-change in
    let a = c.args in
    change-named a.page h.result _ p.result _ a.volume.now a.memory.now a.state.now a.report.now _ h.ensures
    p.ensures q.ensures

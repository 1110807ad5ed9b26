-- `capi::slots::counts`: the volume and the length are tested.
use mathlib.Core.Path.{◌∙◌}
use Rattle.capi.proofs.SlotLaws.{handed-on, counts-refused, counts-done}
use Rattle.capi.proofs.slots.counts.Goals as goal

pub returns-in_err-g-clause-found : goal.returns-in_err-g-clause-found
returns-in_err-g-clause-found c =
    let a = c.args in
    let e = counts-refused a.volume.now a.old.now c.in_err-g.field-0.0 c.in_err-g.ensures.refusal in
    handed-on c.from_residual.result a.old.now _ _ c.from_residual.ensures.0 c.from_residual.ensures.1 (λ n h. h) e

pub returns-clause-found : goal.returns-clause-found
returns-clause-found c =
    let a = c.args in
    let v = c.in_ok-g.field-0 in
    let e = counts-done a.volume.now a.old.now c.in_ok-g.ensures.refusal v.geometry (v.read ∙ rw c.in_ok-g.ensures.bytes) in
    (e.0, rw c.from.ensures e.1)

-- `capi::slots::record`: the volume and the length are tested, then the slot.
use mathlib.Core.Path.{◌∙◌}
use native.Mathlib.Omega.{arith}
use Rattle.model.specs.Geometry.{record_at}
use Rattle.face.specs.Slots.{record_numbers}
use Rattle.capi.proofs.SlotLaws.{handed-on, slot-refused, slot-missing, slot-fits, slot-done}
use Rattle.capi.proofs.slots.record.Goals as goal

pub returns-in_err-v-clause-found : goal.returns-in_err-v-clause-found
returns-in_err-v-clause-found c =
    let a = c.args in
    let r = c.in_err-v.field-0.0 in
    let e = slot-refused a.volume.now a.old.now (record_at a.slot) record_numbers r c.in_err-v.ensures.refusal in
    handed-on c.from_residual.result a.old.now _ _ c.from_residual.ensures.0 c.from_residual.ensures.1 (λ n h. h) e

pub returns-then-not-there-clause-found : goal.returns-then-not-there-clause-found
returns-then-not-there-clause-found c =
    let a = c.args in
    let v = c.in_ok-v.v in
    let e = slot-missing a.volume.now a.old.now (record_at a.slot) record_numbers c.in_ok-v.ensures.refusal v.geometry
    (v.read ∙ rw c.in_ok-v.ensures.bytes) c.if-not-there.true in
    (c.from.ensures ∙ e.0, e.1)

pub part-requires : goal.part-requires
part-requires c =
    let a = c.args in
    let v = c.in_ok-v.v in
    let f = slot-fits a.volume.now a.old.now (record_at a.slot) record_numbers c.in_ok-v.ensures.refusal v.geometry
    (v.read ∙ rw c.in_ok-v.ensures.bytes) c.if-not-there.false in
    omega (arith, c.record_at-at.ensures, f)

pub returns-clause-found : goal.returns-clause-found
returns-clause-found c =
    let a = c.args in
    let v = c.in_ok-v.v in
    slot-done a.volume.now a.old.now (record_at a.slot) record_numbers c.in_ok-v.ensures.refusal v.geometry
    (v.read ∙ rw c.in_ok-v.ensures.bytes) c.if-not-there.false _ _ _ c.record_at-at.ensures
    c.part.ensures c.record_numbers.ensures

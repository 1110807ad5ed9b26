-- `capi::slots::backup`: the volume and the length are tested, then the slot.
use mathlib.Core.Path.{ap, refl, ◌∙◌}
use mathlib.Core.List.{List}
use Prim.Native.Nat.{ℕ}
use Rattle.model.specs.Geometry.{geometry_of, slot_at, start, item}
use Rattle.face.specs.Slots.{backup_numbers}
use Rattle.capi.proofs.SlotLaws.{handed-on, slot-refused, slot-missing, slot-done, told_under}
use Rattle.capi.proofs.slots.backup.Goals as goal

pub returns-in_err-v-clause-found : goal.returns-in_err-v-clause-found
returns-in_err-v-clause-found c =
    let a = c.args in
    let r = c.in_err-v.field-0.0 in
    let e = slot-refused a.volume.now a.old.now (slot_at a.slot) (backup_numbers (geometry_of a.volume.now)) r c.in_err-v.ensures.refusal in
    handed-on c.from_residual.result a.old.now _ _ c.from_residual.ensures.0 c.from_residual.ensures.1 (λ n h. h) e

pub returns-then-not-there-clause-found : goal.returns-then-not-there-clause-found
returns-then-not-there-clause-found c =
    let a = c.args in
    let v = c.in_ok-v.v in
    let e = slot-missing a.volume.now a.old.now (slot_at a.slot) (backup_numbers (geometry_of a.volume.now)) c.in_ok-v.ensures.refusal v.geometry
    (v.read ∙ rw c.in_ok-v.ensures.bytes) c.if-not-there.true in
    (c.from.ensures ∙ e.0, e.1)

pub returns-clause-found : goal.returns-clause-found
unfolding item
returns-clause-found c =
    let a = c.args in
    let v = c.in_ok-v.v in
    let eg = v.read ∙ rw c.in_ok-v.ensures.bytes in
    slot-done a.volume.now a.old.now (slot_at a.slot) (backup_numbers (geometry_of a.volume.now)) c.in_ok-v.ensures.refusal v.geometry
    eg c.if-not-there.false (start v.geometry (slot_at a.slot)) _ _ refl
    (c.slot.ensures ∙ ap (λ (b : List ℕ). item v.geometry b (slot_at a.slot)) c.in_ok-v.ensures.bytes)
    (told_under a.volume.now _ _ v.geometry eg c.backup_numbers.ensures)

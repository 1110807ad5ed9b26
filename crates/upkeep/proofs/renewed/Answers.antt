-- `upkeep::renewed`: the first needed note position, then the first needed log position.
use mathlib.Core.Path.{refl}
use Prim.Native.Nat.{◌/◌, ◌<◌}
use native.Mathlib.Omega.{arith}
use Rattle.upkeep_policy.specs.Upkeep.{first_needed_note, first_needed_log}
use Rattle.upkeep.proofs.NotePositions.{note-hit}
use Rattle.upkeep.proofs.LogPositions.{log-hit}
use Rattle.upkeep.proofs.Advice.{ring-note, ring-log, ring-idle}
use Rattle.upkeep.proofs.renewed.Goals as goal

pub at-n-requires : goal.at-n-requires
at-n-requires c =
    let v = c.args.v.now in
    let h = note-hit v.geometry v.bytes.now c.args.s _ c.in-Some.ensures.0 c.in-Some.ensures.2 in
    (h.0, h.1)

pub returns-in-Some : goal.returns-in-Some
returns-in-Some c =
    let v = c.args.v.now in
    let a = c.args in
    ring-note v.bytes.now a.memory.now a.s a.frame _ v.geometry v.read _ c.in-Some.ensures.0 _ c.in-Some.ensures.2
    c.at-n.ensures (rw c.from.ensures at c.renew.ensures)

pub page-requires : goal.page-requires
page-requires c =
    let v = c.args.v.now in
    let f = c.in-Some-first.ensures in
    (omega (arith, f.1), log-hit v.geometry v.bytes.now c.args.s _ f.0 f.1)

pub returns-in-Some-first : goal.returns-in-Some-first
returns-in-Some-first c =
    let v = c.args.v.now in
    let a = c.args in
    let past : 2 < first_needed_note v.geometry v.bytes.now a.s = omega (arith, c.in_default.ensures) in
    ring-log v.bytes.now a.memory.now a.s a.frame _ v.geometry v.read _ refl past _ c.in-Some-first.ensures.0 _
    c.in-Some-first.ensures.1 c.page.ensures c.renew-in-Some-first.ensures

pub returns : goal.returns
returns c =
    let v = c.args.v.now in
    let a = c.args in
    let past : 2 < first_needed_note v.geometry v.bytes.now a.s = omega (arith, c.in_default.ensures) in
    let none : v.geometry.records / 2 < first_needed_log v.geometry v.bytes.now a.s = omega (arith, c.in_default-first.ensures) in
    ring-idle v.bytes.now a.memory.now a.s a.frame _ v.geometry v.read _ refl past _ refl none c.plain.ensures

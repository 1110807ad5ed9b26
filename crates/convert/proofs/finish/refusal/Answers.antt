-- `finish::refusal`: the rows that all three have, then 20.
use mathlib.Core.Path.{refl}
use Rattle.std.proofs.lemmas.Result.{err_from_is_err_and}
use Rattle.model.specs.Geometry.{carry_tag}
use Rattle.laws.proofs.Refused.{refusal-some}
use Rattle.convert.proofs.Rows.{head_rows, finish-first, finish-left, finish-none}
use Rattle.convert.proofs.finish.refusal.Goals as goal

pub returns-in_err-refusal : goal.returns-in_err-refusal
returns-in_err-refusal c =
    let a = c.args in
    let p = err_from_is_err_and c.from_residual.result c.from_residual.ensures.1 in
    let rows = head_rows carry_tag a.volume.now a.memory.now a.s _ _ c.requires c.in_err-refusal.ensures in
    rw (p.1, p.2) (finish-first a.volume.now a.memory.now a.s _ rows (refusal-some _))

pub returns-in-Some : goal.returns-in-Some
returns-in-Some c =
    let a = c.args in
    let v = c.of-v.result in
    let rows = head_rows carry_tag a.volume.now a.memory.now a.s _ 0 c.requires c.in_ok-refusal.ensures in
    finish-left a.volume.now a.memory.now a.s 0 rows v.geometry _ refl (rw c.of-v.ensures at v.read)
    (rw c.of-v.ensures at c.in-Some.ensures.0) c.in-Some.ensures.1

pub returns-in-None : goal.returns-in-None
returns-in-None c =
    let a = c.args in
    let v = c.of-v.result in
    let rows = head_rows carry_tag a.volume.now a.memory.now a.s _ 0 c.requires c.in_ok-refusal.ensures in
    finish-none a.volume.now a.memory.now a.s 0 rows v.geometry refl (rw c.of-v.ensures at v.read) (rw c.of-v.ensures at c.in-None.ensures)

-- `restamp::restamp` is its definition: the laws of Outcomes.antt say what each case is.
use mathlib.Core.Path.{refl, sym, ap}
use Prim.Native.Nat.{◌+◌, ◌≤◌}
use native.Mathlib.Omega.{arith}
use lib.ListN.{length}
use Rattle.model.specs.Geometry.{carry_tag}
use Rattle.convert.proofs.Rows.{head_rows}
use Rattle.convert.proofs.Places.{few, image-fits}
use Rattle.convert.proofs.Outcomes.{restamp-refused, restamp-idle, restamp-done}
use Rattle.convert.proofs.restamp.restamp.Goals.{After-image_at-at}
use Rattle.convert.proofs.restamp.restamp.Goals as goal

-- the image is within the volume
room : (c : After-image_at-at) → c.image_at-at.result + 256 ≤ length c.args.volume.now
room c =
    let v = c.of-v.result in
    let f = image-fits _ _ _ v.valid v.read c.in-Some.ensures.1 in
    omega (arith, f, c.image_at-at.ensures, ap length c.of-v.ensures)

pub returns-in-Err : goal.returns-in-Err
returns-in-Err c =
    let a = c.args in
    let rows = head_rows carry_tag a.volume.now a.memory.now a.s _ _ c.requires c.in-Err.ensures in
    let k = restamp-refused _ _ _ _ _ c.from.ensures rows in
    record { reply = k.0; volume = k.1 }

pub returns-in_default-first_old : goal.returns-in_default-first_old
returns-in_default-first_old c =
    let a = c.args in
    let rows = head_rows carry_tag a.volume.now a.memory.now a.s _ 0 c.requires c.in_default.ensures in
    let k = restamp-idle _ _ _ _ _ (sym rows) (rw c.of-v.ensures at c.of-v.result.read) refl
    (rw c.of-v.ensures at c.in_default-first_old.ensures) in
    record { reply = k.0; volume = k.1 }

pub image_at-at-requires-clause-g_bound : goal.image_at-at-requires-clause-g_bound
image_at-at-requires-clause-g_bound c = let v = c.of-v.result in omega (arith, few _ _ v.valid v.read)

pub slice_bounds-old-end : goal.slice_bounds-old-end
slice_bounds-old-end c = omega (arith, room (goal.at.slice_bounds-old-end c).After-image_at-at)

pub returns : goal.returns
returns c =
    let a = c.args in
    let rows = head_rows carry_tag a.volume.now a.memory.now a.s _ 0 c.requires c.in_default.ensures in
    let k = restamp-done _ _ _ _ _ (sym rows) (rw c.of-v.ensures at c.of-v.result.read)
    (rw c.of-v.ensures at c.in-Some.ensures.0) _ _ _
    c.in-Some.ensures.1 c.image_at-at.ensures (room (goal.at.returns c).After-image_at-at) c.seal.ensures refl in
    record { reply = k.0; volume = k.1 }

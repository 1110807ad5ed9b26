-- `archive_read::segment::replay` meets its contract. The loop keeps `Replaying`: what is left, made on the body, gives the whole.
use mathlib.Core.Path.{refl}
use native.Mathlib.Omega.{arith}
use Rattle.archive_read.proofs.Records.{part-long}
use Rattle.archive_read.proofs.Images.{replaying-all, replaying-first, replaying-next, replaying-room, replaying-layout, replaying-on, replaying-end}
use Rattle.archive_read.proofs.segment.replay.Goals as goal

pub loop-i-init : goal.loop-i-init
loop-i-init c =
    let h = c.requires in
    replaying-first _ _ _ _ _ _ _ (replaying-all _ _ _ _ h.count_in_bounds h.judged h.body_len) _ _ refl refl

pub part-r-requires : goal.part-r-requires
part-r-requires c = replaying-room _ _ _ _ _ _ _ c.loop-i.invariant (omega (arith, c.loop-i-test.true))

pub replay-requires : goal.replay-requires
replay-requires c =
    let r = c.part-r.ensures in
    let room = replaying-room _ _ _ _ _ _ _ c.loop-i.invariant (omega (arith, c.loop-i-test.true)) in
    (part-long _ _ _ r room, replaying-layout _ _ _ _ _ _ _ c.loop-i.invariant (omega (arith, c.loop-i-test.true)) _ r, c.loop-i.invariant.size)

pub loop-i-preserved : goal.loop-i-preserved
loop-i-preserved c =
    replaying-next _ _ _ _ _ _ _
    (replaying-on _ _ _ _ _ _ _ c.loop-i.invariant (omega (arith, c.loop-i-test.true)) _ c.part-r.ensures _ c.replay.ensures
    c.replay.auto.body _ c.u32_at-last.ensures) _ _ _ refl refl

pub returns : goal.returns
returns c =
    let h = replaying-end _ _ _ _ _ _ _ c.loop-i.invariant (omega (arith, c.loop-i-test.false)) in
    record { last = h.0; body = h.1 }

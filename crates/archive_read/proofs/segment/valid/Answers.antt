-- `archive_read::segment::valid` meets its contract. The loop keeps `Judging`: what is left decides.
use mathlib.Core.Path.{refl, sym, ◌∙◌}
use native.Mathlib.Omega.{arith}
use Rattle.archive_read.proofs.Records.{judging-all, judging-first, judging-next, judging-room, judging-not, judging-on, judging-end, part-long}
use Rattle.archive_read.proofs.segment.valid.Goals as goal

pub loop-i-init : goal.loop-i-init
loop-i-init c =
    let h = c.requires in
    judging-first _ _ _ _ _ _ (judging-all _ _ _ _ h.0 h.1 c.u32_at-count.ensures) _ _ refl refl

pub part-r-requires : goal.part-r-requires
part-r-requires c = judging-room _ _ _ _ _ _ c.loop-i.invariant (omega (arith, c.loop-i-test.true))

pub follows-requires : goal.follows-requires
follows-requires c =
    omega (arith, part-long _ _ _ c.part-r.ensures (judging-room _ _ _ _ _ _ c.loop-i.invariant (omega (arith, c.loop-i-test.true))))

pub returns-then-not-follows : goal.returns-then-not-follows
returns-then-not-follows c =
    judging-not _ _ _ _ _ _ c.loop-i.invariant (omega (arith, c.loop-i-test.true)) _ c.part-r.ensures
    (sym c.follows.ensures ∙ c.if-not-follows.true)

pub loop-i-preserved : goal.loop-i-preserved
loop-i-preserved c =
    let f = sym c.follows.ensures ∙ c.if-not-follows.false in
    judging-next _ _ _ _ _ _
    (judging-on _ _ _ _ _ _ c.loop-i.invariant (omega (arith, c.loop-i-test.true)) _ c.part-r.ensures f _ c.u32_at-last.ensures) _ _ _ refl refl

pub returns : goal.returns
returns c = judging-end _ _ _ _ _ _ c.loop-i.invariant (omega (arith, c.loop-i-test.false))

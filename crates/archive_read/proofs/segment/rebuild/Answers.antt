-- `archive_read::segment::rebuild` meets its contract: zeros, the replay on the body's part of them, and the image around it.
use mathlib.Core.Path.{◌≡◌}
use Prim.Native.Nat.{◌<◌}
use native.Mathlib.Omega.{arith}
use Rattle.archive_read.proofs.Records.{front-room}
use Rattle.archive_read.proofs.Images.{judged-front, image-blank, image-built}
use borrow.Author.Rules.{rules}
use Rattle.archive_read.proofs.segment.rebuild.Goals as goal

pub returns-then-count-eq0 : goal.returns-then-count-eq0
returns-then-count-eq0 c =
    let s = c in
    let a = s.args in
    let f = c.fill.ensures.after (λ y e. e) in
    let none : c.u32_at-count.result ≡ 0 = omega (arith, c.if-count-eq0.true) in
    image-blank a.page a.archive.now a.at _ c.u32_at-count.ensures none _ _ f s.requires.page_bound.1

pub replay-last-requires : goal.replay-last-requires
replay-last-requires c =
    let s = c in
    let a = s.args in
    let n = c.u32_at-count in
    let room = front-room a.archive.now a.at s.requires.at_in_bounds.0 s.requires.at_in_bounds.1 n.result n.ensures in
    record { count_in_bounds = room; judged = judged-front a.page a.archive.now a.at n.result n.ensures s.requires.archive_value; body_len = search rules }

pub returns : goal.returns
returns c =
    let r = c in
    let n = r in
    let f = n in
    let s = f in
    let a = s.args in
    let some : 0 < n.u32_at-count.result = omega (arith, r.if-count-eq0.false) in
    image-built a.page a.archive.now a.at _ n.u32_at-count.ensures some _ _ _ _ _ (f.fill.ensures.after (λ y e. e)) s.requires.page_bound.1
    r.replay-last.auto.body r.replay-last.ensures.last r.replay-last.ensures.body c.build.ensures

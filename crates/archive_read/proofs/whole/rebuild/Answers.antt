-- `archive_read::whole::rebuild` meets its contract. The loop keeps `Rebuilding`: the first i images and those of what is left are the whole.
use mathlib.Core.Path.{◌≡◌, sym, ◌∙◌}
use Prim.Native.Nat.{◌+◌, ◌-◌, ◌*◌, ◌≤◌}
use native.Mathlib.Omega.{arith}
use borrow.Author.Rules.{rules}
use lib.ListN.{length}
use Rattle.archive_read.proofs.Wholes.{rebuilding-all, rebuilding-room, rebuilding-fits}
use Rattle.archive_read.proofs.Wholes.{rebuilding-valid, rebuilding-on, rebuilding-end, part-size}
use Rattle.archive_read.proofs.whole.rebuild.Goals.{In-loop-i}
use Rattle.archive_read.proofs.whole.rebuild.Goals as goal

-- the next image lies in the area
room : (c : goal.In-loop-i) → 256 * c.loop-i.i + 256 ≤ length c.loop-i.area
room c = rebuilding-room _ _ _ _ _ c.loop-i.invariant c.loop-i-test.true

pub loop-i-init : goal.loop-i-init
loop-i-init c = let h = c.requires in rebuilding-all _ _ _ h.0 h.2

pub overflow_mul-from : goal.overflow_mul-from
overflow_mul-from c = let r = room (goal.at.overflow_mul-from c).In-loop-i in search rules

pub overflow_add-end : goal.overflow_add-end
overflow_add-end c = let r = room (goal.at.overflow_add-end c).In-loop-i in search rules

pub slice_bounds-rebuild-count : goal.slice_bounds-rebuild-count
slice_bounds-rebuild-count c = let r = room (goal.at.slice_bounds-rebuild-count c).In-loop-i in search rules

pub slice_bounds-rebuild-start : goal.slice_bounds-rebuild-start
slice_bounds-rebuild-start c = let r = room (goal.at.slice_bounds-rebuild-start c).In-loop-i in search rules

pub slice_bounds-rebuild-end : goal.slice_bounds-rebuild-end
slice_bounds-rebuild-end c = let r = room (goal.at.slice_bounds-rebuild-end c).In-loop-i in search rules

pub rebuild-requires : goal.rebuild-requires
rebuild-requires c =
    let l = c.loop-i in
    let t = c.loop-i-test.true in
    let h = c.requires in
    let v = rebuilding-valid _ _ _ _ _ l.invariant t in
    let s = part-size l.area l.i (room (goal.at.rebuild-requires c).In-loop-i) in
    record {
      at_in_bounds = (l.invariant.inside, rebuilding-fits _ _ _ _ _ l.invariant t);
      archive_value = v;
      page_bound = (omega (arith, h.1, t), s);
    }

pub past-at-requires : goal.past-at-requires
past-at-requires c =
    let l = c.loop-i in
    (l.invariant.inside, rebuilding-fits _ _ _ _ _ l.invariant c.loop-i-test.true)

pub loop-i-preserved : goal.loop-i-preserved
loop-i-preserved c =
    let l = c.loop-i in
    let t = c.loop-i-test.true in
    let r = c.rebuild in
    let k : 256 * l.i + 256 - 256 * l.i ≡ 256 = omega arith in
    let long = r.auto.image ∙ part-size l.area l.i (room (goal.at.loop-i-preserved c).In-loop-i) in
    rw c.past-at.ensures (rebuilding-on _ _ _ _ _ l.invariant t _ _ k long r.ensures)

pub shape_of-area : goal.shape_of-area
shape_of-area c = let h = c.requires in c.loop-i.invariant.size ∙ sym h.2

pub returns : goal.returns
returns c = rebuilding-end _ _ _ _ _ c.loop-i.invariant c.loop-i-test.false

-- `numbers::put_frames` meets its contract.
use Rattle.laws.proofs.Tabulated.{length-mapped}
use Rattle.numbers.proofs.put_frames.Goals.{Start}
use Rattle.numbers.proofs.put_frames.Goals as goal
use mathlib.Core.Path.{◌≡◌, sym, ◌∙◌}
use Prim.Native.Nat.{◌+◌, ◌*◌}
use native.Mathlib.Omega.{arith}
use lib.ListN.{length, length-set}
use Rattle.face.specs.Numbers.{frame_numbers}
use Rattle.numbers.proofs.NumberLaws.{two, whole, frame-page, frame-dirty, frames-long}
use borrow.Author.Rules.{rules}

-- the array's length
long : (c : goal.Start) → length c.args.table ≡ 16
long c = search (rules, length-mapped)

pub bounds-out-k-in-loop-i : goal.bounds-out-k-in-loop-i
bounds-out-k-in-loop-i c = simp length-set (omega arith)

pub loop-i-preserved : goal.loop-i-preserved
loop-i-preserved c =
    let l = c.loop-i in
    let fs = c.args.table in
    let n = frames-long fs in (
      simp length-set l.invariant.0,
      two l.out (frame_numbers fs) (2 * l.i) (2 * (l.i + 1)) _ _ (omega arith) (omega (arith, l.invariant.0, c.loop-i-test.true))
          (omega (arith, l.invariant.0, n, long (goal.at.loop-i-preserved c).Start)) l.invariant.1 (sym (frame-page fs l.i))
          (c.from.ensures ∙ sym (frame-dirty fs l.i)),
    )

pub returns : goal.returns
returns c =
    let l = c.loop-i in
    let fs = c.args.table in
    whole l.out (frame_numbers fs) (2 * l.i) (omega (arith, l.invariant.0, c.loop-i-test.false))
    (omega (arith, l.invariant.0, frames-long fs, long (goal.at.returns c).Start)) l.invariant.1

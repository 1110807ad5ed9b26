-- `numbers::put_entries` meets its contract.
use Rattle.laws.proofs.Tabulated.{length-mapped}
use Rattle.numbers.proofs.put_entries.Goals.{Start}
use Rattle.numbers.proofs.put_entries.Goals as goal
use mathlib.Core.Path.{◌≡◌, sym}
use Prim.Native.Nat.{◌+◌, ◌*◌}
use native.Mathlib.Omega.{arith}
use lib.ListN.{length, length-set}
use Rattle.face.specs.Numbers.{entry_numbers}
use Rattle.numbers.proofs.NumberLaws.{five, whole, entry-told, entries-long}
use borrow.Author.Rules.{rules}

-- the array's length
long : (c : goal.Start) → length c.args.index ≡ 64
long c = search (rules, length-mapped)

pub bounds-out-k-in-loop-i : goal.bounds-out-k-in-loop-i
bounds-out-k-in-loop-i c = simp length-set (omega arith)

pub bounds-out-k-in-loop-i-2 : goal.bounds-out-k-in-loop-i-2
bounds-out-k-in-loop-i-2 c = simp length-set (omega arith)

pub bounds-out-k-in-loop-i-3 : goal.bounds-out-k-in-loop-i-3
bounds-out-k-in-loop-i-3 c = simp length-set (omega arith)

pub bounds-out-k-in-loop-i-4 : goal.bounds-out-k-in-loop-i-4
bounds-out-k-in-loop-i-4 c = simp length-set (omega arith)

pub loop-i-preserved : goal.loop-i-preserved
loop-i-preserved c =
    let l = c.loop-i in
    let es = c.args.index in
    let t = entry-told es l.i in
    let n = entries-long es in (
      simp length-set l.invariant.0,
      five l.out (entry_numbers es) (5 * l.i) (5 * (l.i + 1)) _ _ _ _ _ (omega arith) (omega (arith, l.invariant.0, c.loop-i-test.true))
          (omega (arith, l.invariant.0, n, long (goal.at.loop-i-preserved c).Start)) l.invariant.1 (sym t.last) (sym t.durable) (sym t.written) (sym t.slot)
          (sym t.backup),
    )

pub returns : goal.returns
returns c =
    let l = c.loop-i in
    let es = c.args.index in
    whole l.out (entry_numbers es) (5 * l.i) (omega (arith, l.invariant.0, c.loop-i-test.false))
    (omega (arith, l.invariant.0, entries-long es, long (goal.at.returns c).Start)) l.invariant.1

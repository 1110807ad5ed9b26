-- `word_lanes::block`: six steps, one behind the other.
use mathlib.Core.Path.{◌≡◌}
use Prim.Native.Nat.{◌+◌, ◌≤◌}
use native.Mathlib.Omega.{arith}
use lib.ListN.{length}
use Rattle.sums.proofs.LaneSums.{six-steps}
use Rattle.sums.proofs.word_lanes.block.Goals as goal

pub overflow_add-at-5 : goal.overflow_add-at-5
overflow_add-at-5 c = omega
    (arith, c.requires.at_in_bounds.0, c.requires.at_in_bounds.1)

pub returns : goal.returns
returns c =
    let a = c.args in
    let e : a.at + 40 + 8 ≡ a.at + 48 = omega arith in
    let h : a.at + 48 ≤ length a.s.now = c.requires.at_in_bounds.0 in record {
      bounded_2 = rw e at c.step.ensures.bounded_2;
      passed = six-steps a.s.now a.at _ _ _ _ _ _ _ h c.step-l1.ensures.stepped
          c.step-l2.ensures.stepped c.step-l3.ensures.stepped
          c.step-l4.ensures.stepped c.step-l5.ensures.stepped c.step.ensures.stepped;
    }

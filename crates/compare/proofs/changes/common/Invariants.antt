-- `compare::changes::common` meets its contract. The loop keeps: what the records left have in common gives the whole.
use mathlib.Core.Path.{◌≡◌}
use Prim.Native.Nat.{◌-◌}
use Rattle.reports.specs.Mirror.{common_from}
use Rattle.compare.proofs.changes.common.Given as goal

abbrev pub invariant-loop-k : goal.invariant-loop-k
invariant-loop-k l =
    common_from (l.most - l.k) l.v.bytes.now l.w.bytes.now l.k ≡ common_from l.most l.v.bytes.now l.w.bytes.now 0

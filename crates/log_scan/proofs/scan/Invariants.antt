-- `log_scan::scan` meets its contract. The loop keeps: the records passed fit, and gave the column of last numbers.
use mathlib.Core.Path.{◌≡◌}
use Prim.Native.Nat.{◌+◌, ◌-◌, ◌%◌}
use Rattle.log_scan.proofs.LogPass.{Judged}
use Rattle.log_scan.proofs.scan.Given as goal

abbrev pub invariant-loop-i : goal.invariant-loop-i
invariant-loop-i l =
    Judged l.v.geometry l.v.bytes.now l.run.first l.i l.last × (l.slot ≡ (l.run.first + l.i - 1) % l.v.geometry.records)

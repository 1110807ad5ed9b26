-- `compare::pages::mark_behind` meets its contract. The loop keeps: the pages of the records passed are marked.
use mathlib.Core.Path.{◌≡◌}
use Prim.Native.Nat.{◌-◌, ◌≤◌}
use Rattle.compare.specs.Volumes.{marked_behind}
use Rattle.compare.proofs.pages.mark_behind.Given as goal

abbrev pub invariant-loop-i : goal.invariant-loop-i
invariant-loop-i l =
    (l.i - l.k ≤ l.n - l.k) × (l.touched ≡ marked_behind l.v.geometry l.v.bytes.now l.k l.i l.initial.touched)

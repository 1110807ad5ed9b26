-- `bench_calls::pagestore_cycles` meets its contract: the parts that the code holds are the run over the commands made.
use Prim.Native.Nat.{◌+◌, ◌-◌, ◌≤◌}
use mathlib.Core.Path.{◌≡◌}
use lib.ListN.{length}
use Rattle.bench_calls.specs.Cycles.{run_over}
use Rattle.bench_calls.proofs.Runs.{run_at}
use Rattle.bench_calls.proofs.pagestore_cycles.Given as goal

abbrev pub invariant-loop-j : goal.invariant-loop-j
invariant-loop-j l =
    (run_at l.volume l.memory l.store l.total ≡ run_over (run_at l.initial.volume l.initial.memory l.initial.store l.initial.total) l.j) × (l.total ≤ 1 + l.j) × (l.most ≤ 7168)
    × (length l.volume ≡ length l.initial.volume) × (length l.memory ≡ length l.initial.memory)

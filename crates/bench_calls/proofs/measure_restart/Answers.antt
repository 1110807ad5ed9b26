-- `bench_calls::measure_restart` meets its contract.
use mathlib.Core.Path.{ap}
use Rattle.bench_calls.specs.Cycles.{Run}
use Rattle.bench_calls.proofs.Runs.{restart-is}
use Rattle.bench_calls.proofs.measure_restart.Goals as goal

pub returns : goal.returns
returns c =
    let e = restart-is _ _ _ _ _ c.restart-restarted.ensures.outcome c.restart-restarted.ensures.memory c.refused.ensures.0 in
    record { refused = ap (λ (x : Run). x.refused) e; memory = ap (λ (x : Run). x.memory) e }

-- `bench_calls::pagestore_cycles` meets its contract: the parts that the code holds are the run over the commands made.
use Prim.Native.Nat.{◌*◌}
use mathlib.Core.Path.{◌≡◌, ap}
use native.Mathlib.Omega.{arith}
use lib.ListN.{replicate}
use Rattle.bench_calls.specs.Cycles.{Run}
use Rattle.bench_calls.proofs.Runs.{run_none, restart-is, call-is, run_more, run-all}
use borrow.Author.Rules.{rules}
use Rattle.bench_calls.proofs.pagestore_cycles.Goals as goal

pub loop-j-init : goal.loop-j-init
loop-j-init c = (run_none _, search rules, search rules, search rules, search rules)

pub loop-j-preserved : goal.loop-j-preserved
loop-j-preserved c =
    let e = c.perform-o.ensures in (
      run_more _ _ _ _ _ c.loop-j.invariant.0 c.command.ensures
          (call-is c.loop-j.volume c.loop-j.memory _ _ (replicate 44 9) c.loop-j.store _ _ _ c.command.result e.outcome
          e.memory e.volume c.refused-total-in-loop-j.ensures.0),
      search rules,
      search rules,
      search rules,
      search rules,
    )

pub returns : goal.returns
returns c =
    let j : c.loop-j.j ≡ 7 * c.cut-most.result = omega arith in
    let e = run-all _ _ c.args.count _ _ _ _
    (restart-is _ _ _ _ _ c.restart-restarted.ensures.outcome c.restart-restarted.ensures.memory c.refused-total.ensures.0)
    c.cut-most.ensures.0 j c.loop-j.invariant.0 in
    record { refused = ap (λ (x : Run). x.refused) e; volume = ap (λ (x : Run). x.volume) e; memory = ap (λ (x : Run). x.memory) e }

-- `bench_calls::command` meets its contract.
use Prim.Native.Nat.{◌%◌}
use mathlib.Core.Path.{◌≡◌}
use native.Mathlib.Omega.{arith}
use Rattle.bench_calls.specs.Cycles.{command_in}
use Rattle.bench_calls.proofs.command.Goals as goal

pub returns-in-0 : goal.returns-in-0
unfolding command_in
returns-in-0 c = rw c.in-0.is

pub returns-in-1 : goal.returns-in-1
unfolding command_in
returns-in-1 c = rw c.in-1.is

pub returns-in-2 : goal.returns-in-2
unfolding command_in
returns-in-2 c = rw c.in-2.is

pub returns-in-3 : goal.returns-in-3
unfolding command_in
returns-in-3 c = rw c.in-3.is

pub returns-in-4 : goal.returns-in-4
unfolding command_in
returns-in-4 c = rw c.in-4.is

pub returns-in-5 : goal.returns-in-5
unfolding command_in
returns-in-5 c = rw c.in-5.is

pub returns-in_default : goal.returns-in_default
unfolding command_in
returns-in_default c = let e : c.args.j % 7 ≡ 6 = omega arith in rw e

-- `upkeep::log::first`: the search from position i on gives what the whole does.
use mathlib.Core.Path.{◌≡◌}
use Prim.Native.Nat.{◌+◌, ◌-◌}
use Rattle.model.specs.Passes.{first_from}
use Rattle.upkeep_policy.specs.Upkeep.{log_ahead, first_needed_log}
use Rattle.upkeep.proofs.log.first.Given as goal

abbrev pub invariant-loop-i : goal.invariant-loop-i
invariant-loop-i l =
    first_from (l.half + 1 - l.i) (log_ahead l.v.geometry l.v.bytes.now l.s) l.i ≡ first_needed_log l.v.geometry l.v.bytes.now l.s

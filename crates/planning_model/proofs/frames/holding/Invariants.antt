-- `planning_model::frames::holding` meets its contract.
use Rattle.std.specs.Prelude.{MatchOption}
use Rattle.planning.specs.Rehearsal.{holding}
use Prim.Native.Nat.{◌+◌, ◌<◌}
use mathlib.Core.Path.{◌≡◌}
use Rattle.planning_model.proofs.frames.holding.Given as goal

abbrev pub invariant-loop-i : goal.invariant-loop-i
invariant-loop-i l = MatchOption l.found (holding l.frames l.page l.i ≡ 0) (λ f. (f < l.i) × (holding l.frames l.page l.i ≡ f + 1))

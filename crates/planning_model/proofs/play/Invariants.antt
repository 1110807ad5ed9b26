-- `planning_model::play` meets its contract.
use Rattle.planning_model.specs.Bounds.{Bounded}
use Rattle.planning.specs.Rehearsal.{play_from, idle}
use lib.ListN.{drop}
use Prim.Native.Nat.{◌*◌}
use mathlib.Core.Path.{◌≡◌}
use Rattle.planning_model.proofs.play.Given as goal

abbrev pub invariant-loop-i : goal.invariant-loop-i
invariant-loop-i l = (play_from l.t l.i l.m (drop l.i l.events) ≡ play_from l.t 0 idle l.events) × Bounded (256 * l.i) l.m.pages

-- `Renewal::free_slot`: the search from slot b on gives what the whole does.
use mathlib.Core.Path.{◌≡◌}
use mathlib.Core.Bool.{not}
use Prim.Native.Nat.{◌+◌, ◌-◌}
use Rattle.model.specs.Index.{slot_used}
use Rattle.model.specs.Passes.{first_from}
use Rattle.upkeep.proofs.renewal.Renewal.free_slot.Given as goal

abbrev pub invariant-loop-b : goal.invariant-loop-b
invariant-loop-b l =
    first_from (l.slots + 1 - l.b) (λ k. not (slot_used k l.index)) l.b ≡ first_from l.slots (λ k. not (slot_used k l.index)) 1

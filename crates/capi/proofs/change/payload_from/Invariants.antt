use Rattle.face.specs.Arguments.{payload_from}
use mathlib.Core.Path.{◌≡◌}
use lib.ListN.{length, take}
use Rattle.capi.proofs.change.payload_from.Given as goal

abbrev pub invariant-loop-i : goal.invariant-loop-i
invariant-loop-i l = (length l.bytes ≡ 44) × (take l.i l.bytes ≡ take l.i (payload_from l.xs))

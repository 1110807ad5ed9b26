-- `images::first_old`: the search from image i on gives what the whole does.
use mathlib.Core.Path.{◌≡◌}
use Prim.Native.Nat.{◌-◌}
use Rattle.model.specs.Passes.{old_at, first_from, first_old}
use Rattle.convert.proofs.images.first_old.Given as goal

abbrev pub invariant-loop-i : goal.invariant-loop-i
invariant-loop-i l =
    first_from (l.count - l.i) (old_at l.v.geometry l.v.bytes.now l.index) l.i ≡ first_old l.v.geometry l.v.bytes.now l.index

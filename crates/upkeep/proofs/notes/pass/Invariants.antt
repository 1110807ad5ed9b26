-- `upkeep::notes::pass`: what the pass has seen of the two notes.
use mathlib.Core.Path.{◌≡◌}
use Prim.Native.Nat.{suc, ◌-◌}
use Rattle.upkeep.proofs.NotePass.{so_far}
use Rattle.upkeep.proofs.notes.pass.Given as goal

abbrev pub invariant-loop-i : goal.invariant-loop-i
invariant-loop-i l =
    (l.first ≡ so_far l.v.geometry l.v.bytes.now (l.j - 1) (suc l.i)) × (l.second ≡ so_far l.v.geometry l.v.bytes.now l.j l.i)

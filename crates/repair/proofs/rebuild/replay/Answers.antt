-- `repair::rebuild::replay` meets its contract: there is room for the chain's numbers.
use Prim.Native.Nat.{ℕ, ◌≤◌}
use mathlib.Core.Path.{◌≡◌}
use native.Mathlib.Omega.{arith}
use lib.ListN.{length}
use Rattle.repair.specs.Walked.{walk_for, view_for}
use Rattle.repair.specs.declared.Target.{Target}
use borrow.Author.Rules.{rules}
use Rattle.repair.proofs.Replays.{chain-most}
use Rattle.volume.proofs.Slots.{records-few}
use Rattle.repair.proofs.rebuild.replay.Goals as goal

most : (t : Target) (count : ℕ) → count ≡ length (walk_for t).chain → count ≤ 1024
most t count e =
    let m = chain-most t.volume.geometry t.page (view_for t) t.durable in
    omega (arith, e, m, records-few t.volume.bytes.now t.volume.geometry t.volume.valid t.volume.read)

pub slice_bounds-lsns-end : goal.slice_bounds-lsns-end
slice_bounds-lsns-end c = most c.args.t.now _ c.requires.count_value

pub slice_bounds-replay_in-end-else-count-le32 : goal.slice_bounds-replay_in-end-else-count-le32
slice_bounds-replay_in-end-else-count-le32 c = let m = most c.args.t.now _ c.requires.count_value in search rules

pub replay_in-requires-else-count-le32-clause-room : goal.replay_in-requires-else-count-le32-clause-room
replay_in-requires-else-count-le32-clause-room c = let m = most c.args.t.now _ c.requires.count_value in search rules

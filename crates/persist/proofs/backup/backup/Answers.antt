-- `persist::backup::backup` is its definition: the laws of Outcomes.antt say what each case is.
use mathlib.Core.Path.{◌≡◌, sym, ◌∙◌}
use Prim.Native.Nat.{◌≤◌}
use native.Mathlib.Omega.{arith}
use lib.ListN.{length}
use Rattle.laws.proofs.Tabulated.{length-mapped}
use Rattle.model.specs.Tables.{first_of}
use Rattle.model.specs.Geometry.{slot_at}
use Rattle.model.specs.Refusals.{backup_rows}
use Rattle.persist.proofs.Outcomes.{backup-refused, backup-done}
use Rattle.laws.proofs.Refused.{refusal-some}
use Rattle.persist.proofs.Room.{Room, backup-room}
use borrow.Author.Rules.{rules}
use Rattle.persist.proofs.backup.backup.Goals.{Start, In_default, After-geometry-g}
use Rattle.persist.proofs.backup.backup.Goals as goal

-- the frame table's length
long : (c : Start) → length c.args.s.frames ≡ 16
long c = search (rules, length-mapped)

-- past the test: no row holds, and what that tells
none : (c : In_default) → first_of
    (backup_rows c.args.volume.now c.args.memory.now c.args.s c.args.page c.args.slot) ≡ 0
none c = sym c.in_default.ensures

known : (c : After-geometry-g) → length c.args.s.frames ≡ 16
    → first_of (backup_rows c.args.volume.now c.args.memory.now c.args.s c.args.page c.args.slot) ≡ 0
    → (c.args.slot ≤ 255)
    × Room c.args.volume.now c.args.memory.now c.args.s c.geometry-g.result c.args.page (slot_at c.args.slot)
known c l n =
    backup-room c.args.volume.now c.args.memory.now c.args.s _ c.args.page l c.geometry-g.ensures c.args.slot n

pub returns-in-Err : goal.returns-in-Err
returns-in-Err c =
    let k = backup-refused _ _ _ _ _ _ c.in-Err.ensures (refusal-some _) in
    record { reply = c.refused.ensures ∙ k.0; volume = k.1 }

pub store-requires : goal.store-requires
store-requires c =
    let at = goal.at.store-requires c in
    let k = (known at.After-geometry-g (long at.Start) (none at.In_default)).1 in
    (omega (arith, k.place, c.slot_at.ensures), omega (arith, k.frame, c.holder-f.ensures))

pub backed_up-requires : goal.backed_up-requires
backed_up-requires c =
    let at = goal.at.backed_up-requires c in
    let k = known at.After-geometry-g (long at.Start) (none at.In_default) in
    (k.1.page-high, omega (arith, k.0), omega (arith, k.1.notes))

pub returns : goal.returns
returns c =
    let a = c.args in
    let k = backup-done a.volume.now a.memory.now a.s a.page _ _ _ _ _ _ c.geometry-g.ensures c.holder-f.ensures
    c.lsn-lsn.ensures c.store.ensures a.slot (none (goal.at.returns c).In_default) c.slot_at.ensures
    c.backed_up.ensures in
    record { reply = c.done.ensures ∙ k.0; volume = k.1 }

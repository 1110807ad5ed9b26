-- `persist::write::write` is its definition: the laws of Outcomes.antt say what each case is.
use mathlib.Core.Path.{◌≡◌, sym, ◌∙◌}
use mathlib.Core.Bool.{true, false}
use native.Mathlib.Omega.{arith}
use lib.ListN.{length}
use Rattle.laws.proofs.Tabulated.{length-mapped}
use Rattle.model.specs.Tables.{first_of}
use Rattle.model.specs.Geometry.{page_at}
use Rattle.model.specs.Refusals.{page_dirty, write_rows}
use Rattle.persist.proofs.Outcomes.{dirty-is, write-refused, write-idle, write_done}
use Rattle.laws.proofs.Refused.{refusal-some}
use Rattle.persist.proofs.Room.{Room, write-room}
use borrow.Author.Rules.{rules}
use Rattle.persist.proofs.write.write.Goals.{Start, In_default, Else-not-dirty, After-geometry-g}
use Rattle.persist.proofs.write.write.Goals as goal

-- the frame table's length
long : (c : Start) → length c.args.s.frames ≡ 16
long c = search (rules, length-mapped)

-- past the first test: no row holds
none : (c : In_default) → first_of
    (write_rows c.args.volume.now c.args.memory.now c.args.s c.args.page) ≡ 0
none c = sym c.in_default.ensures

-- past the second: the page is dirty
dirty : (c : Else-not-dirty) → page_dirty c.args.s c.args.page ≡ true
dirty c =
    let a = c.args in
    dirty-is a.volume.now a.memory.now a.s a.page _ _ true c.holder-f.ensures c.frame-dirty.ensures
    c.if-not-dirty.false

known : (c : After-geometry-g) → length c.args.s.frames ≡ 16
    → first_of (write_rows c.args.volume.now c.args.memory.now c.args.s c.args.page) ≡ 0
    → page_dirty c.args.s c.args.page ≡ true
    → Room c.args.volume.now c.args.memory.now c.args.s c.geometry-g.result c.args.page (page_at c.args.page)
known c l n d =
    write-room c.args.volume.now c.args.memory.now c.args.s _ c.args.page l c.geometry-g.ensures n d

pub returns-in-Err : goal.returns-in-Err
returns-in-Err c =
    let k = write-refused _ _ _ _ _ c.in-Err.ensures (refusal-some _) in
    record { reply = c.refused.ensures ∙ k.0; volume = k.1 }

pub returns-then-not-dirty : goal.returns-then-not-dirty
returns-then-not-dirty c =
    let a = c.args in
    let k = write-idle a.volume.now a.memory.now a.s a.page (none (goal.at.returns-then-not-dirty c).In_default)
    (dirty-is a.volume.now a.memory.now a.s a.page _ _ false c.holder-f.ensures c.frame-dirty.ensures
    c.if-not-dirty.true) in
    record { reply = c.nothing.ensures ∙ k.0; volume = k.1 }

pub store-requires : goal.store-requires
store-requires c =
    let at = goal.at.store-requires c in
    let k = known at.After-geometry-g (long at.Start) (none at.In_default) (dirty at.Else-not-dirty) in
    let h = c.holder-f.ensures in
    (omega (arith, k.place, c.page_at.ensures), omega (arith, k.frame, h))

pub written-requires : goal.written-requires
written-requires c =
    let at = goal.at.written-requires c in
    let k = known at.After-geometry-g (long at.Start) (none at.In_default) (dirty at.Else-not-dirty) in
    let h = c.holder-f.ensures in
    (k.page-high, omega (arith, k.frame-low, h), omega (arith, k.frame-high, h), omega (arith, k.notes))

pub returns : goal.returns
returns c =
    let a = c.args in
    let at = goal.at.returns c in
    let k = write_done a.volume.now a.memory.now a.s a.page _ _ _ _ _ _ c.geometry-g.ensures c.holder-f.ensures
    c.lsn-lsn.ensures c.store.ensures (none at.In_default) (dirty at.Else-not-dirty) c.page_at.ensures
    c.written.ensures in
    record { reply = c.done.ensures ∙ k.0; volume = k.1 }

-- `index::notes::scan` meets its contract. The loop keeps: the notes passed fit, and gave the columns.
use mathlib.Core.Path.{◌≡◌, refl, sym, ap, ◌∙◌}
use Prim.Native.Nat.{◌+◌, ◌-◌, ◌%◌, ◌≤◌, ◌<◌}
use native.Mathlib.Omega.{arith}
use Rattle.model.specs.Geometry.{note_slot, item}
use Rattle.model.specs.Scan.{note_index, note_fits}
use Rattle.section.specs.declared.Run.{Run}
use Rattle.log_scan.proofs.RowLaws.{row_below}
use Rattle.index.proofs.Located.{note-here}
use Rattle.index.proofs.NotePass.{note-whole, entered-none, entered-more, run-low, run-some}
use Rattle.index.proofs.NotePass.{note-judged, notes-break, notes-end, notes-columns}
use Rattle.section.proofs.SectionLaws.{slot-starts, slot-low, slot_next, slot-of}
use Rattle.index.proofs.notes.scan.Goals.{After-fits, After-item-r, After-nth-k, After-row-j, At-loop-i, In-loop-i}
use Rattle.index.proofs.notes.scan.Goals as goal

-- where there is a note, there is a slot for it
some : (c : In-loop-i) → 1 ≤ c.args.v.now.geometry.notes
some c = run-some _ _ _ c.requires.run_value c.loop-i.i (omega (arith, c.loop-i-test.true, c.span-i-end.ensures))

-- the slot that is looked at is one of the notes', and that of the note
low : (c : In-loop-i) → c.loop-i.slot < c.args.v.now.geometry.notes
low c = slot-low _ _ _ refl _ _ (c.loop-i.invariant.place (some c)) (some c)

slot_is : (c : After-nth-k) → c.loop-i.slot ≡ (c.nth-k.result - 1) % c.args.v.now.geometry.notes
slot_is c =
    slot-of _ _ _ refl _ _
    (c.loop-i.invariant.place (run-some _ _ _ c.requires.run_value c.loop-i.i (omega (arith, c.loop-i-test.true, c.span-i-end.ensures))))
    _ c.nth-k.ensures

-- the note is that of its number
here : (c : After-item-r) → c.loop-i.slot ≡ (c.nth-k.result - 1) % c.args.v.now.geometry.notes → let v = c.args.v.now in
    c.item-r.result.now ≡ item v.geometry v.bytes.now (note_slot v.geometry c.nth-k.result)
here c e = note-here _ _ _ _ _ _ (rw c.locate-s.ensures.bytes at c.item-r.ensures) c.locate-s.ensures.extent e

-- it is judged
judged : (c : After-fits) → c.item-r.result.now ≡ item c.args.v.now.geometry c.args.v.now.bytes.now (note_slot c.args.v.now.geometry c.nth-k.result)
    → let f = c.args.run.first in
    let g = c.args.v.now.geometry in
    let v = c.args.v.now.bytes.now in
    c.fits.result ≡ note_fits g v (note_index g v f c.loop-i.i) (f + c.loop-i.i)
judged c h =
    note-judged _ _ c.args.v.now.sized.pages _ _ _ c.loop-i.invariant.entered.same _ c.nth-k.ensures
    _ h _ c.read-n.ensures _ (rw c.from.ensures at c.row-j.ensures) _ c.earlier-was.ensures _ _
    (ap (λ (r : Run). r.count) c.requires.log_value) (ap (λ (r : Run). r.first) c.requires.log_value) _ _ _ _ _
    c.whole-whole.ensures (rw c.from-in-loop-i.ensures at c.taken.ensures) c.follows-follows.ensures c.agrees-named.ensures c.fits.ensures

-- the row that is looked up is one of each column's
row_at : (c : After-row-j) → c.row-j.result < 64
row_at c = omega (arith, c.row-j.ensures, row_below c.from.result)

pub span-i-end-requires : goal.span-i-end-requires
span-i-end-requires c = run-low _ _ _ c.requires.run_value

pub start-slot-requires : goal.start-slot-requires
start-slot-requires c = run-low _ _ _ c.requires.run_value

pub loop-i-init : goal.loop-i-init
loop-i-init c =
    record {
      entered = entered-none _ _ _ _ c.requires.blank;
      place = slot-starts _ _ _ refl _ c.start-slot.ensures;
      last = refl;
    }

pub item-r-requires : goal.item-r-requires
item-r-requires c = rw c.locate-s.ensures.extent (low (goal.at.item-r-requires c).In-loop-i)

pub earlier-was-requires : goal.earlier-was-requires
earlier-was-requires c = row_at (goal.at.earlier-was-requires c).After-row-j

pub whole-whole-requires : goal.whole-whole-requires
whole-whole-requires c =
    let p = goal.at.whole-whole-requires c in
    let e = slot_is p.After-nth-k in
    note-whole _ _ _ c.requires.run_value _ _ _ (here p.After-item-r e) e

pub returns-then-not-fits-clause-fit : goal.returns-then-not-fits-clause-fit
returns-then-not-fits-clause-fit c =
    let p = goal.at.returns-then-not-fits-clause-fit c in
    sym (notes-break _ _ _ c.requires.run_value _ (omega (arith, c.loop-i-test.true, c.span-i-end.ensures))
    (sym (judged p.After-fits (here p.After-item-r (slot_is p.After-nth-k))) ∙ c.if-not-fits.true))

pub enter-requires : goal.enter-requires
enter-requires c = row_at (goal.at.enter-requires c).After-row-j

pub after-slot-requires : goal.after-slot-requires
after-slot-requires c = low (goal.at.after-slot-requires c).In-loop-i

pub loop-i-preserved : goal.loop-i-preserved
loop-i-preserved c =
    let p = goal.at.loop-i-preserved c in
    let h = c.requires in
    record {
      entered = rw c.enter.ensures (entered-more _ _ c.args.v.now.sized.pages _ _ _
          c.loop-i.invariant.entered.same _ c.nth-k.ensures _ (here p.After-item-r (slot_is p.After-nth-k)) _ c.read-n.ensures
          _ (rw c.from.ensures at c.row-j.ensures) _ c.earlier-was.ensures _ _
          (ap (λ (r : Run). r.count) h.log_value) (ap (λ (r : Run). r.first) h.log_value) _ _ _ _ _
          c.whole-whole.ensures (rw c.from-in-loop-i.ensures at c.taken.ensures) c.follows-follows.ensures
          c.agrees-named.ensures c.fits.ensures c.loop-i.invariant.entered c.if-not-fits.false _ c.noted-e.ensures);
      place = λ m. slot_next _ _ _ refl _ _ (c.loop-i.invariant.place m) _ (run-low _ _ _ h.run_value) c.after-slot.ensures;
      last = rw c.enter.ensures c.loop-i.invariant.last;
    }

pub returns : goal.returns
returns c =
    let h = c.requires.run_value in
    let e : c.loop-i.i ≡ c.span-i-end.result = omega arith in
    let q = e ∙ c.span-i-end.ensures in record {
      fit = notes-end _ _ _ h _ _ c.loop-i.invariant.entered q _ c.locate-s.ensures.extent _
          (rw c.locate-s.ensures.bytes at c.ends.ensures);
      columns = λ t. notes-columns _ _ _ h _ _ c.loop-i.invariant.entered q;
      last = c.loop-i.invariant.last;
    }

-- `log_scan::scan` meets its contract. The loop keeps: the records passed fit, and gave the column of last numbers.
use mathlib.Core.Path.{◌≡◌, refl, sym, ap, ◌∙◌}
use Prim.Native.Nat.{◌+◌, ◌-◌, ◌%◌, ◌<◌}
use native.Mathlib.Omega.{arith}
use lib.ListN.{length}
use Rattle.laws.proofs.Tables.{true-not-false}
use Rattle.model.specs.Geometry.{log_slot, item}
use Rattle.model.specs.Scan.{log_index, record_fits}
use Rattle.log_scan.specs.LogSection.{Sized}
use Rattle.log_scan.proofs.RowLaws.{row_below}
use Rattle.log_scan.proofs.Located.{record-here, record-length}
use Rattle.log_scan.proofs.LogPass.{log-known, judged-none, judged-more, run-low, log-judged, log-breaks}
use Rattle.log_scan.proofs.LogPass.{log-ends, log-columns}
use Rattle.section.proofs.SectionLaws.{slot-starts, slot-low, slot_next, slot-of}
use Rattle.log_scan.proofs.scan.Goals.{Start, After-fits, After-item-r, After-nth-n, After-row-k, At-loop-i}
use Rattle.log_scan.proofs.scan.Goals as goal

-- the counts
sizes : (c : Start) → Sized c.args.v.now.geometry c.args.v.now.bytes.now
sizes c = c.args.v.now.sized

pub overflow_sub-below : goal.overflow_sub-below
overflow_sub-below c = omega (arith, run-low _ _ _ c.requires.run_value)

pub span-span-requires : goal.span-span-requires
span-span-requires c = run-low _ _ _ c.requires.run_value

pub start-slot-requires : goal.start-slot-requires
start-slot-requires c = run-low _ _ _ c.requires.run_value

pub loop-i-init : goal.loop-i-init
loop-i-init c =
    (judged-none _ _ _ _ c.requires.last_value, slot-starts _ _ _ refl _ c.start-slot.ensures (sizes (goal.at.loop-i-init c).Start).some)

-- the slot that is looked at is one of the log's, and that of the record
low : (c : At-loop-i) → c.loop-i.slot < c.args.v.now.geometry.records
low c = slot-low _ _ _ refl _ _ c.loop-i.invariant.1 c.args.v.now.sized.some

slot_is : (c : After-nth-n) → c.loop-i.slot ≡ (c.nth-n.result - 1) % c.args.v.now.geometry.records
slot_is c = slot-of _ _ _ refl _ _ c.loop-i.invariant.1 _ c.nth-n.ensures

here : (c : After-item-r) → c.item-r.result.now ≡ item c.args.v.now.geometry c.args.v.now.bytes.now (log_slot c.args.v.now.geometry c.nth-n.result)
here c = record-here _ _ _ _ _ _ (rw c.locate-log.ensures.bytes at c.item-r.ensures) c.locate-log.ensures.extent
    (slot-of _ _ _ refl _ _ c.loop-i.invariant.1 _ c.nth-n.ensures)

pub item-r-requires : goal.item-r-requires
item-r-requires c = rw c.locate-log.ensures.extent (low (goal.at.item-r-requires c).At-loop-i)

-- the row that is looked up is one of the column's
row_at : (c : After-row-k) → c.row-k.result < 64
row_at c = omega (arith, c.row-k.ensures, row_below c.from.result)

pub offset_bounds-last-k : goal.offset_bounds-last-k
offset_bounds-last-k c = omega (arith, row_at (goal.at.offset_bounds-last-k c).After-row-k)

pub bounds-last-k : goal.bounds-last-k
bounds-last-k c = row_at (goal.at.bounds-last-k c).After-row-k

pub offset_bounds-last-k-in-loop-i : goal.offset_bounds-last-k-in-loop-i
offset_bounds-last-k-in-loop-i c = omega (arith, row_at (goal.at.offset_bounds-last-k-in-loop-i c).After-row-k)

pub bounds-last-k-in-loop-i : goal.bounds-last-k-in-loop-i
bounds-last-k-in-loop-i c = row_at (goal.at.bounds-last-k-in-loop-i c).After-row-k

pub whole-whole-requires : goal.whole-whole-requires
whole-whole-requires c = log-known _ _ _ c.requires.run_value _ _ _ (here (goal.at.whole-whole-requires c).After-item-r) (slot_is (goal.at.whole-whole-requires c).After-nth-n)

pub layout-requires : goal.layout-requires
layout-requires c =
    omega (arith, ap length (here (goal.at.layout-requires c).After-item-r), record-length c.args.v.now.geometry c.args.v.now.bytes.now (sizes (goal.at.layout-requires c).Start) c.nth-n.result)

-- the record is judged
judged : (c : After-fits)
    → let f = c.args.run.first in
    let g = c.args.v.now.geometry in
    let v = c.args.v.now.bytes.now in
    c.fits.result ≡ record_fits g v f (log_index g v f c.loop-i.i) (f + c.loop-i.i)
judged c =
    log-judged _ _ c.args.v.now.sized.pages _ _ _
    c.loop-i.invariant.0.same _ c.nth-n.ensures _ refl _
    (record-here _ _ _ _ _ _ (rw c.locate-log.ensures.bytes at c.item-r.ensures) c.locate-log.ensures.extent
    (slot-of _ _ _ refl _ _ c.loop-i.invariant.1 _ c.nth-n.ensures)) _
    c.read-e.ensures _ (rw c.from.ensures at c.row-k.ensures) _ _ _
    c.whole-whole.ensures c.layout.ensures c.fits.ensures

pub returns-then-not-fits : goal.returns-then-not-fits
returns-then-not-fits c =
    let k = log-breaks _ _ _ c.requires.run_value _ (omega (
      arith,
      c.loop-i-test.true,
      c.span-span.ensures,
    )) (sym (judged (goal.at.returns-then-not-fits c).After-fits) ∙ c.if-not-fits.true) in
    record { valid = sym k; last = λ t. absurd (true-not-false t refl) }

pub after-slot-requires : goal.after-slot-requires
after-slot-requires c = low (goal.at.after-slot-requires c).At-loop-i

pub loop-i-preserved : goal.loop-i-preserved
loop-i-preserved c = (
  judged-more _ _ (sizes (goal.at.loop-i-preserved c).Start).pages _ _ _
      c.loop-i.invariant.0.same _ c.nth-n.ensures _ refl _ (here (goal.at.loop-i-preserved c).After-item-r) _ c.read-e.ensures
      _ (rw c.from.ensures at c.row-k.ensures) _ _ _ c.whole-whole.ensures c.layout.ensures
      c.fits.ensures c.loop-i.invariant.0 c.if-not-fits.false,
  slot_next _ _ _ refl _ _ c.loop-i.invariant.1 _ (run-low _ _ _ c.requires.run_value) c.after-slot.ensures,
)

pub returns : goal.returns
returns c =
    let e : c.loop-i.i ≡ c.span-span.result = omega arith in
    let h = c.requires.run_value in
    let q = e ∙ c.span-span.ensures in record {
      valid = log-ends _ _ _ h _ _ c.loop-i.invariant.0 q _ c.locate-log.ensures.extent _ (rw c.locate-log.ensures.bytes at c.ends.ensures);
      last = λ t. log-columns _ _ _ h _ _ c.loop-i.invariant.0 q;
    }

-- `index::notes::pass` meets its contract. The loop keeps: the notes passed fit, and gave the columns; the next is at its
-- number's place.
use mathlib.Core.Path.{◌≡◌, refl, sym, ap, ◌∙◌}
use Prim.Native.Nat.{ℕ, ◌+◌, ◌-◌, ◌*◌, ◌%◌, ◌≤◌, ◌<◌}
use native.Mathlib.Nat.{mod-lt}
use native.Mathlib.Omega.{arith}
use lib.ListN.{length}
use Rattle.laws.proofs.Tables.{within-bounds}
use Rattle.model.specs.Checksum.{sealed}
use Rattle.model.specs.Geometry.{note_at, note_slot, start, item}
use Rattle.log_scan.specs.LogSection.{Sized}
use Rattle.index.specs.NotesPassed.{Belongs}
use Rattle.index.proofs.NotePass.{entered-none}
use Rattle.index.proofs.NoteSweep.{next-is, note-read, passed-more}
use Rattle.index.proofs.notes.pass.Goals.{Start, In-loop-n, After-array-r, Else-not-belongs}
use Rattle.index.proofs.notes.pass.Goals as goal

sizes : (c : Start) → Sized c.args.v.now.geometry c.args.v.now.bytes.now
sizes c = c.args.v.now.sized

-- the next note is looked for at its number's place, which is in the volume
here : (c : In-loop-n) → let g = c.args.v.now.geometry in c.loop-n.from ≡ start g (note_at 1) + 16 * ((c.loop-n.n - 1) % g.notes)
here c = c.loop-n.invariant.place (omega arith)

room : (c : In-loop-n) → c.loop-n.from + 16 ≤ length c.args.v.now.bytes.now
room c =
    let g = c.args.v.now.geometry in
    let z = c.args.v.now.sized in
    let m : (c.loop-n.n - 1) % g.notes < g.notes = mod-lt (c.loop-n.n - 1) (omega arith) in
    omega (arith, here c, z.size)

read : (c : After-array-r) → let v = c.args.v.now in c.array-r.result.now ≡ item v.geometry v.bytes.now (note_slot v.geometry c.loop-n.n)
read c = c.array-r.ensures ∙ note-read _ _ _ _ (c.loop-n.invariant.place (omega arith))

belonging : (c : Else-not-belongs) → Belongs c.args.v.now.geometry c.args.v.now.bytes.now c.fields-e.result c.loop-n.n
belonging c = rw c.of-l.ensures at (c.belongs.ensures c.if-not-belongs.false)

pub overflow_add-past : goal.overflow_add-past
overflow_add-past c =
    let z = sizes (goal.at.overflow_add-past c).Start in omega (arith, c.requires.guessed.low, z.notes)

pub loop-n-init : goal.loop-n-init
loop-n-init c =
    let u = c.args.u in
    let z : u.first - u.first ≡ 0 = omega arith in
    record {
      place = λ m. omega (arith, c.note_at-at.ensures, c.requires.guessed.place m);
      entered = rw z (entered-none _ _ _ _ c.requires.blank);
      last = refl;
    }

pub array-r-requires : goal.array-r-requires
array-r-requires c = (omega arith, room (goal.at.array-r-requires c).In-loop-n)

pub returns-then-not-note_holds-clause-passed : goal.returns-then-not-note_holds-clause-passed
returns-then-not-note_holds-clause-passed c =
    let l = c.loop-n.invariant in record {
      order = omega arith;
      few = omega arith;
      held = l.entered.held;
      noted = l.entered.same;
      torn = λ h. ap (sealed 12) (sym (read (goal.at.returns-then-not-note_holds-clause-passed c).After-array-r))
          ∙ sym c.note_holds.ensures ∙ c.if-not-note_holds.true;
    }

pub enter-requires : goal.enter-requires
enter-requires c =
    let p = goal.at.enter-requires c in
    let w = within-bounds _ _ (belonging p.Else-not-belongs).inside in
    (w.0, omega (arith, w.1, (sizes p.Start).pages))

pub loop-n-preserved : goal.loop-n-preserved
loop-n-preserved c =
    let p = goal.at.loop-n-preserved c in
    let g = c.args.v.now.geometry in
    let t = c.if-not-enter.false in
    record {
      place = λ m. next-is (start g (note_at 1)) g.notes c.loop-n.n c.loop-n.from _ _ _ (omega (arith, c.requires.guessed.some)) m
          (here p.In-loop-n) refl (ap (λ (y : ℕ). y + 16 * g.notes) c.note_at-at.ensures)
          (λ q. c.onward-from.ensures.0 q ∙ c.note_at-at.ensures, c.onward-from.ensures.1);
      entered = passed-more g c.args.v.now.bytes.now (sizes p.Start).pages _ c.loop-n.n (omega arith) _ c.loop-n.invariant.entered
          _ (read p.After-array-r) (sym c.note_holds.ensures ∙ c.if-not-note_holds.false) c.fields-e.result c.fields-e.ensures
          (belonging p.Else-not-belongs) (c.enter.ensures.follows t) _ (c.enter.ensures.enters t);
      last = c.enter.ensures.last ∙ c.loop-n.invariant.last;
    }

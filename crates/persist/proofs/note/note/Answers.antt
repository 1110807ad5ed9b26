-- `persist::note::note` is its definition: the laws of Outcomes.antt say what each case is.
use mathlib.Core.Path.{◌≡◌, sym, ap, ◌∙◌}
use Rattle.model.specs.Refused.{error_number}
use mathlib.Core.List.{[]}
use native.Mathlib.Omega.{arith}
use Rattle.model.specs.Tables.{first_of}
use Rattle.model.specs.Refusals.{state_rows}
use Rattle.persist.proofs.Outcomes.{note-refused, note-idle, note-done}
use Rattle.persist.proofs.Parts.{note-put}
use Rattle.laws.proofs.Refused.{refusal-some}
use Rattle.persist.proofs.Room.{NoteRoom, note-room}
use Rattle.persist.proofs.note.note.Goals.{After-geometry-g, In_default}
use Rattle.persist.proofs.note.note.Goals as goal

-- past the test: rows 1 and 2 do not hold
none : (c : In_default) → first_of (state_rows c.args.volume.now c.args.memory.now c.args.s []) ≡ 0
none c = sym c.requires ∙ ap error_number c.in_default.is

-- a note is pending
known : (c : After-geometry-g) → first_of (state_rows c.args.volume.now c.args.memory.now c.args.s []) ≡ 0
    → NoteRoom c.args.volume.now c.args.s c.geometry-g.result c.in-Some.n
known c e = note-room c.args.volume.now c.args.memory.now c.args.s _ _ c.geometry-g.ensures e c.in-Some.is

pub returns-in-Err : goal.returns-in-Err
returns-in-Err c =
    let k = note-refused c.args.volume.now c.args.memory.now c.args.s _ (sym (ap error_number c.in-Err.is) ∙ c.requires) (refusal-some _) in
    record { reply = c.refused.ensures ∙ k.0; volume = k.1 }

pub returns-in_default-note : goal.returns-in_default-note
returns-in_default-note c =
    let a = c.args in
    let k = note-idle a.volume.now a.memory.now a.s (none (goal.at.returns-in_default-note c).In_default) c.in_default-note.is in
    record { reply = c.nothing.ensures ∙ k.0; volume = k.1 }

pub overflow_add-number : goal.overflow_add-number
overflow_add-number c =
    let at = goal.at.overflow_add-number c in
    omega (arith, (known at.After-geometry-g (none at.In_default)).notes)

pub note_slot-at-requires : goal.note_slot-at-requires
note_slot-at-requires c =
    let at = goal.at.note_slot-at-requires c in
    (known at.After-geometry-g (none at.In_default)).slots

pub overflow_add-end : goal.overflow_add-end
overflow_add-end c =
    let at = goal.at.overflow_add-end c in
    omega (arith, (known at.After-geometry-g (none at.In_default)).place, c.note_slot-at.ensures)

pub slice_bounds-slot-end : goal.slice_bounds-slot-end
slice_bounds-slot-end c =
    let at = goal.at.slice_bounds-slot-end c in
    omega (arith, (known at.After-geometry-g (none at.In_default)).place, c.note_slot-at.ensures)

pub noted-requires : goal.noted-requires
noted-requires c =
    let at = goal.at.noted-requires c in
    let k = known at.After-geometry-g (none at.In_default) in
    (k.page-low, k.page-high, omega (arith, k.notes))

pub returns : goal.returns
returns c =
    let a = c.args in
    let n = c.in-Some.n in
    let k = note-done a.volume.now a.memory.now a.s n _ _ _ _ (none (goal.at.returns c).In_default) c.in-Some.is
    c.geometry-g.ensures c.note_slot-at.ensures c.noted.ensures (note-put a.volume.now _ n _ c.encode.ensures) in
    record { reply = c.done.ensures ∙ k.0; volume = k.1 }

-- `force::force` is its definition: the laws of Outcomes.antt say what each case is.
use mathlib.Core.Path.{◌≡◌, sym, ap, ◌∙◌}
use Rattle.model.specs.Refused.{error_number}
use mathlib.Core.List.{[]}
use native.Mathlib.Omega.{arith}
use Rattle.model.specs.Tables.{first_of}
use Rattle.model.specs.Refusals.{state_rows}
use Rattle.laws.proofs.Refused.{refusal-some}
use Rattle.force.proofs.Outcomes.{force-refused, force-idle, Room, room, lent_fits, finish}
use Rattle.force.proofs.force.Goals.{After-geometry-g}
use Rattle.force.proofs.force.Goals as goal

pub returns-in-Err : goal.returns-in-Err
returns-in-Err c =
    let k = force-refused _ _ _ _ (sym (ap error_number c.in-Err.is) ∙ c.requires) (refusal-some _) in
    record { reply = c.refused.ensures ∙ k.0; volume = k.1 }

pub returns-then-s-eq0 : goal.returns-then-s-eq0
returns-then-s-eq0 c =
    let k = force-idle _ _ _ (sym c.requires ∙ ap error_number c.in_default.is) c.if-s-eq0.true in
    record { reply = c.nothing.ensures ∙ k.0; volume = k.1 }

-- past the tests: the call is not refused, a record is pending
calm : (c : After-geometry-g) → first_of
    (state_rows c.args.volume.now c.args.memory.now c.args.s []) ≡ 0
calm c = sym c.requires ∙ ap error_number c.in_default.is

-- and the parts are within the volume and the memory
bounds : (c : After-geometry-g) → Room c.args.volume.now c.args.memory.now c.args.s
    c.geometry-g.result
bounds c = room _ _ _ _ c.geometry-g.ensures (calm c) c.if-s-eq0.false

pub overflow_add-n : goal.overflow_add-n
overflow_add-n c = omega (arith, (bounds (goal.at.overflow_add-n c).After-geometry-g).durable)

pub slice_bounds-record-end : goal.slice_bounds-record-end
slice_bounds-record-end c = omega (arith, c.pending_at-from.ensures, (bounds (goal.at.slice_bounds-record-end c).After-geometry-g).memory)

pub log_slot-requires : goal.log_slot-requires
log_slot-requires c = (bounds (goal.at.log_slot-requires c).After-geometry-g).records

pub put-requires : goal.put-requires
put-requires c =
    lent_fits _ _ _ _ _ _ (bounds (goal.at.put-requires c).After-geometry-g) c.pending_at-from.ensures c.log_slot.ensures

pub forced-requires : goal.forced-requires
forced-requires c =
    let b = bounds (goal.at.forced-requires c).After-geometry-g in
    (b.pages, b.pending, omega (arith, b.durable))

pub returns : goal.returns
returns c =
    let k = finish _ _ _ _ _ _ _ _ _ c.geometry-g.ensures (calm (goal.at.returns c).After-geometry-g) c.if-s-eq0.false c.pending_at-from.ensures
    c.log_slot.ensures (c.from-page.ensures ∙ c.u16_at.ensures) c.forced.ensures c.put.ensures in
    record { reply = c.done.ensures ∙ k.0; volume = k.1 }

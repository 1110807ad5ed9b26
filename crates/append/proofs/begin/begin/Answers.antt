-- `append::begin::begin` meets its contract.
use mathlib.Core.Path.{◌≡◌, refl, sym, ◌∙◌}
use native.Mathlib.Omega.{arith}
use Rattle.append.proofs.Outcomes.{clauses, begin-refused, begin-done}
use Rattle.laws.proofs.Parts.{lent_length}
use Rattle.state.proofs.Slots.{any_memory}
use Rattle.laws.proofs.Refused.{refusal-some}
use Rattle.append.proofs.Parts.{format-fits, begun-is}
use Rattle.append.proofs.Open.{Open, begin-open}
use Rattle.model.specs.Tables.{first_of}
use Rattle.model.specs.Refusals.{begin_rows}
use Rattle.append.proofs.begin.begin.Goals.{In_default}
use Rattle.append.proofs.begin.begin.Goals as goal

-- past the test: no row holds, and what that tells
none : (c : In_default) → first_of
    (begin_rows c.args.volume.now c.args.memory.now c.args.s c.args.page c.args.frame) ≡ 0
none c = sym (c.in_default.ensures c.args.memory.now refl)

known : (c : In_default) → Open c.args.memory.now c.args.s c.args.page
    c.args.frame
known c = begin-open _ _ _ _ _ (none c)

pub refusal-requires : goal.refusal-requires
refusal-requires c = any_memory _ c.args.memory.now _ _ c.requires

pub returns-in-Err : goal.returns-in-Err
returns-in-Err c =
    let r =
    clauses
    (begin-refused c.args.volume.now c.args.memory.now c.args.s c.args.page c.args.frame c.args.fill _
    (c.in-Err.ensures c.args.memory.now refl) (refusal-some _)) in
    record { reply = c.refused.ensures ∙ r.0; memory = r.1 }

pub pend-lsn-requires : goal.pend-lsn-requires
pend-lsn-requires c = let k = known (goal.at.pend-lsn-requires c).In_default in (k.records, omega (arith, k.last), format-fits _, omega (arith, k.page-high))

pub slice_bounds-format-end : goal.slice_bounds-format-end
slice_bounds-format-end c =
    omega (arith, (known (goal.at.slice_bounds-format-end c).In_default).room, c.frame_at-at.ensures, c.pend-lsn.auto.memory)

pub format-requires : goal.format-requires
format-requires c =
    let k = known (goal.at.format-requires c).In_default in (
      lent_length c.pend-lsn.new.memory c.frame_at-at.result 256
          (omega (arith, k.room, c.frame_at-at.ensures, c.pend-lsn.auto.memory)),
      omega (arith, k.page-high),
    )

pub appended-requires : goal.appended-requires
appended-requires c =
    let k = known (goal.at.appended-requires c).In_default in
    (k.page-low, k.page-high, k.frame-low, k.frame-high, omega (arith, k.last), omega (arith, k.pending))

pub returns : goal.returns
returns c =
    let r =
    clauses
    (begin-done c.args.volume.now c.args.memory.now c.args.s c.args.page c.args.frame c.args.fill _ _ (none (goal.at.returns c).In_default)
    c.appended.ensures
    (begun-is c.args.memory.now _ _ _ c.args.s c.args.page c.args.frame _ c.args.fill _ c.frame_at-at.ensures
    c.pend-lsn.ensures.memory c.pend-lsn.ensures.lsn
    c.format.ensures)) in
    record { reply = c.done.ensures ∙ r.0; memory = r.1 }

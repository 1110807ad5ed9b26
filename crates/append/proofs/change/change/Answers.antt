-- `append::change::change` meets its contract.
use mathlib.Core.Path.{◌≡◌, refl, ap, sym, ◌∙◌}
use mathlib.Core.Bool.{true}
use native.Mathlib.Omega.{arith}
use lib.ListN.{length}
use Rattle.laws.proofs.Tabulated.{length-mapped}
use Rattle.append.proofs.Outcomes.{clauses, change-refused, change-done}
use Rattle.laws.proofs.Parts.{lent_length}
use Rattle.state.proofs.Slots.{any_memory}
use Rattle.laws.proofs.Refused.{refusal-some}
use Rattle.append.proofs.Parts.{altered-is}
use Rattle.append.proofs.Open.{Open, change-open, change-fits}
use Rattle.model.specs.Tables.{first_of}
use Rattle.model.specs.Change.{fits}
use Rattle.model.specs.State.{frame_at, holder}
use Rattle.model.specs.Refusals.{change_rows}
use Rattle.model.specs.Effects.{appended_state}
use borrow.Author.Rules.{rules}
use Rattle.append.proofs.change.change.Goals.{In_default}
use Rattle.append.proofs.change.change.Goals as goal

-- past the test: no row holds, and what that tells
none : (c : In_default) → first_of
    (change_rows c.args.volume.now c.args.memory.now c.args.s c.args.page c.args.change) ≡ 0
none c = sym (c.in_default.ensures c.args.memory.now refl)

known : (c : In_default) → Open c.args.memory.now c.args.s c.args.page
    (holder c.args.s c.args.page)
known c =
    let l : length c.args.s.frames ≡ 16 = search (rules, length-mapped) in
    change-open c.args.volume.now c.args.memory.now c.args.s c.args.page c.args.change (none c) l

obeys : (c : In_default) → fits c.args.change ≡ true
obeys c = change-fits _ _ _ _ _ (none c)

pub refusal-requires : goal.refusal-requires
refusal-requires c = any_memory _ c.args.memory.now _ _ c.requires

pub returns-in-Err : goal.returns-in-Err
returns-in-Err c =
    let r =
    clauses
    (change-refused c.args.volume.now c.args.memory.now c.args.s c.args.page c.args.change c.args.payload _
    (c.in-Err.ensures c.args.memory.now refl) (refusal-some _)) in
    record { reply = c.refused.ensures ∙ r.0; memory = r.1 }

pub pend-lsn-requires : goal.pend-lsn-requires
pend-lsn-requires c = let k = known (goal.at.pend-lsn-requires c).In_default in (k.records, omega (arith, k.last), obeys (goal.at.pend-lsn-requires c).In_default, omega (arith, k.page-high))

pub slice_bounds-alter-end : goal.slice_bounds-alter-end
slice_bounds-alter-end c =
    omega (arith, (known (goal.at.slice_bounds-alter-end c).In_default).room, c.frame_at-at.ensures, c.holder-f.ensures, c.pend-lsn.auto.memory)

pub alter-requires : goal.alter-requires
alter-requires c = (
  lent_length c.pend-lsn.new.memory c.frame_at-at.result 256
      (omega (arith, (known (goal.at.alter-requires c).In_default).room, c.frame_at-at.ensures, c.holder-f.ensures, c.pend-lsn.auto.memory)),
  obeys (goal.at.alter-requires c).In_default,
)

pub appended-requires : goal.appended-requires
appended-requires c =
    let k = known (goal.at.appended-requires c).In_default in
    let e = c.holder-f.ensures in (
      k.page-low,
      k.page-high,
      omega (arith, k.frame-low, e),
      omega (arith, k.frame-high, e),
      omega (arith, k.last),
      omega
          (arith, k.pending),
    )

pub returns : goal.returns
returns c =
    let l : length c.args.payload ≡ 44 = search rules in
    let r =
    clauses
    (change-done c.args.volume.now c.args.memory.now c.args.s c.args.page c.args.change c.args.payload _ _
    (none (goal.at.returns c).In_default)
    (c.appended.ensures ∙ ap (appended_state c.args.s c.args.page) c.holder-f.ensures)
    (altered-is c.args.memory.now _ _ c.args.payload c.args.s c.args.page _ _ _ c.args.change (obeys (goal.at.returns c).In_default) l
    (known (goal.at.returns c).In_default).room
    (c.frame_at-at.ensures ∙ ap frame_at c.holder-f.ensures) c.pend-lsn.ensures.memory c.pend-lsn.ensures.lsn c.alter.ensures)) in
    record { reply = c.done.ensures ∙ r.0; memory = r.1 }

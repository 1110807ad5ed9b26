-- `passes::noted` goes through the index.
use mathlib.Core.Path.{◌≡◌, sym, ◌∙◌}
use mathlib.Core.Bool.{false, ◌&&◌}
use Prim.Native.Nat.{◌+◌}
use borrow.Author.Rules.{rules}
use lib.Dec.{eqb}
use lib.ListN.{get_or}
use borrow.Author.Tests.{eq-eqb, ne_eqb}
use Rattle.model.specs.Index.{empty_entry}
use Rattle.model.specs.Item.{valid_image}
use Rattle.convert.proofs.Places.{noted_here, noted-on, noted-end}
use Rattle.convert.proofs.passes.noted.Goals as goal
use Rattle.convert.proofs.passes.noted.Goals.{else-from-slot-via-then-from-slot+else-valid, else-from-slot-via-else-from-slot}

pub returns-then-valid : goal.returns-then-valid
returns-then-valid c =
    let a = c.args in
    let l = c.loop-i in
    let own = eq-eqb _ _ (sym c.from.ensures ∙ c.if-from-slot.true) in
    sym (noted_here a.g a.slot a.x.now a.index l.i (search rules) (rw own (sym c.valid.ensures ∙ c.if-valid.true))) ∙ l.invariant

pub loop-i-preserved : goal.loop-i-preserved
loop-i-preserved c =
    let a = c.args in
    let l = c.loop-i in
    let off : (eqb (get_or a.index l.i empty_entry).slot a.slot && valid_image a.g (l.i + 1) a.x.now) ≡ false =
    elim c.else-from-slot.branch [
      | else-from-slot-via-then-from-slot+else-valid w ↦
          rw (eq-eqb _ _ (sym c.from.ensures ∙ w.if-from-slot.true)) (sym w.valid.ensures ∙ w.if-valid.false)
      | else-from-slot-via-else-from-slot w ↦ rw (ne_eqb _ _ (λ e. w.if-from-slot.false (c.from.ensures ∙ e)))
    ] in
    sym (noted-on a.g a.slot a.x.now a.index l.i (search rules) off) ∙ l.invariant

pub returns : goal.returns
returns c =
    let a = c.args in
    sym (noted-end a.g a.slot a.x.now a.index c.loop-i.i (search rules)) ∙ c.loop-i.invariant

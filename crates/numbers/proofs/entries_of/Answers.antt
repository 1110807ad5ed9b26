-- `numbers::entries_of` meets its contract.
use mathlib.Core.Path.{refl, sym, ◌∙◌}
use Prim.Native.Nat.{◌+◌}
use native.Mathlib.Omega.{arith}
use lib.ListN.{length-set, length-replicate}
use Rattle.model.specs.Index.{empty_entry}
use Rattle.model.specs.declared.state.Entry.{Entry}
use Rattle.face.specs.Numbers.{entries_of}
use Rattle.numbers.proofs.NumberLaws.{more, whole, entries_of-long, entries_of-at}
use Rattle.numbers.proofs.entries_of.Goals as goal

pub loop-i-init : goal.loop-i-init
loop-i-init c = (length-replicate {A = Entry} 64 empty_entry, refl)

pub loop-i-preserved : goal.loop-i-preserved
loop-i-preserved c =
    let l = c.loop-i in
    let t = c.loop-i-test.true in
    let xs = c.args.xs.now in (
      length-set l.index l.i _ ∙ l.invariant.0,
      more l.index (entries_of xs) l.i (l.i + 1) empty_entry _ (omega arith) (omega (arith, t, l.invariant.0))
          (l.invariant.0 ∙ sym (entries_of-long xs)) l.invariant.1 (c.entry_from.ensures ∙ sym (entries_of-at xs l.i t)),
    )

pub returns : goal.returns
returns c =
    let l = c.loop-i in
    let xs = c.args.xs.now in
    whole l.index (entries_of xs) l.i (omega (arith, l.invariant.0, c.loop-i-test.false)) (l.invariant.0 ∙ sym (entries_of-long xs)) l.invariant.1

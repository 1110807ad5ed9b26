-- `record::short` meets its contract. The loop keeps: the test of what is left is that of all from the place on.
use mathlib.Core.Path.{sym, ◌∙◌}
use Prim.Native.Nat.{◌-◌}
use native.Mathlib.Omega.{arith}
use Rattle.item.proofs.Tails.{left-part, byte-on, byte-not, none_left}
use Rattle.item.proofs.record.short.Goals as goal

pub returns-then-r-i-ne0 : goal.returns-then-r-i-ne0
returns-then-r-i-ne0 c =
    let l = c.loop-i in
    let r = c.args.r.now in
    sym (byte-not r c.requires.0 l.i (omega arith) c.if-r-i-ne0.true) ∙ l.invariant
    ∙ left-part r c.requires.0 c.args.from (60 - c.args.from) (omega arith)

pub loop-i-preserved : goal.loop-i-preserved
loop-i-preserved c =
    let l = c.loop-i in
    sym (byte-on c.args.r.now c.requires.0 l.i (omega arith) c.if-r-i-ne0.false) ∙ l.invariant

pub returns : goal.returns
returns c =
    let l = c.loop-i in
    let r = c.args.r.now in
    sym (none_left r c.requires.0 l.i (omega arith)) ∙ l.invariant
    ∙ left-part r c.requires.0 c.args.from (60 - c.args.from) (omega arith)

-- `record::padding` meets its contract. The loop keeps: the test of what is left is that of the payload past n bytes.
use mathlib.Core.Path.{◌≡◌, sym, ap, ◌∙◌}
use Prim.Native.Nat.{ℕ, ◌+◌, ◌-◌}
use native.Mathlib.Omega.{arith}
use lib.Dec.{eqb}
use Rattle.model.specs.Bytes.{part, all_zero}
use Rattle.item.proofs.Tails.{left-part, eight-on, eight-not, eight-last}
use Rattle.item.proofs.record.padding.Goals as goal

pub returns-then-n-ge-PAYLOAD : goal.returns-then-n-ge-PAYLOAD
unfolding part all_zero
returns-then-n-ge-PAYLOAD c =
    let z : 44 - c.args.n ≡ 0 = omega arith in
    rw z

pub returns-then-i-gt52 : goal.returns-then-i-gt52
returns-then-i-gt52 c = c.short.ensures ∙ ap (λ (k : ℕ). all_zero (part c.args.r.now (16 + c.args.n) k)) (omega arith)

pub returns-then-eight-ne0 : goal.returns-then-eight-ne0
returns-then-eight-ne0 c =
    let l = c.loop-i in
    let r = c.args.r.now in
    let from = 16 + c.args.n in
    sym (eight-not r c.requires from l.i l.invariant.0 (omega arith) (λ z. c.if-eight-ne0.true (c.eight.ensures ∙ z)))
    ∙ left-part r c.requires from (44 - c.args.n) (omega arith)

pub loop-i-preserved : goal.loop-i-preserved
loop-i-preserved c =
    let l = c.loop-i in
    let on = eight-on c.args.r.now c.requires l.i (omega arith) (sym c.eight.ensures ∙ c.if-eight-ne0.false) in
    (omega arith, l.invariant.1, omega arith, sym on ∙ l.invariant.3)

pub returns : goal.returns
returns c =
    let l = c.loop-i in
    let r = c.args.r.now in
    let from = 16 + c.args.n in
    ap (λ (x : ℕ). eqb x 0) c.eight-2.ensures
    ∙ (eight-last r c.requires from l.i l.invariant.1 c.loop-i-test.false l.invariant.3
    ∙ left-part r c.requires from (44 - c.args.n) (omega arith))

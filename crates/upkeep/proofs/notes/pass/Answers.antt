-- `upkeep::notes::pass`: what the pass has seen of the two notes.
use mathlib.Core.Path.{refl}
use Prim.Native.Nat.{suc, ◌+◌, ◌-◌}
use native.Mathlib.Omega.{arith}
use Rattle.laws.proofs.Tables.{or-neither}
use Rattle.upkeep.proofs.NotePass.{pass-start, pass_on, pass-end}
use Rattle.upkeep.proofs.notes.pass.Goals as goal

pub loop-i-init : goal.loop-i-init
loop-i-init c =
    let v = c.args.v.now in
    let j = c.args.j in (
      pass_on v.geometry v.bytes.now (j - 1) 0 1 j _ _ _ _ _ refl (omega (arith, c.requires.1))
          (pass-start v.geometry v.bytes.now (j - 1) _ c.whole.ensures) c.whole-second.ensures
          c.stored-a.ensures c.stored-b.ensures c.like.ensures,
      pass-start v.geometry v.bytes.now j _ c.whole-second.ensures,
    )

pub returns-then-not-first-second : goal.returns-then-not-first-second
returns-then-not-first-second c =
    let v = c.args.v.now in
    let k = c.args.k in
    let j = c.args.j in
    let l = c.loop-i in
    let neither = or-neither l.first l.second c.if-not-first-second.true in (
      pass-end v.geometry v.bytes.now k (j - 1) (suc l.i) l.first l.invariant.0 (omega (arith, c.requires)) (λ h. neither.0),
      pass-end v.geometry v.bytes.now k j l.i l.second l.invariant.1 (omega (arith, c.requires)) (λ h. neither.1),
    )

pub loop-i-preserved : goal.loop-i-preserved
loop-i-preserved c =
    let v = c.args.v.now in
    let j = c.args.j in
    let l = c.loop-i in (
      pass_on v.geometry v.bytes.now (j - 1) (suc l.i) (suc (l.i + 1)) (j + l.i + 1) _ _ _ _ _
          (omega arith) (omega (arith, c.requires.1)) l.invariant.0 c.whole-whole.ensures
          c.stored-a.ensures c.stored-e.ensures c.like-in-loop-i.ensures,
      pass_on v.geometry v.bytes.now j l.i (l.i + 1) (j + l.i + 1) _ _ _ _ _
          (omega arith) (omega arith) l.invariant.1 c.whole-whole.ensures
          c.stored-b.ensures c.stored-e.ensures c.like-in-loop-i-2.ensures,
    )

pub returns : goal.returns
returns c =
    let v = c.args.v.now in
    let k = c.args.k in
    let j = c.args.j in
    let l = c.loop-i in (
      pass-end v.geometry v.bytes.now k (j - 1) (suc l.i) l.first l.invariant.0 (omega (arith, c.requires)) (λ h. absurd (omega (arith, c.requires))),
      pass-end v.geometry v.bytes.now k j l.i l.second l.invariant.1 (omega arith) (λ h. absurd (omega arith)),
    )

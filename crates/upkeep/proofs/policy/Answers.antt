-- `upkeep::policy`: U1, U2, and in a ring U3 to U5.
use mathlib.Core.Path.{ap}
use Rattle.model.specs.State.{note_pending}
use Rattle.upkeep.proofs.Advice.{policy-note, policy-force, policy-flat, policy-ring}
use Rattle.upkeep.proofs.policy.Goals as goal

pub returns-in-Some : goal.returns-in-Some
returns-in-Some c =
    let a = c.args in
    policy-note a.v.now.bytes.now a.memory.now a.s a.frame _ (ap note_pending c.in-Some.is) c.plain.ensures

pub returns-then-s-gt0 : goal.returns-then-s-gt0
returns-then-s-gt0 c =
    let a = c.args in
    policy-force a.v.now.bytes.now a.memory.now a.s a.frame _ (ap note_pending c.in_default.is)
    c.if-s-gt0.true c.plain-then-s-gt0.ensures

pub returns-then-not-ring : goal.returns-then-not-ring
returns-then-not-ring c =
    let a = c.args in
    policy-flat a.v.now.bytes.now a.memory.now a.s a.frame _ (ap note_pending c.in_default.is)
    c.if-s-gt0.false a.v.now.geometry a.v.now.read _ c.ring.ensures c.if-not-ring.true c.plain-then-not-ring.ensures

pub returns : goal.returns
returns c =
    let a = c.args in
    policy-ring a.v.now.bytes.now a.memory.now a.s a.frame _ (ap note_pending c.in_default.is)
    c.if-s-gt0.false a.v.now.geometry a.v.now.read _ c.ring.ensures c.if-not-ring.false c.renewed.ensures

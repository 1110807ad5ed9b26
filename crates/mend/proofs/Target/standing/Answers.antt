-- `Target::standing`: M2, A3 and A4.
use mathlib.Core.Path.{◌∙◌}
use Rattle.mend.proofs.Cases.{stale-is, standing-writes, standing-whole, standing-single}
use Rattle.mend.proofs.Target.standing.Goals as goal

pub returns-then-may_write-far : goal.returns-then-may_write-far
returns-then-may_write-far c =
    let t = c.args.self.now in
    standing-writes t.volume.bytes.now t.memory.now t.state t.frame t.page _ t.volume.geometry t.entry t.volume.read t.read _ _
    c.requires.0 c.requires.1 _ c.after-start.ensures _ c.reaches-far.ensures _ _ c.may_write.ensures
    (c.eq-stale.ensures ∙ stale-is _) c.if-may_write-far.true c.renewed.ensures

pub returns-then-far : goal.returns-then-far
returns-then-far c =
    let t = c.args.self.now in
    standing-whole t.volume.bytes.now t.memory.now t.state t.frame t.page _ t.volume.geometry t.entry t.volume.read t.read _ _
    c.requires.0 c.requires.1 _ c.after-start.ensures _ c.reaches-far.ensures _ _ c.may_write.ensures
    (c.eq-stale.ensures ∙ stale-is _) c.if-may_write-far.false c.if-far.true c.plain.ensures

pub returns-else-far : goal.returns-else-far
returns-else-far c =
    let t = c.args.self.now in
    standing-single t.volume.bytes.now t.memory.now t.state t.frame t.page _ t.volume.geometry t.entry t.volume.read t.read _ _
    c.requires.0 c.requires.1 _ c.after-start.ensures _ c.reaches-far.ensures _ _ c.may_write.ensures
    (c.eq-stale.ensures ∙ stale-is _) c.if-may_write-far.false c.if-far.false c.plain-else-far.ensures

-- `Target::changed`: A2 and M1.
use mathlib.Core.Path.{◌∙◌}
use Rattle.mend.proofs.Cases.{ahead-is, second-ahead, second-copies, second-standing}
use Rattle.mend.proofs.Target.changed.Goals as goal

pub returns-then-ahead : goal.returns-then-ahead
returns-then-ahead c =
    let t = c.args.self.now in
    second-ahead t.volume.bytes.now t.memory.now t.state t.frame t.page _ t.volume.geometry t.entry t.volume.read t.read _
    c.judge-own.ensures.class _ (c.eq-ahead.ensures ∙ ahead-is _) c.if-ahead.true c.plain.ensures

pub returns-then-not-stands : goal.returns-then-not-stands
returns-then-not-stands c =
    let t = c.args.self.now in
    second-copies t.volume.bytes.now t.memory.now t.state t.frame t.page _ t.volume.geometry t.entry t.volume.read t.read _
    c.judge-own.ensures.class _ (c.eq-ahead.ensures ∙ ahead-is _) c.if-ahead.false _ c.stands.ensures
    c.if-not-stands.true c.renewed.ensures

pub returns : goal.returns
returns c =
    let t = c.args.self.now in
    second-standing t.volume.bytes.now t.memory.now t.state t.frame t.page _ t.volume.geometry t.entry t.volume.read t.read _
    c.judge-own.ensures.class _ (c.eq-ahead.ensures ∙ ahead-is _) c.if-ahead.false _ c.stands.ensures
    c.if-not-stands.false c.standing.ensures

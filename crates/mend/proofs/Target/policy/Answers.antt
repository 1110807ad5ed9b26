-- `Target::policy` is its definition.
use Rattle.mend.proofs.Cases.{policy-whole, policy-changed}
use Rattle.mend.proofs.Target.policy.Goals as goal

pub returns-then-ring-self : goal.returns-then-ring-self
returns-then-ring-self c =
    let t = c.args.self.now in
    policy-whole t.volume.bytes.now t.memory.now t.state t.frame t.page _ t.volume.geometry t.volume.read _ t.read _
    c.ring.ensures c.if-ring-self.true c.plain.ensures

pub returns : goal.returns
returns c =
    let t = c.args.self.now in
    policy-changed t.volume.bytes.now t.memory.now t.state t.frame t.page _ t.volume.geometry t.volume.read _ t.read _
    c.ring.ensures c.if-ring-self.false c.changed.ensures

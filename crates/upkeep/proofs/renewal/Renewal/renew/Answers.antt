-- `Renewal::renew` is its definition.
use Rattle.upkeep.proofs.Advice.{renew-load, renew-write, renew-back}
use Rattle.upkeep.proofs.renewal.Renewal.renew.Goals as goal

pub returns-then-not-held : goal.returns-then-not-held
returns-then-not-held c =
    let t = c.args.self.now in
    renew-load t.volume.bytes.now t.memory.now t.state t.frame c.args.page c.args.written _ _
    c.held.ensures c.if-not-held.true c.bring_in.ensures

pub returns-then-written : goal.returns-then-written
returns-then-written c =
    let t = c.args.self.now in
    renew-write t.volume.bytes.now t.memory.now t.state t.frame c.args.page c.args.written _ _
    c.held.ensures c.if-not-held.false c.if-written.true c.write_out.ensures

pub returns : goal.returns
returns c =
    let t = c.args.self.now in
    renew-back t.volume.bytes.now t.memory.now t.state t.frame c.args.page c.args.written _ _
    c.held.ensures c.if-not-held.false c.if-written.false c.back_up.ensures

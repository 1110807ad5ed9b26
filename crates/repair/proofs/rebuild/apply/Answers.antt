-- `repair::rebuild::apply` meets its contract. The loop keeps `Replaying`: the rest of the chain makes the whole of the body.
use mathlib.Core.Path.{◌≡◌, refl, sym, ◌∙◌, subst}
use Rattle.model.specs.Repair.{replay_chain}
use borrow.Author.Rules.{rules}
use Rattle.repair.specs.Walked.{log_of, view_for}
use Rattle.repair.proofs.Links.{Linked}
use Rattle.repair.proofs.Replays.{Replaying, replaying-on, replay-none, chain-linked}
use Rattle.repair.proofs.rebuild.apply.Goals as goal

pub loop-n-init : goal.loop-n-init
loop-n-init c =
    let t = c.args.t.now in
    let log = log_of t.volume.geometry t.volume.bytes.now in
    let e : c.into_iter-n-iterator.result.iter.rest.now ≡ c.args.lsns.now = rw (c.into_iter-n-iterator.ensures.into_iter_gives, c.rev-n-items.ensures.source) c.iter.ensures.rest in
    subst (λ l. Replaying log t.page t.entry.durable (replay_chain log c.args.lsns.now c.args.body.now) c.args.body.now l) (sym e)
    (record {
      linked = subst (Linked log t.page t.entry.durable) (sym c.requires.lsns_value) (chain-linked _ _ (view_for t));
      same = refl;
    })

pub replay-requires : goal.replay-requires
replay-requires c =
    let k = replaying-on _ _ _ _ _ _ _ _ _ c.loop-n.invariant c.in-Some.ensures.steps c.record.ensures in
    (search rules, k.0, c.loop-n.auto.body ∙ c.requires.body_len)

pub loop-n-preserved : goal.loop-n-preserved
loop-n-preserved c =
    let k = replaying-on _ _ _ _ _ _ _ _ _ c.loop-n.invariant c.in-Some.ensures.steps c.record.ensures in
    rw c.replay.ensures k.1

pub returns : goal.returns
returns c = sym (replay-none _ _ _ c.in-None.ensures.steps.0) ∙ c.loop-n.invariant.same

-- `repair::rebuild::replay_in` meets its contract: the numbers that are collected are the walk's chain.
use mathlib.Core.Path.{◌≡◌, sym}
use Rattle.repair.specs.Walked.{walk_for, view_for}
use Rattle.repair.proofs.Replays.{chain-is}
use Rattle.repair.proofs.rebuild.replay_in.Goals.{After-collect}
use Rattle.repair.proofs.rebuild.replay_in.Goals as goal

collected : (c : After-collect) → c.collect.new.lsns ≡ (walk_for c.args.t.now).chain
collected c = rw (c.collect.ensures, c.requires.room) (sym (chain-is _ _ (view_for c.args.t.now)))

pub apply-requires-clause-lsns_value : goal.apply-requires-clause-lsns_value
apply-requires-clause-lsns_value c = collected (goal.at.apply-requires-clause-lsns_value c).After-collect

pub returns : goal.returns
returns c = rw (c.apply.ensures, collected (goal.at.returns c).After-collect)

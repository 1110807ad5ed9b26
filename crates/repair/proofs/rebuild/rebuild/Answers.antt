-- `repair::rebuild::rebuild` meets its contract: the start's body, the replay on it, and the image around it.
use mathlib.Core.Path.{◌∙◌}
use native.Mathlib.Omega.{arith}
use Rattle.repair.proofs.Replays.{stop_is, count-is, body-length, around-length, built}
use Rattle.repair.proofs.Starts.{sized}
use Rattle.repair.proofs.rebuild.rebuild.Goals as goal

pub begin-requires : goal.begin-requires
begin-requires c = (stop_is _ _ _ _ c.requires.0, body-length c.args.dst.now c.requires.1)

pub replay-requires-clause-count_value : goal.replay-requires-clause-count_value
replay-requires-clause-count_value c = count-is _ _ _ _ c.requires.0

pub build-requires : goal.build-requires
build-requires c =
    let t = c.args.t.now in (
      around-length c.args.dst.now c.replay.new.body c.requires.1
          (c.replay.auto.body ∙ c.begin.auto.body ∙ body-length c.args.dst.now c.requires.1),
      omega (arith, t.high, (sized _ _ t.volume.valid t.volume.read).pages),
    )

pub returns : goal.returns
returns c =
    built _ _ _ _ c.requires.0 c.args.dst.now _ c.replay.new.body _ c.requires.1
    (c.replay.auto.body ∙ c.begin.auto.body ∙ body-length c.args.dst.now c.requires.1)
    c.begin.ensures c.replay.ensures c.build.ensures

-- `load::restore` leaves the rebuilt page in the frame, and nothing else changed.
use mathlib.Core.Path.{◌∙◌}
use Rattle.repair.proofs.Replays.{answered}
use Rattle.load.proofs.Outcomes.{frame-length, put_back}
use Rattle.load.proofs.restore.Goals as goal

pub returns-clause-answer : goal.returns-clause-answer
returns-clause-answer c = answered _ _ _ _ c.requires.0 _ c.answer.ensures

pub returns-clause-memory : goal.returns-clause-memory
returns-clause-memory c =
    put_back c.args.memory.now _ _ _ _ c.frame_at-at.ensures
    (c.rebuild.auto.dst ∙ frame-length c.args.memory.now _ _ c.frame_at-at.ensures c.requires.1) c.rebuild.ensures

-- `record::replay`: a record with a right layout holds a change that may be made.
use native.Mathlib.Omega.{arith}
use lib.ListN.{length-take, length-drop}
use Rattle.model.specs.Bytes.{part}
use Rattle.item.proofs.Records.{layout-obeys, replay-is}
use Rattle.item.proofs.record.replay.Goals as goal

pub apply-requires : goal.apply-requires
apply-requires c =
    let o = layout-obeys _ _ _ c.read.ensures c.held-c.ensures c.requires.1 in
    (o.0, simp (length-take, length-drop) (omega (arith, o.1, c.requires.0)), c.requires.2)

pub returns : goal.returns
unfolding part
returns c =
    replay-is _ _ _ c.read.ensures c.held-c.ensures _ _ c.apply.ensures

-- `c_histories::force`: what the exported function ensures, in the history.
use Rattle.called.proofs.Histories.{performs}
use Rattle.c_histories.proofs.force.Goals as goal

pub returns : goal.returns
returns c = performs _ _ _ _ _ _ _ _ _ _ c.pagestore_force.ensures

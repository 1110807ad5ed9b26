-- `c_histories::restart`: what the exported function ensures, in the history.
use Rattle.called.proofs.Histories.{restarts}
use Rattle.c_histories.proofs.restart.Goals as goal

pub returns : goal.returns
returns c = restarts _ _ _ _ _ _ c.pagestore_restart.ensures

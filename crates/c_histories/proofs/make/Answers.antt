-- `c_histories::make`: what the exported function ensures begins a history.
use Rattle.called.proofs.Histories.{makes}
use Rattle.c_histories.proofs.make.Goals as goal

pub returns : goal.returns
returns c = let e = c.pagestore_make.ensures in makes _ _ _ _ _ _ _ _ e.answer e.volume

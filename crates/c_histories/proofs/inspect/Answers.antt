-- `c_histories::inspect`: what the exported function ensures, on the volume that a history left.
use Rattle.called.proofs.Histories.{shows}
use Rattle.c_histories.proofs.inspect.Goals as goal

pub returns : goal.returns
returns c = let e = c.pagestore_inspect.ensures in shows _ _ _ _ _ e.answer e.buffer

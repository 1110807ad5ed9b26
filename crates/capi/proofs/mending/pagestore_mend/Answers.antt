-- `capi::mending::pagestore_mend` meets its contract: what is found is put where C reads it.
use borrow.Author.Rules.{rules}
use Rattle.capi.proofs.mending.pagestore_mend.Goals as goal

pub put-requires : goal.put-requires
put-requires c = (search rules, c.advice.ensures.long)

pub returns : goal.returns
returns c = let e = c.put.ensures _ c.advice.ensures.found in record { answer = e.0; report = e.1 }

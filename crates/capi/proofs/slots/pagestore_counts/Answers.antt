-- `capi::slots::pagestore_counts` meets its contract: what is found is put where C reads it.
use borrow.Author.Rules.{rules}
use Rattle.capi.proofs.slots.pagestore_counts.Goals as goal

pub put-requires : goal.put-requires
put-requires c = (search rules, c.counts.ensures.long)

pub returns : goal.returns
returns c = let e = c.put.ensures _ c.counts.ensures.found in record { answer = e.0; counts = e.1 }

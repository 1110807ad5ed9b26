-- `capi::slots::pagestore_slot` meets its contract: what is found is put where C reads it.
use borrow.Author.Rules.{rules}
use Rattle.capi.proofs.slots.pagestore_slot.Goals as goal

pub put-requires : goal.put-requires
put-requires c = (search rules, c.backup.ensures.long)

pub returns : goal.returns
returns c = let e = c.put.ensures _ c.backup.ensures.found in record { answer = e.0; fields = e.1 }

-- `capi::space::pagestore_room` meets its contract: what is found is put where C reads it.
use borrow.Author.Rules.{rules}
use Rattle.capi.proofs.space.pagestore_room.Goals as goal

pub put-requires : goal.put-requires
put-requires c = (search rules, c.room.ensures.long)

pub returns : goal.returns
returns c = let e = c.put.ensures _ c.room.ensures.found in record { answer = e.0; report = e.1 }

-- `capi::slots::pagestore_note_at` meets its contract: what is found is put where C reads it.
use borrow.Author.Rules.{rules}
use Rattle.capi.proofs.slots.pagestore_note_at.Goals as goal

pub put-requires : goal.put-requires
put-requires c = (search rules, c.note.ensures.long)

pub returns : goal.returns
returns c = let e = c.put.ensures _ c.note.ensures.found in record { answer = e.0; fields = e.1 }

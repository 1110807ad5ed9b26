-- `append::pending::pend` meets its contract.
use mathlib.Core.Path.{◌≡◌, refl, ap}
use lib.ListN.{length}
use Rattle.append.proofs.Parts.{pended-is}
use Rattle.model.specs.declared.state.Entry.{Entry}
use borrow.Author.Rules.{rules}
use Rattle.append.proofs.pending.pend.Goals as goal

pub returns : goal.returns
returns c =
    let e = c in
    let a = e in
    let s = a in
    let l : length s.args.payload ≡ 44 = search rules in record {
      lsn = refl;
      memory = pended-is s.args.c s.args.payload s.requires.2 l s.args.memory.now _ s.args.s _ _ s.args.page _ refl
          (ap (λ (x : Entry). x.last) a.entry-prev.ensures) a.pending_at-at.ensures e.encode.ensures;
    }

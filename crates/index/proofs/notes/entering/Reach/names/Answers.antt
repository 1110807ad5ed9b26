-- `index::notes::entering::Reach::names` meets its contract.
use mathlib.Core.Path.{sym, ap, ◌∙◌}
use native.Mathlib.Omega.{arith}
use borrow.Author.Tests.{eqb-true, leb-true}
use Rattle.laws.proofs.Fields.{field-part}
use Rattle.model.specs.Bytes.{field}
use Rattle.log_scan.proofs.Located.{record-fits}
use Rattle.index.proofs.NoteSweep.{names-below, names_in}
use Rattle.index.proofs.notes.entering.Reach.names.Goals as goal

pub returns-then-n-self : goal.returns-then-n-self
returns-then-n-self c = λ t.
    let s = c.args.self.now in
    names-below _ _ _ _ s.counts _ (omega arith) c.if-n-self.true (leb-true _ _ t)

pub array-r-requires : goal.array-r-requires
array-r-requires c =
    let v = c.args.self.now.volume in
    omega (arith, c.near.ensures, record-fits _ _ v.sized c.args.e.lsn)

pub returns : goal.returns
returns c = λ t.
    let s = c.args.self.now in
    names_in _ _ _ _ s.counts _ (omega arith) c.if-n-self.false _ c.near.ensures
    (sym (field-part 2 8 64 c.near.result s.volume.bytes.now (omega arith)) ∙ ap (field 2 8) (sym c.array-r.ensures)
    ∙ sym c.two.ensures ∙ eqb-true _ _ t)

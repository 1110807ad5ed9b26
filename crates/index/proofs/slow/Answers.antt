-- `index::slow` meets its contract: the laws of Whole say what each case is.
use mathlib.Core.Path.{◌∙◌}
use Rattle.log_scan.proofs.Located.{sized}
use Rattle.model.specs.declared.answer.Refusal.TheVariants.{BadLog, BadNotes}
use Rattle.index.proofs.Whole.{refused, log-refused, notes-refused, scan-clean}
use Rattle.index.proofs.slow.Goals as goal

pub returns-then-not-scan : goal.returns-then-not-scan
returns-then-not-scan c =
    let v = c.args.v.now in
    let l = rw (c.of-m.ensures.bytes, c.of-m.ensures.geometry) at c.scan.ensures in
    refused _ BadLog _ (log-refused _ v.valid _ v.read _ l.valid c.if-not-scan.true)

pub ordered-requires : goal.ordered-requires
ordered-requires c = (sized _ _ c.args.v.now.valid c.args.v.now.read).pages

pub returns-then-not-fit-ordered : goal.returns-then-not-fit-ordered
returns-then-not-fit-ordered c =
    let v = c.args.v.now in
    let l = rw (c.of-m.ensures.bytes, c.of-m.ensures.geometry) at c.scan.ensures in
    let n = rw (c.of-m.ensures.bytes, c.of-m.ensures.geometry) at c.scan-fit.ensures in
    refused _ BadNotes _
    (notes-refused _ v.valid _ v.read _ l.valid c.if-not-scan.false _ (λ t. n.last ∙ l.last t)
    _ n.fit n.columns _ c.ordered.ensures c.if-not-fit-ordered.true)

pub returns : goal.returns
returns c =
    let v = c.args.v.now in
    let l = rw (c.of-m.ensures.bytes, c.of-m.ensures.geometry) at c.scan.ensures in
    let n = rw (c.of-m.ensures.bytes, c.of-m.ensures.geometry) at c.scan-fit.ensures in
    scan-clean _ v.valid _ v.read _ l.valid c.if-not-scan.false _ (λ t. n.last ∙ l.last t)
    _ n.fit n.columns _ c.ordered.ensures c.if-not-fit-ordered.false _ _
    (rw (c.of-m.ensures.bytes, c.of-m.ensures.geometry) at c.run-records.ensures)
    (rw (c.of-m.ensures.bytes, c.of-m.ensures.geometry) at c.run-numbers.ensures)

-- `index::fast` meets its contract: FastLaws says what each case is.
use Rattle.log_scan.specs.LogSwept.{LogSwept}
use Rattle.log_scan.proofs.Located.{sized}
use Rattle.index.specs.NotesSwept.{NotesSwept}
use Rattle.index.proofs.FastLaws.{fast-refused, fast-clean}
use Rattle.index.proofs.fast.Goals.{After-ordered}
use Rattle.index.proofs.fast.Goals as goal

-- the sweep of the notes leaves the column that the log's gave
swept : (c : After-ordered) → let v = c.args.v.now in
    let r = c.in_ok-records.records in
    LogSwept v.geometry v.bytes.now r.first r.next c.sweep-2.new.c.last
swept c = rw c.in_ok-behind.ensures.last (rw (c.of-m.ensures.bytes, c.of-m.ensures.geometry) at c.in_ok-records.ensures)

notes-swept : (c : After-ordered) → let v = c.args.v.now in NotesSwept v.geometry v.bytes.now c.in_ok-behind.behind c.sweep-2.new.c
notes-swept c = rw (c.of-m.ensures.bytes, c.of-m.ensures.geometry) at c.in_ok-behind.ensures.swept

pub ordered-requires : goal.ordered-requires
ordered-requires c = (sized _ _ c.args.v.now.valid c.args.v.now.read).pages

pub returns-then-not-ordered : goal.returns-then-not-ordered
returns-then-not-ordered c =
    let v = c.args.v.now in
    let p = (goal.at.returns-then-not-ordered c).After-ordered in
    fast-refused _ v.valid _ v.read _ _ _ _ (swept p) (notes-swept p) _ c.ordered.ensures c.if-not-ordered.true

pub returns : goal.returns
returns c =
    let v = c.args.v.now in
    let p = (goal.at.returns c).After-ordered in
    fast-clean _ v.valid _ v.read _ _ _ _ (swept p) (notes-swept p) _ c.ordered.ensures _ c.total.ensures c.if-not-ordered.false

-- `inspect_report::examine::examine` meets its contract.
use mathlib.Core.Path.{◌≡◌}
use mathlib.Core.Bool.{cond, not}
use lib.ListN.{length}
use borrow.Author.Tests.{ne_eqb}
use Rattle.model.specs.Geometry.{valid_volume}
use Rattle.reports.specs.Examine.{examine_of}
use Rattle.inspect_report.proofs.Reports.{unknown, unlike, alike}
use Rattle.inspect_report.proofs.examine.examine.Goals.{After-from-then-report-ne3, After-number, then-valid, else-valid}
use Rattle.inspect_report.proofs.examine.examine.Goals as goal

-- a report of another length
other : (c : After-from-then-report-ne3) → let a = c.args in
    let e = examine_of a.volume.now a.page a.buffer.now a.report.now in
    (c.from-then-report-ne3.result ≡ e.refusal) × (a.buffer.now ≡ e.buffer) × (a.report.now ≡ e.report)
other c =
    let n : c.from-then-report-ne3.result ≡ cond (not (valid_volume c.args.volume.now)) 1 2 =
    elim c.if-valid.branch [
      | then-valid w ↦ rw (c.from-then-report-ne3.ensures, w.refusal-is, ← c.valid.ensures, w.if-valid.true)
      | else-valid w ↦ rw (c.from-then-report-ne3.ensures, w.refusal-is, ← c.valid.ensures, w.if-valid.false)
    ] in
    unlike c.args.volume.now c.args.page c.args.buffer.now c.args.report.now
    (ne_eqb (length c.args.report.now) 3 c.if-report-ne3.true) c.from-then-report-ne3.result n

told : (c : After-number) → let a = c.args in
    let e = examine_of a.volume.now a.page a.buffer.now a.report.now in
    (c.number.result ≡ e.refusal) × (c.inspect-a.new.buffer ≡ e.buffer) × (c.tell.new.report ≡ e.report)
told c =
    let a = c.args in
    alike a.volume.now a.page a.buffer.now a.report.now c.if-report-ne3.false c.inspect-a.result c.inspect-a.ensures.answer
    c.inspect-a.new.buffer c.tell.new.report c.inspect-a.ensures.buffer c.tell.ensures c.number.result c.number.ensures

pub returns-then-not-known : goal.returns-then-not-known
returns-then-not-known c =
    let a = c.args in
    let t = unknown a.volume.now a.page a.buffer.now a.report.now _ c.known.ensures c.if-not-known.true in
    rw c.from.ensures (record { answer = t.0; buffer = t.1; report = t.2 })

pub returns-then-report-ne3 : goal.returns-then-report-ne3
returns-then-report-ne3 c =
    let t = other (goal.at.returns-then-report-ne3 c).After-from-then-report-ne3 in record { answer = t.0; buffer = t.1; report = t.2 }

pub returns : goal.returns
returns c = let t = told (goal.at.returns c).After-number in record { answer = t.0; buffer = t.1; report = t.2 }

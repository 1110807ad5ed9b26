-- `face_step::step::step` meets its contract.
use mathlib.Core.Path.{◌≡◌, refl, ap, ◌∙◌}
use lib.ListN.{length}
use Rattle.numbers.proofs.FitLaws.{long}
use Rattle.face_step.proofs.FaceLaws.{unlike-headed, unfit, sized, fitting, fit}
use Rattle.face_step.proofs.RowLaws.{told}
use Rattle.face_step.proofs.step.step.Goals.{Else-fits-report}
use Rattle.face_step.proofs.step.step.Goals as goal

-- past the tests: the numbers fit, the report has five
right : (c : goal.Else-fits-report) → length c.args.report.now ≡ 5
right c =
    let a = c.args in
    sized (a.command, a.payload) a.volume.now a.memory.now a.state.now a.report.now c.fits.result
    c.fits.ensures c.if-fits-report.false

whole : (c : goal.Else-fits-report) → length c.args.state.now ≡ 360
whole c =
    let a = c.args in
    long a.state.now
    (fitting (a.command, a.payload) a.volume.now a.memory.now a.state.now a.report.now c.fits.result
    c.fits.ensures c.if-fits-report.false)

pub returns-then-not-headed : goal.returns-then-not-headed
returns-then-not-headed c =
    let a = c.args in
    let h = c.headed in
    rw c.from.ensures (
    unlike-headed (a.command, a.payload) a.volume.now a.memory.now a.state.now a.report.now a.own h.result c.requires
    h.ensures c.if-not-headed.true
    )

pub returns-then-fits-report : goal.returns-then-fits-report
returns-then-fits-report c =
    let f = c.fits in
    let h = c.headed in
    let a = c.args in
    unfit (a.command, a.payload) a.volume.now a.memory.now a.state.now a.report.now f.result f.ensures a.own
    h.result _ c.from-then-fits-report.result c.if-fits-report.true c.requires h.ensures c.if-not-headed.false refl
    (c.from-then-fits-report.ensures ∙ c.bad_buffer.ensures)

pub decode-before-requires : goal.decode-before-requires
decode-before-requires c = whole c

pub update-requires : goal.update-requires
update-requires c = (whole (goal.at.update-requires c).Else-fits-report, c.row-row.ensures.1)

pub tell-requires : goal.tell-requires
tell-requires c = right (goal.at.tell-requires c).Else-fits-report

pub returns : goal.returns
returns c =
    let u = c.update in
    let o = c.perform-returned in
    let r = c.row-row in
    let x = c.aim-x in
    let d = c.decode-before in
    let a = c.args in
    let z = ap (λ y. y.store.state) o.ensures.outcome in
    let h =
    fitting (a.command, a.payload) a.volume.now a.memory.now a.state.now a.report.now c.fits.result
    c.fits.ensures c.if-fits-report.false in
    fit (a.command, a.payload) a.volume.now a.memory.now a.state.now a.report.now c.fits.result
    c.fits.ensures c.if-fits-report.false
    d.result d.ensures o.result.answer o.result.store.state x.result c.number.result
    u.new.out c.tell.new.report o.new.memory o.new.volume
    (ap (λ y. y.answer) o.ensures.outcome) z o.ensures.memory o.ensures.volume
    (x.ensures a.payload) c.number.ensures
    (told (a.command, a.payload) a.volume.now a.memory.now a.state.now h d.result d.ensures
    o.result.store.state z r.result (r.ensures.0 a.payload) u.new.out u.ensures)
    c.tell.ensures

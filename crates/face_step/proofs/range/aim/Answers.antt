use Rattle.model.specs.declared.geometry.Geometry.{Geometry}
use Rattle.face_step.specs.Targets.{old_target, range_of}
use Rattle.face_step.proofs.FaceLaws.{log-range, note-range}
use mathlib.Core.Path.{ap, ◌∙◌}
use Rattle.face_step.proofs.range.aim.Goals as goal

pub returns-in-Force : goal.returns-in-Force
returns-in-Force c = λ p.
    let h = c.geometry-g in
    rw c.in-Force.is
    (c.cut.ensures ∙ log-range h.result c.args.volume.now h.ensures c.args.s.durable
    c.turned-before.result c.turned-before.ensures.0)

pub returns-in-Write : goal.returns-in-Write
returns-in-Write c = λ p.
    rw c.in-Write.is
    (c.cut-in-Write.ensures ∙ rw c.page_at.ensures)

pub returns-in-Backup : goal.returns-in-Backup
returns-in-Backup c = λ p.
    rw c.in-Backup.is
    (c.cut-in-Backup.ensures ∙ rw (c.slot_at.ensures, c.geometry-g.ensures))

pub returns-in-Note : goal.returns-in-Note
returns-in-Note c = λ p.
    let h = c.geometry-g in
    rw c.in-Note.is
    (c.cut-in-Note.ensures ∙ note-range h.result c.args.volume.now h.ensures c.args.s.notes
    c.turned-before-in-Note.result c.turned-before-in-Note.ensures.0)

pub returns-in-Restamp : goal.returns-in-Restamp
returns-in-Restamp c = λ p.
    let s = c.args in
    rw c.in-Restamp.is
    (c.old_range.ensures
    ∙ ap (λ (k : Geometry). range_of k (old_target s.volume.now s.s)) c.geometry-g.ensures)

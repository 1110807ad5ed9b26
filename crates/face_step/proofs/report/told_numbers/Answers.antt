use Rattle.face_step.proofs.report.told_numbers.Goals as goal

pub returns-in-Repaired : goal.returns-in-Repaired
returns-in-Repaired c =
    rw (c.in-Repaired.is, c.class_number.ensures, c.start_number.ensures)

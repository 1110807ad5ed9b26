-- `face_step::touched::page` meets its contract.
use Rattle.face_step.proofs.touched.page.Goals as goal

pub returns-in-Force : goal.returns-in-Force
returns-in-Force c = λ p. rw c.in-Force.is c.forced_page.ensures

pub returns-in-Note : goal.returns-in-Note
returns-in-Note c = λ p. rw c.in-Note.is c.note_page.ensures

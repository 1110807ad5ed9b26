-- Every definition of `face` that stays shut until it is named, with those that `opened` names: a declaration that
-- says `unfolding opened_for_c` computes with all of them.
use Rattle.cases.specs.Opened.{opened}
use Rattle.face.specs.Numbers.{frame_numbers, entry_numbers, numbers_of, frames_of, entries_of, state_of, fits}
use Rattle.face.specs.Face.{face_of, restarted_of}
use Rattle.face.specs.Arguments.{misfilled_of, begin_face, change_from, payload_from}
use Rattle.face.specs.Slots.{counts_of, listed_at}
use Rattle.face.specs.Failing.{failing_face}
use Rattle.face.specs.Room.{tell_room}
use Rattle.face.specs.Advice.{upkeep_face}

unfoldable pub opened_for_c : Unit {0}
unfolding
    opened frame_numbers entry_numbers numbers_of frames_of entries_of state_of fits face_of restarted_of misfilled_of begin_face
    change_from payload_from counts_of listed_at failing_face tell_room upkeep_face
opened_for_c = tt

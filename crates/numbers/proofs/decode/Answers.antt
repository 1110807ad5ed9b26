use Rattle.model.specs.Bytes.{part}
use Rattle.face.specs.Numbers.{state_of}
use Rattle.numbers.proofs.decode.Goals as goal

pub returns : goal.returns
unfolding state_of part
returns c =
    let n = c.note_from-note in
    let e = c.entries_of-index in
    rw (n.ensures, c.frames_of-frames.ensures, e.ensures)

-- `room_report::measured` is the definition's case of a clean scan.
use Rattle.room_report.proofs.Remaining.{valid, done}
use Rattle.room_report.proofs.measured.Goals as goal

pub of-v-requires : goal.of-v-requires
of-v-requires c = valid _ c.in_ok-scan.ensures.refusal

pub returns-clause-room : goal.returns-clause-room
returns-clause-room c =
    let e = c.in_ok-scan.ensures in
    done c.args.volume.now _ _ _ _ _ e.refusal e.clean (rw c.of-v.ensures at c.of-v.result.read) c.resumed-s.ensures
    (rw c.of-v.ensures at c.left.ensures) (rw c.of-v.ensures at c.left-2.ensures)

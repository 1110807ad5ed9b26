-- `room_report::left`: refused as the scan is, else the room.
use Rattle.room_report.proofs.Remaining.{refused}
use Rattle.room_report.proofs.left.Goals as goal

pub returns-in-Err : goal.returns-in-Err
returns-in-Err c = rw c.from.ensures (refused _ _ c.in-Err.ensures.refusal)

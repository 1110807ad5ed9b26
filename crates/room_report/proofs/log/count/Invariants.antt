-- `room_report::log::count`: what is left of the search gives the whole.
use Prim.Native.Nat.{◌+◌, ◌-◌, ◌≤◌}
use mathlib.Core.Path.{◌≡◌}
use Rattle.model.specs.Passes.{first_from}
use Rattle.reports.specs.Room.{log_full_after, records_left}
use Rattle.room_report.proofs.log.count.Given as goal

abbrev pub invariant-loop-i : goal.invariant-loop-i
invariant-loop-i l =
    (l.s.durable + l.i ≤ 4294967295)
    × (first_from (l.slots - l.i) (log_full_after l.v.geometry l.v.bytes.now l.s) l.i ≡ records_left l.v.geometry l.v.bytes.now l.s)

-- Which histories are disciplined: what may come at any time, what only where upkeep is idle, and the bounds.
use Rattle.std.specs.Prelude.{ℕ, List, [], ◌∷◌, ◌++◌, replicate}
use Rattle.model.specs.Geometry.{page_at, slot_at}
use Rattle.model.specs.AbstractLog.{old}
use Rattle.model.specs.History.{Power, off, on, Machine, Event, restart, perform, crash, crash_in, damage}
use Rattle.upkeep_policy.specs.Upkeep.{disciplined, written_pages, ever_written}
use Rattle.cases.specs.Rows.{Row, row}
use Rattle.cases.specs.Opened.{opened}
use Rattle.cases.specs.Words.{bit, yes, no}
use Rattle.cases.specs.Build.{memory}
use Rattle.cases.specs.Calls.{force, write, note, start_carry}
use Rattle.cases.specs.Prologues.{page_begun, page_written, pages_forced}
use Rattle.cases.specs.Rings.{reach_ring, put}
use Rattle.upkeep_cases.specs.Stores.{backed2}

-- events from a machine on, by the frame, W and C
abbrev keeps : ℕ → ℕ → ℕ → Machine → List Event → ℕ
keeps r W C w es = bit (disciplined r W C w 0 es)

-- a record is pending: upkeep says Force
abbrev begun : Machine
begun = reach_ring 1 2 4 4 (page_begun 2)

-- page 1 is written: upkeep is idle; and backed up twice: it is to be written again, after a cut too
abbrev written : Machine
written = reach_ring 1 2 4 4 (page_written 2)

abbrev due : Machine
due = reach_ring 1 2 4 4 backed2

-- two pages; page 1's note is stored, page 2's is pending
abbrev two_pages : Machine
two_pages = reach_ring 2 3 4 6 (pages_forced 2 ++ (perform (write 1) ∷ perform note ∷ perform (write 2) ∷ []))

abbrev ever_in : Power → ℕ
ever_in off = 99
ever_in (on m s) = ever_written s

unfoldable pub discipline_rows : List Row
unfolding opened
discipline_rows =
    row "discipline: damage, a cut and a Restart may come at any time"
    (keeps 2 1 1 begun (damage (page_at 1) (replicate 256 1) ∷ damage (slot_at 2) (replicate 256 1) ∷ [])
    ∷ keeps 2 1 1 begun (crash ∷ []) ∷ keeps 2 1 1 begun (restart (memory 2) ∷ [])
    ∷ keeps 2 1 1 begun (crash_in force old ∷ []) ∷ [])
    (yes ∷ yes ∷ yes ∷ yes ∷ [])
    ∷ row "discipline: another call than the one advised, and a cut in it; a call that carries"
    (keeps 2 1 1 begun (perform (put 1) ∷ []) ∷ keeps 2 1 1 begun (crash_in (put 1) old ∷ [])
    ∷ keeps 2 1 1 written (perform (put 1) ∷ []) ∷ keeps 2 1 1 written (perform start_carry ∷ [])
    ∷ keeps 2 1 1 due (perform (put 8) ∷ []) ∷ keeps 2 1 1 due (perform (put 7) ∷ []) ∷ [])
    (no ∷ no ∷ yes ∷ no ∷ no ∷ yes ∷ [])
    ∷ row "discipline: C cuts between two moments of idle, where a page has a written note"
    (keeps 2 1 1 due (crash ∷ restart (memory 2) ∷ []) ∷ keeps 2 1 1 due (crash ∷ restart (memory 2) ∷ crash ∷ [])
    ∷ keeps 2 1 1 due (restart (memory 2) ∷ restart (memory 2) ∷ [])
    ∷ keeps 2 1 2 due (crash ∷ restart (memory 2) ∷ crash ∷ restart (memory 2) ∷ [])
    ∷ keeps 2 1 1 written (crash ∷ restart (memory 2) ∷ crash ∷ restart (memory 2) ∷ crash ∷ [])
    ∷ keeps 2 1 0 begun (crash ∷ restart (memory 2) ∷ []) ∷ [])
    (yes ∷ no ∷ no ∷ yes ∷ yes ∷ yes ∷ [])
    ∷ row "discipline: W pages with a written note, and a frame that is there"
    (keeps 2 0 1 written [] ∷ keeps 2 1 1 written [] ∷ keeps 3 1 1 written [] ∷ keeps 0 1 1 written []
    ∷ written_pages two_pages.volume ∷ ever_in two_pages.power ∷ [])
    (no ∷ yes ∷ no ∷ no ∷ 1 ∷ 2 ∷ [])
    ∷ []

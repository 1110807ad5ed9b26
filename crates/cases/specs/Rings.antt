-- The small table of the ring: what the scan finds in four slots, in order: n is the record of that number, 0 a zero
-- slot, 99 a torn one. Each row gives the count, the run start, whether the log is valid, and whether record 1 has
-- left.
use Rattle.std.specs.Prelude.{ℕ, suc, ◌-◌, cond, List, [], ◌∷◌, ◌++◌, eqb, replicate, length}
use Rattle.model.specs.Geometry.{record_at, slot_at, empty_volume, length_for, geometry_of, store, valid_volume}
use Rattle.model.specs.Item.{encode_change}
use Rattle.model.specs.Scan.{durable_count, first_held, valid_log, gone}
use Rattle.model.specs.Calls.{Call}
use Rattle.cases.specs.Calls.{begin, load, change, force, write, backup, release, note}
use Rattle.model.specs.AbstractLog.{torn}
use Rattle.model.specs.History.{Machine, Event, restart, perform, crash_in, damage, fresh_machine, run}
use Rattle.model.specs.declared.{geometry.Heading.Heading, change.Change.TheVariants.Put}
use Rattle.model.specs.declared.geometry.Heading.TheVariants.{First, Second}
use Rattle.model.specs.declared.answer.Class.TheVariants.{Good, Failed}
use Rattle.model.specs.declared.change.Change.TheVariants.{Format}
use Rattle.cases.specs.Rows.{Row, row}
use Rattle.cases.specs.Opened.{opened}
use Rattle.cases.specs.Words.{bit, refused, done, from_own, from_backup, from_format, yes, no, at_lsn}
use Rattle.cases.specs.Build.{broken, memory, inspected, asked}
use Rattle.cases.specs.Prologues.{pages_forced, page_written, page_forced, page_begun}
use Rattle.cases.specs.Table.{as_lent}

-- record n of page 1: the first is a format, the others put a byte and name the one before
abbrev pub record_no : ℕ → List ℕ
record_no n = cond (eqb n 1) (encode_change 1 0 1 (Format 7) []) (encode_change n (n - 1) 1 (Put 0 1) (n ∷ []))

abbrev pub slot_bytes : ℕ → List ℕ
slot_bytes n = cond (eqb n 0) (replicate 64 0) (cond (eqb n 99) (broken (record_no 1)) (record_no n))

abbrev pub filled : List ℕ → ℕ → List ℕ → List ℕ
filled v i [] = v
filled v i (n ∷ ns) = filled (store (geometry_of v) v (record_at (suc i)) (slot_bytes n)) (suc i) ns

abbrev pub log_with : Heading → List ℕ → List ℕ
log_with t ns = filled (empty_volume t 1 1 (length ns) 2) 0 ns

abbrev pub read_as : Heading → List ℕ → List ℕ
read_as t ns =
    let v = log_with t ns in
    let g = geometry_of v in
    let n = durable_count g v in
    n ∷ first_held g v n ∷ bit (valid_log g v) ∷ bit (gone g v) ∷ bit (valid_volume v) ∷ []

-- in words: the count, the run start, whether the log is valid and whether record 1 has left; the volume is valid
abbrev scanned : ℕ → ℕ → ℕ → ℕ → List ℕ
scanned count first valid left = count ∷ first ∷ valid ∷ left ∷ yes ∷ []

-- events on a ring of these counts
abbrev pub reach_ring : ℕ → ℕ → ℕ → ℕ → List Event → Machine
reach_ring p b l n es = run (fresh_machine Second (replicate (length_for p b l n) 0xDD) p b l n) es

abbrev pub put : ℕ → Call
put n = change 1 (Put 0 1) (n ∷ replicate 43 0)

-- begin; force; backup; change; force; note; change; force: records 2 and 3 stand, 1 has left
abbrev pub turned : List Event
turned =
    page_forced 1
    ++ (perform (backup 1 1) ∷ perform (put 2) ∷ perform force ∷ perform note ∷ perform (put 3) ∷ perform force ∷ [])

-- no backup noted: the record that would be displaced is needed
abbrev pub needed : List Event
needed = page_begun 1 ++ (perform (put 2) ∷ perform force ∷ perform force ∷ [])

-- the same, with the displaced record still pending
abbrev pub still_pending : List Event
still_pending = page_begun 1 ++ (perform (put 2) ∷ [])

-- a torn overwrite of slot 1 counts as leaving
abbrev pub torn_over : List Event
torn_over =
    needed ++ (perform (backup 1 1) ∷ perform note ∷ perform (put 3) ∷ crash_in force (torn (replicate 64 1)) ∷ [])

-- a note ring of two: written, backed up, and then the written note is the only one of its kind
abbrev pub locked : List Event
locked =
    page_written 1 ++ (perform (backup 1 1) ∷ perform note ∷ [])

-- two pages: both notes of page 1 are of record 1, which has left; the log holds records 2 and 3 of page 2
abbrev pub two_pages : List Event
two_pages =
    page_written 2
    ++ (perform (backup 1 1) ∷ perform (begin 2 2 9) ∷ perform force ∷ perform note
    ∷ perform (change 2 (Put 0 1) (5 ∷ replicate 43 0)) ∷ perform force ∷ [])

-- two written notes, and a third note pending, which overwrites the first
abbrev pub notes_turn : List Event
notes_turn =
    page_written 1
    ++ (perform (put 2) ∷ perform force ∷ perform (write 1) ∷ perform note ∷ perform (backup 1 1) ∷ [])

-- cut torn
abbrev pub torn_note : List Event
torn_note = notes_turn ++ (crash_in note (torn (replicate 16 1)) ∷ restart (memory 1) ∷ perform (load 1 1) ∷ [])

-- the oldest note is of another page than the later one of its kind
abbrev pub other_page : List Event
other_page =
    pages_forced 2 ++ (perform (write 1) ∷ perform note ∷ perform (write 2) ∷ perform note ∷ [])

unfoldable pub ring_rows : List Row
unfolding opened
ring_rows =
    row "ring: 5 6 3 4" (read_as Second (5 ∷ 6 ∷ 3 ∷ 4 ∷ [])) (scanned 6 3 yes yes)
    ∷ row "ring: 5 6 t 4" (read_as Second (5 ∷ 6 ∷ 99 ∷ 4 ∷ [])) (scanned 6 4 yes yes)
    ∷ row "ring: 5 t 3 4" (read_as Second (5 ∷ 99 ∷ 3 ∷ 4 ∷ [])) (scanned 5 3 yes yes)
    ∷ row "ring: 5 2 3 4" (read_as Second (5 ∷ 2 ∷ 3 ∷ 4 ∷ [])) (scanned 5 2 yes yes)
    ∷ row "ring: t 2 3 4" (read_as Second (99 ∷ 2 ∷ 3 ∷ 4 ∷ [])) (scanned 4 2 yes yes)
    ∷ row "ring: t 2 3 4, no ring" (read_as First (99 ∷ 2 ∷ 3 ∷ 4 ∷ [])) (scanned 0 1 no no)
    ∷ row "ring: 1 2 3 4" (read_as Second (1 ∷ 2 ∷ 3 ∷ 4 ∷ [])) (scanned 4 1 yes no)
    ∷ row "ring: 5 6 3 t" (read_as Second (5 ∷ 6 ∷ 3 ∷ 99 ∷ [])) (scanned 6 3 no yes)
    ∷ row "ring: t 2 0 0" (read_as Second (99 ∷ 2 ∷ 0 ∷ 0 ∷ [])) (scanned 2 2 no yes)
    ∷ row "ring: 1 2 t t" (read_as Second (1 ∷ 2 ∷ 99 ∷ 99 ∷ [])) (scanned 2 1 no no)
    ∷ row "ring: 1 2 t 0" (read_as Second (1 ∷ 2 ∷ 99 ∷ 0 ∷ [])) (scanned 2 1 yes no)
    ∷ row "ring: 1 2 2 0" (read_as Second (1 ∷ 2 ∷ 2 ∷ 0 ∷ [])) (scanned 2 1 no no)
    ∷ row "ring: fresh" (read_as Second (0 ∷ 0 ∷ 0 ∷ 0 ∷ [])) (scanned 0 2 yes no)
    ∷ row "ring: t 0 0 0" (read_as Second (99 ∷ 0 ∷ 0 ∷ 0 ∷ [])) (scanned 0 2 yes no)
    ∷ row "ring: t 2 of two" (read_as Second (99 ∷ 2 ∷ [])) (scanned 2 2 yes yes)
    ∷ row "ring: one slot is no ring"
    (read_as Second (1 ∷ []) ++ read_as Second (99 ∷ [])) (scanned 1 1 yes no ++ scanned 0 1 yes no)
    ∷ []

unfoldable pub ring_events : List Row
unfolding opened
ring_events =
    row "ring: turned: from the backup, below the run" (inspected (reach_ring 1 1 2 2 turned).volume 1)
    (from_backup Failed 2 ++ at_lsn 3 (3 ∷ 7 ∷ 7 ∷ 7 ∷ 7 ∷ 7 ∷ []))
    ∷ row "ring: turned, the backup damaged: 23"
    (inspected (run (reach_ring 1 1 2 2 turned) (damage (slot_at 1) (replicate 256 1) ∷ [])).volume 1)
    (refused 23 ++ as_lent)
    ∷ row "ring: turned, let go and opened: from the backup"
    (asked (run (reach_ring 1 1 2 2 turned) (perform (release 1) ∷ [])) (load 1 1)) (from_backup Failed 2)
    ∷ row "ring: turned, let go, the backup damaged: 23"
    (asked (run (reach_ring 1 1 2 2 turned) (perform (release 1) ∷ damage (slot_at 1) (replicate 256 1) ∷ []))
    (load 1 1)) (refused 23)
    ∷ row "ring: no backup: 12" (asked (reach_ring 1 1 2 2 needed) (put 3)) (refused 12)
    ∷ row "ring: an owed backup is not noted: 12"
    (asked (run (reach_ring 1 1 2 2 needed) (perform (backup 1 1) ∷ [])) (put 3)) (refused 12)
    ∷ row "ring: a noted backup: done"
    (asked (run (reach_ring 1 1 2 2 needed) (perform (backup 1 1) ∷ perform note ∷ [])) (put 3)) done
    ∷ row "ring: a backup noted one below the record: 12" (asked (reach_ring 1 1 2 2 turned) (put 4)) (refused 12)
    ∷ row "ring: displaces a pending one: 12" (asked (reach_ring 1 1 2 2 still_pending) (put 3)) (refused 12)
    ∷ row "ring: torn over slot 1" (inspected (reach_ring 1 1 2 2 torn_over).volume 1)
    (from_backup Failed 0 ++ at_lsn 2 (2 ∷ 7 ∷ 7 ∷ 7 ∷ 7 ∷ 7 ∷ []))
    ∷ row "ring: torn over slot 1, restarted, goes on"
    (asked (run (reach_ring 1 1 2 2 torn_over) (restart (memory 1) ∷ perform (load 1 1) ∷ [])) (put 3)) done
    ∷ row "ring: the oldest note is needed: 14" (asked (reach_ring 1 2 2 2 locked) (backup 1 2)) (refused 14)
    ∷ row "ring: a later note of another page: 14" (asked (reach_ring 2 2 2 2 other_page) (backup 1 1)) (refused 14)
    ∷ row "ring: torn over slot 1, the backup damaged: 23"
    (inspected (run (reach_ring 1 1 2 2 torn_over) (damage (slot_at 1) (replicate 256 1) ∷ [])).volume 1)
    (refused 23 ++ as_lent)
    ∷ row "ring: a torn note, restarted, goes on" (asked (reach_ring 1 1 2 2 torn_note) (backup 1 1)) done
    ∷ row "ring: two pages, page 1" (inspected (reach_ring 2 1 2 2 two_pages).volume 1)
    (from_own Good 0 ++ at_lsn 1 (7 ∷ 7 ∷ 7 ∷ 7 ∷ 7 ∷ 7 ∷ []))
    ∷ row "ring: two pages, page 2" (inspected (reach_ring 2 1 2 2 two_pages).volume 2)
    (from_format Failed 2 ++ at_lsn 3 (5 ∷ 9 ∷ 9 ∷ 9 ∷ 9 ∷ 9 ∷ []))
    ∷ []

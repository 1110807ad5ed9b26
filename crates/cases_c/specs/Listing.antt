-- Rows on the functions for C that tell numbers: the counts, a slot of the log, of the notes and of the backups, the
-- room, and upkeep's advice.
use Rattle.std.specs.Prelude.{ℕ, List, [], ◌∷◌, ◌++◌, replicate, set, take}
use Rattle.model.specs.Geometry.{slot_at, record_at, note_at, empty_volume}
use Rattle.model.specs.Outcome.{one_item}
use Rattle.model.specs.History.{Machine, restart, crash, run}
use Rattle.model.specs.declared.geometry.Heading.TheVariants.{First, Second}
use Rattle.face.specs.Numbers.{numbers_of}
use Rattle.face.specs.Slots.{Listed, counts_of, record_slot_of, note_slot_of, backup_slot_of}
use Rattle.face.specs.Room.{tell_room}
use Rattle.face.specs.Advice.{upkeep_face}
use Rattle.cases.specs.Rows.{Row, row}
use Rattle.cases.specs.Calls.{force, write, backup, note}
use Rattle.cases.specs.Build.{image, broken, backup_note, small_volume, memory, reach}
use Rattle.cases.specs.Prologues.{pages_forced, page_forced, page_written}
use Rattle.cases.specs.Rings.{reach_ring, put, turned}
use Rattle.cases.specs.Table.{record2, record3}
use Rattle.cases_c.specs.OpenedForC.{opened_for_c}
use Rattle.cases_c.specs.Faces.{does, with_state}

-- ---- what is told, in words

abbrev lists : Listed → List ℕ
lists l = l.refusal ∷ l.numbers

abbrev tells : List ℕ → List ℕ
tells xs = 0 ∷ xs

-- n nines as they were lent
abbrev left : ℕ → ℕ → List ℕ
left refusal n = refusal ∷ replicate n 9

abbrev nines : ℕ → List ℕ
nines n = replicate n 9

-- ---- slots

-- two records, a torn one and a zero slot; a backup's note, which names slot 9
abbrev slots : List ℕ
slots =
    small_volume
    (one_item (record_at 2) record2 ∷ one_item (record_at 3) record3 ∷ one_item (record_at 4) (broken record3)
    ∷ one_item (note_at 1) (backup_note 4 1 9 3) ∷ one_item (note_at 2) (broken (backup_note 4 1 9 3)) ∷ [])

abbrev record_in : ℕ → List ℕ
record_in slot = lists (record_slot_of slots slot (nines 8))

abbrev note_in : ℕ → List ℕ
note_in slot = lists (note_slot_of slots slot (nines 8))

-- a backup slot that holds these bytes, of a volume with two pages
abbrev backup_with : List ℕ → List ℕ
backup_with xs = take 4 (lists (backup_slot_of (small_volume (one_item (slot_at 1) xs ∷ [])) 1 (nines 8)))

-- ---- room

-- two pages; notes: 1 written page 1, 2 written page 2, 3 written page 1. Records: 1 page 1, 2 page 2, 3 page 1
abbrev full : Machine
full = reach 2 2 3 3
    (pages_forced 2 ++ does (write 1 ∷ note ∷ write 2 ∷ note ∷ put 3 ∷ force ∷ write 1 ∷ note ∷ []))

abbrev room_in : Machine → List ℕ
room_in w = lists (tell_room w.volume (nines 4))

-- ---- upkeep

abbrev advises : ℕ → ℕ → Machine → List ℕ
advises r n w = with_state w.power [] (λ m s. lists (upkeep_face w.volume m (numbers_of s) r (nines n)))

-- page 1 written, and backed up twice: in a note ring of four the written note is at position 2; three records of it
abbrev copied : Machine
copied = reach_ring 1 2 4 4 (page_written 2 ++ does (backup 1 1 ∷ note ∷ backup 1 2 ∷ note ∷ []))

abbrev three : Machine
three = reach_ring 1 2 4 4 (page_forced 2 ++ does (put 2 ∷ force ∷ put 3 ∷ force ∷ []))

-- kind, call, page, frame or slot; then of a put kind, length, offset and byte
abbrev advice : ℕ → ℕ → ℕ → ℕ → List ℕ
advice kind call page place = 0 ∷ kind ∷ call ∷ page ∷ place ∷ 0 ∷ 0 ∷ 0 ∷ 0 ∷ []

unfoldable pub slot_rows : List Row
unfolding opened_for_c
slot_rows =
    row "C: the tag and the counts; 1 and 2"
    (let v = empty_volume Second 1 2 3 4 in
    lists (counts_of v (nines 5)) ++ (lists (counts_of (empty_volume First 1 2 3 4) (nines 5))
    ++ (lists (counts_of v (nines 4)) ++ lists (counts_of (set v 0 0) (nines 4)))))
    (tells (0x32 ∷ 1 ∷ 2 ∷ 3 ∷ 4 ∷ []) ++ (tells (0x56 ∷ 1 ∷ 2 ∷ 3 ∷ 4 ∷ []) ++ (left 2 4 ++ left 1 4)))
    ∷ row "C: a log slot: zeros, whole, torn"
    (record_in 1 ++ (record_in 2 ++ (record_in 3 ++ (take 2 (record_in 4) ++ take 2 (note_in 2)))))
    (tells (replicate 8 0) ++ (tells (1 ∷ 2 ∷ 0 ∷ 2 ∷ 1 ∷ 0 ∷ 0 ∷ 9 ∷ []) ++ (tells (1 ∷ 3 ∷ 1 ∷ 1 ∷ 2 ∷ 2 ∷ 1 ∷ 0 ∷ [])
    ++ (tells (2 ∷ []) ++ tells (2 ∷ [])))))
    ∷ row "C: a note slot: number, page, kind, slot, lsn" (note_in 1 ++ note_in 3)
    (tells (1 ∷ 4 ∷ 1 ∷ 2 ∷ 9 ∷ 3 ∷ 0 ∷ 0 ∷ []) ++ tells (replicate 8 0))
    ∷ row "C: a slot: 1 before 2 before 5, and 5 for 0 and past the last"
    (record_in 0 ++ (record_in 5 ++ (note_in 0 ++ (note_in 5 ++ (lists (backup_slot_of slots 2 (nines 8))
    ++ (lists (backup_slot_of slots 0 (nines 8)) ++ (lists (record_slot_of slots 0 (nines 7))
    ++ lists (record_slot_of (set slots 0 0) 0 (nines 7)))))))))
    (left 5 8 ++ (left 5 8 ++ (left 5 8 ++ (left 5 8 ++ (left 5 8 ++ (left 5 8 ++ (left 2 7 ++ left 1 7)))))))
    ∷ row "C: a backup is whole as a page 1 to P, and of no other"
    (let body : List ℕ = replicate 244 7 in
    backup_with (image 1 5 body) ++ (backup_with (image 2 6 body) ++ (backup_with (image 0 5 body)
    ++ (backup_with (image 3 5 body) ++ (backup_with (broken (image 2 6 body)) ++ backup_with (replicate 256 0))))))
    (tells (1 ∷ 1 ∷ 5 ∷ []) ++ (tells (1 ∷ 2 ∷ 6 ∷ []) ++ (tells (2 ∷ 0 ∷ 5 ∷ []) ++ (tells (2 ∷ 3 ∷ 5 ∷ [])
    ++ (tells (2 ∷ 2 ∷ 6 ∷ []) ++ tells (0 ∷ 0 ∷ 0 ∷ []))))))
    ∷ []

unfoldable pub listed_rows : List Row
unfolding opened_for_c
listed_rows =
    let noted = run full (does (backup 1 1 ∷ note ∷ [])) in
    row "C: the room of log and notes, and the page in the way"
    (room_in full ++ room_in noted)
    (tells (0 ∷ 1 ∷ 1 ∷ 2 ∷ []) ++ tells (1 ∷ 2 ∷ 0 ∷ 2 ∷ []))
    ∷ row "C: the room: 1, 2 and 17"
    (lists (tell_room (set full.volume 0 0) (nines 3)) ++ (lists (tell_room full.volume (nines 3))
    ++ lists (tell_room slots (nines 4))))
    (left 1 3 ++ (left 2 3 ++ left 17 4))
    ∷ row "C: upkeep idle, and stuck at its page"
    (advises 2 8 (reach_ring 1 2 4 4 (page_written 2)) ++ advises 1 8 (reach_ring 1 1 2 2 turned))
    (advice 0 0 0 0 ++ advice 2 0 1 0)
    ∷ row "C: upkeep's calls: Load, Backup, Force, Note, Write, and a put with its byte"
    (let w = copied in
    advises 2 8 (run w (crash ∷ restart (memory 2) ∷ []))
    ++ (advises 2 8 three ++ (advises 2 8 (run w (does (put 8 ∷ [])))
    ++ (advises 2 8 (run w (does (put 8 ∷ force ∷ write 1 ∷ []))) ++ (advises 2 8 (run w (does (put 8 ∷ force ∷ [])))
    ++ advises 2 8 w)))))
    (advice 1 4 1 2 ++ (advice 1 8 1 1 ++ (advice 1 6 0 0 ++ (advice 1 9 0 0 ++ (advice 1 7 1 0
    ++ tells (1 ∷ 5 ∷ 1 ∷ 0 ∷ 2 ∷ 1 ∷ 0 ∷ 7 ∷ []))))))
    ∷ row "C: upkeep: 2 for a report of another length, before 4"
    (let w = reach_ring 1 2 4 4 (page_written 2) in advises 2 7 w ++ (advises 3 7 w ++ (advises 3 8 w ++ advises 0 8 w)))
    (left 2 7 ++ (left 2 7 ++ (left 4 8 ++ left 4 8)))
    ∷ []

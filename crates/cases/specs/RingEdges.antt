-- Rows at the edges of the ring, most of them on volumes and states that no history reaches: a note above its page's
-- newest, the largest number, no note slots, two refusals at once, an entry with a backup's number and no slot, a record
-- that names one below the run though its page has one in it. And of the proviso, which start stands.
use Rattle.std.specs.Prelude.{ℕ, true, false, List, [], ◌∷◌, ◌++◌, replicate}
use Rattle.model.specs.Geometry.{page_at, slot_at, record_at, note_at, empty_volume, geometry_of}
use Rattle.model.specs.Item.{encode_change}
use Rattle.model.specs.Outcome.{one_item}
use Rattle.model.specs.Restart.{restart_of}
use Rattle.cases.specs.Calls.{begin, write, backup}
use Rattle.model.specs.History.{Power, on}
use Rattle.model.specs.Claim.{start_stands}
use Rattle.model.specs.declared.{geometry.Heading.TheVariants.Second, change.Change.TheVariants.Put}
use Rattle.model.specs.declared.{state.Entry.Entry}
use Rattle.cases.specs.Rows.{Row, row}
use Rattle.cases.specs.Opened.{opened}
use Rattle.cases.specs.Words.{bit, numbers, refused, done, yes, no, accepted, refusal}
use Rattle.cases.specs.Build.{image, broken, written_note, backup_note, stored_in, memory}
use Rattle.cases.specs.States.{entry, none, frame, pending_note, state_with}
use Rattle.cases.specs.Refused.{numbers_in}
use Rattle.cases.specs.Rings.{record_no, log_with, put}
use Rattle.model.specs.Types.{PendingNote, None}

-- what a Restart answers on a volume
abbrev restarts : List ℕ → List ℕ
restarts v = numbers (restart_of v (memory 1)).answer

-- L 2: the run is 4 and 5, both of page 2, so that page 1's newest is its backup note's number; with these two notes
abbrev turned_with : List ℕ → List ℕ → List ℕ
turned_with n k =
    stored_in (empty_volume Second 2 1 2 2)
    (one_item (record_at 1) (encode_change 5 4 2 (Put 0 1) (5 ∷ []))
    ∷ one_item (record_at 2) (encode_change 4 3 2 (Put 0 1) (4 ∷ []))
    ∷ one_item (note_at 1) n ∷ one_item (note_at 2) k ∷ [])

-- 5 6 3 4, and record 6 names this one
abbrev six_names : ℕ → List ℕ
six_names n =
    stored_in (log_with Second (5 ∷ 6 ∷ 3 ∷ 4 ∷ []))
    (one_item (record_at 2) (encode_change 6 n 1 (Put 0 1) (6 ∷ [])) ∷ [])

-- a state with page 1 in a frame, dirty, its image at 0; and these counts, pending note and entry of page 1
abbrev only_page : ℕ → ℕ → ℕ → PendingNote → Entry → Power
only_page d n k o e = on (replicate 1536 0) (state_with d n k o (frame 1 true) (frame 0 false) e none none)

-- the numbers of the refusals of a Begin and a Change, and of a Write and a Backup; 0 where one is not refused
abbrev appends : List ℕ → Power → List ℕ
appends v s = numbers_in s v (begin 2 2 9 ∷ put 5 ∷ [])

abbrev stores : List ℕ → Power → List ℕ
stores v s = numbers_in s v (write 1 ∷ backup 1 2 ∷ [])

-- a fresh ring with this N
abbrev ring_of : ℕ → List ℕ
ring_of n = empty_volume Second 2 2 2 n

-- page 1's written note and its backup note fill two note slots, and neither is spare
abbrev notes_needed : List ℕ
notes_needed =
    stored_in (ring_of 2) (one_item (note_at 1) (written_note 1 1 1) ∷ one_item (note_at 2) (backup_note 2 1 1 1) ∷ [])

-- records 1 and 2 of page 1 stand in both slots
abbrev records_stand : List ℕ
records_stand = stored_in (ring_of 2) (one_item (record_at 1) (record_no 1) ∷ one_item (record_at 2) (record_no 2) ∷ [])

-- whether page 1's start stands with these bytes in slot 1 and as its own image, its backup noted at 2
abbrev stands : List ℕ → List ℕ → ℕ
stands copy own =
    let v = stored_in (ring_of 2) (one_item (slot_at 1) copy ∷ one_item (page_at 1) own ∷ []) in
    bit (start_stands (geometry_of v) v (entry 3 3 0 1 2) 1)

abbrev at : ℕ → List ℕ
at n = image 1 n (replicate 244 7)

unfoldable pub ring_edges : List Row
unfolding opened
ring_edges =
    row "ring: page 1 backed up at 1 and written at 2, no record of it in the run: 18"
    (restarts (turned_with (backup_note 1 1 1 1) (written_note 2 1 2))) (refused 18)
    ∷ row "ring: written at 2 and never backed up, no record of it in the run: 18"
    (restarts (turned_with (written_note 1 1 2) (replicate 16 0))) (refused 18)
    ∷ row "ring: backed up at 2 and written at 2, or at 1"
    (restarts (turned_with (backup_note 1 1 1 2) (written_note 2 1 2))
    ++ restarts (turned_with (backup_note 1 1 1 2) (written_note 2 1 1)))
    (done ++ done)
    ∷ row "ring: 5 6 3 4, where 6 names 5, and where it names 2, which is below the run: 17"
    (restarts (six_names 5) ++ restarts (six_names 2)) (done ++ refused 17)
    ∷ row "ring: 12 at the largest number, durable or pending"
    (appends (ring_of 2) (only_page 4294967294 0 0 None (entry 1 1 0 0 0))
    ++ (appends (ring_of 2) (only_page 4294967295 0 0 None (entry 1 1 0 0 0))
    ++ appends (ring_of 2) (only_page 4294967294 1 0 None (entry 1 1 0 0 0))))
    (accepted ∷ accepted ∷ refusal 12 ∷ refusal 12 ∷ refusal 12 ∷ refusal 12 ∷ [])
    ∷ row "ring: 14 at the largest number"
    (stores (ring_of 2) (only_page 1 0 4294967294 None (entry 1 1 0 0 0))
    ++ stores (ring_of 2) (only_page 1 0 4294967295 None (entry 1 1 0 0 0)))
    (accepted ∷ accepted ∷ refusal 14 ∷ refusal 14 ∷ [])
    ∷ row "ring: 14 at N 0"
    (stores (ring_of 1) (only_page 1 0 0 None (entry 1 1 0 0 0))
    ++ stores (ring_of 0) (only_page 1 0 0 None (entry 1 1 0 0 0)))
    (accepted ∷ accepted ∷ refusal 14 ∷ refusal 14 ∷ [])
    ∷ row "ring: 13 before 14, and 14"
    (stores notes_needed (only_page 1 0 2 (pending_note 3 1 1 0 1) (entry 1 1 1 1 1))
    ++ stores notes_needed (only_page 1 0 2 None (entry 1 1 1 1 1)))
    (refusal 13 ∷ refusal 13 ∷ refusal 14 ∷ refusal 14 ∷ [])
    ∷ row "ring: a backup's number without a slot is no noted backup: 12"
    (appends records_stand (only_page 2 0 0 None (entry 2 2 0 0 2))
    ++ appends records_stand (only_page 2 0 0 None (entry 2 2 0 1 2)))
    (refusal 12 ∷ refusal 12 ∷ accepted ∷ accepted ∷ [])
    ∷ row "ring: a start stands by the backup at its noted number, or by an own image there or above"
    (stands (at 2) (broken (at 3)) ∷ stands (at 1) (broken (at 3)) ∷ stands (broken (at 2)) (at 1)
    ∷ stands (broken (at 2)) (at 2) ∷ stands (broken (at 2)) (at 3) ∷ [])
    (yes ∷ no ∷ no ∷ yes ∷ yes ∷ [])
    ∷ []

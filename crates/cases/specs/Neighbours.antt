-- Rows on what a page's repair, and its segment of the archive, depend on (document 02, §13): for each hypothesis two
-- volumes in which it alone fails, and the answers differ; and two in which none fails and all else differs. The
-- archive's refusals need the lowest held number too.
use Rattle.std.specs.Prelude.{ℕ, Bool, true, false, ◌&&◌, List, [], ◌∷◌, ◌++◌, Result, Ok, Err, eqb, replicate, take, set}
use Rattle.model.specs.Geometry.{page_at, slot_at, record_at, note_at, geometry_of, empty_volume}
use Rattle.model.specs.Item.{encode_change}
use Rattle.reports.specs.Reading.{page_view, held_records}
use Rattle.model.specs.Outcome.{StoredItem, one_item}
use Rattle.model.specs.Restart.{inspect_of}
use Rattle.cases.specs.Calls.{begin, force, backup, note}
use Rattle.model.specs.History.{Event, restart, perform}
use Rattle.reports.specs.Archive.{size_of, archive_of}
use Rattle.reports.specs.Neighbours.{lowest_held}
use Rattle.model.specs.declared.change.Change.TheVariants.{Put}
use Rattle.model.specs.declared.geometry.Heading.TheVariants.{First, Second}
use Rattle.model.specs.declared.answer.Class.TheVariants.{Good, Behind, Stale, Failed}
use Rattle.model.specs.declared.change.Change.TheVariants.{Format}
use Rattle.cases.specs.Rows.{Row, row, same}
use Rattle.cases.specs.Opened.{opened}
use Rattle.cases.specs.Words.{bit, numbers, from_own, from_backup, from_format, refused, done, yes, no}
use Rattle.cases.specs.Build.{image_under, image, broken, written_note, backup_note, stored_in, volume_under}
use Rattle.cases.specs.Build.{small_volume, buffer, memory}
use Rattle.cases.specs.Table.{record1, record2, record3, body1, body3}
use Rattle.cases.specs.Rings.{filled, put, reach_ring}

abbrev pub same_records : List (List ℕ) → List (List ℕ) → Bool
same_records [] [] = true
same_records [] (y ∷ ys) = false
same_records (x ∷ xs) [] = false
same_records (x ∷ xs) (y ∷ ys) = same x y && same_records xs ys

-- which hypotheses hold of page p: heading, P, own image, chain, last written number, noted backup's number, its image
abbrev hypotheses : List ℕ → List ℕ → ℕ → List ℕ
hypotheses v w p =
    let a = page_view v p in
    let b = page_view w p in
    bit (same (take 4 v) (take 4 w)) ∷ bit (eqb (geometry_of v).pages (geometry_of w).pages)
    ∷ bit (same a.own b.own)
    ∷ bit (same_records (held_records v p) (held_records w p)) ∷ bit (eqb a.written b.written)
    ∷ bit (eqb a.backup b.backup) ∷ bit (same a.copy b.copy) ∷ []

-- in words: all of them, and all but one, named by its place
abbrev all_hold : List ℕ
all_hold = replicate 7 yes

abbrev all_but : ℕ → List ℕ
all_but i = set all_hold i no

abbrev the_heading : ℕ
the_heading = 0

abbrev the_pages : ℕ
the_pages = 1

abbrev the_own_image : ℕ
the_own_image = 2

abbrev the_chain : ℕ
the_chain = 3

abbrev the_written : ℕ
the_written = 4

abbrev the_backups_number : ℕ
the_backups_number = 5

abbrev the_backups_image : ℕ
the_backups_image = 6

-- beside them, the two answers
abbrev beside : List ℕ → List ℕ → ℕ → List ℕ
beside v w p = hypotheses v w p ++ (numbers (inspect_of v p buffer).answer ++ numbers (inspect_of w p buffer).answer)

-- the log of K6 and more
abbrev log : List StoredItem → List StoredItem
log xs = one_item (record_at 1) record1 ∷ one_item (record_at 2) record2 ∷ one_item (record_at 3) record3 ∷ xs

abbrev with : List StoredItem → List ℕ
with xs = small_volume (log xs)

-- four slots of a ring with these records of page 1, and page 2 backed up at 1, which has left
abbrev ring_with : List ℕ → List ℕ
ring_with ns =
    stored_in (filled (empty_volume Second 2 1 4 2) 0 ns)
    (one_item (slot_at 1) (image 2 1 body1) ∷ one_item (note_at 1) (backup_note 1 2 1 1) ∷ [])

-- a length told, and a refusal
abbrev told : Result ℕ ℕ → List ℕ
told (Err n) = 100 ∷ n ∷ []
told (Ok n) = 101 ∷ n ∷ []

-- page 2 is backed up at record 1, then page 1 gets records 2 and 3: in a log of two slots record 1 has left
abbrev beside_events : List Event
beside_events =
    restart (memory 2) ∷ perform (begin 2 1 9) ∷ perform force ∷ perform (backup 2 1) ∷ perform note
    ∷ perform (begin 1 2 7) ∷ perform force ∷ perform (put 2) ∷ perform force ∷ []

abbrev pub turned_log : List ℕ
turned_log = (reach_ring 2 1 2 1 beside_events).volume

-- the same calls with other counts of slots, log records and notes
abbrev pub whole_log : List ℕ
whole_log = (reach_ring 2 2 4 3 beside_events).volume

-- page 1 is backed up in slot 1, and in slot 2 beside page 2's backup; other counts, and page 2 has other records
abbrev pub first_slot : List ℕ
first_slot = with (one_item (slot_at 1) (image 1 1 body1) ∷ one_item (note_at 1) (backup_note 1 1 1 1) ∷ [])

abbrev pub second_slot : List ℕ
second_slot =
    stored_in (empty_volume Second 2 2 5 3)
    (one_item (record_at 1) record1 ∷ one_item (record_at 2) (encode_change 2 0 2 (Format 5) [])
    ∷ one_item (record_at 3) record3
    ∷ one_item (record_at 4) (encode_change 4 2 2 (Put 0 1) (1 ∷ [])) ∷ one_item (page_at 2) (image 2 2 body3)
    ∷ one_item (slot_at 1) (image 2 2 body1)
    ∷ one_item (slot_at 2) (image 1 1 body1) ∷ one_item (note_at 1) (backup_note 1 2 1 2)
    ∷ one_item (note_at 2) (backup_note 2 1 2 1) ∷ [])

unfoldable pub neighbour_rows : List Row
unfolding opened
neighbour_rows =
    row "neighbours: the heading"
    (let items = log (one_item (page_at 1) (image_under First 1 3 body3) ∷ []) in
    beside (volume_under First items) (volume_under Second items) 1)
    (all_but the_heading ++ (from_own Good 0 ++ from_format Failed 2))
    ∷ row "neighbours: P"
    (beside (with []) (stored_in (empty_volume Second 3 1 4 4) (log (one_item (page_at 3) (1 ∷ replicate 255 0) ∷ []))) 3)
    (all_but the_pages ++ (refused 3 ++ refused 7))
    ∷ row "neighbours: the own image" (beside (with (one_item (page_at 1) (image 1 3 body3) ∷ [])) (with []) 1)
    (all_but the_own_image ++ (from_own Good 0 ++ from_format Failed 2))
    ∷ row "neighbours: the chain"
    (beside (with []) (small_volume (one_item (record_at 1) record1 ∷ one_item (record_at 2) record2 ∷ [])) 1)
    (all_but the_chain ++ (from_format Failed 2 ++ from_format Failed 1))
    ∷ row "neighbours: the last written number"
    (let own = one_item (page_at 1) (image 1 1 body1) in
    beside (with (own ∷ one_item (note_at 1) (written_note 1 1 3) ∷ [])) (with (own ∷ [])) 1)
    (all_but the_written ++ (from_own Stale 1 ++ from_own Behind 1))
    ∷ row "neighbours: the noted backup's number"
    (let slot = one_item (slot_at 1) (image 1 3 body3) in
    beside (with (slot ∷ one_item (note_at 1) (backup_note 1 1 1 3) ∷ []))
    (with (slot ∷ one_item (note_at 1) (backup_note 1 1 1 1) ∷ [])) 1)
    (all_but the_backups_number ++ (from_backup Failed 0 ++ from_format Failed 2))
    ∷ row "neighbours: the noted backup's image"
    (let note = one_item (note_at 1) (backup_note 1 1 1 3) in
    beside (with (note ∷ one_item (slot_at 1) (image 1 3 body3) ∷ []))
    (with (note ∷ one_item (slot_at 1) (broken (image 1 3 body3)) ∷ [])) 1)
    (all_but the_backups_image ++ (from_backup Failed 0 ++ from_format Failed 2))
    ∷ row "neighbours: no backup noted, and another image in slot 1"
    (beside (with (one_item (slot_at 1) (image 1 3 body3) ∷ [])) (with []) 1)
    (all_but the_backups_image ++ (from_format Failed 2 ++ from_format Failed 2))
    ∷ row "neighbours: a record below the newest format: the segment differs, inspection does not"
    (let again = one_item (record_at 2) (encode_change 2 1 1 (Format 5) []) ∷ [] in
    let v = small_volume (one_item (record_at 1) record1 ∷ again) in
    let w = small_volume (one_item (record_at 1) (encode_change 1 0 1 (Format 9) []) ∷ again) in
    bit (same (archive_of v (replicate 136 0)).buffer (archive_of w (replicate 136 0)).buffer) ∷ beside v w 1)
    (no ∷ (all_but the_chain ++ (from_format Failed 1 ++ from_format Failed 1)))
    ∷ row "neighbours: all else differs"
    (beside first_slot second_slot 1)
    (all_hold ++ (from_backup Failed 1 ++ from_backup Failed 1))
    ∷ row "neighbours: the lowest held number may differ"
    (let v = ring_with (5 ∷ 6 ∷ 3 ∷ 4 ∷ []) in
    let w = ring_with (5 ∷ 2 ∷ 3 ∷ 4 ∷ []) in
    lowest_held v ∷ lowest_held w ∷ beside v w 2)
    (3 ∷ 2 ∷ (all_hold ++ (from_backup Failed 0 ++ from_backup Failed 0)))
    ∷ row "neighbours: record 1 has left one log: the archive is 24 there alone"
    (lowest_held turned_log ∷ lowest_held whole_log ∷ (told (size_of turned_log) ++ (told (size_of whole_log)
    ++ (numbers (archive_of turned_log (replicate 200 0)).answer
    ++ (numbers (archive_of whole_log (replicate 200 0)).answer
    ++ beside turned_log whole_log 1)))))
    (2 ∷ 1 ∷ (told (Err 24) ++ (told (Ok 200) ++ (refused 24 ++ (done ++ (all_hold
    ++ (from_format Failed 2 ++ from_format Failed 2)))))))
    ∷ row "neighbours: an empty log holds no number" (lowest_held (empty_volume Second 2 1 4 2) ∷ []) (0 ∷ [])
    ∷ []

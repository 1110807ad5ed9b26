-- Rows on what is read from a volume: the restart rule clause by clause, the index, the classes, and the walk with
-- refusal 19.
use Rattle.std.specs.Prelude.{ℕ, true, false, List, [], ◌∷◌, ◌++◌, map, length, replicate, take, set}
use Rattle.model.specs.Checksum.{seal}
use Rattle.model.specs.Geometry.{slot_at, record_at, note_at, geometry_of, empty_volume}
use Rattle.model.specs.Item.{valid_image, encode_change, note_bytes}
use Rattle.model.specs.Index.{entry_of, slot_used}
use Rattle.model.specs.Scan.{valid_log, valid_notes, index_of}
use Rattle.model.specs.Repair.{class_of, view_of, walk_from, walk_of, start_of, is_broken}
use Rattle.model.specs.Outcome.{StoredItem, one_item}
use Rattle.model.specs.Restart.{restart_of, inspect_of}
use Rattle.model.specs.declared.{change.Change.TheVariants.Put, answer.Start.Start}
use Rattle.model.specs.declared.geometry.Heading.TheVariants.{First, Second}
use Rattle.model.specs.declared.answer.Class.TheVariants.{Good, Behind, Stale, Failed, Ahead}
use Rattle.model.specs.declared.change.Change.TheVariants.{Format}
use Rattle.cases.specs.Rows.{Row, row}
use Rattle.reports.specs.Examine.{class_number, start_number}
use Rattle.cases.specs.Words.{bit, bits, numbers, from_own, from_backup, from_format, refused, yes, no, at_lsn}
use Rattle.cases.specs.Words.{class_no, start_no, entered}
use Rattle.cases.specs.Build.{small, image, broken, written_note, backup_note, stored_in, volume_under, small_volume}
use Rattle.cases.specs.Build.{inspected, memory, entry_numbers}
use Rattle.cases.specs.Table.{record1, record2, record3, whole_under, whole, body1, body3, own, own_fails, at3}
use Rattle.cases.specs.Table.{as_lent}

-- ---- the log

-- whether the log keeps the rule with these bytes for record 3, after the records of a volume
abbrev third_of : List ℕ → List ℕ → ℕ
third_of two r = let v = stored_in two (one_item (record_at 3) r ∷ []) in bit (valid_log (geometry_of v) v)

-- a put of one byte with these numbers

abbrev put : ℕ → ℕ → ℕ → List ℕ
put lsn prev page = encode_change lsn prev page (Put 0 1) (5 ∷ [])

abbrev log_rows : List Row
log_rows =
    let two = small_volume (one_item (record_at 1) record1 ∷ one_item (record_at 2) record2 ∷ []) in
    let third = third_of two in
    row "log: a record that obeys"
    (third (put 3 1 1) ∷ third (encode_change 3 1 1 (Format 4) []) ∷ third (put 3 2 2) ∷ [])
    (yes ∷ yes ∷ yes ∷ [])
    ∷ row "log: another number"
    -- in a ring a higher number is the highest, so the last two alone show the number's own clause
    (third (put 4 1 1) ∷ third (put 2 1 1)
    ∷ map (λ v. bit (valid_log (geometry_of v) v))
    (small_volume (one_item (record_at 1) record1 ∷ one_item (record_at 2) (encode_change 1 0 2 (Format 9) [])
    ∷ one_item (record_at 3) record3 ∷ [])
    ∷ volume_under First (one_item (record_at 1) record1 ∷ one_item (record_at 2) (encode_change 3 0 2 (Format 9) [])
    ∷ []) ∷ []))
    (no ∷ no ∷ no ∷ no ∷ [])
    ∷ row "log: a page out of range"
    (third (encode_change 3 0 3 (Format 4) []) ∷ third (encode_change 3 0 0 (Format 4) []) ∷ [])
    (no ∷ no ∷ [])
    ∷ row "log: another earlier record"
    (third (put 3 2 1) ∷ third (put 3 0 1) ∷ third (encode_change 3 0 1 (Format 4) []) ∷ third (put 3 1 2) ∷ [])
    (no ∷ no ∷ no ∷ no ∷ [])
    ∷ row "log: another layout"
    (third (seal 60 (set record3 15 1)) ∷ third (seal 60 (set record3 59 1))
    ∷ third (seal 60 (set record3 10 4)) ∷ [])
    (no ∷ no ∷ no ∷ [])
    ∷ row "log: a page's first is a format"
    (let v = small_volume (one_item (record_at 1) (put 1 0 1) ∷ []) in bit (valid_log (geometry_of v) v) ∷ [])
    (no ∷ [])
    ∷ row "log: its end"
    (third (broken record3) ∷ third (replicate 64 0)
    ∷ map (λ v. bit (valid_log (geometry_of v) v))
    (small_volume (one_item (record_at 2) (1 ∷ replicate 63 0) ∷ [])
    ∷ whole (one_item (record_at 4) (replicate 63 0 ++ (1 ∷ [])) ∷ []) ∷ []))
    (yes ∷ yes ∷ no ∷ yes ∷ [])
    ∷ row "log: full"
    (let v = whole (one_item (record_at 4) (put 4 3 1) ∷ []) in inspected v 1)
    (from_format Failed 3 ++ at_lsn 4 (5 ∷ 0x41 ∷ 0x42 ∷ 7 ∷ 7 ∷ 7 ∷ []))
    ∷ []

-- ---- the notes

abbrev note_with : ℕ → ℕ → ℕ → ℕ → ℕ → List ℕ
note_with k p kind slot lsn = note_bytes (record { number = k; page = p; kind = kind; slot = slot; lsn = lsn })

-- the items of one or two notes, and whether they keep the rule in a volume
abbrev noted : List (List ℕ) → List StoredItem
noted [] = []
noted (n ∷ []) = one_item (note_at 1) n ∷ []
noted (n ∷ (k ∷ ns)) = one_item (note_at 1) n ∷ one_item (note_at 2) k ∷ []

abbrev notes_keep_in : List ℕ → List (List ℕ) → ℕ
notes_keep_in v ns = let x = stored_in v (noted ns) in bit (valid_notes (geometry_of x) x)

-- the log of K6 with two slots and two notes
abbrev two_slots : List ℕ → List ℕ → List ℕ
two_slots n k =
    stored_in (empty_volume Second 2 2 4 4)
    (one_item (record_at 1) record1 ∷ one_item (record_at 2) record2 ∷ one_item (record_at 3) record3 ∷ one_item (note_at 1) n
    ∷ one_item (note_at 2) k ∷ [])

abbrev note_rows : List Row
note_rows =
    let log = whole [] in
    let notes_keep = notes_keep_in log in
    let holding = stored_in log in
    row "notes: one that obeys"
    (map notes_keep ((written_note 1 1 3 ∷ []) ∷ (written_note 1 2 2 ∷ []) ∷ (backup_note 1 1 1 1 ∷ [])
    ∷ (written_note 1 1 3 ∷ written_note 2 1 3 ∷ []) ∷ []))
    (yes ∷ yes ∷ yes ∷ yes ∷ [])
    ∷ row "notes: layout, number, page"
    -- the number's own clause: in a ring below the highest, and where there is no ring
    (map notes_keep ((note_with 1 1 3 0 3 ∷ []) ∷ (note_with 1 1 1 1 3 ∷ []) ∷ (written_note 2 1 3 ∷ [])
    ∷ (written_note 1 3 3 ∷ []) ∷ (written_note 1 0 3 ∷ []) ∷ (written_note 2 1 1 ∷ written_note 2 1 3 ∷ []) ∷ [])
    ++ (notes_keep_in (whole_under First []) (written_note 1 1 3 ∷ [])
    ∷ notes_keep_in (whole_under First []) (written_note 2 1 3 ∷ []) ∷ []))
    (no ∷ no ∷ no ∷ no ∷ no ∷ no ∷ yes ∷ no ∷ [])
    ∷ row "notes: a durable record of the page"
    (map notes_keep ((written_note 1 1 0 ∷ []) ∷ (written_note 1 1 4 ∷ []) ∷ (written_note 1 1 2 ∷ [])
    ∷ (backup_note 1 2 1 3 ∷ []) ∷ []))
    (no ∷ no ∷ no ∷ no ∷ [])
    ∷ row "notes: not below the last of the kind"
    (map notes_keep
    ((written_note 1 1 3 ∷ written_note 2 1 1 ∷ []) ∷ (backup_note 1 1 1 3 ∷ written_note 2 1 1 ∷ [])
    ∷ (written_note 1 1 3 ∷ backup_note 2 1 1 1 ∷ []) ∷ []))
    (no ∷ yes ∷ yes ∷ [])
    ∷ row "notes: a backup's slot"
    (map notes_keep ((backup_note 1 1 0 1 ∷ []) ∷ (backup_note 1 1 2 1 ∷ [])
    ∷ (backup_note 1 1 1 1 ∷ backup_note 2 2 1 2 ∷ []) ∷ (backup_note 1 1 1 1 ∷ backup_note 2 1 1 3 ∷ [])
    ∷ (backup_note 1 2 1 2 ∷ backup_note 2 1 1 1 ∷ []) ∷ []))
    (no ∷ no ∷ no ∷ no ∷ no ∷ [])
    ∷ row "notes: a backup not below the last"
    (map (λ n. let v = two_slots (backup_note 1 1 1 3) n in
    bit (valid_notes (geometry_of v) v)) (backup_note 2 1 2 1 ∷ backup_note 2 1 2 3 ∷ []))
    (no ∷ yes ∷ [])
    ∷ row "notes: their end"
    (map notes_keep ((broken (written_note 1 1 3) ∷ []) ∷ (broken (written_note 1 1 3) ∷ (1 ∷ replicate 15 0) ∷ []) ∷ []))
    (yes ∷ no ∷ [])
    ∷ row "restart: refused 17, 18, and 1, 2 before them"
    (let bad_log = one_item (record_at 3) (put 4 1 1) in
    let bad_notes = one_item (note_at 1) (written_note 2 1 3) in
    numbers (restart_of (holding (bad_log ∷ bad_notes ∷ [])) (memory 1)).answer
    ++ (numbers (restart_of (holding (bad_notes ∷ [])) (memory 1)).answer
    ++ (numbers (restart_of (holding (bad_log ∷ [])) (memory 17)).answer
    ++ (numbers (restart_of (set (holding (bad_log ∷ [])) 0 0) (memory 0)).answer
    ++ inspected (holding (bad_notes ∷ [])) 1))))
    (refused 17 ++ (refused 18 ++ (refused 2 ++ (refused 1 ++ (refused 18 ++ as_lent)))))
    ∷ row "index: what log and notes give"
    (let v = holding (noted (written_note 1 1 3 ∷ backup_note 2 1 1 1 ∷ [])) in
    let index = index_of (geometry_of v) v in
    length index ∷ (entry_numbers (entry_of index 1)
    ++ (entry_numbers (entry_of index 2)
    ++ (entry_numbers (entry_of index 3) ++ bits (slot_used 1 index ∷ slot_used 2 index ∷ [])))))
    (64 ∷ (entered 3 3 3 1 1 ++ (entered 2 2 0 0 0 ++ (entered 0 0 0 0 0 ++ (yes ∷ no ∷ [])))))
    ∷ []

-- ---- classes and the walk

-- the class of a valid image at n: newest durable 5, last written 3
abbrev class_at : ℕ → ℕ
class_at n = class_number (class_of true n 5 3)

-- whether the walk for page 1 breaks at these bytes for record 3, its own image failing and the index naming 3
abbrev breaks_in : List ℕ → List ℕ → ℕ
breaks_in two r =
    let v = stored_in two (one_item (record_at 3) r ∷ []) in
    let g = geometry_of v in
    bit (is_broken (walk_of g 1 (view_of g v 1
    (record { last = 3; durable = 3; written = 0; slot = 0; backup = 0 }) 1)).stop)

abbrev walk_rows : List Row
walk_rows =
    let two = small_volume (one_item (record_at 1) record1 ∷ one_item (record_at 2) record2 ∷ []) in
    let breaks = breaks_in two in
    let holding = stored_in (whole []) in
    row "class: Good with no durable record, and then no start is Own"
    (class_number (class_of true 0 0 0) ∷ start_number (start_of (walk_from 0 (λ n. []) 1 1 0 0 0).stop) ∷ [])
    (class_no Good ∷ start_no Start.Format ∷ [])
    ∷ row "class: at 2, 3, 4, 5, 6, and failing"
    (class_at 2 ∷ class_at 3 ∷ class_at 4 ∷ class_at 5 ∷ class_at 6 ∷ class_number (class_of false 5 5 3) ∷ [])
    (map class_no (Stale ∷ Behind ∷ Behind ∷ Good ∷ Ahead ∷ Failed ∷ []))
    ∷ row "walk: an image at 0 or off the chain starts nothing"
    (take 4 (inspected (holding (own 0 body1 ∷ [])) 1) ++ take 4 (inspected (holding (own 2 body1 ∷ [])) 1))
    (from_format Behind 2 ++ from_format Behind 2)
    ∷ row "walk: own image before backup"
    (take 4 (inspected (holding (own 3 body3 ∷ one_item (slot_at 1) (image 1 3 body3)
    ∷ one_item (note_at 1) (backup_note 1 1 1 3) ∷ [])) 1))
    (from_own Good 0)
    ∷ row "walk: a backup before an older own image"
    (take 4 (inspected (holding (own 1 body1 ∷ one_item (slot_at 1) (image 1 3 body3)
    ∷ one_item (note_at 1) (backup_note 1 1 1 3) ∷ [])) 1))
    (from_backup Behind 0)
    ∷ row "walk: a backup at another number than noted"
    (inspected (holding (own_fails ∷ one_item (slot_at 1) (image 1 3 body3)
    ∷ one_item (note_at 1) (backup_note 1 1 1 1) ∷ [])) 1)
    (from_format Failed 2 ++ at3)
    ∷ row "walk: another page's image in the slot"
    (take 4 (inspected (holding (own_fails ∷ one_item (slot_at 1) (image 2 3 body3)
    ∷ one_item (note_at 1) (backup_note 1 1 1 3) ∷ [])) 1))
    (from_format Failed 2)
    ∷ row "walk: a backup that is not noted"
    (take 4 (inspected (holding (own_fails ∷ one_item (slot_at 1) (image 1 3 body3) ∷ [])) 1))
    (from_format Failed 2)
    ∷ row "inspect: the check is set"
    (bits (valid_image small 1 (inspect_of (holding (own_fails ∷ [])) 1 (replicate 256 0)).buffer ∷ []))
    (yes ∷ [])
    ∷ row "walk: records that break it"
    (map breaks (record3 ∷ broken record3 ∷ put 4 1 1 ∷ put 3 1 2 ∷ seal 60 (set record3 15 1) ∷ put 3 3 1 ∷ put 3 4 1
    ∷ put 3 0 1 ∷ encode_change 3 3 1 (Format 1) [] ∷ []))
    (no ∷ yes ∷ yes ∷ yes ∷ yes ∷ yes ∷ yes ∷ yes ∷ yes ∷ [])
    ∷ row "walk: a format stops it, whatever it names"
    (map breaks (encode_change 3 2 1 (Format 1) [] ∷ encode_change 3 0 1 (Format 1) [] ∷ []))
    (no ∷ no ∷ [])
    ∷ []

unfoldable pub rule_rows : List Row
rule_rows = log_rows ++ (note_rows ++ walk_rows)

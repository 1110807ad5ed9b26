-- K1 to K12 of document 01, as rows, under each heading. K6 to K12 have K5's counts and the records 1 format page 1,
-- 2 format page 2, 3 put page 1.
use Rattle.std.specs.Prelude.{ℕ, List, [], ◌∷◌, ◌++◌, length, replicate, take}
use Rattle.model.specs.Checksum.{checksum}
use Rattle.model.specs.Geometry.{page_at, slot_at, record_at, note_at, empty_volume, valid_volume}
use Rattle.model.specs.Change.{zero_body, fits, apply_change}
use Rattle.model.specs.Item.{encode_change, valid_image}
use Rattle.model.specs.Outcome.{StoredItem, one_item}
use Rattle.model.specs.Restart.{make_of}
use Rattle.cases.specs.Calls.{change}
use Rattle.model.specs.History.{Machine}
use Rattle.model.specs.declared.{geometry.Heading.Heading, geometry.Heading.TheVariants.Second}
use Rattle.model.specs.declared.change.Change.TheVariants.{Put, Slide}
use Rattle.model.specs.declared.answer.Class.TheVariants.{Good, Behind, Stale, Failed, Ahead}
use Rattle.model.specs.declared.change.Change.TheVariants.{Format}
use Rattle.cases.specs.Rows.{Row, row}
use Rattle.cases.specs.Words.{bit, numbers, from_own, from_backup, from_format, refused, done, yes, no}
use Rattle.cases.specs.Build.{small_under, image_under, broken, written_note, backup_note, volume_under, buffer}
use Rattle.cases.specs.Build.{inspected, reach_under, asked}
use Rattle.cases.specs.Prologues.{page_begun}

-- ---- what K6 to K12 share

abbrev pub record1 : List ℕ
record1 = encode_change 1 0 1 (Format 7) []

abbrev pub record2 : List ℕ
record2 = encode_change 2 0 2 (Format 9) []

abbrev pub record3 : List ℕ
record3 = encode_change 3 1 1 (Put 1 2) (0x41 ∷ 0x42 ∷ [])

-- the volume of K6 to K10, and of K11 and K12, whose record 3 is torn, with more stored
abbrev pub whole_under : Heading → List StoredItem → List ℕ
whole_under h xs =
    volume_under h (one_item (record_at 1) record1 ∷ one_item (record_at 2) record2 ∷ one_item (record_at 3) record3 ∷ xs)

abbrev pub whole : List StoredItem → List ℕ
whole xs = whole_under Second xs

abbrev pub cut_under : Heading → List StoredItem → List ℕ
cut_under h xs =
    volume_under h (one_item (record_at 1) record1 ∷ one_item (record_at 2) record2 ∷ one_item (record_at 3) (broken record3)
    ∷ xs)

-- page 1's body at 1 and at 3, and its image at a number
abbrev pub body1 : List ℕ
body1 = replicate 244 7

abbrev pub body3 : List ℕ
body3 = 7 ∷ 0x41 ∷ 0x42 ∷ replicate 241 7

abbrev pub own_under : Heading → ℕ → List ℕ → StoredItem
own_under h lsn body = one_item (page_at 1) (image_under h 1 lsn body)

abbrev pub own : ℕ → List ℕ → StoredItem
own lsn body = own_under Second lsn body

abbrev pub fails_under : Heading → StoredItem
fails_under h = one_item (page_at 1) (broken (image_under h 1 3 (replicate 244 0xEE)))

abbrev pub own_fails : StoredItem
own_fails = fails_under Second

-- bytes 4 to 13 of the buffer: page 1 at 1, at 3, or as it was lent
abbrev pub at1 : List ℕ
at1 = 1 ∷ 0 ∷ 0 ∷ 0 ∷ take 6 body1

abbrev pub at3 : List ℕ
at3 = 3 ∷ 0 ∷ 0 ∷ 0 ∷ take 6 body3

abbrev pub as_lent : List ℕ
as_lent = take 10 buffer

-- page 1 in a frame
abbrev pub begun_under : Heading → Machine
begun_under h = reach_under h 2 1 4 4 (page_begun 1)

unfoldable pub k_rows : Heading → List Row
k_rows h =
    let begun = begun_under h in
    let v = empty_volume h 2 1 4 4 in
    let whole = whole_under h in
    let cut = cut_under h in
    let own = own_under h in
    let own_fails = fails_under h in
    let image = image_under h in
    row "K1" (checksum (1 ∷ 0 ∷ 2 ∷ 0 ∷ []) ∷ []) (393220 ∷ [])
    ∷ row "K2" (checksum (replicate 252 0) ∷ bit (valid_image (small_under h) 0 (replicate 256 0)) ∷ [])
    (8257537 ∷ no ∷ [])
    ∷ row "K3"
    (take 3 (apply_change (Slide 0 1) (0x41 ∷ []) (apply_change (Slide 0 1) (0x41 ∷ []) zero_body)))
    (0x41 ∷ 0x41 ∷ 0 ∷ [])
    ∷ row "K4 rule" (bit (fits (Put 200 44)) ∷ bit (fits (Put 201 44)) ∷ []) (yes ∷ no ∷ [])
    ∷ row "K4 taken" (asked begun (change 1 (Put 200 44) (replicate 44 1))) done
    ∷ row "K4 refused" (asked begun (change 1 (Put 201 44) (replicate 44 1))) (refused 6)
    ∷ row "K5 taken" (numbers (make_of h (replicate 1108 0) 2 1 4 4).answer) done
    ∷ row "K5 refused" (numbers (make_of h (replicate 1107 0) 2 1 4 4).answer) (refused 1)
    ∷ row "K5 length"
    (length v ∷ bit (valid_volume v) ∷ bit (valid_volume (take 1107 v)) ∷ [])
    (1108 ∷ yes ∷ no ∷ [])
    ∷ row "K6" (inspected (whole (own 1 body1 ∷ [])) 1) (from_own Behind 1 ++ at3)
    ∷ row "K7"
    (inspected (whole (own 1 body1 ∷ one_item (note_at 1) (written_note 1 1 3) ∷ [])) 1)
    (from_own Stale 1 ++ at3)
    ∷ row "K8"
    (inspected (whole (own_fails ∷ one_item (slot_at 1) (image 1 3 body3)
    ∷ one_item (note_at 1) (backup_note 1 1 1 3) ∷ [])) 1)
    (from_backup Failed 0 ++ at3)
    ∷ row "K9" (inspected (whole (own_fails ∷ [])) 1) (from_format Failed 2 ++ at3)
    ∷ row "K10" (inspected (whole (own 4 body3 ∷ [])) 1) (from_format Ahead 2 ++ at3)
    ∷ row "K11" (inspected (cut (own 1 body1 ∷ [])) 1) (from_own Good 0 ++ at1)
    ∷ row "K12"
    (inspected (cut (own 1 body1 ∷ one_item (record_at 4) (1 ∷ replicate 63 0) ∷ [])) 1)
    (refused 17 ++ as_lent)
    ∷ []

-- Rows on the archive (document 02, §6). Page 1 has records 1 (a format), 2 and 3 (puts); page 2 is blank.
use Rattle.std.specs.Prelude.{ℕ, ◌*◌, List, [], ◌∷◌, ◌++◌, map, length, replicate, set, take, drop}
use Rattle.model.specs.Bytes.{part}
use Rattle.model.specs.Checksum.{seal}
use Rattle.model.specs.Geometry.{record_at, note_at}
use Rattle.model.specs.Item.{encode_change}
use Rattle.model.specs.Outcome.{one_item, refusal_of}
use Rattle.model.specs.Restart.{inspect_of}
use Rattle.reports.specs.Archive.{archive_bytes, size_of, size_refusal, archive_length, archive_of, read_of, archive_pages}
use Rattle.model.specs.declared.change.Change.TheVariants.{Put}
use Rattle.model.specs.declared.change.Change.TheVariants.{Format}
use Rattle.cases.specs.Rows.{Row, row}
use Rattle.cases.specs.Opened.{opened}
use Rattle.cases.specs.Words.{bit, numbers, refused, done, yes, accepted, refusal, word, at_lsn}
use Rattle.cases.specs.Build.{broken, written_note, buffer}
use Rattle.cases.specs.Rings.{record_no, reach_ring, turned}
use Rattle.cases.specs.Forecasts.{three, older_tale}

-- the writer's answer for a buffer of n bytes, and the buffer it leaves
abbrev written : List ℕ → ℕ → List ℕ
written v n = (archive_of v (replicate n 0xAA)).buffer

abbrev writes : List ℕ → ℕ → List ℕ
writes v n = numbers (archive_of v (replicate n 0xAA)).answer

-- the reader's answer for an area of n bytes
abbrev reads : List ℕ → ℕ → List ℕ
reads a n = numbers (read_of a (replicate n 0xBB)).answer

-- an archive of one page, of these records
abbrev one_page : List (List ℕ) → List ℕ
one_page rs = archive_bytes (rs ∷ [])

-- the reader's number for it, with an area of one image
abbrev taken : List (List ℕ) → ℕ
taken rs = refusal_of (read_of (one_page rs) (replicate 256 0xBB)).answer

abbrev put : ℕ → ℕ → ℕ → List ℕ
put lsn prev page = encode_change lsn prev page (Put 0 1) (5 ∷ [])

unfoldable pub archive_rows : List Row
unfolding opened
archive_rows =
    row "archive: its bytes"
    (let v = three [] in let a = written v 200 in
    archive_length v ∷ length a ∷ (take 4 a ++ (part a 4 4 ++ (part a 68 4 ++ (part a 132 4 ++ drop 196 a)))))
    (200 ∷ 200 ∷ (word 3 ++ (word 1 ++ (word 2 ++ (word 3 ++ word 0)))))
    ∷ row "archive: read back"
    (let area = (read_of (written (three []) 200) (replicate 512 0xBB)).buffer in
    length area ∷ (part area 0 12 ++ (part area 252 6 ++ part area 508 4)))
    (512 ∷ (word 1 ++ (word 3 ++ (3 ∷ 7 ∷ 7 ∷ 7 ∷ replicate 10 0))))
    ∷ row "archive: after a legal history, as inspection"
    (let v = older_tale.machine.volume in
    let area = (read_of (written v 196) (replicate 256 0xBB)).buffer in
    bit older_tale.ok ∷ (part area 4 6 ++ part (inspect_of v 1 buffer).buffer 4 6))
    (yes ∷ (at_lsn 3 (3 ∷ 7 ∷ []) ++ at_lsn 3 (3 ∷ 7 ∷ [])))
    ∷ row "archive: a buffer of another length"
    (writes (three []) 199 ++ (writes (three []) 201 ++ (writes (three []) 200 ++ take 3 (written (three []) 201))))
    (refused 21 ++ (refused 21 ++ (done ++ (0xAA ∷ 0xAA ∷ 0xAA ∷ []))))
    ∷ row "archive: refused 1, 17, 18, and 24 before 21"
    (let gone = (reach_ring 1 1 2 2 turned).volume in
    let notes = one_item (note_at 1) (written_note 2 1 3) in
    writes (set (three []) 0 0) 200
    ++ (writes (three (one_item (record_at 3) (record_no 2) ∷ notes ∷ [])) 200 ++ (writes (three (notes ∷ [])) 200
    ++ (writes gone 7 ++ (size_refusal (size_of gone) ∷ size_refusal (size_of (three (notes ∷ [])))
    ∷ size_refusal (size_of (three [])) ∷ [])))))
    (refused 1 ++ (refused 17 ++ (refused 18 ++ (refused 24 ++ (refusal 24 ∷ refusal 18 ∷ accepted ∷ [])))))
    ∷ row "archive: areas"
    (let a = one_page [] in
    reads a 0 ++ (reads a 255 ++ (reads a 257 ++ (reads a (65 * 256) ++ (reads a 512 ++ reads a 256)))))
    (refused 2 ++ (refused 2 ++ (refused 2 ++ (refused 2 ++ (refused 22 ++ done)))))
    ∷ row "archive: segments that are taken"
    (map taken ([] ∷ (record_no 1 ∷ []) ∷ (record_no 1 ∷ record_no 2 ∷ [])
    ∷ (encode_change 5 0 1 (Format 1) [] ∷ put 9 5 1 ∷ encode_change 10 9 1 (Format 2) [] ∷ []) ∷ []))
    (accepted ∷ accepted ∷ accepted ∷ accepted ∷ [])
    ∷ row "archive: a wrong check, layout or page"
    (map taken ((broken (record_no 1) ∷ []) ∷ (seal 60 (set (record_no 1) 15 1) ∷ [])
    ∷ (encode_change 1 0 2 (Format 7) [] ∷ []) ∷ (encode_change 1 0 257 (Format 7) [] ∷ []) ∷ []))
    (refusal 22 ∷ refusal 22 ∷ refusal 22 ∷ refusal 22 ∷ [])
    ∷ row "archive: numbers that do not rise from 1"
    (map taken ((encode_change 0 0 1 (Format 7) [] ∷ []) ∷ (encode_change 5 0 1 (Format 7) [] ∷ put 3 5 1 ∷ [])
    ∷ (encode_change 5 0 1 (Format 7) [] ∷ put 5 5 1 ∷ []) ∷ []))
    (refusal 22 ∷ refusal 22 ∷ refusal 22 ∷ [])
    ∷ row "archive: another earlier record, or a first that is no format naming 0"
    (map taken ((record_no 1 ∷ put 3 2 1 ∷ []) ∷ (record_no 1 ∷ encode_change 3 0 1 (Format 1) [] ∷ []) ∷ (put 1 0 1 ∷ [])
    ∷ (put 2 1 1 ∷ []) ∷ (encode_change 2 1 1 (Format 1) [] ∷ []) ∷ []))
    (refusal 22 ∷ refusal 22 ∷ refusal 22 ∷ refusal 22 ∷ refusal 22 ∷ [])
    ∷ row "archive: a wrong length or count"
    (let a = one_page (record_no 1 ∷ []) in
    map (λ x. refusal_of (read_of x (replicate 256 0xBB)).answer)
    (a ∷ take 67 a ∷ (a ++ (0 ∷ [])) ∷ (a ++ (0 ∷ 0 ∷ 0 ∷ 0 ∷ [])) ∷ set a 0 2 ∷ set a 0 0 ∷ set a 3 4 ∷ []
    ∷ (0 ∷ 0 ∷ 0 ∷ []) ∷ [])
    ++ take 2 (read_of (take 67 a) (replicate 256 0xBB)).buffer)
    (accepted ∷ (replicate 8 (refusal 22) ++ (0xBB ∷ 0xBB ∷ [])))
    ∷ row "archive: how many pages"
    (let a = written (three []) 200 in
    map archive_pages (a ∷ (a ++ (0 ∷ [])) ∷ take 199 a ∷ [] ∷ one_page (broken (record_no 1) ∷ []) ∷ replicate 256 0
    ∷ replicate 260 0 ∷ set (one_page (record_no 1 ∷ [])) 0 2 ∷ []))
    (2 ∷ 0 ∷ 0 ∷ 0 ∷ 1 ∷ 64 ∷ 0 ∷ 0 ∷ [])
    ∷ []

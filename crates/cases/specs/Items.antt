-- Rows on the smallest definitions: number fields and parts, the checksum, the volume's geometry, and the layouts
-- of the items.
use Rattle.std.specs.Prelude.{ℕ, Bool, List, [], ◌∷◌, ◌++◌, map, length, replicate, take, drop, set}
use Rattle.model.specs.Bytes.{bytes_of, field, part, splice, all_zero, starts_with, equal_bytes}
use Rattle.model.specs.Checksum.{checksum, with_checksum, seal, sealed, sealed_run, seal_image}
use Rattle.model.specs.Geometry.{page_at, slot_at, record_at, note_at, item_of, start, geometry_of, valid_counts, valid_volume}
use Rattle.model.specs.Geometry.{empty_volume}
use Rattle.model.specs.Item.{valid_image, valid_somewhere, frame_image, record_layout, record_bytes, encode_change}
use Rattle.model.specs.Item.{apply_record, note_layout, note_bytes}
use Rattle.model.specs.Restart.{make_of}
use Rattle.model.specs.declared.geometry.Geometry.{Geometry}
use Rattle.model.specs.declared.change.Change.TheVariants.{Put, Slide}
use Rattle.model.specs.declared.geometry.Heading.TheVariants.{First, Second}
use Rattle.model.specs.declared.change.Change.TheVariants.{Format}
use Rattle.cases.specs.Rows.{Row, row}
use Rattle.cases.specs.Words.{bits, numbers, refused, yes, no, word}
use Rattle.cases.specs.Build.{small, image}

-- ---- bytes and the word sum

abbrev ten : List ℕ
ten = 10 ∷ 11 ∷ 12 ∷ 13 ∷ 14 ∷ 15 ∷ 16 ∷ 17 ∷ 18 ∷ 19 ∷ []

abbrev byte_rows : List Row
byte_rows =
    row "fields: lowest byte first"
    (field 4 1 (9 ∷ 1 ∷ 2 ∷ 3 ∷ 4 ∷ []) ∷ field 2 3 (9 ∷ 1 ∷ 2 ∷ 3 ∷ 4 ∷ 5 ∷ []) ∷ field 4 3 (9 ∷ 9 ∷ 9 ∷ 5 ∷ [])
    ∷ bytes_of 4 0x04030201)
    (0x04030201 ∷ 0x0403 ∷ 5 ∷ 1 ∷ 2 ∷ 3 ∷ 4 ∷ [])
    ∷ row "parts"
    (part ten 3 2 ++ splice ten 3 (1 ∷ 2 ∷ []))
    (13 ∷ 14 ∷ 10 ∷ 11 ∷ 12 ∷ 1 ∷ 2 ∷ 15 ∷ 16 ∷ 17 ∷ 18 ∷ 19 ∷ [])
    ∷ row "tests on bytes"
    (bits
    (all_zero (0 ∷ 0 ∷ []) ∷ all_zero (0 ∷ 1 ∷ []) ∷ starts_with (10 ∷ 11 ∷ []) ten ∷ starts_with (10 ∷ 12 ∷ []) ten
    ∷ starts_with ten (10 ∷ [])
    ∷ equal_bytes ten ten ∷ equal_bytes ten (set ten 9 0) ∷ []))
    (yes ∷ no ∷ yes ∷ no ∷ no ∷ yes ∷ no ∷ [])
    ∷ row "checksum: both sums modulo 65,535"
    (checksum (0xFF ∷ 0xFF ∷ []) ∷ checksum (0 ∷ 0x80 ∷ 0 ∷ 0 ∷ []) ∷ [])
    (0x10001 ∷ 0x38001 ∷ [])
    ∷ row "checksum: behind the bytes" (seal 4 (1 ∷ 0 ∷ 2 ∷ 0 ∷ 9 ∷ [])) (1 ∷ 0 ∷ 2 ∷ 0 ∷ 4 ∷ 0 ∷ 6 ∷ 0 ∷ [])
    ∷ row "checksum: a run ends at the first wrong one"
    (let good = with_checksum (1 ∷ 0 ∷ 2 ∷ 0 ∷ []) in
    let bad = set good 0 2 in
    sealed_run 4 3 (9 ∷ (good ++ (good ++ (bad ++ good)))) 1 ∷ sealed_run 4 1 (good ++ good) 0 ∷ sealed_run 4 2 bad 0 ∷ [])
    (2 ∷ 1 ∷ 0 ∷ [])
    ∷ []

-- ---- geometry

abbrev shape : Geometry → List ℕ
shape g = g.tag ∷ g.pages ∷ g.slots ∷ g.records ∷ g.notes ∷ []

abbrev geometry_rows : List Row
geometry_rows =
    row "counts in range"
    (bits (valid_counts 1 0 1 0 ∷ valid_counts 64 128 1024 1024 ∷ valid_counts 0 0 1 0 ∷ valid_counts 65 0 1 0
    ∷ valid_counts 1 129 1 0 ∷ valid_counts 1 0 0 0
    ∷ valid_counts 1 0 1025 0 ∷ valid_counts 1 0 1 1025 ∷ []))
    (yes ∷ yes ∷ no ∷ no ∷ no ∷ no ∷ no ∷ no ∷ [])
    ∷ row "make"
    (numbers (make_of Second [] 0 1 4 4).answer ++ ((make_of Second (9 ∷ []) 2 1 4 4).volume
    ++ (take 8 (make_of First (replicate 1108 9) 2 1 4 4).volume
    ++ take 8 (make_of Second (replicate 1108 9) 2 1 4 4).volume)))
    (refused 1 ++ (9 ∷ 0x43 ∷ 0x48 ∷ 0x50 ∷ 0x56 ∷ 2 ∷ 0 ∷ 0 ∷ 0 ∷ 0x43 ∷ 0x48 ∷ 0x50 ∷ 0x32 ∷ 2 ∷ 0 ∷ 0 ∷ 0 ∷ []))
    ∷ row "heading"
    (let v = empty_volume Second 2 3 5 7 in
    shape (geometry_of v) ++ (shape (geometry_of (empty_volume First 2 3 5 7))
    ++ bits (valid_volume v ∷ valid_volume (set v 3 0x56) ∷ valid_volume (set v 3 0x57) ∷ valid_volume (set v 3 0x33)
    ∷ valid_volume (set v 2 0x51) ∷ [])))
    (0x32 ∷ 2 ∷ 3 ∷ 5 ∷ 7 ∷ 0x56 ∷ 2 ∷ 3 ∷ 5 ∷ 7 ∷ yes ∷ yes ∷ no ∷ no ∷ no ∷ [])
    ∷ row "places"
    (start small (page_at 2) ∷ start small (slot_at 1) ∷ start small (record_at 2) ∷ start small (note_at 2) ∷ [])
    (264 ∷ 524 ∷ 848 ∷ 1060 ∷ [])
    ∷ row "places: the items of a volume"
    (bits
    (map (item_of small)
    (page_at 0 ∷ page_at 1 ∷ page_at 2 ∷ page_at 3 ∷ slot_at 0 ∷ slot_at 1 ∷ slot_at 2 ∷ record_at 0 ∷ record_at 1 ∷ record_at 4
    ∷ record_at 5 ∷ note_at 0 ∷ note_at 1 ∷ note_at 4 ∷ note_at 5 ∷ [])))
    (no ∷ yes ∷ yes ∷ no ∷ no ∷ yes ∷ no ∷ no ∷ yes ∷ yes ∷ no ∷ no ∷ yes ∷ yes ∷ no ∷ [])
    ∷ []

-- ---- items

-- a sealed record with these numbers: kind, length, offset, fill, then byte 15 and the payload
abbrev odd : ℕ → ℕ → ℕ → ℕ → ℕ → List ℕ → List ℕ
odd kind length offset fill z payload =
    seal 60 (set (record_bytes
    (record { lsn = 3; prev = 1; page = 1; kind = kind; length = length; offset = offset; fill = fill }) payload) 15 z)

-- a note of this kind and slot obeys the layout
abbrev layout : ℕ → ℕ → Bool
layout kind slot = note_layout (record { number = 1; page = 1; kind = kind; slot = slot; lsn = 1 })

abbrev tail : ℕ → List ℕ → List ℕ
tail n xs = xs ++ replicate n 0

abbrev layout_rows : List Row
layout_rows =
    row "image: as a frame holds it"
    (let x = frame_image 0x0102 0x04030201 (replicate 244 9) in length x ∷ (take 9 x ++ drop 251 x))
    (256 ∷ 2 ∷ 1 ∷ 0 ∷ 0 ∷ 1 ∷ 2 ∷ 3 ∷ 4 ∷ 9 ∷ 9 ∷ word 0)
    ∷ row "image: when it passes"
    (let x = image 1 3 (replicate 244 9) in
    bits
    (valid_image small 1 x ∷ valid_image small 2 x ∷ valid_image small 1 (set x 9 8)
    ∷ valid_image small 1 (seal_image small (set x 2 1)) ∷ valid_image small 1 (seal_image small (set x 3 1))
    ∷ valid_somewhere small x ∷ valid_somewhere small (image 3 3 (replicate 244 9))
    ∷ valid_somewhere small (image 0 3 (replicate 244 9)) ∷ []))
    (yes ∷ no ∷ no ∷ no ∷ no ∷ yes ∷ no ∷ no ∷ [])
    ∷ row "record: its bytes" (take 22 (encode_change 0x0605 0x0403 2 (Slide 0x0201 3) (9 ∷ 8 ∷ 7 ∷ 6 ∷ 5 ∷ [])))
    (5 ∷ 6 ∷ 0 ∷ 0 ∷ 3 ∷ 4 ∷ 0 ∷ 0 ∷ 2 ∷ 0 ∷ 3 ∷ 3 ∷ 1 ∷ 2 ∷ 0 ∷ 0 ∷ 9 ∷ 8 ∷ 7 ∷ 0 ∷ 0 ∷ 0 ∷ [])
    ∷ row "record: a format's"
    (let r = encode_change 1 0 1 (Format 9) (7 ∷ []) in length r ∷ (part r 10 7 ++ bits (sealed 60 r ∷ [])))
    (64 ∷ 1 ∷ 0 ∷ 0 ∷ 0 ∷ 9 ∷ 0 ∷ 0 ∷ yes ∷ [])
    ∷ row "record: read back and replayed"
    (let b = 10 ∷ 11 ∷ 12 ∷ replicate 241 7 in
    take 4 (apply_record (encode_change 3 1 1 (Put 1 2) (5 ∷ 6 ∷ [])) b)
    ++ take 4 (apply_record (encode_change 3 1 1 (Slide 1 2) (5 ∷ 6 ∷ [])) b))
    (10 ∷ 5 ∷ 6 ∷ 7 ∷ 10 ∷ 5 ∷ 6 ∷ 11 ∷ [])
    ∷ row "record: its layout"
    (bits
    (record_layout (odd 2 1 0 0 0 (tail 43 (5 ∷ []))) ∷ record_layout (odd 1 0 0 5 0 (tail 44 []))
    ∷ record_layout (odd 4 1 0 0 0 (tail 43 (5 ∷ [])))
    ∷ record_layout (odd 2 1 0 0 1 (tail 43 (5 ∷ []))) ∷ record_layout (odd 2 1 0 0 0 (tail 42 (5 ∷ 5 ∷ [])))
    ∷ record_layout (odd 2 1 0 0 0 (5 ∷ (replicate 42 0 ++ (5 ∷ []))))
    ∷ record_layout (odd 1 0 0 5 0 (tail 43 (5 ∷ []))) ∷ record_layout (odd 3 44 200 0 0 (replicate 44 5))
    ∷ record_layout (odd 3 44 201 0 0 (replicate 44 5)) ∷ []))
    (yes ∷ yes ∷ no ∷ no ∷ no ∷ no ∷ no ∷ yes ∷ no ∷ [])
    ∷ row "note: its bytes"
    (take 12 (note_bytes (record { number = 0x0201; page = 0x0403; kind = 2; slot = 5; lsn = 0x0706 })))
    (1 ∷ 2 ∷ 0 ∷ 0 ∷ 3 ∷ 4 ∷ 2 ∷ 5 ∷ 6 ∷ 7 ∷ 0 ∷ 0 ∷ [])
    ∷ row "note: its layout"
    (bits (layout 1 0 ∷ layout 1 1 ∷ layout 2 1 ∷ layout 2 0 ∷ layout 0 0 ∷ layout 3 0 ∷ []))
    (yes ∷ no ∷ yes ∷ yes ∷ no ∷ no ∷ [])
    ∷ []

unfoldable pub item_rows : List Row
item_rows = byte_rows ++ (geometry_rows ++ layout_rows)

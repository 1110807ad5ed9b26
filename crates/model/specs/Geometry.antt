-- A volume's heading, counts and length, and the place of each item in it. States document 01, "The volume and the
-- memory": the four bytes 43 48 50 56, then each section after its count; P 1 to 64, B 0 to 128, L 1 to 1,024, N 0 to
-- 1,024; the length. And of document 02, §3: "New volumes carry the heading 43 48 50 32"; §4: "Start turns a volume's
-- first heading to 43 48 50 43"; §7: "Number n now goes to slot ((n − 1) modulo L) + 1".
use Rattle.std.specs.Prelude.{ℕ, suc, ◌+◌, ◌-◌, ◌*◌, ◌%◌}
use mathlib.Core.{Bool.Bool, Bool.cond, Bool.◌&&◌, Bool.◌||◌, List.List, List.[], List.◌∷◌, List.◌++◌}
use lib.{Dec.eqb, Dec.leb, ListN.length, ListN.replicate}
use Rattle.model.specs.Tables.{all, within}
use Rattle.model.specs.Bytes.{bytes_of, field, byte_at, part, splice, starts_with}
use Rattle.model.specs.Types.{Geometry, Heading, First, Second}

-- the tag, a heading's last byte: it names the format
abbrev pub tag_of : Heading → ℕ
tag_of First = 0x56
tag_of Second = 0x32

-- the tag of a volume that is being carried over from the first heading to the second; no Make writes it
abbrev pub carry_tag : ℕ
carry_tag = 0x43

-- the magic (document 01: the four bytes that a volume starts with) with a tag, and that of a heading
abbrev pub magic_of : ℕ → List ℕ
magic_of tag = 0x43 ∷ 0x48 ∷ 0x50 ∷ tag ∷ []

abbrev pub magic : Heading → List ℕ
magic h = magic_of (tag_of h)

-- the volume starts with the magic of a tag
abbrev pub headed : ℕ → List ℕ → Bool
headed tag v = starts_with (magic_of tag) v

-- the volume starts with a heading that is known
abbrev pub known_magic : List ℕ → Bool
known_magic v = headed (tag_of First) v || (headed (tag_of Second) v || headed carry_tag v)

-- where the counts of slots, log records and notes stand; that of pages stands at 4
abbrev pub slot_count_at : ℕ → ℕ
slot_count_at p = 8 + 256 * p

abbrev pub record_count_at : ℕ → ℕ → ℕ
record_count_at p b = 12 + 256 * p + 256 * b

abbrev pub note_count_at : ℕ → ℕ → ℕ → ℕ
note_count_at p b l = 16 + 256 * p + 256 * b + 64 * l

-- the length of a volume with these counts
abbrev pub length_for : ℕ → ℕ → ℕ → ℕ → ℕ
length_for p b l n = 20 + 256 * p + 256 * b + 64 * l + 16 * n

abbrev pub pages_of : List ℕ → ℕ
pages_of v = field 4 4 v

abbrev pub slots_of : List ℕ → ℕ
slots_of v = field 4 (slot_count_at (pages_of v)) v

abbrev pub records_of : List ℕ → ℕ
records_of v = field 4 (record_count_at (pages_of v) (slots_of v)) v

abbrev pub notes_of : List ℕ → ℕ
notes_of v = field 4 (note_count_at (pages_of v) (slots_of v) (records_of v)) v

-- what a volume's heading says; where the volume is not valid the numbers mean nothing
unfoldable pub geometry_of : List ℕ → Geometry
geometry_of v =
    record { tag = byte_at v 3; pages = pages_of v; slots = slots_of v; records = records_of v; notes = notes_of v }

-- the same counts under another tag
abbrev pub with_tag : Geometry → ℕ → Geometry
with_tag g tag = record { tag = tag; pages = g.pages; slots = g.slots; records = g.records; notes = g.notes }

-- the counts that a volume may have
unfoldable pub valid_counts : ℕ → ℕ → ℕ → ℕ → Bool
valid_counts p b l n = all (within 64 p ∷ leb b 128 ∷ within 1024 l ∷ leb n 1024 ∷ [])

-- heading, counts and length are right (refusal 1 is that they are not)
unfoldable pub valid_volume : List ℕ → Bool
valid_volume v =
    all
    (known_magic v ∷ valid_counts (pages_of v) (slots_of v) (records_of v) (notes_of v)
    ∷ eqb (length v) (length_for (pages_of v) (slots_of v) (records_of v) (notes_of v)) ∷ [])

-- a fresh volume: headings and zeros
unfoldable pub empty_volume : Heading → ℕ → ℕ → ℕ → ℕ → List ℕ
empty_volume h p b l n =
    magic h ++ (bytes_of 4 p ++ (replicate (256 * p) 0 ++ (bytes_of 4 b ++ (replicate (256 * b) 0
    ++ (bytes_of 4 l ++ (replicate (64 * l) 0 ++ (bytes_of 4 n ++ replicate (16 * n) 0)))))))

-- An item of a volume: a page's image, a backup slot's image, a log slot or a note slot, each counted from 1.
pub data Place : Type 0 where
  page_at : ℕ → Place
  slot_at : ℕ → Place
  record_at : ℕ → Place
  note_at : ℕ → Place

abbrev pub width : Place → ℕ
width (page_at i) = 256
width (slot_at i) = 256
width (record_at i) = 64
width (note_at i) = 16

-- the place is an item of a volume of this geometry: page 1 to P, slot 1 to B, log slot 1 to L or note slot 1 to N
abbrev pub item_of : Geometry → Place → Bool
item_of g (page_at i) = within g.pages i
item_of g (slot_at i) = within g.slots i
item_of g (record_at i) = within g.records i
item_of g (note_at i) = within g.notes i

-- where an item starts
abbrev pub start : Geometry → Place → ℕ
start g (page_at i) = 8 + 256 * (i - 1)
start g (slot_at i) = 12 + 256 * g.pages + 256 * (i - 1)
start g (record_at i) = 16 + 256 * g.pages + 256 * g.slots + 64 * (i - 1)
start g (note_at i) = 20 + 256 * g.pages + 256 * g.slots + 64 * g.records + 16 * (i - 1)

-- an item's bytes, and a volume with an item stored
unfoldable pub item : Geometry → List ℕ → Place → List ℕ
item g v at = part v (start g at) (width at)

unfoldable pub store : Geometry → List ℕ → Place → List ℕ → List ℕ
store g v at xs = splice v (start g at) xs

-- a volume with a heading stored: four bytes, in front
unfoldable pub store_heading : List ℕ → ℕ → List ℕ
store_heading v tag = splice v 0 (magic_of tag)

-- ---- rings

-- the log and the notes are rings: the second heading and at least two log slots; not while a volume is being carried
-- over
abbrev pub ring : Geometry → Bool
ring g = eqb g.tag (tag_of Second) && leb 2 g.records

-- the last number that a record, and a note, may have
abbrev pub top_number : ℕ
top_number = 4294967295

abbrev pub most : Geometry → ℕ
most g = cond (ring g) top_number g.records

abbrev pub most_notes : Geometry → ℕ
most_notes g = cond (ring g) top_number g.notes

-- "slot ((n − 1) modulo L) + 1": numbers at most L stay where they are
abbrev pub slot_of : ℕ → ℕ → ℕ
slot_of l n = suc ((n - 1) % l)

-- the slots that log record n and note n go to
abbrev pub log_slot : Geometry → ℕ → Place
log_slot g n = record_at (slot_of g.records n)

abbrev pub note_slot : Geometry → ℕ → Place
note_slot g n = note_at (slot_of g.notes n)

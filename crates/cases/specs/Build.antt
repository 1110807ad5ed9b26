-- What the worked cases are made of: volumes built by `model`'s own encoders, machines reached by events.
use Rattle.std.specs.Prelude.{ℕ, ◌+◌, ◌*◌, List, [], ◌∷◌, ◌++◌, map, replicate, set}
use Rattle.model.specs.Bytes.{part}
use Rattle.model.specs.Checksum.{seal_image}
use Rattle.model.specs.Geometry.{Place, tag_of, empty_volume, length_for}
use Rattle.model.specs.Item.{frame_image, note_bytes}
use Rattle.model.specs.Outcome.{StoredItem, volume_after}
use Rattle.model.specs.Calls.{Call, outcome_of}
use Rattle.model.specs.Restart.{inspect_of}
use Rattle.model.specs.History.{Power, off, on, Machine, Event, damage, allowed, fresh_machine, run}
use Rattle.model.specs.declared.{geometry.Geometry.Geometry, geometry.Heading.Heading}
use Rattle.model.specs.declared.{geometry.Heading.TheVariants.Second, state.Entry.Entry}
use Rattle.cases.specs.Words.{bits, numbers}

abbrev pub entry_numbers : Entry → List ℕ
entry_numbers e = e.last ∷ e.durable ∷ e.written ∷ e.slot ∷ e.backup ∷ []

-- ---- items and volumes, under a heading; where none is said it is the second, which Make writes

-- K5's counts
abbrev pub small_under : Heading → Geometry
small_under h = record { tag = tag_of h; pages = 2; slots = 1; records = 4; notes = 4 }

abbrev pub small : Geometry
small = small_under Second

-- an image of page p at a number, check set
abbrev pub image_under : Heading → ℕ → ℕ → List ℕ → List ℕ
image_under h p lsn body = seal_image (small_under h) (frame_image p lsn body)

abbrev pub image : ℕ → ℕ → List ℕ → List ℕ
image p lsn body = image_under Second p lsn body

-- an item torn: one byte of it is another, so that its check is wrong
abbrev pub broken : List ℕ → List ℕ
broken xs = set xs 3 0xEE

abbrev pub written_note : ℕ → ℕ → ℕ → List ℕ
written_note k p lsn = note_bytes (record { number = k; page = p; kind = 1; slot = 0; lsn = lsn })

abbrev pub backup_note : ℕ → ℕ → ℕ → ℕ → List ℕ
backup_note k p slot lsn = note_bytes (record { number = k; page = p; kind = 2; slot = slot; lsn = lsn })

-- a volume with items stored
abbrev pub stored_in : List ℕ → List StoredItem → List ℕ
stored_in v [] = v
stored_in v (x ∷ xs) = stored_in (volume_after v x) xs

abbrev pub volume_under : Heading → List StoredItem → List ℕ
volume_under h xs = stored_in (empty_volume h 2 1 4 4) xs

abbrev pub small_volume : List StoredItem → List ℕ
small_volume xs = volume_under Second xs

-- ---- inspection

abbrev pub buffer : List ℕ
buffer = replicate 256 0xAA

-- the answer, then bytes 4 to 13 of the buffer: the page lsn and the first of the body
abbrev pub inspected : List ℕ → ℕ → List ℕ
inspected v p = let i = inspect_of v p buffer in numbers i.answer ++ part i.buffer 4 10

-- ---- machines

abbrev pub memory : ℕ → List ℕ
memory frames = replicate (1024 + 256 * frames) 0xCC

-- the machine that events reach after Make with these counts
abbrev pub reach_under : Heading → ℕ → ℕ → ℕ → ℕ → List Event → Machine
reach_under h p b l n es = run (fresh_machine h (replicate (length_for p b l n) 0xDD) p b l n) es

abbrev pub reach : ℕ → ℕ → ℕ → ℕ → List Event → Machine
reach p b l n es = reach_under Second p b l n es

abbrev pub memory_in : Power → List ℕ
memory_in off = []
memory_in (on m s) = m

-- which of some events may come, and one item damaged in several ways
abbrev pub may : Machine → List Event → List ℕ
may w es = bits (map (allowed w) es)

abbrev pub hits : Place → List (List ℕ) → List Event
hits at xss = map (damage at) xss

-- what a call answers then; in a machine that is off there is no call
abbrev pub asked_in : Power → List ℕ → Call → List ℕ
asked_in off v c = []
asked_in (on m s) v c = numbers (outcome_of c v m s).answer

abbrev pub asked : Machine → Call → List ℕ
asked w c = asked_in w.power w.volume c

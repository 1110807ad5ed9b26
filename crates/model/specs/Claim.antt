-- Demands 2 and 3 as types. States the last two paragraphs of document 01, "What is kept". The values of these types
-- are proved in the crate `history`. The paragraph on demand 3 is in two types: its sentence on one history is
-- `Demand2.inspects`, its sentence on two histories is `Demand3`. "Inspect changes no volume" is seen in
-- `Restart.Inspected`, which holds an answer and a buffer.
use Rattle.std.specs.Prelude.{ℕ, ◌≤◌}
use mathlib.Core.{Path.◌≡◌, Logic.◌≢◌, Logic.◌⊎◌, Logic.◌↔◌, Bool.Bool, Bool.true, Bool.◌&&◌, Bool.◌||◌, List.List}
use mathlib.Core.{List.◌++◌}
use lib.{ListN.length, Dec.eqb, Dec.leb}
use Rattle.model.specs.Bytes.{bytes_of, part}
use Rattle.model.specs.Geometry.{geometry_of, page_at, slot_at, item}
use Rattle.model.specs.Item.{image_lsn, valid_image, frame_image}
use Rattle.model.specs.{Index.entry_of, State.frame_bytes, Outcome.refusal_of, Calls.load_of}
use Rattle.model.specs.Scan.{index_of, gone}
use Rattle.model.specs.Types.{Geometry, Entry, Heading, State}
use Rattle.model.specs.Restart.{make_of, inspect_of}
use Rattle.model.specs.AbstractLog.{Logged, AbstractLog, empty_log, replay, last_place}
use Rattle.model.specs.History.{on, Machine, Event, fresh_machine, all_allowed, run, log_after}

-- A whole history: what Make was given, and the events after it. "A history may still begin with the Make of the first
-- heading."
pub record History : Type 0 where
  pub heading : Heading
  pub found : List ℕ
  pub pages : ℕ
  pub slots : ℕ
  pub records : ℕ
  pub notes : ℕ
  pub events : List Event

abbrev pub fresh : History → Machine
fresh h = fresh_machine h.heading h.found h.pages h.slots h.records h.notes

-- "one Make, not refused, then a list of" events, each of them allowed
pub record Legal (h : History) : Type 0 where
  pub make : refusal_of (make_of h.heading h.found h.pages h.slots h.records h.notes).answer ≡ 0
  pub events : all_allowed (fresh h) h.events ≡ true

-- the machine that a history leaves, and the abstract log beside it
unfoldable pub reached : History → Machine
reached h = run (fresh h) h.events

unfoldable pub log_of : History → AbstractLog
log_of h = log_after (fresh h) empty_log h.events

-- the durable changes (document 01: kept)
abbrev pub durable_of : History → List Logged
durable_of h = (log_of h).durable

-- ---- the proviso

-- page p's start is there: no backup is noted, or the slot's image is valid as p's with the noted number, or the own
-- image is with a number at or above it
abbrev pub start_stands : Geometry → List ℕ → Entry → ℕ → Bool
start_stands g v e p =
    eqb e.slot 0
    || ((valid_image g p (item g v (slot_at e.slot)) && eqb (image_lsn (item g v (slot_at e.slot))) e.backup)
    || (valid_image g p (item g v (page_at p)) && leb e.backup (image_lsn (item g v (page_at p)))))

-- record 1 has left the log of the volume that a history leaves
abbrev pub Gone : History → Type 0
Gone h = gone (geometry_of (reached h).volume) (reached h).volume ≡ true

abbrev pub Proviso : History → ℕ → Type 0
Proviso h p =
    let v = (reached h).volume in
    let g = geometry_of v in
    start_stands g v (entry_of (index_of g v) p) p ≡ true

abbrev pub Safe : History → Type 0
Safe h = Gone h → (p : ℕ) → 1 ≤ p → p ≤ h.pages → Proviso h p

-- ---- what inspection shows

abbrev pub inspection : History → ℕ → List ℕ → ℕ
inspection h p buffer = refusal_of (inspect_of (reached h).volume p buffer).answer

-- "bytes 4 to 251 of the buffer": number and body
abbrev pub shown : History → ℕ → List ℕ → List ℕ
shown h p buffer = part (inspect_of (reached h).volume p buffer).buffer 4 248

-- it is not refused, and "bytes 4 to 251 of the buffer are the replay's number and body"
abbrev pub ShowsReplay : History → ℕ → List ℕ → Type 0
ShowsReplay h p buffer =
    (inspection h p buffer ≡ 0) × (shown h p buffer ≡ bytes_of 4 (last_place p (durable_of h)) ++ replay p (durable_of h))

-- "For a page 1 to P and a buffer of 256 bytes it answers 7 exactly if the page is blank; otherwise it isn't refused",
-- or 23 where record 1 has left and the proviso fails
pub record Inspects (h : History) (p : ℕ) (buffer : List ℕ) : Type 0 where
  pub blank : (inspection h p buffer ≡ 7) ↔ (last_place p (durable_of h) ≡ 0)
  pub durable : last_place p (durable_of h) ≢ 0 → ShowsReplay h p buffer ⊎ (inspection h p buffer ≡ 23)
  pub granted : last_place p (durable_of h) ≢ 0 → (Gone h → Proviso h p) → ShowsReplay h p buffer
  pub below : inspection h p buffer ≡ 23 → Gone h × (Proviso h p → ⊥)

-- demand 2 of a Load in a machine that a history reaches: it is never refused 19, and where it is not refused the page
-- has a durable change and the frame holds exactly the replay of its changes, durable and pending, check bytes zero
pub record Loads (h : History) (m : List ℕ) (s : State) (p f : ℕ) : Type 0 where
  pub unbroken : refusal_of (load_of (reached h).volume m s p f).answer ≢ 19
  pub loaded : refusal_of (load_of (reached h).volume m s p f).answer ≡ 0
      → (last_place p (durable_of h) ≢ 0)
      × (frame_bytes (load_of (reached h).volume m s p f).memory f
      ≡ frame_image p (last_place p (durable_of h)) (replay p (durable_of h)))
      × (last_place p (durable_of h ++ (log_of h).pending) ≡ last_place p (durable_of h))
      × (replay p (durable_of h ++ (log_of h).pending) ≡ replay p (durable_of h))
  pub below : refusal_of (load_of (reached h).volume m s p f).answer ≡ 23 → Gone h × (Proviso h p → ⊥)

-- ---- two histories

-- "all pages 1 to P agree in those bytes or give 7 in both", each with a buffer of its own
abbrev pub Agree : History → History → List ℕ → List ℕ → ℕ → Type 0
Agree h k x y p =
    ((inspection h p x ≡ 7) × (inspection k p y ≡ 7))
    ⊎ ((inspection h p x ≡ 0) × (inspection k p y ≡ 0) × (shown h p x ≡ shown k p y))

-- a list is a beginning of another
abbrev pub Begins : List Logged → List Logged → Type 0
Begins k l = (r : List Logged) × (k ++ r ≡ l)

-- "If both kept lists, pages included, are beginnings of one list, then all pages 1 to P agree in those bytes or give 7
-- in both, exactly when the kept lists are equally long"
abbrev pub Alike : History → History → Type 0
Alike h k =
    (l : List Logged) → Begins (durable_of h) l → Begins (durable_of k) l
    → (x y : List ℕ) → length x ≡ 256 → length y ≡ 256
    → ((p : ℕ) → 1 ≤ p → p ≤ h.pages → Agree h k x y p) ↔ (length (durable_of h) ≡ length (durable_of k))

-- ---- the claims

pub record Demand2 : Type 0 where
  -- demand 3's sentence on one history; that on two histories is `Demand3`
  pub inspects : (h : History) → Legal h → (p : ℕ) → 1 ≤ p → p ≤ h.pages
      → (buffer : List ℕ) → length buffer ≡ 256 → Inspects h p buffer
  pub loads : (h : History) → Legal h → (m : List ℕ) (s : State) → (reached h).power ≡ on m s
      → (p f : ℕ) → Loads h m s p f

-- The headings, the counts of slots, log records and notes, the memories and the buffers may differ. What each history's
-- inspection shows by itself stands in `Demand2.inspects`.
abbrev pub Demand3 : Type 0
Demand3 = (h k : History) → Legal h → Legal k → h.pages ≡ k.pages → Safe h → Safe k → Alike h k

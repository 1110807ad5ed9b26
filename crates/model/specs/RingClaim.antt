-- What every legal history keeps of its two rings, and what follows of 23 and of demand 3. States document 02, §7: "A
-- record is spare once its page's noted backup is at or above it; a note is spare once a later whole one of its kind
-- exists for the page", and that nothing but spare items is overwritten. On a volume that is no ring nothing is.
use Rattle.std.specs.Prelude.{ℕ, ◌+◌, ◌-◌, ◌≤◌, ◌<◌, length, take}
use mathlib.Core.{Path.◌≡◌, Logic.◌≢◌, Logic.◌↔◌, Bool.Bool, Bool.true, Bool.false, Bool.◌&&◌, Bool.not, List.List}
use mathlib.Core.{List.[], List.◌∷◌, List.◌++◌}
use Rattle.model.specs.{Checksum.sealed, Index.entry_of, State.note_whole}
use Rattle.model.specs.Geometry.{page_at, slot_at, record_at, note_at, geometry_of, item, ring, slot_of}
use Rattle.model.specs.Item.{image_lsn, valid_image, record_of, is_format, note_of}
use Rattle.model.specs.Scan.{log_record, durable_count, first_held, note_record, note_count, index_of}
use Rattle.model.specs.Outcome.{one_item, refusal_of}
use Rattle.model.specs.Calls.{Call, outcome_of, load_of}
use Rattle.model.specs.AbstractLog.{Logged, last_place, Left, old, new, torn}
use Rattle.model.specs.History.{on, Event, restart, perform, crash, crash_in, damage, is_restamp}
use Rattle.model.specs.Claim.{History, Legal, reached, log_of, durable_of, Safe, inspection, Alike}
use Rattle.model.specs.Types.{Note, State}

-- ---- spare items

-- change n of the list, counted from 1, is page p's
pub record ChangeOf (l : List Logged) (n p : ℕ) : Type 0 where
  pub low : 1 ≤ n
  pub high : n ≤ length l
  pub last : last_place p (take n l) ≡ n

-- "A record is spare once its page's noted backup is at or above it": record n of page p
pub record SpareRecord (v : List ℕ) (p n : ℕ) : Type 0 where
  pub noted : (entry_of (index_of (geometry_of v) v) p).slot ≢ 0
  pub above : n ≤ (entry_of (index_of (geometry_of v) v) p).backup

-- "a note is spare once a later whole one of its kind exists for the page": note x, where slot i is stored next
pub record SpareNote (v : List ℕ) (i : ℕ) (x : Note) : Type 0 where
  pub later : ℕ
  pub above : x.number < later
  pub below : later ≤ note_count (geometry_of v) v
  pub whole : note_whole (geometry_of v) v later ≡ true
  pub elsewhere : slot_of (geometry_of v).notes later ≢ i
  pub page : (note_record (geometry_of v) v later).page ≡ x.page
  pub kind : (note_record (geometry_of v) v later).kind ≡ x.kind

-- what a call's store is to overwrite in log slot i, or in note slot i, is not whole, or spare
abbrev pub RecordFree : List ℕ → ℕ → Type 0
RecordFree v i =
    let r = item (geometry_of v) v (record_at i) in
    sealed 60 r ≡ true → SpareRecord v (record_of r).page (record_of r).lsn

abbrev pub NoteFree : List ℕ → ℕ → Type 0
NoteFree v i = let x = item (geometry_of v) v (note_at i) in sealed 12 x ≡ true → SpareNote v i (note_of x)

-- ---- 23

-- the number that the run of a volume's log starts at
abbrev pub run_start : List ℕ → ℕ
run_start v = first_held (geometry_of v) v (durable_count (geometry_of v) v)

-- Page p cannot be rebuilt: change n is its last below the run; its noted backup does not stand with its number; its own
-- image does not stand at n or above; and the run holds no format of it.
pub record Unrepairable (h : History) (p n : ℕ) : Type 0 where
  pub some : 1 ≤ n
  pub lost : last_place p (take (run_start (reached h).volume - 1) (durable_of h)) ≡ n
  pub copy :
      let v = (reached h).volume in
      let g = geometry_of v in
      let e = entry_of (index_of g v) p in
      e.slot ≢ 0 → valid_image g p (item g v (slot_at e.slot)) ≡ true
      → image_lsn (item g v (slot_at e.slot)) ≢ e.backup
  pub own :
      let v = (reached h).volume in
      let g = geometry_of v in
      valid_image g p (item g v (page_at p)) ≡ true → image_lsn (item g v (page_at p)) < n
  pub format :
      let v = (reached h).volume in
      let g = geometry_of v in
      (i : ℕ) → run_start v ≤ i → i ≤ durable_count g v → (log_record g v i).page ≡ p
      → is_format (log_record g v i) ≡ false

-- ---- histories without damage

abbrev pub is_torn : Left → Bool
is_torn old = false
is_torn new = false
is_torn (torn xs) = true

-- an event that spoils no noted backup: no damage, and no Restamp that a crash leaves torn (no other call stores in a
-- slot that the index names)
abbrev pub harmless : Event → Bool
harmless (restart m) = true
harmless (perform c) = true
harmless crash = true
harmless (crash_in c l) = not (is_restamp c && is_torn l)
harmless (damage at xs) = false

abbrev pub undamaged : List Event → Bool
undamaged [] = true
undamaged (e ∷ es) = harmless e && undamaged es

-- ---- the claim

pub record RingClaim : Type 0 where
  -- every record below the run is spare
  pub lost : (h : History) → Legal h → (n p : ℕ) → ChangeOf (durable_of h) n p → n < run_start (reached h).volume
      → SpareRecord (reached h).volume p n
  -- every record that a pending one will displace is durable and spare
  pub displaced : (h : History) → Legal h → (m : List ℕ) (s : State) → (reached h).power ≡ on m s
      → (n p : ℕ) → ChangeOf (durable_of h ++ (log_of h).pending) n p
      → n + h.records ≤ length (durable_of h ++ (log_of h).pending)
      → (n ≤ length (durable_of h)) × SpareRecord (reached h).volume p n
  -- whatever call stores in a log slot or a note slot, whole or cut: what was whole there was spare. So every note that
  -- was whole and was overwritten had a later one of its page and kind
  pub records : (h : History) → Legal h → (m : List ℕ) (s : State) → (reached h).power ≡ on m s
      → (c : Call) (i : ℕ) (xs : List ℕ) → (outcome_of c (reached h).volume m s).stored ≡ one_item (record_at i) xs
      → RecordFree (reached h).volume i
  pub notes : (h : History) → Legal h → (m : List ℕ) (s : State) → (reached h).power ≡ on m s
      → (c : Call) (i : ℕ) (xs : List ℕ) → (outcome_of c (reached h).volume m s).stored ≡ one_item (note_at i) xs
      → NoteFree (reached h).volume i
  -- 23 exactly: of an inspection that has its page and buffer in range, and of a Load that no other row refuses
  pub inspects : (h : History) → Legal h → (p : ℕ) → 1 ≤ p → p ≤ h.pages → (buffer : List ℕ) → length buffer ≡ 256
      → (inspection h p buffer ≡ 23) ↔ ((n : ℕ) × Unrepairable h p n)
  pub loads : (h : History) → Legal h → (m : List ℕ) (s : State) → (reached h).power ≡ on m s → (p f : ℕ)
      → (refusal_of (load_of (reached h).volume m s p f).answer ≡ 23 → (n : ℕ) × Unrepairable h p n)
      × ((n : ℕ) → Unrepairable h p n → refusal_of (load_of (reached h).volume m s p f).answer ≢ 0)
  -- the proviso of demand 3 holds by itself where the volume is no ring, and where nothing was damaged and no Restamp
  -- left torn; so there demand 3 is as document 01 has it
  pub plain : (h : History) → Legal h → ring (geometry_of (reached h).volume) ≡ false → Safe h
  pub safe : (h : History) → Legal h → undamaged h.events ≡ true → Safe h
  pub demand3 : (h k : History) → Legal h → Legal k → h.pages ≡ k.pages
      → undamaged h.events ≡ true → undamaged k.events ≡ true → Alike h k

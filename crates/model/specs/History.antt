-- Histories: the machine, its events and its steps, and which events may come. States document 01's paragraphs "For 2
-- and 3 they have a history" and "A cut falls between calls or within one", and the damage that demand 3 speaks of. And
-- of document 02, §4, what carrying a volume over adds: "A heading store is whole or absent at a cut; a torn image
-- fails both sums, and one damaged before or during the carrying passes under neither, unless it was stored earlier in
-- its place."
use Rattle.std.specs.Prelude.{ℕ, suc, Bool, true, false, cond, ◌&&◌, ◌||◌, not, List, [], ◌∷◌}
use lib.{Dec.eqb, ListN.length}
use Rattle.model.specs.Tables.{all, every, first_of}
use Rattle.model.specs.{Bytes.equal_bytes, Item.is_written, Index.entry_row, Scan.index_of}
use Rattle.model.specs.Checksum.{sealed, image_sealed}
use Rattle.model.specs.Geometry.{Place, page_at, slot_at, record_at, note_at, width, geometry_of, item, store}
use Rattle.model.specs.Passes.{passes_at, is_image, only_new}
use Rattle.model.specs.Refusals.{restart_rows, start_carry_rows}
use Rattle.model.specs.Outcome.{StoredItem, nothing, one_item, new_heading, volume_after}
use Rattle.model.specs.Calls.{Call, rows_of, outcome_of, is_call}
use Rattle.model.specs.Restart.{restart_of, make_of}
use Rattle.model.specs.AbstractLog.{AbstractLog, Left, old, new, torn, left_new, forget, step_call, step_cut}
use Rattle.model.specs.Types.{Geometry, Heading, PendingNote, None, Some, State}

-- Memory and state live only while the power is on (document 01: after Make, a cut or a refused Restart there are
-- none).
pub data Power : Type 0 where
  off : Power
  on : List ℕ → State → Power

-- The machine: its volume, its power, and, for the claim only, every item that calls stored, the newest first. Damage
-- adds nothing to it.
pub record Machine : Type 0 where
  pub volume : List ℕ
  pub power : Power
  pub past : List StoredItem

-- An event: a Restart with the memory lent (where the power is on it gets the memory as it is); a call; a crash
-- (document 01: a cut) between calls or within one, with what it left of the item; damage to a page's or a slot's
-- image.
pub data Event : Type 0 where
  restart : List ℕ → Event
  perform : Call → Event
  crash : Event
  crash_in : Call → Left → Event
  damage : Place → List ℕ → Event

-- ---- what counts as stored

-- a place as two numbers: its kind, and its number among its kind
abbrev pub place_numbers : Place → ℕ × ℕ
place_numbers (page_at i) = (0, i)
place_numbers (slot_at i) = (1, i)
place_numbers (record_at i) = (2, i)
place_numbers (note_at i) = (3, i)

abbrev pub equal_place : Place → Place → Bool
equal_place a b =
    eqb (place_numbers a).0 (place_numbers b).0 && eqb (place_numbers a).1 (place_numbers b).1

-- these bytes were stored in that place by a call
unfoldable pub stored_before : Place → List ℕ → List StoredItem → Bool
stored_before at xs [] = false
stored_before at xs (nothing ∷ past) = stored_before at xs past
stored_before at xs (new_heading tag ∷ past) = stored_before at xs past
stored_before at xs (one_item at' ys ∷ past) = (equal_place at at' && equal_bytes xs ys) || stored_before at xs past

-- a restamped image counts as stored in its place exactly if the image that it restamps does: otherwise a forgery that
-- passes in a slot outside the index would be stored by its restamp, and might be returned where the slot is noted
abbrev pub restamp_counts : List ℕ → StoredItem → List StoredItem → Bool
restamp_counts v nothing past = true
restamp_counts v (one_item at xs) past = stored_before at (item (geometry_of v) v at) past
restamp_counts v (new_heading tag) past = true

abbrev pub is_restamp : Call → Bool
is_restamp c = is_call 19 c

-- what calls stored, once the call has stored x in volume v
abbrev pub past_after : Call → List ℕ → StoredItem → List StoredItem → List StoredItem
past_after c v x past = cond (not (is_restamp c) || restamp_counts v x past) (x ∷ past) past

-- ---- the machine's step

abbrev pub lent : Power → List ℕ → List ℕ
lent off m = m
lent (on m' s) m = m'

-- "no call that takes the state comes before a Restart that isn't refused": a refused one leaves the power off
abbrev pub restarted : List ℕ → List ℕ → Power
restarted v m = cond (eqb (first_of (restart_rows v m)) 0) (on (restart_of v m).memory (restart_of v m).state) off

-- a call in a machine that is off is not allowed, and changes nothing
abbrev pub call_in : Power → List ℕ → Call → List StoredItem → Machine
call_in off v c past = record { volume = v; power = off; past = past }
call_in (on m s) v c past =
    let o = outcome_of c v m s in
    record {
      volume = volume_after v o.stored;
      power = on o.memory o.state;
      past = past_after c v o.stored past;
    }

-- the volume after a crash that left the item so
abbrev pub left_volume : List ℕ → StoredItem → Left → List ℕ
left_volume v x old = v
left_volume v x new = volume_after v x
left_volume v nothing (torn xs) = v
left_volume v (one_item at _) (torn xs) = volume_after v (one_item at xs)
left_volume v (new_heading tag) (torn xs) = v

-- "new (it counts as stored)"
abbrev pub left_past : Call → List ℕ → StoredItem → Left → List StoredItem → List StoredItem
left_past c v x old past = past
left_past c v x new past = past_after c v x past
left_past c v x (torn xs) past = past

abbrev pub crashed_in : Power → List ℕ → Call → Left → List StoredItem → Machine
crashed_in off v c l past = record { volume = v; power = off; past = past }
crashed_in (on m s) v c l past =
    let x = (outcome_of c v m s).stored in
    record { volume = left_volume v x l; power = off; past = left_past c v x l past }

unfoldable pub step : Machine → Event → Machine
step w (restart m) = record { volume = w.volume; power = restarted w.volume (lent w.power m); past = w.past }
step w (perform c) = call_in w.power w.volume c w.past
step w crash = record { volume = w.volume; power = off; past = w.past }
step w (crash_in c l) = crashed_in w.power w.volume c l w.past
step w (damage at xs) =
    record { volume = store (geometry_of w.volume) w.volume at xs; power = w.power; past = w.past }

-- ---- which events may come

abbrev pub is_on : Power → Bool
is_on off = false
is_on (on m s) = true

-- an item's check is right
abbrev pub item_sealed : Geometry → Place → List ℕ → Bool
item_sealed g (page_at i) xs = image_sealed g xs
item_sealed g (slot_at i) xs = image_sealed g xs
item_sealed g (record_at i) xs = sealed 60 xs
item_sealed g (note_at i) xs = sealed 12 xs

-- "failing its check": bytes of the item's size that do, by the sums of the heading as it is. "A heading store is whole
-- or absent at a cut"
abbrev pub torn_fits : Geometry → StoredItem → Left → Bool
torn_fits g x old = true
torn_fits g x new = true
torn_fits g nothing (torn xs) = true
torn_fits g (one_item at _) (torn xs) = eqb (length xs) (width at) && not (item_sealed g at xs)
torn_fits g (new_heading tag) (torn xs) = false

-- a payload is an array of 44; other arguments are any numbers
abbrev pub payload_fits : Call → Bool
payload_fits c = not (is_call 5 c) || eqb (length c.1) 44

abbrev pub crash_fits : Power → List ℕ → Call → Left → Bool
crash_fits off v c l = false
crash_fits (on m s) v c l = torn_fits (geometry_of v) (outcome_of c v m s).stored l

-- the slot of a pending backup note holds no image that is its page's by bytes alone
abbrev pub pending_carries : Geometry → List ℕ → PendingNote → Bool
pending_carries g v None = true
pending_carries g v (Some n) = is_written n || not (only_new g n.page (item g v (slot_at n.slot)))

-- the same of page i + 1's own image, and of the image in the slot that the index gives it
abbrev pub page_carries : Geometry → List ℕ → State → ℕ → Bool
page_carries g v s i =
    let b = (entry_row s.index i).slot in
    not (only_new g (suc i) (item g v (page_at (suc i)))) && (eqb b 0 || not (only_new g (suc i) (item g v (slot_at b))))

-- No image that the store relies on passes by bytes alone as a volume's carrying begins. It follows from "a torn image
-- fails both sums, and one damaged before or during the carrying passes under neither": under the first heading a torn
-- or damaged image was only asked to fail the word sum.
unfoldable pub carriable : Geometry → List ℕ → State → Bool
carriable g v s = every g.pages (page_carries g v s) && pending_carries g v s.note

abbrev pub is_start_carry : Call → Bool
is_start_carry c = is_call 18 c

-- a Start that its table does not refuse is made where the volume is carriable
abbrev pub start_fits : Power → List ℕ → Call → Bool
start_fits off v c = true
start_fits (on m s) v c =
    not (is_start_carry c) || (not (eqb (first_of (start_carry_rows v m s)) 0) || carriable (geometry_of v) v s)

-- damage leaves an image that does not pass, or one that was stored earlier in that place. "For damage, the index is
-- what the volume's notes give."
abbrev pub damage_fits : Machine → Place → List ℕ → Bool
damage_fits w at xs =
    let g = geometry_of w.volume in
    all
    (is_image g at ∷ eqb (length xs) 256
    ∷ (not (passes_at g (index_of g w.volume) at xs) || stored_before at xs w.past) ∷ [])

unfoldable pub allowed : Machine → Event → Bool
allowed w (restart m) = true
allowed w (perform c) = is_on w.power && (payload_fits c && start_fits w.power w.volume c)
allowed w crash = true
allowed w (crash_in c l) =
    crash_fits w.power w.volume c l && (payload_fits c && (not (left_new l) || start_fits w.power w.volume c))
allowed w (damage at xs) = damage_fits w at xs

-- ---- whole histories

-- whether the table refuses the event's call
abbrev pub refused_in : Power → List ℕ → Call → Bool
refused_in off v c = true
refused_in (on m s) v c = not (eqb (first_of (rows_of c v m s)) 0)

-- the abstract log's step: "A cut (after that step) or a Restart not refused: waiting is emptied"
unfoldable pub step_log : Machine → AbstractLog → Event → AbstractLog
step_log w b (restart m) = cond (eqb (first_of (restart_rows w.volume (lent w.power m))) 0) (forget b) b
step_log w b (perform c) = cond (refused_in w.power w.volume c) b (step_call b c)
step_log w b crash = forget b
step_log w b (crash_in c l) = forget (cond (refused_in w.power w.volume c) b (step_cut b c l))
step_log w b (damage at xs) = b

-- the machine after Make
unfoldable pub fresh_machine : Heading → List ℕ → ℕ → ℕ → ℕ → ℕ → Machine
fresh_machine h found p b l n = record { volume = (make_of h found p b l n).volume; power = off; past = [] }

unfoldable pub all_allowed : Machine → List Event → Bool
all_allowed w [] = true
all_allowed w (e ∷ es) = let rest = all_allowed (step w e) es in cond (allowed w e) rest false

unfoldable pub run : Machine → List Event → Machine
run w [] = w
run w (e ∷ es) = run (step w e) es

unfoldable pub log_after : Machine → AbstractLog → List Event → AbstractLog
log_after w b [] = b
log_after w b (e ∷ es) = log_after (step w e) (step_log w b e) es

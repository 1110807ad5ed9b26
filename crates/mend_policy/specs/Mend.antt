-- Mending: which call to make next, where upkeep is idle, so that a page has both of its starts again: its noted backup,
-- and its own image (or a format in the log). States docs/UPKEEP.md, Mending: the rules A1 to A4, M1 and M2. Like upkeep
-- it is a function of what the calls get, so that a cut needs nothing special.
use Rattle.std.specs.Prelude.{ℕ, suc, ◌+◌, ◌-◌, ◌*◌, ◌/◌, Bool, true, false, cond, ◌&&◌, ◌||◌, not, List, [], ◌∷◌, eqb, leb, length}
use Rattle.model.specs.Tables.{Row, first_of, within, larger}
use Rattle.model.specs.Geometry.{ring, geometry_of, slot_at, item}
use Rattle.model.specs.Item.{image_lsn, valid_image}
use Rattle.model.specs.Index.{entry_of}
use Rattle.model.specs.State.{frame_count, held}
use Rattle.model.specs.Repair.{View, state_view, class_in, own_start, walk_from, is_below}
use Rattle.model.specs.Refusals.{state_rows}
use Rattle.model.specs.Calls.{Call, no_payload}
use Rattle.model.specs.declared.{geometry.Geometry.Geometry, state.Entry.Entry, state.State.State, answer.Class.Class}
use Rattle.model.specs.declared.answer.Class.TheVariants.{Good, Behind, Stale, Failed, Ahead}
use Rattle.upkeep_policy.specs.Upkeep.{Advice, idle, stuck, make, renew}
use Rattle.mend_policy.specs.declared.mending.Mended.{Mended}
use Rattle.mend_policy.specs.declared.mending.Mend.TheVariants.{Refused, Whole, Single, Lost, Full, Make}
use Rattle.mend_policy.specs.declared.mending.Mend.TheVariants as says

-- ---- the two starts

-- no backup of p is noted, or its slot's image is valid as p's with the noted number
abbrev pub stands : Geometry → List ℕ → Entry → ℕ → Bool
stands g v e p =
    eqb e.slot 0
    || (valid_image g p (item g v (slot_at e.slot)) && eqb (image_lsn (item g v (slot_at e.slot))) e.backup)

-- the walk of p that takes no backup, on a run that starts at f, is not 23
unfoldable pub reaches_from : Geometry → View → ℕ → ℕ → Bool
reaches_from g w p f = not (is_below (walk_from w.durable w.log f p (own_start g p w) 0 w.durable).stop)

-- where the run starts once i more records are stored behind d durable ones
abbrev pub start_after : Geometry → View → ℕ → ℕ → ℕ
start_after g w d i = larger w.first (suc (d + i) - g.records)

-- the own image, or a format in the log, is a start, and stays one while i more records are stored
abbrev pub reaches : Geometry → View → ℕ → ℕ → ℕ → Bool
reaches g w d p i = reaches_from g w p (start_after g w d i)

-- G: how many records may come between two looks
abbrev pub margin : Geometry → ℕ
margin g = g.records / 4

-- p has no durable change, or both starts
abbrev pub whole_page : Geometry → List ℕ → View → Entry → ℕ → ℕ → Bool
whole_page g v w e d p = eqb e.durable 0 || (stands g v e p && reaches g w d p (margin g))

-- ---- who may be written

-- room for two notes of every page, and for the records between
abbrev pub twofold : Geometry → Bool
twofold g = leb (2 * g.pages + 2) g.notes && leb (4 * g.pages) g.records

abbrev pub may_write : Geometry → Entry → Bool
may_write g e = not (eqb e.written 0) || twofold g

-- ---- the policy

pub data Mending : Type 0 where
  whole : Mending
  single : Mending
  lost : Mending
  ahead : Mending
  full : Mending
  call : Call → Mending

abbrev pub is_ahead : Class → Bool
is_ahead Good = false
is_ahead Behind = false
is_ahead Stale = false
is_ahead Failed = false
is_ahead Ahead = true

abbrev pub is_stale : Class → Bool
is_stale Good = false
is_stale Behind = false
is_stale Stale = true
is_stale Failed = false
is_stale Ahead = false

-- upkeep's renewal: a Load where the page is in no frame, then a Backup, or a Write or the refreshing put. It is stuck at
-- a page in no frame only where its Load is 23, at one in a frame only where there is no slot, note or record left
abbrev pub mending : Bool → Advice → Mending
mending in_frame idle = whole
mending in_frame (stuck p) = cond in_frame full lost
mending in_frame (make c) = call c

-- where upkeep is idle; r is the frame that the user leaves to upkeep
unfoldable pub mend_of : List ℕ → List ℕ → State → ℕ → ℕ → Mending
mend_of v m s r p =
    let g = geometry_of v in
    let e = entry_of s.index p in
    let w = state_view g v s p in
    let c = class_in g p w in
    let far = reaches g w s.durable p (margin g) in
    let copy = mending (held s p) (renew v m s r p false) in
    let again = mending (held s p) (renew v m s r p true) in
    cond (not (ring g) || eqb e.durable 0) whole
    (cond (is_ahead c) ahead
    (cond (not (stands g v e p)) copy
    (cond (may_write g e && (not far || is_stale c)) again
    (cond far whole single))))

-- ---- what the code gives back

abbrev pub mended_by : Mending → Mended
mended_by whole = record { mend = Whole; payload = no_payload }
mended_by single = record { mend = Single; payload = no_payload }
mended_by lost = record { mend = Lost; payload = no_payload }
mended_by ahead = record { mend = says.Ahead; payload = no_payload }
mended_by full = record { mend = Full; payload = no_payload }
mended_by (call c) = record { mend = Make c.0; payload = c.1 }

-- refused like a call on the state, by 3 where p is no page and by 4 where r is no frame
unfoldable pub mend_rows : List ℕ → List ℕ → State → ℕ → ℕ → List Row
mend_rows v m s r p =
    state_rows v m s
    ((not (within (geometry_of v).pages p), 3) ∷ (not (within (frame_count (length m)) r), 4) ∷ [])

unfoldable pub mended_of : List ℕ → List ℕ → State → ℕ → ℕ → Mended
mended_of v m s r p =
    let no = first_of (mend_rows v m s r p) in
    cond (eqb no 0) (mended_by (mend_of v m s r p)) (record { mend = Refused no; payload = no_payload })

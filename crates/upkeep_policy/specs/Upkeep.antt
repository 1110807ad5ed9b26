-- Upkeep: which call to make next so that a ring store keeps room; the discipline of a user who asks it before every
-- call; and the calls that it leads to. States docs/UPKEEP.md: the rules U1 to U5, a renewal's R1 to R4, and the
-- discipline. It is a function of what the calls get and has no memory of its own, so that a cut in
-- the middle needs nothing special: the next call finds again where it was.
use Rattle.std.specs.Prelude.{ℕ, zero, suc, ◌+◌, ◌-◌, ◌/◌, Bool, true, false, cond, ◌&&◌, ◌||◌, not, List, [], ◌∷◌, eqb, leb, ltb, length, replicate}
use Rattle.model.specs.Tables.{Row, all, first_of, within}
use Rattle.model.specs.Bytes.{byte_at, equal_bytes}
use Rattle.model.specs.Geometry.{ring, geometry_of}
use Rattle.model.specs.Item.{is_written}
use Rattle.model.specs.Index.{entry_row, slot_used}
use Rattle.model.specs.Passes.{first_from}
use Rattle.model.specs.Scan.{log_record, note_record, index_of}
use Rattle.model.specs.State.{frame_count, frame_bytes, record_needed, log_full, note_needed, notes_full, note_pending, holder, held}
use Rattle.model.specs.Refusals.{page_dirty, state_rows, load_rows}
use Rattle.model.specs.Calls.{Call, code_of, no_payload}
use Rattle.model.specs.declared.{change.Change.TheVariants.Put, geometry.Geometry.Geometry}
use Rattle.model.specs.declared.{state.State.State}
use Rattle.model.specs.declared.command.Command.TheVariants.{Load, Force, Write}
use Rattle.model.specs.declared.command.Command.TheVariants.{Change, Backup, Note}
use Rattle.model.specs.History.{Power, off, on, Machine, Event, restart, perform, crash, crash_in, damage, step}
use Rattle.model.specs.Carry.{carries, count_of}
use Rattle.upkeep_policy.specs.declared.upkeep.Advised.{Advised}
use Rattle.upkeep_policy.specs.declared.upkeep.Upkeep.TheVariants.{Refused, Idle, Stuck, Make}
use Rattle.model.specs.Types.{PendingNote, None, Some}

-- ---- positions

-- note position i is the note that the i-th next one displaces, log position i the record that the i-th next one
-- displaces; where that number is below 1 nothing is displaced
abbrev pub note_position : Geometry → State → ℕ → ℕ
note_position g s i = s.notes + i - g.notes

abbrev pub log_position : Geometry → State → ℕ → ℕ
log_position g s i = s.durable + i - g.records

-- the position is needed; otherwise it is spare
unfoldable pub note_ahead : Geometry → List ℕ → State → ℕ → Bool
note_ahead g v s i = ltb g.notes (s.notes + i) && note_needed g v s.notes (note_position g s i)

unfoldable pub log_ahead : Geometry → List ℕ → State → ℕ → Bool
log_ahead g v s i = ltb g.records (s.durable + i) && record_needed g v s (log_position g s i)

-- how many log positions upkeep makes spare: half the log
abbrev pub reserve : Geometry → ℕ
reserve g = g.records / 2

-- the first needed of note positions 1 and 2 (3: none), and of log positions 1 to the reserve (reserve + 1: none)
unfoldable pub first_needed_note : Geometry → List ℕ → State → ℕ
first_needed_note g v s = first_from 2 (note_ahead g v s) 1

unfoldable pub first_needed_log : Geometry → List ℕ → State → ℕ
first_needed_log g v s = first_from (reserve g) (log_ahead g v s) 1

-- the lowest slot outside the index (B + 1: none)
unfoldable pub free_slot : Geometry → State → ℕ
free_slot g s = first_from g.slots (λ b. not (slot_used b s.index)) 1

abbrev pub no_slot : Geometry → State → Bool
no_slot g s = ltb g.slots (free_slot g s)

-- ---- the policy

-- nothing to do; stuck at a page that cannot be renewed; or a call to make
pub data Advice : Type 0 where
  idle : Advice
  stuck : ℕ → Advice
  make : Call → Advice

-- the refreshing put: the byte that stands first in page p's body, once more
abbrev pub refresh : List ℕ → State → ℕ → Call
refresh m s p = (Change p (Put 0 1), byte_at (frame_bytes m (holder s p)) 8 ∷ replicate 43 0)

-- R1: page p is in no frame
abbrev pub bring_in : List ℕ → List ℕ → State → ℕ → ℕ → Advice
bring_in v m s r p = cond (eqb (first_of (load_rows v m s p r)) 23) (stuck p) (make (Load p r, no_payload))

-- R2: a backup note
abbrev pub back_up : List ℕ → State → ℕ → Advice
back_up v s p =
    let g = geometry_of v in
    cond (no_slot g s || notes_full g v s) (stuck p) (make (Backup p (free_slot g s), no_payload))

-- R3 and R4: a written note, which only Write of a dirty page leaves
abbrev pub write_out : List ℕ → List ℕ → State → ℕ → Advice
write_out v m s p =
    let g = geometry_of v in
    cond (page_dirty s p) (cond (notes_full g v s) (stuck p) (make (Write p, no_payload)))
    (cond (log_full g v s) (stuck p) (make (refresh m s p)))

-- the next call of the renewal of page p's note, written or backup
unfoldable pub renew : List ℕ → List ℕ → State → ℕ → ℕ → Bool → Advice
renew v m s r p written =
    let fetch = bring_in v m s r p in
    let again = write_out v m s p in
    let copy = back_up v s p in
    cond (held s p) (cond written again copy) fetch

-- U3: the note at position i
abbrev pub renew_note : List ℕ → List ℕ → State → ℕ → ℕ → Advice
renew_note v m s r i =
    let n = note_record (geometry_of v) v (note_position (geometry_of v) s i) in
    renew v m s r n.page (is_written n)

-- U4: a backup of the page of the record at position i
abbrev pub renew_log : List ℕ → List ℕ → State → ℕ → ℕ → Advice
renew_log v m s r i = renew v m s r (log_record (geometry_of v) v (log_position (geometry_of v) s i)).page false

-- U1 to U5; r is the frame that the user leaves to upkeep
unfoldable pub upkeep_of : List ℕ → List ℕ → State → ℕ → Advice
upkeep_of v m s r =
    let g = geometry_of v in
    let i = first_needed_note g v s in
    let j = first_needed_log g v s in
    let by_note = renew_note v m s r i in
    let by_log = renew_log v m s r j in
    let in_ring = cond (leb i 2) by_note (cond (leb j (reserve g)) by_log idle) in
    cond (note_pending s.note) (make (Note, no_payload)) (cond (ltb 0 s.pending) (make (Force, no_payload)) (cond (ring g) in_ring idle))

-- ---- what the code gives back

abbrev pub advised_by : Advice → Advised
advised_by idle = record { upkeep = Idle; payload = no_payload }
advised_by (stuck p) = record { upkeep = Stuck p; payload = no_payload }
advised_by (make c) = record { upkeep = Make c.0; payload = c.1 }

-- refused like a call on the state, and by 4 where r is no frame
unfoldable pub advise_rows : List ℕ → List ℕ → State → ℕ → List Row
advise_rows v m s r = state_rows v m s ((not (within (frame_count (length m)) r), 4) ∷ [])

unfoldable pub advise_of : List ℕ → List ℕ → State → ℕ → Advised
advise_of v m s r =
    let no = first_of (advise_rows v m s r) in
    cond (eqb no 0) (advised_by (upkeep_of v m s r)) (record { upkeep = Refused no; payload = no_payload })

-- ---- the discipline

abbrev pub advice_in : ℕ → Power → List ℕ → Advice
advice_in r off v = idle
advice_in r (on m s) v = upkeep_of v m s r

abbrev pub advice_of : ℕ → Machine → Advice
advice_of r w = advice_in r w.power w.volume

-- the same command and payload
abbrev pub same_call : Call → Call → Bool
same_call c a = equal_bytes (code_of c.0) (code_of a.0) && equal_bytes c.1 a.1

-- which calls may come: after idle any that does not carry, else the one that is advised
abbrev pub follows_call : Advice → Call → Bool
follows_call idle c = not (carries c)
follows_call (stuck p) c = false
follows_call (make a) c = same_call c a

abbrev pub follows : Advice → Event → Bool
follows a (restart m) = true
follows a (perform c) = follows_call a c
follows a crash = true
follows a (crash_in c l) = follows_call a c
follows a (damage at xs) = true

-- the cuts since upkeep was last idle: every end of a machine that is on counts
abbrev pub is_idle : Advice → Bool
is_idle idle = true
is_idle (stuck p) = false
is_idle (make c) = false

abbrev pub is_cut : Event → Bool
is_cut (restart m) = true
is_cut (perform c) = false
is_cut crash = true
is_cut (crash_in c l) = true
is_cut (damage at xs) = false

abbrev pub cuts_in : ℕ → Power → List ℕ → ℕ → Event → ℕ
cuts_in r off v cuts e = cuts
cuts_in r (on m s) v cuts e = cond (is_idle (upkeep_of v m s r)) 0 cuts + cond (is_cut e) 1 0

abbrev pub cuts_after : ℕ → Machine → ℕ → Event → ℕ
cuts_after r w cuts e = cuts_in r w.power w.volume cuts e

-- how many pages have a written note, by the volume's notes, and by a state with its pending note
unfoldable pub written_pages : List ℕ → ℕ
written_pages v =
    let index = index_of (geometry_of v) v in
    count_of 64 (λ i. not (eqb (entry_row index i).written 0))

abbrev pub pending_written : PendingNote → ℕ → Bool
pending_written None p = false
pending_written (Some n) p = is_written n && eqb n.page p

unfoldable pub ever_written : State → ℕ
ever_written s = count_of 64 (λ i. not (eqb (entry_row s.index i).written 0) || pending_written s.note (suc i))

-- r is a frame, at most W pages have a written note, and at most C cuts came where one has
abbrev pub reserved_fits : ℕ → Power → Bool
reserved_fits r off = true
reserved_fits r (on m s) = within (frame_count (length m)) r

unfoldable pub in_bounds : ℕ → ℕ → ℕ → Machine → ℕ → Bool
in_bounds r W C w cuts =
    let n = written_pages w.volume in
    all (reserved_fits r w.power ∷ leb n W ∷ (eqb n 0 || leb cuts C) ∷ [])

-- the discipline: upkeep was asked before every call, and its advice taken until it was idle
unfoldable pub disciplined : ℕ → ℕ → ℕ → Machine → ℕ → List Event → Bool
disciplined r W C w cuts [] = in_bounds r W C w cuts
disciplined r W C w cuts (e ∷ es) =
    let rest = disciplined r W C (step w e) (cuts_after r w cuts e) es in
    cond (in_bounds r W C w cuts && follows (advice_of r w) e) rest false

-- ---- the calls that it leads to

abbrev pub then_call : Advice → (Call → List Event) → List Event
then_call idle f = []
then_call (stuck p) f = []
then_call (make c) f = perform c ∷ f c

-- at most n of them
unfoldable pub upkeep_events : ℕ → ℕ → Machine → List Event
upkeep_events r zero w = []
upkeep_events r (suc n) w = then_call (advice_of r w) (λ c. upkeep_events r n (step w (perform c)))

-- The claim for C: what a C caller gets is what a history has. The volume that Make gives is that of a history without
-- events; a Restart is the history's event `restart`; each of the eleven calls, made on the state's numbers, is its
-- event `perform`. The answer's number and the report are those of the history's outcome; the volume, the memory and
-- the state's numbers are those of the machine that the history with that event leaves. Demands 1 to 3 speak of it.
use Rattle.std.specs.Prelude.{ℕ, ◌≡◌, ◌≢◌, true, false, List, [], ◌∷◌, length, get_or}
use Rattle.model.specs.Bytes.{part}
use Rattle.model.specs.Geometry.{Place, start, magic_of, geometry_of}
use Rattle.model.specs.State.{zero_state}
use Rattle.model.specs.Outcome.{StoredItem, nothing, one_item, new_heading}
use Rattle.model.specs.Calls.{Call, outcome_of}
use Rattle.model.specs.Restart.{make_of, restart_of}
use Rattle.model.specs.History.{off, on, Machine, Event, restart, perform, lent, step}
use Rattle.model.specs.History.{payload_fits, is_start_carry, allowed}
use Rattle.model.specs.Claim.{History, Legal, reached}
use Rattle.reports.specs.Examine.{class_number, start_number}
use Rattle.upkeep_policy.specs.UpkeepClaim.{extended}
use Rattle.model.specs.declared.{geometry.Geometry.Geometry, geometry.Heading.Heading, state.State.State}
use Rattle.model.specs.declared.{answer.Answer.Answer, answer.Repair.Repair}
use Rattle.model.specs.declared.answer.Answer.TheVariants.{Refused, Repaired}
use Rattle.face.specs.Numbers.{numbers_of}
use Rattle.face.specs.Face.{answer_number, Face, face_of, Restarted, restarted_of}

-- ---- what C holds

-- a volume, a memory and numbers are those of a machine that is on
pub record Holds (v m xs : List ℕ) (w : Machine) : Type 0 where
  pub state : State
  pub volume : v ≡ w.volume
  pub power : w.power ≡ on m state
  pub numbers : xs ≡ numbers_of state

-- the history with one event more
abbrev pub then : History → Event → History
then h e = extended h (e ∷ [])

-- ---- what a report tells

-- class, start and count of a page that is loaded; else zeros
pub record RepairTold (a : Answer) (class from count : ℕ) : Type 0 where
  pub repaired : (r : Repair) → a ≡ Repaired r
      → (class ≡ class_number r.class) × (from ≡ start_number r.start) × (count ≡ r.count)
  pub none : ((r : Repair) → a ≢ Repaired r) → (class ≡ 0) × (from ≡ 0) × (count ≡ 0)

-- offset and length of what is stored, which stands there in the volume after the call; else zeros
pub record RangeTold (g : Geometry) (after : List ℕ) (x : StoredItem) (offset size : ℕ) : Type 0 where
  pub item : (at : Place) (bytes : List ℕ) → x ≡ one_item at bytes
      → (offset ≡ start g at) × (size ≡ length bytes) × (part after offset size ≡ bytes)
  pub heading : (tag : ℕ) → x ≡ new_heading tag → (offset ≡ 0) × (size ≡ 4) × (part after offset size ≡ magic_of tag)
  pub none : x ≡ nothing → (offset ≡ 0) × (size ≡ 0)

pub record FiveTold (g : Geometry) (after : List ℕ) (a : Answer) (x : StoredItem) (report : List ℕ) : Type 0 where
  pub size : length report ≡ 5
  pub repair : RepairTold a (get_or report 0 0) (get_or report 1 0) (get_or report 2 0)
  pub range : RangeTold g after x (get_or report 3 0) (get_or report 4 0)

-- a refusal leaves the report as it was
pub record Reported (g : Geometry) (after : List ℕ) (a : Answer) (x : StoredItem) (old report : List ℕ) : Type 0 where
  pub refused : (n : ℕ) → a ≡ Refused n → report ≡ old
  pub told : ((n : ℕ) → a ≢ Refused n) → FiveTold g after a x report

-- ---- a call, a Restart and a Make

-- a call on volume v, memory m and state s, and the machine that the history with it leaves
pub record CallIs (c : Call) (v m : List ℕ) (s : State) (old : List ℕ) (f : Face) (w : Machine) : Type 0 where
  pub answer : f.answer ≡ answer_number (outcome_of c v m s).answer
  pub report :
      let o = outcome_of c v m s in
      Reported (geometry_of v) f.volume o.answer o.stored old f.report
  pub holds : Holds f.volume f.memory f.state w

-- a Restart, which leaves the volume: refused, the machine is off, the memory as it was and the numbers zeros
pub record RestartIs (v m : List ℕ) (f : Restarted) (w : Machine) : Type 0 where
  pub answer : f.answer ≡ answer_number (restart_of v m).answer
  pub volume : w.volume ≡ v
  pub done : f.answer ≡ 0 → Holds v f.memory f.state w
  pub refused : f.answer ≢ 0 → (w.power ≡ off) × (f.memory ≡ m) × (f.state ≡ numbers_of zero_state)

abbrev pub made : Heading → List ℕ → ℕ → ℕ → ℕ → ℕ → History
made t found p b l n =
    record { heading = t; found = found; pages = p; slots = b; records = l; notes = n; events = [] }

-- a Make that is not refused begins a history, whose volume is the one that it gives
pub record MakeIs (t : Heading) (found : List ℕ) (p b l n : ℕ) : Type 0 where
  pub legal : Legal (made t found p b l n)
  pub volume : (reached (made t found p b l n)).volume ≡ (make_of t found p b l n).volume
  pub power : (reached (made t found p b l n)).power ≡ off

-- ---- the claim

-- in the machine that any legal history leaves, each of the eleven calls, made on the state's numbers, is the history's
-- next step: what is left for C is that machine
pub record Leaves (f : Face) (w : Machine) : Type 0 where
  pub next : State
  pub volume : f.volume ≡ w.volume
  pub power : on f.memory next ≡ w.power
  pub state : f.state ≡ numbers_of next

abbrev pub CHistory : Type 0
CHistory =
    (h : History) → Legal h → (m : List ℕ) (s : State) → (reached h).power ≡ on m s
    → (c : Call) (report : List ℕ) → length report ≡ 5
    → Leaves (face_of c (reached h).volume m (numbers_of s) report) (step (reached h) (perform c))

-- and all that C gets of a history: a Make, every Restart, and each call with its answer and its report
pub record HistoriesForC : Type 0 where
  pub make : (t : Heading) (found : List ℕ) (p b l n : ℕ) → answer_number (make_of t found p b l n).answer ≡ 0
      → MakeIs t found p b l n
  -- and every history begins so
  pub begun : (h : History) → Legal h
      → answer_number (make_of h.heading h.found h.pages h.slots h.records h.notes).answer ≡ 0
  -- with the memory that is lent, or the machine's own where it is on
  pub restarts : (h : History) → Legal h → (m xs : List ℕ) → length xs ≡ 360
      → RestartIs (reached h).volume (lent (reached h).power m)
      (restarted_of (reached h).volume (lent (reached h).power m) xs) (reached (then h (restart m)))
  pub calls : (h : History) → Legal h → (v m xs : List ℕ) → (k : Holds v m xs (reached h))
      → (c : Call) (report : List ℕ) → length report ≡ 5
      → CallIs c v m k.state report (face_of c v m xs report) (reached (then h (perform c)))
  -- the history with an event that may come is legal too; a Restart may always come, and of the calls on a machine that
  -- is on, the payload of a Change 44 bytes, all but the Start of a carrying, which has conditions of its own
  pub legal : (h : History) → Legal h → (e : Event) → allowed (reached h) e ≡ true → Legal (then h e)
  pub restart_comes : (w : Machine) (m : List ℕ) → allowed w (restart m) ≡ true
  pub call_comes : (w : Machine) (v m xs : List ℕ) → Holds v m xs w → (c : Call) → payload_fits c ≡ true
      → is_start_carry c ≡ false → allowed w (perform c) ≡ true

-- What upkeep promises, as types (docs/UPKEEP.md: T1 to T4). The values are proved in the crate
-- `upkeep_theory`. T1: in a ring, where it has nothing to do no call is refused for room. T2: followed since Make in a
-- roomy geometry it comes to that within 5 W + 3 P + 1 calls, or is stuck at a page that is lost (T4). T3: it changes
-- no page's text.
use Rattle.std.specs.Prelude.{ℕ, ◌+◌, ◌*◌, ◌/◌, ◌≤◌, ◌<◌, ◌≡◌, ◌≢◌, ◌⊎◌, ◌↔◌, true, false, List, [], ◌∷◌, ◌++◌, length}
use Rattle.model.specs.Tables.{within}
use Rattle.model.specs.Geometry.{ring, top_number, geometry_of}
use Rattle.model.specs.Item.{image_body}
use Rattle.model.specs.State.{frame_count, frame_bytes, frame_of, held, well_formed}
use Rattle.model.specs.Outcome.{refusal_of}
use Rattle.model.specs.Calls.{Call, outcome_of, load_of}
use Rattle.model.specs.AbstractLog.{Logged, replay, last_place}
use Rattle.model.specs.History.{Power, off, on, Machine, Event, perform}
use Rattle.model.specs.Carry.{carries, starts_in}
use Rattle.model.specs.Claim.{History, Legal, fresh, reached, log_of, durable_of, Gone, Proviso}
use Rattle.model.specs.declared.{answer.Answer.TheVariants.Nothing, geometry.Heading.TheVariants.Second}
use Rattle.model.specs.declared.state.State.{State}
use Rattle.upkeep_policy.specs.Upkeep.{idle, stuck, make, free_slot, upkeep_of, advice_of, ever_written, disciplined, upkeep_events}

-- ---- T1: idle is safe

-- none of the refusals for room: too many pending, the log full, a note pending, the notes full
pub record NotFull (refusal : ℕ) : Type 0 where
  pub not-pending : refusal ≢ 11
  pub not-log : refusal ≢ 12
  pub not-noting : refusal ≢ 13
  pub not-notes : refusal ≢ 14

-- on any bytes of a ring volume with two note slots, and numbers left: where upkeep is idle no call is refused 11 to 14
abbrev pub IdleIsSafe : Type 0
IdleIsSafe =
    (v m : List ℕ) (s : State) (r : ℕ) → ring (geometry_of v) ≡ true → 2 ≤ (geometry_of v).notes
    → s.durable < top_number → s.notes < top_number → upkeep_of v m s r ≡ idle
    → (c : Call) → carries c ≡ false → NotFull (refusal_of (outcome_of c v m s).answer)

-- with more slots than pages there is a slot for a backup, in every well-formed state
abbrev pub SlotLeft : Type 0
SlotLeft =
    (v : List ℕ) (frames : ℕ) (s : State) → well_formed (geometry_of v) frames s ≡ true → (geometry_of v).pages ≤ 64
    → length s.index ≡ 64
    → (geometry_of v).pages < (geometry_of v).slots
    → (1 ≤ free_slot (geometry_of v) s) × (free_slot (geometry_of v) s ≤ (geometry_of v).slots)

-- of a legal history: idle excludes 10 and 15 too
pub record NotBlocked (refusal : ℕ) : Type 0 where
  pub not-blocked : refusal ≢ 10
  pub not-early : refusal ≢ 15

abbrev pub IdleIsFree : Type 0
IdleIsFree =
    (h : History) → Legal h → (m : List ℕ) (s : State) → (reached h).power ≡ on m s → (r : ℕ)
    → upkeep_of (reached h).volume m s r ≡ idle
    → (c : Call) → carries c ≡ false → NotBlocked (refusal_of (outcome_of c (reached h).volume m s).answer)

-- and what upkeep advises is done
abbrev pub AdviceIsDone : Type 0
AdviceIsDone =
    (h : History) → Legal h → (m : List ℕ) (s : State) → (reached h).power ≡ on m s
    → 2 ≤ (geometry_of (reached h).volume).notes → (r : ℕ) → within (frame_count (length m)) r ≡ true
    → (c : Call) → upkeep_of (reached h).volume m s r ≡ make c
    → (refusal_of (outcome_of c (reached h).volume m s).answer ≡ 0)
    × ((outcome_of c (reached h).volume m s).answer ≢ Nothing)

-- ---- T2 and T4: idle comes

-- the history with more events
abbrev pub extended : History → List Event → History
extended h es =
    record {
      heading = h.heading;
      found = h.found;
      pages = h.pages;
      slots = h.slots;
      records = h.records;
      notes = h.notes;
      events = h.events ++ es;
    }

-- page p is in no frame and is lost: its Load is 23
abbrev pub LostIn : ℕ → Power → List ℕ → ℕ → Type 0
LostIn r off v p = ⊥
LostIn r (on m s) v p = (held s p ≡ false) × (refusal_of (load_of v m s p r).answer ≡ 23)

-- upkeep is idle, or a page is lost
abbrev pub Rests : ℕ → Machine → Type 0
Rests r w =
    (advice_of r w ≡ idle) ⊎ ((p : ℕ) × (advice_of r w ≡ stuck p) × LostIn r w.power w.volume p)

-- a geometry for P pages of which at most W ever have a written note, and at most C cuts between two moments of idle
pub record Roomy (h : History) (W C : ℕ) : Type 0 where
  pub second : h.heading ≡ Second
  pub turns : 2 ≤ h.records
  pub slots : h.pages + 1 ≤ h.slots
  pub notes : h.pages + W + 2 ≤ h.notes
  pub reserve : (W ≡ 0) ⊎ (W + C ≤ h.records / 2)

-- the numbers that are still to be given
pub record NumbersLeft (h : History) (s : State) (W : ℕ) : Type 0 where
  pub durable : s.durable + W + 2 ≤ top_number
  pub notes : s.notes + h.pages + W + 2 ≤ top_number

abbrev pub bound : ℕ → ℕ → ℕ
bound W P = 5 * W + 3 * P + 1

-- of a disciplined history: upkeep's calls, made one after the other, come to rest
abbrev pub IdleComes : Type 0
IdleComes =
    (h : History) → Legal h → (r W C : ℕ) → Roomy h W C → starts_in h.events ≡ false
    → disciplined r W C (fresh h) 0 h.events ≡ true
    → (m : List ℕ) (s : State) → (reached h).power ≡ on m s → ever_written s ≤ W → NumbersLeft h s W
    → (n : ℕ) × (n ≤ bound W h.pages) × Rests r (reached (extended h (upkeep_events r n (reached h))))

-- T4 beside it: a page whose Load is 23 has lost its start (so without damage, and no Restamp left torn, there is none)
abbrev pub LostIsLost : Type 0
LostIsLost =
    (h : History) → Legal h → (r p : ℕ) → LostIn r (reached h).power (reached h).volume p
    → Gone h × (Proviso h p → ⊥)

-- ---- T3: it changes no text

abbrev pub all_of : History → List Logged
all_of h = durable_of h ++ (log_of h).pending

-- page p reads as before, and is blank exactly if it was
pub record SameText (h k : History) (p : ℕ) : Type 0 where
  pub body : replay p (all_of k) ≡ replay p (all_of h)
  pub blank : (last_place p (all_of k) ≡ 0) ↔ (last_place p (all_of h) ≡ 0)

-- frame f holds the page and the body that it held
pub record SameFrame (m : List ℕ) (s : State) (m' : List ℕ) (s' : State) (f : ℕ) : Type 0 where
  pub page : (frame_of s' f).page ≡ (frame_of s f).page
  pub body : image_body (frame_bytes m' f) ≡ image_body (frame_bytes m f)

abbrev pub TextStays : Type 0
TextStays =
    (h : History) → Legal h → (m : List ℕ) (s : State) → (reached h).power ≡ on m s
    → (r : ℕ) (c : Call) → upkeep_of (reached h).volume m s r ≡ make c
    → (p : ℕ) → 1 ≤ p → p ≤ h.pages → SameText h (extended h (perform c ∷ [])) p

abbrev pub FramesStay : Type 0
FramesStay =
    (h : History) → Legal h → (m : List ℕ) (s : State) → (reached h).power ≡ on m s
    → (r : ℕ) (c : Call) → upkeep_of (reached h).volume m s r ≡ make c
    → (f : ℕ) → 1 ≤ f → f ≤ frame_count (length m) → f ≢ r
    → SameFrame m s (outcome_of c (reached h).volume m s).memory (outcome_of c (reached h).volume m s).state f

-- all of it
pub record UpkeepHolds : Type 0 where
  pub idle_is_safe : IdleIsSafe
  pub slot_left : SlotLeft
  pub idle_is_free : IdleIsFree
  pub advice_is_done : AdviceIsDone
  pub idle_comes : IdleComes
  pub lost_is_lost : LostIsLost
  pub text_stays : TextStays
  pub frames_stay : FramesStay

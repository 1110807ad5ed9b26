-- The words in which mending's promises are told: what a volume says of a page, what may come after a look, and when a
-- page is not lost.
use Rattle.std.specs.Prelude.{ℕ, zero, suc, ◌+◌, ◌-◌, ◌≤◌, ◌≡◌, ◌≢◌, ◌⊎◌, Bool, true, false, ◌&&◌, ◌||◌, not, List, [], ◌∷◌, ◌++◌, eqb, length}
use Rattle.model.specs.Tables.{larger}
use Rattle.model.specs.Geometry.{Place, page_at, slot_at, record_at, note_at, geometry_of, top_number}
use Rattle.model.specs.Item.{is_written}
use Rattle.model.specs.Index.{entry_of}
use Rattle.model.specs.Scan.{durable_count, index_of}
use Rattle.model.specs.State.{note_pending}
use Rattle.model.specs.Repair.{scanned_view}
use Rattle.model.specs.Outcome.{refusal_of}
use Rattle.model.specs.Calls.{Call, load_of}
use Rattle.model.specs.AbstractLog.{Left, old, new, torn, last_place}
use Rattle.model.specs.History.{Power, off, on, Machine, Event, restart, perform, crash, crash_in, damage, step, run}
use Rattle.model.specs.Carry.{carries}
use Rattle.model.specs.Claim.{History, reached, durable_of, inspection, ShowsReplay}
use Rattle.model.specs.declared.{state.Entry.Entry, state.State.State}
use Rattle.model.specs.declared.command.Command.{Command}
use Rattle.model.specs.declared.command.Command.TheVariants.{Begin, Load, Force, Write, Release, StartCarry, Restamp, FinishCarry}
use Rattle.model.specs.declared.command.Command.TheVariants.{Change, Backup, Note}
use Rattle.upkeep_policy.specs.Upkeep.{Advice, idle, stuck, make, upkeep_of, advice_of, upkeep_events}
use Rattle.upkeep_policy.specs.UpkeepClaim.{LostIn}
use Rattle.mend_policy.specs.Mend.{stands, margin, whole_page, may_write, mend_of, Mending, whole, single, lost, ahead, full, call}
use Rattle.model.specs.Types.{PendingNote, None, Some}

-- ---- by the volume alone

abbrev pub entry_on : List ℕ → ℕ → Entry
entry_on v p = entry_of (index_of (geometry_of v) v) p

abbrev pub stands_on : List ℕ → ℕ → Bool
stands_on v p = stands (geometry_of v) v (entry_on v p) p

abbrev pub whole_on : List ℕ → ℕ → Bool
whole_on v p =
    let g = geometry_of v in whole_page g v (scanned_view g v p) (entry_on v p) (durable_count g v) p

-- where the run may start after G more records: d + G - L + 1, or 1
abbrev pub start_left : List ℕ → ℕ
start_left v = let g = geometry_of v in larger 1 (suc (durable_count g v + margin g) - g.records)

-- no note is owed, as at any rest
abbrev pub none_owed : Power → Bool
none_owed off = true
none_owed (on m s) = not (note_pending s.note)

-- ---- what comes after

abbrev pub carries_in : List Event → Bool
carries_in [] = false
carries_in (restart m ∷ es) = carries_in es
carries_in (perform c ∷ es) = carries c || carries_in es
carries_in (crash ∷ es) = carries_in es
carries_in (crash_in c l ∷ es) = carries c || carries_in es
carries_in (damage at xs ∷ es) = carries_in es

-- slot b is that of an owed backup note of p
abbrev pub owed_slot : PendingNote → ℕ → ℕ → Bool
owed_slot None p b = false
owed_slot (Some n) p b = not (is_written n) && (eqb n.page p && eqb n.slot b)

abbrev pub owed_in : Power → ℕ → ℕ → Bool
owed_in off p b = false
owed_in (on m s) p b = owed_slot s.note p b

-- the place is p's backup: its noted slot, or that of an owed backup note of p
abbrev pub is_backup : Machine → ℕ → Place → Bool
is_backup w p (page_at i) = false
is_backup w p (slot_at b) = eqb (entry_on w.volume p).slot b || owed_in w.power p b
is_backup w p (record_at i) = false
is_backup w p (note_at i) = false

abbrev pub hits_backup : ℕ → Machine → Event → Bool
hits_backup p w (restart m) = false
hits_backup p w (perform c) = false
hits_backup p w crash = false
hits_backup p w (crash_in c l) = false
hits_backup p w (damage at xs) = is_backup w p at

-- no damage hits p's backup
unfoldable pub spares_backup : ℕ → Machine → List Event → Bool
spares_backup p w [] = true
spares_backup p w (e ∷ es) = not (hits_backup p w e) && spares_backup p (step w e) es

abbrev pub is_own : ℕ → Place → Bool
is_own p (page_at i) = eqb p i
is_own p (slot_at b) = false
is_own p (record_at i) = false
is_own p (note_at i) = false

abbrev pub writes_page : ℕ → Command → Bool
writes_page p (Begin q f fill) = false
writes_page p (Load q f) = false
writes_page p (Change q c) = false
writes_page p Force = false
writes_page p (Write q) = eqb p q
writes_page p (Backup q b) = false
writes_page p Note = false
writes_page p (Release q) = false
writes_page p StartCarry = false
writes_page p Restamp = false
writes_page p FinishCarry = false

abbrev pub left_torn : Left → Bool
left_torn old = false
left_torn new = false
left_torn (torn xs) = true

abbrev pub hits_own : ℕ → Event → Bool
hits_own p (restart m) = false
hits_own p (perform c) = false
hits_own p crash = false
hits_own p (crash_in c l) = writes_page p c.0 && left_torn l
hits_own p (damage at xs) = is_own p at

-- no damage hits p's own image, and no Write of p is left torn
abbrev pub spares_own : ℕ → List Event → Bool
spares_own p [] = true
spares_own p (e ∷ es) = not (hits_own p e) && spares_own p es

-- ---- not lost

pub record NotLost (h : History) (p : ℕ) : Type 0 where
  pub inspected : (buffer : List ℕ) → length buffer ≡ 256 → inspection h p buffer ≢ 23
  pub loaded : (m : List ℕ) (s : State) → (reached h).power ≡ on m s → (f : ℕ)
      → refusal_of (load_of (reached h).volume m s p f).answer ≢ 23
  -- it shows its text
  pub shown : last_place p (durable_of h) ≢ 0 → (buffer : List ℕ) → length buffer ≡ 256 → ShowsReplay h p buffer

-- ---- mending followed: its call for page p, and upkeep's calls to rest, in turn

abbrev pub mend_in : ℕ → ℕ → Power → List ℕ → Mending
mend_in r p off v = whole
mend_in r p (on m s) v = mend_of v m s r p

-- a call that mending names is made where upkeep is idle
abbrev pub then_mend : Advice → Mending → (Call → List Event) → List Event
then_mend idle whole f = []
then_mend idle single f = []
then_mend idle lost f = []
then_mend idle ahead f = []
then_mend idle full f = []
then_mend idle (call c) f = perform c ∷ f c
then_mend (stuck q) a f = []
then_mend (make c) a f = []

-- at most n calls of mending's own, each with at most K of upkeep's after it
unfoldable pub mend_events : ℕ → ℕ → ℕ → ℕ → Machine → List Event
mend_events r p K zero w = []
mend_events r p K (suc n) w =
    then_mend (advice_of r w) (mend_in r p w.power w.volume) (λ c.
    upkeep_events r K (step w (perform c))
    ++ mend_events r p K n (run (step w (perform c)) (upkeep_events r K (step w (perform c)))))

-- mending of p has ended: its answer is whole, lost, or single where the page may not be written
abbrev pub EndsWith : Bool → Mending → Type 0
EndsWith may whole = Unit {0}
EndsWith may single = may ≡ false
EndsWith may lost = Unit {0}
EndsWith may ahead = ⊥
EndsWith may full = ⊥
EndsWith may (call c) = ⊥

abbrev pub EndedIn : ℕ → ℕ → Power → List ℕ → Type 0
EndedIn r p off v = ⊥
EndedIn r p (on m s) v =
    (upkeep_of v m s r ≡ idle) × EndsWith (may_write (geometry_of v) (entry_of s.index p)) (mend_of v m s r p)

-- or upkeep is stuck at a lost page
abbrev pub Ended : ℕ → ℕ → Machine → Type 0
Ended r p w =
    EndedIn r p w.power w.volume ⊎ ((q : ℕ) × (advice_of r w ≡ stuck q) × LostIn r w.power w.volume q)

-- the numbers left where n calls come before upkeep's last ones: each takes at most one of either kind
pub record NumbersFor (h : History) (s : State) (W n : ℕ) : Type 0 where
  pub durable : s.durable + n + W + 2 ≤ top_number
  pub notes : s.notes + n + h.pages + W + 2 ≤ top_number

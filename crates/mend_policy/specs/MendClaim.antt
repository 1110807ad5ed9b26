-- What mending promises, as types (docs/UPKEEP.md, Mending); the values are proved in the crate `mend_theory`. ME1: it
-- keeps upkeep's discipline. ME2: it ends. ME3: it changes no text. ME4: a page that was whole is lost only by two
-- failures. ME5: it risks nothing. ME6: the proviso. ME4 and ME5 need no discipline: they are of any legal history (ME4:
-- without a carrying).
use Rattle.std.specs.Prelude.{ℕ, suc, ◌+◌, ◌-◌, ◌*◌, ◌/◌, ◌≤◌, ◌<◌, ◌≡◌, ◌≢◌, ◌⊎◌, Bool, true, false, ◌||◌, List, [], ◌∷◌, length}
use Rattle.model.specs.Tables.{within, larger}
use Rattle.model.specs.Geometry.{ring, top_number, geometry_of}
use Rattle.model.specs.Scan.{durable_count}
use Rattle.model.specs.State.{frame_count}
use Rattle.model.specs.Outcome.{refusal_of}
use Rattle.model.specs.Calls.{Call, outcome_of, is_call, no_payload}
use Rattle.model.specs.History.{on, Event, restart, perform, crash, crash_in, damage}
use Rattle.model.specs.Carry.{carries, starts_in}
use Rattle.model.specs.Claim.{History, Legal, fresh, reached, durable_of, inspection, Safe}
use Rattle.model.specs.RingClaim.{run_start}
use Rattle.model.specs.declared.{answer.Answer.TheVariants.Nothing, geometry.Geometry.Geometry, state.State.State}
use Rattle.model.specs.declared.command.Command.TheVariants.{Note}
use Rattle.upkeep_policy.specs.Upkeep.{idle, upkeep_of, ever_written, written_pages, disciplined, upkeep_events}
use Rattle.upkeep_policy.specs.UpkeepClaim.{extended, Rests, Roomy, NumbersLeft, bound, SameText, SameFrame}
use Rattle.model.specs.Repair.{state_view, class_in}
use Rattle.mend_policy.specs.Mend.{is_stale, margin, twofold, Mending, whole, single, lost, ahead, full, call, mend_of}
pub use Rattle.mend_policy.specs.MendTerms.{entry_on, stands_on, whole_on, start_left, none_owed, carries_in, owed_slot, owed_in, is_backup}
unfoldable pub use Rattle.mend_policy.specs.MendTerms.{spares_backup}
pub use Rattle.mend_policy.specs.MendTerms.{hits_backup, is_own, writes_page, left_torn, hits_own, spares_own, NotLost}
pub use Rattle.mend_policy.specs.MendTerms.{mend_in, then_mend, EndsWith, EndedIn, Ended, NumbersFor}
unfoldable pub use Rattle.mend_policy.specs.MendTerms.{mend_events}

-- ---- ME4: two failures

-- (a) while no damage hits p's backup p is not lost, whatever cuts come and however many records: it still stands
abbrev pub BackupHolds : Type 0
BackupHolds =
    (h : History) → Legal h → (p : ℕ) → 1 ≤ p → p ≤ h.pages → ring (geometry_of (reached h).volume) ≡ true
    → none_owed (reached h).power ≡ true → stands_on (reached h).volume p ≡ true
    → (es : List Event) → Legal (extended h es) → carries_in es ≡ false → spares_backup p (reached h) es ≡ true
    → (stands_on (reached (extended h es)).volume p ≡ true) × NotLost (extended h es) p

-- (b) while its own image is spared and the run starts no later than G more records let it, p is not lost
abbrev pub OwnHolds : Type 0
OwnHolds =
    (h : History) → Legal h → (p : ℕ) → 1 ≤ p → p ≤ h.pages → ring (geometry_of (reached h).volume) ≡ true
    → none_owed (reached h).power ≡ true → whole_on (reached h).volume p ≡ true
    → (es : List Event) → Legal (extended h es) → carries_in es ≡ false → spares_own p es ≡ true
    → run_start (reached (extended h es)).volume ≤ start_left (reached h).volume
    → NotLost (extended h es) p

-- so a page that was whole at rest is lost only if its backup was damaged, and its own image was damaged or torn or more
-- than G records came
abbrev pub TwoFailures : Type 0
TwoFailures =
    (h : History) → Legal h → (p : ℕ) → 1 ≤ p → p ≤ h.pages → ring (geometry_of (reached h).volume) ≡ true
    → none_owed (reached h).power ≡ true → stands_on (reached h).volume p ≡ true → whole_on (reached h).volume p ≡ true
    → (es : List Event) → Legal (extended h es) → carries_in es ≡ false
    → (buffer : List ℕ) → length buffer ≡ 256 → inspection (extended h es) p buffer ≡ 23
    → (spares_backup p (reached h) es ≡ false)
    × ((spares_own p es ≡ false) ⊎ (start_left (reached h).volume < run_start (reached (extended h es)).volume))

-- ---- ME1: it never locks

-- where upkeep is idle the named call does not carry, is not refused and does not answer Nothing
pub record Taken (h : History) (m : List ℕ) (s : State) (c : Call) : Type 0 where
  pub plain : carries c ≡ false
  pub done : refusal_of (outcome_of c (reached h).volume m s).answer ≡ 0
  pub busy : (outcome_of c (reached h).volume m s).answer ≢ Nothing

abbrev pub MendIsDone : Type 0
MendIsDone =
    (h : History) → Legal h → (m : List ℕ) (s : State) → (reached h).power ≡ on m s
    → (r : ℕ) → within (frame_count (length m)) r ≡ true → upkeep_of (reached h).volume m s r ≡ idle
    → (p : ℕ) → 1 ≤ p → p ≤ h.pages → (c : Call) → mend_of (reached h).volume m s r p ≡ call c → Taken h m s c

-- and there is room for it: with B >= P + 1, N >= 2 and numbers left mending is never full
abbrev pub MendHasRoom : Type 0
MendHasRoom =
    (h : History) → Legal h → (m : List ℕ) (s : State) → (reached h).power ≡ on m s
    → (r : ℕ) → upkeep_of (reached h).volume m s r ≡ idle → h.pages < h.slots → 2 ≤ h.notes
    → s.durable < top_number → s.notes < top_number → (p : ℕ) → mend_of (reached h).volume m s r p ≢ full

-- a disciplined history stays one: where upkeep is idle, the history with mending's call is legal and keeps the
-- discipline, with the same frame r, the same W pages and the same C cuts. So T1 to T4 of upkeep hold of it
pub record Follows (h : History) (r W C : ℕ) (c : Call) : Type 0 where
  pub legal : Legal (extended h (perform c ∷ []))
  pub uncarried : starts_in h.events ≡ false → starts_in (extended h (perform c ∷ [])).events ≡ false
  pub disciplined : disciplined r W C (fresh h) 0 (extended h (perform c ∷ [])).events ≡ true

abbrev pub MendFollows : Type 0
MendFollows =
    (h : History) → Legal h → (r W C : ℕ) → disciplined r W C (fresh h) 0 h.events ≡ true
    → (m : List ℕ) (s : State) → (reached h).power ≡ on m s → upkeep_of (reached h).volume m s r ≡ idle
    → (p : ℕ) → 1 ≤ p → p ≤ h.pages → (c : Call) → mend_of (reached h).volume m s r p ≡ call c → Follows h r W C c

-- at most P pages ever have a written note, with the pending one counted: so with W = P the discipline's bound on them
-- holds by itself
abbrev pub WrittenAtMost : Type 0
WrittenAtMost =
    (h : History) → Legal h
    → (written_pages (reached h).volume ≤ h.pages)
    × ((m : List ℕ) (s : State) → (reached h).power ≡ on m s → ever_written s ≤ h.pages)

-- it never locks: after mending's call upkeep comes to rest again, within as many calls as T2 says. Only M2 makes written
-- notes, and of a page that has none only in a twofold geometry: there W is P, elsewhere it is what it was
abbrev pub MendRests : Type 0
MendRests =
    (h : History) → Legal h → (r W C : ℕ) → Roomy h W C → (twofold (geometry_of (reached h).volume) ≡ true → h.pages ≤ W)
    → starts_in h.events ≡ false → disciplined r W C (fresh h) 0 h.events ≡ true
    → (m : List ℕ) (s : State) → (reached h).power ≡ on m s → upkeep_of (reached h).volume m s r ≡ idle → NumbersLeft h s W
    → (p : ℕ) → 1 ≤ p → p ≤ h.pages → (c : Call) → mend_of (reached h).volume m s r p ≡ call c
    → let k = extended h (perform c ∷ []) in
    (n : ℕ) × (n ≤ bound W h.pages) × Rests r (reached (extended k (upkeep_events r n (reached k))))

-- what mending calls whole is whole, by the volume alone: so ME4 speaks of it
abbrev pub WholeIsWhole : Type 0
WholeIsWhole =
    (h : History) → Legal h → (m : List ℕ) (s : State) → (reached h).power ≡ on m s → ring (geometry_of (reached h).volume) ≡ true
    → (r p : ℕ) → 1 ≤ p → p ≤ h.pages → mend_of (reached h).volume m s r p ≡ whole → whole_on (reached h).volume p ≡ true

-- ---- ME5: mending risks nothing

-- the call was done, or cut at any moment with its item left in any way
abbrev pub DoneOrCut : Call → Event → Type 0
DoneOrCut c (restart m) = ⊥
DoneOrCut c (perform a) = a ≡ c
DoneOrCut c crash = ⊥
DoneOrCut c (crash_in a l) = a ≡ c
DoneOrCut c (damage at xs) = ⊥

-- a call that mending names loses no page, done or cut: every page that was not lost is not, and every durable change is
-- kept. (M1 stores in a slot that is nobody's; M2 writes only where the page stands.) It asks no discipline and no rest
abbrev pub MendRisksNothing : Type 0
MendRisksNothing =
    (h : History) → Legal h → (m : List ℕ) (s : State) → (reached h).power ≡ on m s
    → (r p : ℕ) (c : Call) → mend_of (reached h).volume m s r p ≡ call c
    → (e : Event) → DoneOrCut c e → Legal (extended h (e ∷ []))
    → (durable_of (extended h (e ∷ [])) ≡ durable_of h)
    × ((q : ℕ) → 1 ≤ q → q ≤ h.pages → (buffer : List ℕ) → length buffer ≡ 256 → inspection h q buffer ≢ 23
    → NotLost (extended h (e ∷ [])) q)

-- ---- ME2: it ends; first its steps

-- where the run starts once G more records are stored
abbrev pub start_next : List ℕ → ℕ
start_next v =
    let g = geometry_of v in larger (run_start v) (suc (durable_count g v + margin g) - g.records)

-- mending's Write makes the page whole, and whole it stays, while no damage hits its backup or its own image and no Write
-- of it is left torn, for L - G records
abbrev pub WriteMends : Type 0
WriteMends =
    (h : History) → Legal h → (m : List ℕ) (s : State) → (reached h).power ≡ on m s
    → (r : ℕ) → within (frame_count (length m)) r ≡ true → upkeep_of (reached h).volume m s r ≡ idle
    → (p : ℕ) → 1 ≤ p → p ≤ h.pages
    → (c : Call) → mend_of (reached h).volume m s r p ≡ call c → writes_page p c.0 ≡ true
    → (es : List Event) → Legal (extended h (perform c ∷ es)) → carries_in es ≡ false
    → spares_backup p (reached h) (perform c ∷ es) ≡ true → spares_own p es ≡ true
    → start_next (reached (extended h (perform c ∷ es))).volume ≤ suc (length (durable_of h))
    → whole_on (reached (extended h (perform c ∷ es))).volume p ≡ true

-- after mending's Load upkeep is still idle, so mending goes on at once, with the page in a frame: a Backup or a Write of
-- it is next, no second Load and no put
abbrev pub still_goes_on : ℕ → Mending → Bool
still_goes_on p whole = false
still_goes_on p single = false
still_goes_on p lost = false
still_goes_on p ahead = false
still_goes_on p full = true
still_goes_on p (call c) = is_call 8 c || writes_page p c.0

abbrev pub LoadGoesOn : Type 0
LoadGoesOn =
    (h : History) → Legal h → (m : List ℕ) (s : State) → (reached h).power ≡ on m s
    → (r : ℕ) → within (frame_count (length m)) r ≡ true → upkeep_of (reached h).volume m s r ≡ idle
    → (p : ℕ) → 1 ≤ p → p ≤ h.pages → (c : Call) → mend_of (reached h).volume m s r p ≡ call c → is_call 4 c ≡ true
    → let k = extended h (perform c ∷ []) in
    (m' : List ℕ) (s' : State) → (reached k).power ≡ on m' s'
    → (upkeep_of (reached k).volume m' s' r ≡ idle) × (still_goes_on p (mend_of (reached k).volume m' s' r p) ≡ true)

-- after mending's Backup and its note the page stands, and no note is owed: ME4 (a) applies from there
abbrev pub BackupMends : Type 0
BackupMends =
    (h : History) → Legal h → (m : List ℕ) (s : State) → (reached h).power ≡ on m s
    → (r : ℕ) → within (frame_count (length m)) r ≡ true → upkeep_of (reached h).volume m s r ≡ idle
    → (p : ℕ) → 1 ≤ p → p ≤ h.pages → (c : Call) → mend_of (reached h).volume m s r p ≡ call c → is_call 8 c ≡ true
    → let k = extended (extended h (perform c ∷ [])) (perform (Note, no_payload) ∷ []) in
    Legal k × (none_owed (reached k).power ≡ true) × (stands_on (reached k).volume p ≡ true)

-- one round: mending's call for page p, and then upkeep's calls to rest (history e). The history is as before, so that the
-- next round may come: legal, and disciplined with the same r, W and C. Where mending's call was a Backup the page now
-- stands; where it was a Write the page is now whole, unless upkeep stored more than L - G records on its way
pub record Round (h : History) (r W C p : ℕ) (c : Call) (e : History) : Type 0 where
  pub legal : Legal e
  pub rests : Rests r (reached e)
  pub uncarried : starts_in e.events ≡ false
  pub disciplined : disciplined r W C (fresh h) 0 e.events ≡ true
  pub backed : is_call 8 c ≡ true → stands_on (reached e).volume p ≡ true
  pub written : writes_page p c.0 ≡ true → start_next (reached e).volume ≤ suc (length (durable_of h))
      → whole_on (reached e).volume p ≡ true
  -- it does not where the log is long enough
  pub short : writes_page p c.0 ≡ true → bound W h.pages + 3 ≤ 4 * (h.records - h.records / 4)
      → start_next (reached e).volume ≤ suc (length (durable_of h))

abbrev pub RoundMends : Type 0
RoundMends =
    (h : History) → Legal h → (r W C : ℕ) → Roomy h W C → (twofold (geometry_of (reached h).volume) ≡ true → h.pages ≤ W)
    → starts_in h.events ≡ false → disciplined r W C (fresh h) 0 h.events ≡ true
    → (m : List ℕ) (s : State) → (reached h).power ≡ on m s → upkeep_of (reached h).volume m s r ≡ idle → NumbersLeft h s W
    → (p : ℕ) → 1 ≤ p → p ≤ h.pages → (c : Call) → mend_of (reached h).volume m s r p ≡ call c
    → let k = extended h (perform c ∷ []) in
    (n : ℕ) × (n ≤ bound W h.pages) × Round h r W C p c (extended k (upkeep_events r n (reached k)))

-- and mending then says whole, unless the own image is Stale: a Write that the disk had confirmed is lost there
abbrev pub WholeIsSaid : Type 0
WholeIsSaid =
    (h : History) → Legal h → (m : List ℕ) (s : State) → (reached h).power ≡ on m s
    → (r p : ℕ) → 1 ≤ p → p ≤ h.pages → whole_on (reached h).volume p ≡ true
    → is_stale (class_in (geometry_of (reached h).volume) p (state_view (geometry_of (reached h).volume) (reached h).volume s p)) ≡ false
    → mend_of (reached h).volume m s r p ≡ whole

-- ME2: mending of page p ends. Followed in turn with upkeep from a rest, with no cut and no damage between, mending makes
-- at most four calls of its own and upkeep at most three times its bound; then the answer is whole, or lost, or single where
-- the page may not be written, or upkeep is stuck at a lost page. The history stays legal and disciplined. The log is to be
-- so long that a page that is written is still whole at the next rest (with W = P that of a twofold geometry is)
pub record Mends (h : History) (r W C p : ℕ) (es : List Event) : Type 0 where
  pub legal : Legal (extended h es)
  pub uncarried : starts_in (extended h es).events ≡ false
  pub disciplined : disciplined r W C (fresh h) 0 (extended h es).events ≡ true
  pub few : length es ≤ 3 * bound W h.pages + 4
  pub ended : Ended r p (reached (extended h es))

abbrev pub MendEnds : Type 0
MendEnds =
    (h : History) → Legal h → (r W C : ℕ) → Roomy h W C → (twofold (geometry_of (reached h).volume) ≡ true → h.pages ≤ W)
    → starts_in h.events ≡ false → disciplined r W C (fresh h) 0 h.events ≡ true
    → (m : List ℕ) (s : State) → (reached h).power ≡ on m s → upkeep_of (reached h).volume m s r ≡ idle
    → NumbersFor h s W (4 * bound W h.pages + 4)
    → bound W h.pages + 3 ≤ 4 * (h.records - h.records / 4) → (p : ℕ) → 1 ≤ p → p ≤ h.pages
    → Mends h r W C p (mend_events r p (bound W h.pages) 4 (reached h))

abbrev pub TwofoldIsLong : Type 0
TwofoldIsLong =
    (g : Geometry) → 1 ≤ g.pages → twofold g ≡ true → bound g.pages g.pages + 3 ≤ 4 * (g.records - g.records / 4)

-- AHEAD is no answer of a legal history
abbrev pub NeverAhead : Type 0
NeverAhead =
    (h : History) → Legal h → (m : List ℕ) (s : State) → (reached h).power ≡ on m s
    → (r p : ℕ) → 1 ≤ p → p ≤ h.pages → mend_of (reached h).volume m s r p ≢ ahead

-- ---- ME6: the proviso

-- where every page stands document 02's proviso holds
abbrev pub StandsIsSafe : Type 0
StandsIsSafe = (h : History) → Legal h → ((p : ℕ) → 1 ≤ p → p ≤ h.pages → stands_on (reached h).volume p ≡ true) → Safe h

-- ---- ME3: no text changes

abbrev pub MendKeepsText : Type 0
MendKeepsText =
    (h : History) → Legal h → (m : List ℕ) (s : State) → (reached h).power ≡ on m s
    → (r p : ℕ) (c : Call) → mend_of (reached h).volume m s r p ≡ call c
    → (q : ℕ) → 1 ≤ q → q ≤ h.pages → SameText h (extended h (perform c ∷ [])) q

abbrev pub MendKeepsFrames : Type 0
MendKeepsFrames =
    (h : History) → Legal h → (m : List ℕ) (s : State) → (reached h).power ≡ on m s
    → (r p : ℕ) (c : Call) → mend_of (reached h).volume m s r p ≡ call c
    → (f : ℕ) → 1 ≤ f → f ≤ frame_count (length m) → f ≢ r
    → SameFrame m s (outcome_of c (reached h).volume m s).memory (outcome_of c (reached h).volume m s).state f

-- all of it
pub record MendHolds : Type 0 where
  pub backup_holds : BackupHolds
  pub own_holds : OwnHolds
  pub two_failures : TwoFailures
  pub mend_is_done : MendIsDone
  pub mend_has_room : MendHasRoom
  pub mend_follows : MendFollows
  pub written_at_most : WrittenAtMost
  pub mend_rests : MendRests
  pub whole_is_whole : WholeIsWhole
  pub mend_risks_nothing : MendRisksNothing
  pub load_goes_on : LoadGoesOn
  pub backup_mends : BackupMends
  pub write_mends : WriteMends
  pub round_mends : RoundMends
  pub whole_is_said : WholeIsSaid
  pub mend_ends : MendEnds
  pub twofold_is_long : TwofoldIsLong
  pub never_ahead : NeverAhead
  pub stands_is_safe : StandsIsSafe
  pub mend_keeps_text : MendKeepsText
  pub mend_keeps_frames : MendKeepsFrames

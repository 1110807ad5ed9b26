-- What carrying a volume over promises, as types: the images left go down and end, Finish drops none, a step that is
-- performed leaves every inspection the same, and only these calls ever meet a heading not their own. States document
-- 02, §4. Demands 2 and 3 do not say it: to them an image that fails is only repaired. The values of these types are
-- proved in the crates `laws` (on any volume) and `history` (of histories).
use Rattle.std.specs.Prelude.{ℕ, zero, suc, ◌+◌, ◌≤◌, length, take}
use mathlib.Core.{Path.◌≡◌, Logic.◌≢◌, Logic.◌↔◌, Bool.Bool, Bool.true, Bool.false, Bool.cond, Bool.◌||◌, List.List}
use mathlib.Core.{List.[], List.◌∷◌}
use Rattle.model.specs.{Tables.first_of, Refusals.restamp_rows, Restart.inspect_of, Health.Same}
use Rattle.model.specs.Geometry.{tag_of, carry_tag, Place, geometry_of, item}
use Rattle.model.specs.Passes.{passes_at, is_image, image_count, old_at}
use Rattle.model.specs.Outcome.{volume_after, refusal_of}
use Rattle.model.specs.Calls.{start_carry_of, restamp_of, finish_carry_of, Call, outcome_of, is_call}
use Rattle.model.specs.History.{on, Event, restart, perform, crash, crash_in, damage, is_start_carry, allowed}
use Rattle.model.specs.Claim.{History, Legal, reached, durable_of, Safe, Agree}
use Rattle.model.specs.Types.{First, State, Nothing, Done}

-- ---- on any volume, memory and state

-- of how many numbers below n the test holds
unfoldable pub count_of : ℕ → (ℕ → Bool) → ℕ
count_of zero p = 0
count_of (suc n) p = count_of n p + cond (p n) 1 0

-- how many images pass only the old sum
abbrev pub old_count : List ℕ → State → ℕ
old_count v s = count_of (image_count (geometry_of v)) (old_at (geometry_of v) v s.index)

-- the volume after n Restamps in a row, and that each of them answered Done
unfoldable pub restamps : ℕ → List ℕ → List ℕ → State → List ℕ
restamps zero v m s = v
restamps (suc n) v m s = restamps n (volume_after v (restamp_of v m s).stored) m s

unfoldable pub AllDone : ℕ → List ℕ → List ℕ → State → Type 0
AllDone zero v m s = Unit {0}
AllDone (suc n) v m s = ((restamp_of v m s).answer ≡ Done) × AllDone n (volume_after v (restamp_of v m s).stored) m s

pub record Progress : Type 0 where
  -- a Restamp that answers Done lowers the number of images left by one
  pub lowers : (v m : List ℕ) (s : State) → (restamp_of v m s).answer ≡ Done
      → old_count v s ≡ suc (old_count (volume_after v (restamp_of v m s).stored) s)
  -- so at most P + B of them come before Nothing: as many as images were left
  pub few : (v : List ℕ) (s : State) → old_count v s ≤ image_count (geometry_of v)
  pub ends : (v m : List ℕ) (s : State) → first_of (restamp_rows v m s) ≡ 0
      → AllDone (old_count v s) v m s × ((restamp_of (restamps (old_count v s) v m s) m s).answer ≡ Nothing)
  -- "When none is left it answers Nothing"
  pub nothing : (v m : List ℕ) (s : State) → first_of (restamp_rows v m s) ≡ 0
      → ((restamp_of v m s).answer ≡ Nothing) ↔ (old_count v s ≡ 0)
  -- "20, finish called while such an image is left": exactly where a Restamp would restamp one
  pub finish : (v m : List ℕ) (s : State)
      → (refusal_of (finish_carry_of v m s).answer ≡ 20) ↔ ((restamp_of v m s).answer ≡ Done)

-- an image passes in its place on a volume, by an index
abbrev pub passes_on : List ℕ → State → Place → Bool
passes_on v s at = passes_at (geometry_of v) s.index at (item (geometry_of v) v at)

-- Finish drops no image, and neither does a Restamp, which leaves bytes 0 to 251 of every image
pub record DropsNone : Type 0 where
  pub finish : (v m : List ℕ) (s : State) → refusal_of (finish_carry_of v m s).answer ≡ 0
      → (at : Place) → is_image (geometry_of v) at ≡ true
      → passes_on (volume_after v (finish_carry_of v m s).stored) s at ≡ passes_on v s at
  pub restamp : (v m : List ℕ) (s : State) → refusal_of (restamp_of v m s).answer ≡ 0
      → (at : Place) → is_image (geometry_of v) at ≡ true
      → (passes_on (volume_after v (restamp_of v m s).stored) s at ≡ passes_on v s at)
      × (take 252 (item (geometry_of v) (volume_after v (restamp_of v m s).stored) at)
      ≡ take 252 (item (geometry_of v) v at))

-- ---- in a history

-- the three calls: Start, Restamp and Finish
abbrev pub carries : Call → Bool
carries c = is_call 18 c || (is_call 19 c || is_call 20 c)

-- Each of the three calls, performed, leaves every inspection the same, class, start and count included. (Cut and left
-- new it leaves the same volume.)
abbrev pub CarrySame : Type 0
CarrySame =
    (h : History) → Legal h → (m : List ℕ) (s : State) → (reached h).power ≡ on m s → (c : Call) → carries c ≡ true
    → allowed (reached h) (perform c) ≡ true → (p : ℕ) (buffer : List ℕ)
    → Same (inspect_of (volume_after (reached h).volume (outcome_of c (reached h).volume m s).stored) p buffer)
    (inspect_of (reached h).volume p buffer)

-- "1 if one of these three calls meets a heading not its own", and no other call gives it
pub record OnlyHeading (h : History) (m : List ℕ) (s : State) : Type 0 where
  pub start : (refusal_of (start_carry_of (reached h).volume m s).answer ≡ 1)
      ↔ ((geometry_of (reached h).volume).tag ≢ tag_of First)
  pub restamp : (refusal_of (restamp_of (reached h).volume m s).answer ≡ 1)
      ↔ ((geometry_of (reached h).volume).tag ≢ carry_tag)
  pub finish : (refusal_of (finish_carry_of (reached h).volume m s).answer ≡ 1)
      ↔ ((geometry_of (reached h).volume).tag ≢ carry_tag)
  pub others : (c : Call) → carries c ≡ false → refusal_of (outcome_of c (reached h).volume m s).answer ≢ 1

-- some event is a Start, whole or cut
abbrev pub starts_in : List Event → Bool
starts_in [] = false
starts_in (restart m ∷ es) = starts_in es
starts_in (perform c ∷ es) = is_start_carry c || starts_in es
starts_in (crash ∷ es) = starts_in es
starts_in (crash_in c l ∷ es) = is_start_carry c || starts_in es
starts_in (damage at xs ∷ es) = starts_in es

-- "for the same kept list the same bodies and numbers must be found as if no carrying had begun": a history in which a
-- Start came, and one in which none did
abbrev pub AsIfNotBegun : Type 0
AsIfNotBegun =
    (h k : History) → Legal h → Legal k → h.pages ≡ k.pages
    → starts_in h.events ≡ true → starts_in k.events ≡ false
    → Safe h → Safe k → durable_of h ≡ durable_of k → (x y : List ℕ) → length x ≡ 256 → length y ≡ 256
    → (p : ℕ) → 1 ≤ p → p ≤ h.pages → Agree h k x y p

pub record CarryHistory : Type 0 where
  pub same : CarrySame
  pub heading : (h : History) → Legal h → (m : List ℕ) (s : State) → (reached h).power ≡ on m s → OnlyHeading h m s
  pub as_if_not_begun : AsIfNotBegun

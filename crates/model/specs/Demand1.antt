-- Demand 1 as a type, for any volume, memory, state and arguments: a call is refused exactly if a row of its table
-- holds, with the first such row's number; a refused call changes nothing; a call stores at most one item. (That every
-- call ends and does nothing undefined is what the checker shows of the code.) States document 01, "Refusal by place":
-- "Each is given under its condition and only then."
use Rattle.std.specs.Prelude.{ℕ, ◌+◌, ◌≤◌, ◌<◌, length, get_or}
use mathlib.Core.{Path.◌≡◌, Logic.◌≢◌, Logic.◌⊎◌, Bool.true, Bool.false, List.List}
use Rattle.model.specs.Tables.{Row}
use Rattle.model.specs.Geometry.{tag_of, carry_tag, Place, item_of, width, start, geometry_of, valid_volume}
use Rattle.model.specs.State.{zero_state}
use Rattle.model.specs.Refusals.{make_rows, restart_rows, inspect_rows}
use Rattle.model.specs.Outcome.{StoredItem, nothing, one_item, new_heading, volume_after, refusal_of}
use Rattle.model.specs.Calls.{Call, rows_of, outcome_of}
use Rattle.model.specs.Restart.{make_of, restart_of, inspect_of}
use Rattle.model.specs.Types.{Heading, Second, State}

-- a row of the table holds, has the number, and no row before it holds
pub record Decides (rows : List Row) (n : ℕ) : Type 0 where
  pub at : ℕ
  pub within : at < length rows
  pub holds : (get_or rows at (false, 0)).0 ≡ true
  pub number : (get_or rows at (false, 0)).1 ≡ n
  pub first : (i : ℕ) → i < at → (get_or rows i (false, 0)).0 ≡ false

-- the number that a call answers (0 where it is not refused) is the one that its table gives
pub record ByTable (rows : List Row) (n : ℕ) : Type 0 where
  pub refused : n ≢ 0 → Decides rows n
  pub only : (k : ℕ) → Decides rows k → n ≡ k
  pub numbered : (k : ℕ) → Decides rows k → k ≢ 0

-- The number is the table's, and where it is one the call leaves `given`: what it was lent or, of a call that gives an
-- array back, zeros.
pub record Refuses {A : Type 0} (rows : List Row) (number : ℕ) (left given : A) : Type 0 where
  pub table : ByTable rows number
  pub leaves : number ≢ 0 → left ≡ given

-- what a call may store: nothing; one item of a valid volume, as many bytes as the item has; or, of a valid volume, the
-- heading of one that is being carried over or the second one
abbrev pub StoresItem : List ℕ → StoredItem → Type 0
StoresItem v nothing = Unit {0}
StoresItem v (one_item at xs) = (valid_volume v ≡ true) × (item_of (geometry_of v) at ≡ true) × (length xs ≡ width at)
StoresItem v (new_heading tag) = (valid_volume v ≡ true) × ((tag ≡ carry_tag) ⊎ (tag ≡ tag_of Second))

-- two volumes have one length and differ at most within the place of one item of the first
pub record DiffersAt (v w : List ℕ) (at : Place) : Type 0 where
  pub item : item_of (geometry_of v) at ≡ true
  pub size : length w ≡ length v
  pub outside : (i : ℕ) → (i < start (geometry_of v) at) ⊎ (start (geometry_of v) at + width at ≤ i)
      → get_or w i 0 ≡ get_or v i 0

-- two volumes have one length and differ at most in the last byte of the heading
pub record DiffersInTag (v w : List ℕ) : Type 0 where
  pub size : length w ≡ length v
  pub outside : (i : ℕ) → i ≢ 3 → get_or w i 0 ≡ get_or v i 0

-- the same volume, one item of it stored, or its heading
abbrev pub AtMostOneItem : List ℕ → List ℕ → Type 0
AtMostOneItem v w = (w ≡ v) ⊎ (((at : Place) × DiffersAt v w at) ⊎ DiffersInTag v w)

-- of a call on the state
pub record Keeps (c : Call) (v m : List ℕ) (s : State) : Type 0 where
  pub table : ByTable (rows_of c v m s) (refusal_of (outcome_of c v m s).answer)
  pub state : refusal_of (outcome_of c v m s).answer ≢ 0 → (outcome_of c v m s).state ≡ s
  pub memory : refusal_of (outcome_of c v m s).answer ≢ 0 → (outcome_of c v m s).memory ≡ m
  pub volume : refusal_of (outcome_of c v m s).answer ≢ 0 → volume_after v (outcome_of c v m s).stored ≡ v
  pub stored : StoresItem v (outcome_of c v m s).stored
  pub one_item : AtMostOneItem v (volume_after v (outcome_of c v m s).stored)

-- the state's arrays have their declared lengths, as every value of the code's type has
pub record Arrays (s : State) : Type 0 where
  pub frames : length s.frames ≡ 16
  pub index : length s.index ≡ 64

pub record Demand1 : Type 0 where
  pub calls : (c : Call) (v m : List ℕ) (s : State) → Arrays s → Keeps c v m s
  pub make : (h : Heading) (v : List ℕ) (p b l n : ℕ)
      → ByTable (make_rows v p b l n) (refusal_of (make_of h v p b l n).answer)
      × (refusal_of (make_of h v p b l n).answer ≢ 0 → (make_of h v p b l n).volume ≡ v)
  pub restart : (v m : List ℕ)
      → ByTable (restart_rows v m) (refusal_of (restart_of v m).answer)
      × (refusal_of (restart_of v m).answer ≢ 0 → ((restart_of v m).state ≡ zero_state) × ((restart_of v m).memory ≡ m))
      × ((restart_of v m).stored ≡ nothing)
  pub inspect : (v : List ℕ) (page : ℕ) (buffer : List ℕ)
      → ByTable (inspect_rows v page (length buffer)) (refusal_of (inspect_of v page buffer).answer)
      × (refusal_of (inspect_of v page buffer).answer ≢ 0 → (inspect_of v page buffer).buffer ≡ buffer)

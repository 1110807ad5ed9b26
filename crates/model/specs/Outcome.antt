-- What a call leaves: its answer, what it makes of state and memory, and what it stores. An outcome holds at most one
-- item, or the heading, to store, so that no call stores more, and a crash within it has one thing to tear.
use Rattle.std.specs.Prelude.{ℕ, eqb}
use mathlib.Core.{Bool.cond, List.List}
use Rattle.model.specs.Tables.{Row, first_of}
use Rattle.model.specs.Geometry.{Place, geometry_of, store, store_heading}
use Rattle.model.specs.Types.{State, Reply, Answer, Refused, Nothing, Done, Repaired}

-- what a call stores; `new_heading` is the heading with another tag
pub data StoredItem : Type 0 where
  nothing : StoredItem
  one_item : Place → List ℕ → StoredItem
  new_heading : ℕ → StoredItem

-- what a call on the state leaves
pub record Outcome : Type 0 where
  pub answer : Answer
  pub state : State
  pub memory : List ℕ
  pub stored : StoredItem

-- what the code gives back of it: the answer and the next state
abbrev pub reply_of : Outcome → Reply
reply_of o = record { answer = o.answer; state = o.state }

-- the volume after a call
unfoldable pub volume_after : List ℕ → StoredItem → List ℕ
volume_after v nothing = v
volume_after v (one_item at xs) = store (geometry_of v) v at xs
volume_after v (new_heading tag) = store_heading v tag

-- an outcome by its parts: answer, state, memory, what is stored
abbrev pub leaves : Answer → State → List ℕ → StoredItem → Outcome
leaves a s m x = record { answer = a; state = s; memory = m; stored = x }

-- a call that leaves everything as it was, and answers; a refused call is one
abbrev pub unchanged : Answer → List ℕ → State → Outcome
unchanged a m s = leaves a s m nothing

-- a call by its table: refused by the first row that holds, else done
unfoldable pub decided : List Row → List ℕ → State → Outcome → Outcome
decided rows m s done = cond (eqb (first_of rows) 0) done (unchanged (Refused (first_of rows)) m s)

-- a call that stores, and leaves memory and state
abbrev pub storing : StoredItem → List ℕ → State → Outcome
storing x m s = leaves Done s m x

-- the number that stands for an answer: 0, or the refusal's (the C function gives it)
abbrev pub refusal_of : Answer → ℕ
refusal_of (Refused n) = n
refusal_of Nothing = 0
refusal_of Done = 0
refusal_of (Repaired r) = 0

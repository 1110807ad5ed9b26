-- What a call for C answers and leaves, as the rows show it: made on a machine's own state, or on numbers that are no
-- state's.
use Rattle.std.specs.Prelude.{ℕ, List, [], ◌∷◌, map, replicate}
use Rattle.model.specs.Calls.{Call}
use Rattle.model.specs.History.{Power, off, on, Machine, Event, perform}
use Rattle.model.specs.declared.state.State.{State}
use Rattle.face.specs.Numbers.{numbers_of}
use Rattle.face.specs.Face.{Face, face_of}
use Rattle.cases.specs.Build.{memory}

abbrev pub does : List Call → List Event
does cs = map perform cs

-- a report of five numbers as it is lent
abbrev pub lent : List ℕ
lent = replicate 5 9

-- the answer, then the report
abbrev pub told : Face → List ℕ
told f = f.answer ∷ f.report

-- in a machine that is off there is no call
abbrev pub says_in : Power → List ℕ → Call → List ℕ
says_in off v c = []
says_in (on m s) v c = told (face_of c v m (numbers_of s) lent)

abbrev pub says : Machine → Call → List ℕ
says w c = says_in w.power w.volume c

-- the machine's state and memory handed to another reader of them
abbrev pub with_state : {A : Type 0} → Power → A → (List ℕ → State → A) → A
with_state off none f = none
with_state (on m s) none f = f m s

-- a call on no numbers, which are no state's
abbrev pub unstated : List ℕ → Call → List ℕ
unstated v c = told (face_of c v (memory 2) [] lent)

-- ---- what a report says, in words

-- done, and these bytes of the volume were stored; nothing was
abbrev pub stored : ℕ → ℕ → List ℕ
stored offset length = 0 ∷ 0 ∷ 0 ∷ 0 ∷ offset ∷ length ∷ []

abbrev pub only_done : List ℕ
only_done = stored 0 0

-- Nothing is 256
abbrev pub nothing_to_do : List ℕ
nothing_to_do = 256 ∷ 0 ∷ 0 ∷ 0 ∷ 0 ∷ 0 ∷ []

-- a refusal leaves the report
abbrev pub refused_by : ℕ → List ℕ
refused_by n = n ∷ lent

-- Small ring stores, and the advice on them: what upkeep says, call after call.
use Rattle.std.specs.Prelude.{ℕ, zero, suc, cond, List, [], ◌∷◌, ◌++◌, take}
use Rattle.model.specs.Calls.{Call, code_of, is_call}
use Rattle.cases.specs.Calls.{begin, force, write, backup, note}
use Rattle.model.specs.History.{Machine, Event, restart, perform, step}
use Rattle.upkeep_policy.specs.Upkeep.{Advice, idle, stuck, make, advice_of}
use Rattle.cases.specs.Build.{memory}
use Rattle.cases.specs.Rings.{put}
use Rattle.cases.specs.Prologues.{page_written, page_backed_up, page_forced}

-- a call's numbers, without the zeros of a refreshing put's payload
abbrev pub short_numbers : Call → List ℕ
short_numbers c = take 7 (code_of c.0 ++ cond (is_call 5 c) c.1 [])

-- 100: idle; 101 p: stuck at page p
abbrev pub advice_numbers : Advice → (Call → List ℕ) → List ℕ
advice_numbers idle f = 100 ∷ []
advice_numbers (stuck p) f = 101 ∷ p ∷ []
advice_numbers (make c) f = short_numbers c ++ f c

-- the advice, taken, until it is idle or stuck, but at most n times
unfoldable pub advised : ℕ → ℕ → Machine → List ℕ
advised zero r w = []
advised (suc n) r w = advice_numbers (advice_of r w) (λ c. advised n r (step w (perform c)))

-- page 1 written, and backed up twice: in a note ring of four the written note is now at position 2
abbrev pub backed2 : List Event
backed2 = page_written 2 ++ (perform (backup 1 1) ∷ perform note ∷ perform (backup 1 2) ∷ perform note ∷ [])

-- three records of page 1
abbrev pub three : List Event
three = page_forced 2 ++ (perform (put 2) ∷ perform force ∷ perform (put 3) ∷ perform force ∷ [])

-- page 1 backed up, then written for the first time, and that note pending
abbrev pub first_write : List Event
first_write = page_backed_up 2 ++ (perform (write 1) ∷ [])

-- a note ring of two: written and backed up, and then the written note is the only one of its kind
abbrev pub locked : List Event
locked = page_written 2 ++ (perform (backup 1 1) ∷ perform note ∷ [])

-- two pages: record 1 is page 2's, which has no backup, record 2 page 1's, which has
abbrev pub other : List Event
other =
    restart (memory 2) ∷ perform (begin 2 1 7) ∷ perform force ∷ perform (begin 1 2 7) ∷ perform force
    ∷ perform (backup 1 1) ∷ perform note ∷ perform (put 2) ∷ perform force ∷ perform (put 3) ∷ perform force ∷ []

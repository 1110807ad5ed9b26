-- Small ring stores, and what mending says of a page of them, call after call, upkeep's calls between.
use Rattle.std.specs.Prelude.{ℕ, zero, suc, List, [], ◌∷◌, ◌++◌, replicate}
use Rattle.model.specs.Geometry.{page_at, slot_at}
use Rattle.model.specs.Calls.{Call}
use Rattle.model.specs.History.{Power, off, on, Machine, Event, restart, perform, crash, damage, step}
use Rattle.upkeep_policy.specs.Upkeep.{Advice, idle, stuck, make, advice_of}
use Rattle.mend_policy.specs.Mend.{Mending, whole, single, lost, ahead, full, call, mend_of}
use Rattle.cases.specs.Build.{memory}
use Rattle.cases.specs.Calls.{force, write, backup, note}
use Rattle.cases.specs.Rings.{put}
use Rattle.cases.specs.Prologues.{page_forced}
use Rattle.upkeep_cases.specs.Stores.{short_numbers}

-- ---- what is said, as numbers

abbrev pub says_whole : List ℕ
says_whole = 100 ∷ []

abbrev pub says_single : List ℕ
says_single = 101 ∷ []

abbrev pub says_lost : List ℕ
says_lost = 102 ∷ []

abbrev pub says_ahead : List ℕ
says_ahead = 103 ∷ []

abbrev pub says_full : List ℕ
says_full = 104 ∷ []

-- upkeep is stuck, so that mending is not asked
abbrev pub says_stuck : List ℕ
says_stuck = 105 ∷ []

abbrev pub mending_in : ℕ → ℕ → Power → List ℕ → Mending
mending_in r p off v = whole
mending_in r p (on m s) v = mend_of v m s r p

abbrev pub mend_numbers : Mending → (Call → List ℕ) → List ℕ
mend_numbers whole f = says_whole
mend_numbers single f = says_single
mend_numbers lost f = says_lost
mend_numbers ahead f = says_ahead
mend_numbers full f = says_full
mend_numbers (call c) f = short_numbers c ++ f c

-- upkeep's call where it names one, else mending's
abbrev pub next_numbers : Advice → Mending → (Call → List ℕ) → List ℕ
next_numbers idle a f = mend_numbers a f
next_numbers (stuck p) a f = says_stuck
next_numbers (make c) a f = short_numbers c ++ f c

-- what is said of page p, taken, until a verdict, but at most n times
unfoldable pub mended : ℕ → ℕ → ℕ → Machine → List ℕ
mended zero r p w = []
mended (suc n) r p w =
    next_numbers (advice_of r w) (mending_in r p w.power w.volume) (λ c. mended n r p (step w (perform c)))

-- ---- stores of P 1, B 2, L 4, N 4: the margin is one record

abbrev pub junk : List ℕ
junk = replicate 256 1

abbrev pub spoil_backup : Event
spoil_backup = damage (slot_at 1) junk

abbrev pub spoil_own : Event
spoil_own = damage (page_at 1) junk

-- written at record 2; backed up at 4; record 5 has displaced record 1
abbrev pub at_edge : List Event
at_edge =
    page_forced 2
    ++ (perform (put 2) ∷ perform force ∷ perform (write 1) ∷ perform note ∷ perform (put 3) ∷ perform force
    ∷ perform (put 4) ∷ perform force ∷ perform (backup 1 1) ∷ perform note ∷ perform (put 5) ∷ perform force ∷ [])

-- the page's backup is damaged, and one record is stored; then a second one
abbrev pub one_more : List Event
one_more = spoil_backup ∷ perform (put 6) ∷ perform force ∷ []

abbrev pub two_more : List Event
two_more = one_more ++ (perform (put 7) ∷ perform force ∷ [])

-- mending's own calls after the backup is damaged: a new backup, noted
abbrev pub mended_backup : List Event
mended_backup = spoil_backup ∷ perform (backup 1 2) ∷ perform note ∷ []

abbrev pub cut_off : List Event
cut_off = crash ∷ restart (memory 2) ∷ []

-- a user of the same store who follows upkeep: it asked for the backup, at record 3. The own image, of record 1, is now
-- out of reach, so that mending writes it
abbrev pub followed : List Event
followed =
    page_forced 2
    ++ (perform (write 1) ∷ perform note ∷ perform (put 2) ∷ perform force ∷ perform (put 3) ∷ perform force
    ∷ perform (backup 1 1) ∷ perform note ∷ perform (put 4) ∷ perform force ∷ perform (put 5) ∷ perform force ∷ [])

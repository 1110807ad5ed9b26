-- A history that turns both rings again and again under the discipline, and one that locks without it, computed.
use Rattle.std.specs.Prelude.{ℕ, suc, List, [], ◌∷◌, ◌++◌}
use Rattle.model.specs.Outcome.{refusal_of}
use Rattle.model.specs.Calls.{Call, outcome_of}
use Rattle.cases.specs.Calls.{begin, force, write, backup, note}
use Rattle.model.specs.History.{Power, off, on, Machine, Event, restart, perform, step, run}
use Rattle.upkeep_policy.specs.Upkeep.{disciplined}
use Rattle.cases.specs.Rows.{Row, row}
use Rattle.cases.specs.Opened.{opened}
use Rattle.cases.specs.Words.{bit, yes, no, accepted, refusal}
use Rattle.cases.specs.Build.{memory}
use Rattle.cases.specs.Prologues.{page_forced, page_begun}
use Rattle.cases.specs.Rings.{reach_ring, put}

-- the refusals of calls made one after the other
abbrev pub refusal_in : Power → List ℕ → Call → ℕ
refusal_in off v c = 99
refusal_in (on m s) v c = refusal_of (outcome_of c v m s).answer

unfoldable pub refusals : Machine → List Call → List ℕ
refusals w [] = []
refusals w (c ∷ cs) = refusal_in w.power w.volume c ∷ refusals (step w (perform c)) cs

abbrev pub counts_in : Power → List ℕ
counts_in off = []
counts_in (on m s) = s.durable ∷ s.notes ∷ []

-- the least geometry of one page that is written, with a cut: B 2, L 4, N 4
abbrev pub start : Machine
start = reach_ring 1 2 4 4 []

-- page 1 formatted, and twice changed and written; all else is upkeep's
abbrev pub first : List Event
first =
    page_forced 2 ++ (perform (put 0) ∷ perform force ∷ perform (write 1)
    ∷ perform note ∷ perform (put 1) ∷ perform force ∷ perform (backup 1 1) ∷ perform note ∷ perform (write 1)
    ∷ perform note ∷ [])

-- changed and written twice more; upkeep forces, notes, and once backs it up into the slot
abbrev pub round : ℕ → ℕ → List Event
round n slot =
    perform (put n) ∷ perform force ∷ perform (write 1) ∷ perform note ∷ perform (backup 1 slot) ∷ perform note
    ∷ perform (put (suc n)) ∷ perform force ∷ perform (write 1) ∷ perform note ∷ []

-- 9 records and 12 notes, in rings of four
abbrev pub history : List Event
history = first ++ (round 2 2 ++ (round 4 1 ++ round 6 2))

-- the discipline, in two parts since the checker bounds what one declaration may compute; upkeep is idle between them
unfoldable pub turn_rows : List Row
unfolding opened
turn_rows =
    row "turns: until the rings have turned once the history is disciplined"
    (bit (disciplined 2 1 1 start 0 (first ++ round 2 2)) ∷ []) (yes ∷ [])
    ∷ row "the calls of a user who does not ask upkeep are not disciplined"
    (bit (disciplined 2 1 1 start 0 (page_begun 2 ++ (perform (put 1) ∷ []))) ∷ []) (no ∷ [])
    ∷ []

unfoldable pub later_turns : List Row
unfolding opened
later_turns =
    row "turns: and for two turns more"
    (bit (disciplined 2 1 1 (run start (first ++ round 2 2)) 0 (round 4 1 ++ round 6 2)) ∷ []) (yes ∷ [])
    ∷ row "turns: 9 records and 12 notes in rings of four" (counts_in (run start history).power) (9 ∷ 12 ∷ [])
    ∷ []

unfoldable pub lock_rows : List Row
unfolding opened refusals
lock_rows =
    row "changes without upkeep: 12 for ever"
    (refusals (step start (restart (memory 2)))
    (begin 1 1 7 ∷ force ∷ put 1 ∷ force ∷ put 2 ∷ force ∷ put 3 ∷ force ∷ put 4 ∷ write 1 ∷ note ∷ put 5 ∷ []))
    (accepted ∷ accepted ∷ accepted ∷ accepted ∷ accepted ∷ accepted ∷ accepted ∷ accepted ∷ refusal 12 ∷ accepted
    ∷ accepted ∷ refusal 12 ∷ [])
    ∷ row "one Write, then backups alone: its note comes to the front, and then 14 for ever, for all calls that note"
    (refusals (step start (restart (memory 2)))
    (begin 1 1 7 ∷ force ∷ write 1 ∷ note ∷ backup 1 1 ∷ note ∷ backup 1 2 ∷ note ∷ backup 1 1 ∷ note ∷ backup 1 2
    ∷ put 2 ∷ force ∷ write 1 ∷ []))
    (accepted ∷ accepted ∷ accepted ∷ accepted ∷ accepted ∷ accepted ∷ accepted ∷ accepted ∷ accepted ∷ accepted
    ∷ refusal 14 ∷ accepted ∷ accepted ∷ refusal 14 ∷ [])
    ∷ []

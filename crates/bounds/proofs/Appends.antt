-- The room that is reported of a ring's log, and the appends that it speaks of: P 1, B 1, L 4, N 2, two records, and a
-- backup noted at the first. Three more are taken, the third into record 1's slot; the next would displace record 2, and
-- a Change is refused 12. Three is one below L, the most that the claim speaks of.
use Prim.Native.Nat.{ℕ, zero, suc, ◌+◌, ◌-◌, ◌≤◌, ◌<◌}
use mathlib.Core.Path.{◌≡◌, refl, ap, sym, ◌∙◌}
use mathlib.Core.Bool.{true, false}
use mathlib.Core.List.{List, [], ◌∷◌, ◌++◌}
use native.Mathlib.Omega.{arith}
use lib.Dec.{eqb→eq}
use lib.ListN.{get_or, drop}
use lib.Seq.{get_or-drop}
use Rattle.model.specs.Tables.{first_of}
use Rattle.model.specs.Geometry.{geometry_of, log_slot, item}
use Rattle.model.specs.Index.{empty_entry, entry_of}
use Rattle.model.specs.State.{log_full}
use Rattle.model.specs.Outcome.{refusal_of}
use Rattle.model.specs.Calls.{outcome_of}
use Rattle.model.specs.Restart.{restart_state}
use Rattle.model.specs.History.{Machine, Event, perform, run}
use Rattle.model.specs.declared.{state.Entry.Entry, state.State.State}
use Rattle.reports.specs.Reading.{scan_rows, Restarts}
use Rattle.reports.specs.Room.{log_full_after, room_of, Appended}
use Rattle.reports_laws.proofs.Room.{room}
use Rattle.cases.specs.Opened.{opened}
use Rattle.cases.specs.Build.{memory_in}
use Rattle.cases.specs.Calls.{force, backup, note}
use Rattle.cases.specs.Prologues.{page_forced}
use Rattle.cases.specs.Rings.{reach_ring, put}
use Rattle.cases.proofs.Cases.{equal}
use Rattle.cases.proofs.Tests.{state_in}

abbrev noted : List Event
noted = page_forced 1 ++ (perform (backup 1 1) ∷ perform (put 2) ∷ perform force ∷ perform note ∷ [])

abbrev three_more : List Event
three_more =
    perform (put 3) ∷ perform force ∷ perform (put 4) ∷ perform force ∷ perform (put 5) ∷ perform force ∷ []

abbrev before : Machine
before = reach_ring 1 1 4 2 noted

abbrev after : Machine
after = run before three_more

abbrev v : List ℕ
v = before.volume

abbrev w : List ℕ
w = after.volume

abbrev s : State
s = state_in after.power

-- ---- three are left

restarts : Restarts v
unfolding opened
restarts = eqb→eq (first_of (scan_rows v)) 0 tt

three-left : (room_of v).log.count ≡ 3
unfolding opened
three-left = eqb→eq (room_of v).log.count 3 tt

four-slots : (geometry_of v).records ≡ 4
unfolding opened
four-slots = eqb→eq (geometry_of v).records 4 tt

pub third-taken : log_full_after (geometry_of v) v (restart_state v) 2 ≡ false
third-taken = room.records v 2 restarts (omega (arith, three-left))

fourth-refused : log_full_after (geometry_of v) v (restart_state v) (room_of v).log.count ≡ true
fourth-refused = room.full v restarts (omega (arith, three-left, four-slots))

-- ---- the appends are such as the claim speaks of

two-before : (restart_state v).durable ≡ 2
unfolding opened
two-before = eqb→eq (restart_state v).durable 2 tt

five-after : s.durable ≡ 5
unfolding opened
five-after = eqb→eq s.durable 5 tt

none-pending : s.pending ≡ 0
unfolding opened
none-pending = eqb→eq s.pending 0 tt

-- of the numbers that stay only record 2's slot is not stored in
second-stays : item (geometry_of v) w (log_slot (geometry_of v) 2) ≡ item (geometry_of v) v (log_slot (geometry_of v) 2)
unfolding opened
second-stays =
    equal (item (geometry_of v) w (log_slot (geometry_of v) 2)) (item (geometry_of v) v (log_slot (geometry_of v) 2)) tt

stays : (j : ℕ) → j ≤ (restart_state v).durable → (restart_state v).durable + 3 < j + (geometry_of v).records
    → item (geometry_of v) w (log_slot (geometry_of v) j) ≡ item (geometry_of v) v (log_slot (geometry_of v) j)
stays j l u = let e : j ≡ 2 = omega (arith, two-before, four-slots) in rw e second-stays

-- page 1's backup, noted at record 1 in slot 1, is as it was; the other rows are equal
first_slot : ((entry_of s.index 1).slot ≡ 1) × ((entry_of (restart_state v).index 1).slot ≡ 1)
unfolding opened
first_slot = (eqb→eq (entry_of s.index 1).slot 1 tt, eqb→eq (entry_of (restart_state v).index 1).slot 1 tt)

first-backup : ((entry_of s.index 1).backup ≡ 1) × ((entry_of (restart_state v).index 1).backup ≡ 1)
unfolding opened
first-backup = (eqb→eq (entry_of s.index 1).backup 1 tt, eqb→eq (entry_of (restart_state v).index 1).backup 1 tt)

others : drop 1 s.index ≡ drop 1 (restart_state v).index
unfolding opened
others = refl

other_row : (q : ℕ) → entry_of s.index (suc (suc q)) ≡ entry_of (restart_state v).index (suc (suc q))
other_row q =
    let i : suc (suc q) - 1 ≡ 1 + q = omega arith in
    rw i (sym (get_or-drop 1 s.index q empty_entry)
    ∙ (ap (λ (es : List Entry). get_or es q empty_entry) others ∙ get_or-drop 1 (restart_state v).index q empty_entry))

slot : (p : ℕ) → (entry_of s.index p).slot ≡ (entry_of (restart_state v).index p).slot
slot zero = first_slot.0 ∙ sym first_slot.1
slot (suc zero) = first_slot.0 ∙ sym first_slot.1
slot (suc (suc q)) = ap (λ (e : Entry). e.slot) (other_row q)

copy : (p : ℕ) → (entry_of s.index p).backup ≡ (entry_of (restart_state v).index p).backup
copy zero = first-backup.0 ∙ sym first-backup.1
copy (suc zero) = first-backup.0 ∙ sym first-backup.1
copy (suc (suc q)) = ap (λ (e : Entry). e.backup) (other_row q)

three-appended : Appended v 3 w s
three-appended =
    record {
      durable = omega (arith, two-before, five-after);
      pending = none-pending;
      stays = stays;
      slot = slot;
      backup = copy;
    }

-- ---- so the log is full as was reported

pub full-then : log_full (geometry_of v) w s ≡ true
full-then =
    let e = room.appended v w s 3 (omega (arith, four-slots)) three-appended in
    e ∙ (rw three-left at fourth-refused)

-- as the next Change says
pub refused-then : refusal_of (outcome_of (put 6) w (memory_in after.power) s).answer ≡ 12
unfolding opened
refused-then = eqb→eq (refusal_of (outcome_of (put 6) w (memory_in after.power) s).answer) 12 tt

-- ME1, ME2 and ME5 applied to a user who follows upkeep, at the least geometry that they speak of: P 1, B 2, L 4, N 4, one page
-- written (W 1) and one cut (C 1).
use Prim.Native.Nat.{ℕ, ◌+◌, ◌≤◌}
use mathlib.Core.Path.{◌≡◌, refl}
use mathlib.Core.Logic.{inr}
use mathlib.Core.Bool.{true}
use mathlib.Core.List.{List, [], ◌∷◌}
use native.Mathlib.Omega.{arith}
use lib.Dec.{T, leb, eqb→eq}
use lib.ListN.{length, replicate, length-replicate}
use borrow.Author.Tests.{leb-true}
use Rattle.model.specs.Geometry.{length_for, top_number}
use Rattle.model.specs.Outcome.{refusal_of}
use Rattle.model.specs.Restart.{make_of}
use Rattle.model.specs.AbstractLog.{torn}
use Rattle.model.specs.History.{on, Event, perform, crash_in, all_allowed}
use Rattle.model.specs.Claim.{History, Legal, fresh, reached, inspection}
use Rattle.model.specs.declared.{geometry.Heading.TheVariants.Second, state.State.State}
use Rattle.upkeep_policy.specs.Upkeep.{Advice, idle, stuck, make, upkeep_of, is_idle, disciplined, upkeep_events}
use Rattle.upkeep_policy.specs.UpkeepClaim.{extended, Roomy, NumbersLeft, Rests, bound}
use Rattle.mend_policy.specs.Mend.{reaches_from, call, mend_of}
use Rattle.mend_policy.specs.MendClaim.{Follows, Round, NumbersFor, mend_events, Mends, NotLost}
use Rattle.mend_theory.proofs.Named.{names, names-call}
use Rattle.mend_theory.proofs.Holds.{mend-holds}
use Rattle.cases.specs.Opened.{opened}
use Rattle.cases.specs.Build.{memory_in}
use Rattle.cases.specs.Calls.{write}
use Rattle.cases.proofs.Tests.{holds, live, state_in}
use Rattle.mend_cases.specs.Stores.{followed, junk}

abbrev pub user : History
user =
    record {
      heading = Second;
      found = replicate (length_for 1 2 4 4) 0xDD;
      pages = 1;
      slots = 2;
      records = 4;
      notes = 4;
      events = followed;
    }

abbrev made : ℕ
made = refusal_of (make_of Second (replicate (length_for 1 2 4 4) 0xDD) 1 2 4 4).answer

pub legal : Legal user
unfolding opened
legal = record { make = eqb→eq made 0 tt; events = holds (all_allowed (fresh user) user.events) tt }

abbrev pub m : List ℕ
m = memory_in (reached user).power

abbrev pub s : State
s = state_in (reached user).power

pub is-on : (reached user).power ≡ on m s
unfolding opened
is-on = live (reached user).power tt

-- every call was asked for first, and made only where upkeep was idle or named it
follows-upkeep : disciplined 2 1 1 (fresh user) 0 user.events ≡ true
unfolding opened
follows-upkeep = holds (disciplined 2 1 1 (fresh user) 0 user.events) tt

by-idle : (a : Advice) → T (is_idle a) → a ≡ idle
by-idle idle t = refl
by-idle (stuck p) t = absurd t
by-idle (make c) t = absurd t

pub at_rest : upkeep_of (reached user).volume m s 2 ≡ idle
unfolding opened
at_rest = by-idle (upkeep_of (reached user).volume m s 2) tt

-- the own image is out of reach, and the page has a written note: M2
pub named : mend_of (reached user).volume m s 2 1 ≡ call (write 1)
unfolding opened mend_of reaches_from
named = names-call (mend_of (reached user).volume m s 2 1) (write 1) (holds (names (mend_of (reached user).volume m s 2 1) (write 1)) tt)

-- ---- ME1

pub still-follows : Follows user 2 1 1 (write 1)
still-follows =
    mend-holds.mend_follows user legal 2 1 1 follows-upkeep m s is-on at_rest 1 (omega arith) (omega arith) (write 1) named

roomy : Roomy user 1 1
roomy =
    record {
      second = refl;
      turns = omega arith;
      slots = omega arith;
      notes = omega arith;
      reserve = inr (omega arith);
    }

numbers-left : NumbersLeft user s 1
unfolding opened
numbers-left =
    record {
      durable = leb-true (s.durable + 1 + 2) top_number (holds (leb (s.durable + 1 + 2) top_number) tt);
      notes = leb-true (s.notes + 1 + 1 + 2) top_number (holds (leb (s.notes + 1 + 1 + 2) top_number) tt);
    }

-- so upkeep rests again, within 9 calls
pub rests-again : let k = extended user (perform (write 1) ∷ []) in
    (n : ℕ) × (n ≤ bound 1 1) × Rests 2 (reached (extended k (upkeep_events 2 n (reached k))))
rests-again =
    mend-holds.mend_rests user legal 2 1 1 roomy (λ t. omega arith) refl follows-upkeep m s is-on at_rest numbers-left 1
    (omega arith) (omega arith) (write 1) named

-- ---- ME2, one round: the page is whole where upkeep rests, if it has stored at most L - G records (here it stores none)

pub round : let k = extended user (perform (write 1) ∷ []) in
    (n : ℕ) × (n ≤ bound 1 1) × Round user 2 1 1 1 (write 1) (extended k (upkeep_events 2 n (reached k)))
round =
    mend-holds.round_mends user legal 2 1 1 roomy (λ t. omega arith) refl follows-upkeep m s is-on at_rest numbers-left 1
    (omega arith) (omega arith) (write 1) named

-- ---- ME2: so mending of the page ends, within 31 calls

numbers-for : NumbersFor user s 1 40
unfolding opened
numbers-for =
    record {
      durable = leb-true (s.durable + 40 + 1 + 2) top_number (holds (leb (s.durable + 40 + 1 + 2) top_number) tt);
      notes = leb-true (s.notes + 40 + 1 + 1 + 2) top_number (holds (leb (s.notes + 40 + 1 + 1 + 2) top_number) tt);
    }

pub ends : Mends user 2 1 1 1 (mend_events 2 1 9 4 (reached user))
ends =
    mend-holds.mend_ends user legal 2 1 1 roomy (λ t. omega arith) refl follows-upkeep m s is-on at_rest numbers-for (omega arith) 1
    (omega arith) (omega arith)

-- here it makes two, the Write and upkeep's Note
pub made-two : length (mend_events 2 1 9 4 (reached user)) ≡ 2
unfolding opened mend_of reaches_from mend_events
made-two = eqb→eq (length (mend_events 2 1 9 4 (reached user))) 2 tt

-- ---- ME5: the Write is left torn, so that the own image is gone; the page is not

abbrev pub torn_write : Event
torn_write = crash_in (write 1) (torn junk)

torn-legal : Legal (extended user (torn_write ∷ []))
unfolding opened
torn-legal =
    record {
      make = eqb→eq made 0 tt;
      events = holds (all_allowed (fresh user) (extended user (torn_write ∷ [])).events) tt;
    }

there : inspection user 1 (replicate 256 0) ≡ 0
unfolding opened
there = eqb→eq (inspection user 1 (replicate 256 0)) 0 tt

pub not-lost : NotLost (extended user (torn_write ∷ [])) 1
not-lost =
    (mend-holds.mend_risks_nothing user legal m s is-on 2 1 (write 1) named torn_write refl torn-legal).1 1 (omega arith)
    (omega arith) (replicate 256 0) (length-replicate {A = ℕ} 256 0) (λ z. let y = there in omega (arith, y, z))

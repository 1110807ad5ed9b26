-- Mending's theorems applied to the store of Stores, where they only just hold: P 1, B 2, L 4, N 4, a margin of one record.
use Prim.Native.Nat.{ℕ, ◌≤◌, ◌<◌}
use mathlib.Core.Path.{◌≡◌, refl}
use mathlib.Core.Logic.{◌⊎◌}
use mathlib.Core.Bool.{true, false}
use mathlib.Core.List.{List, ◌∷◌}
use native.Mathlib.Omega.{arith}
use lib.Dec.{leb, eqb→eq}
use lib.ListN.{replicate, length-replicate}
use borrow.Author.Tests.{leb-true}
use Rattle.model.specs.Geometry.{ring, geometry_of, length_for}
use Rattle.model.specs.Outcome.{refusal_of}
use Rattle.model.specs.Restart.{make_of}
use Rattle.model.specs.History.{Event, all_allowed}
use Rattle.model.specs.Claim.{History, Legal, fresh, reached, inspection}
use Rattle.model.specs.RingClaim.{run_start}
use Rattle.model.specs.declared.geometry.Heading.TheVariants.{Second}
use Rattle.upkeep_policy.specs.UpkeepClaim.{extended}
use Rattle.mend_policy.specs.Mend.{reaches_from}
use Rattle.mend_policy.specs.MendClaim.{stands_on, whole_on, start_left, none_owed, spares_backup, spares_own, NotLost}
use Rattle.mend_theory.proofs.Holds.{mend-holds}
use Rattle.cases.specs.Opened.{opened}
use Rattle.cases.proofs.Tests.{holds}
use Rattle.mend_cases.specs.Stores.{at_edge, one_more, two_more, spoil_own, cut_off}

abbrev pub edge : History
edge =
    record {
      heading = Second;
      found = replicate (length_for 1 2 4 4) 0xDD;
      pages = 1;
      slots = 2;
      records = 4;
      notes = 4;
      events = at_edge;
    }

abbrev made : ℕ
made = refusal_of (make_of Second (replicate (length_for 1 2 4 4) 0xDD) 1 2 4 4).answer

legal : Legal edge
unfolding opened
legal = record { make = eqb→eq made 0 tt; events = holds (all_allowed (fresh edge) edge.events) tt }

turns : ring (geometry_of (reached edge).volume) ≡ true
unfolding opened
turns = holds (ring (geometry_of (reached edge).volume)) tt

unowed : none_owed (reached edge).power ≡ true
unfolding opened
unowed = holds (none_owed (reached edge).power) tt

backed : stands_on (reached edge).volume 1 ≡ true
unfolding opened
backed = holds (stands_on (reached edge).volume 1) tt

intact : whole_on (reached edge).volume 1 ≡ true
unfolding opened reaches_from
intact = holds (whole_on (reached edge).volume 1) tt

-- ---- ME4 (a): the own image fails and the power is cut, its backup is spared

abbrev pub own_fails : List Event
own_fails = spoil_own ∷ cut_off

own-legal : Legal (extended edge own_fails)
unfolding opened
own-legal =
    record { make = eqb→eq made 0 tt; events = holds (all_allowed (fresh edge) (extended edge own_fails).events) tt }

backup-spared : spares_backup 1 (reached edge) own_fails ≡ true
unfolding opened spares_backup
backup-spared = holds (spares_backup 1 (reached edge) own_fails) tt

pub by-backup : (stands_on (reached (extended edge own_fails)).volume 1 ≡ true) × NotLost (extended edge own_fails) 1
by-backup =
    mend-holds.backup_holds edge legal 1 (omega arith) (omega arith) turns unowed backed own_fails own-legal refl
    backup-spared

-- ---- ME4 (b): the backup fails, and as many records come as the margin is

margin-legal : Legal (extended edge one_more)
unfolding opened
margin-legal =
    record { make = eqb→eq made 0 tt; events = holds (all_allowed (fresh edge) (extended edge one_more).events) tt }

in_reach : run_start (reached (extended edge one_more)).volume ≤ start_left (reached edge).volume
unfolding opened
in_reach =
    leb-true (run_start (reached (extended edge one_more)).volume) (start_left (reached edge).volume)
    (holds (leb (run_start (reached (extended edge one_more)).volume) (start_left (reached edge).volume)) tt)

pub by-own : NotLost (extended edge one_more) 1
by-own =
    mend-holds.own_holds edge legal 1 (omega arith) (omega arith) turns unowed intact one_more margin-legal refl refl
    in_reach

-- ---- one record further the page is lost, and the theorem names both failures: the backup was hit, and the run starts
-- later than the margin lets it

further-legal : Legal (extended edge two_more)
unfolding opened
further-legal =
    record { make = eqb→eq made 0 tt; events = holds (all_allowed (fresh edge) (extended edge two_more).events) tt }

is_lost : inspection (extended edge two_more) 1 (replicate 256 0) ≡ 23
unfolding opened
is_lost = eqb→eq (inspection (extended edge two_more) 1 (replicate 256 0)) 23 tt

pub by_two : (spares_backup 1 (reached edge) two_more ≡ false)
    × ((spares_own 1 two_more ≡ false)
    ⊎ (start_left (reached edge).volume < run_start (reached (extended edge two_more)).volume))
by_two =
    mend-holds.two_failures edge legal 1 (omega arith) (omega arith) turns unowed backed intact two_more further-legal refl
    (replicate 256 0) (length-replicate {A = ℕ} 256 0) is_lost

-- The facts of the rings at three histories, so that their hypotheses are met: record 1 has left and is spare; a note is about to overwrite
-- one that stands whole, which has a later one of its page and kind; and a page whose backup was damaged cannot be rebuilt.
use Prim.Native.Nat.{ℕ, ◌<◌}
use mathlib.Core.Path.{◌≡◌, refl}
use mathlib.Core.Bool.{Bool, true, false}
use mathlib.Core.List.{List, [], ◌∷◌, ◌++◌}
use native.Mathlib.Omega.{arith}
use lib.Dec.{T, eqb, leb, eqb→eq}
use lib.ListN.{length, take, replicate}
use borrow.Author.Tests.{leb-true}
use Rattle.model.specs.Checksum.{sealed}
use Rattle.model.specs.Geometry.{page_at, slot_at, record_at, note_at, length_for, geometry_of, item}
use Rattle.model.specs.Item.{note_of}
use Rattle.model.specs.Outcome.{StoredItem, nothing, one_item, new_heading, refusal_of}
use Rattle.model.specs.Calls.{outcome_of}
use Rattle.model.specs.Restart.{make_of}
use Rattle.cases.specs.Calls.{note}
use Rattle.model.specs.AbstractLog.{last_place}
use Rattle.model.specs.History.{on, damage, all_allowed}
use Rattle.model.specs.Claim.{History, Legal, fresh, reached, durable_of, inspection}
use Rattle.model.specs.RingClaim.{ChangeOf, SpareRecord, SpareNote, run_start, Unrepairable}
use Rattle.model.specs.declared.{geometry.Heading.TheVariants.Second, state.State.State}
use Rattle.cases.specs.Opened.{opened}
use Rattle.cases.specs.Build.{memory_in}
use Rattle.cases.specs.Rings.{turned, notes_turn}
use Rattle.cases.proofs.Tests.{holds, live, state_in}
use Rattle.history.proofs.Rings.{rings}
use Rattle.instances.proofs.Rings.{ring_history, legal}

-- ---- record 1 has left, and is spare

first-change : ChangeOf (durable_of ring_history) 1 1
unfolding opened
first-change =
    record {
      low = omega arith;
      high = leb-true 1 (length (durable_of ring_history)) (holds (leb 1 (length (durable_of ring_history))) tt);
      last = eqb→eq (last_place 1 (take 1 (durable_of ring_history))) 1 tt;
    }

starts-later : 1 < run_start (reached ring_history).volume
unfolding opened
starts-later = leb-true 2 (run_start (reached ring_history).volume) (holds (leb 2 (run_start (reached ring_history).volume)) tt)

pub spare-record : SpareRecord (reached ring_history).volume 1 1
spare-record = rings.lost ring_history legal 1 1 first-change starts-later

-- ---- two written notes stand, and a backup's note is to overwrite the first

abbrev pub notes_turned : History
notes_turned =
    record {
      heading = Second;
      found = replicate (length_for 1 1 4 2) 0xDD;
      pages = 1;
      slots = 1;
      records = 4;
      notes = 2;
      events = notes_turn;
    }

turn-legal : Legal notes_turned
unfolding opened
turn-legal =
    record {
      make = eqb→eq (refusal_of (make_of Second (replicate (length_for 1 1 4 2) 0xDD) 1 1 4 2).answer) 0 tt;
      events = holds (all_allowed (fresh notes_turned) notes_turned.events) tt;
    }

abbrev bytes_in : StoredItem → List ℕ
bytes_in nothing = []
bytes_in (one_item at xs) = xs
bytes_in (new_heading tag) = []

abbrev in_note : ℕ → StoredItem → Bool
in_note i nothing = false
in_note i (one_item (page_at j) xs) = false
in_note i (one_item (slot_at j) xs) = false
in_note i (one_item (record_at j) xs) = false
in_note i (one_item (note_at j) xs) = eqb j i
in_note i (new_heading tag) = false

note-is : (i : ℕ) (x : StoredItem) → T (in_note i x) → x ≡ one_item (note_at i) (bytes_in x)
note-is i nothing t = absurd t
note-is i (one_item (page_at j) xs) t = absurd t
note-is i (one_item (slot_at j) xs) t = absurd t
note-is i (one_item (record_at j) xs) t = absurd t
note-is i (one_item (note_at j) xs) t = let e : j ≡ i = eqb→eq j i t in rw e
note-is i (new_heading tag) t = absurd t

abbrev m : List ℕ
m = memory_in (reached notes_turned).power

abbrev s : State
s = state_in (reached notes_turned).power

turn_on : (reached notes_turned).power ≡ on m s
unfolding opened
turn_on = live (reached notes_turned).power tt

overwrites : (outcome_of note (reached notes_turned).volume m s).stored
    ≡ one_item (note_at 1) (bytes_in (outcome_of note (reached notes_turned).volume m s).stored)
unfolding opened
overwrites = note-is 1 (outcome_of note (reached notes_turned).volume m s).stored tt

stands : sealed 12 (item (geometry_of (reached notes_turned).volume) (reached notes_turned).volume (note_at 1)) ≡ true
unfolding opened
stands = holds (sealed 12 (item (geometry_of (reached notes_turned).volume) (reached notes_turned).volume (note_at 1))) tt

pub spare-note : SpareNote (reached notes_turned).volume 1
    (note_of (item (geometry_of (reached notes_turned).volume) (reached notes_turned).volume (note_at 1)))
spare-note =
    rings.notes notes_turned turn-legal m s turn_on note 1
    (bytes_in (outcome_of note (reached notes_turned).volume m s).stored) overwrites stands

-- ---- the ring that has turned, its backup damaged

abbrev pub lost_page : History
lost_page =
    record {
      heading = Second;
      found = replicate (length_for 1 1 2 2) 0xDD;
      pages = 1;
      slots = 1;
      records = 2;
      notes = 2;
      events = turned ++ (damage (slot_at 1) (replicate 256 0) ∷ []);
    }

pub lost-legal : Legal lost_page
unfolding opened
lost-legal =
    record {
      make = eqb→eq (refusal_of (make_of Second (replicate (length_for 1 1 2 2) 0xDD) 1 1 2 2).answer) 0 tt;
      events = holds (all_allowed (fresh lost_page) lost_page.events) tt;
    }

answers-23 : inspection lost_page 1 (replicate 256 0) ≡ 23
unfolding opened
answers-23 = eqb→eq (inspection lost_page 1 (replicate 256 0)) 23 tt

pub unrepairable : (n : ℕ) × Unrepairable lost_page 1 n
unrepairable = (rings.inspects lost_page lost-legal 1 (omega arith) (omega arith) (replicate 256 0) refl).0 answers-23

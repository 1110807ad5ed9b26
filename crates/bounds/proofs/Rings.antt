-- A ring that has turned, at the bounds of demand 2: with its noted backup damaged, 23 and the proviso fails; with the backup whole, a page
-- that was let go is loaded with the replay of its changes.
use Prim.Native.Nat.{ℕ}
use mathlib.Core.Path.{◌≡◌}
use mathlib.Core.List.{List, [], ◌∷◌, ◌++◌}
use native.Mathlib.Omega.{arith}
use lib.Dec.{eqb→eq}
use lib.ListN.{replicate, length-replicate}
use Rattle.model.specs.Geometry.{length_for, slot_at}
use Rattle.model.specs.Item.{frame_image}
use Rattle.model.specs.State.{frame_bytes}
use Rattle.model.specs.Outcome.{refusal_of}
use Rattle.model.specs.Calls.{load_of}
use Rattle.model.specs.Restart.{make_of}
use Rattle.cases.specs.Calls.{release}
use Rattle.model.specs.AbstractLog.{last_place, replay}
use Rattle.model.specs.History.{on, Event, perform, damage, all_allowed}
use Rattle.model.specs.Claim.{History, Legal, Gone, Proviso, fresh, reached, durable_of, inspection}
use Rattle.model.specs.declared.{geometry.Heading.TheVariants.Second, state.State.State}
use Rattle.cases.specs.Opened.{opened}
use Rattle.cases.specs.Build.{buffer}
use Rattle.cases.specs.Rings.{turned}
use Rattle.history.proofs.Theorem.{demand2}
use Rattle.cases.specs.Build.{memory_in}
use Rattle.cases.proofs.Tests.{holds, live, state_in}

-- the ring of `cases`: records 2 and 3 stand, 1 has left; and what comes then
abbrev turned_and : List Event → History
turned_and es =
    record {
      heading = Second;
      found = replicate (length_for 1 1 2 2) 0xDD;
      pages = 1;
      slots = 1;
      records = 2;
      notes = 2;
      events = turned ++ es;
    }

made : refusal_of (make_of Second (replicate (length_for 1 1 2 2) 0xDD) 1 1 2 2).answer ≡ 0
unfolding opened
made = eqb→eq (refusal_of (make_of Second (replicate (length_for 1 1 2 2) 0xDD) 1 1 2 2).answer) 0 tt

-- ---- the backup damaged

abbrev lost : History
lost = turned_and (damage (slot_at 1) (replicate 256 1) ∷ [])

lost-legal : Legal lost
unfolding opened
lost-legal = record { make = made; events = holds (all_allowed (fresh lost) lost.events) tt }

lost-refused : inspection lost 1 buffer ≡ 23
unfolding opened
lost-refused = eqb→eq (inspection lost 1 buffer) 23 tt

pub backup-lost : Gone lost × (Proviso lost 1 → ⊥)
backup-lost =
    (demand2.inspects lost lost-legal 1 (omega arith) (omega arith) buffer (length-replicate {A = ℕ} 256 0xAA)).below lost-refused

-- ---- let go and opened

abbrev released : History
released = turned_and (perform (release 1) ∷ [])

abbrev m : List ℕ
m = memory_in (reached released).power

abbrev s : State
s = state_in (reached released).power

released-legal : Legal released
unfolding opened
released-legal = record { make = made; events = holds (all_allowed (fresh released) released.events) tt }

is-on : (reached released).power ≡ on m s
unfolding opened
is-on = live (reached released).power tt

load-taken : refusal_of (load_of (reached released).volume m s 1 1).answer ≡ 0
unfolding opened
load-taken = eqb→eq (refusal_of (load_of (reached released).volume m s 1 1).answer) 0 tt

pub opened-again : frame_bytes (load_of (reached released).volume m s 1 1).memory 1
    ≡ frame_image 1 (last_place 1 (durable_of released)) (replay 1 (durable_of released))
opened-again = ((demand2.loads released released-legal m s is-on 1 1).loaded load-taken).1

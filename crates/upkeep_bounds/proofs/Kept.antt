-- T3 and T4 at their bounds: a Force that upkeep advises leaves the text of the last page and the last frame; and a page
-- that is lost had its noted backup damaged.
use Prim.Native.Nat.{ℕ}
use mathlib.Core.Path.{◌≡◌, refl}
use mathlib.Core.Logic.{◌↔◌}
use mathlib.Core.Bool.{false}
use mathlib.Core.List.{List, [], ◌∷◌, ◌++◌}
use native.Mathlib.Omega.{arith}
use lib.Dec.{eqb→eq}
use lib.ListN.{length, replicate}
use Rattle.model.specs.Geometry.{slot_at, length_for}
use Rattle.model.specs.Item.{image_body}
use Rattle.model.specs.State.{frame_count, frame_bytes, frame_of, held}
use Rattle.model.specs.Outcome.{refusal_of}
use Rattle.model.specs.Calls.{outcome_of, load_of}
use Rattle.model.specs.AbstractLog.{replay, last_place}
use Rattle.model.specs.Restart.{make_of}
use Rattle.model.specs.History.{on, perform, damage, all_allowed}
use Rattle.model.specs.Claim.{History, Legal, fresh, reached, Gone, Proviso}
use Rattle.model.specs.declared.{geometry.Heading.TheVariants.Second, state.State.State}
use Rattle.upkeep_policy.specs.Upkeep.{make, upkeep_of}
use Rattle.upkeep_policy.specs.UpkeepClaim.{extended, all_of, SameText, SameFrame, LostIn}
use Rattle.upkeep_theory.proofs.Holds.{upkeep-holds}
use Rattle.cases.specs.Opened.{opened}
use Rattle.cases.specs.Build.{memory_in}
use Rattle.cases.specs.Calls.{force, release}
use Rattle.cases.specs.Rings.{turned}
use Rattle.cases.proofs.Tests.{holds, fails, live, state_in}
use Rattle.upkeep_bounds.proofs.TwoPages.{two_pages, legal, is-on}

abbrev s : State
s = state_in (reached two_pages).power

abbrev m : List ℕ
m = memory_in (reached two_pages).power

-- ---- T3

-- whichever frame is upkeep's
advised : upkeep_of (reached two_pages).volume m s 1 ≡ make force
unfolding opened
advised = refl

text : SameText two_pages (extended two_pages (perform force ∷ [])) 2
text = upkeep-holds.text_stays two_pages legal m s is-on 1 force advised 2 (omega arith) (omega arith)

pub last-page : (replay 2 (all_of (extended two_pages (perform force ∷ []))) ≡ replay 2 (all_of two_pages))
    × ((last_place 2 (all_of (extended two_pages (perform force ∷ []))) ≡ 0) ↔ (last_place 2 (all_of two_pages) ≡ 0))
last-page = (text.body, text.blank)

three-frames : frame_count (length m) ≡ 3
unfolding opened
three-frames = eqb→eq (frame_count (length m)) 3 tt

kept : SameFrame m s (outcome_of force (reached two_pages).volume m s).memory (outcome_of force (reached two_pages).volume m s).state 3
kept =
    upkeep-holds.frames_stay two_pages legal m s is-on 1 force advised 3 (omega arith) (omega (arith, three-frames)) (λ e. omega (arith, e))

pub last_frame : ((frame_of (outcome_of force (reached two_pages).volume m s).state 3).page ≡ (frame_of s 3).page)
    × (image_body (frame_bytes (outcome_of force (reached two_pages).volume m s).memory 3) ≡ image_body (frame_bytes m 3))
last_frame = (kept.page, kept.body)

-- ---- T4

-- record 1 has left the log; page 1 was let go, and its noted backup damaged
abbrev lost : History
lost =
    record {
      heading = Second;
      found = replicate (length_for 1 2 2 2) 0xDD;
      pages = 1;
      slots = 2;
      records = 2;
      notes = 2;
      events = turned ++ (perform (release 1) ∷ damage (slot_at 1) (replicate 256 1) ∷ []);
    }

lost-legal : Legal lost
unfolding opened
lost-legal =
    record {
      make = eqb→eq (refusal_of (make_of Second (replicate (length_for 1 2 2 2) 0xDD) 1 2 2 2).answer) 0 tt;
      events = holds (all_allowed (fresh lost) lost.events) tt;
    }

abbrev lost_state : State
lost_state = state_in (reached lost).power

abbrev lost_memory : List ℕ
lost_memory = memory_in (reached lost).power

lost-on : (reached lost).power ≡ on lost_memory lost_state
unfolding opened
lost-on = live (reached lost).power tt

not-held : held lost_state 1 ≡ false
unfolding opened
not-held = fails (held lost_state 1) tt

refused : refusal_of (load_of (reached lost).volume lost_memory lost_state 1 1).answer ≡ 23
unfolding opened
refused = eqb→eq (refusal_of (load_of (reached lost).volume lost_memory lost_state 1 1).answer) 23 tt

is_lost : LostIn 1 (reached lost).power (reached lost).volume 1
is_lost = rw lost-on (not-held, refused)

pub backup-lost : Gone lost × (Proviso lost 1 → ⊥)
backup-lost = upkeep-holds.lost_is_lost lost lost-legal 1 1 is_lost

-- Rings without damage, as instances of `RingClaim`: the proviso holds by itself of one whose record 1 has left, and so
-- demand 3 does. It shows what a longer log of the same three changes shows, which still has record 1, and not what a
-- log of the first two shows. With its backup damaged the proviso does not hold.
use Prim.Native.Nat.{ℕ, ◌≤◌}
use mathlib.Core.Path.{◌≡◌, refl, ap, sym, ◌∙◌}
use mathlib.Core.Bool.{false}
use mathlib.Core.List.{List, [], ◌∷◌, ◌++◌, append-nil}
use native.Mathlib.Omega.{arith}
use lib.Dec.{eqb→eq}
use lib.ListN.{length, replicate, length-replicate}
use Rattle.model.specs.History.{Event, perform, all_allowed}
use Rattle.model.specs.AbstractLog.{Logged}
use Rattle.model.specs.Claim.{History, Legal, Safe, Proviso, fresh, durable_of, inspection, Agree, Begins}
use Rattle.model.specs.RingClaim.{undamaged}
use Rattle.model.specs.declared.geometry.Heading.TheVariants.{Second}
use Rattle.cases.specs.Opened.{opened}
use Rattle.cases.specs.Calls.{force}
use Rattle.cases.specs.Prologues.{page_forced}
use Rattle.cases.specs.Rings.{put}
use Rattle.cases.specs.Worked.{history_with, makes}
use Rattle.cases.proofs.Tests.{holds}
use Rattle.history.proofs.Rings.{rings}
use Rattle.history.proofs.Theorem.{demand2}
use Rattle.instances.proofs.Rings.{ring_history, legal, gone}
use Rattle.instances.proofs.RingFacts.{lost_page, lost-legal}

-- ---- the proviso

pub ring-safe : Safe ring_history
ring-safe = rings.safe ring_history legal refl

pub stands : Proviso ring_history 1
stands = ring-safe gone 1 (omega arith) (omega arith)

-- with its backup damaged the ring is not safe, and the hypothesis does not hold
pub damaged : undamaged lost_page.events ≡ false
damaged = refl

lost-refused : inspection lost_page 1 (replicate 256 0) ≡ 23
unfolding opened
lost-refused = eqb→eq (inspection lost_page 1 (replicate 256 0)) 23 tt

pub damaged-unsafe : Safe lost_page → ⊥
damaged-unsafe safe =
    let b = (demand2.inspects lost_page lost-legal 1 (omega arith) (omega arith) (replicate 256 0)
    (length-replicate {A = ℕ} 256 0)).below lost-refused in
    b.1 (safe b.0 1 (omega arith) (omega arith))

-- ---- two histories

abbrev two : List Event
two = page_forced 1 ++ (perform (put 2) ∷ perform force ∷ [])

abbrev pub shorter : History
shorter = history_with Second 1 2 4 4 two

abbrev pub longer : History
longer = history_with Second 1 2 4 4 (two ++ (perform (put 3) ∷ perform force ∷ []))

short-legal : Legal shorter
unfolding opened
short-legal =
    record { make = eqb→eq (makes shorter) 0 tt; events = holds (all_allowed (fresh shorter) shorter.events) tt }

long-legal : Legal longer
unfolding opened
long-legal =
    record { make = eqb→eq (makes longer) 0 tt; events = holds (all_allowed (fresh longer) longer.events) tt }

same-list : durable_of longer ≡ durable_of ring_history
unfolding opened
same-list = refl

three : length (durable_of ring_history) ≡ 3
unfolding opened
three = eqb→eq (length (durable_of ring_history)) 3 tt

two-kept : length (durable_of shorter) ≡ 2
unfolding opened
two-kept = eqb→eq (length (durable_of shorter)) 2 tt

begins : Begins (durable_of shorter) (durable_of ring_history)
unfolding opened
begins = (_, refl)

-- every page agrees
abbrev AllAgree : History → History → List ℕ → List ℕ → Type 0
AllAgree h k x y = (p : ℕ) → 1 ≤ p → p ≤ 1 → Agree h k x y p

all_of : (l : List Logged) → Begins l l
all_of l = ([], append-nil l)

-- as many: the turned ring and the log that has not turned show the same
pub same-pages : (x y : List ℕ) → length x ≡ 256 → length y ≡ 256 → AllAgree ring_history longer x y
same-pages x y sx sy =
    (rings.demand3 ring_history longer legal long-legal refl refl refl (durable_of ring_history)
    (all_of (durable_of ring_history)) ([], append-nil (durable_of longer) ∙ same-list) x y sx sy).1
    (ap length (sym same-list))

-- one fewer: some page differs
pub other-page : (x y : List ℕ) → length x ≡ 256 → length y ≡ 256 → AllAgree ring_history shorter x y → ⊥
other-page x y sx sy a =
    let e = (rings.demand3 ring_history shorter legal short-legal refl refl refl (durable_of ring_history)
    (all_of (durable_of ring_history)) begins x y sx sy).0 a in
    omega (arith, e, three, two-kept)

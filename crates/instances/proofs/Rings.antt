-- A ring whose record 1 has left, as an instance of the theorem: the history is legal and gone, by computation, and so inspection shows the
-- replay of its three changes, by theorems C and B. So the hypotheses of the theorems are met by a ring that has turned.
use Prim.Native.Nat.{ℕ}
use mathlib.Core.Path.{◌≡◌, refl}
use mathlib.Core.List.{List}
use native.Mathlib.Omega.{arith}
use lib.Dec.{eqb→eq}
use lib.ListN.{length, replicate}
use Rattle.model.specs.Geometry.{length_for}
use Rattle.model.specs.Outcome.{refusal_of}
use Rattle.model.specs.Restart.{make_of}
use Rattle.model.specs.AbstractLog.{last_place}
use Rattle.model.specs.History.{all_allowed}
use Rattle.model.specs.Claim.{History, Legal, Gone, fresh, durable_of, ShowsReplay}
use Rattle.model.specs.declared.geometry.Heading.TheVariants.{Second}
use Rattle.cases.specs.Opened.{opened}
use Rattle.cases.specs.Rings.{turned}
use Rattle.cases.proofs.Tests.{holds}
use Rattle.history.proofs.Theorem.{demand2}
use Rattle.history.proofs.Lost.{undamaged-safe}

abbrev pub ring_history : History
ring_history =
    record { heading = Second; found = replicate (length_for 1 1 2 2) 0xDD; pages = 1; slots = 1; records = 2; notes = 2; events = turned }

pub legal : Legal ring_history
unfolding opened
legal =
    record {
      make = eqb→eq (refusal_of (make_of Second (replicate (length_for 1 1 2 2) 0xDD) 1 1 2 2).answer) 0 tt;
      events = holds (all_allowed (fresh ring_history) turned) tt;
    }

pub gone : Gone ring_history
unfolding opened
gone = holds _ tt

last-is : last_place 1 (durable_of ring_history) ≡ 3
unfolding opened
last-is = eqb→eq (last_place 1 (durable_of ring_history)) 3 tt

pub shows : (buffer : List ℕ) → length buffer ≡ 256 → ShowsReplay ring_history 1 buffer
shows buffer size =
    (demand2.inspects ring_history legal 1 (omega arith) (omega arith) buffer size).granted (λ z. omega (arith, last-is))
    (λ g. undamaged-safe ring_history legal refl g 1 (omega arith) (omega arith))

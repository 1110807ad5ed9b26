-- What is shown of one page after two short histories: inspections that are the same agree, none is Ahead, and the archive rebuilds it.
use Prim.Native.Nat.{ℕ}
use mathlib.Core.Path.{◌≡◌, refl, sym, ◌∙◌}
use mathlib.Core.Logic.{◌≢◌, inr}
use mathlib.Core.List.{List}
use native.Mathlib.Omega.{arith}
use lib.Dec.{eqb→eq}
use lib.ListN.{replicate, length-replicate}
use Rattle.model.specs.Bytes.{part}
use Rattle.model.specs.Restart.{inspect_of}
use Rattle.model.specs.History.{all_allowed}
use Rattle.model.specs.Claim.{History, Legal, fresh, reached, inspection, Agree}
use Rattle.model.specs.Health.{Same}
use Rattle.reports.specs.Archive.{archive_of, read_of, image_at, Rebuilds}
use Rattle.model.specs.declared.answer.Repair.{Repair}
use Rattle.model.specs.declared.geometry.Heading.TheVariants.{First, Second}
use Rattle.model.specs.declared.answer.Class.TheVariants.{Good, Ahead}
use Rattle.model.specs.declared.answer.Answer.TheVariants.{Done, Repaired}
use Rattle.model.specs.declared.answer.Start.TheVariants.{Own}
use Rattle.cases.specs.Opened.{opened}
use Rattle.cases.specs.Build.{buffer}
use Rattle.cases.specs.Worked.{history_of, makes}
use Rattle.cases.specs.Repairs.{healthy}
use Rattle.cases.proofs.Cases.{equal}
use Rattle.history.proofs.Health.{never-ahead, same-agrees}
use Rattle.reports_theory.proofs.Archive.{archive}
use Rattle.cases.proofs.Tests.{holds}

-- page 1 written and noted, P 1, under the first heading and under the second
abbrev words : History
words = history_of (healthy First)

abbrev bytes : History
bytes = history_of (healthy Second)

bytes-legal : Legal bytes
unfolding opened
bytes-legal = record { make = eqb→eq (makes bytes) 0 tt; events = holds (all_allowed (fresh bytes) bytes.events) tt }

abbrev good : Repair
good = record { class = Good; start = Own; count = 0 }

words-good : (inspect_of (reached words).volume 1 buffer).answer ≡ Repaired good
unfolding opened
words-good = refl

bytes_good : (inspect_of (reached bytes).volume 1 buffer).answer ≡ Repaired good
unfolding opened
bytes_good = refl

same_bytes : part (inspect_of (reached words).volume 1 buffer).buffer 4 248 ≡ part (inspect_of (reached bytes).volume 1 buffer).buffer 4 248
unfolding opened
same_bytes =
    equal (part (inspect_of (reached words).volume 1 buffer).buffer 4 248)
    (part (inspect_of (reached bytes).volume 1 buffer).buffer 4 248) tt

taken : inspection words 1 buffer ≡ 0
unfolding opened
taken = eqb→eq (inspection words 1 buffer) 0 tt

same : Same (inspect_of (reached words).volume 1 buffer) (inspect_of (reached bytes).volume 1 buffer)
same = record { answer = words-good ∙ sym bytes_good; bytes = λ e. same_bytes }

pub same-page : Agree words bytes buffer buffer 1
same-page = same-agrees words bytes buffer buffer 1 same (inr taken)

-- (of bytes that no history leaves, K10 is Ahead)
pub not-ahead : (p : ℕ) (x : List ℕ) (r : Repair) → (inspect_of (reached bytes).volume p x).answer ≡ Repaired r → r.class ≢ Ahead
not-ahead = never-ahead.inspects bytes bytes-legal

-- ---- the archive: a record behind its count, and an area of one image

abbrev room : List ℕ
room = replicate 68 0

abbrev area : List ℕ
area = replicate 256 0xBB

written : (archive_of (reached bytes).volume room).answer ≡ Done
unfolding opened
written = refl

pub rebuilt : Rebuilds bytes (image_at (read_of (archive_of (reached bytes).volume room).buffer area).buffer 1) 1 buffer
rebuilt =
    (archive bytes bytes-legal room written area (length-replicate {A = ℕ} 256 0xBB)).1 1 (omega arith) (omega arith) buffer
    (length-replicate {A = ℕ} 256 0xAA)

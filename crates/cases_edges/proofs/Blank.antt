-- An archive of two pages, the last of them blank: read back it is zeros, and page 1 is what inspection shows of it.
use Prim.Native.Nat.{ℕ}
use mathlib.Core.Path.{◌≡◌, refl}
use mathlib.Core.List.{List, [], ◌∷◌}
use native.Mathlib.Omega.{arith}
use lib.Dec.{eqb→eq}
use lib.ListN.{replicate, length-replicate}
use Rattle.model.specs.Bytes.{part}
use Rattle.model.specs.Geometry.{length_for}
use Rattle.model.specs.Item.{image_page}
use Rattle.model.specs.Outcome.{refusal_of}
use Rattle.model.specs.Restart.{make_of}
use Rattle.model.specs.History.{all_allowed}
use Rattle.model.specs.Claim.{History, Legal, fresh, reached, inspection, shown}
use Rattle.model.specs.declared.{geometry.Heading.TheVariants.Second, answer.Answer.TheVariants.Done}
use Rattle.reports.specs.Archive.{archive_of, read_of, image_at, Rebuilds}
use Rattle.reports_theory.proofs.Archive.{archive}
use Rattle.cases.specs.Opened.{opened}
use Rattle.cases.specs.Build.{buffer}
use Rattle.cases.specs.Prologues.{page_forced}
use Rattle.cases.proofs.Tests.{holds}

abbrev h : History
h =
    record {
      heading = Second;
      found = replicate (length_for 2 0 2 2) 0xDD;
      pages = 2;
      slots = 0;
      records = 2;
      notes = 2;
      events = page_forced 1;
    }

legal : Legal h
unfolding opened
legal =
    record {
      make = eqb→eq (refusal_of (make_of Second (replicate (length_for 2 0 2 2) 0xDD) 2 0 2 2).answer) 0 tt;
      events = holds (all_allowed (fresh h) h.events) tt;
    }

-- two counts and a record; two images
abbrev room : List ℕ
room = replicate 72 0

abbrev area : List ℕ
area = replicate 512 0xBB

written : (archive_of (reached h).volume room).answer ≡ Done
unfolding opened
written = refl

abbrev image : ℕ → List ℕ
image p = image_at (read_of (archive_of (reached h).volume room).buffer area).buffer p

first : Rebuilds h (image 1) 1 buffer
first =
    (archive h legal room written area (length-replicate {A = ℕ} 512 0xBB)).1 1 (omega arith) (omega arith) buffer
    (length-replicate {A = ℕ} 256 0xAA)

last : Rebuilds h (image 2) 2 buffer
last =
    (archive h legal room written area (length-replicate {A = ℕ} 512 0xBB)).1 2 (omega arith) (omega arith) buffer
    (length-replicate {A = ℕ} 256 0xAA)

told : (inspection h 1 buffer ≡ 0) × (inspection h 2 buffer ≡ 7)
unfolding opened
told = (eqb→eq (inspection h 1 buffer) 0 tt, eqb→eq (inspection h 2 buffer) 7 tt)

pub blank-page : image 2 ≡ replicate 256 0
blank-page = last.blank told.1

pub first-page : (image_page (image 1) ≡ 1) × (part (image 1) 2 2 ≡ 0 ∷ 0 ∷ []) × (part (image 1) 4 248 ≡ shown h 1 buffer)
    × (part (image 1) 252 4 ≡ replicate 4 0)
first-page = first.shows told.0

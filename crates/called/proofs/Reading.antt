-- The functions for C that read a volume: each is refused by its table, a refusal leaves the numbers that it was lent, and the table stands in
-- order. The proofs of `ReadingForC`, `FaceOrdered` and their `Beyond`.
use Prim.Native.Nat.{ℕ, ◌<◌}
use mathlib.Core.Path.{◌≡◌, refl}
use mathlib.Core.Bool.{true}
use mathlib.Core.List.{List}
use native.Mathlib.Omega.{arith}
use borrow.Author.Tests.{ne_eqb}
use Rattle.laws.proofs.Tables.{Numbered, when_false}
use Rattle.laws.proofs.Decided.{by-table}
use Rattle.laws.proofs.WellFormed.{formed}
use Rattle.laws.proofs.Frames.{row_fits, fits-row, forms}
use Rattle.model.specs.Tables.{Row, first_of}
use Rattle.model.specs.Geometry.{Place}
use Rattle.model.specs.State.{frame_fits, well_formed}
use Rattle.model.specs.Demand1.{Refuses}
use Rattle.model.specs.declared.{geometry.Geometry.Geometry, state.State.State}
use Rattle.face.specs.Slots.{listed, counts_rows, counts_of, slot_rows, listed_at}
use Rattle.face.specs.Failing.{failing_rows, failing_face}
use Rattle.face.specs.Room.{room_rows, tell_room}
use Rattle.face.specs.Advice.{upkeep_rows, upkeep_face}
use Rattle.face.specs.Mending.{mend_face_rows, mend_face}
use Rattle.face.specs.ReadingForC.{ReadingForC, FaceOrdered}
use Rattle.face.specs.ReadingBeyond.{ReadingBeyond, OrderedBeyond}

-- numbers told by a table
tells : (rows : List Row) → Numbered rows → (old new : List ℕ)
    → Refuses rows (listed (first_of rows) old new).refusal (listed (first_of rows) old new).numbers old
tells rows h old new =
    record {
      table = by-table rows h (first_of rows) refl;
      leaves = λ z. when_false new old (ne_eqb (first_of rows) 0 z);
    }

counts : (v xs : List ℕ) → Refuses (counts_rows v xs) (counts_of v xs).refusal (counts_of v xs).numbers xs
unfolding counts_of
counts v xs = tells (counts_rows v xs) (omega arith) xs _

slot : (at : Place) (tell : List ℕ → List ℕ) (v xs : List ℕ)
    → Refuses (slot_rows at v xs) (listed_at at tell v xs).refusal (listed_at at tell v xs).numbers xs
unfolding listed_at
slot at tell v xs = tells (slot_rows at v xs) (omega arith) xs _

room : (v xs : List ℕ) → Refuses (room_rows v xs) (tell_room v xs).refusal (tell_room v xs).numbers xs
unfolding tell_room
room v xs = tells (room_rows v xs) (omega arith) xs _

upkeep : (v m xs : List ℕ) (r : ℕ) (report : List ℕ)
    → Refuses (upkeep_rows v m xs r report) (upkeep_face v m xs r report).refusal (upkeep_face v m xs r report).numbers report
unfolding upkeep_face
upkeep v m xs r report = tells (upkeep_rows v m xs r report) (omega arith) report _

mend : (v m xs : List ℕ) (r p : ℕ) (report : List ℕ)
    → Refuses (mend_face_rows v m xs r p report) (mend_face v m xs r p report).refusal (mend_face v m xs r p report).numbers report
unfolding mend_face
mend v m xs r p report = tells (mend_face_rows v m xs r p report) (omega arith) report _

failing : (v xs report : List ℕ)
    → Refuses (failing_rows v xs report) (failing_face v xs report).refusal (failing_face v xs report).numbers report
unfolding failing_face
failing v xs report = tells (failing_rows v xs report) (omega arith) report _

-- only a row's last clause speaks of the number of frames
roomier : (g : Geometry) (frames : ℕ) (s : State) (i : ℕ) → i < 16 → frame_fits g frames s i ≡ true → frame_fits g 16 s i ≡ true
roomier g frames s i l h =
    let r = row_fits g frames s i h in
    fits-row g 16 s i (record { high = r.high; once = r.once; some = r.some; idle = r.idle; inside = λ nz. l })

roomiest : (g : Geometry) (frames : ℕ) (s : State) → well_formed g frames s ≡ true → well_formed g 16 s ≡ true
roomiest g frames s h =
    let w = formed g frames s h in
    forms g 16 s (
    record {
      room = w.room;
      few = w.few;
      notes = w.notes;
      note = w.note;
      table = λ i l. roomier g frames s i l (w.table i l);
      pages = w.pages;
    }
    )

pub reading-for-c : ReadingForC
reading-for-c = record { counts = counts; slot = slot; room = room; upkeep = upkeep }

pub reading-beyond : ReadingBeyond
reading-beyond = record { failing = failing; roomiest = roomiest; mend = mend }

pub face-ordered : FaceOrdered
face-ordered =
    record {
      counts = λ v xs. refl;
      slot = λ at v xs. refl;
      room = λ v xs. refl;
      upkeep = λ v m xs r report. refl;
    }

pub ordered-beyond : OrderedBeyond
ordered-beyond = record { failing = λ v xs report. refl; mend = λ v m xs r p report. refl }

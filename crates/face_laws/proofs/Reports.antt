-- What a call for C tells holds of every outcome: the proof of `ReportsTell`.
use Prim.Native.Nat.{ℕ}
use mathlib.Core.Path.{◌≡◌, refl}
use mathlib.Core.Bool.{true}
use mathlib.Core.List.{List, [], ◌∷◌}
use lib.ListN.{length, take}
use borrow.Author.Tests.{eq-eqb}
use Rattle.laws.proofs.Tabulated.{tabulate-length}
use Rattle.laws.proofs.Demand1.{demand1}
use Rattle.model.specs.Bytes.{splice}
use Rattle.model.specs.Geometry.{Place, start, width, magic_of, geometry_of, store, store_heading}
use Rattle.model.specs.Outcome.{one_item, new_heading, volume_after}
use Rattle.model.specs.Calls.{Call, outcome_of}
use Rattle.model.specs.Demand1.{Arrays, StoresItem}
use Rattle.reports.specs.Examine.{report_of}
use Rattle.model.specs.declared.answer.Repair.{Repair}
use Rattle.model.specs.declared.answer.Answer.TheVariants.{Refused, Nothing, Done, Repaired}
use Rattle.face.specs.Numbers.{frames_of, entries_of, state_of, fits}
use Rattle.face.specs.Face.{face_of}
use Rattle.face.specs.Reports.{ReportsTell}

arrays : (xs : List ℕ) → Arrays (state_of xs)
unfolding state_of frames_of entries_of
arrays xs = record { frames = tabulate-length 16 _; index = tabulate-length 64 _ }

module _ (c : Call) (v m xs report : List ℕ) (f : fits xs ≡ true) (l : length report ≡ 5) where
  item : (at : Place) (ys : List ℕ) → (outcome_of c v m (state_of xs)).answer ≡ Done
      → (outcome_of c v m (state_of xs)).stored ≡ one_item at ys
      → ((face_of c v m xs report).report ≡ 0 ∷ 0 ∷ 0 ∷ start (geometry_of v) at ∷ width at ∷ [])
      × ((face_of c v m xs report).volume ≡ splice v (start (geometry_of v) at) ys) × (length ys ≡ width at)
  unfolding face_of volume_after store
  item at ys a e =
      let st : StoresItem v (one_item at ys) = rw e at (demand1.calls c v m (state_of xs) (arrays xs)).stored in
      let n : length ys ≡ width at = st.2 in
      rw (f, eq-eqb (length report) 5 l, a, e) (rw n refl, refl, n)

  heading : (tag : ℕ) → (outcome_of c v m (state_of xs)).answer ≡ Done
      → (outcome_of c v m (state_of xs)).stored ≡ new_heading tag
      → ((face_of c v m xs report).report ≡ 0 ∷ 0 ∷ 0 ∷ 0 ∷ 4 ∷ [])
      × ((face_of c v m xs report).volume ≡ splice v 0 (magic_of tag))
  unfolding face_of volume_after store_heading
  heading tag a e = rw (f, eq-eqb (length report) 5 l, a, e) (refl, refl)

  repair : (r : Repair) → (outcome_of c v m (state_of xs)).answer ≡ Repaired r
      → ((face_of c v m xs report).answer ≡ 0) × (take 3 (face_of c v m xs report).report ≡ report_of r)
  unfolding face_of
  repair r a = rw (f, eq-eqb (length report) 5 l, a) (refl, refl)

  refused : (n : ℕ) → (outcome_of c v m (state_of xs)).answer ≡ Refused n
      → ((face_of c v m xs report).answer ≡ n) × ((face_of c v m xs report).report ≡ report)
  unfolding face_of
  refused n a = rw (f, eq-eqb (length report) 5 l, a) (refl, refl)

  done : (outcome_of c v m (state_of xs)).answer ≡ Done → (face_of c v m xs report).answer ≡ 0
  unfolding face_of
  done a = rw (f, eq-eqb (length report) 5 l, a)

  idle : (outcome_of c v m (state_of xs)).answer ≡ Nothing → (face_of c v m xs report).answer ≡ 256
  unfolding face_of
  idle a = rw (f, eq-eqb (length report) 5 l, a)

pub reports-tell : ReportsTell
reports-tell c v m xs report f l =
    record {
      item = item c v m xs report f l;
      heading = heading c v m xs report f l;
      repair = repair c v m xs report f l;
      done = done c v m xs report f l;
      idle = idle c v m xs report f l;
      refused = refused c v m xs report f l;
    }

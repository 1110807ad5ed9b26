-- What upkeep and mending say as numbers, over the rows behind row 2 and the numbers that are reported: a heading that is
-- not known, numbers that do not fit, a refusal, and what is reported.
use mathlib.Core.Path.{◌≡◌, refl, sym, ap, ◌∙◌}
use mathlib.Core.Bool.{Bool, true, false, cond, ◌&&◌, ◌||◌, not}
use mathlib.Core.List.{List, [], ◌∷◌}
use Prim.Native.Nat.{ℕ}
use lib.Dec.{eqb}
use lib.ListN.{length, get_or}
use borrow.Author.Tests.{eqb-true}
use Rattle.laws.proofs.Tables.{by_cases, and_left, and_right}
use Rattle.volume.proofs.Readings.{unknown-read}
use Rattle.numbers.proofs.FitLaws.{long}
use Rattle.model.specs.Tables.{Row, first_of, within}
use Rattle.model.specs.Geometry.{known_magic, geometry_of, valid_volume}
use Rattle.model.specs.State.{frame_count, valid_memory, well_formed}
use Rattle.model.specs.Refusals.{state_rows}
use Rattle.model.specs.declared.state.State.{State}
use Rattle.upkeep_policy.specs.Upkeep.{Advice, idle, stuck, make, advised_by, upkeep_of, advise_rows, advise_of}
use Rattle.upkeep_policy.specs.declared.upkeep.Advised.{Advised}
use Rattle.mend_policy.specs.Mend.{Mending, whole, single, lost, ahead, full, call, mend_of, mended_by, mend_rows, mended_of}
use Rattle.mend_policy.specs.declared.mending.Mended.{Mended}
use Rattle.face.specs.Numbers.{state_of, fits}
use Rattle.face.specs.Slots.{Listed, listed}
use Rattle.face.specs.Advice.{refusal_in, upkeep_numbers}
use Rattle.face.specs.Mending.{refusal_for, mend_numbers}
use Rattle.face_step.proofs.FaceLaws.{both, not-both}
use Rattle.capi.proofs.SlotLaws.{refused, done}
use Rattle.capi.proofs.SpaceLaws.{one-or-two}

-- the rows behind row 2, and the numbers that are reported
abbrev pub upkeep_tail : List ℕ → ℕ → List Row
upkeep_tail m r = (not (within (frame_count (length m)) r), 4) ∷ []

abbrev pub upkeep_report : List ℕ → List ℕ → List ℕ → ℕ → List ℕ
upkeep_report v m xs r = let a = advise_of v m (state_of xs) r in upkeep_numbers a.upkeep (get_or a.payload 0 0)

abbrev pub mend_tail : List ℕ → List ℕ → ℕ → ℕ → List Row
mend_tail v m r p = (not (within (geometry_of v).pages p), 3) ∷ (not (within (frame_count (length m)) r), 4) ∷ []

abbrev pub mend_report : List ℕ → List ℕ → List ℕ → ℕ → ℕ → List ℕ
mend_report v m xs r p = let a = mended_of v m (state_of xs) r p in mend_numbers a.mend (get_or a.payload 0 0)

-- ---- the number of what is said is its table's

none : (a : Advice) → refusal_in (advised_by a).upkeep ≡ 0
none idle = refl
none (stuck p) = refl
none (make c) = refl

pub upkeep-number : (v m : List ℕ) (s t : State) (r : ℕ) (a : Advised) (n : ℕ) → s ≡ t → a ≡ advise_of v m s r → n ≡ refusal_in a.upkeep
    → n ≡ first_of (state_rows v m t (upkeep_tail m r))
unfolding advise_of advise_rows
upkeep-number v m s t r a n es ea en =
    let k = first_of (advise_rows v m t r) in
    en ∙ ap (λ (z : Advised). refusal_in z.upkeep) (ea ∙ ap (λ (z : State). advise_of v m z r) es)
    ∙ by_cases (eqb k 0) (λ y. rw y (none (upkeep_of v m t r) ∙ sym (eqb-true k 0 y))) (λ y. rw y)

none-mended : (a : Mending) → refusal_for (mended_by a).mend ≡ 0
none-mended whole = refl
none-mended single = refl
none-mended lost = refl
none-mended ahead = refl
none-mended full = refl
none-mended (call c) = refl

pub mend-number : (v m : List ℕ) (s t : State) (r p : ℕ) (a : Mended) (n : ℕ) → s ≡ t → a ≡ mended_of v m s r p
    → n ≡ refusal_for a.mend
    → n ≡ first_of (state_rows v m t (mend_tail v m r p))
unfolding mended_of mend_rows
mend-number v m s t r p a n es ea en =
    let k = first_of (mend_rows v m t r p) in
    en ∙ ap (λ (z : Mended). refusal_for z.mend) (ea ∙ ap (λ (z : State). mended_of v m z r p) es)
    ∙ by_cases (eqb k 0) (λ y. rw y (none-mended (mend_of v m t r p) ∙ sym (eqb-true k 0 y))) (λ y. rw y)

-- a row 2 that holds, behind two others
second : (a b c : Bool) → ◌≡◌ {A = ℕ} (cond a 1 (cond b 2 (cond c 2 2))) (cond a 1 2)
second a true c = refl
second a false true = refl
second a false false = refl

-- ---- the face: the state's rows, row 2 for the numbers and the report, then the call's own

module _ (v m xs report : List ℕ) (rest : List Row) (ys : List ℕ) where
  abbrev rows : List Row
  rows = state_rows v m (state_of xs) ((not (fits xs && eqb (length report) 8), 2) ∷ rest)

  abbrev face : Listed
  face = listed (first_of rows) report ys

  -- a heading that is not known: row 1, whatever follows it
  pub unknown : (b : Bool) → b ≡ known_magic v → b ≡ false → (1 ≡ face.refusal) × (report ≡ face.numbers)
  unknown b eb t = rw (unknown-read v (sym eb ∙ t)) (refl, refl)

  module _ (b : Bool) (eb : b ≡ fits xs) where
    pub unfit : (not b || not (eqb (length report) 8)) ≡ true → (w : Bool) (n : ℕ) → w ≡ valid_volume v → n ≡ cond (not w) 1 2
        → (n ≡ face.refusal) × (report ≡ face.numbers)
    unfit t w n ew en =
        let q : (fits xs && eqb (length report) 8) ≡ false = rw (← eb) (not-both b (eqb (length report) 8) t) in
        let k = well_formed (geometry_of v) (frame_count (length m)) (state_of xs) in
        let e : n ≡ first_of rows =
        en ∙ rw (ew, q) (sym (second (not (valid_volume v)) (not (valid_memory (length m))) (not k))) in
        refused (first_of rows) n report ys e (one-or-two (not w) n en)

    module _ (t : (not b || not (eqb (length report) 8)) ≡ false) where
      passed : (fits xs && eqb (length report) 8) ≡ true
      passed = rw (← eb) (both b (eqb (length report) 8) t)

      pub sized : length report ≡ 8
      sized = eqb-true _ _ (and_right (fits xs) (eqb (length report) 8) passed)

      pub long-enough : length xs ≡ 360
      long-enough = long xs (and_left (fits xs) (eqb (length report) 8) passed)

      module _ (n : ℕ) (en : n ≡ first_of (state_rows v m (state_of xs) rest)) where
        row : n ≡ first_of rows
        row = en ∙ rw passed

        pub turned_down : (n ≡ 0 → ⊥) → (n ≡ face.refusal) × (report ≡ face.numbers)
        turned_down = refused (first_of rows) n report ys row

        pub reported : n ≡ 0 → (zs : List ℕ) → zs ≡ ys → (0 ≡ face.refusal) × (zs ≡ face.numbers)
        reported z zs e = done (first_of rows) n report ys row z zs e

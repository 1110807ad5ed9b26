-- Laws of the reader's outcome: its two rows, and what a refusal and a reading leave.
use mathlib.Core.Path.{◌≡◌, sym, ◌∙◌}
use mathlib.Core.Logic.{◌≢◌}
use mathlib.Core.Bool.{true, false, not}
use mathlib.Core.List.{List, [], ◌∷◌}
use Prim.Native.Nat.{ℕ, ◌*◌, ◌/◌, ◌≤◌}
use native.Mathlib.Omega.{arith}
use lib.Dec.{eqb}
use lib.ListN.{length}
use borrow.Author.Tests.{eqb-true, eq-eqb, ne_eqb, not-false}
use Rattle.laws.proofs.Tables.{by_cases, none-at, and_left, and_right, within-bounds}
use Rattle.model.specs.Tables.{Row, first_of, within}
use Rattle.model.specs.Outcome.{refusal_of}
use Rattle.reports.specs.Archive.{valid_from, parted_from, area_from, valid_area, read_rows, read_of}
use Rattle.model.specs.declared.answer.Answer.TheVariants.{Done}

-- ---- the rows

pub record Images (size : ℕ) : Type 0 where
  pub low : 1 ≤ size / 256
  pub high : size / 256 ≤ 64
  pub whole : size ≡ 256 * (size / 256)

pub area-images : (size : ℕ) → valid_area size ≡ true → Images size
area-images size h =
    let k = size / 256 in
    let w = within-bounds 64 k (and_left (within 64 k) (eqb size (256 * k)) h) in
    record { low = w.0; high = w.1; whole = eqb-true size (256 * k) (and_right (within 64 k) (eqb size (256 * k)) h) }

module _ (a : List ℕ) (size : ℕ) where
  pub row-area : valid_area size ≡ false → 2 ≡ first_of (read_rows a size)
  unfolding read_rows
  row-area t = rw t

  pub row-archive : valid_area size ≡ true → valid_from (size / 256) 1 a ≡ false → 22 ≡ first_of (read_rows a size)
  unfolding read_rows
  row-archive t u = rw (t, u)

  pub row-none : valid_area size ≡ true → valid_from (size / 256) 1 a ≡ true → 0 ≡ first_of (read_rows a size)
  unfolding read_rows
  row-none t u = rw (t, u)

  -- no row holds
  pub none-area : first_of (read_rows a size) ≡ 0 → Images size
  unfolding read_rows
  none-area h =
      let rows : List Row = (not (valid_area size), 2) ∷ (not (valid_from (size / 256) 1 a), 22) ∷ [] in
      area-images size (not-false (valid_area size) (none-at rows (omega arith) h 0))

  pub none-archive : first_of (read_rows a size) ≡ 0 → valid_from (size / 256) 1 a ≡ true
  unfolding read_rows
  none-archive h =
      let rows : List Row = (not (valid_area size), 2) ∷ (not (valid_from (size / 256) 1 a), 22) ∷ [] in
      not-false (valid_from (size / 256) 1 a) (none-at rows (omega arith) h 1)

-- ---- the outcome

module _ (a area : List ℕ) where
  abbrev number : ℕ
  number = first_of (read_rows a (length area))

  module _ (n : ℕ) (n-is : n ≡ number) where
    refused-test : n ≢ 0 → eqb number 0 ≡ false
    refused-test h = ne_eqb number 0 (λ e. h (n-is ∙ e))

    pub refused-area : n ≢ 0 → area ≡ (read_of a area).buffer
    unfolding read_of
    refused-area h = rw (refused-test h)

    done-test : n ≡ 0 → eqb number 0 ≡ true
    done-test h = eq-eqb number 0 (sym n-is ∙ h)

    pub done-area : n ≡ 0 → area_from 1 (parted_from (length area / 256) a) ≡ (read_of a area).buffer
    unfolding read_of
    done-area h = rw (done-test h)

  pub number_is : number ≡ refusal_of (read_of a area).answer
  unfolding read_of
  number_is = by_cases (eqb number 0) (λ t. rw t (eqb-true number 0 t)) (λ t. rw t)

  pub done-answered : 0 ≡ refusal_of (read_of a area).answer → Done ≡ (read_of a area).answer
  unfolding read_of
  done-answered e =
      let t : eqb number 0 ≡ true = eq-eqb number 0 (number_is ∙ sym e) in rw t

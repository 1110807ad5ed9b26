-- Laws of the cut of an archive at a place: its segment fits, ends, and is counted.
use mathlib.Core.Path.{◌≡◌, refl, sym, ap, ◌∙◌}
use mathlib.Core.Bool.{Bool, true, false, ◌||◌, not}
use mathlib.Core.List.{List}
use Prim.Native.Nat.{ℕ, zero, suc, ◌+◌, ◌-◌, ◌*◌, ◌/◌, ◌≤◌, ◌<◌}
use native.Mathlib.Omega.{arith}
use lib.Dec.{eqb, leb}
use lib.ListN.{length, drop, length-drop}
use lib.Seq.{drop-drop}
use borrow.Author.Tests.{leb-true, leb-false, le-leb, lt-leb, eq-eqb, ne_eqb, not-true, not-false}
use Rattle.laws.proofs.Tables.{by_cases, or-neither}
use Rattle.reports_laws.proofs.ArchiveSegments.{fits-left}
use Rattle.model.specs.Bytes.{le, field}
use Rattle.reports.specs.Archive.{segment_fits, past_segment, pages_from}

-- so many records of 64 bytes
in-records : (n m : ℕ) → leb n (m / 64) ≡ leb (64 * n) m
in-records n m =
    by_cases (leb (64 * n) m)
    (λ t. let b = leb-true (64 * n) m t in le-leb n (m / 64) (omega arith) ∙ sym t)
    (λ t. let b = leb-false (64 * n) m t in lt-leb n (m / 64) (omega arith) ∙ sym t)

module _ (a : List ℕ) (at : ℕ) where
  pub left_is : length (drop at a) ≡ length a - at
  left_is = length-drop at a

  -- where the segment at a place ends
  abbrev pub end_of : ℕ
  end_of = at + (4 + 64 * le 4 (drop at a))

  pub past_is : past_segment (drop at a) ≡ drop end_of a
  past_is = drop-drop (4 + 64 * le 4 (drop at a)) at a

  -- no room for the count
  pub fits-short : length a - at < 4 → segment_fits (drop at a) ≡ false
  fits-short h = rw (left_is, lt-leb 4 (length a - at) h)

  pub fits_count : 4 ≤ length a - at → (n : ℕ) → n ≡ field 4 at a → leb n ((length a - at - 4) / 64) ≡ segment_fits (drop at a)
  fits_count h n e = in-records n (length a - at - 4) ∙ rw (left_is, le-leb 4 (length a - at) h, e)

  -- a segment that fits ends in the archive
  pub past-in : at ≤ length a → segment_fits (drop at a) ≡ true → (at < end_of) × (end_of ≤ length a)
  past-in b t = let f = fits-left (drop at a) t in (omega arith, omega (arith, f.0, f.1, left_is, b))

  -- ---- the number of pages

  some : at < length a → eqb (length (drop at a)) 0 ≡ false
  some h = ne_eqb (length (drop at a)) 0 (λ e. omega (arith, left_is, h, e))

  pages-most : (k : ℕ) → at < length a → pages_from 0 k (drop at a) ≡ 0
  unfolding pages_from
  pages-most k h = rw (some h)

  pages-not : (s k : ℕ) → at < length a → segment_fits (drop at a) ≡ false → pages_from (suc s) k (drop at a) ≡ 0
  unfolding pages_from
  pages-not s k h t = rw (some h, t)

  pages-on : (s k : ℕ) → at < length a → segment_fits (drop at a) ≡ true
      → pages_from (suc s) k (drop at a) ≡ pages_from s (suc k) (drop end_of a)
  unfolding pages_from
  pages-on s k h t = rw (some h, t) (ap (pages_from s (suc k)) past_is)

  pages-end : (s k : ℕ) → length a ≤ at → pages_from s k (drop at a) ≡ k
  unfolding pages_from
  pages-end zero k h = rw (eq-eqb (length (drop at a)) 0 (omega (arith, left_is, h)))
  pages-end (suc s) k h = rw (eq-eqb (length (drop at a)) 0 (omega (arith, left_is, h)))

-- k segments are cut off, up to place at
pub record Counted (a : List ℕ) (at k : ℕ) : Type 0 where
  pub inside : at ≤ length a
  pub few : k ≤ 64
  pub same : pages_from (64 - k) k (drop at a) ≡ pages_from 64 0 a

pub counted_none : (a : List ℕ) → Counted a 0 0
counted_none a = record { inside = omega arith; few = omega arith; same = refl }

module _ (a : List ℕ) (at k : ℕ) (c : Counted a at k) (more : at < length a) where
  most : 64 ≤ k → 0 ≡ pages_from 64 0 a
  most h =
      let e : 64 - k ≡ 0 = omega (arith, h) in
      sym (pages-most a at k more) ∙ ap (λ (s : ℕ). pages_from s k (drop at a)) (sym e) ∙ c.same

  left : k < 64 → pages_from (suc (64 - (k + 1))) k (drop at a) ≡ pages_from 64 0 a
  left h = let e : suc (64 - (k + 1)) ≡ 64 - k = omega (arith, h) in ap (λ (s : ℕ). pages_from s k (drop at a)) e ∙ c.same

  short : k < 64 → segment_fits (drop at a) ≡ false → 0 ≡ pages_from 64 0 a
  short h t = sym (pages-not a at (64 - (k + 1)) k more t) ∙ left h

  -- what the segment at the place was judged as
  module _ (fits : Bool) (fits-is : fits ≡ segment_fits (drop at a)) where
    pub counted-stops : (leb 64 k || not fits) ≡ true → 0 ≡ pages_from 64 0 a
    counted-stops t =
        by_cases (leb 64 k) (λ u. most (leb-true 64 k u))
        (λ u. let n : not fits ≡ true = rw u at t in short (leb-false 64 k u) (sym fits-is ∙ not-true fits n))

    module _ (goes : (leb 64 k || not fits) ≡ false) where
      pub counted-fits : segment_fits (drop at a) ≡ true
      counted-fits = sym fits-is ∙ not-false fits (or-neither (leb 64 k) (not fits) goes).1

      pub counted-on : Counted a (end_of a at) (k + 1)
      counted-on =
          let h = leb-false 64 k (or-neither (leb 64 k) (not fits) goes).0 in
          let n : k + 1 ≡ suc k = omega arith in
          record {
            inside = (past-in a at c.inside counted-fits).1;
            few = omega (arith, h);
            same =
                ap (λ (j : ℕ). pages_from (64 - (k + 1)) j (drop (end_of a at) a)) n
                ∙ sym (pages-on a at (64 - (k + 1)) k more counted-fits) ∙ left h;
          }

pub counted-all : (a : List ℕ) (at k : ℕ) → Counted a at k → length a ≤ at → k ≡ pages_from 64 0 a
counted-all a at k c h = sym (pages-end a at (64 - k) k h) ∙ c.same

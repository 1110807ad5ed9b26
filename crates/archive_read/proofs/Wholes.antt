-- Laws of the loops over an archive's segments: the one that judges them, and the one that fills the area.
use mathlib.Core.Path.{◌≡◌, sym, ap, ◌∙◌}
use mathlib.Core.Bool.{Bool, true, false, ◌&&◌}
use mathlib.Core.List.{List, ◌++◌, append_assoc, append-nil}
use Prim.Native.Nat.{ℕ, suc, ◌+◌, ◌-◌, ◌*◌, ◌≤◌, ◌<◌}
use native.Mathlib.Nat.{sub-zero}
use native.Mathlib.Omega.{arith}
use lib.Dec.{eqb}
use lib.ListN.{length, take, drop, length-take, length-drop}
use lib.Seq.{take-add, take_all}
use borrow.Author.Tests.{eqb-true, eqb-false, eq-eqb, ne_eqb}
use borrow.Rule.Slice.PartMut.{put_mid}
use Rattle.laws.proofs.Tables.{by_cases}
use Rattle.laws.proofs.Parts.{splice-length, take-splice, part-splice, put-splice}
use Rattle.reports_laws.proofs.ArchiveSegments.{here-fits, here-valid, rest-valid}
use Rattle.model.specs.Bytes.{part, splice}
use Rattle.reports.specs.Archive.{valid_segment, front_segment, past_segment, segment_fits, valid_from, parted_from, segment_image, area_from}
use Rattle.archive_read.proofs.Cuts.{left_is, end_of, past_is, past-in}

-- what is left after one page more
one_less : (n i : ℕ) → i < n → n - i ≡ suc (n - (i + 1))
one_less n i h = omega arith

next-page : (i : ℕ) → suc (i + 1) ≡ i + 1 + 1
next-page i = omega arith

-- ---- the loop that judges

-- what is left decides: segments from place at on, behind i pages
pub record Checking (a : List ℕ) (pages at i : ℕ) : Type 0 where
  pub inside : at ≤ length a
  pub few : i ≤ pages
  pub same : valid_from (pages - i) (i + 1) (drop at a) ≡ valid_from pages 1 a

pub checking-all : (a : List ℕ) (pages : ℕ) → Checking a pages 0 0
checking-all a pages = record { inside = omega arith; few = omega arith; same = rw (sub-zero pages) }

module _ (a : List ℕ) (pages at i : ℕ) (c : Checking a pages at i) where
  module _ (more : i < pages) where
    -- the tests of the segment at the place, and of what is behind it from page q on
    abbrev tests : ℕ → List ℕ → Bool
    tests q b = segment_fits (drop at a) && (valid_segment (i + 1) 0 (front_segment (drop at a)) && valid_from (pages - (i + 1)) q b)

    whole : tests (i + 1 + 1) (drop (end_of a at) a) ≡ valid_from pages 1 a
    unfolding valid_from
    whole =
        ap (tests (i + 1 + 1)) (sym (past_is a at))
        ∙ ap (λ (q : ℕ). tests q (past_segment (drop at a))) (sym (next-page i))
        ∙ ap (λ (k : ℕ). valid_from k (i + 1) (drop at a)) (sym (one_less pages i more)) ∙ c.same

    pub checking-short : segment_fits (drop at a) ≡ false → false ≡ valid_from pages 1 a
    checking-short t = rw t at whole

    module _ (fits : segment_fits (drop at a) ≡ true) where
      pub checking-not : valid_segment (i + 1) 0 (front_segment (drop at a)) ≡ false → false ≡ valid_from pages 1 a
      checking-not v = rw (fits, v) at whole

      pub checking-on : valid_segment (i + 1) 0 (front_segment (drop at a)) ≡ true → Checking a pages (end_of a at) (i + 1)
      checking-on v = record { inside = (past-in a at c.inside fits).1; few = omega (arith, more); same = rw (fits, v) at whole }

  none_left : eqb at (length a) ≡ eqb (length a - at) 0
  none_left =
      by_cases (eqb (length a - at) 0)
      (λ t. let e = eqb-true (length a - at) 0 t in eq-eqb at (length a) (omega (arith, e, c.inside)) ∙ sym t)
      (λ t. ne_eqb at (length a) (λ e. eqb-false (length a - at) 0 t (omega (arith, e))) ∙ sym t)

  pub checking-end : pages ≤ i → eqb at (length a) ≡ valid_from pages 1 a
  unfolding valid_from
  checking-end h =
      let z : 0 ≡ pages - i = omega (arith, h) in
      none_left ∙ ap (λ (k : ℕ). eqb k 0) (sym (left_is a at)) ∙ ap (λ (k : ℕ). valid_from k (i + 1) (drop at a)) z ∙ c.same

-- ---- the loop that rebuilds

-- the first i images and those of what is left are the whole
pub record Rebuilding (a : List ℕ) (pages : ℕ) (area : List ℕ) (at i : ℕ) : Type 0 where
  pub inside : at ≤ length a
  pub few : i ≤ pages
  pub valid : valid_from (pages - i) (i + 1) (drop at a) ≡ true
  pub size : length area ≡ 256 * pages
  pub made : take (256 * i) area ++ area_from (i + 1) (parted_from (pages - i) (drop at a)) ≡ area_from 1 (parted_from pages a)

pub rebuilding-all : (a : List ℕ) (pages : ℕ) (area : List ℕ) → valid_from pages 1 a ≡ true → length area ≡ 256 * pages
    → Rebuilding a pages area 0 0
rebuilding-all a pages area v size =
    record { inside = omega arith; few = omega arith; valid = rw (sub-zero pages) v; size = size; made = rw (sub-zero pages) }

-- the part of an area that an image takes
pub part-size : (area : List ℕ) (i : ℕ) → 256 * i + 256 ≤ length area → length (take (256 * i + 256 - 256 * i) (drop (256 * i) area)) ≡ 256
part-size area i h = simp (length-take, length-drop) (omega arith)

-- one image written behind others
module _ (area : List ℕ) (i k : ℕ) (x : List ℕ) (k-is : k ≡ 256) (long : length x ≡ 256) (room : 256 * i + 256 ≤ length area) where
  fits : 256 * i + length x ≤ length area
  fits = omega (arith, long, room)

  put_is : put_mid (256 * i) k area x ≡ splice area (256 * i) x
  put_is = put-splice area (256 * i) k x (long ∙ sym k-is)

  put-long : length (put_mid (256 * i) k area x) ≡ length area
  put-long = ap length put_is ∙ splice-length area (256 * i) x fits

  written : part (splice area (256 * i) x) (256 * i) 256 ≡ x
  written = ap (part (splice area (256 * i) x) (256 * i)) (sym long) ∙ part-splice area (256 * i) x fits

  put-more : take (256 * (i + 1)) (put_mid (256 * i) k area x) ≡ take (256 * i) area ++ x
  unfolding part
  put-more =
      let e : 256 * (i + 1) ≡ 256 * i + 256 = omega arith in
      let s : List ℕ = splice area (256 * i) x in
      ap (take (256 * (i + 1))) put_is ∙ ap (λ (n : ℕ). take n s) e ∙ take-add (256 * i) 256 s
      ∙ ap (λ (l : List ℕ). l ++ take 256 (drop (256 * i) s)) (take-splice area (256 * i) x fits)
      ∙ ap (λ (l : List ℕ). take (256 * i) area ++ l) written

module _ (a : List ℕ) (pages : ℕ) (area : List ℕ) (at i : ℕ) (r : Rebuilding a pages area at i) where
  module _ (more : i < pages) where
    here : valid_from (suc (pages - (i + 1))) (i + 1) (drop at a) ≡ true
    here = ap (λ (k : ℕ). valid_from k (i + 1) (drop at a)) (sym (one_less pages i more)) ∙ r.valid

    pub rebuilding-fits : segment_fits (drop at a) ≡ true
    rebuilding-fits = here-fits (pages - (i + 1)) (i + 1) (drop at a) here

    pub rebuilding-valid : valid_segment (i + 1) 0 (front_segment (drop at a)) ≡ true
    rebuilding-valid = here-valid (pages - (i + 1)) (i + 1) (drop at a) here

    pub rebuilding-room : 256 * i + 256 ≤ length area
    rebuilding-room = omega (arith, r.size, more)

    -- the image of the segment at the place, and those of what is behind it from page q on
    abbrev images : ℕ → List ℕ → List ℕ
    images q b = segment_image (i + 1) (front_segment (drop at a)) ++ area_from q (parted_from (pages - (i + 1)) b)

    rest-is : area_from (i + 1) (parted_from (pages - i) (drop at a)) ≡ images (i + 1 + 1) (drop (end_of a at) a)
    unfolding area_from parted_from
    rest-is =
        ap (λ (k : ℕ). area_from (i + 1) (parted_from k (drop at a))) (one_less pages i more)
        ∙ ap (λ (q : ℕ). images q (past_segment (drop at a))) (next-page i)
        ∙ ap (images (i + 1 + 1)) (past_is a at)

    rest-on : valid_from (pages - (i + 1)) (i + 1 + 1) (drop (end_of a at) a) ≡ true
    rest-on =
        ap (valid_from (pages - (i + 1)) (i + 1 + 1)) (sym (past_is a at))
        ∙ ap (λ (q : ℕ). valid_from (pages - (i + 1)) q (past_segment (drop at a))) (sym (next-page i))
        ∙ rest-valid (pages - (i + 1)) (i + 1) (drop at a) here

    pub rebuilding-on : (k : ℕ) (x : List ℕ) → k ≡ 256 → length x ≡ 256 → x ≡ segment_image (i + 1) (front_segment (drop at a))
        → Rebuilding a pages (put_mid (256 * i) k area x) (end_of a at) (i + 1)
    rebuilding-on k x k-is long x-is =
        let rest : List ℕ = area_from (i + 1 + 1) (parted_from (pages - (i + 1)) (drop (end_of a at) a)) in
        let e : x ++ rest ≡ area_from (i + 1) (parted_from (pages - i) (drop at a)) = ap (λ (l : List ℕ). l ++ rest) x-is ∙ sym rest-is in
        record {
          inside = (past-in a at r.inside rebuilding-fits).1;
          few = omega (arith, more);
          valid = rest-on;
          size = put-long area i k x k-is long rebuilding-room ∙ r.size;
          made =
              ap (λ (l : List ℕ). l ++ rest) (put-more area i k x k-is long rebuilding-room) ∙ append_assoc (take (256 * i) area) x rest
              ∙ ap (λ (l : List ℕ). take (256 * i) area ++ l) e ∙ r.made;
        }

  pub rebuilding-end : pages ≤ i → area ≡ area_from 1 (parted_from pages a)
  unfolding area_from parted_from
  rebuilding-end h =
      let z : 0 ≡ pages - i = omega (arith, h) in
      sym (take_all (256 * i) area (omega (arith, r.size, h))) ∙ sym (append-nil (take (256 * i) area))
      ∙ ap (λ (k : ℕ). take (256 * i) area ++ area_from (i + 1) (parted_from k (drop at a))) z ∙ r.made

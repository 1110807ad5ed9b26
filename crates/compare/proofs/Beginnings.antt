-- Laws of the common beginning: two records' changes, and the records passed.
use mathlib.Core.Path.{◌≡◌, sym, ◌∙◌}
use mathlib.Core.Bool.{Bool, true, false, ◌&&◌, and-true, and_assoc}
use mathlib.Core.List.{List}
use Prim.Native.Nat.{ℕ, suc, ◌+◌, ◌-◌, ◌≤◌, ◌<◌}
use native.Mathlib.Numerals.{add-one}
use native.Mathlib.Omega.{arith}
use lib.Dec.{eqb}
use lib.ListN.{length, get_or}
use lib.Seq.{drop-cons}
use Rattle.model.specs.Bytes.{part, equal_bytes}
use Rattle.model.specs.Geometry.{geometry_of, item, log_slot}
use Rattle.reports.specs.Mirror.{same_change, record_in, common_from}
use Rattle.model.specs.declared.geometry.Geometry.{Geometry}

-- ---- one record

-- what is left of two records' changes, from byte i on
abbrev pub same_from : List ℕ → List ℕ → ℕ → Bool
same_from r t i = equal_bytes (part r i (60 - i)) (part t i (60 - i))

module _ (r t : List ℕ) (i : ℕ) where
  -- one more byte, with what was the same before it
  pub same-next : (same : Bool) → length r ≡ 64 → length t ≡ 64 → i < 60
      → (same && same_from r t i) ≡ ((same && eqb (get_or r i 0) (get_or t i 0)) && same_from r t (i + 1))
  unfolding part equal_bytes
  same-next same er et h =
      let e : 60 - i ≡ suc (60 - (i + 1)) = omega arith in
      let in-r : i < length r = omega arith in
      let in-t : i < length t = omega arith in
      rw (e, drop-cons r i 0, drop-cons t i 0, add-one i) (sym (and_assoc same (eqb (get_or r i 0) (get_or t i 0)) _))

  -- nothing is left
  pub same-end : (same : Bool) → 60 ≤ i → (same && same_from r t i) ≡ same
  unfolding part equal_bytes
  same-end same h = let e : 60 - i ≡ 0 = omega arith in rw e (and-true same)

-- ---- the records passed

module _ (v w : List ℕ) (most k : ℕ) (h : k < most) where
  left : most - k ≡ suc (most - suc k)
  left = omega arith

  -- what is left gives the whole
  common-on : same_change (record_in v (suc k)) (record_in w (suc k)) ≡ true
      → common_from (most - k) v w k ≡ common_from (most - suc k) v w (suc k)
  unfolding common_from
  common-on t = rw (left, t)

  common-ends : same_change (record_in v (suc k)) (record_in w (suc k)) ≡ false → common_from (most - k) v w k ≡ k
  unfolding common_from
  common-ends t = rw (left, t)

  -- the two records as they were read and compared
  module _ (g j : Geometry) (eg : g ≡ geometry_of v) (ej : j ≡ geometry_of w) (r t : List ℕ) (er : r ≡ item g v (log_slot g (k + 1)))
      (et : t ≡ item j w (log_slot j (k + 1))) (b : Bool) (eb : b ≡ same_change r t) where
    compared : b ≡ same_change (record_in v (suc k)) (record_in w (suc k))
    compared = eb ∙ rw (er, et, eg, ej, add-one k)

    pub passes : b ≡ true → common_from (most - k) v w k ≡ common_from (most - (k + 1)) v w (k + 1)
    passes y = common-on (sym compared ∙ y) ∙ rw (add-one k)

    pub stops : b ≡ false → common_from (most - k) v w k ≡ k
    stops y = common-ends (sym compared ∙ y)

pub common-none : (v w : List ℕ) (most k : ℕ) → most ≤ k → common_from (most - k) v w k ≡ k
unfolding common_from
common-none v w most k h = let e : most - k ≡ 0 = omega arith in rw e

pub common-end : (v w : List ℕ) (most k : ℕ) → most ≤ k → k ≤ most → common_from (most - k) v w k ≡ common_from most v w 0
    → most ≡ common_from most v w 0
common-end v w most k h l e = let m : most ≡ k = omega arith in m ∙ sym (common-none v w most k h) ∙ e

-- Laws of the marked pages: a page marked, and the records passed.
use mathlib.Core.Path.{◌≡◌, refl, sym, ap, ◌∙◌}
use mathlib.Core.Bool.{Bool, true, false, ◌&&◌, ◌||◌, not, or-true, or-false}
use mathlib.Core.List.{List}
use Prim.Native.Nat.{ℕ, suc, ◌+◌, ◌-◌, ◌≤◌, ◌<◌}
use native.Mathlib.Numerals.{add-one}
use native.Mathlib.Omega.{arith}
use native.Mathlib.Decide.{ℕ_discrete}
use lib.Dec.{eqb}
use lib.ListN.{length, get_or, replicate, length-set, length-replicate}
use lib.Seq.{ext_get_or, get_or-set_same, get_or-set_other}
use borrow.Author.Tests.{eq-eqb, ne_eqb}
use Rattle.laws.proofs.Tables.{by_cases, within-bounds, within-holds}
use Rattle.laws.proofs.Tabulated.{tabulate-length, tabulate-at, replicate-at, table_of}
use Rattle.model.specs.Tables.{every, within, tabulate}
use Rattle.model.specs.Bytes.{field}
use Rattle.model.specs.Geometry.{item, log_slot}
use Rattle.model.specs.Item.{record_of}
use Rattle.model.specs.Scan.{log_record}
use Rattle.reports.specs.Mirror.{touched_in}
use Rattle.model.specs.declared.geometry.Geometry.{Geometry}
use Rattle.compare.specs.Volumes.{marked, marked_behind}

-- ---- lists of 64

pub marked-length : (xs : List Bool) (p : ℕ) → length (marked xs p) ≡ length xs
marked-length xs p = by_cases (within 64 p) (λ t. rw t (length-set xs (p - 1) true)) (λ t. rw t)

-- page i + 1, with page p marked
marked-at : (xs : List Bool) (p i : ℕ) → length xs ≡ 64 → i < 64 → get_or (marked xs p) i false ≡ (get_or xs i false || eqb p (suc i))
marked-at xs p i e l = elim (ℕ_discrete p (suc i)) [
  | yes y ↦
      let m : suc i - 1 ≡ i = omega arith in
      let w = within-holds 64 (suc i) (omega arith) (omega arith) in
      rw (y, w, eq-eqb (suc i) (suc i) refl, or-true (get_or xs i false), m) (get_or-set_same xs i true false (omega arith))
  | no z ↦
      rw (ne_eqb p (suc i) z, or-false (get_or xs i false)) (by_cases (within 64 p)
      (λ t. let b = within-bounds 64 p t in rw t (get_or-set_other xs (p - 1) i true false (λ q. z (omega (arith, b.0)))))
      (λ t. rw t))
]

-- ---- the records passed

module _ (g : Geometry) (v : List ℕ) (k : ℕ) where
  touched_none : (n p : ℕ) → n ≤ k → touched_in g v n k p ≡ false
  unfolding touched_in every
  touched_none n p h = let e : n - k ≡ 0 = omega arith in rw e

  not-and : (a b : Bool) → not (a && not b) ≡ (not a || b)
  not-and true true = refl
  not-and true false = refl
  not-and false b = refl

  touched-more : (n p : ℕ) → k ≤ n → touched_in g v (suc n) k p ≡ (touched_in g v n k p || eqb (log_record g v (suc n)).page p)
  unfolding touched_in every
  touched-more n p h =
      let e : suc n - k ≡ suc (n - k) = omega arith in
      let m : k + suc (n - k) ≡ suc n = omega arith in
      rw (e, m) (not-and (every (n - k) (λ i. not (eqb (log_record g v (k + suc i)).page p))) (eqb (log_record g v (suc n)).page p))

  or-join : (a b c : Bool) → ((a || b) || c) ≡ (a || (b || c))
  or-join true b c = refl
  or-join false b c = refl

  module _ (xs : List Bool) (long : length xs ≡ 64) where
    pub behind-length : (n : ℕ) → length (marked_behind g v k n xs) ≡ 64
    unfolding marked_behind
    behind-length n = tabulate-length 64 _

    pub length-behind : (n : ℕ) (ys : List Bool) → ys ≡ marked_behind g v k n xs → length ys ≡ 64
    length-behind n ys e = ap length e ∙ behind-length n

    behind-at : (n i : ℕ) → i < 64 → get_or (marked_behind g v k n xs) i false ≡ (get_or xs i false || touched_in g v n k (suc i))
    unfolding marked_behind
    behind-at n i l = tabulate-at 64 i _ false l

    pub behind-none : (n : ℕ) → n ≤ k → xs ≡ marked_behind g v k n xs
    unfolding marked_behind
    behind-none n h = table_of 64 _ false xs long (λ i l. rw (touched_none n (suc i) h) (sym (or-false (get_or xs i false))))

    pub behind_more : (n : ℕ) → k ≤ n → marked (marked_behind g v k n xs) (log_record g v (suc n)).page ≡ marked_behind g v k (suc n) xs
    behind_more n h =
        let ys = marked_behind g v k n xs in
        let p = (log_record g v (suc n)).page in
        ext_get_or false (marked ys p) (marked_behind g v k (suc n) xs)
        (marked-length ys p ∙ behind-length n ∙ sym (behind-length (suc n))) (λ i b.
        let l : i < 64 = omega (arith, marked-length ys p, behind-length n) in
        marked-at ys p i (behind-length n) l ∙ ap (λ (a : Bool). a || eqb p (suc i)) (behind-at n i l)
        ∙ or-join (get_or xs i false) (touched_in g v n k (suc i)) (eqb p (suc i))
        ∙ ap (λ (a : Bool). get_or xs i false || a) (sym (touched-more n (suc i) h))
        ∙ sym (behind-at (suc n) i l))

    -- as the code reads and marks the page of the next record
    pub behind-read : (n : ℕ) → k ≤ n → (ys : List Bool) → ys ≡ marked_behind g v k n xs → (r : List ℕ) → r ≡ item g v (log_slot g (n + 1))
        → (p : ℕ) → p ≡ field 2 8 r → marked ys p ≡ marked_behind g v k (n + 1) xs
    unfolding record_of
    behind-read n h ys ey r er p ep =
        let q : p ≡ (log_record g v (suc n)).page = ep ∙ ap (field 2 8) er ∙ rw (add-one n) in
        rw (ey, q, add-one n) (behind_more n h)

    -- counted from k
    pub behind-same : (n m : ℕ) → n - k ≡ m - k → marked_behind g v k n xs ≡ marked_behind g v k m xs
    unfolding marked_behind touched_in
    behind-same n m e = rw e

-- the pages of two logs
pub both-marked : (g h : Geometry) (v w : List ℕ) (k n m : ℕ)
    → marked_behind h w k m (marked_behind g v k n (replicate 64 false))
    ≡ tabulate 64 (λ i. touched_in g v n k (suc i) || touched_in h w m k (suc i))
both-marked g h v w k n m =
    let none : List Bool = replicate 64 false in
    let long = length-replicate {A = Bool} 64 false in
    let ys = marked_behind g v k n none in
    table_of 64 _ false (marked_behind h w k m ys) (behind-length h w k ys (behind-length g v k none long n) m) (λ i l.
    behind-at h w k ys (behind-length g v k none long n) m i l
    ∙ ap (λ (a : Bool). a || touched_in h w m k (suc i))
    (behind-at g v k none long n i l ∙ ap (λ (a : Bool). a || touched_in g v n k (suc i)) (replicate-at 64 i false)))

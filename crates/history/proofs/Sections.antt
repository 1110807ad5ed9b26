-- A section of a volume (the log or the notes), by its items: the run of right checksums, and zeros past its end.
use mathlib.Core.Path.{◌≡◌, ap, ◌∙◌, subst}
use mathlib.Core.Logic.{◌≢◌}
use mathlib.Core.Bool.{true, false}
use mathlib.Core.List.{List, [], ◌∷◌, ◌++◌}
use Prim.Native.Nat.{ℕ, zero, suc, ◌+◌, ◌-◌, ◌*◌, ◌≤◌, ◌<◌}
use native.Mathlib.Omega.{arith}
use lib.ListN.{length, take, drop}
use lib.Seq.{take-add, drop-drop}
use lib.Dec.{eqb}
use Rattle.laws.proofs.Tables.{by_cases, and_left, and_right}
use Rattle.laws.proofs.Checksums.{run-stops, run-goes}
use Rattle.laws.proofs.Places.{total, In, valid-facts, item-store-same, item-store-other, geometry-store, valid-store}
use Rattle.model.specs.Bytes.{part, all_zero}
use Rattle.model.specs.Checksum.{sealed, sealed_run}
use Rattle.model.specs.Geometry.{Place, ring, most, most_notes, top_number, width, start, item, store, geometry_of, valid_volume}
use Rattle.model.specs.Scan.{rest_zero}
use Rattle.model.specs.declared.geometry.Geometry.{Geometry}

-- ---- a volume of geometry g

pub record Volume (g : Geometry) (v : List ℕ) : Type 0 where
  pub geo : geometry_of v ≡ g
  pub ok : valid_volume v ≡ true

-- the bounds of its counts
pub record Sized (g : Geometry) : Type 0 where
  pub p-low : 1 ≤ g.pages
  pub p-high : g.pages ≤ 64
  pub b-high : g.slots ≤ 128
  pub l-low : 1 ≤ g.records
  pub l-high : g.records ≤ 1024
  pub n-high : g.notes ≤ 1024

-- the last numbers, where there is a ring and where there is none
module _ (g : Geometry) (z : Sized g) where
  pub most-high : most g ≤ top_number
  most-high = by_cases (ring g) (λ t. rw t (omega arith)) (λ t. rw t (omega (arith, z.l-high)))

  pub most-plain : ring g ≡ false → most g ≡ g.records
  most-plain t = rw t

  pub notes-high : most_notes g ≤ top_number
  notes-high = by_cases (ring g) (λ t. rw t (omega arith)) (λ t. rw t (omega (arith, z.n-high)))

  pub notes-plain : ring g ≡ false → most_notes g ≡ g.notes
  notes-plain t = rw t

module _ (g : Geometry) (v : List ℕ) (x : Volume g v) where
  pub volume-sized : Sized g
  volume-sized = subst Sized x.geo (let f = valid-facts v x.ok in
      record { p-low = f.p-low; p-high = f.p-high; b-high = f.b-high; l-low = f.l-low; l-high = f.l-high; n-high = f.n-high })

  pub volume-size : length v ≡ total g
  volume-size = subst (λ (k : Geometry). length v ≡ total k) x.geo (valid-facts v x.ok).size

  module _ (at : Place) (xs : List ℕ) (h : In g at) (e : length xs ≡ width at) where
    -- a store leaves a volume
    pub volume-store : Volume g (store g v at xs)
    volume-store =
        subst (λ (k : Geometry). In k at → Volume g (store k v at xs)) x.geo
        (λ i. record { geo = geometry-store v x.ok at xs i e ∙ x.geo; ok = valid-store v x.ok at xs i e }) h

    pub store_same : item g (store g v at xs) at ≡ xs
    store_same = item-store-same g v volume-size at xs h e

    pub store_other : (q : Place) → In g q → start g q ≢ start g at → item g (store g v at xs) q ≡ item g v q
    store_other = item-store-other g v volume-size at xs h e

-- ---- items one after the other

-- k right checksums, and then a wrong one or the end
pub run_is : (c : ℕ) (v : List ℕ) (N at k : ℕ) → k ≤ N → ((i : ℕ) → i < k → sealed c (part v (at + (c + 4) * i) (c + 4)) ≡ true)
    → (k < N → sealed c (part v (at + (c + 4) * k) (c + 4)) ≡ false) → sealed_run c N v at ≡ k
unfolding sealed_run
run_is c v zero at k h f t = omega arith
run_is c v (suc N) at zero h f t =
    let z : at + (c + 4) * 0 ≡ at = omega arith in
    run-stops c v (suc N) at (rw z at (t (omega arith)))
run_is c v (suc N) at (suc k) h f t =
    let z : at + (c + 4) * 0 ≡ at = omega arith in
    let s : (i : ℕ) → at + (c + 4) * suc i ≡ (at + (c + 4)) + (c + 4) * i = λ i. omega arith in
    run-goes c v N at (rw z at (f 0 (omega arith)))
    ∙ ap suc (run_is c v N (at + (c + 4)) k (omega arith) (λ i b. rw (s i) at (f (suc i) (omega arith)))
    (λ b. rw (s k) at (t (omega arith))))

zero-append : (xs ys : List ℕ) → all_zero xs ≡ true → all_zero ys ≡ true → all_zero (xs ++ ys) ≡ true
unfolding all_zero
zero-append [] ys h k = k
zero-append (x ∷ xs) ys h k = rw (and_left (eqb x 0) (all_zero xs) h, zero-append xs ys (and_right (eqb x 0) (all_zero xs) h) k)

zeros-are : (size : ℕ) (v : List ℕ) (k at : ℕ) → ((i : ℕ) → i < k → all_zero (part v (at + size * i) size) ≡ true)
    → all_zero (part v at (size * k)) ≡ true
unfolding part all_zero
zeros-are size v zero at f = let z : size * 0 ≡ 0 = omega arith in rw z
zeros-are size v (suc k) at f =
    let z : at + size * 0 ≡ at = omega arith in
    let m : size * suc k ≡ size + size * k = omega arith in
    let s : (i : ℕ) → at + size * suc i ≡ (at + size) + size * i = λ i. omega arith in
    rw (m, take-add size (size * k) (drop at v), drop-drop size at v)
    (zero-append (take size (drop at v)) (take (size * k) (drop (at + size) v)) (rw z at (f 0 (omega arith)))
    (zeros-are size v k (at + size) (λ i b. rw (s i) at (f (suc i) (omega arith)))))

pub rest-zero : (size count : ℕ) (v : List ℕ) (at n : ℕ)
    → ((i : ℕ) → suc n < suc i → i < count → all_zero (part v (at + size * i) size) ≡ true) → rest_zero size count v at n ≡ true
unfolding rest_zero
rest-zero size count v at n f =
    zeros-are size v (count - (n + 1)) (at + size * (n + 1)) (λ i b.
    let s : (at + size * (n + 1)) + size * i ≡ at + size * (n + 1 + i) = omega arith in
    rw s (f (n + 1 + i) (omega arith) (omega arith)))

-- a section of N items ends after n: the next fails and all later ones are zero
pub record Tail (g : Geometry) (v : List ℕ) (place : ℕ → Place) (c n N : ℕ) : Type 0 where
  pub gap : n < N → sealed c (item g v (place (suc n))) ≡ false
  pub rest : (i : ℕ) → suc n < i → i ≤ N → all_zero (item g v (place i)) ≡ true

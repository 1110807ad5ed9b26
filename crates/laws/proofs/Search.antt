-- Laws of searches: the first number of which a test holds, and how many there are below a bound.
use mathlib.Core.Path.{◌≡◌, refl, sym}
use mathlib.Core.Logic.{◌≢◌}
use mathlib.Core.Bool.{Bool, true, false, not}
use Prim.Native.Nat.{ℕ, zero, suc, ◌+◌, ◌-◌, ◌≤◌, ◌<◌}
use native.Mathlib.Numerals.{add-one}
use native.Mathlib.Omega.{arith}
use native.Mathlib.Decide.{dec_lt, ℕ_discrete}
use lib.Dec.{ltb}
use borrow.Author.Tests.{lt-ltb, ltb-true}
use Rattle.laws.proofs.Tables.{by_cases, every-all, every-fails, true-not-false}
use Rattle.model.specs.Tables.{every}
use Rattle.model.specs.Passes.{first_from}
use Rattle.model.specs.Carry.{count_of}

-- ---- the first

-- k is the first number from i on of which p holds, or i + n where none of the n does
pub record First (p : ℕ → Bool) (n i k : ℕ) : Type 0 where
  pub low : i ≤ k
  pub high : k ≤ i + n
  pub before : (j : ℕ) → i ≤ j → j < k → p j ≡ false
  pub hit : k < i + n → p k ≡ true

pub first-from : (p : ℕ → Bool) (n i : ℕ) → First p n i (first_from n p i)
unfolding first_from
first-from p zero i =
    record { low = omega arith; high = omega arith; before = λ j a b. absurd (omega arith); hit = λ h. absurd (omega arith) }
first-from p (suc n) i = by_cases (p i)
    (λ t. rw t (record { low = omega arith; high = omega arith; before = λ j a b. absurd (omega arith); hit = λ h. t }))
    (λ t. rw t (let r = first-from p n (suc i) in record {
      low = omega (arith, r.low);
      high = omega (arith, r.high);
      before = λ j a b. elim (ℕ_discrete j i) [ yes e ↦ rw e t | no z ↦ r.before j (omega arith) b ];
      hit = λ h. r.hit (omega arith);
    }))

-- where p holds of k, the first is there or before, and p holds of it
pub first_found : (p : ℕ → Bool) (n i k : ℕ) → i ≤ k → k < i + n → p k ≡ true → (first_from n p i ≤ k) × (p (first_from n p i) ≡ true)
first_found p n i k a b t =
    let r = first-from p n i in
    let l : first_from n p i ≤ k =
    elim (dec_lt k (first_from n p i)) [ yes y ↦ absurd (true-not-false t (r.before k a y)) | no z ↦ omega arith ] in
    (l, r.hit (omega arith))

-- and is k where p holds of none before
pub first-is : (p : ℕ → Bool) (n i k : ℕ) → i ≤ k → k < i + n → p k ≡ true → ((j : ℕ) → i ≤ j → j < k → p j ≡ false) → first_from n p i ≡ k
first-is p n i k a b t f =
    let r = first_found p n i k a b t in
    let l = (first-from p n i).low in
    elim (dec_lt (first_from n p i) k) [ yes y ↦ absurd (true-not-false r.1 (f (first_from n p i) l y)) | no z ↦ omega (arith, r.0) ]

-- a search to n that goes on from number i
module _ (p : ℕ → Bool) (n i : ℕ) where
  pub first-here : i < n → p i ≡ true → first_from (n - i) p i ≡ i
  unfolding first_from
  first-here h t = let k : n - i ≡ suc (n - suc i) = omega arith in rw (k, t)

  pub first_on : i < n → p i ≡ false → first_from (n - i) p i ≡ first_from (n - (i + 1)) p (i + 1)
  unfolding first_from
  first_on h f = let k : n - i ≡ suc (n - suc i) = omega arith in rw (add-one, k, f)

  pub first-end : n ≤ i → first_from (n - i) p i ≡ i
  unfolding first_from
  first-end h = let z : n - i ≡ 0 = omega arith in rw z

-- one is found exactly if not every one fails
pub found_some : (p : ℕ → Bool) (n : ℕ) → not (every n (λ i. not (p i))) ≡ ltb (first_from n p 0) n
found_some p n =
    let r = first-from p n 0 in
    elim (dec_lt (first_from n p 0) n) [
      | yes y ↦
          let t : p (first_from n p 0) ≡ true = r.hit (omega arith) in
          let f : not (p (first_from n p 0)) ≡ false = rw t in
          rw (every-fails (λ i. not (p i)) n (first_from n p 0) y f, lt-ltb (first_from n p 0) n y)
      | no z ↦
          let e : every n (λ i. not (p i)) ≡ true =
          every-all (λ i. not (p i)) n (λ i l. rw (r.before i (omega arith) (omega (arith, z)))) in
          let q : ltb (first_from n p 0) n ≡ false =
          by_cases (ltb (first_from n p 0) n) (λ t. absurd (z (ltb-true (first_from n p 0) n t))) (λ t. t) in
          rw (e, q)
    ]

-- ---- how many

pub count_same : (p q : ℕ → Bool) (n : ℕ) → ((i : ℕ) → i < n → p i ≡ q i) → count_of n p ≡ count_of n q
unfolding count_of
count_same p q zero h = refl
count_same p q (suc n) h = rw (count_same p q n (λ i l. h i (omega arith)), h n (omega arith))

-- a test that fails at k where the other holds, and agrees elsewhere, holds of one less
pub count_less : (p q : ℕ → Bool) (n k : ℕ) → k < n → p k ≡ true → q k ≡ false → ((i : ℕ) → i < n → i ≢ k → p i ≡ q i)
    → count_of n p ≡ suc (count_of n q)
unfolding count_of
count_less p q zero k b t f h = absurd (omega arith)
count_less p q (suc n) k b t f h = elim (ℕ_discrete k n) [
  | yes e ↦
      let tn : p n ≡ true = rw e at t in
      let fn : q n ≡ false = rw e at f in
      let s : count_of n p ≡ count_of n q = count_same p q n (λ i l. h i (omega arith) (λ z. omega arith)) in
      rw (tn, fn) (omega arith)
  | no z ↦
      let s : count_of n p ≡ suc (count_of n q) = count_less p q n k (omega arith) t f (λ i l ne. h i (omega arith) ne) in
      let e : p n ≡ q n = h n (omega arith) (λ y. z (sym y)) in
      rw (e, s) (omega arith)
]

pub count_most : (p : ℕ → Bool) (n : ℕ) → count_of n p ≤ n
unfolding count_of
count_most p zero = omega arith
count_most p (suc n) = by_cases (p n) (λ t. rw t (omega (arith, count_most p n))) (λ t. rw t (omega (arith, count_most p n)))

-- none holds exactly if the count is 0
pub count_none : (p : ℕ → Bool) (n : ℕ) → ((i : ℕ) → i < n → p i ≡ false) → count_of n p ≡ 0
unfolding count_of
count_none p zero h = refl
count_none p (suc n) h = rw (h n (omega arith), count_none p n (λ i l. h i (omega arith)))

pub count-some : (p : ℕ → Bool) (n i : ℕ) → i < n → p i ≡ true → 1 ≤ count_of n p
unfolding count_of
count-some p zero i b t = absurd (omega arith)
count-some p (suc n) i b t = elim (ℕ_discrete i n) [
  | yes e ↦ let u : p n ≡ true = rw e at t in rw u (omega arith)
  | no z ↦ omega (arith, count-some p n i (omega arith) t)
]

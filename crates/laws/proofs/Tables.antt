-- Laws of tests: what a list of tests that all hold tells, what a table that refuses nothing tells, a test of every number below a bound.
use Prim.Native.Nat.{ℕ, zero, suc, ◌+◌, ◌≤◌, ◌<◌}
use mathlib.Core.Path.{◌≡◌, refl, ap, sym, ◌∙◌}
use mathlib.Core.Logic.{⊎_elim, ◌⊎◌, inl, inr}
use mathlib.Core.List.{List, [], ◌∷◌}
use mathlib.Core.Bool.{Bool, true, false, ◌&&◌, ◌||◌, not, cond, and-false}
use native.Mathlib.Nat.{le_of_suc-le-suc, not-suc-le-zero, eq-or-lt_of_le}
use native.Mathlib.Numerals.{add-one}
use native.Mathlib.Omega.{arith}
use lib.Dec.{leb}
use lib.ListN.{get_or}
use borrow.Author.Tests.{leb-true, le-leb}
use Rattle.model.specs.Tables.{all_from, all, Row, first_of, every, within}

-- ---- Bools

pub and_left : (a b : Bool) → (a && b) ≡ true → a ≡ true
and_left true b h = refl
and_left false b h = h

pub and_right : (a b : Bool) → (a && b) ≡ true → b ≡ true
and_right true b h = h
and_right false b h = cc

pub and_both : {a b : Bool} → a ≡ true → b ≡ true → (a && b) ≡ true
and_both p q = rw (p, q)

pub and-fails : (a : Bool) {b : Bool} → b ≡ false → (a && b) ≡ false
and-fails a e = rw e (and-false a)

pub or_cases : (a b : Bool) → (a || b) ≡ true → (a ≡ true) ⊎ (b ≡ true)
or_cases true b h = inl refl
or_cases false b h = inr h

pub or_left : {a : Bool} (b : Bool) → a ≡ true → (a || b) ≡ true
or_left b p = rw p

pub or_right : (a : Bool) {b : Bool} → b ≡ true → (a || b) ≡ true
or_right true q = refl
or_right false q = q

pub or-other : (a b : Bool) → (a || b) ≡ true → a ≡ false → b ≡ true
or-other a b h e = rw e at h

pub or-neither : (a b : Bool) → (a || b) ≡ false → (a ≡ false) × (b ≡ false)
or-neither true b h = let z : ◌≡◌ {A = ℕ} 0 1 = cc in absurd (omega arith)
or-neither false b h = (refl, h)

pub not-true : (a : Bool) → not a ≡ true → a ≡ false
not-true true h = sym h
not-true false h = refl

pub true-not-false : {b : Bool} → b ≡ true → b ≡ false → ⊥
true-not-false p q = let z : ◌≡◌ {A = ℕ} 0 1 = cc in omega arith

-- which branch a test takes
pub when_true {ℓ} : {A : Type ℓ} {t : Bool} (a b : A) → t ≡ true → cond t a b ≡ a
when_true a b h = rw h

pub when_false {ℓ} : {A : Type ℓ} {t : Bool} (a b : A) → t ≡ false → cond t a b ≡ b
when_false a b h = rw h

pub cond_same {ℓ} : {A : Type ℓ} (t : Bool) (a : A) → cond t a a ≡ a
cond_same true a = refl
cond_same false a = refl

-- a test decides a goal
pub by_cases {ℓ} : {P : Type ℓ} (b : Bool) → (b ≡ true → P) → (b ≡ false → P) → P
by_cases true f g = f refl
by_cases false f g = g refl

-- ---- lists of tests

all_from_at : (t : Bool) (l : List Bool) (i : ℕ) → all_from t l ≡ true → get_or (t ∷ l) i true ≡ true
all_from_at t [] zero h = h
all_from_at t [] (suc i) h = refl
all_from_at t (u ∷ us) zero h = and_left t (all_from u us) h
all_from_at t (u ∷ us) (suc i) h = all_from_at u us i (and_right t (all_from u us) h)

-- where all hold, the i-th holds
pub all-at : (l : List Bool) (i : ℕ) → all l ≡ true → get_or l i true ≡ true
all-at [] i h = refl
all-at (t ∷ ts) i h = all_from_at t ts i h

-- all hold where each does
abbrev pub All : List Bool → Type 0
All [] = Unit {0}
All (t ∷ ts) = (t ≡ true) × All ts

all-holds_from : (t : Bool) (l : List Bool) → t ≡ true → All l → all_from t l ≡ true
all-holds_from t [] p q = p
all-holds_from t (u ∷ us) p q = and_both p (all-holds_from u us q.0 q.1)

pub all-holds : (l : List Bool) → All l → all l ≡ true
all-holds [] p = refl
all-holds (t ∷ ts) p = all-holds_from t ts p.0 p.1

-- ---- tables of refusals

-- every row has a number
abbrev pub Numbered : List Row → Type 0
Numbered [] = Unit {0}
Numbered (r ∷ rs) = (r.1 ≡ 0 → ⊥) × Numbered rs

pick-zero : (t : Bool) (n k : ℕ) → (n ≡ 0 → ⊥) → cond t n k ≡ 0 → (t ≡ false) × (k ≡ 0)
pick-zero true n k ne h = absurd (ne h)
pick-zero false n k ne h = (refl, h)

-- where no number is given, the i-th row's condition does not hold
pub none-at : (l : List Row) → Numbered l → first_of l ≡ 0 → (i : ℕ) → (get_or l i (false, 0)).0 ≡ false
none-at [] ne h i = refl
none-at (r ∷ rs) ne h zero = (pick-zero r.0 r.1 (first_of rs) ne.0 h).0
none-at (r ∷ rs) ne h (suc i) = none-at rs ne.1 (pick-zero r.0 r.1 (first_of rs) ne.0 h).1 i

-- no row holds: no number
abbrev pub No : List Row → Type 0
No [] = Unit {0}
No (r ∷ rs) = (r.0 ≡ false) × No rs

pub first-none : (l : List Row) → No l → first_of l ≡ 0
first-none [] h = refl
first-none (r ∷ rs) h = when_false _ _ h.0 ∙ first-none rs h.1

-- ---- a test of every number below n

module _ (p : ℕ → Bool) where
  pub every-none : every 0 p ≡ true
  unfolding every
  every-none = refl

  pub every_more : (i : ℕ) → every i p ≡ true → p i ≡ true → every (i + 1) p ≡ true
  unfolding every
  every_more i h e = rw (add-one, h, e)

  pub every-fails : (n i : ℕ) → i < n → p i ≡ false → every n p ≡ false
  unfolding every
  every-fails zero i l e = absurd (not-suc-le-zero l)
  every-fails (suc n) i l e =
      ⊎_elim (λ q. ap (λ (b : Bool). every n p && b) (sym (ap p q) ∙ e) ∙ and-false (every n p))
      (λ lt. ap (λ (b : Bool). b && p n) (every-fails n i lt e))
      (eq-or-lt_of_le (le_of_suc-le-suc l))

  -- where it holds of every number below n, it holds of each
  pub every-at : (n : ℕ) → every n p ≡ true → (i : ℕ) → i < n → p i ≡ true
  every-at n h i l = by_cases (p i) (λ t. t) (λ f. absurd (true-not-false h (every-fails n i l f)))

  -- and the other way round
  pub every-all : (n : ℕ) → ((i : ℕ) → i < n → p i ≡ true) → every n p ≡ true
  unfolding every
  every-all zero h = refl
  every-all (suc n) h = and_both (every-all n (λ i l. h i (omega arith))) (h n (omega arith))

-- two tests that agree below n
pub every-same : (p q : ℕ → Bool) (n : ℕ) → ((i : ℕ) → i < n → p i ≡ q i) → every n p ≡ every n q
unfolding every
every-same p q zero h = refl
every-same p q (suc n) h = rw (every-same p q n (λ i l. h i (omega arith)), h n (omega arith))

-- ---- a number of 1 to n

pub within-bounds : (n k : ℕ) → within n k ≡ true → (1 ≤ k) × (k ≤ n)
within-bounds n k h = (leb-true _ _ (and_left (leb 1 k) (leb k n) h), leb-true _ _ (and_right (leb 1 k) (leb k n) h))

pub within-holds : (n k : ℕ) → 1 ≤ k → k ≤ n → within n k ≡ true
within-holds n k a b = and_both (le-leb _ _ a) (le-leb _ _ b)

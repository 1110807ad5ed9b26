-- Laws of integers as differences of two numbers: each step of a product in signed integers, and what it asks, from
-- facts about numbers.
use mathlib.Core.Path.{◌≡◌, sym, ap, subst, ◌∙◌}
use mathlib.Core.Bool.{Bool, true, false, cond, not}
use Prim.Native.Nat.{ℕ, zero, suc, ◌+◌, ◌*◌, ◌-◌, ◌^◌, ◌≤◌, ◌<◌}
use native.Mathlib.Nat.{sub-zero}
use native.Mathlib.Omega.{arith}
use lib.Dec.{T, ltb, ltb→lt, nltb→le}
use lib.IntN.{ℤ, pos, negsuc, neg_ℤ, nat_abs, sub_ℕ, ◌+ℤ◌, ◌-ℤ◌, ◌*ℤ◌}
use lib.Signed.{mag, non_neg}
use mir.Syntax.{Width}
use mir.Val.{Fits, SFits, bits, hbits, to_z, of_z}
use mir.ValLaws.{to_z-of_z}
use Rattle.sums.specs.Products.{Difference, Minus}

-- ---- sum, difference, product

by-test : (b : Bool) (P : ℤ → Type 0) (x y : ℤ) → (T b → P x) → (T (not b) → P y) → P (cond b x y)
by-test true P x y f g = f tt
by-test false P x y f g = g tt

less-difference : (a b p n : ℕ) → a + n ≡ p + b → Difference (sub_ℕ a b) p n
less-difference a b p n e =
    by-test (ltb a b) (λ (z : ℤ). Difference z p n) (negsuc (b - suc a)) (pos (a - b))
    (λ t. let h : a < b = ltb→lt a b t in omega arith) (λ t. let h : b ≤ a = nltb→le a b t in omega arith)

add-difference : (x y : ℤ) (p n q m : ℕ) → Difference x p n → Difference y q m → Difference (x +ℤ y) (p + q) (n + m)
add-difference (pos a) (pos b) p n q m e f = omega arith
add-difference (pos a) (negsuc b) p n q m e f = less-difference a (suc b) (p + q) (n + m) (omega arith)
add-difference (negsuc a) (pos b) p n q m e f = less-difference b (suc a) (p + q) (n + m) (omega arith)
add-difference (negsuc a) (negsuc b) p n q m e f = omega arith

neg-difference : (x : ℤ) (p n : ℕ) → Difference x p n → Difference (neg_ℤ x) n p
neg-difference (pos zero) p n e = omega arith
neg-difference (pos (suc a)) p n e = omega arith
neg-difference (negsuc a) p n e = omega arith

times : (k a n p : ℕ) → a + n ≡ p → a * k + n * k ≡ p * k
times k a n p e = let f : (a + n) * k ≡ p * k = ap (λ (x : ℕ). x * k) e in omega arith

mul-difference : (x : ℤ) (k p n : ℕ) → Difference x p n → Difference (x *ℤ pos k) (p * k) (n * k)
mul-difference (pos a) k p n e = times k a n p e
mul-difference (negsuc a) k p n e =
    neg-difference (pos (suc a * k)) (n * k) (p * k) (times k (suc a) p n (omega arith))

module _ {x y : ℤ} {p n q m : ℕ} (e : Minus x p n) (f : Minus y q m) where
  pub add-minus : Minus (x +ℤ y) (p + q) (n + m)
  add-minus = record { difference = add-difference x y p n q m e.difference f.difference }

  pub sub-minus : Minus (x -ℤ y) (p + m) (n + q)
  sub-minus = record { difference = add-difference x (neg_ℤ y) p n m q e.difference (neg-difference y q m f.difference) }

-- ---- what an integer is

plain-difference : (z : ℤ) (p n : ℕ) → Difference z p n → n ≤ p → z ≡ pos (p - n)
plain-difference (pos a) p n e h = ap pos (omega arith)
plain-difference (negsuc a) p n e h = absurd (omega arith)

other-difference : (z : ℤ) (p n q m : ℕ) → Difference z p n → p + m ≡ q + n → Difference z q m
other-difference (pos a) p n q m e h = omega arith
other-difference (negsuc a) p n q m e h = omega arith

mag-difference : (z : ℤ) (p n h : ℕ) → Difference z p n → p < n + h → n ≤ p + h → mag z < h
mag-difference (pos a) p n h e f g = omega arith
mag-difference (negsuc a) p n h e f g = omega arith

pub minus_pos : (a : ℕ) → Minus (pos a) a 0
minus_pos a = record { difference = omega arith }

module _ {z : ℤ} {p n : ℕ} (e : Minus z p n) where
  -- one that is not below 0
  pub minus-plain : n ≤ p → z ≡ pos (p - n)
  minus-plain = plain-difference z p n e.difference

  -- the same difference of other numbers
  pub minus-other : (q m : ℕ) → p + m ≡ q + n → Minus z q m
  minus-other q m h = record { difference = other-difference z p n q m e.difference h }

  pub minus-fits : (w : Width) → p < n + 2 ^ hbits w → n ≤ p + 2 ^ hbits w → SFits w z
  minus-fits w f g = record { sfits = mag-difference z p n (2 ^ hbits w) e.difference f g }

  -- what the machine reads back from its bits
  pub minus-back : (w : Width) → p < n + 2 ^ hbits w → n ≤ p + 2 ^ hbits w → Minus (to_z w (of_z w z)) p n
  minus-back w f g = subst (λ (y : ℤ). Minus y p n) (sym (to_z-of_z w z (minus-fits w f g))) e

-- one that is not below 0, made unsigned
pub minus-abs : {z : ℤ} {n : ℕ} → Minus z n 0 → nat_abs z ≡ n
minus-abs {z} {n} e = ap nat_abs (minus-plain e (omega arith)) ∙ sub-zero n

pub minus-cast : {z : ℤ} {n : ℕ} → Minus z n 0 → (w : Width) → n < 2 ^ bits w → T (non_neg z) × Fits w (nat_abs z)
minus-cast {z} {n} e w h =
    let f : n - 0 ≡ n = sub-zero n in
    subst (λ (y : ℤ). T (non_neg y) × Fits w (nat_abs y)) (sym (minus-plain e (omega arith))) (tt, record { fits = rw f h })

-- a product with what is not below 0
pub mul-minus : {x y : ℤ} {p n q m : ℕ} → Minus x p n → Minus y q m → m ≤ q → Minus (x *ℤ y) (p * (q - m)) (n * (q - m))
mul-minus {x} {y} {p} {n} {q} {m} e f h =
    subst (λ (z : ℤ). Minus (x *ℤ z) (p * (q - m)) (n * (q - m))) (sym (minus-plain f h))
    (record { difference = mul-difference x (q - m) p n e.difference })

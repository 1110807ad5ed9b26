-- What the machine computes of signed words: a turn of a product, and the two tests behind the products. Each value is
-- read back from its bits, and is a difference of two numbers.
use mathlib.Core.List.{List}
use Prim.Native.Nat.{ℕ, suc, ◌+◌, ◌*◌, ◌-◌, ◌≤◌, ◌<◌}
use native.Mathlib.Nat.{mul-le-mul_right, sub-zero}
use native.Mathlib.Numerals.{add-one}
use native.Mathlib.Omega.{arith}
use lib.IntN.{ℤ, ◌+ℤ◌, ◌*ℤ◌}
use mir.Syntax.{w16, w32}
use mir.Val.{SFits, to_z, of_z}
use Rattle.laws.proofs.Fields.{Bytes}
use Rattle.model.specs.Bytes.{field}
use Rattle.sums.specs.Products.{Minus, Product, weights, weighed}
use Rattle.sums.proofs.Differences.{minus_pos, minus-fits, minus-back, minus-other, add-minus, mul-minus}
use Rattle.sums.proofs.Weighed.{word-most, weights-most, weighed-most}

-- a value in a local of 32 bits, read
abbrev pub read : ℤ → ℤ
read z = to_z w32 (of_z w32 z)

-- ---- a turn: one more word, which is x + 32768, with the next weight

-- no turn yet
pub no_words : (top : ℕ) (s : List ℕ) → Product top s 0 (to_z w32 0)
unfolding weights weighed
no_words top s = minus_pos 0

-- a word that is widened
pub word_back : (at : ℕ) (s : List ℕ) (z : ℤ) → Bytes s → Minus z (field 2 at s) 32768 → Minus (to_z w16 (of_z w16 z)) (field 2 at s) 32768
word_back at s z b e = minus-back e w16 (omega (arith, word-most at s b)) (omega arith)

pub record Turn (top : ℕ) (s : List ℕ) (n t : ℕ) (x : ℤ) : Type 0 where
  pub bytes : Bytes s
  pub few : n < 32
  pub above : n < top
  pub light : top ≤ 97
  pub so_far : Product top s n (to_z w32 t)
  pub word : Minus x (field 2 (2 * n) s) 32768

module _ {top : ℕ} {s : List ℕ} {n t : ℕ} {x : ℤ} (u : Turn top s n t x) where
  word_fits : field 2 (2 * n) s ≤ 65535
  word_fits = word-most (2 * n) s u.bytes

  abbrev pub weight : ℤ
  weight = to_z w32 (top - n)

  is-weight : Minus weight (top - n) 0
  is-weight = minus-back (minus_pos (top - n)) w32 (omega arith) (omega arith)

  abbrev pub term : ℤ
  term = read x *ℤ weight

  is-term : Minus term (field 2 (2 * n) s * (top - n)) (32768 * (top - n))
  is-term =
      rw sub-zero at (mul-minus (minus-back u.word w32 (omega (arith, word_fits)) (omega arith)) is-weight (omega arith))

  term-most : field 2 (2 * n) s * (top - n) ≤ 65535 * (top - n)
  term-most = mul-le-mul_right (top - n) word_fits

  pub term_fits : SFits w32 term
  term_fits = minus-fits is-term w32 (omega (arith, term-most)) (omega arith)

  abbrev pub sum : ℤ
  sum = to_z w32 t +ℤ read term

  is_sum : Product top s (suc n) sum
  unfolding weights weighed
  is_sum =
      minus-other (add-minus u.so_far (minus-back is-term w32 (omega (arith, term-most)) (omega arith)))
      (weighed top s (suc n)) (32768 * weights top (suc n)) (omega arith)

  sum-most : weighed top s (suc n) ≤ 65535 * weights top (suc n)
  sum-most = weighed-most top s (suc n) u.bytes

  all_most : weights top (suc n) ≤ 97 * suc n
  all_most = weights-most top (suc n) u.light

  pub sum_fits : SFits w32 sum
  sum_fits = minus-fits is_sum w32 (omega (arith, sum-most, all_most)) (omega (arith, all_most))

  pub sum-next : Product top s (n + 1) (read sum)
  sum-next = rw add-one (minus-back is_sum w32 (omega (arith, sum-most, all_most)) (omega (arith, all_most)))

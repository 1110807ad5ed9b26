-- What the machine makes of the two products of an item: the two numbers that are tested, and every value on the way
-- there.
use mathlib.Core.Path.{◌≡◌, subst}
use Prim.Native.Nat.{ℕ, ◌+◌, ◌*◌, ◌-◌, ◌≤◌, ◌<◌}
use native.Mathlib.Omega.{arith}
use lib.Dec.{T}
use lib.IntN.{ℤ, pos, nat_abs, ◌+ℤ◌, ◌-ℤ◌, ◌*ℤ◌, *ℤ_comm}
use lib.Signed.{non_neg}
use mir.Syntax.{w32}
use mir.Val.{SFits, Fits}
use Rattle.sums.specs.Products.{Minus}
use Rattle.sums.proofs.Differences.{minus_pos, minus-fits, minus-back, minus-other, minus-cast}
use Rattle.sums.proofs.Differences.{minus-abs, add-minus, sub-minus, mul-minus}
use Rattle.sums.proofs.Turns.{read}

-- p and q are the products of m words, whose sums are l and h; k and k' are their weights added up
pub record Pair (l h m k k' : ℕ) (p q : ℤ) : Type 0 where
  pub upper : Minus p (h + 65 * l) (32768 * k)
  pub lower : Minus q (h + 64 * l) (32768 * k')
  pub apart : k ≡ k' + m
  pub few : m ≤ 32
  pub light : k ≤ 97 * m
  pub most : h + 65 * l ≤ 65535 * k
  pub low-most : l ≤ 65535 * m

module _ {l h m k k' : ℕ} {p q : ℤ} (u : Pair l h m k k' p q) where
  p_back : Minus (read p) (h + 65 * l) (32768 * k)
  p_back = minus-back u.upper w32 (omega arith) (omega arith)

  q_back : Minus (read q) (h + 64 * l) (32768 * k')
  q_back = minus-back u.lower w32 (omega arith) (omega arith)

  -- the words
  abbrev pub all : ℤ
  all = read p -ℤ read q

  is_all : Minus all l (32768 * m)
  is_all = minus-other (sub-minus p_back q_back) l (32768 * m) (omega arith)

  pub all-fits : SFits w32 all
  all-fits = minus-fits is_all w32 (omega arith) (omega arith)

  pub all_back : Minus (read all) l (32768 * m)
  all_back = minus-back is_all w32 (omega arith) (omega arith)

  abbrev pub both : ℤ
  both = read p +ℤ read q

  is-both : Minus both (2 * h + 129 * l) (32768 * (k + k'))
  is-both = minus-other (add-minus p_back q_back) (2 * h + 129 * l) (32768 * (k + k')) (omega arith)

  pub both-fits : SFits w32 both
  both-fits = minus-fits is-both w32 (omega arith) (omega arith)

  abbrev pub often : ℤ
  often = pos 133 *ℤ read all

  is-often : Minus often (133 * l) (133 * (32768 * m))
  is-often =
      let e : Minus (read all *ℤ pos 133) (l * (133 - 0)) (32768 * m * (133 - 0)) = mul-minus all_back (minus_pos 133) (omega arith) in
      subst (λ (z : ℤ). Minus z (133 * l) (133 * (32768 * m))) (*ℤ_comm (read all) (pos 133))
      (minus-other e (133 * l) (133 * (32768 * m)) (omega arith))

  pub often-fits : SFits w32 often
  often-fits = minus-fits is-often w32 (omega arith) (omega arith)

  -- twice the words with the weights of the second sum
  abbrev pub twice : ℤ
  twice = read both -ℤ read often

  is-twice : Minus twice (2 * h + 133 * (32768 * m)) (32768 * (k + k') + 4 * l)
  is-twice =
      minus-other
      (sub-minus (minus-back is-both w32 (omega arith) (omega arith)) (minus-back is-often w32 (omega arith) (omega arith)))
      (2 * h + 133 * (32768 * m)) (32768 * (k + k') + 4 * l) (omega arith)

  pub twice-fits : SFits w32 twice
  twice-fits = minus-fits is-twice w32 (omega arith) (omega arith)

  pub twice_back : Minus (read twice) (2 * h + 133 * (32768 * m)) (32768 * (k + k') + 4 * l)
  twice_back = minus-back is-twice w32 (omega arith) (omega arith)

-- a number is added to such a sum, z, and the sum is then x, which is not below 0
pub record Raised (z i : ℤ) (p n q o x : ℕ) : Type 0 where
  pub sum : Minus z p n
  pub added : Minus i q o
  pub gives : p + q ≡ x + (n + o)
  pub inside : (p < n + 2147483648) × (n ≤ p + 2147483648)
  pub little : x < 2147483648

module _ {z i : ℤ} {p n q o x : ℕ} (u : Raised z i p n q o x) where
  abbrev pub raised : ℤ
  raised = read z +ℤ i

  is_x : Minus raised x 0
  is_x =
      minus-other (add-minus (minus-back u.sum w32 (omega (arith, u.inside.0)) (omega (arith, u.inside.1))) u.added) x 0
      (omega (arith, u.gives))

  pub raised-fits : SFits w32 raised
  raised-fits = minus-fits is_x w32 (omega (arith, u.little)) (omega arith)

  x-back : Minus (read raised) x 0
  x-back = minus-back is_x w32 (omega (arith, u.little)) (omega arith)

  pub raised-cast : T (non_neg (read raised)) × Fits w32 (nat_abs (read raised))
  raised-cast = minus-cast x-back w32 (omega (arith, u.little))

  pub raised-abs : nat_abs (read raised) ≡ x
  raised-abs = minus-abs x-back

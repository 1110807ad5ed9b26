-- The two products of an item judge its checksum: n words, and the sum's two behind them.
use mathlib.Core.Path.{◌≡◌, refl, sym, ap, subst, ◌∙◌}
use mathlib.Core.Bool.{Bool, true, false, not, ◌&&◌}
use mathlib.Core.List.{List}
use Prim.Native.Nat.{ℕ, suc, ◌+◌, ◌*◌, ◌-◌, ◌/◌, ◌%◌, ◌≤◌}
use native.Mathlib.Omega.{arith}
use lib.Dec.{eqb}
use lib.IntN.{ℤ, pos}
use lib.ListN.{length}
use Rattle.laws.proofs.Fields.{Bytes, field-add}
use Rattle.model.specs.Bytes.{field}
use Rattle.model.specs.Checksum.{sealed}
use Rattle.sums.specs.Products.{Minus, Product, Constants, weights, low, high}
use Rattle.sums.proofs.Multiples.{wrong-high, wrong-low, right-words}
use Rattle.sums.proofs.Pairs.{Pair, Raised}
use Rattle.sums.proofs.Weighed.{word-most, weights-most, weighed-most, low-most, high-most, weights-apart}
use Rattle.sums.proofs.Weighed.{weighed-split, sealed-words}

-- the weights of two products of n words and two
pub record Weights (n : ℕ) : Type 0 where
  pub few : n ≤ 30
  pub apart : weights (65 + suc (suc n)) (suc (suc n)) ≡ weights (64 + suc (suc n)) (suc (suc n)) + suc (suc n)

-- a test of multiples that failed, and one that was passed
pub failed : {t : Bool} {z x : ℕ} → t ≡ false → t ≡ eqb (z % 65535) 0 → z ≡ x → eqb (x % 65535) 0 ≡ false
failed h e f = sym (e ∙ ap (λ (k : ℕ). eqb (k % 65535) 0) f) ∙ h

pub passed : {t : Bool} {z x : ℕ} → t ≡ true → t ≡ eqb (z % 65535) 0 → z ≡ x → eqb (x % 65535) 0 ≡ true
passed h e f = sym (e ∙ ap (λ (k : ℕ). eqb (k % 65535) 0) f) ∙ h

-- the numbers that are tested
abbrev pub x-of : ℕ → List ℕ → ℕ
x-of n s = 2 * (n + high s n) + 131070 - 2 * field 2 (2 * n + 2) s

abbrev pub y_of : ℕ → List ℕ → ℕ
y_of n s = 1 + low s n + field 2 (2 * n) s + field 2 (2 * n + 2) s + 196605

abbrev pub y-rest : ℕ → ℕ → ℕ
y-rest c y = y - 2 * (c % 65536) - c / 65536

-- the two sums of m words' products, z, and what is added to them, i
abbrev pub First : ℕ → List ℕ → ℕ → ℤ → ℤ → Type 0
First n s m z i =
    Raised z i (2 * high s m + 133 * (32768 * m)) (32768 * (weights (65 + m) m + weights (64 + m) m) + 4 * low s m)
    (32768 * (weights (65 + m) m + weights (64 + m) m) + 2 * m + 131066) (133 * (32768 * m)) (x-of n s)

abbrev pub Second : ℕ → List ℕ → ℕ → ℤ → ℤ → Type 0
Second n s m z i = Raised z i (low s m) (32768 * m) (32768 * m + 196606) 0 (y_of n s)

-- both sums with two words more
pub low-all : (n : ℕ) (s : List ℕ) → low s (suc (suc n)) ≡ low s n + field 2 (2 * n) s + field 2 (2 * n + 2) s
unfolding low
low-all n s = let e : 2 * suc n ≡ 2 * n + 2 = omega arith in rw e

pub high-all : (n : ℕ) (s : List ℕ) → high s (suc (suc n)) ≡ high s n + 2 * low s n + 2 * field 2 (2 * n) s + field 2 (2 * n + 2) s
unfolding high low
high-all n s = let e : 2 * suc n ≡ 2 * n + 2 = omega arith in rw e (omega arith)

module _ (n : ℕ) (s : List ℕ) (b : Bytes s) where
  -- the stored words
  abbrev word_low : ℕ
  word_low = field 2 (2 * n) s

  abbrev word-high : ℕ
  word-high = field 2 (2 * n + 2) s

  abbrev x : ℕ
  x = x-of n s

  abbrev y : ℕ
  y = y_of n s

  low_fits : word_low ≤ 65535
  low_fits = word-most (2 * n) s b

  pub high_fits : word-high ≤ 65535
  high_fits = word-most (2 * n + 2) s b

  -- what is added to the two sums of m words' products, and what they are then
  module _ (m : ℕ) (e : m ≡ suc (suc n)) (few : m ≤ 32) (z i : ℤ) where
    low-of : low s m ≡ low s n + word_low + word-high
    low-of = ap (low s) e ∙ low-all n s

    high-of : high s m ≡ high s n + 2 * low s n + 2 * word_low + word-high
    high-of = ap (high s) e ∙ high-all n s

    pub first-raised : Minus z (2 * high s m + 133 * (32768 * m)) (32768 * (weights (65 + m) m + weights (64 + m) m) + 4 * low s m)
        → Minus i (32768 * (weights (65 + m) m + weights (64 + m) m) + 2 * m + 131066) (133 * (32768 * m))
        → First n s m z i
    first-raised f g =
        record {
          sum = f;
          added = g;
          gives = omega (arith, e, low-of, high-of, high_fits);
          inside = (
            omega (arith, few, high-most s m (omega (arith, few)) b),
            omega (arith, few, low-most s m b, weights-most (65 + m) m (omega (arith, few)), weights-most (64 + m) m (omega (arith, few))),
          );
          little = omega (arith, e, few, high-most s n (omega (arith, e, few)) b);
        }

    pub second-raised : Minus z (low s m) (32768 * m) → Minus i (32768 * m + 196606) 0
        → Second n s m z i
    second-raised f g =
        record {
          sum = f;
          added = g;
          gives = omega (arith, low-of);
          inside = (omega (arith, few, low-most s m b), omega (arith, few));
          little = omega (arith, e, few, low-of, low-most s m b);
        }

  module _ (long : 2 * n ≤ length s) where
    is-sealed : sealed (2 * n) s ≡ eqb ((n + high s n) % 65535 * 65536 + (1 + low s n) % 65535) (word_low + 65536 * word-high)
    is-sealed = sealed-words n (2 * n) s refl long

    -- the first test fails
    pub first-fails : eqb (x % 65535) 0 ≡ false → false ≡ sealed (2 * n) s
    first-fails t =
        wrong-high (1 + low s n) (n + high s n) word_low word-high x (1 + low s n + 196605 - word_low) low_fits high_fits
        (omega (arith, high_fits)) (omega (arith, low_fits)) t
        ∙ sym is-sealed

    -- the stored words, read together
    module _ (c : ℕ) (e : c ≡ field 4 (2 * n) s) where
      c-words : c ≡ word_low + 65536 * word-high
      c-words = e ∙ field-add 2 2 (2 * n) s

      c-low : c % 65536 ≡ word_low
      c-low = omega (arith, c-words, low_fits)

      c-high : c / 65536 ≡ word-high
      c-high = omega (arith, c-words, low_fits)

      abbrev rest : ℕ
      rest = y-rest c y

      rest-is : rest + word_low ≡ 1 + low s n + 196605
      rest-is = rw (c-low, c-high) (omega (arith, low_fits, high_fits))

      pub rest-low : 2 * (c % 65536) ≤ y
      rest-low = rw c-low (omega (arith, low_fits))

      pub rest-high : c / 65536 ≤ y - 2 * (c % 65536)
      rest-high = rw (c-low, c-high) (omega (arith, low_fits))

      pub second-fails : eqb (rest % 65535) 0 ≡ false → false ≡ sealed (2 * n) s
      second-fails t =
          wrong-low (1 + low s n) (n + high s n) word_low word-high x rest low_fits high_fits (omega (arith, high_fits)) rest-is t
          ∙ sym is-sealed

      pub both-pass : eqb (x % 65535) 0 ≡ true → eqb (rest % 65535) 0 ≡ true
          → (not (eqb (c % 65536) 65535) && not (eqb (c / 65536) 65535)) ≡ sealed (2 * n) s
      both-pass t v =
          ap (λ (k : ℕ). not (eqb k 65535) && not (eqb (c / 65536) 65535)) c-low
          ∙ ap (λ (k : ℕ). not (eqb word_low 65535) && not (eqb k 65535)) c-high
          ∙ right-words (1 + low s n) (n + high s n) word_low word-high x rest low_fits high_fits (omega (arith, high_fits)) rest-is t v
          ∙ sym is-sealed

-- the two products of m words
pub pair_of : (m : ℕ) (s : List ℕ) (p q : ℤ) → m ≤ 32 → Bytes s → Product (65 + m) s m p → Product (64 + m) s m q
    → Pair (low s m) (high s m) m (weights (65 + m) m) (weights (64 + m) m) p q
pair_of m s p q few b e f =
    let g = weighed-split 65 s m in
    let h = weighed-split 64 s m in
    record {
      upper = subst (λ (k : ℕ). Minus p k (32768 * weights (65 + m) m)) g e;
      lower = subst (λ (k : ℕ). Minus q k (32768 * weights (64 + m) m)) h f;
      apart = weights-apart (65 + m) (64 + m) m (omega arith) (omega arith);
      few = few;
      light = weights-most (65 + m) m (omega arith);
      most = omega (arith, g, weighed-most (65 + m) s m b);
      low-most = low-most s m b;
    }

pub record-weights : Weights 30
unfolding weights
record-weights = record { few = omega arith; apart = refl }

pub note-weights : Weights 6
unfolding weights
note-weights = record { few = omega arith; apart = refl }

-- what is added for a record's words, and for a note's
pub record-constants : Constants 32 (pos 30539834) (pos 1245182)
unfolding weights
record-constants = record { few = (omega arith, omega arith); first = record { difference = refl }; second = record { difference = refl } }

pub note-constants : Constants 8 (pos 1441802) (pos 458750)
unfolding weights
note-constants = record { few = (omega arith, omega arith); first = record { difference = refl }; second = record { difference = refl } }

-- The word sum of an image in four parts of 32 words: the sums of a part, and of the parts together.
use mathlib.Core.Path.{◌≡◌, refl, sym, ap, ◌∙◌}
use mathlib.Core.List.{List}
use Prim.Native.Nat.{ℕ, zero, suc, ◌+◌, ◌*◌, ◌-◌, ◌/◌, ◌%◌, ◌≤◌}
use native.Mathlib.Nat.{add-zero, add-suc, mul-le-mul_right}
use native.Mathlib.Numerals.{add-one}
use native.Mathlib.Omega.{arith}
use lib.Dec.{ltb}
use lib.IntN.{ℤ}
use lib.ListN.{length, take, drop}
use lib.Seq.{take_all}
use Rattle.laws.proofs.Fields.{Bytes, bytes-part, field-part}
use Rattle.laws.proofs.Tables.{by_cases}
use Rattle.model.specs.Bytes.{field, part}
use Rattle.model.specs.Checksum.{checksum}
use Rattle.sums.specs.Products.{Minus, weights, low, high, place_of, above_of, quarter, lows, highs}
use Rattle.sums.proofs.Judged.{low-all, high-all, high_fits}
use Rattle.sums.proofs.Pairs.{Raised}
use Rattle.sums.proofs.Weighed.{weighed-most, weighed-split, low-most, high-most, words-sum}

-- ---- a part

-- the slice from a place to 64 behind it
pub piece : (at : ℕ) (s : List ℕ) → take (at + 64 - at) (drop at s) ≡ part s at 64
unfolding part
piece at s = let e : at + 64 - at ≡ 64 = omega arith in rw e

-- twice what its two products make, where no checksum is stored
abbrev pub double : List ℕ → ℕ
double s = 2 * high s 30 + 131070 - 2 * field 2 62 s

-- the two sums, z, and what is added to them, i
abbrev pub Twice : List ℕ → ℤ → ℤ → Type 0
Twice s z i =
    Raised z i (2 * high s 32 + 133 * (32768 * 32)) (32768 * (weights (65 + 32) 32 + weights (64 + 32) 32) + 4 * low s 32) 30539774 0 (double s)

abbrev pub All : List ℕ → ℤ → ℤ → Type 0
All s z i = Raised z i (low s 32) (32768 * 32) 1048576 0 (low s 32)

module _ (s : List ℕ) (b : Bytes s) where
  module _ (z i : ℤ) where
    pub twice-raised : Minus z (2 * high s 32 + 133 * (32768 * 32)) (32768 * (weights (65 + 32) 32 + weights (64 + 32) 32) + 4 * low s 32)
        → Minus i 30539774 0
        → Twice s z i
    unfolding weights
    twice-raised f g =
        record {
          sum = f;
          added = g;
          gives = omega (arith, low-all 30 s, high-all 30 s, high_fits 30 s b);
          inside = (omega (arith, high-most s 32 (omega arith) b), omega (arith, low-most s 32 b));
          little = omega (arith, high-most s 30 (omega arith) b);
        }

    pub words-raised : Minus z (low s 32) (32768 * 32) → Minus i 1048576 0 → All s z i
    words-raised f g =
        record {
          sum = f;
          added = g;
          gives = omega arith;
          inside = (omega (arith, low-most s 32 b), omega arith);
          little = omega (arith, low-most s 32 b);
        }

  pub half : double s / 2 + 2 * low s 32 ≡ high s 32 + 65535
  half = omega (arith, low-all 30 s, high-all 30 s, high_fits 30 s b)

  pub part-low-most : low s 32 ≤ 2097120
  part-low-most = low-most s 32 b

  pub part-high-most : high s 32 ≤ 34602480
  unfolding weights
  part-high-most = omega (arith, weighed-split 0 s 32, weighed-most 32 s 32 b)

-- ---- words in front of others

module _ (s : List ℕ) (i m : ℕ) where
  pub low-join : (n : ℕ) → 2 * n ≤ m → low s (i + n) ≡ low s i + low (part s (2 * i) m) n
  unfolding low
  low-join zero h = rw (add-zero i) (omega arith)
  low-join (suc n) h =
      let e : 2 * (i + n) ≡ 2 * i + 2 * n = omega arith in
      let f : field 2 (2 * (i + n)) s ≡ field 2 (2 * i + 2 * n) s = rw e in
      rw (add-suc i n) (omega (arith, f, low-join n (omega arith), field-part 2 (2 * n) m (2 * i) s (omega arith)))

  pub high-join : (n : ℕ) → 2 * n ≤ m → high s (i + n) ≡ high s i + n * low s i + high (part s (2 * i) m) n
  unfolding high
  high-join zero h = rw (add-zero i) (omega arith)
  high-join (suc n) h =
      let e : low s (suc (i + n)) ≡ low s i + low (part s (2 * i) m) (suc n) = rw (← add-suc i n) (low-join (suc n) h) in
      rw (add-suc i n) (omega (arith, e, high-join n (omega arith)))

-- ---- the parts

above_most : (k : ℕ) → above_of k ≤ 94
above_most k = by_cases (ltb k 3) (λ t. rw t (omega arith)) (λ t. rw t (omega arith))

pub term-most : (u x : ℕ) → u ≤ 94 → x ≤ 2097120 → u * x ≤ 197129280
term-most u x h k = omega (arith, mul-le-mul_right x h)

module _ (s : List ℕ) (b : Bytes s) where
  pub lows-most : (k : ℕ) → lows s k ≤ 2097120 * k
  unfolding lows
  lows-most zero = omega arith
  lows-most (suc k) = omega (arith, lows-most k, part-low-most (quarter s k) (bytes-part s (place_of k) 64 b))

  pub highs-most : (k : ℕ) → highs s k ≤ 231731760 * k
  unfolding highs
  highs-most zero = omega arith
  highs-most (suc k) =
      let c = bytes-part s (place_of k) 64 b in
      omega (
        arith,
        highs-most k,
        part-high-most (quarter s k) c,
        term-most (above_of k) (low (quarter s k) 32) (above_most k) (part-low-most (quarter s k) c),
      )

-- none yet
pub no-parts : (s : List ℕ) → 1 ≡ 1 + lows s 0
unfolding lows
no-parts s = refl

pub no-parts-high : (s : List ℕ) → 126 ≡ 126 + highs s 0
unfolding highs
no-parts-high s = refl

-- one more
module _ (s : List ℕ) (k a b x y u : ℕ) (ex : x ≡ low (quarter s k) 32) where
  pub lows-next : a ≡ 1 + lows s k → a + x ≡ 1 + lows s (k + 1)
  unfolding lows
  lows-next e = rw (add-one k) (omega arith)

  pub highs-next : y ≡ high (quarter s k) 32 → u ≡ above_of k → b ≡ 126 + highs s k → b + (y + u * x) ≡ 126 + highs s (k + 1)
  unfolding highs
  highs-next ey eu e = rw (add-one k, ex, ey, eu, e) (omega arith)

-- all four, of which two words are in two
module _ (s : List ℕ) where
  none : low s 0 ≡ 0
  unfolding low
  none = refl

  none-high : high s 0 ≡ 0
  unfolding high
  none-high = refl

  -- the words of the parts, and the last two of the third by themselves
  joined : low s 96 ≡ low (quarter s 0) 32 + low (quarter s 1) 32 + low (quarter s 2) 32
  joined = omega (arith, low-join s 0 64 32 (omega arith), low-join s 32 64 32 (omega arith), low-join s 64 64 32 (omega arith), none)

  early : low s 96 ≡ low s 94 + field 2 188 s + field 2 190 s
  early = low-all 94 s

  pub lows-all : lows s 4 ≡ low s 126 + field 2 188 s + field 2 190 s
  unfolding lows
  lows-all = omega (arith, joined, early, low-join s 94 64 32 (omega arith))

  pub highs-all : highs s 4 ≡ high s 126 + 32 * field 2 188 s + 31 * field 2 190 s
  unfolding highs
  highs-all =
      omega (
        arith,
        joined,
        early,
        high-all 94 s,
        low-join s 0 64 32 (omega arith),
        low-join s 32 64 32 (omega arith),
        high-join s 0 64 32 (omega arith),
        high-join s 32 64 32 (omega arith),
        high-join s 64 64 32 (omega arith),
        high-join s 94 64 32 (omega arith),
        none,
        none-high,
      )

  pub image-checksum : length s ≡ 252 → checksum s ≡ (126 + high s 126) % 65535 * 65536 + (1 + low s 126) % 65535
  image-checksum h = ap checksum (sym (take_all 252 s (omega arith))) ∙ words-sum 126 252 s refl (omega arith)

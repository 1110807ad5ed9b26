-- Laws of words with weights: n words with the weights k + n to k + 1 make up the checksum's second sum and k times its
-- first.
use mathlib.Core.Path.{◌≡◌, refl, ap, ◌∙◌}
use mathlib.Core.List.{List}
use Prim.Native.Nat.{ℕ, zero, suc, ◌+◌, ◌*◌, ◌-◌, ◌%◌, ◌≤◌}
use native.Mathlib.Nat.{mul-le-mul_right}
use native.Mathlib.Omega.{arith}
use lib.Dec.{eqb}
use lib.ListN.{length, take, drop}
use lib.Seq.{length-take-le}
use Rattle.laws.proofs.Checksums.{checksum-word-late, checksum-end}
use Rattle.laws.proofs.Fields.{Bytes, field-add, field-take, field_below}
use Rattle.model.specs.Bytes.{field}
use Rattle.model.specs.Checksum.{checksum_from, checksum, sum_holds, sealed}
use Rattle.sums.specs.Products.{weights, weighed, low, high}
use Rattle.sums.proofs.LaneSums.{led}

-- ---- bounds

pub word-most : (at : ℕ) (s : List ℕ) → Bytes s → field 2 at s ≤ 65535
word-most at s b = omega (arith, field_below 2 at s b)

pub weights-most : (top n : ℕ) → top ≤ 97 → weights top n ≤ 97 * n
unfolding weights
weights-most top zero h = omega arith
weights-most top (suc n) h = omega (arith, weights-most top n h)

pub weighed-most : (top : ℕ) (s : List ℕ) (n : ℕ) → Bytes s → weighed top s n ≤ 65535 * weights top n
unfolding weights weighed
weighed-most top s zero b = omega arith
weighed-most top s (suc n) b =
    omega (arith, weighed-most top s n b, mul-le-mul_right (top - n) (word-most (2 * n) s b))

pub low-most : (s : List ℕ) (n : ℕ) → Bytes s → low s n ≤ 65535 * n
unfolding low
low-most s zero b = omega arith
low-most s (suc n) b = omega (arith, low-most s n b, word-most (2 * n) s b)

-- ---- the weights

pub weighed-split : (k : ℕ) (s : List ℕ) (n : ℕ) → weighed (k + n) s n ≡ high s n + k * low s n
unfolding weighed low high
weighed-split k s zero = omega arith
weighed-split k s (suc n) =
    let w = field 2 (2 * n) s in
    let e : k + suc n ≡ suc k + n = omega arith in
    let f : k + suc n - n ≡ suc k = omega arith in
    let g : w * suc k ≡ w + k * w = omega arith in
    let h : weighed (k + suc n) s n ≡ high s n + suc k * low s n = ap (λ (x : ℕ). weighed x s n) e ∙ weighed-split (suc k) s n in
    rw f (omega (arith, h))

pub weights-apart : (more top n : ℕ) → more ≡ suc top → n ≤ top → weights more n ≡ weights top n + n
unfolding weights
weights-apart more top zero e h = omega arith
weights-apart more top (suc n) e h = omega (arith, weights-apart more top n e (omega arith))

pub high-most : (s : List ℕ) (n : ℕ) → n ≤ 97 → Bytes s → high s n ≤ 65535 * (97 * n)
high-most s n h b =
    let e : 0 + n ≡ n = omega arith in
    omega (arith, rw e at (weighed-split 0 s n), weighed-most n s n b, weights-most n n h)

-- ---- the checksum

module _ (m : ℕ) (s : List ℕ) (fits : m ≤ length s) where
  words-summed : (n : ℕ) → 2 * n ≤ m
      → checksum (take m s) ≡ checksum_from ((1 + low s n) % 65535) ((n + high s n) % 65535) (drop (2 * n) (take m s))
  unfolding low high
  words-summed zero h = refl
  words-summed (suc n) h =
      let l : length (take m s) ≡ m = length-take-le m s fits in
      let w = field 2 (2 * n) (take m s) in
      let f : w ≡ field 2 (2 * n) s = field-take 2 (2 * n) m s (omega arith) in
      let e : 2 * n + 2 ≡ 2 * suc n = omega arith in
      let p : 1 + low s n + w ≡ 1 + low s (suc n) = omega arith in
      let q : n + high s n + (1 + low s n + w) ≡ suc n + high s (suc n) = omega arith in
      words-summed n (omega arith)
      ∙ checksum-word-late (1 + low s n) (n + high s n) (2 * n) (take m s) (omega arith)
      ∙ rw e (led checksum_from (drop (2 * suc n) (take m s)) p q)

-- the checksum of n words
pub words-sum : (n m : ℕ) (s : List ℕ) → m ≡ 2 * n → m ≤ length s
    → checksum (take m s) ≡ (n + high s n) % 65535 * 65536 + (1 + low s n) % 65535
words-sum n m s e h =
    let l : length (take m s) ≡ m = length-take-le m s h in
    words-summed m s h n (omega arith)
    ∙ checksum-end ((1 + low s n) % 65535) ((n + high s n) % 65535) (2 * n) (take m s) (omega arith)

-- an item of n words and a checksum in two more
pub sealed-words : (n m : ℕ) (s : List ℕ) → m ≡ 2 * n → m ≤ length s
    → sealed m s ≡ eqb ((n + high s n) % 65535 * 65536 + (1 + low s n) % 65535) (field 2 m s + 65536 * field 2 (m + 2) s)
unfolding sum_holds
sealed-words n m s e h = rw (words-sum n m s e h, field-add 2 2 m s)

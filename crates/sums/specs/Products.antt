-- Sums of words with weights, and integers as differences of numbers.
use Rattle.std.specs.Prelude.{◌≡◌, cond, List, ℕ, zero, suc, ◌+◌, ◌*◌, ◌-◌, ◌≤◌, ltb, ℤ, pos, negsuc}
use Rattle.model.specs.Bytes.{field, part}

-- an integer is p - n
abbrev pub Difference : ℤ → ℕ → ℕ → Type 0
Difference (pos a) p n = a + n ≡ p
Difference (negsuc a) p n = p + suc a ≡ n

pub record Minus (z : ℤ) (p n : ℕ) : Type 0 where
  pub difference : Difference z p n

-- the first n of the weights top, top - 1, .., added up
unfoldable pub weights : ℕ → ℕ → ℕ
weights top zero = 0
weights top (suc n) = weights top n + (top - n)

-- the first n words with these weights
unfoldable pub weighed : ℕ → List ℕ → ℕ → ℕ
weighed top s zero = 0
weighed top s (suc n) = weighed top s n + field 2 (2 * n) s * (top - n)

-- z is the sum of the first n words, each less 32768, with these weights
abbrev pub Product : ℕ → List ℕ → ℕ → ℤ → Type 0
Product top s n z = Minus z (weighed top s n) (32768 * weights top n)

-- the first n words, and the sum of what this sum was after each of them: the checksum's two sums are 1 and n more
unfoldable pub low : List ℕ → ℕ → ℕ
low s zero = 0
low s (suc n) = low s n + field 2 (2 * n) s

unfoldable pub high : List ℕ → ℕ → ℕ
high s zero = 0
high s (suc n) = high s n + low s (suc n)

-- what is added to the two sums that are made of m words' products, i and j, before these are tested: the last two of
-- the words are the item's checksum
pub record Constants (m : ℕ) (i j : ℤ) : Type 0 where
  pub few : (2 ≤ m) × (m ≤ 32)
  pub first : Minus i (32768 * (weights (65 + m) m + weights (64 + m) m) + 2 * m + 131066) (133 * (32768 * m))
  pub second : Minus j (32768 * m + 196606) 0

-- ---- an image's 126 words, in four parts of 32: the last starts two words early

abbrev pub place_of : ℕ → ℕ
place_of k = cond (ltb k 3) (64 * k) 188

-- what the words of part k weigh besides 32 to 1
abbrev pub above_of : ℕ → ℕ
above_of k = cond (ltb k 3) (94 - 32 * k) 0

abbrev pub quarter : List ℕ → ℕ → List ℕ
quarter s k = part s (place_of k) 64

-- the sums of the first k parts
unfoldable pub lows : List ℕ → ℕ → ℕ
lows s zero = 0
lows s (suc k) = lows s k + low (quarter s k) 32

unfoldable pub highs : List ℕ → ℕ → ℕ
highs s zero = 0
highs s (suc k) = highs s k + (high (quarter s k) 32 + above_of k * low (quarter s k) 32)

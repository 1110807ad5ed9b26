-- What the loops of both sums keep.
use Rattle.std.specs.Prelude.{◌≡◌, List, ℕ, ◌+◌, ◌*◌, ◌%◌, ◌≤◌, length, drop}
use Rattle.sums.specs.declared.partial.Sums.{Sums}

-- the sums, within bounds that are linear in the place, lead to the sum of all bytes; `from` sums the bytes that are
-- left
pub record Summed (from : ℕ → ℕ → List ℕ → ℕ) (s : List ℕ) (t : Sums) : Type 0 where
  pub inside : t.at ≤ length s
  pub few : t.a ≤ 4294967296 + 65536 * t.at
  pub many : t.b ≤ 1125899906842624 + 17179869184 * t.at
  pub leads : from (t.a % 65535) (t.b % 65535) (drop t.at s) ≡ from 1 0 s

-- the sums of the first 12 bytes
pub record Headed (t : Sums) : Type 0 where
  pub place : t.at ≡ 12
  pub few : t.a ≤ 1048576
  pub many : t.b ≤ 16777216

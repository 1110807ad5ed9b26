-- The lanes of the word sum.
use Rattle.std.specs.Prelude.{◌≡◌, List, ℕ, ◌+◌, ◌*◌, ◌%◌, drop}
use Rattle.model.specs.Bytes.{field}
use Rattle.model.specs.Checksum.{checksum_from}
use Rattle.sums.specs.declared.lanes.Lanes.{Lanes}
use Rattle.sums.specs.Lanes as lanes

abbrev pub Bounded : ℕ → Lanes ℕ → Type 0
Bounded i l = lanes.Bounded 8192 262144 i l

abbrev pub Stepped : List ℕ → ℕ → Lanes ℕ → Lanes ℕ → Type 0
Stepped s i l r = lanes.Stepped (field 2 i s) (field 2 (i + 2) s) (field 2 (i + 4) s) (field 2 (i + 6) s) l r

abbrev pub low : Lanes ℕ → ℕ
low l = lanes.low l

abbrev pub high : Lanes ℕ → ℕ
high l = lanes.high 4 l

-- k words lead from place i to place j, and from lanes to others, over any sums that were before the lanes
pub record Passed (s : List ℕ) (i : ℕ) (l : Lanes ℕ) (j : ℕ) (r : Lanes ℕ) (k : ℕ) : Type 0 where
  pub same : (a b : ℕ)
      → checksum_from ((a + low l) % 65535) ((b + high l) % 65535) (drop i s)
      ≡ checksum_from ((a + low r) % 65535) ((b + k * a + high r) % 65535) (drop j s)

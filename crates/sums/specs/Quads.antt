-- The lanes of the byte sum, four of the eight.
use Rattle.std.specs.Prelude.{List, ℕ, ◌+◌, get_or}
use Rattle.sums.specs.declared.lanes.Lanes.{Lanes}
use Rattle.sums.specs.Lanes as lanes

abbrev pub Bounded : ℕ → Lanes ℕ → Type 0
Bounded k l = lanes.Bounded 32 480 k l

abbrev pub Stepped : List ℕ → ℕ → Lanes ℕ → Lanes ℕ → Type 0
Stepped s i l r = lanes.Stepped (get_or s i 0) (get_or s (i + 1) 0) (get_or s (i + 2) 0) (get_or s (i + 3) 0) l r

-- what they add to the two sums; the first four of eight lanes add 4 times their low sum more to the second
abbrev pub low : Lanes ℕ → ℕ
low l = lanes.low l

abbrev pub high : Lanes ℕ → ℕ
high l = lanes.high 8 l

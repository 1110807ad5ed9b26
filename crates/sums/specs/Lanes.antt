-- Four lanes of a sum.
use Rattle.std.specs.Prelude.{◌≡◌, ℕ, ◌+◌, ◌*◌, ◌≤◌}
use Rattle.sums.specs.declared.lanes.Lanes.{Lanes}

-- with one value in every lane
abbrev pub all_lanes : {T : Type 0} → T → Lanes T
all_lanes v = record { x0 = v; x1 = v; x2 = v; x3 = v; z0 = v; z1 = v; z2 = v; z3 = v }

-- bounds that are linear in the bytes read, p of each for x and q for z
pub record Bounded (p q i : ℕ) (l : Lanes ℕ) : Type 0 where
  pub bx0 : l.x0 ≤ p * i
  pub bx1 : l.x1 ≤ p * i
  pub bx2 : l.x2 ≤ p * i
  pub bx3 : l.x3 ≤ p * i
  pub bz0 : l.z0 ≤ q * i
  pub bz1 : l.z1 ≤ q * i
  pub bz2 : l.z2 ≤ q * i
  pub bz3 : l.z3 ≤ q * i

-- what a step with four terms makes of the lanes
pub record Stepped (t0 t1 t2 t3 : ℕ) (l r : Lanes ℕ) : Type 0 where
  pub e0 : r.x0 ≡ l.x0 + t0
  pub e1 : r.x1 ≡ l.x1 + t1
  pub e2 : r.x2 ≡ l.x2 + t2
  pub e3 : r.x3 ≡ l.x3 + t3
  pub f0 : r.z0 ≡ l.z0 + l.x0
  pub f1 : r.z1 ≡ l.z1 + l.x1
  pub f2 : r.z2 ≡ l.z2 + l.x2
  pub f3 : r.z3 ≡ l.z3 + l.x3

-- what they add to the two sums, where a step has w terms
abbrev pub low : Lanes ℕ → ℕ
low l = l.x0 + l.x1 + l.x2 + l.x3

abbrev pub high : ℕ → Lanes ℕ → ℕ
high w l = w * (l.z0 + l.z1 + l.z2 + l.z3) + (4 * l.x0 + 3 * l.x1 + 2 * l.x2 + l.x3)

-- How large figures can be: no reader has to believe it, it shows that no sum wraps.
use Rattle.std.specs.Prelude.{ℕ, ◌*◌, ◌≤◌, List, get_or}
use Rattle.planning.specs.Rehearsal.{no_figures}
use Rattle.planning.specs.declared.rehearsal.Figures.{Figures}
use Rattle.planning.specs.declared.rehearsal.Totals.{Totals}

-- every figure of a row is at most b
abbrev pub Small : ℕ → Figures → Type 0
Small b r =
    (r.loads ≤ b) × (r.records ≤ b) × (r.images ≤ b) × (r.backups ≤ b) × (r.notes ≤ b) × (r.replayed ≤ b)

-- and so of every row
abbrev pub Bounded : ℕ → List Figures → Type 0
Bounded b pages = (i : ℕ) → Small b (get_or pages i no_figures)

-- a total of n rows
abbrev pub Sums : ℕ → Totals → Type 0
Sums n a =
    (a.loads ≤ 4294967295 * n) × (a.records ≤ 4294967295 * n) × (a.images ≤ 4294967295 * n)
    × (a.backups ≤ 4294967295 * n) × (a.notes ≤ 4294967295 * n) × (a.replayed ≤ 4294967295 * n)

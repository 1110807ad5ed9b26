-- What one pass over the log finds: numbers from f to the one before `next`, and no others.
use Rattle.std.specs.Prelude.{ℕ, suc, ◌+◌, ◌-◌, ◌≤◌, ◌≡◌, true, List}
use Rattle.model.specs.Geometry.{ring}
use Rattle.model.specs.Scan.{valid_log, durable_count, first_held, indexed_run}
use Rattle.model.specs.declared.geometry.Geometry.{Geometry}
use Rattle.section.specs.Sweep.{begun_of}
use Rattle.log_scan.specs.Rows.{lasts}

-- the log's counts
pub record LogCounts (g : Geometry) (v : List ℕ) (f next : ℕ) : Type 0 where
  pub some : 1 ≤ f
  pub order : f ≤ next
  pub few : next ≤ f + g.records
  pub low : next ≤ 4294967295
  pub count : next ≡ suc (durable_count g v)
  pub first : first_held g v (durable_count g v) ≡ begun_of (ring g) f (next - f)
  pub empty : next ≡ f → f ≡ 1

pub record LogSwept (g : Geometry) (v : List ℕ) (f next : ℕ) (last : List ℕ) : Type 0 where
  pub held : LogCounts g v f next
  pub valid : valid_log g v ≡ true
  pub last-is : last ≡ lasts (indexed_run g v)

-- What the log's pass asks of a record, and what it leaves where it stops without a fault.
use Rattle.std.specs.Prelude.{ℕ, ◌+◌, ◌-◌, ◌≤◌, ◌<◌, ◌≡◌, Bool, true, false, ◌&&◌, ◌||◌, List, eqb, leb}
use Rattle.model.specs.Bytes.{field}
use Rattle.model.specs.Checksum.{sealed}
use Rattle.model.specs.Geometry.{item, log_slot}
use Rattle.model.specs.Item.{record_layout}
use Rattle.model.specs.Scan.{log_index, record_fits}
use Rattle.model.specs.Tables.{every, within}
use Rattle.model.specs.declared.geometry.Geometry.{Geometry}
use Rattle.log_scan.specs.Rows.{lasts}

-- record_fits by parts, of what is read for it: number, page and layout
abbrev pub right_of : List ℕ → ℕ → ℕ → ℕ → Bool
right_of r n page pages = (eqb (field 4 0 r) n && within pages page) && record_layout r

-- and the chain: numbers up to `below` are below the run
abbrev pub links_to : ℕ → ℕ → ℕ → ℕ → Bool
links_to prev last below kind = (eqb prev last || (eqb last 0 && within below prev)) && (eqb kind 1 || leb 1 prev)

-- the records passed, of numbers from f to the one before `next`, and the slot behind them
pub record LogPassed (g : Geometry) (v : List ℕ) (f next : ℕ) (last : List ℕ) : Type 0 where
  pub order : f ≤ next
  pub few : next ≤ f + g.records
  pub fit : every (next - f) (λ i. record_fits g v f (log_index g v f i) (f + i)) ≡ true
  pub last-is : last ≡ lasts (log_index g v f (next - f))
  pub torn : next - f < g.records → sealed 60 (item g v (log_slot g next)) ≡ false

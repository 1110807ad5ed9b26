-- What a scan into columns gives: its refusal, and where there is none the counts and the columns.
use Rattle.std.specs.Prelude.{ℕ, ◌-◌, ◌≡◌, List, Result, IfOk}
use Rattle.model.specs.Geometry.{ring}
use Rattle.model.specs.Refused.{error_number}
use Rattle.model.specs.declared.answer.Refusal.{Refusal}
use Rattle.model.specs.declared.geometry.Geometry.{Geometry}
use Rattle.section.specs.Sweep.{begun_of}
use Rattle.index.specs.declared.Counts.{Counts}
use Rattle.index_rows.specs.declared.columns.Columns.{Columns}
use Rattle.index_rows.specs.Columns.{ColumnsOf}
use Rattle.index.specs.Scanned.{scan_refusal, column_index, counts_of}

pub record Filled (v : List ℕ) (r : Result Counts Refusal) (c : Columns) : Type 0 where
  pub refusal : error_number r ≡ scan_refusal v
  pub counts : IfOk r (λ (n : Counts). n ≡ counts_of v)
  pub columns : IfOk r (λ (n : Counts). ColumnsOf (column_index v) c)

-- what sweeps count that found the log's numbers from f to the one before `next`, and the notes' to the one before k
abbrev pub swept_counts : Geometry → ℕ → ℕ → ℕ → Counts
swept_counts g f next k = record { first = begun_of (ring g) f (next - f); durable = next - 1; notes = k - 1 }

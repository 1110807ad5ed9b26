-- The scan of a volume, with its refusals, and what a clean one gives.
use Rattle.std.specs.Prelude.{ℕ, Bool, ◌&&◌, not, List, [], ◌∷◌, ltb}
use Rattle.model.specs.Tables.{Row, first_of}
use Rattle.model.specs.Geometry.{geometry_of, valid_volume}
use Rattle.model.specs.Index.{entry_of}
use Rattle.model.specs.Scan.{valid_log, durable_count, first_held, valid_notes, note_count, index_of}
use Rattle.model.specs.declared.state.Entry.{Entry}
use Rattle.index.specs.declared.Counts.{Counts}
use Rattle.index.specs.declared.Scanned.{Scanned}
use Rattle.index.specs.declared.Found.{Found}
use Rattle.index.specs.NoteSection.{noted_index}

unfoldable pub scan_rows : List ℕ → List Row
scan_rows v =
    (not (valid_volume v), 1) ∷ (not (valid_log (geometry_of v) v), 17) ∷ (not (valid_notes (geometry_of v) v), 18) ∷ []

-- 0, or the refusal of a scan
abbrev pub scan_refusal : List ℕ → ℕ
scan_refusal v = first_of (scan_rows v)

-- the index whose columns a clean scan fills, before a restart's last step, and the one that it gives
abbrev pub column_index : List ℕ → List Entry
column_index v = noted_index (geometry_of v) v

abbrev pub scanned_index : List ℕ → List Entry
scanned_index v = index_of (geometry_of v) v

-- what a clean scan counts, and what it gives
abbrev pub counts_of : List ℕ → Counts
counts_of v =
    let g = geometry_of v in
    record { first = first_held g v (durable_count g v); durable = durable_count g v; notes = note_count g v }

-- record 1 has left a log of these counts
abbrev pub gone_in : Counts → Bool
gone_in c = ltb 0 c.durable && ltb 1 c.first

abbrev pub scanned_of : List ℕ → Scanned
scanned_of v =
    let g = geometry_of v in
    record {
      first = first_held g v (durable_count g v);
      durable = durable_count g v;
      notes = note_count g v;
      index = scanned_index v;
    }

abbrev pub found_of : List ℕ → ℕ → Found
found_of v page = record { first = (counts_of v).first; entry = entry_of (scanned_index v) page }

-- The log as a section of a volume, and what its scan gives.
use Rattle.std.specs.Prelude.{ℕ, ◌≤◌, ◌≡◌, Bool, ◌&&◌, ◌||◌, List, [], ◌∷◌, eqb, length}
use Rattle.model.specs.Tables.{all, within}
use Rattle.model.specs.Geometry.{length_for, record_at, start, ring}
use Rattle.model.specs.Item.{first_is_format}
use Rattle.model.specs.Scan.{durable_count, first_held}
use Rattle.model.specs.declared.{geometry.Geometry.Geometry, item.LogRecord.LogRecord}
use Rattle.section.specs.Section.{front_in}
use Rattle.section.specs.declared.Extent.{Extent}
use Rattle.section.specs.declared.Run.{Run}

-- what a valid volume tells of its counts and its length
pub record Sized (g : Geometry) (v : List ℕ) : Type 0 where
  pub pages : g.pages ≤ 64
  pub slots : g.slots ≤ 128
  pub some : 1 ≤ g.records
  pub records : g.records ≤ 1024
  pub notes : g.notes ≤ 1024
  pub size : length v ≡ length_for g.pages g.slots g.records g.notes

abbrev pub log_section : Geometry → Extent
log_section g = record { ring = ring g; at = start g (record_at 1); size = 60; slots = g.records }

abbrev pub log_run : Geometry → List ℕ → Run
log_run g v =
    record { first = first_held g v (durable_count g v); count = durable_count g v; front = front_in v (log_section g) }

-- record_fits, of a record's fields and its page's last earlier record; numbers up to `below` are below the run
abbrev pub record_follows : Bool → Bool → LogRecord → ℕ → ℕ → ℕ → ℕ → Bool
record_follows whole layout e pages below last n =
    all
    (whole ∷ layout ∷ eqb e.lsn n ∷ within pages e.page
    ∷ ((eqb e.prev last || (eqb last 0 && within below e.prev)) && first_is_format e) ∷ [])

-- The calls that read volumes and take no state. States document 02, §1: "This call, and each later one that takes
-- volumes but no state, is refused 1, 17 and 18 as a restart is."
use Rattle.std.specs.Prelude.{ℕ, zero, suc, ◌+◌, ◌-◌, ◌≡◌, cond, not, List, [], ◌∷◌, ◌++◌, eqb}
use Rattle.model.specs.Tables.{Row, first_of}
use Rattle.model.specs.Geometry.{geometry_of, valid_volume, item, log_slot}
use Rattle.model.specs.Scan.{log_record, durable_count, first_held, gone}
use Rattle.model.specs.Repair.{View, scanned_view}
use Rattle.model.specs.declared.geometry.Geometry.{Geometry}
use Rattle.model.specs.Refusals.{log_rows}

-- the rows of one volume
abbrev pub scan_rows : List ℕ → List Row
scan_rows v = (not (valid_volume v), 1) ∷ log_rows v []

-- and of a call that wants the whole history, before its own: "24, the whole history is wanted and record 1 has left
-- the log, before 21"
abbrev pub whole_rows : List ℕ → List Row → List Row
whole_rows v rows = (not (valid_volume v), 1) ∷ log_rows v ((gone (geometry_of v) v, 24) ∷ rows)

-- a volume that a restart takes
abbrev pub Restarts : List ℕ → Type 0
Restarts v = first_of (scan_rows v) ≡ 0

-- page p of a volume, by the index that its log and notes give
abbrev pub page_view : List ℕ → ℕ → View
page_view v p = scanned_view (geometry_of v) v p

-- page p's records among the c from number f on, by number, as they stand in the log
unfoldable pub page_records : Geometry → List ℕ → ℕ → ℕ → ℕ → List (List ℕ)
page_records g v p f zero = []
page_records g v p f (suc c) =
    page_records g v p f c ++ cond (eqb (log_record g v (f + c)).page p) (item g v (log_slot g (f + c)) ∷ []) []

-- page p's records in the run: "the durable records a restart finds"
abbrev pub held_records : List ℕ → ℕ → List (List ℕ)
held_records v p =
    let g = geometry_of v in
    let n = durable_count g v in
    let f = first_held g v n in
    page_records g v p f (suc n - f)

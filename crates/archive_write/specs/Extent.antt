-- What the archive's length and its writer (document 02, §6) find out about a volume first: the refusal, or how many
-- records it has and how long its archive is. And a length as one number.
use Rattle.std.specs.Prelude.{ℕ, Result, Ok, Err, List, []}
use Rattle.model.specs.Tables.{first_of}
use Rattle.model.specs.Refused.{refusal_number}
use Rattle.model.specs.Geometry.{geometry_of}
use Rattle.model.specs.Scan.{durable_count}
use Rattle.reports.specs.Reading.{whole_rows}
use Rattle.reports.specs.Archive.{archive_length}
use Rattle.model.specs.declared.answer.Refusal.{Refusal}
use Rattle.archive_write.specs.declared.Extent.{Extent}

-- 0, or the refusal of a call that wants the whole history
abbrev pub whole_refusal : List ℕ → ℕ
whole_refusal v = first_of (whole_rows v [])

-- where nothing is refused
abbrev pub extent_of : List ℕ → Extent
extent_of v = record { durable = durable_count (geometry_of v) v; size = archive_length v }

-- a length, or the refusal, as the definitions give it: by its number
abbrev pub size_told : Result ℕ Refusal → Result ℕ ℕ
size_told (Err r) = Err (refusal_number r)
size_told (Ok n) = Ok n

-- a length as one number, for C: 0 where it is refused. No archive has length 0
abbrev pub size_number : Result ℕ ℕ → ℕ
size_number (Err n) = 0
size_number (Ok n) = n

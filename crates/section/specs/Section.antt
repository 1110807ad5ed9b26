-- A section of a volume, its log or its notes: where it lies, its slots, and the numbers that they hold, by the model's
-- definitions (document 01, "Reading the disk", and document 02, §7).
use Rattle.std.specs.Prelude.{ℕ, ◌+◌, ◌-◌, ◌*◌, ◌≤◌, ◌≡◌, List, length}
use Rattle.model.specs.Bytes.{part}
use Rattle.model.specs.Checksum.{sealed_run}
use Rattle.model.specs.Scan as scan
use Rattle.section.specs.declared.Extent.{Extent}
use Rattle.section.specs.declared.Run.{Run}
use Rattle.section.specs.declared.Front.{Front}

-- a section lies within the volume; one without slots lies at its end
pub record Placed (v : List ℕ) (s : Extent) : Type 0 where
  pub room : s.at + (s.size + 4) * s.slots ≤ length v
  pub short : s.size ≤ 252
  pub few : s.slots ≤ 1024
  pub none : s.slots ≡ 0 → length v ≤ s.at

-- slot i of a section, counted from 0
abbrev pub slot_bytes : List ℕ → Extent → ℕ → List ℕ
slot_bytes v s i = part v (s.at + (s.size + 4) * i) (s.size + 4)

-- the model's `highest`, by places
abbrev pub highest_at : ℕ → List ℕ → ℕ → ℕ → ℕ
highest_at c v at count = scan.highest c (λ i. part v (at + (c + 4) * (i - 1)) (c + 4)) count

-- how many of `count` slots are whole before the first that is not, and the highest number in these
abbrev pub front_at : ℕ → List ℕ → ℕ → ℕ → Front
front_at c v at count = record { slots = sealed_run c count v at; top = highest_at c v at (sealed_run c count v at) }

abbrev pub front_in : List ℕ → Extent → ℕ
front_in v s = sealed_run s.size s.slots v s.at

-- the section as the scan's definitions take it, and the numbers that it holds
abbrev pub slots_in : List ℕ → Extent → scan.Section
slots_in v s =
    record { ring = s.ring; size = s.size; slots = s.slots; at = s.at; slot = λ i. slot_bytes v s (i - 1) }

abbrev pub run_in : List ℕ → Extent → Run
run_in v s =
    let n = scan.count_in v (slots_in v s) in
    record { first = scan.first_in (slots_in v s) n; count = n; front = front_in v s }

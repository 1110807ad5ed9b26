-- What the disk does to a volume of 2 pages, 1 slot, 16 records and 8 notes.
use Rattle.std.specs.Prelude.{ℕ, ◌-◌, List, replicate}
use Rattle.model.specs.Bytes.{part, splice}
use Rattle.model.specs.Geometry.{length_for}
use Rattle.model.specs.Tables.{smaller}

abbrev pub size : ℕ
size = length_for 2 1 16 8

-- the bytes from a place to another, or to the end, are those of an older copy
unfoldable pub given_back : List ℕ → List ℕ → ℕ → ℕ → List ℕ
given_back v old from to = splice v from (part old from (smaller to size - from))

-- they are all the byte 0x23
abbrev pub spoiled : List ℕ → ℕ → ℕ → List ℕ
spoiled v from to = given_back v (replicate size 0x23) from to

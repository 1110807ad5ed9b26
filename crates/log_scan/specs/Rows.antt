-- The row of a page in the index, and the column of last numbers, a row for each page.
use Rattle.std.specs.Prelude.{ℕ, ◌-◌, cond, List, map, leb}
use Rattle.model.specs.declared.state.Entry.{Entry}

-- counted from 0; row 0 for a page that has none, so that every page may be looked up
unfoldable pub row_of : ℕ → ℕ
row_of page = cond (leb page 64) (page - 1) 0

abbrev pub lasts : List Entry → List ℕ
lasts index = map (λ (e : Entry). e.last) index

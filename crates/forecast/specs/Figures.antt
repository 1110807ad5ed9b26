-- The figures as the code makes them: from a walk's two numbers, and page by page from an index at hand.
use Rattle.std.specs.Prelude.{ℕ, suc, ◌≤◌, cond, List, ltb}
use Rattle.model.specs.Index.{entry_of}
use Rattle.model.specs.Repair.{view_of, walk_of, is_below}
use Rattle.reports.specs.Forecast.{counted, below, figure_of}
use Rattle.model.specs.declared.{geometry.Geometry.Geometry, state.Entry.Entry}
use Rattle.reports.specs.declared.reading.Figure.{Figure}
use Rattle.repair.specs.Walked.{Ready, Whole}
use Rattle.repair.specs.declared.walk.Walked.{Walked}

-- an index by which each page's walk may be made untested
pub record Indexed (v : List ℕ) (g : Geometry) (first : ℕ) (index : List Entry) : Type 0 where
  pub ready : (p : ℕ) → 1 ≤ p → p ≤ g.pages → Ready g first (entry_of index p) p
  pub whole : (p : ℕ) → 1 ≤ p → Whole g p (view_of g v first (entry_of index p) p)

-- what a walk comes to
abbrev pub figure_as : Walked → Figure
figure_as w = cond (is_below w.stop) below (counted w.count)

-- page p's figure, by an index
abbrev pub figure_for : Geometry → List ℕ → ℕ → List Entry → ℕ → Figure
figure_for g v first index p = figure_of (walk_of g p (view_of g v first (entry_of index p) p))

-- the row of page i + 1
abbrev pub figure_in : Geometry → List ℕ → ℕ → List Entry → ℕ → Figure
figure_in g v first index i = cond (ltb i g.pages) (figure_for g v first index (suc i)) (counted 0)

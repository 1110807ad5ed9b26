-- `forecast::rows` meets its contract: the loop fills the table row by row.
use Prim.Native.Nat.{suc}
use Rattle.reports.specs.Forecast.{counted}
use Rattle.forecast.specs.Figures.{figure_for}
use Rattle.forecast.proofs.Fills.{Filling}
use Rattle.forecast.proofs.rows.Given as goal

abbrev pub invariant-loop-i : goal.invariant-loop-i
invariant-loop-i l = Filling (λ k. figure_for l.v.geometry l.v.bytes.now l.first l.index (suc k)) (counted 0) 64 l.pages l.i

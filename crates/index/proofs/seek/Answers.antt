-- `index::seek` meets its contract: the columns are those of the index.
use mathlib.Core.Path.{ap, ◌∙◌}
use Prim.Native.Nat.{◌-◌}
use Rattle.index.specs.declared.Counts.{Counts}
use Rattle.index_rows.proofs.ColumnLaws.{settled-row}
use Rattle.index.proofs.seek.Goals as goal

pub returns-clause-clean : goal.returns-clause-clean
returns-clause-clean c =
    let f = c.in_ok-counts.ensures in
    let first = ap (λ (k : Counts). k.first) f.counts in
    let entry = c.entry.ensures ∙ settled-row _ _ f.columns (c.args.page - 1) in
    λ i. record { first = first i; entry = entry i }

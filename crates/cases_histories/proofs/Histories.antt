-- The worked histories, of both headings.
use mathlib.Core.List.{◌++◌}
use Rattle.model.specs.declared.geometry.Heading.TheVariants.{First, Second}
use Rattle.cases.specs.Worked.{AllComputed}
use Rattle.cases.specs.Histories.{under, others, histories}
use Rattle.cases_laws.proofs.Worked.{both}
use Rattle.cases_histories_first.proofs.First.{first-worked}
use Rattle.cases_histories_second.proofs.Second.{second-worked, others-worked}

pub worked : AllComputed histories
unfolding histories
worked =
    both (under First) (under Second ++ others) first-worked (both (under Second) others second-worked others-worked)

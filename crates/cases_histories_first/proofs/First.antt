-- The worked histories under the first heading, computed.
use Rattle.model.specs.declared.geometry.Heading.TheVariants.{First}
use Rattle.cases.specs.Opened.{opened}
use Rattle.cases.specs.Worked.{AllComputed}
use Rattle.cases.specs.Histories.{under}
use Rattle.cases_laws.proofs.Worked.{all-computed}

pub first-worked : AllComputed (under First)
unfolding opened
first-worked = all-computed (under First) tt

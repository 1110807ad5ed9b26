-- The worked histories under the second heading, and those under it alone, computed.
use Rattle.model.specs.declared.geometry.Heading.TheVariants.{Second}
use Rattle.cases.specs.Opened.{opened}
use Rattle.cases.specs.Worked.{AllComputed}
use Rattle.cases.specs.Histories.{under, others}
use Rattle.cases_laws.proofs.Worked.{all-computed}

pub second-worked : AllComputed (under Second)
unfolding opened
second-worked = all-computed (under Second) tt

pub others-worked : AllComputed others
unfolding opened
others-worked = all-computed others tt

-- `volume::heading::headed` meets its contract.
use mathlib.Core.Path.{◌∙◌}
use Rattle.codec.proofs.Runs.{starts-is}
use Rattle.volume.proofs.heading.headed.Goals as goal

pub returns : goal.returns
returns c = c.starts_with.ensures.value ∙ starts-is c.args.magic c.args.v.now

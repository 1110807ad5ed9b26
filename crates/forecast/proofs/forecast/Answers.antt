-- `forecast::forecast` is its definition: the laws of Outcomes.antt say what each case is.
use mathlib.Core.Path.{sym}
use Rattle.reports_laws.proofs.Forecast.{scanned}
use Rattle.laws.proofs.Refused.{refusal-some}
use Rattle.forecast.proofs.Outcomes.{refused, restarts, indexed, done}
use Rattle.forecast.proofs.forecast.Goals as goal

pub of-v-requires : goal.of-v-requires
of-v-requires c = (scanned c.args.volume.now (restarts _ (sym c.in-Ok.ensures.refusal))).volume

pub rows-requires : goal.rows-requires
rows-requires c = indexed c.args.volume.now c.of-v.result c.of-v.ensures c.in-Ok.scanned c.in-Ok.ensures.refusal c.in-Ok.ensures.clean

pub returns-in-Err : goal.returns-in-Err
returns-in-Err c = rw c.from.ensures (refused _ _ c.in-Err.ensures.refusal (refusal-some _))

pub returns-in-Ok : goal.returns-in-Ok
returns-in-Ok c =
    done c.args.volume.now c.of-v.result c.of-v.ensures c.in-Ok.scanned c.in-Ok.ensures.refusal c.in-Ok.ensures.clean _ c.rows.ensures

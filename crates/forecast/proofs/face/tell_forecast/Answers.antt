-- `forecast::face::tell_forecast` is its definition, by the laws of Outcomes.antt.
use mathlib.Core.Path.{◌≡◌, ◌∙◌}
use mathlib.Core.Bool.{cond, not}
use Rattle.model.specs.Geometry.{valid_volume}
use Rattle.reports.specs.Forecast as forecasts
use Rattle.forecast.proofs.Outcomes.{unknown, unlike, turned_down, told}
use Rattle.forecast.proofs.face.tell_forecast.Goals.{After-from-then-figures-ne128, then-valid, else-valid}
use Rattle.forecast.proofs.face.tell_forecast.Goals as goal

-- an array of another length
other : (c : After-from-then-figures-ne128) → let t = forecasts.tell_forecast c.args.volume.now c.args.figures.now in
    (c.from-then-figures-ne128.result ≡ t.refusal) × (c.args.figures.now ≡ t.figures)
other c =
    let n : c.from-then-figures-ne128.result ≡ cond (not (valid_volume c.args.volume.now)) 1 2 =
    elim c.if-valid.branch [
      | then-valid w ↦ rw (c.from-then-figures-ne128.ensures, w.refusal-is, ← c.valid.ensures, w.if-valid.true)
      | else-valid w ↦ rw (c.from-then-figures-ne128.ensures, w.refusal-is, ← c.valid.ensures, w.if-valid.false)
    ] in
    unlike c.args.volume.now c.args.figures.now c.if-figures-ne128.true c.from-then-figures-ne128.result n

pub returns-then-not-known : goal.returns-then-not-known
returns-then-not-known c =
    let t = unknown c.args.volume.now c.args.figures.now _ c.known.ensures c.if-not-known.true in
    rw c.from.ensures (record { answer = t.0; figures = t.1 })

pub returns-then-figures-ne128 : goal.returns-then-figures-ne128
returns-then-figures-ne128 c =
    let t = other (goal.at.returns-then-figures-ne128 c).After-from-then-figures-ne128 in record { answer = t.0; figures = t.1 }

pub returns-then-f-eq0 : goal.returns-then-f-eq0
returns-then-f-eq0 c =
    let a = c.args in
    let t = told a.volume.now a.figures.now c.if-figures-ne128.false c.forecast-f.result c.forecast-f.ensures _
    c.if-f-eq0.true c.tell.ensures in
    record { answer = c.if-f-eq0.true ∙ t.0; figures = t.1 }

pub returns-else-f-eq0 : goal.returns-else-f-eq0
returns-else-f-eq0 c =
    let a = c.args in
    let t = turned_down a.volume.now a.figures.now c.if-figures-ne128.false c.forecast-f.result c.forecast-f.ensures c.if-f-eq0.false in
    record { answer = t.0; figures = t.1 }

-- `forecast::rows` meets its contract: the loop fills the table row by row.
use Prim.Native.Nat.{ℕ, suc}
use mathlib.Core.Path.{◌≡◌, ap, ◌∙◌}
use mathlib.Core.Bool.{cond}
use native.Mathlib.Omega.{arith}
use lib.Dec.{ltb}
use Rattle.model.specs.Tables.{tabulate}
use Rattle.repair.proofs.Starts.{sized}
use Rattle.reports.specs.Forecast.{counted}
use Rattle.forecast.specs.Figures.{figure_for}
use Rattle.forecast.proofs.Fills.{none_filled, one-filled, all-filled}
use Rattle.forecast.proofs.Outcomes.{page-ready, page-whole, page-figured}
use Rattle.forecast.proofs.rows.Goals as goal

pub loop-i-init : goal.loop-i-init
loop-i-init c = none_filled _ (counted 0) 64

pub bounds-index-i : goal.bounds-index-i
bounds-index-i c = let v = c.args.v.now in omega (arith, (sized _ _ v.valid v.read).pages, c.loop-i-test.true)

pub invariant_of-t : goal.invariant_of-t
invariant_of-t c =
    let r = page-ready _ _ _ _ c.requires c.loop-i.i c.loop-i-test.true in
    record { low = r.low; high = r.high; durable = r.durable; slot = r.slot }

pub follow-requires : goal.follow-requires
follow-requires c = page-whole _ _ _ _ c.requires c.loop-i.i

pub bounds-pages-i : goal.bounds-pages-i
bounds-pages-i c = let v = c.args.v.now in omega (arith, (sized _ _ v.valid v.read).pages, c.loop-i-test.true)

pub loop-i-preserved : goal.loop-i-preserved
loop-i-preserved c =
    let a = c.args in
    let v = a.v.now in
    let k = c.loop-i in
    one-filled _ (counted 0) 64 k.pages k.i _ k.invariant (omega (arith, (sized _ _ v.valid v.read).pages, c.loop-i-test.true))
    (page-figured v.geometry v.bytes.now a.first a.index k.i _ _ c.follow.ensures c.figure.ensures)

pub returns : goal.returns
returns c =
    let a = c.args in
    let v = a.v.now in
    let k = c.loop-i in
    let e : k.i ≡ v.geometry.pages = omega (arith, k.auto.i-end, c.loop-i-test.false) in
    all-filled _ (counted 0) 64 k.pages k.i k.invariant
    ∙ ap (λ (n : ℕ). tabulate 64 (λ j. cond (ltb j n) (figure_for v.geometry v.bytes.now a.first a.index (suc j)) (counted 0))) e

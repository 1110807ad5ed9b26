-- `upkeep::log::first`: the search from position i on gives what the whole does.
use mathlib.Core.Path.{◌≡◌, refl, sym, ◌∙◌}
use Prim.Native.Nat.{◌+◌, ◌/◌}
use native.Mathlib.Omega.{arith}
use Rattle.laws.proofs.Search.{first-here, first_on, first-end}
use Rattle.upkeep_policy.specs.Upkeep.{log_ahead}
use Rattle.upkeep.proofs.LogPositions.{log-start}
use Rattle.upkeep.proofs.log.first.Goals as goal

pub loop-i-init : goal.loop-i-init
loop-i-init c = let v = c.args.v.now in log-start v.geometry v.bytes.now c.args.s _ refl

pub returns-then-ahead : goal.returns-then-ahead
returns-then-ahead c =
    let v = c.args.v.now in
    let l = c.loop-i in (
      sym (first-here (log_ahead v.geometry v.bytes.now c.args.s) (v.geometry.records / 2 + 1) l.i c.loop-i-test.true
          (sym c.ahead.ensures ∙ c.if-ahead.true)) ∙ l.invariant,
      omega arith,
    )

pub loop-i-preserved : goal.loop-i-preserved
loop-i-preserved c =
    let v = c.args.v.now in
    let l = c.loop-i in
    sym (first_on (log_ahead v.geometry v.bytes.now c.args.s) (v.geometry.records / 2 + 1) l.i c.loop-i-test.true
    (sym c.ahead.ensures ∙ c.if-ahead.false)) ∙ l.invariant

pub returns : goal.returns
returns c =
    let v = c.args.v.now in
    let l = c.loop-i in
    let e : l.i ≡ v.geometry.records / 2 + 1 = omega arith in
    sym l.invariant ∙ (first-end (log_ahead v.geometry v.bytes.now c.args.s) (v.geometry.records / 2 + 1) l.i (omega arith) ∙ e)

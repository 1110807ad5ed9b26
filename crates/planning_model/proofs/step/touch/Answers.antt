-- `planning_model::step::touch` meets its contract.
use mathlib.Core.Path.{◌≡◌, sym, ◌∙◌}
use Prim.Native.Nat.{◌≤◌}
use native.Mathlib.Omega.{arith}
use lib.ListN.{length}
use borrow.Author.Rules.{rules}
use Rattle.planning_model.proofs.Laws.{touch-found, touch-missing, holding-front, least-front, least-in}
use Rattle.planning_model.proofs.step.touch.Goals as goal

pub bring-requires : goal.bring-requires
bring-requires c =
    let long : length c.args.m.frames ≡ 16 = search rules in
    let l : c.args.t.frames ≤ length c.args.m.frames = omega (arith, long, c.requires.0) in
    (least-in _ _ l c.requires.0 _ c.least_used.ensures.1, c.requires.1, c.requires.2)

pub returns-in-Some : goal.returns-in-Some
returns-in-Some c =
    let long : length c.args.m.frames ≡ 16 = search rules in
    let l : c.args.t.frames ≤ length c.args.m.frames = omega (arith, long, c.requires.0) in
    touch-found _ _ _ _ _ _ _ (sym (holding-front _ _ l _) ∙ c.in-Some.ensures.1) c.find.ensures

pub returns-in-None : goal.returns-in-None
returns-in-None c =
    let long : length c.args.m.frames ≡ 16 = search rules in
    let l : c.args.t.frames ≤ length c.args.m.frames = omega (arith, long, c.requires.0) in
    touch-missing _ _ _ _ _ _ _ (sym (holding-front _ _ l _) ∙ c.in-None.ensures) (c.least_used.ensures.0 ∙ least-front _ _ l) c.bring.ensures

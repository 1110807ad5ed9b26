-- `codec::part::rest` meets its contract.
use mathlib.Core.Path.{◌≡◌, ◌∙◌}
use Prim.Native.Nat.{◌-◌}
use native.Mathlib.Omega.{arith}
use lib.Dec.{eqb}
use lib.ListN.{length, take, drop, length-drop}
use lib.Seq.{take_all}
use Rattle.std.proofs.Common.{rules, tests}
use Rattle.std.proofs.lemmas.Iterator.{YieldsList-from_slice}
use Rattle.std.proofs.lemmas.Iterator.Search.{all_from_yields_List}
use Rattle.codec.proofs.Runs.{all-is}
use Rattle.codec.proofs.part.rest.Goals as goal

pub returns : goal.returns
returns c =
    let s = c.args.s.now in
    let left = drop c.args.from s in
    let e : take (length s - c.args.from) left ≡ left = take_all (length s - c.args.from) left (simp length-drop (omega arith)) in
    all_from_yields_List (λ x. eqb x 0) _ _ c.all.result c.all.ensures.ran (YieldsList-from_slice left (c.iter.ensures.rest ∙ e))
    (λ x b q k. search (rules, tests))
    ∙ all-is left

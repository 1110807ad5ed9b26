-- `record::laid_out` judges the layout by two words and the payload past the length.
use mathlib.Core.Path.{◌∙◌}
use native.Mathlib.Omega.{arith}
use Rattle.item.proofs.Words.{Judged, words-unfit, words-padded}
use Rattle.item.proofs.record.laid_out.Goals.{After-ruled}
use Rattle.item.proofs.record.laid_out.Goals as goal

-- what is known behind the rule
judged : (c : goal.After-ruled)
    → Judged c.args.r.now c.four-v.result c.four-word.result c.ruled.result
judged c =
    record {
      octets = λ i. omega (arith, c.type_inv.r i);
      first = c.four-v.ensures;
      second = c.four-word.ensures;
      rule = c.ruled.ensures;
    }

pub returns-then-ruled : goal.returns-then-ruled
returns-then-ruled c = words-padded _ _ _ _ (judged (goal.at.returns-then-ruled c).After-ruled) _ c.if-ruled.true c.padding.ensures

pub returns-else-ruled : goal.returns-else-ruled
returns-else-ruled c = c.if-ruled.false ∙ words-unfit _ _ _ _ (judged (goal.at.returns-else-ruled c).After-ruled) c.if-ruled.false

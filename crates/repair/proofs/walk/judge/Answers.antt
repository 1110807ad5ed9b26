-- `repair::walk::judge` meets its contract: an image of another page is not valid.
use Rattle.repair.proofs.Starts.{valid-other}
use Rattle.repair.proofs.walk.judge.Goals as goal

pub returns-then-u16_at-page : goal.returns-then-u16_at-page
returns-then-u16_at-page c = valid-other _ _ _ _ c.u16_at.ensures c.if-u16_at-page.true

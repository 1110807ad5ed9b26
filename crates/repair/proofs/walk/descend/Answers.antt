-- `repair::walk::descend` meets its contract: the walk traced with the starts that the images give.
use mathlib.Core.Path.{◌≡◌}
use Rattle.model.specs.Repair.{own_start}
use Rattle.repair.specs.Walked.{view_for}
use Rattle.repair.proofs.Replays.{walk-whole, walked}
use Rattle.repair.proofs.walk.descend.Goals.{After-own_number-own}
use Rattle.repair.proofs.walk.descend.Goals as goal

-- the own image's number
own : (c : After-own_number-own)
    → c.own_number-own.result ≡ own_start c.args.t.now.volume.geometry c.args.t.now.page (view_for c.args.t.now)
own c = rw (c.own_number-own.ensures, c.judge-valid.ensures, c.lsn-n.ensures, c.page-x.ensures)

pub trace-found-requires : goal.trace-found-requires
trace-found-requires c =
    let t = c.args.t.now in
    λ s. walk-whole _ _ t.first t.entry _ _ _ (own (goal.at.trace-found-requires c).After-own_number-own)
    c.backup_number-backup.ensures (c.requires s)

pub returns : goal.returns
returns c =
    let t = c.args.t.now in
    walked _ _ t.first t.entry _ _ _ (own (goal.at.returns c).After-own_number-own) c.backup_number-backup.ensures
    c.trace-found.result _ _ _ _ c.trace-found.ensures c.page-x.ensures c.judge-valid.ensures c.lsn-n.ensures c.class-class.ensures

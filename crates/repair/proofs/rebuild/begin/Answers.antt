-- `repair::rebuild::begin` meets its contract: a walk stops at the backup only where a slot is noted.
use mathlib.Core.Path.{sym, ◌∙◌}
use native.Mathlib.Omega.{arith}
use Rattle.repair.proofs.Starts.{positive, backup-some}
use Rattle.repair.proofs.Replays.{stop-backup}
use Rattle.repair.proofs.rebuild.begin.Goals as goal

pub slot-requires : goal.slot-requires
slot-requires c =
    let t = c.args.t.now in
    let some = positive _ (backup-some _ _ t.first t.entry _ (stop-backup _ _ _ (sym c.requires.0 ∙ c.in-Backup.is))) in
    (omega (arith, some, c.from.ensures), omega (arith, t.slot, c.from.ensures))

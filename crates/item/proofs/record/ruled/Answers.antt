-- `record::ruled` is the kind's rule and byte 15.
use native.Mathlib.Omega.{arith}
use Rattle.item.proofs.Rules.{put-or-slide}
use Rattle.item.proofs.Words.{ruled-format, ruled-none, ruled-ranged}
use Rattle.item.proofs.record.ruled.Goals as goal

pub returns-in-1 : goal.returns-in-1
returns-in-1 c = ruled-format _ _ _ c.in-1.is

pub returns-in-2 : goal.returns-in-2
returns-in-2 c = rw c.saturating_sub-room.ensures (ruled-ranged _ _ _ (put-or-slide c.args.kind (omega arith) (omega arith)))

pub returns-in_default : goal.returns-in_default
returns-in_default c = ruled-none _ _ _ (λ e. omega arith) (λ e. omega arith) (λ e. omega arith)

pub returns-in_default-2 : goal.returns-in_default-2
returns-in_default-2 c = ruled-none _ _ _ (λ e. omega arith) (λ e. omega arith) (λ e. omega arith)

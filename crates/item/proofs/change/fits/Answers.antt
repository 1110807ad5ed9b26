-- `change::fits` is the rule of `model`, kind by kind.
use native.Mathlib.Omega.{arith}
use Rattle.model.specs.Change.{change_fits}
use Rattle.item.proofs.Rules.{ranged-is, put-or-slide, no_kind}
use Rattle.item.proofs.change.fits.Goals as goal

pub returns-in-1 : goal.returns-in-1
unfolding change_fits
returns-in-1 c = rw c.in-1.is

pub returns-in-2 : goal.returns-in-2
returns-in-2 c = rw c.saturating_sub-room.ensures (ranged-is _ _ _ _ (put-or-slide c.args.kind (omega arith) (omega arith)))

pub returns-in_default : goal.returns-in_default
returns-in_default c = no_kind _ _ _ _ (λ e. omega arith) (λ e. omega arith) (λ e. omega arith)

pub returns-in_default-2 : goal.returns-in_default-2
returns-in_default-2 c = no_kind _ _ _ _ (λ e. omega arith) (λ e. omega arith) (λ e. omega arith)

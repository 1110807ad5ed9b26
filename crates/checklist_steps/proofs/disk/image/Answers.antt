-- `checklist_steps::disk::image` meets its contract.
use mathlib.Core.Path.{◌∙◌}
use Rattle.checklist_steps.proofs.Damage.{min-smaller, image-is}
use native.Mathlib.Omega.{arith}
use Rattle.checklist_steps.proofs.disk.image.Goals as goal

pub returns : goal.returns
returns c =
    let k = c in
    image-is _ _ k.args.at _ _ (k.min-from.ensures ∙ min-smaller _ _) c.copy_from_slice.ensures.after (omega arith)

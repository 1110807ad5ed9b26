-- `face_step::range::old_range` meets its contract.
use mathlib.Core.Path.{refl, sym, ap, ◌∙◌}
use mathlib.Core.Bool.{true}
use native.Mathlib.Omega.{arith}
use Rattle.model.specs.Geometry.{valid_volume}
use Rattle.face_step.proofs.FaceLaws.{old-few}
use Rattle.face_step.proofs.range.old_range.Goals as goal

pub image_at-requires-clause-g_bound : goal.image_at-requires-clause-g_bound
image_at-requires-clause-g_bound c =
    let few = old-few c.args.g c.args.volume.now c.requires c.args.s true
    (sym c.in-Ok.v.valid ∙ ap valid_volume c.in-Ok.ensures.bytes) refl in
    omega (arith, few)

-- `start::start` is its definition: the laws of Outcomes.antt say what each case is.
use mathlib.Core.Path.{refl, sym}
use Rattle.model.specs.Geometry.{tag_of, store_heading}
use Rattle.model.specs.declared.geometry.Heading.TheVariants.{First}
use Rattle.convert.proofs.Rows.{head_rows, valid-volume, heading-fits}
use Rattle.convert.proofs.Outcomes.{start-refused, start-done}
use Rattle.convert.proofs.start.start.Goals as goal

pub returns-in-Err : goal.returns-in-Err
returns-in-Err c =
    let a = c.args in
    let rows = head_rows (tag_of First) a.volume.now a.memory.now a.s _ _ c.requires c.in-Err.ensures in
    let k = start-refused _ _ _ _ _ c.from.ensures rows in
    record { reply = k.0; volume = k.1 }

pub put-requires : goal.put-requires
put-requires c =
    let a = c.args in
    let rows = head_rows (tag_of First) a.volume.now a.memory.now a.s _ 0 c.requires c.in_default.ensures in
    heading-fits _ (valid-volume (tag_of First) a.volume.now a.memory.now a.s _ rows refl)

pub returns : goal.returns
unfolding store_heading
returns c =
    let a = c.args in
    let rows = head_rows (tag_of First) a.volume.now a.memory.now a.s _ 0 c.requires c.in_default.ensures in
    let k = start-done _ _ _ _ (sym rows) c.put.ensures in
    record { reply = k.0; volume = k.1 }

-- `finish::finish` is its definition: the laws of Outcomes.antt say what each case is.
use mathlib.Core.Path.{sym}
use Rattle.model.specs.Geometry.{store_heading}
use Rattle.convert.proofs.Rows.{heading-fits, finish-valid}
use Rattle.convert.proofs.Outcomes.{finish-refused, finish-done}
use Rattle.convert.proofs.finish.finish.Goals as goal

pub returns-in-Err : goal.returns-in-Err
returns-in-Err c =
    let k = finish-refused _ _ _ _ _ c.from.ensures c.in-Err.ensures in
    record { reply = k.0; volume = k.1 }

pub put-requires : goal.put-requires
put-requires c = heading-fits _ (finish-valid _ c.args.memory.now c.args.s (sym c.in_default.ensures))

pub returns : goal.returns
unfolding store_heading
returns c =
    let k = finish-done _ _ _ _ (sym c.in_default.ensures) c.put.ensures in
    record { reply = k.0; volume = k.1 }

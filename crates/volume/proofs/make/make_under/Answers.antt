-- `volume::make::make_under` meets its contract.
use mathlib.Core.Path.{◌∙◌}
use Rattle.volume.proofs.Fresh.{make-refused, make-fits, make-done}
use Rattle.volume.proofs.make.make_under.Goals as goal

pub returns-then-not-fits : goal.returns-then-not-fits
returns-then-not-fits c =
    let e = make-refused _ _ _ _ _ _ _ _ c.counts.ensures c.size.ensures c.if-not-fits.true in
    (c.from.ensures ∙ e.0, e.1)

pub write-requires : goal.write-requires
write-requires c =
    make-fits c.args.v.now c.args.h _ _ _ _ _ _
    c.counts.ensures c.size.ensures c.if-not-fits.false

pub returns : goal.returns
returns c =
    let d = make-done _ _ _ _ _ _ _ _ c.counts.ensures
    c.size.ensures c.if-not-fits.false in
    (d.0, c.write.ensures ∙ d.1)

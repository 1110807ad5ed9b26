-- `capi::volumes::clear`: zeros where there are 360 numbers.
use mathlib.Core.Path.{ap, ◌∙◌}
use borrow.Author.Tests.{eq-eqb, ne_eqb}
use lib.ListN.{length}
use Rattle.face.specs.Numbers.{numbers_of}
use Rattle.capi.proofs.volumes.clear.Goals as goal

pub returns-then-state-eq360 : goal.returns-then-state-eq360
returns-then-state-eq360 c =
    let a = c.args in
    rw (eq-eqb (length a.state.now) 360 c.if-state-eq360.true)
    (c.encode.ensures ∙ ap numbers_of c.zero.ensures)

pub returns-else-state-eq360 : goal.returns-else-state-eq360
returns-else-state-eq360 c =
    let a = c.args in
    rw (ne_eqb (length a.state.now) 360 c.if-state-eq360.false)

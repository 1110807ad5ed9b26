-- `capi::space::room`: the heading, the report's length, and what the room of the volume is.
use mathlib.Core.Path.{refl, ◌∙◌}
use Rattle.capi.proofs.SpaceLaws.{unknown, unlike, turned_down, told}
use Rattle.capi.proofs.space.room.Goals as goal

pub returns-then-not-known-clause-found : goal.returns-then-not-known-clause-found
returns-then-not-known-clause-found c =
    let a = c.args in
    let e = unknown a.volume.now a.old.now c.known.result c.known.ensures c.if-not-known.true in
    (c.from.ensures ∙ e.0, e.1)

pub returns-then-old-ne4-clause-found : goal.returns-then-old-ne4-clause-found
returns-then-old-ne4-clause-found c =
    let a = c.args in
    unlike a.volume.now a.old.now c.if-old-ne4.true _ c.from-then-old-ne4.result refl
    (c.from-then-old-ne4.ensures ∙ c.bad_buffer.ensures)

pub returns-then-r-ne0-clause-found : goal.returns-then-r-ne0-clause-found
returns-then-r-ne0-clause-found c =
    let a = c.args in
    turned_down a.volume.now a.old.now c.if-old-ne4.false c.left-r.result c.left-r.ensures c.if-r-ne0.true

pub returns-clause-found : goal.returns-clause-found
returns-clause-found c =
    let a = c.args in
    told a.volume.now a.old.now c.if-old-ne4.false c.left-r.result c.left-r.ensures c.if-r-ne0.false _ refl

use mathlib.Core.Path.{sym, ◌∙◌}
use native.Mathlib.Omega.{arith}
use Rattle.section.proofs.SectionLaws.{rest-fits, rest_part, rest-none}
use Rattle.section.proofs.rest.Goals as goal

pub returns-then-count-n : goal.returns-then-count-n
returns-then-count-n c = sym (rest-none _ _ _ _ _ c.if-count-n.true)

pub overflow_mul-from : goal.overflow_mul-from
overflow_mul-from c =
    let a = c.args in
    omega (arith, rest-fits a.size a.count a.n c.if-count-n.false)

pub overflow_add-from-2 : goal.overflow_add-from-2
overflow_add-from-2 c =
    let a = c.args in
    omega (arith, rest-fits a.size a.count a.n c.if-count-n.false)

pub slice_bounds-zero-count : goal.slice_bounds-zero-count
slice_bounds-zero-count c =
    let a = c.args in
    omega (arith, rest-fits a.size a.count a.n c.if-count-n.false)

pub slice_bounds-zero-start : goal.slice_bounds-zero-start
slice_bounds-zero-start c =
    let a = c.args in
    omega (arith, rest-fits a.size a.count a.n c.if-count-n.false)

pub returns : goal.returns
returns c =
    let a = c.args in
    c.zero.ensures ∙ rest_part a.size a.count a.n c.if-count-n.false a.volume.now a.at

use mathlib.Core.Path.{sym, ◌∙◌}
use native.Mathlib.Omega.{arith}
use Rattle.laws.proofs.Places.{counts-bounds}
use Rattle.capi.proofs.volumes.pagestore_size.Goals as goal

pub returns-then-not-counts : goal.returns-then-not-counts
returns-then-not-counts c = let n = c.counts in rw (sym n.ensures ∙ c.if-not-counts.true)

pub overflow_cast-result : goal.overflow_cast-result
overflow_cast-result c =
    let n = c.counts in
    let a = c.args in
    let b = counts-bounds a.pages a.slots a.records a.notes (sym n.ensures ∙ c.if-not-counts.false) in
    record { fits = omega (arith, c.size.ensures, b.p-high, b.b-high, b.l-high, b.n-high) }

pub returns : goal.returns
returns c =
    let n = c.counts in
    rw (sym n.ensures ∙ c.if-not-counts.false) c.size.ensures

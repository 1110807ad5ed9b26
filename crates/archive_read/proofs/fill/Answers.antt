-- `archive_read::fill` meets its contract: refused by its rows, or the area filled.
use mathlib.Core.Path.{refl, sym, ◌∙◌}
use borrow.Author.Rules.{rules}
use Rattle.std.proofs.lemmas.Result.{err_from_is_err_and}
use Rattle.laws.proofs.Refused.{refusal-some}
use Rattle.archive_read.proofs.Outcomes.{none-area, none-archive, number_is, refused-area, done-area}
use Rattle.archive_read.proofs.fill.Goals as goal

pub returns-in_err-refusal-clause-answer : goal.returns-in_err-refusal-clause-answer
returns-in_err-refusal-clause-answer c =
    let p = err_from_is_err_and c.from_residual.result c.from_residual.ensures.1 in
    rw (p.1, p.2) (c.in_err-refusal.ensures ∙ number_is c.args.archive.now c.args.area.now)

pub returns-in_err-refusal-clause-area : goal.returns-in_err-refusal-clause-area
returns-in_err-refusal-clause-area c = refused-area _ _ _ c.in_err-refusal.ensures (refusal-some _)

pub overflow_cast-pages : goal.overflow_cast-pages
overflow_cast-pages c = let i = none-area _ _ (sym c.in_ok-refusal.ensures) in search rules

pub rebuild-requires : goal.rebuild-requires
rebuild-requires c =
    let z = sym c.in_ok-refusal.ensures in
    let i = none-area _ _ z in
    (none-archive _ _ z, i.high, i.whole)

pub returns-clause-answer : goal.returns-clause-answer
returns-clause-answer c = c.in_ok-refusal.ensures ∙ number_is c.args.archive.now c.args.area.now

pub returns-clause-area : goal.returns-clause-area
returns-clause-area c = c.rebuild.ensures ∙ done-area _ _ _ c.in_ok-refusal.ensures refl

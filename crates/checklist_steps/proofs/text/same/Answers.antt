-- `checklist_steps::text::same` meets its contract: `all` tests each place from the first to the last.
use mathlib.Core.Path.{◌≡◌, refl}
use mathlib.Core.Bool.{Bool, true, false}
use Prim.Native.Nat.{ℕ, ◌-◌}
use borrow.Author.Rules.{rules}
use lib.Dec.{eqb}
use Rattle.std.proofs.Common.{tests}
use Rattle.std.proofs.lemmas.Iterator.{cases_from_all, YieldsList-from_range}
use Rattle.model.specs.Bytes.{byte_at}
use Rattle.checklist_steps.proofs.Same.{every-from}
use Rattle.checklist_steps.proofs.text.same.Goals as goal

pub returns : goal.returns
returns c =
    let a = c.args in
    let test : ℕ → Bool = λ i. eqb (byte_at a.a.now i) (byte_at a.b.now i) in
    every-from test a.from (a.to - a.from) c.all.result
    (cases_from_all _ _ c.all.result (λ i. test i ≡ true) (λ i. test i ≡ false) c.all.ensures.ran
    (YieldsList-from_range a.from a.to (a.to - a.from) refl refl) (λ x q k. search (rules, tests)) (λ x q k. search (rules, tests)))

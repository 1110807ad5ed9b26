-- `index_rows::entries::used` meets its contract.
use Rattle.std.proofs.Common.{rules, tests, eqb, ◌∙◌}
use Rattle.std.proofs.lemmas.Iterator.{YieldsList-from_slice}
use Rattle.std.proofs.lemmas.Iterator.Search.{any_from_yields_List}
use Rattle.model.specs.declared.state.Entry.{Entry}
use Rattle.index_rows.proofs.EntryLaws.{used-any}
use Rattle.index_rows.proofs.entries.used.Goals as goal

pub returns : goal.returns
returns c =
    any_from_yields_List (λ (e : Entry). eqb e.slot c.args.slot) _ _ _ c.any.ensures.ran (YieldsList-from_slice c.args.index cc) (λ x b q k. search (rules, tests))
    ∙ used-any c.args.slot c.args.index

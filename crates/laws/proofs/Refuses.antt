-- What a call answers by its table, and leaves where it is refused: a proof of `Refuses`.
use mathlib.Core.Path.{◌≡◌, sym, ◌∙◌}
use mathlib.Core.Bool.{cond}
use mathlib.Core.List.{List}
use Prim.Native.Nat.{ℕ}
use lib.Dec.{eqb}
use borrow.Author.Tests.{eqb-true}
use Rattle.laws.proofs.Tables.{Numbered, by_cases}
use Rattle.laws.proofs.Decided.{by-table}
use Rattle.model.specs.Tables.{Row, first_of}
use Rattle.model.specs.Demand1.{Refuses}

-- what a call answers by its table: `done`, or `stopped` with the table's number
module _ {A B : Type 0} (rows : List Row) (numbered : Numbered rows) (number : B → ℕ) (left : B → A)
    (done stopped : B) (before : A)
    (accepted : number done ≡ 0) (told : number stopped ≡ first_of rows) (leaves : left stopped ≡ before) where
  pub by_rows : Refuses rows (number (cond (eqb (first_of rows) 0) done stopped))
      (left (cond (eqb (first_of rows) 0) done stopped)) before
  by_rows = by_cases (eqb (first_of rows) 0)
      (λ t. rw t (record {
        table = by-table rows numbered (number done) (accepted ∙ sym (eqb-true (first_of rows) 0 t));
        leaves = λ z. absurd (z accepted);
      }))
      (λ t. rw t (record { table = by-table rows numbered (number stopped) told; leaves = λ z. leaves }))

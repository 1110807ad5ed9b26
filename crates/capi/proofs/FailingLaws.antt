-- How many images fail: by a state of the right length, or 0.
use mathlib.Core.Path.{◌≡◌, ap, ◌∙◌}
use mathlib.Core.Bool.{true, false, cond}
use mathlib.Core.List.{List}
use Prim.Native.Nat.{ℕ}
use lib.Dec.{eqb}
use lib.ListN.{length}
use borrow.Author.Tests.{eq-eqb, ne_eqb}
use Rattle.model.specs.declared.state.State.{State}
use Rattle.face.specs.Numbers.{state_of}
use Rattle.convert.specs.Failing.{failing_count}

module _ (v xs : List ℕ) where
  pub none : (length xs ≡ 360 → ⊥) → 0 ≡ cond (eqb (length xs) 360) (failing_count v (state_of xs)) 0
  none ne = let k : eqb (length xs) 360 ≡ false = ne_eqb (length xs) 360 ne in rw k

  pub counted : (s : State) (n : ℕ) → length xs ≡ 360 → s ≡ state_of xs → n ≡ failing_count v s
      → n ≡ cond (eqb (length xs) 360) (failing_count v (state_of xs)) 0
  counted s n l es en =
      let k : eqb (length xs) 360 ≡ true = eq-eqb (length xs) 360 l in
      rw k (en ∙ ap (λ (z : State). failing_count v z) es)

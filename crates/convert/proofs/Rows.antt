-- The refusals of the three calls: the heading's row comes before those of every call on the state, 20 behind them.
use mathlib.Core.Path.{◌≡◌, refl, sym, ◌∙◌}
use mathlib.Core.Bool.{Bool, true, false, not, cond}
use mathlib.Core.List.{List, [], ◌∷◌}
use Prim.Native.Nat.{ℕ, ◌≤◌, ◌<◌}
use native.Mathlib.Omega.{arith}
use lib.Dec.{ltb}
use lib.ListN.{length}
use borrow.Author.Tests.{eqb-false, lt-ltb, ltb-true}
use Rattle.laws.proofs.Places.{valid-facts}
use Rattle.laws.proofs.Tables.{by_cases}
use Rattle.laws.proofs.Search.{found_some}
use Rattle.laws.proofs.WellFormed.{ready-behind}
use Rattle.state.proofs.Fits.{refusal-first, refusal-last}
use Rattle.model.specs.Tables.{Row, first_of}
use Rattle.model.specs.Geometry.{carry_tag, headed, geometry_of, valid_volume}
use Rattle.model.specs.Passes.{image_count, old_at, first_old, old_left}
use Rattle.model.specs.Refusals.{state_rows, finish_carry_rows}
use Rattle.model.specs.declared.geometry.Geometry.{Geometry}
use Rattle.model.specs.declared.state.State.{State}

-- the rows of a call whose own heading has the tag
abbrev pub heading_rows : ℕ → List ℕ → List ℕ → State → List Row → List Row
heading_rows tag v m s rows = (not (headed tag v), 1) ∷ state_rows v m s rows

-- the rows 1 and 2 behind the heading's
pub head_rows : (tag : ℕ) (v m : List ℕ) (s : State) (n k : ℕ) → n ≡ first_of (state_rows v m s []) → k ≡ cond (not (headed tag v)) 1 n
    → k ≡ first_of (heading_rows tag v m s [])
head_rows tag v m s n k e ek = ek ∙ rw e

-- where the rows that all three have refuse nothing the volume is valid
pub valid-volume : (tag : ℕ) (v m : List ℕ) (s : State) (n : ℕ) → n ≡ first_of (heading_rows tag v m s []) → n ≡ 0 → valid_volume v ≡ true
valid-volume tag v m s n h z = (ready-behind (not (headed tag v)) v m s [] (sym h ∙ z)).1.volume

pub heading-fits : (v : List ℕ) → valid_volume v ≡ true → 4 ≤ length v
heading-fits v ok = omega (arith, (valid-facts v ok).size)

-- ---- Finish

behind-first : (a : Bool) (v m : List ℕ) (s : State) (rows : List Row) (k : ℕ) → k ≡ cond a 1 (first_of (state_rows v m s [])) → (k ≡ 0 → ⊥)
    → k ≡ cond a 1 (first_of (state_rows v m s rows))
behind-first true v m s rows k e ne = e
behind-first false v m s rows k e ne = refusal-first v m s rows k e ne

behind-last : (a : Bool) (v m : List ℕ) (s : State) (rows : List Row) (k rest : ℕ) → k ≡ cond a 1 (first_of (state_rows v m s [])) → k ≡ 0
    → rest ≡ first_of rows → rest ≡ cond a 1 (first_of (state_rows v m s rows))
behind-last true v m s rows k rest e z er = absurd (eqb-false 1 0 refl (sym e ∙ z))
behind-last false v m s rows k rest e z er = refusal-last v m s rows k rest e z er

pub finish-valid : (v m : List ℕ) (s : State) → first_of (finish_carry_rows v m s) ≡ 0 → valid_volume v ≡ true
unfolding finish_carry_rows
finish-valid v m s h = (ready-behind (not (headed carry_tag v)) v m s ((old_left (geometry_of v) v s.index, 20) ∷ []) h).1.volume

ltb-same : (n : ℕ) → ltb n n ≡ false
ltb-same n = by_cases (ltb n n) (λ t. absurd (let l : n < n = ltb-true n n t in omega arith)) (λ t. t)

-- an image is left exactly if the search finds one
left-found : (g : Geometry) (v : List ℕ) (s : State) → old_left g v s.index ≡ ltb (first_old g v s.index) (image_count g)
unfolding old_left first_old
left-found g v s = found_some (old_at g v s.index) (image_count g)

module _ (v m : List ℕ) (s : State) (n : ℕ) (e : n ≡ first_of (heading_rows carry_tag v m s [])) where
  pub finish-first : (n ≡ 0 → ⊥) → n ≡ first_of (finish_carry_rows v m s)
  unfolding finish_carry_rows
  finish-first ne = behind-first (not (headed carry_tag v)) v m s ((old_left (geometry_of v) v s.index, 20) ∷ []) n e ne

  pub finish-left : (g : Geometry) (i : ℕ) → n ≡ 0 → g ≡ geometry_of v → i ≡ first_old g v s.index → i < image_count g
      → 20 ≡ first_of (finish_carry_rows v m s)
  unfolding finish_carry_rows
  finish-left g i z eg ei h =
      let t : old_left (geometry_of v) v s.index ≡ true =
      left-found (geometry_of v) v s ∙ rw (← eg, ← ei) (lt-ltb i (image_count g) h) in
      behind-last (not (headed carry_tag v)) v m s ((old_left (geometry_of v) v s.index, 20) ∷ []) n 20 e z (rw t)

  pub finish-none : (g : Geometry) → n ≡ 0 → g ≡ geometry_of v → first_old g v s.index ≡ image_count g
      → 0 ≡ first_of (finish_carry_rows v m s)
  unfolding finish_carry_rows
  finish-none g z eg ei =
      let t : old_left (geometry_of v) v s.index ≡ false =
      left-found (geometry_of v) v s ∙ rw (← eg, ei) (ltb-same (image_count g)) in
      behind-last (not (headed carry_tag v)) v m s ((old_left (geometry_of v) v s.index, 20) ∷ []) n 0 e z (rw t)

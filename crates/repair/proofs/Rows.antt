-- A refusal table in two parts: the rows before a walk, and those behind it. And the numbers of refusals.
use Prim.Native.Nat.{ℕ}
use mathlib.Core.Path.{◌≡◌, refl}
use mathlib.Core.Bool.{Bool, true, false, cond}
use mathlib.Core.List.{List, [], ◌∷◌, ◌++◌}
use lib.Dec.{eqb}
use borrow.Author.Tests.{ne_eqb}
use Rattle.laws.proofs.Tables.{Numbered}
use Rattle.model.specs.Tables.{Row, first_of}

picked : (t : Bool) (k j r rest : ℕ) → (k ≡ 0 → ⊥) → j ≡ cond (eqb r 0) rest r → cond t k j ≡ cond (eqb (cond t k r) 0) rest (cond t k r)
picked true k j r rest ne e = rw (ne_eqb k 0 ne)
picked false k j r rest ne e = e

pub first_then : (l rest : List Row) → Numbered l → first_of (l ++ rest) ≡ cond (eqb (first_of l) 0) (first_of rest) (first_of l)
first_then [] rest ne = refl
first_then (r ∷ l) rest ne = picked r.0 r.1 _ (first_of l) (first_of rest) ne.0 (first_then l rest ne.1)

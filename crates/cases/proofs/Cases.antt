-- The rows of a table hold where a test does, which the checker computes: one law turns it into each row's equation.
-- The crates above compute the tests, each of its own subject; `cases_table` has the table as a whole.
use Prim.Native.Nat.{ℕ}
use mathlib.Core.Path.{◌≡◌, refl, ap₂}
use mathlib.Core.Bool.{Bool, true, false, ◌&&◌}
use mathlib.Core.List.{List, [], ◌∷◌, ◌++◌}
use lib.Dec.{T, eqb, eqb→eq}
use Rattle.cases.specs.Rows.{Row, same, every, Hold}

pub left : (a b : Bool) → T (a && b) → T a
left true b t = tt
left false b t = t

pub right : (a b : Bool) → T (a && b) → T b
right true b t = t
right false b t = absurd t

pub equal : (xs ys : List ℕ) → T (same xs ys) → xs ≡ ys
equal [] [] t = refl
equal [] (y ∷ ys) t = absurd t
equal (x ∷ xs) [] t = absurd t
equal (x ∷ xs) (y ∷ ys) t = ap₂ ◌∷◌ (eqb→eq x y (left (eqb x y) (same xs ys) t)) (equal xs ys (right (eqb x y) (same xs ys) t))

pub all : (rs : List Row) → T (every rs) → Hold rs
all [] t = tt
all (r ∷ rs) t =
    let here = same r.found r.says in
    (equal r.found r.says (left here (every rs) t), all rs (right here (every rs) t))

pub joined : (rs qs : List Row) → Hold rs → Hold qs → Hold (rs ++ qs)
joined [] qs h k = k
joined (r ∷ rs) qs h k = (h.0, joined rs qs h.1 k)

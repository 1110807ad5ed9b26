-- In which order the rows of a table stand. States document 01, "The lowest number wins, but in inspect 17 and 18 come
-- before 7", and document 02's "before" and "after": 20 "after 2", 21 "after 18", 22 "after 21" and 23 "after 19" are
-- that order too. The tables of the reports, with 24 "before 21" as the other exception, stand in `reports`, that of the
-- rehearsal in `planning`. The values of the types are proved in the crate `laws`.
use Rattle.std.specs.Prelude.{ℕ, ◌<◌}
use mathlib.Core.{Path.◌≡◌, Bool.Bool, Bool.true, Bool.false, Bool.◌&&◌, Bool.◌||◌, Bool.not, List.List, List.[]}
use mathlib.Core.{List.◌∷◌}
use lib.{Dec.eqb, Dec.leb, ListN.length, ListN.get_or}
use Rattle.model.specs.Tables.{Row}
use Rattle.model.specs.Refusals.{make_rows, restart_rows, inspect_rows}
use Rattle.model.specs.Calls.{Call, rows_of}
use Rattle.model.specs.Demand1.{ByTable}
use Rattle.model.specs.Types.{State}

-- ---- the exceptions

-- a number, and a lower one that it comes before
abbrev pub Exception : Type 0
Exception = ℕ × ℕ

-- "in inspect 17 and 18 come before 7"
abbrev pub inspect_exceptions : List Exception
inspect_exceptions = (17, 7) ∷ (18, 7) ∷ []

-- ---- the order

-- n before k is one of the exceptions
abbrev pub excepted : List Exception → ℕ → ℕ → Bool
excepted [] n k = false
excepted (e ∷ es) n k = (eqb e.0 n && eqb e.1 k) || excepted es n k

-- n comes before k, or is k: it is not above it, or an exception has it so, and none has it the other way round
abbrev pub precedes : List Exception → ℕ → ℕ → Bool
precedes es n k = excepted es n k || (leb n k && not (excepted es k n))

-- n comes before the number of every row
abbrev pub precedes_all : List Exception → ℕ → List Row → Bool
precedes_all es n [] = true
precedes_all es n (r ∷ rs) = precedes es n r.1 && precedes_all es n rs

-- each row's number comes before those of all rows behind it; the conditions do not matter
abbrev pub ordered : List Exception → List Row → Bool
ordered es [] = true
ordered es (r ∷ rs) = precedes_all es r.1 rs && ordered es rs

-- ---- the claims

-- every table stands in this order
pub record TablesOrdered : Type 0 where
  pub calls : (c : Call) (v m : List ℕ) (s : State) → ordered [] (rows_of c v m s) ≡ true
  pub make : (v : List ℕ) (p b l n : ℕ) → ordered [] (make_rows v p b l n) ≡ true
  pub restart : (v m : List ℕ) → ordered [] (restart_rows v m) ≡ true
  pub inspect : (v : List ℕ) (page size : ℕ) → ordered inspect_exceptions (inspect_rows v page size) ≡ true

-- "The lowest number wins": a call by a table in this order answers, where a row holds, that row's number or one that
-- comes before it
abbrev pub LowestWins : Type 0
LowestWins =
    (es : List Exception) (rows : List Row) (n : ℕ) → ordered es rows ≡ true → ByTable rows n
    → (i : ℕ) → i < length rows → (get_or rows i (false, 0)).0 ≡ true
    → precedes es n (get_or rows i (false, 0)).1 ≡ true

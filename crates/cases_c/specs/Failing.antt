-- Rows on how many images fail in their place, for C.
use Rattle.std.specs.Prelude.{ℕ, List, [], ◌∷◌, ◌++◌, replicate, set}
use Rattle.model.specs.Geometry.{page_at, slot_at}
use Rattle.model.specs.History.{Machine, damage, run}
use Rattle.face.specs.Numbers.{numbers_of}
use Rattle.face.specs.Failing.{failing_face}
use Rattle.cases.specs.Rows.{Row, row}
use Rattle.cases.specs.Calls.{write, backup, note}
use Rattle.cases.specs.Build.{reach}
use Rattle.cases.specs.Prologues.{pages_forced}
use Rattle.cases_c.specs.OpenedForC.{opened_for_c}
use Rattle.cases_c.specs.Faces.{does, with_state}

-- page 1 written and backed up in slot 1, both noted; page 2 never written
abbrev kept : Machine
kept = reach 2 1 4 4 (pages_forced 2 ++ does (write 1 ∷ note ∷ backup 1 1 ∷ note ∷ []))

-- the refusal, then a report of n nines as it is left; with number i of the state another
abbrev counts : Machine → ℕ → List ℕ
counts w n =
    with_state w.power [] (λ m s. let o = failing_face w.volume (numbers_of s) (replicate n 9) in o.refusal ∷ o.numbers)

abbrev refuses : List ℕ → ℕ → ℕ → ℕ → List ℕ
refuses v i x n =
    with_state kept.power []
    (λ m s. let o = failing_face v (set (numbers_of s) i x) (replicate n 9) in o.refusal ∷ o.numbers)

unfoldable pub failing_rows : List Row
unfolding opened_for_c
failing_rows =
    row "C: how many images fail in their place: page 2's, page 1's, the backup"
    (counts kept 1 ++ (counts (run kept (damage (page_at 1) (replicate 256 1) ∷ [])) 1
    ++ counts (run kept (damage (page_at 1) (replicate 256 1) ∷ damage (slot_at 1) (replicate 256 1) ∷ [])) 1))
    (0 ∷ 1 ∷ 0 ∷ 2 ∷ 0 ∷ 3 ∷ [])
    ∷ row "C: images that fail: 1, and 2 for another report and for numbers that do not fit"
    (refuses (set kept.volume 0 0) 1 0 0 ++ (refuses kept.volume 1 0 0 ++ (refuses kept.volume 1 0 2
    ++ refuses kept.volume 9 2 1)))
    (1 ∷ 2 ∷ 2 ∷ 9 ∷ 9 ∷ 2 ∷ 9 ∷ [])
    ∷ row "C: images that fail: 2 for a state that is not sound" (refuses kept.volume 1 17 1) (2 ∷ 9 ∷ [])
    ∷ []

-- What mending says on small stores, and what a page shows after one failure and after two.
use Rattle.std.specs.Prelude.{ℕ, List, [], ◌∷◌, ◌++◌}
use Rattle.model.specs.AbstractLog.{torn}
use Rattle.model.specs.History.{Machine, perform, crash_in, run}
use Rattle.model.specs.declared.answer.Class.TheVariants.{Behind, Failed}
use Rattle.mend_policy.specs.Mend.{reaches_from, mend_of}
use Rattle.cases.specs.Rows.{Row, row}
use Rattle.cases.specs.Opened.{opened}
use Rattle.cases.specs.Words.{refused, from_own, from_backup, at_lsn}
use Rattle.cases.specs.Build.{inspected}
use Rattle.cases.specs.Calls.{force, write}
use Rattle.cases.specs.Rings.{reach_ring, put, turned}
use Rattle.cases.specs.Prologues.{page_forced}
use Rattle.cases.specs.Table.{as_lent}
use Rattle.mend_cases.specs.Stores.{mended, says_whole, says_single, says_lost}
use Rattle.mend_cases.specs.Stores.{junk, spoil_backup, spoil_own, at_edge, one_more, two_more, mended_backup, cut_off}

abbrev edge : Machine
edge = reach_ring 1 2 4 4 at_edge

abbrev a_note : List ℕ
a_note = 9 ∷ []

abbrev a_backup : ℕ → ℕ → List ℕ
a_backup page slot = 8 ∷ page ∷ slot ∷ []

abbrev a_load : ℕ → ℕ → List ℕ
a_load page frame = 4 ∷ page ∷ frame ∷ []

abbrev a_write : ℕ → List ℕ
a_write page = 7 ∷ page ∷ []

unfoldable pub mend_rows : List Row
unfolding opened mended mend_of reaches_from
mend_rows =
    row "a blank page: whole" (mended 9 2 1 (reach_ring 1 2 4 4 (cut_off))) says_whole
    ∷ row "a page without a backup, its format in the log: whole"
    (mended 9 2 1 (reach_ring 1 2 4 4 (page_forced 2))) says_whole
    ∷ row "both starts, the own image just within the margin: whole" (mended 9 2 1 edge) says_whole
    ∷ row "one record more: the own image is written again"
    (mended 9 2 1 (run edge (perform (put 6) ∷ perform force ∷ []))) (a_write 1 ++ a_note ++ says_whole)
    ∷ row "the backup fails: a new one, in the other slot; then upkeep renews the written note"
    (mended 9 2 1 (run edge (spoil_backup ∷ []))) (a_backup 1 2 ++ a_note ++ a_write 1 ++ a_note ++ says_whole)
    ∷ row "the same after a cut: Load first"
    (mended 9 2 1 (run edge (spoil_backup ∷ cut_off))) (a_load 1 2 ++ a_backup 1 2 ++ a_note ++ a_write 1 ++ a_note ++ says_whole)
    ∷ row "the own image fails: written again"
    (mended 9 2 1 (run edge (spoil_own ∷ cut_off))) (a_load 1 2 ++ a_write 1 ++ a_note ++ says_whole)
    ∷ row "both fail, the page in no frame: lost"
    (mended 9 2 1 (run edge (spoil_own ∷ spoil_backup ∷ cut_off))) says_lost
    ∷ row "both fail, the page in a frame: backed up from there, then written"
    (mended 9 2 1 (run edge (spoil_own ∷ spoil_backup ∷ [])))
    (a_backup 1 2 ++ a_note ++ a_write 1 ++ a_note ++ says_whole)
    ∷ row "no room for two notes of a page, never written, its format gone: single"
    (mended 9 1 1 (reach_ring 1 2 2 3 turned)) (a_backup 1 2 ++ a_note ++ says_single)
    ∷ []

-- one failure, mended, then the other: the page is there; without mending it is lost
unfoldable pub failure_rows : List Row
unfolding opened
failure_rows =
    row "the backup fails, is mended, then the own image fails: from the new backup"
    (inspected (run edge (mended_backup ++ (spoil_own ∷ []))).volume 1)
    (from_backup Failed 0 ++ at_lsn 5 (5 ∷ 7 ∷ 7 ∷ 7 ∷ 7 ∷ 7 ∷ []))
    ∷ row "the same without mending: 23"
    (inspected (run edge (spoil_backup ∷ spoil_own ∷ [])).volume 1) (refused 23 ++ as_lent)
    ∷ row "the backup fails, as many records as the margin: from the own image"
    (inspected (run edge one_more).volume 1) (from_own Behind 4 ++ at_lsn 6 (6 ∷ 7 ∷ 7 ∷ 7 ∷ 7 ∷ 7 ∷ []))
    ∷ row "one record further: 23" (inspected (run edge two_more).volume 1) (refused 23 ++ as_lent)
    ∷ row "the backup fails, and a Write of the page is torn: 23"
    (inspected (run edge (spoil_backup ∷ crash_in (write 1) (torn junk) ∷ [])).volume 1) (refused 23 ++ as_lent)
    ∷ []

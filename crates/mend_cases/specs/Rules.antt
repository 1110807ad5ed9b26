-- Mending's rules at their edges: what is named first of a page, on stores where another rule would name something else.
use Rattle.std.specs.Prelude.{ℕ, List, [], ◌∷◌, ◌++◌}
use Rattle.model.specs.Geometry.{Place, page_at, slot_at, item, geometry_of}
use Rattle.model.specs.History.{Event, perform, damage, run}
use Rattle.mend_policy.specs.Mend.{reaches_from, mend_of}
use Rattle.cases.specs.Rows.{Row, row}
use Rattle.cases.specs.Opened.{opened}
use Rattle.cases.specs.Calls.{force, write, backup, note}
use Rattle.cases.specs.Rings.{reach_ring, put}
use Rattle.cases.specs.Prologues.{page_forced, page_written, page_backed_up}
use Rattle.upkeep_cases.specs.Stores.{three}
use Rattle.mend_cases.specs.Stores.{mended, says_whole, says_single, says_ahead, says_full, spoil_backup, spoil_own, at_edge}

-- what is at the place after these events, on a store of L records: an image to bring back
abbrev image_after : ℕ → List Event → Place → List ℕ
image_after l es at = let v = (reach_ring 1 2 l 4 es).volume in item (geometry_of v) v at

-- page 1 written at record 2, and again at record 3
abbrev written_at2 : List Event
written_at2 = page_forced 2 ++ (perform (put 2) ∷ perform force ∷ perform (write 1) ∷ perform note ∷ [])

abbrev written_at3 : List Event
written_at3 = written_at2 ++ (perform (put 3) ∷ perform force ∷ perform (write 1) ∷ perform note ∷ [])

-- backed up in slot 1 at record 1, in slot 2 at record 2, and again in slot 1 at record 3
abbrev backed_at3 : List Event
backed_at3 =
    page_backed_up 2
    ++ (perform (put 2) ∷ perform force ∷ perform (backup 1 2) ∷ perform note ∷ perform (put 3) ∷ perform force
    ∷ perform (backup 1 1) ∷ perform note ∷ [])

-- three records, a backup at 3, and a fourth one: the format is out of reach
abbrev format_far : List Event
format_far = three ++ (perform (backup 1 1) ∷ perform note ∷ perform (put 4) ∷ perform force ∷ [])

abbrev a_backup : ℕ → List ℕ
a_backup slot = 8 ∷ 1 ∷ slot ∷ []

abbrev a_write : List ℕ
a_write = 7 ∷ 1 ∷ []

abbrev a_put : ℕ → List ℕ
a_put byte = 5 ∷ 1 ∷ 2 ∷ 1 ∷ 0 ∷ 0 ∷ byte ∷ []

unfoldable pub rule_rows : List Row
unfolding opened mended mend_of reaches_from
rule_rows =
    row "M1: the own image is Good, the backup fails: backed up again"
    (mended 1 2 1 (run (reach_ring 1 2 4 4 (page_written 2))
    (perform (backup 1 1) ∷ perform note ∷ spoil_backup ∷ []))) (a_backup 2)
    ∷ row "M1: an older backup came back in the noted slot: backed up again"
    (mended 1 2 1 (run (reach_ring 1 2 4 4 backed_at3)
    (damage (slot_at 1) (image_after 4 (page_backed_up 2) (slot_at 1)) ∷ []))) (a_backup 2)
    ∷ row "M1 before M2: both starts fail, and the backup comes first"
    (mended 1 2 1 (run (reach_ring 1 2 4 4 at_edge) (spoil_own ∷ spoil_backup ∷ []))) (a_backup 2)
    ∷ row "M2: an older own image came back, within reach: STALE, so changed once more and written"
    (mended 1 2 1 (run (reach_ring 1 2 8 4 written_at3) (damage (page_at 1) (image_after 8 written_at2 (page_at 1)) ∷ [])))
    (a_put 3)
    ∷ row "M2: the format is out of reach, room for two notes of the page: written"
    (mended 1 2 1 (reach_ring 1 2 4 4 format_far)) a_write
    ∷ row "M2: one note slot fewer: single" (mended 1 2 1 (reach_ring 1 2 4 3 format_far)) says_single
    ∷ row "M2: one log slot fewer: single" (mended 1 2 1 (reach_ring 1 2 3 4 format_far)) says_single
    ∷ row "A2: an image of a longer log: ahead"
    (mended 1 2 1 (run (reach_ring 1 2 4 4 written_at2) (damage (page_at 1) (image_after 4 written_at3 (page_at 1)) ∷ [])))
    says_ahead
    ∷ row "no slot outside the index: full"
    (mended 1 2 1 (run (reach_ring 1 1 4 4 (page_backed_up 2)) (spoil_backup ∷ []))) says_full
    ∷ row "A4: written at the newest number, no backup: whole" (mended 1 2 1 (reach_ring 1 2 8 4 written_at3)) says_whole
    ∷ []

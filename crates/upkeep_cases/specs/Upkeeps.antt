-- What upkeep advises on small stores, call after call, from where a user's calls left them.
use Rattle.std.specs.Prelude.{ℕ, List, [], ◌∷◌, ◌++◌, replicate}
use Rattle.model.specs.Geometry.{slot_at}
use Rattle.cases.specs.Calls.{force, write, backup, release, note}
use Rattle.model.specs.AbstractLog.{torn}
use Rattle.model.specs.History.{restart, perform, crash, crash_in, damage, run}
use Rattle.cases.specs.Rows.{Row, row}
use Rattle.cases.specs.Opened.{opened}
use Rattle.cases.specs.Build.{memory}
use Rattle.cases.specs.Rings.{reach_ring, put, turned}
use Rattle.cases.specs.Prologues.{page_written}
use Rattle.upkeep_cases.specs.Stores.{advised, backed2, three, first_write, locked, other}

-- ---- advice in words

abbrev a_note : List ℕ
a_note = 9 ∷ []

abbrev a_force : List ℕ
a_force = 6 ∷ []

abbrev a_load : ℕ → ℕ → List ℕ
a_load page frame = 4 ∷ page ∷ frame ∷ []

abbrev a_write : ℕ → List ℕ
a_write page = 7 ∷ page ∷ []

abbrev a_backup : ℕ → ℕ → List ℕ
a_backup page slot = 8 ∷ page ∷ slot ∷ []

-- a put of one byte at the page's front
abbrev a_put : ℕ → ℕ → List ℕ
a_put page byte = 5 ∷ page ∷ 2 ∷ 1 ∷ 0 ∷ 0 ∷ byte ∷ []

abbrev nothing_more : List ℕ
nothing_more = 100 ∷ []

abbrev stuck_at : ℕ → List ℕ
stuck_at page = 101 ∷ page ∷ []

abbrev advice : List (List ℕ) → List ℕ
advice [] = []
advice (c ∷ cs) = c ++ advice cs

unfoldable pub upkeep_rows : List Row
unfolding opened advised
upkeep_rows =
    row "a note is pending: Note" (advised 9 2 (run (reach_ring 1 2 4 4 (page_written 2)) (perform (backup 1 1) ∷ [])))
    (advice (a_note ∷ nothing_more ∷ []))
    ∷ row "a record is pending: Force" (advised 9 2 (run (reach_ring 1 2 4 4 (page_written 2)) (perform (put 9) ∷ [])))
    (advice (a_force ∷ nothing_more ∷ []))
    ∷ row "a written note at position 2, clean: put of its byte, Force, Write, Note"
    (advised 9 2 (reach_ring 1 2 4 4 backed2))
    (advice (a_put 1 7 ∷ a_force ∷ a_write 1 ∷ a_note ∷ nothing_more ∷ []))
    ∷ row "the same after a cut: Load first"
    (advised 9 2 (run (reach_ring 1 2 4 4 backed2) (crash ∷ restart (memory 2) ∷ [])))
    (advice (a_load 1 2 ∷ a_put 1 7 ∷ a_force ∷ a_write 1 ∷ a_note ∷ nothing_more ∷ []))
    ∷ row "a dirty page: no put"
    (advised 9 2 (run (reach_ring 1 2 4 4 backed2) (perform (put 8) ∷ perform force ∷ [])))
    (advice (a_write 1 ∷ a_note ∷ nothing_more ∷ []))
    ∷ row "its Write torn: the own image fails, Load is dirty, no put"
    (advised 9 2 (run (reach_ring 1 2 4 4 backed2)
    (perform (put 7) ∷ perform force ∷ crash_in (write 1) (torn (replicate 256 1)) ∷ restart (memory 2) ∷ [])))
    (advice (a_load 1 2 ∷ a_write 1 ∷ a_note ∷ nothing_more ∷ []))
    ∷ row "a record at log position 2 of 4: Backup, Note" (advised 9 2 (reach_ring 1 2 4 4 three))
    (advice (a_backup 1 1 ∷ a_note ∷ nothing_more ∷ []))
    ∷ row "the slot in use is left out"
    (advised 9 2 (run (reach_ring 1 2 4 8 three)
    (perform (backup 1 1) ∷ perform note ∷ perform (put 4) ∷ perform force ∷ perform (put 5) ∷ perform force ∷ [])))
    (advice (nothing_more ∷ []))
    ∷ row "once more needed: slot 2"
    (advised 9 2 (run (reach_ring 1 2 4 8 three)
    (perform (backup 1 1) ∷ perform note ∷ perform (put 4) ∷ perform force ∷ perform (put 5) ∷ perform force
    ∷ perform (put 6) ∷ perform force ∷ [])))
    (advice (a_backup 1 2 ∷ a_note ∷ nothing_more ∷ []))
    ∷ row "a locked store: put, Force, then stuck, though the page is there" (advised 9 1 (reach_ring 1 2 2 2 locked))
    (advice (a_put 1 7 ∷ a_force ∷ stuck_at 1 ∷ []))
    ∷ row "no slot outside the index: stuck" (advised 9 1 (reach_ring 1 1 2 2 turned)) (advice (stuck_at 1 ∷ []))
    ∷ row "a page that is lost: stuck"
    (advised 9 1 (run (reach_ring 1 2 2 2 turned) (perform (release 1) ∷ damage (slot_at 1) (replicate 256 1) ∷ [])))
    (advice (stuck_at 1 ∷ []))
    ∷ row "the same, not lost, one more note slot: idle until the note is at position 2"
    (advised 9 1 (run (reach_ring 1 2 2 3 turned) (perform (release 1) ∷ [])))
    (advice (a_load 1 1 ∷ a_backup 1 2 ∷ a_note ∷ nothing_more ∷ []))
    ∷ row "P + 2 note slots, a backup noted, a first Write not yet noted: no end"
    (advised 12 2 (reach_ring 1 2 4 3 first_write))
    (advice (a_note ∷ a_backup 1 2 ∷ a_note ∷ a_put 1 7 ∷ a_force ∷ a_write 1 ∷ a_note ∷ a_backup 1 1 ∷ a_note ∷ a_put 1 7
    ∷ a_force ∷ a_write 1 ∷ []))
    ∷ row "a note and a record ahead: the note first"
    (advised 1 2 (run (reach_ring 1 2 4 4 backed2)
    (perform (put 8) ∷ perform force ∷ perform (put 9) ∷ perform force ∷ perform (put 10) ∷ perform force ∷ [])))
    (advice (a_write 1 ∷ []))
    ∷ row "the first log position is page 2's, not backed up: Backup of page 2"
    (advised 1 2 (reach_ring 2 3 4 6 other)) (advice (a_backup 2 2 ∷ []))
    ∷ row "a needed note at position 3 is left: idle"
    (advised 9 2 (run (reach_ring 1 2 4 4 (page_written 2)) (perform (backup 1 1) ∷ perform note ∷ [])))
    (advice (nothing_more ∷ []))
    ∷ []

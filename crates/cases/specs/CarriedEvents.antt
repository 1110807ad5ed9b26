-- Rows on which events may come around a volume that is carried over: what may be torn and damaged, what a Start may
-- not meet, and what counts as stored.
use Rattle.std.specs.Prelude.{List, [], ◌∷◌, ◌++◌, map, replicate}
use Rattle.model.specs.Geometry.{page_at, slot_at}
use Rattle.cases.specs.Calls.{write, backup, note, start_carry, restamp, finish_carry}
use Rattle.model.specs.AbstractLog.{old, new, torn}
use Rattle.model.specs.History.{Machine, Event, restart, perform, crash_in, damage, run}
use Rattle.model.specs.declared.answer.Class.TheVariants.{Good}
use Rattle.cases.specs.Opened.{opened}
use Rattle.cases.specs.Rows.{Row, row}
use Rattle.cases.specs.Words.{from_own, yes, no, at_lsn}
use Rattle.cases.specs.Build.{broken, inspected, memory, may, hits}
use Rattle.cases.specs.Carried.{does, old_volume, both_written, word_image, byte_image, sums, in_bytes, in_both}

-- A torn write under the first heading, of page 2: it fails the word sum, as a torn item must, and passes the byte sum.
abbrev torn_write : Machine
torn_write = run old_volume (crash_in (write 2) (torn (byte_image 2 2 0xEE)) ∷ restart (memory 2) ∷ [])

-- page 1's backup replaced in its slot by such an image, and that of a backup whose note is pending
abbrev torn_backup : Machine
torn_backup = run old_volume (damage (slot_at 1) (byte_image 1 1 0xEE) ∷ [])

abbrev torn_pending : Machine
torn_pending = run old_volume (perform (backup 2 2) ∷ damage (slot_at 2) (byte_image 2 2 0xEE) ∷ [])

abbrev torn_outside : Machine
torn_outside = run old_volume (damage (slot_at 2) (byte_image 2 2 0xEE) ∷ [])

-- Page 2 forged in page 1's slot, as is allowed; page 1's backup moves away; the volume is carried over, and with it
-- the forgery, which passes outside the index; page 2 is backed up there and noted.
abbrev pub forged_slot : List Event
forged_slot =
    damage (slot_at 1) (word_image 2 2 0xEE)
    ∷ (does (backup 1 2 ∷ note ∷ start_carry ∷ restamp ∷ restamp ∷ backup 2 1 ∷ note ∷ []))

-- the same, the forgery's restamp cut and left new
abbrev forged_cut : List Event
forged_cut =
    damage (slot_at 1) (word_image 2 2 0xEE)
    ∷ (does (backup 1 2 ∷ note ∷ start_carry ∷ restamp ∷ []) ++ (crash_in restamp new ∷ restart (memory 2) ∷ []))

unfoldable pub carried_events : List Row
unfolding opened
carried_events =
    let carrying = run old_volume (does (start_carry ∷ [])) in
    let twice = run carrying (does (restamp ∷ restamp ∷ [])) in
    let over = run twice (does (finish_carry ∷ [])) in
    let forged = run old_volume forged_slot in
    row "carry: a heading store is whole or absent"
    (may old_volume (crash_in start_carry old ∷ crash_in start_carry new ∷ crash_in start_carry (torn [])
    ∷ crash_in start_carry (torn (replicate 4 1)) ∷ [])
    ++ (may carrying (crash_in start_carry (torn []) ∷ [])
    ++ may twice (crash_in finish_carry old ∷ crash_in finish_carry new ∷ crash_in finish_carry (torn []) ∷ [])))
    (yes ∷ yes ∷ no ∷ no ∷ yes ∷ yes ∷ yes ∷ no ∷ [])
    ∷ row "carry: a torn image fails both sums"
    (may carrying (crash_in restamp old ∷ crash_in restamp new ∷ map (λ xs. crash_in restamp (torn xs))
    (broken (byte_image 1 1 7) ∷ word_image 1 1 0xEE ∷ byte_image 1 1 0xEE ∷ [])
    ++ map (λ xs. crash_in (write 2) (torn xs)) (word_image 2 2 0xEE ∷ byte_image 2 2 0xEE ∷ [])))
    (yes ∷ yes ∷ yes ∷ no ∷ no ∷ no ∷ no ∷ [])
    ∷ row "carry: before and after, the sum of the heading"
    (may old_volume (map (λ xs. crash_in (write 2) (torn xs)) (word_image 2 2 0xEE ∷ byte_image 2 2 0xEE ∷ []))
    ++ may over (map (λ xs. crash_in (write 2) (torn xs)) (word_image 2 2 0xEE ∷ byte_image 2 2 0xEE ∷ [])))
    (no ∷ yes ∷ yes ∷ no ∷ [])
    ∷ row "carry: damage passes under neither sum, or was stored"
    (may carrying (hits (page_at 1)
    (word_image 1 1 0xEE ∷ byte_image 1 1 0xEE ∷ broken (word_image 1 1 7) ∷ word_image 1 1 7 ∷ byte_image 1 1 7 ∷ []))
    ++ may over (hits (page_at 1) (word_image 1 1 0xEE ∷ byte_image 1 1 0xEE ∷ word_image 1 1 7 ∷ byte_image 1 1 7 ∷ [])))
    (no ∷ no ∷ yes ∷ yes ∷ no ∷ yes ∷ no ∷ yes ∷ yes ∷ [])
    ∷ row "carry: a Start may not meet an own image by bytes alone"
    (may torn_write (perform start_carry ∷ crash_in start_carry new ∷ crash_in start_carry old ∷ []))
    (no ∷ no ∷ yes ∷ [])
    ∷ row "carry: nor a noted backup by bytes alone"
    (may torn_backup (perform start_carry ∷ crash_in start_carry new ∷ crash_in start_carry old ∷ []))
    (no ∷ no ∷ yes ∷ [])
    ∷ row "carry: nor the backup of a pending note"
    (may torn_pending (perform start_carry ∷ crash_in start_carry new ∷ crash_in start_carry old ∷ []))
    (no ∷ no ∷ yes ∷ [])
    ∷ row "carry: a Start may meet an image that passes both sums"
    (sums both_written (page_at 1) 1 ++ may both_written (perform start_carry ∷ crash_in start_carry new ∷ []))
    (in_both ++ (yes ∷ yes ∷ []))
    ∷ row "carry: slots that nothing relies on, and a Start that is refused, are not asked"
    (may torn_outside (perform start_carry ∷ []) ++ may over (perform start_carry ∷ crash_in start_carry new ∷ []))
    (yes ∷ yes ∷ yes ∷ [])
    ∷ row "carry: why: a torn write would read good"
    (inspected (run torn_write (does (start_carry ∷ []))).volume 2)
    (from_own Good 0 ++ at_lsn 2 (replicate 6 0xEE))
    ∷ row "carry: a restamped forgery does not count as stored"
    (may forged (hits (slot_at 1)
    (byte_image 2 2 0xEE ∷ word_image 2 2 0xEE ∷ byte_image 2 2 9 ∷ broken (byte_image 2 2 9) ∷ [])))
    (no ∷ no ∷ yes ∷ yes ∷ [])
    ∷ row "carry: nor where its restamp was cut and left new"
    (may (run old_volume forged_cut) (hits (slot_at 1) (byte_image 2 2 0xEE ∷ word_image 2 2 0xEE ∷ []))
    ++ sums (run old_volume forged_cut) (slot_at 1) 2)
    (no ∷ no ∷ in_bytes)
    ∷ row "carry: a restamped image counts as stored where the old one did"
    (may twice (hits (page_at 1) (byte_image 1 1 7 ∷ word_image 1 1 7 ∷ [])
    ++ hits (slot_at 1) (byte_image 1 1 7 ∷ word_image 1 1 7 ∷ []))
    ++ may (run carrying (crash_in restamp new ∷ [])) (hits (page_at 1) (byte_image 1 1 7 ∷ []))
    ++ may (run carrying (crash_in restamp old ∷ [])) (hits (page_at 1) (byte_image 1 1 7 ∷ [])))
    (yes ∷ yes ∷ yes ∷ yes ∷ yes ∷ no ∷ [])
    ∷ []

-- Rows on the report of a call for C: class, start and count of a Load, offset and length of what was stored; and the
-- refusals of a call whose numbers are no state's. On counts P 2, B 1, L 4, N 4: page 1 lies at 8, page 2 at 264, slot 1
-- at 524, log slot 1 at 784, note slot 1 at 1044.
use Rattle.std.specs.Prelude.{List, [], ◌∷◌, ◌++◌, replicate, set}
use Rattle.model.specs.History.{Machine, run}
use Rattle.model.specs.declared.change.Change.TheVariants.{Put}
use Rattle.model.specs.declared.geometry.Heading.TheVariants.{First}
use Rattle.face.specs.Face.{face_of}
use Rattle.face.specs.Numbers.{numbers_of}
use Rattle.cases.specs.Rows.{Row, row}
use Rattle.cases.specs.Calls.{begin, load, change, force, write, backup, release, note, start_carry, restamp, finish_carry}
use Rattle.cases.specs.Build.{reach, reach_under}
use Rattle.cases.specs.Prologues.{page_begun, page_forced, pages_forced}
use Rattle.cases_c.specs.OpenedForC.{opened_for_c}
use Rattle.cases_c.specs.Faces.{does, told, says, with_state, unstated, stored, only_done, nothing_to_do, refused_by}

-- both pages durable
abbrev pub forced : Machine
forced = reach 2 1 4 4 (pages_forced 2)

-- page 1 has two durable records, its image was never written, and it was let go: its Load is Failed (4), from the
-- format (3), two records (2)
abbrev pub let_go : Machine
let_go =
    reach 2 1 4 4
    (page_forced 2 ++ does (change 1 (Put 1 2) (5 ∷ 6 ∷ replicate 42 0) ∷ force ∷ release 1 ∷ []))

-- the first heading, carried, and the second, with no items
abbrev first_one : Machine
first_one = reach_under First 2 1 4 4 (pages_forced 2 ++ does (write 1 ∷ note ∷ []))

unfoldable pub report_rows : List Row
unfolding opened_for_c
report_rows =
    let begun = reach 2 1 4 4 (page_begun 2) in
    let carried = run first_one (does (start_carry ∷ [])) in
    let over = run carried (does (restamp ∷ finish_carry ∷ [])) in
    row "C: what is stored, by offset and length: a record, an image, a backup, a note"
    (says begun force ++ (says (run begun (does (begin 2 2 9 ∷ force ∷ []))) force
    ++ (says forced (write 2) ++ (says forced (backup 1 1) ++ says (run forced (does (write 2 ∷ []))) note))))
    (stored 784 64 ++ (stored 848 64 ++ (stored 264 256 ++ (stored 524 256 ++ stored 1044 16))))
    ∷ row "C: a heading is stored at 0, 4 bytes; a restamp where the image lies"
    (says first_one start_carry ++ (says carried restamp ++ says (run carried (does (restamp ∷ []))) finish_carry))
    (stored 0 4 ++ (stored 8 256 ++ stored 0 4))
    ∷ row "C: class, start and count of a Load; 0 of other calls; nothing is stored"
    (says let_go (load 1 1) ++ (says begun (begin 2 2 9) ++ says forced (release 1)))
    ((0 ∷ 4 ∷ 3 ∷ 2 ∷ 0 ∷ 0 ∷ []) ++ (only_done ++ only_done))
    ∷ row "C: Nothing is 256, and a refusal leaves the report"
    (says forced force ++ (says forced note ++ (says forced (load 1 1) ++ says forced (backup 1 2))))
    (nothing_to_do ++ (nothing_to_do ++ (refused_by 9 ++ refused_by 5)))
    ∷ row "C: numbers that are no state's: 2, behind 1"
    (unstated forced.volume force ++ (unstated forced.volume (begin 1 1 7)
    ++ (unstated (set forced.volume 0 0) force ++ unstated [] (load 1 1))))
    (refused_by 2 ++ (refused_by 2 ++ (refused_by 1 ++ refused_by 1)))
    ∷ row "C: numbers that are no state's and a heading not its own: 1"
    (unstated forced.volume start_carry ++ (unstated carried.volume start_carry
    ++ (unstated first_one.volume restamp ++ (unstated over.volume restamp
    ++ (unstated first_one.volume finish_carry ++ unstated over.volume finish_carry)))))
    (refused_by 1 ++ (refused_by 1 ++ (refused_by 1 ++ (refused_by 1 ++ (refused_by 1 ++ refused_by 1)))))
    ∷ row "C: numbers that are no state's and its own heading: 2"
    (unstated first_one.volume start_carry ++ (unstated carried.volume restamp
    ++ unstated carried.volume finish_carry))
    (refused_by 2 ++ (refused_by 2 ++ refused_by 2))
    ∷ row "C: a report of another length: 2, behind 1, and it is left"
    (with_state forced.power [] (λ m s. told (face_of force forced.volume m (numbers_of s) (replicate 4 9))
    ++ (told (face_of force forced.volume m (numbers_of s) (replicate 6 9))
    ++ told (face_of force (set forced.volume 0 0) m (numbers_of s) (replicate 4 9)))))
    ((2 ∷ replicate 4 9) ++ ((2 ∷ replicate 6 9) ++ (1 ∷ replicate 4 9)))
    ∷ []

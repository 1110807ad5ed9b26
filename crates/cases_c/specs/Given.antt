-- Rows on what Begin and Change are given for C: a fill above 255, and the numbers and bytes of a change.
use Rattle.std.specs.Prelude.{ℕ, List, [], ◌∷◌, ◌++◌, length, replicate, set, take}
use Rattle.model.specs.Calls.{code_of}
use Rattle.model.specs.History.{Machine}
use Rattle.model.specs.declared.command.Command.TheVariants.{Change}
use Rattle.face.specs.Numbers.{numbers_of}
use Rattle.face.specs.Arguments.{begin_face, change_from, payload_from}
use Rattle.cases.specs.Rows.{Row, row}
use Rattle.cases.specs.Build.{memory, reach}
use Rattle.cases.specs.Prologues.{page_begun}
use Rattle.cases_c.specs.OpenedForC.{opened_for_c}
use Rattle.cases_c.specs.Faces.{lent, told, with_state, only_done, refused_by}

-- two frames; page 1 is begun
abbrev begun : Machine
begun = reach 2 1 4 4 (page_begun 2)

-- a Begin on the machine's state, on no numbers, and on its state with another volume
abbrev begins : ℕ → ℕ → ℕ → List ℕ
begins page frame fill =
    with_state begun.power [] (λ m s. told (begin_face page frame fill begun.volume m (numbers_of s) lent))

abbrev begins_unstated : List ℕ → ℕ → List ℕ
begins_unstated v fill = told (begin_face 2 2 fill v (memory 2) [] lent)

-- what kind, offset, length and fill ask for, with n bytes beside them, as kind, length, offset and fill of the change
abbrev asks : ℕ → ℕ → ℕ → ℕ → ℕ → List ℕ
asks kind offset size fill n = code_of (Change 1 (change_from kind offset size fill n))

abbrev asked : ℕ → ℕ → ℕ → ℕ → List ℕ
asked kind size offset fill = 5 ∷ 1 ∷ kind ∷ size ∷ offset ∷ fill ∷ []

-- a put that every Change refuses by 6
abbrev unfit : List ℕ
unfit = asked 2 255 65535 0

unfoldable pub given_rows : List Row
unfolding opened_for_c
given_rows =
    row "C: a fill above 255: 6, behind 3 and 4, before 9"
    (begins 2 2 256 ++ (begins 0 2 256 ++ (begins 3 3 256 ++ (begins 2 0 256 ++ (begins 2 3 256 ++ begins 1 1 256)))))
    (refused_by 6 ++ (refused_by 3 ++ (refused_by 3 ++ (refused_by 4 ++ (refused_by 4 ++ refused_by 6)))))
    ∷ row "C: a fill of 255 is taken, and page 1's second Begin is 9"
    (begins 2 2 255 ++ begins 1 2 255) (only_done ++ refused_by 9)
    ∷ row "C: a fill above 255, and numbers that are no state's: 2, behind 1"
    (begins_unstated begun.volume 256 ++ (begins_unstated (set begun.volume 0 0) 256
    ++ begins_unstated begun.volume 255))
    (refused_by 2 ++ (refused_by 1 ++ refused_by 2))
    ∷ row "C: a put or a slide has its bytes beside it, at least its length and at most 44"
    (asks 2 7 3 0 3 ++ (asks 3 7 3 0 44 ++ (asks 2 7 3 0 2 ++ (asks 3 7 3 0 2 ++ (asks 2 7 3 0 45 ++ asks 3 7 3 0 45)))))
    (asked 2 3 7 0 ++ (asked 3 3 7 0 ++ (unfit ++ (unfit ++ (unfit ++ unfit)))))
    ∷ row "C: a put's offset is of two bytes and its fill 0"
    (asks 2 65535 1 0 1 ++ (asks 2 65536 1 0 1 ++ (asks 2 7 1 1 1 ++ (asks 3 65536 1 0 1 ++ asks 3 7 1 1 1))))
    (asked 2 1 65535 0 ++ (unfit ++ (unfit ++ (unfit ++ unfit))))
    ∷ row "C: a format has a fill to 255, no offset, no length, and any bytes to 44"
    (asks 1 0 0 255 0 ++ (asks 1 0 0 1 44 ++ (asks 1 0 0 256 0 ++ (asks 1 1 0 1 0 ++ (asks 1 0 1 1 1 ++ asks 1 0 0 1 45)))))
    (asked 1 0 0 255 ++ (asked 1 0 0 1 ++ (unfit ++ (unfit ++ (unfit ++ unfit)))))
    ∷ row "C: kinds 0 and 4 are none" (asks 0 0 0 0 0 ++ asks 4 0 1 0 1) (unfit ++ unfit)
    ∷ row "C: 44 bytes: those that are there, then zeros"
    (length (payload_from (1 ∷ 2 ∷ [])) ∷ (take 3 (payload_from (1 ∷ 2 ∷ [])) ++ payload_from (replicate 45 8)))
    (44 ∷ 1 ∷ 2 ∷ 0 ∷ replicate 44 8)
    ∷ []

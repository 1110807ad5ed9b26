-- Rows on two logs held against each other (document 02, §11). The log of K6: 1 format page 1, 2 format page 2, 3 put
-- page 1.
use Rattle.std.specs.Prelude.{ℕ, suc, Bool, cond, List, [], ◌∷◌, ◌++◌, replicate, set}
use Rattle.model.specs.Bytes.{part}
use Rattle.model.specs.Geometry.{page_at, record_at, note_at, empty_volume}
use Rattle.model.specs.Item.{encode_change}
use Rattle.model.specs.Outcome.{one_item}
use Rattle.model.specs.Restart.{inspect_of}
use Rattle.reports.specs.Mirror.{mirror_of, compare_of}
use Rattle.model.specs.declared.geometry.Heading.TheVariants.{First}
use Rattle.model.specs.declared.change.Change.TheVariants.{Put, Slide}
use Rattle.model.specs.declared.change.Change.TheVariants.{Format}
use Rattle.reports.specs.declared.reading.Comparison.{Comparison}
use Rattle.reports.specs.declared.reading.Comparison.TheVariants.{Refused, Agree, FirstLacks, SecondLacks, Differs}
use Rattle.cases.specs.Rows.{Row, row}
use Rattle.cases.specs.Opened.{opened}
use Rattle.cases.specs.Words.{yes, no, accepted, refusal}
use Rattle.cases.specs.Build.{image, stored_in, small_volume, written_note, buffer}
use Rattle.cases.specs.Table.{record1, record2, record3, body1}
use Rattle.cases.specs.Rings.{reach_ring, turned}

-- no two comparisons have the same numbers
abbrev comparison_numbers : Comparison → List ℕ
comparison_numbers (Refused n) = 100 ∷ n ∷ []
comparison_numbers Agree = 110 ∷ []
comparison_numbers (FirstLacks n) = 111 ∷ n ∷ []
comparison_numbers (SecondLacks n) = 112 ∷ n ∷ []
comparison_numbers (Differs n) = 113 ∷ n ∷ []

-- the pages listed
abbrev listing : ℕ → List Bool → List ℕ
listing p [] = []
listing p (b ∷ bs) = let rest = listing (suc p) bs in cond b (p ∷ rest) rest

-- a comparison and the pages that it lists
abbrev told : Comparison → List ℕ → List ℕ
told c pages = comparison_numbers c ++ pages

abbrev compared : List ℕ → List ℕ → List ℕ
compared v w = let c = mirror_of v w in comparison_numbers c.answer ++ listing 1 c.touched

-- the refusal that the call for C answers, and what it leaves in a report of n nines
abbrev reported : ℕ → List ℕ → List ℕ → List ℕ
reported n v w = let o = compare_of v w (replicate n 9) in o.refusal ∷ o.report

-- in words: what is told by its number, how many records or which, and of each page whether it is listed
abbrev reports : ℕ → ℕ → List ℕ → List ℕ
reports kind n pages = accepted ∷ kind ∷ n ∷ pages

abbrev agree : ℕ
agree = 1

abbrev first_lacks : ℕ
first_lacks = 2

abbrev second_lacks : ℕ
second_lacks = 3

abbrev differ : ℕ
differ = 4

-- a refusal that leaves a report of n nines
abbrev leaves : ℕ → ℕ → List ℕ
leaves refusal n = refusal ∷ replicate n 9

-- a volume of two pages with these records
abbrev logged : List (List ℕ) → List ℕ
logged [] = small_volume []
logged (r ∷ []) = small_volume (one_item (record_at 1) r ∷ [])
logged (r ∷ (s ∷ [])) = small_volume (one_item (record_at 1) r ∷ one_item (record_at 2) s ∷ [])
logged (r ∷ (s ∷ (t ∷ ts))) =
    small_volume (one_item (record_at 1) r ∷ one_item (record_at 2) s ∷ one_item (record_at 3) t ∷ [])

abbrev ours : List ℕ
ours = logged (record1 ∷ record2 ∷ record3 ∷ [])

-- the log with another third record
abbrev third : List ℕ → List ℕ
third r = logged (record1 ∷ record2 ∷ r ∷ [])

unfoldable pub mirror_rows : List Row
unfolding opened
mirror_rows =
    row "mirror: logs that agree" (compared ours ours ++ compared (logged []) (logged []))
    (told Agree [] ++ told Agree [])
    ∷ row "mirror: headings and counts may differ"
    (compared ours (stored_in (empty_volume First 3 0 3 0)
    (one_item (record_at 1) record1 ∷ one_item (record_at 2) record2 ∷ one_item (record_at 3) record3 ∷ [])))
    (told Agree [])
    ∷ row "mirror: a beginning"
    (compared (logged []) ours
    ++ (compared ours (logged (record1 ∷ record2 ∷ [])) ++ compared (logged (record1 ∷ [])) ours))
    (told (FirstLacks 3) (1 ∷ 2 ∷ []) ++ (told (SecondLacks 1) (1 ∷ []) ++ told (FirstLacks 2) (1 ∷ 2 ∷ [])))
    ∷ row "mirror: other bytes"
    (compared ours (third (encode_change 3 1 1 (Put 1 2) (0x41 ∷ 0x43 ∷ [])))) (told (Differs 3) (1 ∷ []))
    ∷ row "mirror: another range"
    (compared ours (third (encode_change 3 1 1 (Put 2 2) (0x41 ∷ 0x42 ∷ [])))
    ++ compared (third (encode_change 3 1 1 (Put 1 3) (0x41 ∷ 0x42 ∷ 0 ∷ []))) ours)
    (told (Differs 3) (1 ∷ []) ++ told (Differs 3) (1 ∷ []))
    ∷ row "mirror: another kind"
    (compared ours (third (encode_change 3 1 1 (Slide 1 2) (0x41 ∷ 0x42 ∷ [])))) (told (Differs 3) (1 ∷ []))
    ∷ row "mirror: another page"
    (compared ours (third (encode_change 3 2 2 (Put 1 2) (0x41 ∷ 0x42 ∷ [])))) (told (Differs 3) (1 ∷ 2 ∷ []))
    ∷ row "mirror: another fill"
    (compared ours (logged (encode_change 1 0 1 (Format 8) [] ∷ record2 ∷ record3 ∷ []))) (told (Differs 1) (1 ∷ 2 ∷ []))
    ∷ row "mirror: the shorter one differs"
    (compared (logged (record1 ∷ encode_change 2 0 2 (Format 8) [] ∷ [])) ours) (told (Differs 2) (1 ∷ 2 ∷ []))
    ∷ row "mirror: touched in the second alone"
    (compared ours (logged (record1 ∷ record2 ∷ encode_change 3 2 2 (Format 1) [] ∷ []))
    ++ compared (logged (record1 ∷ record2 ∷ [])) (third (encode_change 3 2 2 (Format 1) [])))
    (told (Differs 3) (1 ∷ 2 ∷ []) ++ told (FirstLacks 1) (2 ∷ []))
    ∷ row "mirror: refused by number, whichever gives it"
    (let wrong = set ours 0 0 in
    let log = third (encode_change 4 1 1 (Put 1 2) (0x41 ∷ 0x42 ∷ [])) in
    let notes = stored_in ours (one_item (note_at 1) (written_note 2 1 3) ∷ []) in
    let gone = (reach_ring 1 1 2 2 turned).volume in
    compared log wrong ++ (compared wrong log
    ++ (compared notes log ++ (compared gone notes ++ (compared gone ours ++ compared ours gone)))))
    (told (Refused 1) [] ++ (told (Refused 1) [] ++ (told (Refused 17) [] ++ (told (Refused 18) []
    ++ (told (Refused 24) [] ++ told (Refused 24) [])))))
    ∷ row "mirror: logs that agree over a forged image"
    (let forged = stored_in ours (one_item (page_at 1) (image 1 3 body1) ∷ []) in
    compared ours forged
    ++ (part (inspect_of ours 1 buffer).buffer 8 3 ++ part (inspect_of forged 1 buffer).buffer 8 3))
    (told Agree [] ++ (7 ∷ 0x41 ∷ 0x42 ∷ 7 ∷ 7 ∷ 7 ∷ []))
    ∷ row "mirror, for C: they agree, or differ"
    (reported 66 ours ours ++ reported 66 ours (third (encode_change 3 1 1 (Put 1 2) (0x41 ∷ 0x43 ∷ []))))
    (reports agree 0 (replicate 64 no) ++ reports differ 3 (yes ∷ replicate 63 no))
    ∷ row "mirror, for C: the first lacks, or the second"
    (reported 66 (logged []) ours ++ reported 66 ours (logged (record1 ∷ record2 ∷ [])))
    (reports first_lacks 3 (yes ∷ yes ∷ replicate 62 no) ++ reports second_lacks 1 (yes ∷ replicate 63 no))
    ∷ row "mirror, for C: 1, then 2, then 17, and the report is left"
    (let wrong = set ours 0 0 in
    let log = third (encode_change 4 1 1 (Put 1 2) (0x41 ∷ 0x42 ∷ [])) in
    reported 3 ours wrong ++ (reported 65 log ours ++ (reported 67 ours ours ++ reported 66 ours log)))
    (leaves (refusal 1) 3 ++ (leaves (refusal 2) 65 ++ (leaves (refusal 2) 67 ++ leaves (refusal 17) 66)))
    ∷ []

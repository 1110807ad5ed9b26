-- Rows on changes: each kind's rule at its borders, and what a change makes of a body.
use Rattle.std.specs.Prelude.{List, [], ◌∷◌, ◌++◌, length, replicate, take, drop}
use Rattle.model.specs.Change.{change_fits, apply_change}
use Rattle.model.specs.declared.change.Change.TheVariants.{Put, Slide}
use Rattle.model.specs.declared.change.Change.TheVariants.{Format}
use Rattle.cases.specs.Rows.{Row, row}
use Rattle.cases.specs.Words.{bits, yes, no}

-- ---- the rule: kind, length, offset, fill

abbrev border_rows : List Row
border_rows =
    row "rule: a format has length 0, offset 0 and any fill"
    (bits (change_fits 1 0 0 0 ∷ change_fits 1 0 0 255 ∷ change_fits 1 1 0 0 ∷ change_fits 1 0 1 0 ∷ []))
    (yes ∷ yes ∷ no ∷ no ∷ [])
    ∷ row "rule: a put's length is 1 to 44"
    (bits (change_fits 2 0 0 0 ∷ change_fits 2 1 0 0 ∷ change_fits 2 44 0 0 ∷ change_fits 2 45 0 0
    ∷ change_fits 2 244 0 0 ∷ []))
    (no ∷ yes ∷ yes ∷ no ∷ no ∷ [])
    ∷ row "rule: a put's offset leaves room for it"
    (bits
    (change_fits 2 1 243 0 ∷ change_fits 2 1 244 0 ∷ change_fits 2 44 200 0 ∷ change_fits 2 44 201 0
    ∷ change_fits 2 1 65535 0
    ∷ []))
    (yes ∷ no ∷ yes ∷ no ∷ no ∷ [])
    ∷ row "rule: a put's fill is 0"
    (bits (change_fits 2 1 0 0 ∷ change_fits 2 1 0 1 ∷ change_fits 2 44 200 255 ∷ []))
    (yes ∷ no ∷ no ∷ [])
    ∷ row "rule: a slide's length is 1 to 44"
    (bits (change_fits 3 0 0 0 ∷ change_fits 3 1 0 0 ∷ change_fits 3 44 0 0 ∷ change_fits 3 45 0 0
    ∷ change_fits 3 244 0 0 ∷ []))
    (no ∷ yes ∷ yes ∷ no ∷ no ∷ [])
    ∷ row "rule: a slide's offset leaves room for it"
    (bits
    (change_fits 3 1 243 0 ∷ change_fits 3 1 244 0 ∷ change_fits 3 44 200 0 ∷ change_fits 3 44 201 0
    ∷ change_fits 3 1 65535 0
    ∷ []))
    (yes ∷ no ∷ yes ∷ no ∷ no ∷ [])
    ∷ row "rule: a slide's fill is 0"
    (bits (change_fits 3 1 0 0 ∷ change_fits 3 1 0 1 ∷ change_fits 3 44 200 255 ∷ []))
    (yes ∷ no ∷ no ∷ [])
    ∷ row "rule: no other kind"
    (bits (change_fits 0 0 0 0 ∷ change_fits 0 1 0 0 ∷ change_fits 4 0 0 0 ∷ change_fits 4 1 0 0
    ∷ change_fits 255 1 0 0 ∷ []))
    (no ∷ no ∷ no ∷ no ∷ no ∷ [])
    ∷ []

-- ---- on a body

abbrev body_rows : List Row
body_rows =
    row "a put ends where its bytes end"
    (drop 241 (apply_change (Put 241 2) (1 ∷ 2 ∷ 3 ∷ []) (replicate 244 7)))
    (1 ∷ 2 ∷ 7 ∷ [])
    ∷ row "a slide drops the last bytes"
    (let b = apply_change (Slide 1 2) (1 ∷ 2 ∷ 3 ∷ []) (10 ∷ 11 ∷ (replicate 240 7 ++ (12 ∷ 13 ∷ []))) in
    length b ∷ (take 5 b ++ drop 242 b))
    (244 ∷ 10 ∷ 1 ∷ 2 ∷ 11 ∷ 7 ∷ 7 ∷ 7 ∷ [])
    ∷ row "a format fills"
    (let b = apply_change (Format 5) [] (replicate 244 7) in length b ∷ (take 2 b ++ drop 243 b))
    (244 ∷ 5 ∷ 5 ∷ 5 ∷ [])
    ∷ []

unfoldable pub change_rows : List Row
change_rows = border_rows ++ body_rows

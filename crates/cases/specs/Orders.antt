-- Rows on lists of changes: what may be reordered and left out, as the laws of `model` say, and for each hypothesis of
-- a law a case that shows why it stands.
use Rattle.std.specs.Prelude.{ℕ, List, [], ◌∷◌, ◌++◌, length, drop}
use Rattle.model.specs.Bytes.{part}
use Rattle.model.specs.Change.{zero_body}
use Rattle.model.specs.AbstractLog.{Logged, replay_on, replay, last_place}
use Rattle.model.specs.declared.change.Change.TheVariants.{Put, Slide}
use Rattle.model.specs.declared.change.Change.TheVariants.{Format}
use Rattle.cases.specs.Rows.{Row, row}
use Rattle.cases.specs.Slides.{logged}

-- bytes put, and slid in, at an offset of page 1
abbrev put : ℕ → List ℕ → Logged
put o xs = logged 1 (Put o (length xs)) xs

abbrev slide : ℕ → List ℕ → Logged
slide o xs = logged 1 (Slide o (length xs)) xs

-- page 1's bytes 9 to 12 after two changes in this order, and in the other
abbrev both_ways : Logged → Logged → List ℕ
both_ways c d = part (replay 1 (c ∷ d ∷ [])) 9 4 ++ part (replay 1 (d ∷ c ∷ [])) 9 4

-- the same of changes without, and with, another before them
abbrev with_and_without : Logged → List Logged → List ℕ
with_and_without c ds = part (replay 1 (c ∷ ds)) 9 4 ++ part (replay 1 ds) 9 4

-- in words: the same bytes both times, and other ones
abbrev alike : List ℕ → List ℕ
alike xs = xs ++ xs

abbrev unlike : List ℕ → List ℕ → List ℕ
unlike xs ys = xs ++ ys

abbrev swap_rows : List Row
swap_rows =
    row "order: puts on ranges apart change places"
    (both_ways (put 9 (1 ∷ 2 ∷ [])) (put 11 (3 ∷ [])))
    (alike (1 ∷ 2 ∷ 3 ∷ 0 ∷ []))
    ∷ row "order: puts that overlap do not"
    (both_ways (put 9 (1 ∷ 2 ∷ [])) (put 10 (3 ∷ [])))
    (unlike (1 ∷ 3 ∷ 0 ∷ 0 ∷ []) (1 ∷ 2 ∷ 0 ∷ 0 ∷ []))
    ∷ row "order: a slide and a put behind it do not, on separate ranges either"
    (both_ways (slide 0 (0x41 ∷ [])) (put 10 (0x42 ∷ [])))
    (unlike (0 ∷ 0x42 ∷ 0 ∷ 0 ∷ []) (0 ∷ 0 ∷ 0x42 ∷ 0 ∷ []))
    ∷ row "order: a put that ends where a slide starts does"
    (both_ways (put 9 (0x42 ∷ [])) (slide 10 (0x41 ∷ [])))
    (alike (0x42 ∷ 0x41 ∷ 0 ∷ 0 ∷ []))
    ∷ row "order: a put that lacks one of its bytes does not"
    (both_ways (logged 1 (Put 0 2) (1 ∷ [])) (put 10 (2 ∷ [])))
    (unlike (0 ∷ 2 ∷ 0 ∷ 0 ∷ []) (2 ∷ 0 ∷ 0 ∷ 0 ∷ []))
    ∷ row "order: puts without room in the body do not"
    (drop 244 (replay 1 (put 300 (1 ∷ []) ∷ put 244 (2 ∷ []) ∷ []))
    ++ (0xFF ∷ drop 244 (replay 1 (put 244 (2 ∷ []) ∷ put 300 (1 ∷ []) ∷ []))))
    (2 ∷ 0xFF ∷ 2 ∷ 1 ∷ [])
    ∷ row "order: puts on a body of another length do not"
    (replay_on 1 (put 3 (1 ∷ []) ∷ put 5 (2 ∷ []) ∷ []) [] ++ replay_on 1 (put 5 (2 ∷ []) ∷ put 3 (1 ∷ []) ∷ []) [])
    (unlike (1 ∷ 2 ∷ []) (2 ∷ 1 ∷ []))
    ∷ row "order: changes of two pages change places, their numbers with them"
    (let c = slide 9 (1 ∷ []) in
    let d = logged 2 (Format 5) [] in
    (both_ways c d ++ (part (replay 2 (c ∷ d ∷ [])) 9 1 ++ part (replay 2 (d ∷ c ∷ [])) 9 1))
    ++ (last_place 1 (c ∷ d ∷ []) ∷ last_place 2 (c ∷ d ∷ []) ∷ last_place 1 (d ∷ c ∷ []) ∷ last_place 2 (d ∷ c ∷ []) ∷ []))
    (alike (1 ∷ 0 ∷ 0 ∷ 0 ∷ []) ++ (alike (5 ∷ []) ++ unlike (1 ∷ 2 ∷ []) (2 ∷ 1 ∷ [])))
    ∷ []

abbrev cover_rows : List Row
cover_rows =
    row "covered: a put that the next one covers is needless, and its number falls away"
    (let c = put 10 (1 ∷ []) in
    let d = put 9 (2 ∷ 3 ∷ 4 ∷ []) in
    with_and_without c (d ∷ []) ++ (last_place 1 (c ∷ d ∷ []) ∷ last_place 1 (d ∷ []) ∷ []))
    (alike (2 ∷ 3 ∷ 4 ∷ 0 ∷ []) ++ (2 ∷ 1 ∷ []))
    ∷ row "covered: changes of other pages may stand between"
    (with_and_without (put 10 (1 ∷ [])) (logged 2 (Slide 0 1) (7 ∷ []) ∷ put 10 (2 ∷ []) ∷ []))
    (alike (0 ∷ 2 ∷ 0 ∷ 0 ∷ []))
    ∷ row "covered: a slide of the page may not"
    (with_and_without (put 10 (1 ∷ [])) (slide 0 (7 ∷ []) ∷ put 10 (2 ∷ []) ∷ []))
    (unlike (0 ∷ 2 ∷ 1 ∷ 0 ∷ []) (0 ∷ 2 ∷ 0 ∷ 0 ∷ []))
    ∷ row "covered: a byte of it that is not covered stays"
    (with_and_without (put 9 (1 ∷ 1 ∷ [])) (put 9 (2 ∷ []) ∷ []))
    (unlike (2 ∷ 1 ∷ 0 ∷ 0 ∷ []) (2 ∷ 0 ∷ 0 ∷ 0 ∷ []))
    ∷ row "covered: a put that lacks one of its bytes shortens the body"
    (length (replay 1 (logged 1 (Put 0 2) (1 ∷ []) ∷ put 0 (2 ∷ 2 ∷ []) ∷ []))
    ∷ length (replay 1 (put 0 (2 ∷ 2 ∷ []) ∷ [])) ∷ [])
    (243 ∷ 244 ∷ [])
    ∷ row "covered: a put without room in the body stays"
    (drop 244 (replay 1 (put 300 (1 ∷ []) ∷ put 300 (2 ∷ []) ∷ []))
    ++ (0xFF ∷ drop 244 (replay 1 (put 300 (2 ∷ []) ∷ []))))
    (1 ∷ 2 ∷ 0xFF ∷ 2 ∷ [])
    ∷ row "joined: two lists after one another"
    (let a = put 9 (1 ∷ 2 ∷ []) ∷ slide 9 (3 ∷ []) ∷ [] in
    let b = put 10 (4 ∷ []) ∷ [] in
    part (replay 1 (a ++ b)) 9 4 ++ part (replay_on 1 b (replay_on 1 a zero_body)) 9 4)
    (alike (3 ∷ 4 ∷ 2 ∷ 0 ∷ []))
    ∷ []

unfoldable pub order_rows : List Row
order_rows = swap_rows ++ cover_rows

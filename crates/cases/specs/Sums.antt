-- Rows on the sums of images: the byte sum's known values, which sum each heading takes, and what either sum lets pass.
use Rattle.std.specs.Prelude.{ℕ, List, [], ◌∷◌, ◌++◌, map, replicate, take}
use Rattle.model.specs.Checksum.{checksum, byte_sum, with_sum, seal_image, image_sealed}
use Rattle.model.specs.Geometry.{page_at}
use Rattle.model.specs.Item.{frame_image, valid_image}
use Rattle.model.specs.Restart.{inspect_of}
use Rattle.cases.specs.Calls.{begin, force, write}
use Rattle.model.specs.History.{restart, perform, damage, allowed}
use Rattle.model.specs.Detection.{with_word}
use Rattle.model.specs.declared.{geometry.Geometry.Geometry, geometry.Heading.Heading}
use Rattle.model.specs.declared.geometry.Heading.TheVariants.{First, Second}
use Rattle.cases.specs.Rows.{Row, row}
use Rattle.cases.specs.Words.{bit, yes, no}
use Rattle.cases.specs.Build.{small_under, image_under, memory, reach_under}

-- an image of page 1 under each sum, its body zeros
abbrev by_words : List ℕ
by_words = with_sum checksum (take 252 (frame_image 1 1 (replicate 244 0)))

abbrev by_byte_sum : List ℕ
by_byte_sum = with_sum byte_sum (take 252 (frame_image 1 1 (replicate 244 0)))

-- a volume's geometry under the first heading, the second, and one that takes either sum
abbrev tags : List Geometry
tags = map (λ t. record { tag = t; pages = 2; slots = 1; records = 4; notes = 4 }) (0x56 ∷ 0x32 ∷ 0x43 ∷ [])

abbrev passes : List ℕ → List ℕ
passes x = map (λ g. bit (image_sealed g x)) tags

-- whether damage that erases a word of page 1's image, stored by a Write, may come in a history
abbrev may_erase : Heading → ℕ
may_erase h =
    let w = reach_under h 2 1 4 4
    (restart (memory 1) ∷ perform (begin 1 1 0) ∷ perform force ∷ perform (write 1) ∷ []) in
    bit (allowed w (damage (page_at 1) (with_word (image_under h 1 1 (replicate 244 0)) 8 0xFF 0xFF)))

unfoldable pub sum_rows : List Row
sum_rows =
    row "byte sum: known values"
    (byte_sum (1 ∷ 0 ∷ 2 ∷ 0 ∷ []) ∷ byte_sum (replicate 252 0) ∷ byte_sum (1 ∷ 2 ∷ 3 ∷ []) ∷ [])
    (786436 ∷ 16515073 ∷ 851975 ∷ [])
    ∷ row "byte sum: both sums modulo 65,535" (byte_sum (replicate 257 0xFF) ∷ byte_sum (replicate 600 0xFF) ∷ [])
    (16842753 ∷ 2429113771 ∷ [])
    ∷ row "image: the sum that the heading names" (passes by_words ++ passes by_byte_sum)
    (yes ∷ no ∷ yes ∷ no ∷ yes ∷ yes ∷ [])
    ∷ row "image: the sum that is set"
    (map (λ g. bit (image_sealed (small_under First) (seal_image g by_words))) tags
    ++ map (λ g. bit (image_sealed (small_under Second) (seal_image g by_words))) tags)
    (yes ∷ no ∷ no ∷ no ∷ yes ∷ yes ∷ [])
    ∷ row "image: zeros and erased flash fail both sums"
    (passes (replicate 256 0) ++ passes (replicate 256 0xFF)) (replicate 6 no)
    ∷ row "one word changed: the first heading misses 0000 and FFFF"
    (passes (with_word by_words 8 0xFF 0xFF)
    ++ (passes (with_word by_words 8 0xFF 0xFE) ++ passes (with_word (with_word by_words 8 0xFF 0xFF) 8 0 1)))
    (yes ∷ no ∷ yes ∷ no ∷ no ∷ no ∷ no ∷ no ∷ no ∷ [])
    ∷ row "one word changed: the second heading catches it in number, zeros, page lsn and body"
    (map (λ at. bit (image_sealed (small_under Second) (with_word by_byte_sum at 0xFF 0xFF))) (0 ∷ 2 ∷ 4 ∷ 6 ∷ 9 ∷ 250 ∷ []))
    (replicate 6 no)
    ∷ row "two words changed: bytes by +1, -2, +1 defeat the byte sum"
    (let x = with_sum byte_sum (take 252 (frame_image 1 1 (replicate 244 7))) in
    passes (with_word (with_word x 8 8 5) 10 8 7))
    (no ∷ yes ∷ yes ∷ [])
    ∷ row "damage: an erased word under each heading" (may_erase First ∷ may_erase Second ∷ []) (no ∷ yes ∷ [])
    ∷ row "inspect: the buffer has the heading's sum"
    (map (λ h. let w = reach_under h 2 1 4 4 (restart (memory 1) ∷ perform (begin 1 1 0) ∷ perform force ∷ []) in
    let x = (inspect_of w.volume 1 (replicate 256 0)).buffer in
    bit (valid_image (small_under h) 1 x)) (First ∷ Second ∷ []))
    (yes ∷ yes ∷ [])
    ∷ []

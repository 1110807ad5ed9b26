-- When an image passes in its place, which images pass only the old sum, and the first of them. States document 01, "An
-- image passes if .. (in a slot outside the index, any page 1 to P)", and of document 02, §4: "One call restamps the
-- first image, pages before slots, that passes only the old sum; a failing image is passed over."
use Rattle.std.specs.Prelude.{ℕ, zero, suc, ◌+◌, ◌-◌, Bool, true, false, cond, ◌&&◌, ◌||◌, not, List, [], ◌∷◌, eqb, ltb}
use Rattle.model.specs.Tables.{every, within}
use Rattle.model.specs.Geometry.{tag_of, with_tag, Place, page_at, slot_at, record_at, note_at, item}
use Rattle.model.specs.Item.{valid_image, valid_somewhere}
use Rattle.model.specs.Index.{slot_used}
use Rattle.model.specs.Types.{Geometry, First, Second, Entry}

-- some page whose backup the index gives to slot b is the page that the image is valid as
unfoldable pub valid_as_noted : Geometry → ℕ → List ℕ → ℕ → List Entry → Bool
valid_as_noted g b xs p [] = false
valid_as_noted g b xs p (e ∷ es) = (eqb e.slot b && valid_image g (suc p) xs) || valid_as_noted g b xs (suc p) es

-- an image passes in its place: a page's own as that page's; in a slot that the index gives a page, as that page's; in
-- any other slot, as any page's
abbrev pub passes_at : Geometry → List Entry → Place → List ℕ → Bool
passes_at g index (page_at p) xs = valid_image g p xs
passes_at g index (slot_at b) xs = cond (slot_used b index) (valid_as_noted g b xs 0 index) (valid_somewhere g xs)
passes_at g index (record_at n) xs = true
passes_at g index (note_at n) xs = true

-- the place is that of an image of the volume
abbrev pub is_image : Geometry → Place → Bool
is_image g (page_at p) = within g.pages p
is_image g (slot_at b) = within g.slots b
is_image g (record_at n) = false
is_image g (note_at n) = false

-- ---- by one of the two sums

-- the geometry whose images are judged by words alone, as under the first heading, and by bytes alone, as under the
-- second
abbrev pub by_words : Geometry → Geometry
by_words g = with_tag g (tag_of First)

abbrev pub by_byte_sum : Geometry → Geometry
by_byte_sum g = with_tag g (tag_of Second)

-- the image "passes only the old sum": in its place by words, and not by bytes
unfoldable pub only_old : Geometry → List Entry → Place → List ℕ → Bool
only_old g index at xs = passes_at (by_words g) index at xs && not (passes_at (by_byte_sum g) index at xs)

-- the image is valid as page p's by bytes alone, and not by words
abbrev pub only_new : Geometry → ℕ → List ℕ → Bool
only_new g p xs = valid_image (by_byte_sum g) p xs && not (valid_image (by_words g) p xs)

-- ---- the images in order, "pages before slots"

abbrev pub image_count : Geometry → ℕ
image_count g = g.pages + g.slots

-- the place of image i, counted from 0
abbrev pub image_place : Geometry → ℕ → Place
image_place g i = cond (ltb i g.pages) (page_at (suc i)) (slot_at (suc (i - g.pages)))

-- image i passes only the old sum
abbrev pub old_at : Geometry → List ℕ → List Entry → ℕ → Bool
old_at g v index i = only_old g index (image_place g i) (item g v (image_place g i))

-- the first number from i on of which p holds; where none of the next n does, i + n
unfoldable pub first_from : ℕ → (ℕ → Bool) → ℕ → ℕ
first_from zero p i = i
first_from (suc n) p i = let rest = first_from n p (suc i) in cond (p i) i rest

-- "the first image .. that passes only the old sum"; the count of images where there is none
unfoldable pub first_old : Geometry → List ℕ → List Entry → ℕ
first_old g v index = first_from (image_count g) (old_at g v index) 0

-- 20: "such an image is left"
unfoldable pub old_left : Geometry → List ℕ → List Entry → Bool
old_left g v index = not (every (image_count g) (λ i. not (old_at g v index i)))

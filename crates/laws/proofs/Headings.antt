-- Laws of the heading: what a heading that is known says of the tag, and a volume whose heading is stored anew: it has the same length,
-- counts and items, the new tag, and is valid under each known tag.
use mathlib.Core.Path.{◌≡◌, refl, sym, ap, ◌∙◌}
use mathlib.Core.Logic.{◌⊎◌, inl, inr, ⊎_elim}
use mathlib.Core.Bool.{true, false, ◌||◌}
use mathlib.Core.List.{List, [], ◌∷◌}
use Prim.Native.Nat.{ℕ, zero, suc, ◌+◌, ◌≤◌, ◌<◌}
use native.Mathlib.Nat.{zero-add}
use native.Mathlib.Omega.{arith}
use native.Mathlib.Decide.{dec_lt}
use lib.Dec.{eqb, lit<}
use lib.ListN.{length, get_or}
use borrow.Author.Tests.{eqb-true, eq-eqb}
use Rattle.laws.proofs.Tables.{all-holds, and_left, and_right, or_cases, true-not-false}
use Rattle.laws.proofs.Parts.{splice-length, splice_at, splice-after, part-after}
use Rattle.laws.proofs.Places.{In, place_after, field-of-part, valid-facts, same-counts, same-four}
use Rattle.model.specs.Bytes.{le, field, byte_at, part, splice, starts_with}
use Rattle.model.specs.Geometry.{tag_of, carry_tag, magic_of, headed, known_magic, slot_count_at, record_count_at, note_count_at}
use Rattle.model.specs.Geometry.{length_for, pages_of, slots_of, records_of, notes_of, geometry_of, with_tag, valid_counts}
use Rattle.model.specs.Geometry.{valid_volume, Place, page_at, slot_at, record_at, note_at, item, store_heading, ring}
use Rattle.model.specs.Demand1.{DiffersInTag}
use Rattle.model.specs.declared.geometry.Geometry.{Geometry}
use Rattle.model.specs.declared.geometry.Heading.TheVariants.{First, Second}

-- ---- a heading and its tag

-- the bytes that a list starts with
starts-at : (m v : List ℕ) → starts_with m v ≡ true → (i : ℕ) → i < length m → get_or v i 0 ≡ get_or m i 0
unfolding starts_with
starts-at [] v h i l = absurd (omega arith)
starts-at (x ∷ m) [] h i l = absurd (true-not-false h refl)
starts-at (x ∷ m) (y ∷ v) h zero l = sym (eqb-true x y (and_left (eqb x y) (starts_with m v) h))
starts-at (x ∷ m) (y ∷ v) h (suc i) l = starts-at m v (and_right (eqb x y) (starts_with m v) h) i (omega arith)

pub headed-tag : (tag : ℕ) (v : List ℕ) → headed tag v ≡ true → (geometry_of v).tag ≡ tag
unfolding geometry_of
headed-tag tag v h = starts-at (magic_of tag) v h 3 (lit< tt)

-- the three headings that are known
abbrev pub Known : List ℕ → Type 0
Known v = (headed (tag_of First) v ≡ true) ⊎ ((headed (tag_of Second) v ≡ true) ⊎ (headed carry_tag v ≡ true))

pub known-cases : (v : List ℕ) → known_magic v ≡ true → Known v
known-cases v h = ⊎_elim inl (λ t. inr (or_cases (headed (tag_of Second) v) (headed carry_tag v) t))
    (or_cases (headed (tag_of First) v) (headed (tag_of Second) v || headed carry_tag v) h)

-- a known heading is that of its tag
pub tag-headed : (tag : ℕ) (v : List ℕ) → valid_volume v ≡ true → (geometry_of v).tag ≡ tag → headed tag v ≡ true
tag-headed tag v ok e = ⊎_elim (by (tag_of First)) (⊎_elim (by (tag_of Second)) (by carry_tag)) (known-cases v (valid-facts v ok).heading)
  where
    by : (t : ℕ) → headed t v ≡ true → headed tag v ≡ true
    by t h = let q : t ≡ tag = sym (headed-tag t v h) ∙ e in rw q at h

-- the three bytes before the tag
three : (t i : ℕ) → i < 3 → get_or (magic_of t) i 0 ≡ get_or (magic_of 0) i 0
three t zero l = refl
three t (suc zero) l = refl
three t (suc (suc zero)) l = refl
three t (suc (suc (suc i))) l = absurd (omega arith)

known-front : (v : List ℕ) → known_magic v ≡ true → (i : ℕ) → i < 3 → get_or v i 0 ≡ get_or (magic_of 0) i 0
known-front v h i l = ⊎_elim (by (tag_of First)) (⊎_elim (by (tag_of Second)) (by carry_tag)) (known-cases v h)
  where
    by : (t : ℕ) → headed t v ≡ true → get_or v i 0 ≡ get_or (magic_of 0) i 0
    by t k = starts-at (magic_of t) v k i (omega arith) ∙ three t i l

-- ---- items under another tag

pub item-tag : (g : Geometry) (tag : ℕ) (v : List ℕ) (at : Place) → item (with_tag g tag) v at ≡ item g v at
unfolding item
item-tag g tag v (page_at i) = refl
item-tag g tag v (slot_at i) = refl
item-tag g tag v (record_at i) = refl
item-tag g tag v (note_at i) = refl

-- a tag other than the second is no ring's
pub no-ring : (g : Geometry) → eqb g.tag (tag_of Second) ≡ false → ring g ≡ false
no-ring g e = rw e

-- ---- a heading stored

module _ (v : List ℕ) (ok : valid_volume v ≡ true) (tag : ℕ) where
  abbrev after : List ℕ
  after = store_heading v tag

  fits : 0 + length (magic_of tag) ≤ length v
  fits = omega (arith, (valid-facts v ok).size)

  pub heading-length : length (store_heading v tag) ≡ length v
  unfolding store_heading
  heading-length = splice-length v 0 (magic_of tag) fits

  -- all behind the heading reads as before
  pub heading-part : (a n : ℕ) → 4 ≤ a → part (store_heading v tag) a n ≡ part v a n
  unfolding store_heading
  heading-part a n h = part-after v 0 (magic_of tag) fits a n h

  pub item-heading : (g : Geometry) (at : Place) → In g at → item g (store_heading v tag) at ≡ item g v at
  unfolding item
  item-heading g at h = heading-part _ _ (omega (arith, place_after g at h))

  field-heading : (b : ℕ) → 4 ≤ b → field 4 b (store_heading v tag) ≡ field 4 b v
  field-heading b h = field-of-part 4 b after ∙ ap (le 4) (heading-part b 4 h) ∙ sym (field-of-part 4 b v)

  counts-heading : (pages_of after ≡ pages_of v) × (slots_of after ≡ slots_of v) × (records_of after ≡ records_of v) × (notes_of after ≡ notes_of v)
  counts-heading =
      same-counts v after (field-heading 4 (omega arith)) (field-heading (slot_count_at (pages_of v)) (omega arith))
      (field-heading (record_count_at (pages_of v) (slots_of v)) (omega arith))
      (field-heading (note_count_at (pages_of v) (slots_of v) (records_of v)) (omega arith))

  tag-heading : byte_at (store_heading v tag) 3 ≡ tag
  unfolding store_heading
  tag-heading = splice_at v 0 (magic_of tag) fits 3 (lit< tt)

  pub geometry-heading : geometry_of (store_heading v tag) ≡ with_tag (geometry_of v) tag
  unfolding geometry_of
  geometry-heading =
      let c = counts-heading in
      λ i. record { tag = tag-heading i; pages = c.0 i; slots = c.1 i; records = c.2 i; notes = c.3 i }

  counted : length v ≡ length_for (pages_of v) (slots_of v) (records_of v) (notes_of v)
  unfolding geometry_of
  counted = (valid-facts v ok).size

  magic-known : (tag ≡ carry_tag) ⊎ (tag ≡ tag_of Second) → known_magic (store_heading v tag) ≡ true
  unfolding store_heading splice starts_with
  magic-known (inl e) = rw e refl
  magic-known (inr e) = rw e refl

  pub valid-heading : (tag ≡ carry_tag) ⊎ (tag ≡ tag_of Second) → valid_volume (store_heading v tag) ≡ true
  unfolding valid_volume
  valid-heading known =
      let c = counts-heading in
      let k : valid_counts (pages_of after) (slots_of after) (records_of after) (notes_of after) ≡ true =
      same-four valid_counts c.0 c.1 c.2 c.3 ∙ (valid-facts v ok).counts in
      let z : eqb (length after) (length_for (pages_of after) (slots_of after) (records_of after) (notes_of after)) ≡ true =
      same-four (λ p b l k. eqb (length after) (length_for p b l k)) c.0 c.1 c.2 c.3 ∙ eq-eqb _ _ (heading-length ∙ counted) in
      all-holds (known_magic after ∷ valid_counts (pages_of after) (slots_of after) (records_of after) (notes_of after)
      ∷ eqb (length after) (length_for (pages_of after) (slots_of after) (records_of after) (notes_of after)) ∷ [])
      (magic-known known, (k, (z, tt)))

  -- only the tag differs
  front : (i : ℕ) → i < 3 → get_or (store_heading v tag) i 0 ≡ get_or v i 0
  unfolding store_heading
  front i l =
      let e : get_or (splice v 0 (magic_of tag)) i 0 ≡ get_or (magic_of tag) i 0 =
      rw (zero-add i) at (splice_at v 0 (magic_of tag) fits i (omega arith)) in
      e ∙ (three tag i l ∙ sym (known-front v (valid-facts v ok).heading i l))

  behind : (i : ℕ) → 4 ≤ i → get_or (store_heading v tag) i 0 ≡ get_or v i 0
  unfolding store_heading
  behind i l = splice-after v 0 (magic_of tag) fits i l

  pub differs-in-tag : DiffersInTag v (store_heading v tag)
  differs-in-tag =
      record { size = heading-length; outside = λ i ne. elim (dec_lt i 3) [ yes y ↦ front i y | no z ↦ behind i (omega arith) ] }

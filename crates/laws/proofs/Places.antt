-- Laws of the places of a volume: an item that was stored is read back, every other place reads as before (one law, by the places' starts),
-- and a store changes neither geometry nor validity.
use mathlib.Core.Path.{◌≡◌, refl, sym, ap, ◌∙◌}
use mathlib.Core.Logic.{◌≢◌, ◌⊎◌, inl, inr}
use mathlib.Core.Bool.{Bool, true}
use mathlib.Core.List.{List, [], ◌∷◌}
use Prim.Native.Nat.{ℕ, ◌+◌, ◌≤◌}
use native.Mathlib.Omega.{arith}
use native.Mathlib.Decide.{dec_lt}
use lib.Dec.{leb, eqb, lit<}
use lib.ListN.{length, take, drop, get_or}
use borrow.Author.Tests.{leb-true, eqb-true, eq-eqb}
use Rattle.laws.proofs.Tables.{all-at, all-holds, within-bounds, within-holds}
use Rattle.laws.proofs.Parts.{part_at, part_length, splice-length, part-splice, part-before, part-after}
use Rattle.laws.proofs.Fields.{le-take}
use Rattle.model.specs.Tables.{within}
use Rattle.model.specs.Bytes.{le, field, byte_at, part, splice, starts_with}
use Rattle.model.specs.Geometry.{magic, magic_of, carry_tag, known_magic, slot_count_at, record_count_at, note_count_at}
use Rattle.model.specs.Geometry.{length_for, pages_of, slots_of, records_of, notes_of, geometry_of, valid_counts, valid_volume}
use Rattle.model.specs.Geometry.{Place, page_at, slot_at, record_at, note_at, item_of, width, start, item, store}
use Rattle.model.specs.declared.geometry.Geometry.{Geometry}
use Rattle.model.specs.declared.geometry.Heading.TheVariants.{First, Second}

-- the length of a volume of this geometry
abbrev pub total : Geometry → ℕ
total g = length_for g.pages g.slots g.records g.notes

-- the place is within a volume of this geometry
abbrev pub In : Geometry → Place → Type 0
In g (page_at i) = (1 ≤ i) × (i ≤ g.pages)
In g (slot_at i) = (1 ≤ i) × (i ≤ g.slots)
In g (record_at i) = (1 ≤ i) × (i ≤ g.records)
In g (note_at i) = (1 ≤ i) × (i ≤ g.notes)

-- which is what `item_of` tests
pub in_item : (g : Geometry) (at : Place) → item_of g at ≡ true → In g at
in_item g (page_at i) t = within-bounds g.pages i t
in_item g (slot_at i) t = within-bounds g.slots i t
in_item g (record_at i) t = within-bounds g.records i t
in_item g (note_at i) t = within-bounds g.notes i t

pub item_in : (g : Geometry) (at : Place) → In g at → item_of g at ≡ true
item_in g (page_at i) h = within-holds g.pages i h.0 h.1
item_in g (slot_at i) h = within-holds g.slots i h.0 h.1
item_in g (record_at i) h = within-holds g.records i h.0 h.1
item_in g (note_at i) h = within-holds g.notes i h.0 h.1

-- two places that start differently do not overlap
pub apart : (g : Geometry) (p q : Place) → In g p → In g q → start g q ≢ start g p
    → (start g q + width q ≤ start g p) ⊎ (start g p + width p ≤ start g q)
apart g (page_at i) (page_at j) h k ne = elim (dec_lt j i) [ yes l ↦ inl (omega arith) | no l ↦ inr (omega arith) ]
apart g (page_at i) (slot_at j) h k ne = inr (omega arith)
apart g (page_at i) (record_at j) h k ne = inr (omega arith)
apart g (page_at i) (note_at j) h k ne = inr (omega arith)
apart g (slot_at i) (page_at j) h k ne = inl (omega arith)
apart g (slot_at i) (slot_at j) h k ne = elim (dec_lt j i) [ yes l ↦ inl (omega arith) | no l ↦ inr (omega arith) ]
apart g (slot_at i) (record_at j) h k ne = inr (omega arith)
apart g (slot_at i) (note_at j) h k ne = inr (omega arith)
apart g (record_at i) (page_at j) h k ne = inl (omega arith)
apart g (record_at i) (slot_at j) h k ne = inl (omega arith)
apart g (record_at i) (record_at j) h k ne = elim (dec_lt j i) [ yes l ↦ inl (omega arith) | no l ↦ inr (omega arith) ]
apart g (record_at i) (note_at j) h k ne = inr (omega arith)
apart g (note_at i) (page_at j) h k ne = inl (omega arith)
apart g (note_at i) (slot_at j) h k ne = inl (omega arith)
apart g (note_at i) (record_at j) h k ne = inl (omega arith)
apart g (note_at i) (note_at j) h k ne = elim (dec_lt j i) [ yes l ↦ inl (omega arith) | no l ↦ inr (omega arith) ]

-- a part that lies apart from the bytes written reads as before
pub part_apart : (v : List ℕ) (a : ℕ) (xs : List ℕ) (b w n : ℕ) → length xs ≡ n → a + n ≤ length v → (b + w ≤ a) ⊎ (a + n ≤ b)
    → part (splice v a xs) b w ≡ part v b w
part_apart v a xs b w n e f (inl h) = part-before v a xs (omega arith) b w h
part_apart v a xs b w n e f (inr h) = part-after v a xs (omega arith) b w (omega arith)

module _ (g : Geometry) (v : List ℕ) (size : length v ≡ total g) where
  -- a place ends within the volume
  pub place-fits : (at : Place) → In g at → start g at + width at ≤ length v
  place-fits (page_at i) h = omega arith
  place-fits (slot_at i) h = omega arith
  place-fits (record_at i) h = omega arith
  place-fits (note_at i) h = omega arith

  pub item-length : (at : Place) → In g at → length (item g v at) ≡ width at
  unfolding item
  item-length at h = part_length v (start g at) (width at) (place-fits at h)

  module _ (at : Place) (xs : List ℕ) (h : In g at) (e : length xs ≡ width at) where
    stored-fits : start g at + length xs ≤ length v
    stored-fits = omega (arith, place-fits at h)

    pub store_length : length (store g v at xs) ≡ length v
    unfolding store
    store_length = splice-length v (start g at) xs stored-fits

    -- what was stored is read back
    pub item-store-same : item g (store g v at xs) at ≡ xs
    unfolding item store
    item-store-same = rw (← e) (part-splice v (start g at) xs stored-fits)

    -- every other place reads as before
    pub item-store-other : (q : Place) → In g q → start g q ≢ start g at → item g (store g v at xs) q ≡ item g v q
    unfolding item store
    item-store-other q k ne = part_apart v (start g at) xs (start g q) (width q) (width at) e (place-fits at h) (apart g at q h k ne)

-- ---- the heading

-- a field is that of the part it fills
pub field-of-part : (n b : ℕ) (v : List ℕ) → field n b v ≡ le n (part v b n)
unfolding part
field-of-part n b v = sym (le-take n n (drop b v) (omega arith))

-- a valid volume: its magic, its counts and its length
pub record Valid (v : List ℕ) : Type 0 where
  pub heading : known_magic v ≡ true
  pub counts : valid_counts (pages_of v) (slots_of v) (records_of v) (notes_of v) ≡ true
  pub p-low : 1 ≤ (geometry_of v).pages
  pub p-high : (geometry_of v).pages ≤ 64
  pub b-high : (geometry_of v).slots ≤ 128
  pub l-low : 1 ≤ (geometry_of v).records
  pub l-high : (geometry_of v).records ≤ 1024
  pub n-high : (geometry_of v).notes ≤ 1024
  pub size : length v ≡ total (geometry_of v)

pub record Counts (p b l n : ℕ) : Type 0 where
  pub p-low : 1 ≤ p
  pub p-high : p ≤ 64
  pub b-high : b ≤ 128
  pub l-low : 1 ≤ l
  pub l-high : l ≤ 1024
  pub n-high : n ≤ 1024

pub counts-bounds : (p b l n : ℕ) → valid_counts p b l n ≡ true → Counts p b l n
unfolding valid_counts
counts-bounds p b l n h =
    let tests = within 64 p ∷ leb b 128 ∷ within 1024 l ∷ leb n 1024 ∷ [] in
    let wp = within-bounds 64 p (all-at tests 0 h) in
    let wl = within-bounds 1024 l (all-at tests 2 h) in
    record {
      p-low = wp.0;
      p-high = wp.1;
      b-high = leb-true _ _ (all-at tests 1 h);
      l-low = wl.0;
      l-high = wl.1;
      n-high = leb-true _ _ (all-at tests 3 h);
    }

pub valid-facts : (v : List ℕ) → valid_volume v ≡ true → Valid v
unfolding valid_volume geometry_of
valid-facts v h =
    let tests = known_magic v ∷ valid_counts (pages_of v) (slots_of v) (records_of v) (notes_of v)
    ∷ eqb (length v) (length_for (pages_of v) (slots_of v) (records_of v) (notes_of v)) ∷ [] in
    let c = counts-bounds (pages_of v) (slots_of v) (records_of v) (notes_of v) (all-at tests 1 h) in
    record {
      heading = all-at tests 0 h;
      counts = all-at tests 1 h;
      p-low = c.p-low;
      p-high = c.p-high;
      b-high = c.b-high;
      l-low = c.l-low;
      l-high = c.l-high;
      n-high = c.n-high;
      size = eqb-true _ _ (all-at tests 2 h);
    }

-- ---- a store leaves the heading

-- two volumes with the same count fields have the same counts
pub same-counts : (v w : List ℕ) → field 4 4 w ≡ field 4 4 v
    → field 4 (slot_count_at (pages_of v)) w ≡ field 4 (slot_count_at (pages_of v)) v
    → field 4 (record_count_at (pages_of v) (slots_of v)) w ≡ field 4 (record_count_at (pages_of v) (slots_of v)) v
    → field 4 (note_count_at (pages_of v) (slots_of v) (records_of v)) w ≡ field 4 (note_count_at (pages_of v) (slots_of v) (records_of v)) v
    → (pages_of w ≡ pages_of v) × (slots_of w ≡ slots_of v) × (records_of w ≡ records_of v) × (notes_of w ≡ notes_of v)
same-counts v w ep eb el en =
    let b : slots_of w ≡ slots_of v = ap (λ (k : ℕ). field 4 (slot_count_at k) w) ep ∙ eb in
    let l : records_of w ≡ records_of v = ap (λ (k : ℕ). field 4 (record_count_at k (slots_of w)) w) ep
    ∙ ap (λ (k : ℕ). field 4 (record_count_at (pages_of v) k) w) b ∙ el in
    let n : notes_of w ≡ notes_of v =
    ap (λ (k : ℕ). field 4 (note_count_at k (slots_of w) (records_of w)) w) ep
    ∙ ap (λ (k : ℕ). field 4 (note_count_at (pages_of v) k (records_of w)) w) b
    ∙ ap (λ (k : ℕ). field 4 (note_count_at (pages_of v) (slots_of v) k) w) l ∙ en in
    (ep, b, l, n)

-- the first four bytes decide the magic
starts-take : (m xs ys : List ℕ) → take (length m) xs ≡ take (length m) ys → starts_with m xs ≡ starts_with m ys
unfolding starts_with
starts-take [] xs ys e = refl
starts-take (x ∷ m) [] [] e = refl
starts-take (x ∷ m) [] (y ∷ ys) e = let z : ◌≡◌ {A = ℕ} 0 1 = cc in absurd (omega arith)
starts-take (x ∷ m) (y ∷ xs) [] e = let z : ◌≡◌ {A = ℕ} 0 1 = cc in absurd (omega arith)
starts-take (x ∷ m) (y ∷ xs) (z ∷ ys) e =
    let p : y ≡ z = cc in
    let q : take (length m) xs ≡ take (length m) ys = cc in
    rw (p, starts-take m xs ys q)

-- a test of four numbers that are equal
pub same-four : (t : ℕ → ℕ → ℕ → ℕ → Bool) {p b l n p' b' l' n' : ℕ} → p ≡ p' → b ≡ b' → l ≡ l' → n ≡ n' → t p b l n ≡ t p' b' l' n'
same-four t ep eb el en = cc

-- an item's place lies apart from the heading's fields
pub place_after : (g : Geometry) (at : Place) → In g at → 8 ≤ start g at
place_after g (page_at i) h = omega arith
place_after g (slot_at i) h = omega arith
place_after g (record_at i) h = omega arith
place_after g (note_at i) h = omega arith

clear-slots : (g : Geometry) (at : Place) → In g at → (slot_count_at g.pages + 4 ≤ start g at)
    ⊎ (start g at + width at ≤ slot_count_at g.pages)
clear-slots g (page_at i) h = inr (omega arith)
clear-slots g (slot_at i) h = inl (omega arith)
clear-slots g (record_at i) h = inl (omega arith)
clear-slots g (note_at i) h = inl (omega arith)

clear-records : (g : Geometry) (at : Place) → In g at
    → (record_count_at g.pages g.slots + 4 ≤ start g at) ⊎ (start g at + width at ≤ record_count_at g.pages g.slots)
clear-records g (page_at i) h = inr (omega arith)
clear-records g (slot_at i) h = inr (omega arith)
clear-records g (record_at i) h = inl (omega arith)
clear-records g (note_at i) h = inl (omega arith)

clear-notes : (g : Geometry) (at : Place) → In g at
    → (note_count_at g.pages g.slots g.records + 4 ≤ start g at)
    ⊎ (start g at + width at ≤ note_count_at g.pages g.slots g.records)
clear-notes g (page_at i) h = inr (omega arith)
clear-notes g (slot_at i) h = inr (omega arith)
clear-notes g (record_at i) h = inr (omega arith)
clear-notes g (note_at i) h = inl (omega arith)

module _ (v : List ℕ) (ok : valid_volume v ≡ true) (at : Place) (xs : List ℕ) (h : In (geometry_of v) at) (e : length xs ≡ width at) where
  after : List ℕ
  after = store (geometry_of v) v at xs

  size : length v ≡ total (geometry_of v)
  size = (valid-facts v ok).size

  -- a field apart from the item
  field-same : (b : ℕ) → (b + 4 ≤ start (geometry_of v) at) ⊎ (start (geometry_of v) at + width at ≤ b)
      → field 4 b after ≡ field 4 b v
  unfolding after store
  field-same b d =
      field-of-part 4 b (splice v (start (geometry_of v) at) xs)
      ∙ ap (le 4) (part_apart v (start (geometry_of v) at) xs b 4 (width at) e (place-fits (geometry_of v) v size at h) d)
      ∙ sym (field-of-part 4 b v)

  four_same : part after 0 4 ≡ part v 0 4
  unfolding after store
  four_same =
      part_apart v (start (geometry_of v) at) xs 0 4 (width at) e (place-fits (geometry_of v) v size at h)
      (inl (omega (arith, place_after (geometry_of v) at h)))

  counts_same : (pages_of after ≡ pages_of v) × (slots_of after ≡ slots_of v) × (records_of after ≡ records_of v)
      × (notes_of after ≡ notes_of v)
  unfolding geometry_of
  counts_same =
      same-counts v after (field-same 4 (inl (place_after (geometry_of v) at h)))
      (field-same (slot_count_at (pages_of v)) (clear-slots (geometry_of v) at h))
      (field-same (record_count_at (pages_of v) (slots_of v)) (clear-records (geometry_of v) at h))
      (field-same (note_count_at (pages_of v) (slots_of v) (records_of v)) (clear-notes (geometry_of v) at h))

  tag_same : byte_at after 3 ≡ byte_at v 3
  tag_same = sym (part_at after 0 4 3 (lit< tt)) ∙ ap (λ (l : List ℕ). get_or l 3 0) four_same ∙ part_at v 0 4 3 (lit< tt)

  -- the geometry stays
  pub geometry-store : geometry_of (store (geometry_of v) v at xs) ≡ geometry_of v
  unfolding geometry_of after
  geometry-store =
      let c = counts_same in
      λ i. record { tag = tag_same i; pages = c.0 i; slots = c.1 i; records = c.2 i; notes = c.3 i }

  counted : length v ≡ length_for (pages_of v) (slots_of v) (records_of v) (notes_of v)
  unfolding geometry_of
  counted = size

  -- and so does validity
  pub valid-store : valid_volume (store (geometry_of v) v at xs) ≡ true
  unfolding valid_volume after part
  valid-store =
      let c = counts_same in
      let f = valid-facts v ok in
      let s : known_magic after ≡ true = rw (
        starts-take (magic First) after v four_same,
        starts-take (magic Second) after v four_same,
        starts-take (magic_of carry_tag) after v four_same,
      ) f.heading in
      let n : length after ≡ length v = store_length (geometry_of v) v size at xs h e in
      let k : valid_counts (pages_of after) (slots_of after) (records_of after) (notes_of after) ≡ true =
      same-four valid_counts c.0 c.1 c.2 c.3 ∙ f.counts in
      let z : eqb (length after) (length_for (pages_of after) (slots_of after) (records_of after) (notes_of after)) ≡ true =
      same-four (λ p b l k. eqb (length after) (length_for p b l k)) c.0 c.1 c.2 c.3 ∙ eq-eqb _ _ (n ∙ counted) in
      all-holds (known_magic after ∷ valid_counts (pages_of after) (slots_of after) (records_of after) (notes_of after)
      ∷ eqb (length after) (length_for (pages_of after) (slots_of after) (records_of after) (notes_of after)) ∷ []) (s, (k, (z, tt)))

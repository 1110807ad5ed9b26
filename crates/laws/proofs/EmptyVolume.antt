-- Laws of the volume that Make writes: its geometry, that it is valid, and that every item of it is zero.
use mathlib.Core.Path.{◌≡◌, refl, sym, ap, ◌∙◌}
use mathlib.Core.Bool.{Bool, true}
use mathlib.Core.List.{List, [], ◌∷◌, ◌++◌, append_assoc, append-nil}
use Prim.Native.Nat.{ℕ, ◌+◌, ◌-◌, ◌*◌, ◌≤◌}
use native.Mathlib.Omega.{arith}
use lib.Dec.{eqb}
use lib.ListN.{length, take, drop, length-append, length-replicate}
use lib.Seq.{drop-append-add, drop-append-le, take-append-le}
use borrow.Author.Tests.{eq-eqb}
use Rattle.laws.proofs.Tables.{all-holds}
use Rattle.laws.proofs.Fields.{bytes_of-length, field_back}
use Rattle.laws.proofs.Zeros.{zeros, drop-zeros, take-zeros}
use Rattle.laws.proofs.Places.{In, Counts, counts-bounds}
use Rattle.model.specs.Bytes.{bytes_of, field, byte_at, part, starts_with}
use Rattle.model.specs.Geometry.{tag_of, magic, known_magic, slot_count_at, record_count_at, note_count_at, length_for, pages_of}
use Rattle.model.specs.Geometry.{slots_of, records_of, notes_of, geometry_of, valid_counts, valid_volume, empty_volume, Place}
use Rattle.model.specs.Geometry.{page_at, slot_at, record_at, note_at, width, start, item}
use Rattle.model.specs.declared.{geometry.Geometry.Geometry, geometry.Heading.Heading}
use Rattle.model.specs.declared.geometry.Heading.TheVariants.{First, Second}

-- a part within zeros that stand behind l
part-behind : (l r : List ℕ) (m k w at : ℕ) → at ≡ length l + k → k + w ≤ m → part (l ++ (zeros m ++ r)) at w ≡ zeros w
unfolding part
part-behind l r m k w at e h =
    let a : k ≤ length (zeros m) = rw length-replicate (omega arith) in
    let b : w ≤ length (zeros (m - k)) = rw length-replicate (omega arith) in
    ap (λ (n : ℕ). take w (drop n (l ++ (zeros m ++ r)))) e
    ∙ ap (take w) (drop-append-add l (zeros m ++ r) k ∙ drop-append-le k (zeros m) r a
    ∙ ap (λ (z : List ℕ). z ++ r) (drop-zeros k m (omega arith)))
    ∙ take-append-le w (zeros (m - k)) r b ∙ take-zeros w (m - k) (omega arith)

-- it starts with a known magic
starts : (h : Heading) (p b l n : ℕ) → known_magic (empty_volume h p b l n) ≡ true
unfolding starts_with empty_volume
starts First p b l n = refl
starts Second p b l n = refl

module _ (h : Heading) (p b l n : ℕ) where
  -- what stands before each section
  before-pages : List ℕ
  before-pages = magic h ++ bytes_of 4 p

  before-slot-count : List ℕ
  before-slot-count = before-pages ++ zeros (256 * p)

  before-slots : List ℕ
  before-slots = before-slot-count ++ bytes_of 4 b

  before-record-count : List ℕ
  before-record-count = before-slots ++ zeros (256 * b)

  before-records : List ℕ
  before-records = before-record-count ++ bytes_of 4 l

  before-note-count : List ℕ
  before-note-count = before-records ++ zeros (64 * l)

  before-notes : List ℕ
  before-notes = before-note-count ++ bytes_of 4 n

  -- what stands from each section on
  notes-on : List ℕ
  notes-on = zeros (16 * n) ++ []

  records-on : List ℕ
  records-on = zeros (64 * l) ++ (bytes_of 4 n ++ notes-on)

  slots-on : List ℕ
  slots-on = zeros (256 * b) ++ (bytes_of 4 l ++ records-on)

  pages-on : List ℕ
  pages-on = zeros (256 * p) ++ (bytes_of 4 b ++ slots-on)

  at-pages : empty_volume h p b l n ≡ before-pages ++ pages-on
  unfolding empty_volume before-pages pages-on slots-on records-on notes-on
  at-pages = rw (append-nil (zeros (16 * n)))

  at-slot-count : empty_volume h p b l n ≡ before-slot-count ++ (bytes_of 4 b ++ slots-on)
  unfolding before-slot-count pages-on
  at-slot-count = at-pages ∙ sym (append_assoc before-pages (zeros (256 * p)) (bytes_of 4 b ++ slots-on))

  at_slots : empty_volume h p b l n ≡ before-slots ++ slots-on
  unfolding before-slots
  at_slots = at-slot-count ∙ sym (append_assoc before-slot-count (bytes_of 4 b) slots-on)

  at-record-count : empty_volume h p b l n ≡ before-record-count ++ (bytes_of 4 l ++ records-on)
  unfolding before-record-count slots-on
  at-record-count = at_slots ∙ sym (append_assoc before-slots (zeros (256 * b)) (bytes_of 4 l ++ records-on))

  at_records : empty_volume h p b l n ≡ before-records ++ records-on
  unfolding before-records
  at_records = at-record-count ∙ sym (append_assoc before-record-count (bytes_of 4 l) records-on)

  at-note-count : empty_volume h p b l n ≡ before-note-count ++ (bytes_of 4 n ++ notes-on)
  unfolding before-note-count records-on
  at-note-count = at_records ∙ sym (append_assoc before-records (zeros (64 * l)) (bytes_of 4 n ++ notes-on))

  at-notes : empty_volume h p b l n ≡ before-notes ++ notes-on
  unfolding before-notes
  at-notes = at-note-count ∙ sym (append_assoc before-note-count (bytes_of 4 n) notes-on)

  -- their lengths
  len-pages : length before-pages ≡ 8
  unfolding before-pages bytes_of
  len-pages = refl

  len-slot-count : length before-slot-count ≡ slot_count_at p
  unfolding before-slot-count
  len-slot-count = length-append before-pages (zeros (256 * p)) ∙ rw (len-pages, length-replicate)

  len-slots : length before-slots ≡ 12 + 256 * p
  unfolding before-slots
  len-slots = length-append before-slot-count (bytes_of 4 b) ∙ rw (len-slot-count, bytes_of-length) (omega arith)

  len-record-count : length before-record-count ≡ record_count_at p b
  unfolding before-record-count
  len-record-count = length-append before-slots (zeros (256 * b)) ∙ rw (len-slots, length-replicate)

  len-records : length before-records ≡ 16 + 256 * p + 256 * b
  unfolding before-records
  len-records = length-append before-record-count (bytes_of 4 l) ∙ rw (len-record-count, bytes_of-length) (omega arith)

  len-note-count : length before-note-count ≡ note_count_at p b l
  unfolding before-note-count
  len-note-count = length-append before-records (zeros (64 * l)) ∙ rw (len-records, length-replicate)

  len-notes : length before-notes ≡ 20 + 256 * p + 256 * b + 64 * l
  unfolding before-notes
  len-notes = length-append before-note-count (bytes_of 4 n) ∙ rw (len-note-count, bytes_of-length) (omega arith)

  pub empty-length : length (empty_volume h p b l n) ≡ length_for p b l n
  unfolding notes-on
  empty-length = ap length at-notes ∙ length-append before-notes notes-on ∙ rw (len-notes, append-nil (zeros (16 * n)), length-replicate)

  module _ (ok : valid_counts p b l n ≡ true) where
    bounds : Counts p b l n
    bounds = counts-bounds p b l n ok

    pages-is : pages_of (empty_volume h p b l n) ≡ p
    unfolding empty_volume
    pages-is = field_back 4 p (magic h) _ 4 refl (omega (arith, bounds.p-high))

    slots-is : field 4 (slot_count_at p) (empty_volume h p b l n) ≡ b
    slots-is = ap (field 4 (slot_count_at p)) at-slot-count
        ∙ field_back 4 b before-slot-count slots-on (slot_count_at p) len-slot-count (omega (arith, bounds.b-high))

    records_is : field 4 (record_count_at p b) (empty_volume h p b l n) ≡ l
    records_is =
        ap (field 4 (record_count_at p b)) at-record-count
        ∙ field_back 4 l before-record-count records-on (record_count_at p b) len-record-count (omega (arith, bounds.l-high))

    notes-is : field 4 (note_count_at p b l) (empty_volume h p b l n) ≡ n
    notes-is =
        ap (field 4 (note_count_at p b l)) at-note-count
        ∙ field_back 4 n before-note-count notes-on (note_count_at p b l) len-note-count (omega (arith, bounds.n-high))

    tag_is : byte_at (empty_volume h p b l n) 3 ≡ tag_of h
    unfolding empty_volume
    tag_is = refl

    slots-is' : slots_of (empty_volume h p b l n) ≡ b
    slots-is' = ap (λ (k : ℕ). field 4 (slot_count_at k) (empty_volume h p b l n)) pages-is ∙ slots-is

    records-is' : records_of (empty_volume h p b l n) ≡ l
    records-is' =
        ap (λ (k : ℕ). field 4 (record_count_at k (slots_of (empty_volume h p b l n))) (empty_volume h p b l n)) pages-is
        ∙ ap (λ (k : ℕ). field 4 (record_count_at p k) (empty_volume h p b l n)) slots-is' ∙ records_is

    notes-is' : notes_of (empty_volume h p b l n) ≡ n
    notes-is' =
        ap (λ (k : ℕ). field 4 (note_count_at k (slots_of (empty_volume h p b l n)) (records_of (empty_volume h p b l n)))
        (empty_volume h p b l n)) pages-is
        ∙ ap (λ (k : ℕ). field 4 (note_count_at p k (records_of (empty_volume h p b l n))) (empty_volume h p b l n)) slots-is'
        ∙ ap (λ (k : ℕ). field 4 (note_count_at p b k) (empty_volume h p b l n)) records-is' ∙ notes-is

    -- the geometry is what Make was given
    pub empty-geometry : ◌≡◌ {A = Geometry} (geometry_of (empty_volume h p b l n))
        (record { tag = tag_of h; pages = p; slots = b; records = l; notes = n })
    unfolding geometry_of
    empty-geometry = λ i. record { tag = tag_is i; pages = pages-is i; slots = slots-is' i; records = records-is' i; notes = notes-is' i }

    four : (t : ℕ → ℕ → ℕ → ℕ → Bool)
        → t (pages_of (empty_volume h p b l n)) (slots_of (empty_volume h p b l n)) (records_of (empty_volume h p b l n))
        (notes_of (empty_volume h p b l n)) ≡ t p b l n
    four t =
        let e₁ = pages-is in
        let e₂ = slots-is' in
        let e₃ = records-is' in
        let e₄ = notes-is' in
        cc

    pub empty-valid : valid_volume (empty_volume h p b l n) ≡ true
    unfolding valid_volume
    empty-valid =
        let v = empty_volume h p b l n in
        all-holds
        (known_magic v ∷ valid_counts (pages_of v) (slots_of v) (records_of v) (notes_of v)
        ∷ eqb (length v) (length_for (pages_of v) (slots_of v) (records_of v) (notes_of v)) ∷ []) (
          starts h p b l n,
          (
            four valid_counts ∙ ok,
            (four (λ x y z w. eqb (length (empty_volume h p b l n)) (length_for x y z w)) ∙ eq-eqb _ _ empty-length, tt),
          ),
        )

  -- every item of it is zero
  pub empty-item : (g : Geometry) → g.pages ≡ p → g.slots ≡ b → g.records ≡ l → g.notes ≡ n
      → (at : Place) → In g at → item g (empty_volume h p b l n) at ≡ zeros (width at)
  unfolding item pages-on slots-on records-on notes-on
  empty-item g ep eb el en (page_at i) k =
      ap (λ (z : List ℕ). part z (start g (page_at i)) 256) at-pages
      ∙ part-behind before-pages _ (256 * p) (256 * (i - 1)) 256 _ (omega (arith, len-pages)) (omega arith)
  empty-item g ep eb el en (slot_at i) k =
      ap (λ (z : List ℕ). part z (start g (slot_at i)) 256) at_slots
      ∙ part-behind before-slots _ (256 * b) (256 * (i - 1)) 256 _ (omega (arith, len-slots)) (omega arith)
  empty-item g ep eb el en (record_at i) k =
      ap (λ (z : List ℕ). part z (start g (record_at i)) 64) at_records
      ∙ part-behind before-records _ (64 * l) (64 * (i - 1)) 64 _ (omega (arith, len-records)) (omega arith)
  empty-item g ep eb el en (note_at i) k =
      ap (λ (z : List ℕ). part z (start g (note_at i)) 16) at-notes
      ∙ part-behind before-notes _ (16 * n) (16 * (i - 1)) 16 _ (omega (arith, len-notes)) (omega arith)

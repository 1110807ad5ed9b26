-- The note positions: the code's tests come to the definition.
use mathlib.Core.Path.{◌≡◌, sym, ◌∙◌}
use mathlib.Core.Bool.{Bool, true, false, ◌&&◌, ◌||◌, and-true, and-false}
use mathlib.Core.List.{List, []}
use Prim.Native.Nat.{ℕ, ◌+◌, ◌-◌, ◌%◌, ◌≤◌, ◌<◌}
use native.Mathlib.Nat.{mod-lt}
use native.Mathlib.Decide.{dec_lt}
use native.Mathlib.Numerals.{add-one}
use native.Mathlib.Omega.{arith}
use lib.Dec.{eqb, leb, ltb}
use lib.ListN.{length, drop_of_length-le}
use borrow.Author.Tests.{
  ltb-true,
  lt-ltb,
  le-ltb,
  leb-true,
  leb-false,
  le-leb,
  lt-leb,
  eqb-true,
  eqb-false,
  ne_eqb,
}
use Rattle.std.specs.Prelude.{Option, None, Some}
use Rattle.std.specs.Option.{option_eq}
use Rattle.upkeep.specs.Parts.{FirstNote}
use Rattle.laws.proofs.Tables.{and_left, or-neither, by_cases, true-not-false}
use Rattle.laws.proofs.Search.{first-from}
use Rattle.laws.proofs.Places.{total, valid-facts}
use Rattle.model.specs.Tables.{every}
use Rattle.model.specs.Bytes.{le, part}
use Rattle.model.specs.Checksum.{sealed}
use Rattle.model.specs.Geometry.{ring, most_notes, geometry_of, valid_volume, start, note_at, item, note_slot}
use Rattle.model.specs.Item.{note_of}
use Rattle.model.specs.Passes.{first_from}
use Rattle.model.specs.Scan.{note_record}
use Rattle.model.specs.State.{note_whole, note_needed, notes_full}
use Rattle.upkeep_policy.specs.Upkeep.{note_position, note_ahead, first_needed_note}
use Rattle.model.specs.declared.{geometry.Geometry.Geometry, item.Note.Note, state.State.State}

-- position 1 has a number
has-number : (n k : ℕ) → ltb n (k + 1) ≡ leb n k
has-number n k = elim (dec_lt k n) [
  | yes y ↦ rw (le-ltb n (k + 1) (omega arith), lt-leb n k y)
  | no z ↦ rw (lt-ltb n (k + 1) (omega arith), le-leb n k (omega arith))
]

-- with one slot every note goes there
only-slot : (g : Geometry) → g.notes ≡ 1 → (n : ℕ) → note_slot g n ≡ note_slot g 1
only-slot g e n =
    let one : 1 ≤ 1 = omega arith in
    let low : (n - 1) % 1 < 1 = mod-lt (n - 1) one in
    let zero : (n - 1) % 1 ≡ 0 = omega arith in
    rw (e, zero)

-- and none comes after the last
pub only-needed : (g : Geometry) (v : List ℕ) (k n : ℕ) (r : List ℕ) (e : Note) (whole : Bool) → g.notes ≡ 1
    → k ≤ n → r ≡ item g v (note_slot g 1) → e ≡ note_of r → whole ≡ sealed 12 r
    → (whole && eqb e.number n) ≡ note_needed g v k n
unfolding note_needed every
only-needed g v k n r e whole one b er ee ew =
    let z : k - n ≡ 0 = omega arith in
    rw (ew, ee, er, z, only-slot g one n) (sym (and-true _))

module _ (g : Geometry) (v : List ℕ) (s : State) where
  -- the first of two
  first_one : note_ahead g v s 1 ≡ true → 1 ≡ first_needed_note g v s
  unfolding first_needed_note first_from
  first_one a = rw a

  first_two : note_ahead g v s 1 ≡ false → note_ahead g v s 2 ≡ true → 2 ≡ first_needed_note g v s
  unfolding first_needed_note first_from
  first_two a b = rw (a, b)

  first-none : note_ahead g v s 1 ≡ false → note_ahead g v s 2 ≡ false → 3 ≡ first_needed_note g v s
  unfolding first_needed_note first_from
  first-none a b = rw (a, b)

  -- what the first test tells
  pub past-new : (eqb g.notes 0 || leb (s.notes + 2) g.notes) ≡ false
      → (1 ≤ g.notes) × (g.notes < s.notes + 2)
  past-new h =
      let n = or-neither (eqb g.notes 0) (leb (s.notes + 2) g.notes) h in
      let z : g.notes ≡ 0 → ⊥ = eqb-false g.notes 0 n.0 in
      (omega arith, leb-false (s.notes + 2) g.notes n.1)

  -- the two oldest notes are the positions, where position 2 has a number
  module _ (a b : Bool) (l : g.notes < s.notes + 2) (ea : a ≡ note_needed g v s.notes (s.notes + 1 - g.notes))
      (eb : b ≡ note_needed g v s.notes (s.notes + 2 - g.notes)) where
    one : (leb g.notes s.notes && a) ≡ note_ahead g v s 1
    unfolding note_ahead
    one = rw (has-number g.notes s.notes, ea)

    two : b ≡ note_ahead g v s 2
    unfolding note_ahead
    two = rw (lt-ltb g.notes (s.notes + 2) l) eb

    pub found-one : (leb g.notes s.notes && a) ≡ true → 1 ≡ first_needed_note g v s
    found-one h = first_one (sym one ∙ h)

    pub found-two : (leb g.notes s.notes && a) ≡ false → b ≡ true → 2 ≡ first_needed_note g v s
    found-two h y = first_two (sym one ∙ h) (sym two ∙ y)

    pub found_none : (leb g.notes s.notes && a) ≡ false → b ≡ false → 3 ≡ first_needed_note g v s
    found_none h y = first-none (sym one ∙ h) (sym two ∙ y)

  -- position 1 is the first needed exactly if it is needed
  first-is-one : eqb (first_needed_note g v s) 1 ≡ note_ahead g v s 1
  first-is-one = by_cases (note_ahead g v s 1) (λ t. rw (t, ← first_one t))
      (λ t. by_cases (note_ahead g v s 2) (λ u. rw (t, ← first_two t u)) (λ u. rw (t, ← first-none t u)))

  -- the code's test of that
  pub one-given : (o : Option ℕ) → FirstNote o g v s → option_eq eqb o (Some 1) ≡ eqb (first_needed_note g v s) 1
  one-given None h = rw h
  one-given (Some i) h = rw h.0

  -- row 14
  pub full_is : (top i : ℕ) → ring g ≡ true → top ≡ most_notes g → i ≡ first_needed_note g v s
      → (eqb g.notes 0 || (leb top s.notes || eqb i 1)) ≡ notes_full g v s
  unfolding notes_full note_ahead
  full_is top i o et ei = rw (et, ei, first-is-one, o, has-number g.notes s.notes, add-one)

  -- the note of a position
  pub note-at : (i n at : ℕ) (r : List ℕ) (e : Note) → n ≡ (s.notes + i - g.notes - 1) % g.notes
      → at ≡ start g (note_at (n + 1))
      → r ≡ part v at 16 → e ≡ note_of r → e ≡ note_record g v (note_position g s i)
  unfolding item
  note-at i n at r e en ea er ee = rw (ee, er, ea, en, add-one)

  -- a number that the search stopped at
  pub note-hit : (i : ℕ) → i ≡ first_needed_note g v s → i ≤ 2 → (1 ≤ i) × (note_ahead g v s i ≡ true)
  unfolding first_needed_note
  note-hit i e h =
      let f = first-from (note_ahead g v s) 2 1 in
      rw e (f.low, f.hit (omega (arith, e, h)))

module _ (v : List ℕ) (g : Geometry) (valid : valid_volume v ≡ true) (eg : g ≡ geometry_of v) where
  -- without note slots nothing is read where a note would stand
  past : g.notes ≡ 0 → (n : ℕ) → item g v (note_slot g n) ≡ []
  unfolding item part
  past z n =
      let size : length v ≡ total g = rw eg (valid-facts v valid).size in
      let l : length v ≤ start g (note_slot g n) = omega arith in
      rw (drop_of_length-le v l)

  no_number : g.notes ≡ 0 → (n : ℕ) → (note_record g v n).number ≡ 0
  unfolding note_of le
  no_number z n = rw (past z n)

  module _ (s : State) where
    none : g.notes ≡ 0 → (i : ℕ) → 1 ≤ i → note_ahead g v s i ≡ false
    unfolding note_ahead note_needed
    none z i low =
        let j = note_position g s i in
        let f : eqb (note_record g v j).number j ≡ false = rw (no_number z j) (ne_eqb 0 j (λ e. omega arith)) in
        let w : note_whole g v j ≡ false = rw f (and-false (sealed 12 (item g v (note_slot g j)))) in
        rw w (and-false (ltb g.notes (s.notes + i)))

    first-turn : (i : ℕ) → s.notes + i ≤ g.notes → false ≡ note_ahead g v s i
    unfolding note_ahead
    first-turn i h = rw (le-ltb g.notes (s.notes + i) h)

    -- no slot, or none that position 2's note has had
    pub none_ahead : (eqb g.notes 0 || leb (s.notes + 2) g.notes) ≡ true → 3 ≡ first_needed_note g v s
    none_ahead h =
        by_cases (eqb g.notes 0)
        (λ t. let z = eqb-true g.notes 0 t in
        first-none g v s (none z 1 (omega arith)) (none z 2 (omega arith)))
        (λ t. let u : leb (s.notes + 2) g.notes ≡ true = rw t at h in
        let l = leb-true (s.notes + 2) g.notes u in
        first-none g v s (sym (first-turn 1 (omega arith))) (sym (first-turn 2 l)))

    -- a position that is needed has a number, and there are slots
    pub note-number : (i : ℕ) → note_ahead g v s i ≡ true → 1 ≤ i → (1 ≤ g.notes) × (g.notes < s.notes + i)
    unfolding note_ahead
    note-number i h low = (
      some (λ z. true-not-false h (none z i low)),
      ltb-true g.notes (s.notes + i)
          (and_left (ltb g.notes (s.notes + i)) _ h),
    )
      where
        some : (g.notes ≡ 0 → ⊥) → 1 ≤ g.notes
        some z = omega arith

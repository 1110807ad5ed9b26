-- The notes' room: the code's tests come to the definition of a full section of notes.
use mathlib.Core.Path.{◌≡◌, sym, ap, ◌∙◌}
use mathlib.Core.Bool.{Bool, true, false, ◌&&◌, ◌||◌, not}
use mathlib.Core.List.{List}
use Prim.Native.Nat.{ℕ, suc, ◌+◌, ◌-◌, ◌≤◌, ◌<◌}
use native.Mathlib.Numerals.{add-one}
use native.Mathlib.Omega.{arith}
use lib.Dec.{eqb, leb, ltb}
use borrow.Author.Tests.{ltb-true, ltb-false, le-leb, lt-leb, leb-false, eqb-false, not-false}
use Rattle.laws.proofs.Tables.{or-neither, by_cases}
use Rattle.model.specs.Tables.{every}
use Rattle.model.specs.Checksum.{sealed}
use Rattle.model.specs.Geometry.{ring, most_notes, top_number, item, note_slot}
use Rattle.model.specs.Item.{note_of}
use Rattle.model.specs.Scan.{note_record}
use Rattle.model.specs.State.{note_whole, note_like, note_needed, notes_full}
use Rattle.model.specs.declared.{geometry.Geometry.Geometry, item.Note.Note, state.State.State}

module _ (g : Geometry) (v : List ℕ) where
  -- the i-th note after note j does not spare it
  abbrev pub later_other : ℕ → ℕ → Bool
  later_other j i = not (note_whole g v (suc (j + i)) && note_like g v j (suc (j + i)))

  -- what the turn's callees give of it
  pub turn_is : (j i : ℕ) (w l b : Bool) → w ≡ note_whole g v (j + i + 1) → l ≡ note_like g v j (j + i + 1) → (w && l) ≡ b
      → later_other j i ≡ not b
  turn_is j i w l b ew el eb =
      let p : suc (j + i) ≡ j + i + 1 = omega arith in
      let q : (note_whole g v (suc (j + i)) && note_like g v j (suc (j + i))) ≡ b =
      ap (λ (n : ℕ). note_whole g v n && note_like g v j n) p
      ∙ ap (λ (x : Bool). x && note_like g v j (j + i + 1)) (sym ew)
      ∙ ap (λ (x : Bool). w && x) (sym el)
      ∙ eb in
      ap not q

  pub needed-torn : (k j : ℕ) (w : Bool) → w ≡ note_whole g v j → w ≡ false → false ≡ note_needed g v k j
  unfolding note_needed
  needed-torn k j w ew f = sym (ap (λ (b : Bool). b && every (k - j) (later_other j)) (sym ew ∙ f))

  pub needed-whole : (k j : ℕ) (w b : Bool) → w ≡ note_whole g v j → w ≡ true → every (k - j) (later_other j) ≡ b → b ≡ note_needed g v k j
  unfolding note_needed
  needed-whole k j w b ew t e = sym (ap (λ (x : Bool). x && every (k - j) (later_other j)) (sym ew ∙ t) ∙ e)

-- what the tests before the turn's tell of the last note's number n, of l slots and the last number that a note may have
pub past-turn : (round : Bool) (n l top : ℕ) → (eqb l 0 || leb top n) ≡ false → (not round || ltb n l) ≡ false → top ≤ top_number
    → (1 ≤ l) × (l ≤ n) × (n < top_number)
past-turn round n l top given turned high =
    let g = or-neither (eqb l 0) (leb top n) given in
    let some : l ≡ 0 → ⊥ = eqb-false l 0 g.0 in
    let below : n < top = leb-false top n g.1 in
    (omega arith, ltb-false n l (or-neither (not round) (ltb n l) turned).1, omega arith)

module _ (g : Geometry) (v : List ℕ) (s : State) (top : ℕ) (et : top ≡ most_notes g) where
  -- no slot, or the last number is given
  pub full-given : (eqb g.notes 0 || leb top s.notes) ≡ true → true ≡ notes_full g v s
  unfolding notes_full
  full-given h =
      by_cases (eqb g.notes 0) (λ t. rw t)
      (λ t. let u : leb (most_notes g) s.notes ≡ true = rw (t, et) at h in rw (t, u))

  module _ (round : Bool) (er : round ≡ ring g) (h : (eqb g.notes 0 || leb top s.notes) ≡ false) where
    some : eqb g.notes 0 ≡ false
    some = (or-neither (eqb g.notes 0) (leb top s.notes) h).0

    given : leb (most_notes g) s.notes ≡ false
    given = sym (ap (λ (k : ℕ). leb k s.notes) et) ∙ (or-neither (eqb g.notes 0) (leb top s.notes) h).1

    -- no ring, or a slot that no note has had
    pub full-new : (not round || ltb s.notes g.notes) ≡ true → false ≡ notes_full g v s
    unfolding notes_full
    full-new q =
        by_cases (ring g)
        (λ t. let z : ltb s.notes g.notes ≡ true = rw (er, t) at q in
        let f : leb g.notes s.notes ≡ false = lt-leb g.notes s.notes (ltb-true s.notes g.notes z) in
        rw (some, given, t, f))
        (λ t. rw (some, given, t))

    -- the next note displaces one
    pub full-turned : (k : Bool) → (not round || ltb s.notes g.notes) ≡ false
        → k ≡ note_needed g v s.notes (s.notes + 1 - g.notes)
        → k ≡ notes_full g v s
    unfolding notes_full
    full-turned k q ek =
        let n = or-neither (not round) (ltb s.notes g.notes) q in
        let t : ring g ≡ true = sym er ∙ not-false round n.0 in
        let f : leb g.notes s.notes ≡ true = le-leb g.notes s.notes (ltb-false s.notes g.notes n.1) in
        ek ∙ rw (some, given, t, f, add-one)

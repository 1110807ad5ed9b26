-- The log's room: the code's tests come to the definition of a full log.
use mathlib.Core.Path.{◌≡◌, sym, ◌∙◌}
use mathlib.Core.Bool.{Bool, true, false, ◌&&◌, ◌||◌, not}
use mathlib.Core.List.{List}
use Prim.Native.Nat.{ℕ, ◌+◌, ◌-◌, ◌≤◌, ◌<◌}
use native.Mathlib.Numerals.{add-one}
use lib.Dec.{eqb, leb, ltb}
use borrow.Author.Tests.{ltb-true, ltb-false, le-leb, lt-leb, not-false}
use Rattle.laws.proofs.Tables.{or_left, or-neither, by_cases}
use Rattle.model.specs.Tables.{within}
use Rattle.model.specs.Checksum.{sealed}
use Rattle.model.specs.Geometry.{ring, most, item, log_slot}
use Rattle.model.specs.Item.{record_of}
use Rattle.model.specs.Index.{entry_of}
use Rattle.model.specs.State.{last_number, record_needed, log_full}
use Rattle.model.specs.declared.{geometry.Geometry.Geometry, item.LogRecord.LogRecord, state.Entry.Entry}
use Rattle.model.specs.declared.state.State.{State}

-- past the turn there are as many numbers as slots
pub past-turn : (round : Bool) (n l : ℕ) → (not round || ltb n l) ≡ false → l ≤ n
past-turn round n l h = ltb-false n l (or-neither (not round) (ltb n l) h).1

module _ (g : Geometry) (v : List ℕ) (s : State) where
  -- what was read of record j, and its page's entry
  pub needed-is : (j : ℕ) (r : List ℕ) (e : LogRecord) (x : Entry) (whole : Bool) → r ≡ item g v (log_slot g j) → e ≡ record_of r
      → x ≡ entry_of s.index e.page
      → whole ≡ sealed 60 r
      → (ltb s.durable j
      || (whole && (eqb e.lsn j && not (within g.pages e.page && (not (eqb x.slot 0) && leb j x.backup)))))
      ≡ record_needed g v s j
  unfolding record_needed
  needed-is j r e x whole er ee ex ew = rw (ew, ex, ee, er)

  -- the last number is given
  pub full-given : (top : ℕ) → top ≡ most g → top ≤ last_number s → true ≡ log_full g v s
  unfolding log_full
  full-given top et h = sym (or_left _ (le-leb (most g) (last_number s) (rw et at h)))

  module _ (top : ℕ) (round : Bool) (et : top ≡ most g) (er : round ≡ ring g) (below : last_number s < top) where
    given : leb (most g) (last_number s) ≡ false
    given = lt-leb (most g) (last_number s) (rw et at below)

    -- no ring, or a slot that no record has had
    pub full-new : (not round || ltb (last_number s) g.records) ≡ true → false ≡ log_full g v s
    unfolding log_full
    full-new h =
        by_cases (ring g)
        (λ t. let z : ltb (last_number s) g.records ≡ true = rw (er, t) at h in
        let f : leb g.records (last_number s) ≡ false = lt-leb g.records (last_number s) (ltb-true (last_number s) g.records z) in
        rw (given, t, f))
        (λ t. rw (given, t))

    -- the next record displaces one
    pub full-turned : (k : Bool) → (not round || ltb (last_number s) g.records) ≡ false
        → k ≡ record_needed g v s (last_number s + 1 - g.records)
        → k ≡ log_full g v s
    unfolding log_full
    full-turned k h ek =
        let n = or-neither (not round) (ltb (last_number s) g.records) h in
        let t : ring g ≡ true = sym er ∙ not-false round n.0 in
        let f : leb g.records (last_number s) ≡ true =
        le-leb g.records (last_number s) (ltb-false (last_number s) g.records n.1) in
        ek ∙ rw (given, t, f, add-one)

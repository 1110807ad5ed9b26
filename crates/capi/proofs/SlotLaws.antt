-- What the heading says and what stands in a slot: the refusals' chain, and the numbers that are left.
use mathlib.Core.Path.{◌≡◌, refl, sym, ap, ◌∙◌}
use mathlib.Core.Bool.{Bool, true, false, cond, not}
use mathlib.Core.List.{List}
use Prim.Native.Nat.{ℕ, ◌+◌, ◌≤◌}
use native.Mathlib.Omega.{arith}
use lib.Dec.{eqb}
use lib.ListN.{length}
use borrow.Author.Tests.{eq-eqb, ne_eqb}
use Rattle.laws.proofs.Places.{in_item, place-fits, valid-facts, total}
use Rattle.volume.proofs.Readings.{unknown-read}
use Rattle.model.specs.Tables.{first_of}
use Rattle.model.specs.Bytes.{part}
use Rattle.model.specs.Geometry.{known_magic, Place, item_of, width, start, item, geometry_of, valid_volume}
use Rattle.model.specs.declared.{geometry.Geometry.Geometry}
use Rattle.std.specs.Prelude.{Result, Ok, Err}
use Rattle.std.specs.Result.{IsErr, IsErrAnd}
use Rattle.laws.proofs.Tables.{true-not-false}
use Rattle.laws.proofs.Refused.{refusal-some}
use Rattle.model.specs.Refused.{refusal_number}
use Rattle.model.specs.declared.answer.Refusal.{Refusal}
use Rattle.face.specs.Found.{Gives}
use Rattle.face.specs.Slots.{Listed, listed, counts_rows, count_numbers, counts_of}
use Rattle.face.specs.Slots.{slot_rows, listed_at, backup_numbers}

module _ (m n : ℕ) (old new : List ℕ) (e : n ≡ m) where
  pub refused : (n ≡ 0 → ⊥) → (n ≡ (listed m old new).refusal) × (old ≡ (listed m old new).numbers)
  refused ne = let k : eqb m 0 ≡ false = ne_eqb m 0 (λ z. ne (e ∙ z)) in (e, rw k)

  pub done : n ≡ 0 → (xs : List ℕ) → xs ≡ new → (0 ≡ (listed m old new).refusal) × (xs ≡ (listed m old new).numbers)
  done z xs ex =
      let y : m ≡ 0 = sym e ∙ z in
      let k : eqb m 0 ≡ true = eq-eqb m 0 y in
      (sym y, ex ∙ rw k)

-- ---- the tests of the volume and of the numbers' length, behind which is the slot's

-- a number that they give is the table's
turned : (a b c : Bool) (n : ℕ) → n ≡ cond (not a) 1 (cond (not b) 2 0) → (n ≡ 0 → ⊥)
    → n ≡ cond (not a) 1 (cond (not b) 2 (cond (not c) 5 0))
turned true true c n e some = absurd (some e)
turned true false c n e some = e
turned false b c n e some = e

both-hold : (a b : Bool) → ◌≡◌ {A = ℕ} 0 (cond (not a) 1 (cond (not b) 2 0)) → (a ≡ true) × (b ≡ true)
both-hold true true e = (refl, refl)
both-hold true false e = absurd (omega (arith, e))
both-hold false b e = absurd (omega (arith, e))

-- an error that is handed on
pub handed-on : {P : ℕ → Type 0} (r : Result (List ℕ) ℕ) (old : List ℕ) (l : Listed) (k : ℕ) → IsErr r → IsErrAnd r P
    → ((n : ℕ) → P n → n ≡ k)
    → (k ≡ l.refusal) × (old ≡ l.numbers) → Gives r old l
handed-on (Ok xs) old l k f p h e = absurd (true-not-false f refl)
handed-on (Err n) old l k f p h e = (h n p ∙ e.0, e.1)

-- ---- the heading

module _ (v xs : List ℕ) where
  pub counts-refused : (r : Refusal) → refusal_number r ≡ cond (not (valid_volume v)) 1 (cond (not (eqb (length xs) 5)) 2 0)
      → (refusal_number r ≡ (counts_of v xs).refusal) × (xs ≡ (counts_of v xs).numbers)
  unfolding counts_of
  counts-refused r e =
      refused (first_of (counts_rows v xs)) (refusal_number r) xs (count_numbers (geometry_of v)) e (refusal-some r)

  pub counts-done : ◌≡◌ {A = ℕ} 0 (cond (not (valid_volume v)) 1 (cond (not (eqb (length xs) 5)) 2 0)) → (g : Geometry) → g ≡ geometry_of v
      → (0 ≡ (counts_of v xs).refusal) × (count_numbers g ≡ (counts_of v xs).numbers)
  unfolding counts_of
  counts-done e g eg =
      done (first_of (counts_rows v xs)) 0 xs (count_numbers (geometry_of v)) e refl (count_numbers g)
      (ap (λ (k : Geometry). count_numbers k) eg)

-- ---- a slot

pub told_under : (v x ns : List ℕ) (g : Geometry) → g ≡ geometry_of v → ns ≡ backup_numbers g x
    → ns ≡ backup_numbers (geometry_of v) x
told_under v x ns g eg en = en ∙ ap (λ (k : Geometry). backup_numbers k x) eg

-- a heading that is not known: row 1, whatever follows it
pub slot-unknown : (v xs : List ℕ) (at : Place) (tell : List ℕ → List ℕ) (b : Bool) → b ≡ known_magic v → b ≡ false
    → (1 ≡ (listed_at at tell v xs).refusal) × (xs ≡ (listed_at at tell v xs).numbers)
unfolding listed_at
slot-unknown v xs at tell b eb t = rw (unknown-read v (sym eb ∙ t)) (refl, refl)

module _ (v xs : List ℕ) (at : Place) (tell : List ℕ → List ℕ) where
  pub slot-refused : (r : Refusal) → refusal_number r ≡ cond (not (valid_volume v)) 1 (cond (not (eqb (length xs) 8)) 2 0)
      → (refusal_number r ≡ (listed_at at tell v xs).refusal) × (xs ≡ (listed_at at tell v xs).numbers)
  unfolding listed_at
  slot-refused r e =
      refused (first_of (slot_rows at v xs)) (refusal_number r) xs (tell (item (geometry_of v) v at))
      (turned (valid_volume v) (eqb (length xs) 8) (item_of (geometry_of v) at) (refusal_number r) e (refusal-some r))
      (refusal-some r)

  module _ (passed : ◌≡◌ {A = ℕ} 0 (cond (not (valid_volume v)) 1 (cond (not (eqb (length xs) 8)) 2 0))) (g : Geometry) (eg : g ≡ geometry_of v) where
    row : (b : Bool) → item_of g at ≡ b → first_of (slot_rows at v xs) ≡ cond (not b) 5 0
    row b e =
        let h = both-hold (valid_volume v) (eqb (length xs) 8) passed in
        rw (h.0, h.1, ← eg, e)

    pub slot-missing : item_of g at ≡ false → (5 ≡ (listed_at at tell v xs).refusal) × (xs ≡ (listed_at at tell v xs).numbers)
    unfolding listed_at
    slot-missing e =
        refused (first_of (slot_rows at v xs)) 5 xs (tell (item (geometry_of v) v at)) (sym (row false e)) (λ z. omega (arith, z))

    pub slot-fits : item_of g at ≡ true → start g at + width at ≤ length v
    slot-fits e =
        let h = both-hold (valid_volume v) (eqb (length xs) 8) passed in
        place-fits g v ((valid-facts v h.0).size ∙ ap (λ (k : Geometry). total k) (sym eg)) at (in_item g at e)

    pub slot-done : item_of g at ≡ true → (from : ℕ) (x ns : List ℕ) → from ≡ start g at → x ≡ part v from (width at) → ns ≡ tell x
        → (0 ≡ (listed_at at tell v xs).refusal) × (ns ≡ (listed_at at tell v xs).numbers)
    unfolding listed_at item
    slot-done e from x ns ef ex en =
        let s : x ≡ part v (start (geometry_of v) at) (width at) = ex ∙ ap (λ (k : ℕ). part v k (width at)) (ef ∙ ap (λ (k : Geometry). start k at) eg) in
        done (first_of (slot_rows at v xs)) 0 xs (tell (item (geometry_of v) v at)) (sym (row true e)) refl ns (en ∙ ap tell s)

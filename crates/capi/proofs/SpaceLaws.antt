-- The room of a volume as numbers: a report of another length, a refusal, and what is told.
use mathlib.Core.Path.{◌≡◌, refl, sym, ap, ◌∙◌}
use mathlib.Core.Bool.{Bool, true, false, cond, not}
use mathlib.Core.List.{List}
use Prim.Native.Nat.{ℕ}
use native.Mathlib.Omega.{arith}
use lib.Dec.{eqb}
use lib.ListN.{length}
use borrow.Author.Tests.{eq-eqb, ne_eqb, eqb-true}
use Rattle.laws.proofs.Tables.{by_cases}
use Rattle.volume.proofs.Readings.{unknown-read}
use Rattle.model.specs.Tables.{first_of}
use Rattle.model.specs.Geometry.{known_magic, valid_volume}
use Rattle.reports.specs.Reading.{scan_rows}
use Rattle.reports.specs.Room.{room_of}
use Rattle.reports.specs.declared.reading.Room.{Room}
use Rattle.face.specs.Room.{room_numbers, room_rows, tell_room}
use Rattle.capi.proofs.SlotLaws.{refused, done}

-- 1 or 2 is a refusal
pub one-or-two : (t : Bool) (n : ℕ) → n ≡ cond t 1 2 → n ≡ 0 → ⊥
one-or-two true n e z = omega (arith, e, z)
one-or-two false n e z = omega (arith, e, z)

module _ (v xs : List ℕ) where
  number_is : (room_of v).refusal ≡ first_of (scan_rows v)
  unfolding room_of
  number_is = by_cases (eqb (first_of (scan_rows v)) 0) (λ t. rw t (sym (eqb-true (first_of (scan_rows v)) 0 t))) (λ t. rw t)

  -- a heading that is not known: row 1, whatever follows it
  pub unknown : (b : Bool) → b ≡ known_magic v → b ≡ false → (1 ≡ (tell_room v xs).refusal) × (xs ≡ (tell_room v xs).numbers)
  unfolding tell_room
  unknown b eb t = rw (unknown-read v (sym eb ∙ t)) (refl, refl)

  pub unlike : (length xs ≡ 4 → ⊥) → (b : Bool) (n : ℕ) → b ≡ valid_volume v → n ≡ cond (not b) 1 2
      → (n ≡ (tell_room v xs).refusal) × (xs ≡ (tell_room v xs).numbers)
  unfolding tell_room
  unlike ne b n eb en =
      let e : n ≡ first_of (room_rows v xs) = en ∙ rw (eb, ne_eqb (length xs) 4 ne) in
      refused (first_of (room_rows v xs)) n xs (room_numbers (room_of v)) e (one-or-two (not b) n en)

  module _ (l : length xs ≡ 4) (r : Room) (e : r ≡ room_of v) where
    row : r.refusal ≡ first_of (room_rows v xs)
    row = ap (λ (z : Room). z.refusal) e ∙ number_is ∙ rw (eq-eqb (length xs) 4 l)

    pub turned_down : (r.refusal ≡ 0 → ⊥) → (r.refusal ≡ (tell_room v xs).refusal) × (xs ≡ (tell_room v xs).numbers)
    unfolding tell_room
    turned_down = refused (first_of (room_rows v xs)) r.refusal xs (room_numbers (room_of v)) row

    pub told : r.refusal ≡ 0 → (ys : List ℕ) → ys ≡ room_numbers r → (0 ≡ (tell_room v xs).refusal) × (ys ≡ (tell_room v xs).numbers)
    unfolding tell_room
    told z ys ey =
        done (first_of (room_rows v xs)) r.refusal xs (room_numbers (room_of v)) row z ys
        (ey ∙ ap (λ (k : Room). room_numbers k) e)

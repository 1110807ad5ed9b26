-- A section of a volume (the log or the notes) that holds n items in L slots: the count that the scan finds and the run start.
use mathlib.Core.Path.{◌≡◌, sym, ap, ◌∙◌}
use mathlib.Core.Logic.{◌⊎◌, ⊎_elim}
use mathlib.Core.Bool.{Bool, true, false, cond, not, ◌&&◌, ◌||◌}
use mathlib.Core.List.{List}
use Prim.Native.Nat.{ℕ, suc, ◌+◌, ◌-◌, ◌*◌, ◌≤◌, ◌<◌}
use native.Mathlib.Omega.{arith}
use native.Mathlib.Decide.{dec_lt, ℕ_discrete}
use lib.Dec.{eqb, leb}
use borrow.Author.Tests.{eq-eqb, le-leb}
use Rattle.laws.proofs.Tables.{by_cases, and_both, or_left, or_right, true-not-false}
use Rattle.laws.proofs.Ring.{slot-low, slot-in, Seat, seat, Run, Start, start_from, run-start, highest-le, highest-ge}
use Rattle.model.specs.Bytes.{field, part, all_zero}
use Rattle.model.specs.Checksum.{sealed, sealed_run}
use Rattle.model.specs.Geometry.{Place, item, slot_of}
use Rattle.model.specs.Scan.{highest, ends_in}
use Rattle.model.specs.declared.geometry.Geometry.{Geometry}
use Rattle.history.proofs.Sections.{run_is, Tail, rest-zero}

module _ (g : Geometry) (v : List ℕ) (place : ℕ → Place) (c L n : ℕ) (ring : Bool) (bytes : ℕ → List ℕ) (S : ℕ → Type 0)
    (r : Run ring L n (λ i. item g v (place (slot_of L (suc i))) ≡ bytes i) (λ i. sealed c (item g v (place (slot_of L (suc i)))) ≡ false) S)
    (good : (i : ℕ) → i < n → sealed c (bytes i) ≡ true) (room : ring ≡ false → n ≤ L) (low : 1 ≤ n → 1 ≤ L) where
  -- the run start that the scan computes
  pub section-start : (f : ℕ) × (start_from ring (sealed c (item g v (place (slot_of L (suc (n - L)))))) L n ≡ suc f)
      × Start L n f (λ i. item g v (place (slot_of L (suc i))) ≡ bytes i) S
  section-start =
      run-start ring (sealed c (item g v (place (slot_of L (suc (n - L)))))) L n (λ i. item g v (place (slot_of L (suc i))) ≡ bytes i)
      (λ i. sealed c (item g v (place (slot_of L (suc i)))) ≡ false) S low r room
      (λ a w. let lo : 1 ≤ L = low a in rw w (good (n - L) (omega arith))) (λ a t. t)

  module _ (number : (i : ℕ) → i < n → field 4 0 (bytes i) ≡ suc i)
      (top : 1 ≤ n → item g v (place (slot_of L (suc (n - 1)))) ≡ bytes (n - 1))
      (tail : Tail g v place c n L)
      (zeros : (i : ℕ) → 1 ≤ i → i ≤ L → all_zero (item g v (place i)) ≡ true → sealed c (item g v (place i)) ≡ false)
      (start : ℕ) (parts : (i : ℕ) → part v (start + (c + 4) * i) (c + 4) ≡ item g v (place (suc i))) where
    -- before the turn each place is its own slot
    low-item : (i : ℕ) → i < n → i < L → n < i + L → item g v (place (suc i)) ≡ bytes i
    low-item i a b e = ap (λ (k : ℕ). item g v (place k)) (sym (slot-low L i b)) ∙ r.held i a e

    plain : ring ≡ false → sealed_run c L v start ≡ n
    plain e =
        run_is c v L start n (room e)
        (λ i b. rw (parts i) (rw (all_held i b) (good i b)))
        (λ b. rw (parts n) (tail.gap b))
      where
        all_held : (i : ℕ) → i < n → item g v (place (suc i)) ≡ bytes i
        all_held i b = elim (dec_lt n (i + L)) [
          | yes y ↦ low-item i b (omega (arith, room e)) y
          | no z ↦ ⊎_elim (λ h. ap (λ (k : ℕ). item g v (place k)) (sym (slot-low L i (omega (arith, room e)))) ∙ h)
              (λ h. absurd (true-not-false h.0 e))
              (r.oldest i b (omega (arith, room e)))
        ]

    numbers : (s : ℕ) → s < L → sealed c (item g v (place (suc s))) ≡ true → field 4 0 (item g v (place (suc s))) ≤ n
    numbers s b t = elim (dec_lt n L) [
      | yes y ↦ elim (dec_lt s n) [
        | yes z ↦ rw (low-item s z b (omega arith), number s z) z
        | no z ↦ elim (ℕ_discrete s n) [
          | yes e ↦ absurd (true-not-false (rw e at t) (tail.gap y))
          | no e ↦ absurd (true-not-false t (zeros (suc s) (omega arith) b (tail.rest (suc s) (omega arith) b)))
        ]
      ]
      | no y ↦
          let q : L + (n - L) ≡ n = omega arith in
          turned (rw q at (seat L s b (n - L)))
    ]
      where
        turned : Seat L n s → field 4 0 (item g v (place (suc s))) ≤ n
        turned o =
            let whole : item g v (place (slot_of L (suc o.place))) ≡ bytes o.place → field 4 0 (item g v (place (suc s))) ≤ n =
            λ w. let e : item g v (place (suc s)) ≡ bytes o.place = ap (λ (k : ℕ). item g v (place k)) (sym o.slot-of) ∙ w in
            rw (e, number o.place o.below) o.below in
            elim (dec_lt n (o.place + L)) [
              | yes z ↦ whole (r.held o.place o.below z)
              | no z ↦ ⊎_elim whole
                  (λ h. absurd (true-not-false t (ap (λ (k : ℕ). sealed c (item g v (place k))) (sym o.slot-of) ∙ h.1)))
                  (r.oldest o.place o.below (omega (arith, o.near)))
            ]

    -- the highest number is there
    reached : 1 ≤ n → n ≤ highest c (λ i. item g v (place i)) L
    reached a =
        let lo : 1 ≤ L = low a in
        let s = slot_of L (suc (n - 1)) in
        let i : (1 ≤ s) × (s ≤ L) = slot-in L (n - 1) lo in
        let e : suc (s - 1) ≡ s = omega arith in
        let w : item g v (place (suc (s - 1))) ≡ bytes (n - 1) = rw e (top a) in
        let ge : field 4 0 (item g v (place (suc (s - 1)))) ≤ highest c (λ i. item g v (place i)) L =
        highest-ge c (λ i. item g v (place i)) L (s - 1) (omega arith) (rw w (good (n - 1) (omega arith))) in
        let nm : field 4 0 (bytes (n - 1)) ≡ suc (n - 1) = number (n - 1) (omega arith) in
        omega (arith, rw (w, nm) at ge)

    pub section-count : cond ring (highest c (λ i. item g v (place i)) L) (sealed_run c L v start) ≡ n
    section-count = by_cases ring (λ e. rw e in-ring) (λ e. rw e (plain e))
      where
        in-ring : highest c (λ i. item g v (place i)) L ≡ n
        in-ring =
            let up : highest c (λ i. item g v (place i)) L ≤ n = highest-le c (λ i. item g v (place i)) n L numbers in
            elim (ℕ_discrete n 0) [ yes z ↦ omega arith | no z ↦ omega (arith, reached (omega arith)) ]

    -- what follows the last number
    pub section-ends : (f : ℕ) → (L ≤ n) ⊎ ((n ≡ 0) ⊎ (f ≡ 0))
        → ends_in v (record { ring = ring; size = c; slots = L; at = start; slot = λ i. item g v (place i) }) (suc f) n ≡ true
    unfolding ends_in
    section-ends f e =
        let t : (leb L n || (not (sealed c (item g v (place (suc n)))) && (eqb n 0 || eqb (suc f) 1))) ≡ true = elim (dec_lt n L) [
          | no z ↦ or_left _ (le-leb L n (omega arith))
          | yes y ↦ or_right (leb L n) (rw (tail.gap y) (⊎_elim (λ h. absurd (omega arith))
              (λ h. ⊎_elim (λ z. or_left (eqb (suc f) 1) (eq-eqb n 0 z)) (λ z. or_right (eqb n 0) (eq-eqb (suc f) 1 (ap suc z))) h) e))
        ] in
        and_both t (rest-zero (c + 4) L v start n (λ i a b. rw (parts i) (tail.rest (suc i) a b)))

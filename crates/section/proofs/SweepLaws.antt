-- A closed sweep is the run: the numbers that one pass found, where these are all that the section holds, are those
-- that the two passes find.
use mathlib.Core.Path.{◌≡◌, refl, sym, ap, ◌∙◌}
use mathlib.Core.Logic.{⊎_elim}
use mathlib.Core.Bool.{Bool, true, false, ◌&&◌, ◌||◌}
use mathlib.Core.List.{List}
use Prim.Native.Nat.{ℕ, zero, suc, ◌+◌, ◌-◌, ◌%◌, ◌≤◌, ◌<◌}
use native.Mathlib.Nat.{mod-lt, mod-eq_of_lt, add-mod_right}
use native.Mathlib.Omega.{arith}
use native.Mathlib.Decide.{dec_lt, ℕ_discrete}
use lib.Dec.{eqb, ltb}
use borrow.Author.Tests.{eq-eqb, ne_eqb, eqb-true, ltb-true}
use Rattle.laws.proofs.Tables.{by_cases, and_left, and_right, or_cases, or-other, true-not-false}
use Rattle.laws.proofs.Ring.{Seat, seat, highest-le, highest-ge}
use Rattle.model.specs.Bytes.{field}
use Rattle.model.specs.Checksum.{sealed, sealed_run}
use Rattle.model.specs.Geometry.{slot_of}
use Rattle.model.specs.Scan.{highest, rest_zero, count_in, first_in, ends_in}
use Rattle.model.specs.Scan as scan
use Rattle.section.specs.declared.Extent.{Extent}
use Rattle.section.specs.Section.{Placed, slot_bytes, slots_in, highest_at}
use Rattle.section.specs.Sweep.{Swept, closed_of, begun_of}
use Rattle.section.proofs.SectionLaws.{none, Whole, whole-none, whole-all, whole-stops, whole-on, none-whole}
use Rattle.section.proofs.SectionLaws.{count-ring, count-run, first_one, first-whole, first-torn, ends-past, ends-here, zero-torn}

-- ---- a ring whose slots, or all but the one behind them, hold the numbers from f on

module _ (s : scan.Section) (f c : ℕ) (low : 1 ≤ f) (some : 1 ≤ c) (near : s.slots ≤ suc c) (w : Swept s f c) where
  -- the number in a whole slot is one of these
  run-most : (i : ℕ) → i < s.slots → sealed s.size (s.slot (suc i)) ≡ true → field 4 0 (s.slot (suc i)) ≤ f + c - 1
  run-most i h whole =
      let L : ℕ = s.slots in
      let t : Seat L (L + (f - 1)) i = seat L i h (f - 1) in
      let d : ℕ = suc t.place - f in
      let e : f + d ≡ suc t.place = omega (arith, t.near) in
      let q : slot_of L (f + d) ≡ suc i = ap (slot_of L) e ∙ t.slot-of in
      let below : d < L = omega (arith, t.below) in
      elim (dec_lt d c) [
        | yes y ↦
            let n : field 4 0 (s.slot (suc i)) ≡ f + d = ap (λ (k : ℕ). field 4 0 (s.slot k)) (sym q) ∙ w.numbered d y in
            omega arith
        | no z ↦
            let b : suc i ≡ slot_of L (f + c) = sym q ∙ ap (λ (k : ℕ). slot_of L (f + k)) (omega arith) in
            absurd (true-not-false whole (ap (λ (k : ℕ). sealed s.size (s.slot k)) b ∙ w.torn (omega arith)))
      ]

  pub run-highest : highest s.size s.slot s.slots ≡ f + c - 1
  run-highest =
      let L : ℕ = s.slots in
      let i : ℕ = (f + (c - 1) - 1) % L in
      let have : 1 ≤ L = omega (arith, w.few) in
      let up : highest s.size s.slot L ≤ f + c - 1 = highest-le s.size s.slot (f + c - 1) L run-most in
      let here : field 4 0 (s.slot (suc i)) ≡ f + (c - 1) = w.numbered (c - 1) (omega arith) in
      let down : field 4 0 (s.slot (suc i)) ≤ highest s.size s.slot L =
      highest-ge s.size s.slot L i (mod-lt (f + (c - 1) - 1) have) (w.whole (c - 1) (omega arith)) in
      omega arith

-- ---- numbers from 1 on: number i + 1 is in slot i, counted from 0

module _ (v : List ℕ) (s : Extent) (c : ℕ) (w : Swept (slots_in v s) 1 c) where
  slot_is : (i : ℕ) → i < s.slots → slot_of s.slots (1 + i) - 1 ≡ i
  slot_is i h =
      let e : 1 + i - 1 ≡ i = omega arith in
      let m : (1 + i - 1) % s.slots ≡ i = ap (λ (k : ℕ). k % s.slots) e ∙ mod-eq_of_lt h in
      omega arith

  low-whole : (i : ℕ) → i < c → sealed s.size (slot_bytes v s i) ≡ true
  low-whole i h =
      ap (λ (k : ℕ). sealed s.size (slot_bytes v s k)) (sym (slot_is i (omega (arith, w.few)))) ∙ w.whole i h

  low-number : (i : ℕ) → i < c → field 4 0 (slot_bytes v s i) ≡ 1 + i
  low-number i h =
      ap (λ (k : ℕ). field 4 0 (slot_bytes v s k)) (sym (slot_is i (omega (arith, w.few)))) ∙ w.numbered i h

  low-torn : c < s.slots → sealed s.size (slot_bytes v s c) ≡ false
  low-torn h = ap (λ (k : ℕ). sealed s.size (slot_bytes v s k)) (sym (slot_is c h)) ∙ w.torn h

  -- the whole front
  low-front : (k : ℕ) → k ≤ c → Whole s.size v s.at s.slots k
  low-front zero h = whole-none s.size v s.at s.slots
  low-front (suc k) h =
      let ih = low-front k (omega arith) in
      let e : k + 1 ≡ suc k = omega arith in
      rw e at (whole-on s.size v s.at s.slots k ih (omega (arith, w.few)) (low-whole k (omega arith)))

  pub low_run : c ≡ sealed_run s.size s.slots v s.at
  low_run =
      let front = low-front c (omega arith) in
      elim (dec_lt c s.slots) [
        | yes y ↦ whole-stops s.size v s.at s.slots c front y (low-torn y)
        | no z ↦ whole-all s.size v s.at s.slots c front (omega arith)
      ]

  -- the highest number of a ring whose other slots are zero
  low-highest : Placed v s → c < s.slots → rest_zero (s.size + 4) s.slots v s.at c ≡ true
      → c ≡ highest_at s.size v s.at s.slots
  low-highest p short zero_rest =
      let up : highest_at s.size v s.at s.slots ≤ c =
      highest-le s.size (λ i. slot_bytes v s (i - 1)) c s.slots
      (λ k h. let e : suc k - 1 ≡ k = omega arith in rw e (most k h)) in
      elim (dec_lt 0 c) [
        | yes y ↦
            let e : suc (c - 1) - 1 ≡ c - 1 = omega arith in
            let t : sealed s.size (slot_bytes v s (suc (c - 1) - 1)) ≡ true = rw e (low-whole (c - 1) (omega arith)) in
            let n : field 4 0 (slot_bytes v s (suc (c - 1) - 1)) ≡ 1 + (c - 1) = rw e (low-number (c - 1) (omega arith)) in
            let down : field 4 0 (slot_bytes v s (suc (c - 1) - 1)) ≤ highest_at s.size v s.at s.slots =
            highest-ge s.size (λ i. slot_bytes v s (i - 1)) s.slots (c - 1) (omega arith) t in
            omega arith
        | no z ↦ omega arith
      ]
    where
      most : (k : ℕ) → k < s.slots → sealed s.size (slot_bytes v s k) ≡ true → field 4 0 (slot_bytes v s k) ≤ c
      most k h t = elim (dec_lt k c) [
        | yes y ↦ omega (arith, low-number k y)
        | no z ↦ elim (ℕ_discrete k c) [
          | yes e ↦ absurd (true-not-false t (ap (λ (j : ℕ). sealed s.size (slot_bytes v s j)) e ∙ low-torn short))
          | no u ↦ absurd (true-not-false t
              (zero-torn s.size s.slots c k s.at v p.room (omega (arith, u)) h zero_rest))
        ]
      ]

-- ---- the law

pub record Closes (v : List ℕ) (s : Extent) (f c : ℕ) : Type 0 where
  pub count : count_in v (slots_in v s) ≡ f + c - 1
  pub first : first_in (slots_in v s) (f + c - 1) ≡ begun_of s.ring f c
  pub ends : ends_in v (slots_in v s) (begun_of s.ring f c) (f + c - 1) ≡ true

module _ (v : List ℕ) (s : Extent) (p : Placed v s) where
  -- a ring that turned: the numbers from f on fill its slots, or all but the one behind them
  module _ (f c : ℕ) (t : s.ring ≡ true) (low : 1 ≤ f) (some : 1 ≤ c) (w : Swept (slots_in v s) f c) where
    turned-count : s.slots ≤ suc c → count_in v (slots_in v s) ≡ f + c - 1
    turned-count near = sym (count-ring v s (f + c - 1) (sym (run-highest (slots_in v s) f c low some near w)) t)

    turned-begun : f ≡ begun_of s.ring f c
    turned-begun = rw (t, ne_eqb c 0 (λ z. omega arith))

    closes-full : c ≡ s.slots → Closes v s f c
    closes-full all =
        let L : ℕ = s.slots in
        let n : ℕ = f + c - 1 in
        let e : f - 1 ≡ n - L = omega arith in
        let q : (f + 0 - 1) % L ≡ (f - 1) % L = ap (λ (k : ℕ). k % L) (omega arith) in
        let q' : slot_of L (f + 0) - 1 ≡ (f - 1) % L = omega arith in
        let h : true ≡ sealed s.size (slot_bytes v s ((f - 1) % L)) =
        sym (w.whole 0 (omega arith)) ∙ ap (λ (k : ℕ). sealed s.size (slot_bytes v s k)) q' in
        let g : f - 1 + 1 ≡ f = omega arith in
        record {
          count = turned-count (omega arith);
          first = sym (first-whole v s n (f - 1) true e h t refl) ∙ g ∙ turned-begun;
          ends = sym (ends-past v s _ n (omega arith));
        }

    -- the slot behind them is that of number f - 1, which a store that was cut displaced
    closes-torn : 2 ≤ f → suc c ≡ s.slots → Closes v s f c
    closes-torn above but-one =
        let L : ℕ = s.slots in
        let n : ℕ = f + c - 1 in
        let e : f - 2 ≡ n - L = omega arith in
        let q : (f + c - 1) % L ≡ (f - 2) % L = ap (λ (k : ℕ). k % L) (omega arith) ∙ add-mod_right (f - 2) L in
        let q' : slot_of L (f + c) - 1 ≡ (f - 2) % L = omega arith in
        let h : false ≡ sealed s.size (slot_bytes v s ((f - 2) % L)) =
        sym (w.torn (omega arith)) ∙ ap (λ (k : ℕ). sealed s.size (slot_bytes v s k)) q' in
        let g : f - 2 + 2 ≡ f = omega arith in
        record {
          count = turned-count (omega arith);
          first = sym (first-torn v s n (f - 2) false e h t refl) ∙ g ∙ turned-begun;
          ends = sym (ends-past v s _ n (omega arith));
        }

  -- a ring without slots
  closes-empty : s.ring ≡ true → s.slots ≡ 0 → Closes v s 1 0
  closes-empty t z =
      record {
        count = sym (count-ring v s 0 (rw z (none s.size v s.at)) t);
        first = sym (first-torn v s 0 0 false (omega arith) (none-whole v s.at s.size _ (p.none z)) t refl) ∙ rw t;
        ends = sym (ends-past v s _ 0 (omega arith));
      }

  -- numbers from 1 on, and the rest is zero
  module _ (c : ℕ) (short : c < s.slots) (w : Swept (slots_in v s) 1 c) (zero_rest : rest_zero (s.size + 4) s.slots v s.at c ≡ true)
    where
      short-ends : (f : ℕ) → (eqb c 0 || eqb f 1) ≡ true → ends_in v (slots_in v s) f c ≡ true
      short-ends f h =
          let e : sealed s.size (slot_bytes v s (c % s.slots)) ≡ false =
          ap (λ (k : ℕ). sealed s.size (slot_bytes v s k)) (mod-eq_of_lt short) ∙ low-torn v s c w short in
          sym (ends-here v s f c false true short (sym e) (sym zero_rest)) ∙ rw h

      short-first : first_in (slots_in v s) c ≡ begun_of s.ring 1 c
      short-first = by_cases s.ring (λ t. elim (dec_lt 0 c) [
        | yes y ↦
            sym (first-whole v s c 0 true (omega arith) (sym (ap at_slot start ∙ low-whole v s c w 0 y)) t refl)
            ∙ rw (t, ne_eqb c 0 (λ z. omega arith))
        | no z ↦
            let e : c ≡ 0 = omega arith in
            let torn : at_slot 0 ≡ false = rw e at (low-torn v s c w short) in
            sym (first-torn v s c 0 false (omega arith) (sym (ap at_slot start ∙ torn)) t refl) ∙ rw (t, eq-eqb c 0 e)
      ]) (λ t. sym (first_one v s c t) ∙ rw t)
        where
          at_slot : ℕ → Bool
          at_slot k = sealed s.size (slot_bytes v s k)

          start : 0 % s.slots ≡ 0
          start = mod-eq_of_lt (omega arith)

      short-begun : (eqb c 0 || eqb (begun_of s.ring 1 c) 1) ≡ true
      short-begun = elim (ℕ_discrete c 0) [
        | yes e ↦ rw (eq-eqb c 0 e)
        | no z ↦ by_cases s.ring (λ t. rw (t, ne_eqb c 0 z)) (λ t. rw (t, ne_eqb c 0 z))
      ]

      closes-short : Closes v s 1 c
      closes-short =
          let e : 1 + c - 1 ≡ c = omega arith in
          let n : c ≡ count_in v (slots_in v s) =
          by_cases s.ring (count-ring v s c (low-highest v s c w p short zero_rest)) (count-run v s c (low_run v s c w)) in
          record { count = rw e (sym n); first = rw e short-first; ends = rw e (short-ends _ short-begun) }

  -- no ring, and its slots are full
  closes-plain : s.ring ≡ false → Swept (slots_in v s) 1 s.slots → Closes v s 1 s.slots
  closes-plain t w =
      let L : ℕ = s.slots in
      let e : 1 + L - 1 ≡ L = omega arith in
      record {
        count = rw e (sym (count-run v s L (low_run v s L w) t));
        first = sym (first_one v s _ t) ∙ rw t;
        ends = sym (ends-past v s _ _ (omega arith));
      }

  module _ (f c : ℕ) (low : 1 ≤ f) (plain : s.ring ≡ false → f ≡ 1) (empty : s.slots ≡ 0 → f ≡ 1) (w : Swept (slots_in v s) f c) where
    all_slots : c ≡ s.slots → Closes v s f c
    all_slots e =
        let u : Swept (slots_in v s) f s.slots = rw e at w in
        by_cases s.ring (λ t. elim (dec_lt 0 s.slots) [
          | yes y ↦ closes-full f c t low (omega arith) w e
          | no z ↦
              let n : s.slots ≡ 0 = omega arith in
              let m : c ≡ 0 = omega arith in
              rw (m, empty n) (closes-empty t n)
        ]) (λ t. let one : f ≡ 1 = plain t in rw (e, one) (closes-plain t (rw one at u)))

    all_but_one : (ltb 1 f && (ltb 0 c && eqb (suc c) s.slots)) ≡ true → Closes v s f c
    all_but_one h =
        let above : 1 < f = ltb-true 1 f (and_left (ltb 1 f) _ h) in
        let both : (ltb 0 c && eqb (suc c) s.slots) ≡ true = and_right (ltb 1 f) _ h in
        let some : 0 < c = ltb-true 0 c (and_left (ltb 0 c) _ both) in
        let e : suc c ≡ s.slots = eqb-true (suc c) s.slots (and_right (ltb 0 c) _ both) in
        by_cases s.ring (λ t. closes-torn f c t low (omega arith) w (omega arith) e) (λ t. absurd (omega (arith, plain t)))

    some-slots : c < s.slots → (eqb f 1 && rest_zero (s.size + 4) s.slots v s.at c) ≡ true → Closes v s f c
    some-slots h t =
        let one : f ≡ 1 = eqb-true f 1 (and_left (eqb f 1) _ t) in
        rw one (closes-short c h (rw one at w) (and_right (eqb f 1) _ t))

pub closes : (v : List ℕ) (s : Extent) (f c : ℕ) → Placed v s → 1 ≤ f → (s.ring ≡ false → f ≡ 1) → (s.slots ≡ 0 → f ≡ 1)
    → Swept (slots_in v s) f c → closed_of v s f c ≡ true → Closes v s f c
unfolding closed_of
closes v s f c p low plain empty w closed = elim (ℕ_discrete c s.slots) [
  | yes e ↦ all_slots v s p f c low plain empty w e
  | no z ↦ ⊎_elim (all_but_one v s p f c low plain empty w) (some-slots v s p f c low plain empty w (omega (arith, w.few, z)))
      (or_cases (ltb 1 f && (ltb 0 c && eqb (suc c) s.slots)) _
      (or-other (eqb c s.slots) _ closed (ne_eqb c s.slots z)))
]

-- no numbers that are all that the section holds start at 1
pub closed_none : (v : List ℕ) (s : Extent) (f c : ℕ) → (s.slots ≡ 0 → f ≡ 1) → closed_of v s f c ≡ true → c ≡ 0 → f ≡ 1
unfolding closed_of
closed_none v s f c empty closed z = ⊎_elim
    (λ h. empty (omega (arith, eqb-true c s.slots h)))
    (λ h. ⊎_elim
    (λ u. absurd (omega (arith, ltb-true 0 c (and_left (ltb 0 c) _ (and_right (ltb 1 f) _ u)))))
    (λ u. eqb-true f 1 (and_left (eqb f 1) _ u))
    (or_cases (ltb 1 f && (ltb 0 c && eqb (suc c) s.slots)) _ h))
    (or_cases (eqb c s.slots) _ closed)

-- Laws of a section: the highest number and the run of whole slots as loops find them, the run start, and what follows a run.
use mathlib.Core.Path.{◌≡◌, refl, sym, ap, ◌∙◌}
use mathlib.Core.Bool.{Bool, true, false, cond, ◌&&◌, ◌||◌, not}
use mathlib.Core.List.{List, []}
use Prim.Native.Nat.{ℕ, zero, suc, max, ◌+◌, ◌-◌, ◌*◌, ◌%◌, ◌≤◌, ◌<◌}
use native.Mathlib.Decide.{dec_lt}
use native.Mathlib.Nat.{mod-lt, mod-eq_of_lt, mod_self, mod-add-mod, mul-le-mul_left, mul-zero, mul-sub}
use native.Mathlib.Numerals.{add-one, add-two}
use native.Mathlib.Omega.{arith}
use lib.Dec.{eqb}
use lib.ListN.{length, take, drop, drop_of_length-le}
use borrow.Author.Tests.{le-leb, lt-leb}
use Rattle.laws.proofs.Checksums.{run_none, run-stops, run-goes, run-most}
use Rattle.laws.proofs.Parts.{part-lent, part_length, part-part}
use Rattle.laws.proofs.Zeros.{zeros, zero_is, part-zeros, zero-fails}
use Rattle.model.specs.Bytes.{le, field, part, all_zero}
use Rattle.model.specs.Checksum.{sealed, sealed_run, sum_holds, checksum_from}
use Rattle.model.specs.Tables.{larger}
use Rattle.model.specs.Geometry.{slot_of}
use Rattle.model.specs.Scan.{highest, rest_zero, count_in, first_in, ends_in}
use Rattle.section.specs.declared.Extent.{Extent}
use Rattle.section.specs.declared.Run.{Run}
use Rattle.section.specs.declared.Front.{Front}
use Rattle.section.specs.Section.{front_at, front_in, run_in, slot_bytes, slots_in, highest_at}

-- ---- places

-- a slot of a section is in it
pub seat-room : (w L i : ℕ) → i < L → w * i + w ≤ w * L
seat-room w L i h = let e : w * suc i ≡ w * i + w = omega arith in rw e at (mul-le-mul_left w h)

-- the slot behind a slot
pub after_last : (i L : ℕ) → i + 1 ≡ L → 0 ≡ (i + 1) % L
after_last i L e = rw e (sym (mod_self L))

pub after-other : (i L : ℕ) → i < L → (i + 1 ≡ L → ⊥) → i + 1 ≡ (i + 1) % L
after-other i L h n = sym (mod-eq_of_lt (omega (arith, n)))

-- the slot of the number at place i of a run from f on, of L slots, which the code calls M
module _ (L M f : ℕ) (e : M ≡ L) where
  pub slot-starts : (slot : ℕ) → (1 ≤ M → slot ≡ (f - 1) % M) → 1 ≤ L → slot ≡ (f + 0 - 1) % L
  slot-starts slot h some =
      let q : f - 1 ≡ f + 0 - 1 = omega arith in
      h (omega (arith, e)) ∙ ap (λ (x : ℕ). (f - 1) % x) e ∙ ap (λ (x : ℕ). x % L) q

  module _ (i slot : ℕ) (h : slot ≡ (f + i - 1) % L) where
    pub slot-low : 1 ≤ L → slot < M
    slot-low some = let m : (f + i - 1) % L < L = mod-lt (f + i - 1) some in omega (arith, e, h)

    pub slot_next : (r : ℕ) → 1 ≤ f → r ≡ (slot + 1) % M → r ≡ (f + (i + 1) - 1) % L
    slot_next r low q =
        let t : f + i - 1 + 1 ≡ f + (i + 1) - 1 = omega arith in
        q ∙ ap (λ (x : ℕ). (slot + 1) % x) e ∙ ap (λ (x : ℕ). (x + 1) % L) h ∙ mod-add-mod (f + i - 1) L 1 ∙ ap (λ (x : ℕ). x % L) t

    pub slot-of : (n : ℕ) → n ≡ f + i → slot ≡ (n - 1) % L
    slot-of n q = h ∙ ap (λ (x : ℕ). (x - 1) % L) (sym q)

-- ---- the highest number

pub none : (c : ℕ) (v : List ℕ) (at : ℕ) → 0 ≡ highest_at c v at 0
unfolding highest
none c v at = refl

max-larger : (a b : ℕ) → max a b ≡ larger a b
max-larger a b = elim (dec_lt b a) [ yes y ↦ rw (lt-leb a b y) (omega arith) | no z ↦ rw (le-leb a b (omega arith)) (omega arith) ]

-- one more slot
module _ (c : ℕ) (v : List ℕ) (at k top x : ℕ) (h : top ≡ highest_at c v at k) where
  pub one_more : x ≡ cond (sealed c (part v (at + (c + 4) * k) (c + 4))) (field 4 0 (part v (at + (c + 4) * k) (c + 4))) 0
      → max top x ≡ highest_at c v at (k + 1)
  unfolding highest
  one_more q =
      let s : suc k - 1 ≡ k = omega arith in
      rw (max-larger, add-one, s, ← h, ← q)

  -- which is whole
  pub one-whole : sealed c (part v (at + (c + 4) * k) (c + 4)) ≡ true → x ≡ field 4 0 (part v (at + (c + 4) * k) (c + 4))
      → max top x ≡ highest_at c v at (k + 1)
  one-whole t q = one_more (rw t q)

-- ---- the run of whole slots

-- k of `most` slots are whole
pub record Whole (c : ℕ) (v : List ℕ) (at most k : ℕ) : Type 0 where
  pub below : k ≤ most
  pub left : k + sealed_run c (most - k) v (at + (c + 4) * k) ≡ sealed_run c most v at

module _ (c : ℕ) (v : List ℕ) (at most : ℕ) where
  pub whole-none : Whole c v at most 0
  whole-none =
      let z : most - 0 ≡ most = omega arith in
      let e : at + (c + 4) * 0 ≡ at = omega arith in
      record { below = omega arith; left = rw (z, e) (omega arith) }

  module _ (k : ℕ) (w : Whole c v at most k) where
    pub whole-all : most ≤ k → k ≡ sealed_run c most v at
    whole-all h =
        let z : most - k ≡ 0 = omega arith in
        let r : sealed_run c (most - k) v (at + (c + 4) * k) ≡ 0 = rw z (run_none c v (at + (c + 4) * k)) in
        omega (arith, w.left)

    module _ (h : k < most) where
      pub whole-stops : sealed c (part v (at + (c + 4) * k) (c + 4)) ≡ false → k ≡ sealed_run c most v at
      whole-stops t = omega (arith, w.left, run-stops c v (most - k) (at + (c + 4) * k) t)

      pub whole-on : sealed c (part v (at + (c + 4) * k) (c + 4)) ≡ true → Whole c v at most (k + 1)
      whole-on t =
          let from : ℕ = at + (c + 4) * k in
          let m : most - k ≡ suc (most - (k + 1)) = omega arith in
          let s : from + (c + 4) ≡ at + (c + 4) * (k + 1) = omega arith in
          let g : sealed_run c (most - k) v from ≡ suc (sealed_run c (most - (k + 1)) v (at + (c + 4) * (k + 1))) =
          ap (λ (x : ℕ). sealed_run c x v from) m ∙ run-goes c v (most - (k + 1)) from t
          ∙ ap (λ (x : ℕ). suc (sealed_run c (most - (k + 1)) v x)) s in
          record { below = omega arith; left = omega (arith, w.left) }

-- ---- the whole front

module _ (c : ℕ) (v : List ℕ) (at most : ℕ) where
  pub front-is : (k top : ℕ) → top ≡ highest_at c v at k
      → k ≡ sealed_run c most v at → ◌≡◌ {A = Front} (record { slots = k; top = top }) (front_at c v at most)
  front-is k top h e = λ i. record { slots = e i; top = (h ∙ ap (highest_at c v at) e) i }

  module _ (f : Front) (e : f ≡ front_at c v at most) where
    pub front-slots : f.slots ≡ sealed_run c most v at
    front-slots = ap (λ (x : Front). x.slots) e

    pub front-most : f.slots ≤ most
    front-most = omega (arith, front-slots, run-most c v most at)

-- ---- the slots past a run

module _ (size count n : ℕ) (h : n < count) where
  pub rest-fits : size * (n + 1) ≤ size * count
  rest-fits = mul-le-mul_left size (omega arith)

  pub rest_part : (v : List ℕ) (at : ℕ)
      → all_zero (take (at + size * count - (at + size * (n + 1))) (drop (at + size * (n + 1)) v)) ≡ rest_zero size count v at n
  unfolding rest_zero
  rest_part v at =
      let e : size * (count - (n + 1)) ≡ size * count - size * (n + 1) = mul-sub size count (n + 1) in
      ap all_zero (part-lent v (at + size * (n + 1)) (size * (count - (n + 1))) (at + size * count) (omega (arith, e, rest-fits)))

pub rest-none : (size count n : ℕ) (v : List ℕ) (at : ℕ) → count ≤ n → rest_zero size count v at n ≡ true
unfolding rest_zero part all_zero
rest-none size count n v at h = let e : count - (n + 1) ≡ 0 = omega arith in rw (e, mul-zero size)

-- ---- no bytes

take_none : (n : ℕ) → ◌≡◌ {A = List ℕ} (take n []) []
take_none zero = refl
take_none (suc n) = refl

drop-none : (n : ℕ) → ◌≡◌ {A = List ℕ} (drop n []) []
drop-none zero = refl
drop-none (suc n) = refl

torn-none : (c : ℕ) → false ≡ sealed c []
unfolding sum_holds checksum_from le
torn-none c = rw (take_none c, drop-none c)

-- a part past the end is not whole
pub none-whole : (v : List ℕ) (at c i : ℕ) → length v ≤ at → false ≡ sealed c (part v (at + (c + 4) * i) (c + 4))
unfolding part
none-whole v at c i h =
    let e : drop (at + (c + 4) * i) v ≡ [] = drop_of_length-le v {i = at + (c + 4) * i} (omega arith) in
    rw (e, take_none (c + 4)) (torn-none c)

-- ---- counts and starts

module _ (v : List ℕ) (s : Extent) where
  pub count-ring : (n : ℕ) → n ≡ highest_at s.size v s.at s.slots → s.ring ≡ true → n ≡ count_in v (slots_in v s)
  unfolding count_in
  count-ring n e t = rw t e

  pub count-run : (n : ℕ) → n ≡ sealed_run s.size s.slots v s.at → s.ring ≡ false → n ≡ count_in v (slots_in v s)
  unfolding count_in
  count-run n e t = rw t e

  pub held-is : (f n w : ℕ) → f ≡ first_in (slots_in v s) n → n ≡ count_in v (slots_in v s) → w ≡ front_in v s
      → ◌≡◌ {A = Run} (record { first = f; count = n; front = w }) (run_in v s)
  held-is f n w ef en ew = λ i. record { first = (ef ∙ ap (first_in (slots_in v s)) en) i; count = en i; front = ew i }

  pub front_low : (f : Front) → f ≡ front_at s.size v s.at s.slots → f.slots ≤ front_in v s
  front_low f e = omega (arith, front-slots s.size v s.at s.slots f e)

  pub first_one : (n : ℕ) → s.ring ≡ false → 1 ≡ first_in (slots_in v s) n
  unfolding first_in
  first_one n t = rw t

  module _ (n below : ℕ) (b : Bool) (e : below ≡ n - s.slots) (q : b ≡ sealed s.size (slot_bytes v s (below % s.slots)))
      (t : s.ring ≡ true) where
    -- the slot of the number after those below
    seat : slot_of s.slots (suc below) - 1 ≡ below % s.slots
    seat = let z : suc below - 1 ≡ below = omega arith in rw z (omega arith)

    pub first-whole : b ≡ true → below + 1 ≡ first_in (slots_in v s) n
    unfolding first_in
    first-whole h = rw (t, ← e, seat, ← q, h) (add-one below)

    pub first-torn : b ≡ false → below + 2 ≡ first_in (slots_in v s) n
    unfolding first_in
    first-torn h = rw (t, ← e, seat, ← q, h) (add-two below)

  -- ---- what follows a run

  pub ends-past : (f n : ℕ) → s.slots ≤ n → true ≡ ends_in v (slots_in v s) f n
  unfolding ends_in
  ends-past f n h = rw (le-leb s.slots n h, rest-none (s.size + 4) s.slots n v s.at h)

  pub ends-here : (f n : ℕ) (w r : Bool) → n < s.slots → w ≡ sealed s.size (slot_bytes v s (n % s.slots))
      → r ≡ rest_zero (s.size + 4) s.slots v s.at n → ((not w && (eqb n 0 || eqb f 1)) && r) ≡ ends_in v (slots_in v s) f n
  unfolding ends_in
  ends-here f n w r h ew er =
      let q : w ≡ sealed s.size (slot_bytes v s n) = ew ∙ ap (λ (k : ℕ). sealed s.size (slot_bytes v s k)) (mod-eq_of_lt h) in
      let z : suc n - 1 ≡ n = omega arith in
      rw (lt-leb s.slots n h, z, q, er)

-- ---- the slots past a run

-- a slot in what is zero is not whole
pub zero-torn : (c count n i at : ℕ) (v : List ℕ) → at + (c + 4) * count ≤ length v → n < i → i < count
    → rest_zero (c + 4) count v at n ≡ true → sealed c (part v (at + (c + 4) * i) (c + 4)) ≡ false
unfolding rest_zero
zero-torn c count n i at v room above below h =
    let w : ℕ = c + 4 in
    let m : ℕ = w * (count - (n + 1)) in
    let j : ℕ = w * (i - (n + 1)) in
    let em : m ≡ w * count - w * (n + 1) = mul-sub w count (n + 1) in
    let ej : j ≡ w * i - w * (n + 1) = mul-sub w i (n + 1) in
    let fi : w * (n + 1) ≤ w * i = mul-le-mul_left w (omega arith) in
    let fc : w * i + w ≤ w * count = seat-room w count i below in
    let r : List ℕ = part v (at + w * (n + 1)) m in
    let l : length r ≡ m = part_length v (at + w * (n + 1)) m (omega arith) in
    let z : r ≡ zeros m = zero_is r h ∙ ap zeros l in
    let e : at + w * (n + 1) + j ≡ at + w * i = omega arith in
    let p : part v (at + w * i) w ≡ zeros w =
    ap (λ (k : ℕ). part v k w) (sym e) ∙ sym (part-part v (at + w * (n + 1)) m j w (omega arith))
    ∙ ap (λ (x : List ℕ). part x j w) z ∙ part-zeros m j w (omega arith) in
    ap (sealed c) p ∙ zero-fails c w (omega arith)

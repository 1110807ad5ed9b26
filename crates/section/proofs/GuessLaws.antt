-- Laws of a guess where a section's run starts, and of the test that a run is all that the section holds.
use mathlib.Core.Path.{◌≡◌, sym, ap, ◌∙◌}
use mathlib.Core.Bool.{Bool, true, false, not, ◌&&◌, ◌||◌, or-false}
use mathlib.Core.List.{List}
use Prim.Native.Nat.{ℕ, suc, ◌+◌, ◌-◌, ◌%◌, ◌≤◌, ◌<◌}
use native.Mathlib.Nat.{mod-lt, mod-add-mod, mod-eq-sub-mod}
use native.Mathlib.Omega.{arith}
use lib.Dec.{eqb, leb, ltb}
use borrow.Author.Tests.{eq-eqb, ne_eqb, eqb-false, leb-false, le-ltb, not-false}
use Rattle.laws.proofs.Tables.{true-not-false, or-neither}
use Rattle.model.specs.Scan.{rest_zero}
use Rattle.section.specs.declared.Extent.{Extent}
use Rattle.section.specs.declared.guess.Guess.{Guess}
use Rattle.section.specs.Sweep.{Guessed, closed_of}

-- ---- the guess

-- a ring with slots, and what the tests on them tell
pub record Rings (s : Extent) : Type 0 where
  pub ring : s.ring ≡ true
  pub some : 1 ≤ s.slots

pub rings : (s : Extent) → (not s.ring || eqb s.slots 0) ≡ false → Rings s
rings s h =
    let q = or-neither (not s.ring) (eqb s.slots 0) h in
    let n : s.slots ≡ 0 → ⊥ = eqb-false s.slots 0 q.1 in
    record { ring = not-false s.ring q.0; some = omega (arith, n) }

-- a number past the first turn, and one later is no number too large
pub record Past (s : Extent) (top : ℕ) : Type 0 where
  pub past : s.slots < top
  pub low : top < 4294960000

pub past-turn : (s : Extent) (top : ℕ) → (leb top s.slots || leb 4294960000 top) ≡ false → Past s top
past-turn s top h =
    let q = or-neither (leb top s.slots) (leb 4294960000 top) h in
    record { past = leb-false top s.slots q.0; low = leb-false 4294960000 top q.1 }

-- a ring that turned: slot 0 holds number `top`, and the slots from the seam on, if any, the numbers of the turn before
module _ (s : Extent) (top seam : ℕ) (r : Rings s) (p : Past s top) (even : (top - 1) % s.slots ≡ 0)
    (some : 1 ≤ seam) (most : seam ≤ s.slots) where
  seam-slot : (slot : ℕ) → slot ≡ (seam - 1 + 1) % s.slots → slot ≡ (top - s.slots + seam - 1) % s.slots
  seam-slot slot e =
      let L : ℕ = s.slots in
      let n : top - L + seam - 1 ≡ (top - 1 - L) + seam = omega (arith, p.past) in
      let z : (top - 1 - L) % L ≡ 0 = sym (mod-eq-sub-mod (omega (arith, p.past))) ∙ even in
      let m : ((top - 1 - L) % L + seam) % L ≡ (seam - 1 + 1) % L =
      ap (λ (x : ℕ). (x + seam) % L) z ∙ ap (λ (x : ℕ). x % L) (omega arith) in
      e ∙ sym (ap (λ (x : ℕ). x % L) n ∙ sym (mod-add-mod (top - 1 - L) L seam) ∙ m)

  pub guess-seam : (slot : ℕ) → slot ≡ (seam - 1 + 1) % s.slots → Guessed s (record { slot = slot; first = top - s.slots + seam })
  guess-seam slot e =
      record {
        some = omega (arith, p.past);
        low = omega (arith, p.low);
        inside = λ h. let m : (seam - 1 + 1) % s.slots < s.slots = mod-lt (seam - 1 + 1) h in omega (arith, e);
        place = λ h. seam-slot slot e;
        plain = λ t. absurd (true-not-false r.ring t);
        none = λ t. absurd (omega (arith, r.some));
      }

-- one later
pub guess-later : (s : Extent) (u : Guess) → s.ring ≡ true → 1 ≤ s.slots → Guessed s u → u.first < 4294960000
    → (slot : ℕ) → slot ≡ (u.slot + 1) % s.slots → Guessed s (record { slot = slot; first = u.first + 1 })
guess-later s u ring have g low slot e =
    let L : ℕ = s.slots in
    let f : ℕ = u.first in
    let n : f - 1 + 1 ≡ f + 1 - 1 = omega (arith, g.some) in
    record {
      some = omega arith;
      low = omega arith;
      inside = λ h. let m : (u.slot + 1) % L < L = mod-lt (u.slot + 1) h in omega (arith, e);
      place = λ h. e ∙ ap (λ (x : ℕ). (x + 1) % L) (g.place h) ∙ mod-add-mod (f - 1) L 1 ∙ ap (λ (x : ℕ). x % L) n;
      plain = λ t. absurd (true-not-false ring t);
      none = λ t. absurd (omega arith);
    }

-- ---- the test

module _ (v : List ℕ) (s : Extent) (f c : ℕ) where
  pub closed-full : c ≡ s.slots → true ≡ closed_of v s f c
  unfolding closed_of
  closed-full e = rw (eq-eqb c s.slots e)

  module _ (short : c ≡ s.slots → ⊥) where
    pub closed-later : (b : Bool) → (f ≡ 1 → ⊥) → b ≡ (ltb 1 f && (ltb 0 c && eqb (c + 1) s.slots)) → b ≡ closed_of v s f c
    unfolding closed_of
    closed-later b h q =
        let e : c + 1 ≡ suc c = omega arith in
        q ∙ rw (e, ne_eqb c s.slots short, ne_eqb f 1 h) (sym (or-false _))

    pub closed-rest : (b : Bool) → f ≡ 1 → b ≡ rest_zero (s.size + 4) s.slots v s.at c → b ≡ closed_of v s f c
    unfolding closed_of
    closed-rest b e q = rw (ne_eqb c s.slots short, le-ltb 1 f (omega arith), eq-eqb f 1 e) q

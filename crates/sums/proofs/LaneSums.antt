-- Laws of sums in lanes. Terms one after the other, for both sums, and from them the steps of each.
use mathlib.Core.Path.{◌≡◌, refl, sym, ap, ◌∙◌}
use mathlib.Core.List.{List}
use Prim.Native.Nat.{ℕ, zero, suc, ◌+◌, ◌*◌, ◌%◌, ◌≤◌}
use native.Mathlib.Nat.{add-zero, add_assoc}
use native.Mathlib.Omega.{arith}
use lib.ListN.{length, drop, get_or}
use Rattle.laws.proofs.Checksums.{checksum-word-late, byte_sum-byte-late}
use Rattle.model.specs.Bytes.{field}
use Rattle.model.specs.Checksum.{checksum_from, byte_sum_from}
use Rattle.sums.specs.Words as words
use Rattle.sums.specs.Quads as quads
use Rattle.sums.specs.declared.lanes.Lanes.{Lanes}

-- ---- n terms from place i on, from o bytes behind it

-- the two sums after them; `term` gives the term at a place
unfoldable low-after : (ℕ → ℕ) → ℕ → ℕ → ℕ → ℕ → ℕ → ℕ
low-after term width i zero a o = a
low-after term width i (suc n) a o = low-after term width i n (a + term (i + o)) (o + width)

unfoldable high_after : (ℕ → ℕ) → ℕ → ℕ → ℕ → ℕ → ℕ → ℕ → ℕ
high_after term width i zero a b o = b
high_after term width i (suc n) a b o = high_after term width i n (a + term (i + o)) (b + (a + term (i + o))) (o + width)

unfoldable place_after : ℕ → ℕ → ℕ → ℕ
place_after width zero o = o
place_after width (suc n) o = place_after width n (o + width)

module _ (from : ℕ → ℕ → List ℕ → ℕ) (term : ℕ → ℕ) (width : ℕ) (s : List ℕ)
    (one : (a b i : ℕ) → i + width ≤ length s
    → from (a % 65535) (b % 65535) (drop i s) ≡ from ((a + term i) % 65535) ((b + (a + term i)) % 65535) (drop (i + width) s)) where
  terms : (n a b i o : ℕ) → i + o + n * width ≤ length s
      → from (a % 65535) (b % 65535) (drop (i + o) s)
      ≡ from (low-after term width i n a o % 65535) (high_after term width i n a b o % 65535) (drop (i + place_after width n o) s)
  unfolding low-after high_after place_after
  terms zero a b i o h = refl
  terms (suc n) a b i o h =
      let p : suc n * width ≡ width + n * width = omega arith in
      let q : i + o + width ≡ i + (o + width) = add_assoc i o width in
      one a b (i + o) (omega arith) ∙ (rw q (terms n (a + term (i + o)) (b + (a + term (i + o))) i (o + width) (omega arith)))

-- equal sums lead on in the same way
pub led : (from : ℕ → ℕ → List ℕ → ℕ) (l : List ℕ) {a a' b b' : ℕ} → a ≡ a' → b ≡ b'
    → from (a % 65535) (b % 65535) l ≡ from (a' % 65535) (b' % 65535) l
led from l p q = cc

-- ---- words

module _ (s : List ℕ) (i : ℕ) (l r : Lanes ℕ) (h : i + 8 ≤ length s) (e : words.Stepped s i l r) where
  four-words : (a b : ℕ)
      → checksum_from ((a + words.low l) % 65535) ((b + words.high l) % 65535) (drop i s)
      ≡ checksum_from ((a + words.low r) % 65535) ((b + 4 * a + words.high r) % 65535) (drop (i + 8) s)
  unfolding low-after high_after place_after
  four-words a b =
      let z : i + 0 ≡ i = add-zero i in
      let w : field 2 (i + 0) s ≡ field 2 i s = ap (λ (p : ℕ). field 2 p s) z in
      let x = a + words.low l in
      let y = b + words.high l in
      let term : ℕ → ℕ = λ p. field 2 p s in
      let p : low-after term 2 i 4 x 0 ≡ a + words.low r = omega (arith, w) in
      let q : high_after term 2 i 4 x y 0 ≡ b + 4 * a + words.high r = omega (arith, w) in
      ap (λ (p : ℕ). checksum_from (x % 65535) (y % 65535) (drop p s)) (sym z)
      ∙ terms checksum_from term 2 s (λ u v p k. checksum-word-late u v p s (omega arith)) 4 x y i 0 (omega arith)
      ∙ led checksum_from (drop (i + 8) s) p q

  pub word-step : words.Passed s i l (i + 8) r 4
  word-step = record { same = four-words }

-- two stretches, one behind the other
pub passed_on : {s : List ℕ} {i j j' n n' k k' k'' : ℕ} {l m r : Lanes ℕ} → words.Passed s i l j m k → words.Passed s j' m n r k'
    → j ≡ j' → n ≡ n' → ((a : ℕ) → k * a + k' * a ≡ k'' * a) → words.Passed s i l n' r k''
passed_on {s} {i} {j} {j'} {n} {n'} {k} {k'} {k''} {l} {m} {r} p q e f g =
    record {
      same = λ a b.
          let t : b + k * a + k' * a ≡ b + k'' * a = add_assoc b (k * a) (k' * a) ∙ ap (λ (x : ℕ). b + x) (g a) in
          p.same a b
          ∙ ap (λ (x : ℕ). checksum_from ((a + words.low m) % 65535) ((b + k * a + words.high m) % 65535) (drop x s)) e
          ∙ q.same a (b + k * a)
          ∙ ap (λ (x : ℕ). checksum_from ((a + words.low r) % 65535) ((b + k * a + k' * a + words.high r) % 65535) (drop x s)) f
          ∙ ap (λ (x : ℕ). checksum_from ((a + words.low r) % 65535) ((x + words.high r) % 65535) (drop n' s)) t;
    }

-- six steps
module _ (s : List ℕ) (i : ℕ) (l₀ l₁ l₂ l₃ l₄ l₅ l₆ : Lanes ℕ) (h : i + 48 ≤ length s) where
  pub six-steps : words.Stepped s i l₀ l₁ → words.Stepped s (i + 8) l₁ l₂ → words.Stepped s (i + 16) l₂ l₃ → words.Stepped s (i + 24) l₃ l₄
      → words.Stepped s (i + 32) l₄ l₅ → words.Stepped s (i + 40) l₅ l₆ → words.Passed s i l₀ (i + 48) l₆ 24
  six-steps e₁ e₂ e₃ e₄ e₅ e₆ =
      let p₁ = word-step s i l₀ l₁ (omega arith) e₁ in
      let p₂ = word-step s (i + 8) l₁ l₂ (omega arith) e₂ in
      let p₃ = word-step s (i + 16) l₂ l₃ (omega arith) e₃ in
      let p₄ = word-step s (i + 24) l₃ l₄ (omega arith) e₄ in
      let p₅ = word-step s (i + 32) l₄ l₅ (omega arith) e₅ in
      let p₆ = word-step s (i + 40) l₅ l₆ (omega arith) e₆ in
      let q₂ : words.Passed s i l₀ (i + 16) l₂ 8 = passed_on p₁ p₂ refl (omega arith) (λ (a : ℕ). omega arith) in
      let q₃ : words.Passed s i l₀ (i + 24) l₃ 12 = passed_on q₂ p₃ refl (omega arith) (λ (a : ℕ). omega arith) in
      let q₄ : words.Passed s i l₀ (i + 32) l₄ 16 = passed_on q₃ p₄ refl (omega arith) (λ (a : ℕ). omega arith) in
      let q₅ : words.Passed s i l₀ (i + 40) l₅ 20 = passed_on q₄ p₅ refl (omega arith) (λ (a : ℕ). omega arith) in
      passed_on q₅ p₆ refl (omega arith) (λ (a : ℕ). omega arith)

-- ---- bytes

-- eight bytes from place i on: four for the lanes l, four for the lanes m
module _ (s : List ℕ) (i j : ℕ) (l l' m m' : Lanes ℕ) (k : j ≡ i + 4) (h : i + 8 ≤ length s) (e : quads.Stepped s i l l')
    (f : quads.Stepped s j m m') where
  pub eight-bytes : (a b : ℕ)
      → byte_sum_from ((a + quads.low l + quads.low m) % 65535) ((b + quads.high l + quads.high m + 4 * quads.low l) % 65535) (drop i s)
      ≡ byte_sum_from ((a + quads.low l' + quads.low m') % 65535)
      ((b + 8 * a + quads.high l' + quads.high m' + 4 * quads.low l') % 65535) (drop (i + 8) s)
  unfolding low-after high_after place_after
  eight-bytes a b =
      let z : i + 0 ≡ i = add-zero i in
      let at : (p q : ℕ) → p ≡ q → get_or s p 0 ≡ get_or s q 0 = λ p q r. ap (λ (n : ℕ). get_or s n 0) r in
      let w₀ = at (i + 0) i z in
      let w₄ = at j (i + 4) k in
      let w₅ = at (j + 1) (i + 5) (omega arith) in
      let w₆ = at (j + 2) (i + 6) (omega arith) in
      let w₇ = at (j + 3) (i + 7) (omega arith) in
      let x = a + quads.low l + quads.low m in
      let y = b + quads.high l + quads.high m + 4 * quads.low l in
      let term : ℕ → ℕ = λ p. get_or s p 0 in
      let p : low-after term 1 i 8 x 0 ≡ a + quads.low l' + quads.low m' = omega arith in
      let q : high_after term 1 i 8 x y 0 ≡ b + 8 * a + quads.high l' + quads.high m' + 4 * quads.low l' = omega arith in
      ap (λ (p : ℕ). byte_sum_from (x % 65535) (y % 65535) (drop p s)) (sym z)
      ∙ terms byte_sum_from term 1 s (λ u v p k. byte_sum-byte-late u v p s (omega arith)) 8 x y i 0 (omega arith)
      ∙ led byte_sum_from (drop (i + 8) s) p q

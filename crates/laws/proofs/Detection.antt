-- The byte sum detects every change within one word: two lists of bytes that differ in two adjacent bytes alone have different sums. No
-- bound on the list is needed: from the end on, equal values give equal sums (`tail-cancels`), and before the word both sums are the same.
use mathlib.Core.Path.{◌≡◌, refl, sym, ap, ◌∙◌}
use mathlib.Core.Bool.{true, false, and-false}
use mathlib.Core.List.{List, [], ◌∷◌, ◌++◌}
use Prim.Native.Nat.{ℕ, zero, suc, ◌+◌, ◌-◌, ◌%◌, ◌≤◌, ◌<◌}
use native.Mathlib.Nat.{mod-lt}
use native.Mathlib.Numerals.{add-one, add-two}
use native.Mathlib.Omega.{arith}
use lib.Dec.{eqb, lit<, lit≤}
use lib.ListN.{length, take, drop, replicate, take-append-drop}
use lib.Seq.{drop-cons, length-take-le, take-append-add}
use borrow.Author.Tests.{eqb-true, eq-eqb, ne_eqb}
use Rattle.laws.proofs.Tables.{by_cases, true-not-false}
use Rattle.laws.proofs.Parts.{part-after, splice-length}
use Rattle.laws.proofs.Checksums.{checksum-most, byte_sum-most}
use Rattle.laws.proofs.Items.{by_bytes}
use Rattle.laws.proofs.Zeros.{neither-sum}
use Rattle.laws.proofs.Places.{field-of-part}
use Rattle.model.specs.Bytes.{le, field, byte_at, splice}
use Rattle.model.specs.Geometry.{Place, page_at, slot_at, record_at, note_at, geometry_of}
use Rattle.model.specs.Checksum.{checksum, byte_sum, byte_sum_from, sum_holds, image_sealed}
use Rattle.model.specs.Item.{image_page, valid_image, valid_somewhere}
use Rattle.model.specs.Index.{slot_used}
use Rattle.model.specs.Scan.{index_of}
use Rattle.model.specs.Repair.{View, class_of, class_in}
use Rattle.model.specs.Passes.{is_image, passes_at, valid_as_noted}
use Rattle.model.specs.History.{Machine, damage, allowed}
use Rattle.model.specs.Detection.{with_word, WordError, ImageError, Detection}
use Rattle.model.specs.declared.{geometry.Geometry.Geometry, state.Entry.Entry, answer.Class.TheVariants.Failed}

-- ---- sums

-- a remainder's summand is known from the other
cancel : (c s t : ℕ) → s < 65535 → t < 65535 → (c + s) % 65535 ≡ (c + t) % 65535 → s ≡ t
cancel c s t hs ht e = omega arith

cancel-same : (c c' s t : ℕ) → s < 65535 → t < 65535 → c ≡ c' → (s + c) % 65535 ≡ (t + c') % 65535 → s ≡ t
cancel-same c c' s t hs ht q e = omega arith

cancel-known : (c c' s t : ℕ) → s < 65535 → t < 65535 → c ≡ c' → (c + s) % 65535 ≡ (c' + t) % 65535 → s ≡ t
cancel-known c c' s t hs ht q e = omega arith

-- equal values over the same bytes come from equal sums
tail-cancels : (r : List ℕ) (a b a' b' : ℕ) → a < 65535 → b < 65535 → a' < 65535 → b' < 65535
    → byte_sum_from a b r ≡ byte_sum_from a' b' r → (a ≡ a') × (b ≡ b')
unfolding byte_sum_from
tail-cancels [] a b a' b' ha hb ha' hb' e = (omega arith, omega arith)
tail-cancels (x ∷ r) a b a' b' ha hb ha' hb' e =
    let s = tail-cancels r _ _ _ _ (mod-lt _ (lit< tt)) (mod-lt _ (lit< tt)) (mod-lt _ (lit< tt)) (mod-lt _ (lit< tt)) e in
    let ea : a ≡ a' = omega (arith, s.0) in
    (ea, omega (arith, s.0, s.1))

-- two bytes before the same bytes
pair : (a b x y u w : ℕ) (r : List ℕ) → x < 256 → y < 256 → u < 256 → w < 256
    → byte_sum_from a b (x ∷ (y ∷ r)) ≡ byte_sum_from a b (u ∷ (w ∷ r)) → (x ≡ u) × (y ≡ w)
unfolding byte_sum_from
pair a b x y u w r hx hy hu hw e =
    let m : (k : ℕ) → k % 65535 < 65535 = λ k. mod-lt k (lit< tt) in
    let A : ℕ = (a + x) % 65535 in
    let A' : ℕ = (a + u) % 65535 in
    let B : ℕ = (b + A) % 65535 in
    let B' : ℕ = (b + A') % 65535 in
    let s = tail-cancels r ((A + y) % 65535) ((B + (A + y) % 65535) % 65535) ((A' + w) % 65535) ((B' + (A' + w) % 65535) % 65535)
    (m _) (m _) (m _) (m _) e in
    let e_b : B ≡ B' = cancel-same ((A + y) % 65535) ((A' + w) % 65535) B B' (m _) (m _) s.0 s.1 in
    let e_a : A ≡ A' = cancel b A A' (m _) (m _) e_b in
    let ex : x ≡ u = cancel a x u (omega arith) (omega arith) e_a in
    (ex, cancel-known A A' y w (omega arith) (omega arith) e_a s.0)

-- and anywhere
anywhere : (l : List ℕ) (a b x y u w : ℕ) (r : List ℕ) → x < 256 → y < 256 → u < 256 → w < 256
    → byte_sum_from a b (l ++ (x ∷ (y ∷ r))) ≡ byte_sum_from a b (l ++ (u ∷ (w ∷ r))) → (x ≡ u) × (y ≡ w)
unfolding byte_sum_from
anywhere [] a b x y u w r hx hy hu hw e = pair a b x y u w r hx hy hu hw e
anywhere (z ∷ l) a b x y u w r hx hy hu hw e = anywhere l _ _ x y u w r hx hy hu hw e

-- ---- an item

module _ (x : List ℕ) (at : ℕ) (fits : at + 2 ≤ length x) where
  -- the word that stands there
  word_same : with_word x at (byte_at x at) (byte_at x (at + 1)) ≡ x
  unfolding splice
  word_same =
      let h₁ : at < length x = omega arith in
      let h₂ : suc at < length x = omega arith in
      let e : drop at x ≡ byte_at x at ∷ (byte_at x (at + 1) ∷ drop (at + 2) x) =
      rw (add-one, add-two) (drop-cons x at 0 h₁ ∙ ap (λ (l : List ℕ). byte_at x at ∷ l) (drop-cons x (suc at) 0 h₂)) in
      ap (λ (l : List ℕ). take at x ++ l) (sym e) ∙ take-append-drop at x

  module _ (n : ℕ) (ahead : at + 2 ≤ n) where
    word-front : (u w : ℕ) → take n (with_word x at u w) ≡ take at x ++ (u ∷ (w ∷ take (n - (at + 2)) (drop (at + 2) x)))
    unfolding splice
    word-front u w =
        let k : ℕ = n - (at + 2) in
        let l : length (take at x) ≡ at = length-take-le at x (omega arith) in
        let e : n ≡ length (take at x) + suc (suc k) = omega (arith, l) in
        ap (λ (i : ℕ). take i (with_word x at u w)) e ∙ take-append-add (take at x) (u ∷ (w ∷ drop (at + 2) x)) (suc (suc k))

    -- the check stands behind it
    word-check : (u w : ℕ) → field 4 n (with_word x at u w) ≡ field 4 n x
    word-check u w = field-of-part 4 n (with_word x at u w) ∙ ap (le 4) (part-after x at (u ∷ w ∷ []) fits n 4 ahead)
        ∙ sym (field-of-part 4 n x)

    -- equal sums of the bytes ahead of the check are those of equal words
    word-is : (u w : ℕ) → byte_at x at < 256 → byte_at x (at + 1) < 256 → u < 256 → w < 256
        → byte_sum (take n x) ≡ byte_sum (take n (with_word x at u w)) → with_word x at u w ≡ x
    word-is u w hx hy hu hw e =
        let x₀ = byte_at x at in
        let x₁ = byte_at x (at + 1) in
        let f = ap (take n) (sym word_same) ∙ word-front x₀ x₁ in
        let s = anywhere (take at x) 1 0 x₀ x₁ u w (take (n - (at + 2)) (drop (at + 2) x)) hx hy hu hw
        (sym (ap byte_sum f) ∙ e ∙ ap byte_sum (word-front u w)) in
        ap (λ (k : ℕ). with_word x at k w) (sym s.0) ∙ ap (λ (k : ℕ). with_word x at x₀ k) (sym s.1) ∙ word_same

item-detects : (n : ℕ) (x : List ℕ) (at u w : ℕ) → WordError n x at u w → sum_holds byte_sum n x ≡ true
    → sum_holds byte_sum n (with_word x at u w) ≡ false
unfolding sum_holds
item-detects n x at u w d right =
    let fits : at + 2 ≤ length x = omega (arith, d.size, d.ahead) in
    let e : byte_sum (take n x) ≡ field 4 n x = eqb-true _ _ right in
    ne_eqb _ _ (λ q. d.changed (word-is x at fits n d.ahead u w d.was_bytes.0 d.was_bytes.1 d.are_bytes.0 d.are_bytes.1
    (e ∙ sym (word-check x at fits n d.ahead u w) ∙ sym q)))

-- ---- an image under the second heading

module _ (g : Geometry) (x : List ℕ) (at u w : ℕ) (d : ImageError g x at u w) where
  image-detects : image_sealed g (with_word x at u w) ≡ false
  image-detects =
      by_bytes g (with_word x at u w) d.tag ∙ item-detects 252 x at u w d.error (sym (by_bytes g x d.tag) ∙ d.right)

  image-invalid : (p : ℕ) → valid_image g p (with_word x at u w) ≡ false
  unfolding valid_image
  image-invalid p = rw image-detects

  image-class : (p : ℕ) (v : View) → v.own ≡ with_word x at u w → class_in g p v ≡ Failed
  unfolding class_of
  image-class p v e = rw (e, image-invalid p)

  image-size : length (with_word x at u w) ≡ 256
  image-size = splice-length x at (u ∷ w ∷ []) (omega (arith, d.error.ahead, d.size)) ∙ d.size

  -- it passes in no place
  none-noted : (b p : ℕ) (es : List Entry) → valid_as_noted g b (with_word x at u w) p es ≡ false
  unfolding valid_as_noted
  none-noted b p [] = refl
  none-noted b p (e ∷ es) = rw (image-invalid (suc p), and-false (eqb e.slot b), none-noted b (suc p) es)

  nowhere : (index : List Entry) (place : Place) → is_image g place ≡ true → passes_at g index place (with_word x at u w) ≡ false
  unfolding valid_somewhere
  nowhere index (page_at p) h = image-invalid p
  nowhere index (slot_at b) h = by_cases (slot_used b index)
      (λ t. rw t (none-noted b 0 index))
      (λ t. rw (t, image-invalid (image_page (with_word x at u w)), and-false))
  nowhere index (record_at n) h = absurd (true-not-false h refl)
  nowhere index (note_at n) h = absurd (true-not-false h refl)

image-damages : (m : Machine) (x : List ℕ) (at u w : ℕ) → ImageError (geometry_of m.volume) x at u w
    → (place : Place) → is_image (geometry_of m.volume) place ≡ true → allowed m (damage place (with_word x at u w)) ≡ true
unfolding allowed
image-damages m x at u w d place h =
    let g = geometry_of m.volume in
    rw (h, eq-eqb _ _ (image-size g x at u w d), nowhere g x at u w d (index_of g m.volume) place h)

-- ---- an erased item: its check reads 2 ^ 32 - 1, which no sum reaches

erased-field : (n m : ℕ) → n + 4 ≤ m → field 4 n (replicate m 0xFF) ≡ 4294967295
unfolding le
erased-field zero m h = let e : m ≡ suc (suc (suc (suc (m - 4)))) = omega arith in rw e
erased-field (suc n) zero h = absurd (omega arith)
erased-field (suc n) (suc m) h = erased-field n m (omega arith)

erased-fails : (sum : List ℕ → ℕ) → ((xs : List ℕ) → sum xs < 4294901760) → (n m : ℕ) → n + 4 ≤ m
    → sum_holds sum n (replicate m 0xFF) ≡ false
unfolding sum_holds
erased-fails sum most n m h =
    let xs : List ℕ = take n (replicate m 0xFF) in
    ne_eqb (sum xs) (field 4 n (replicate m 0xFF))
    (λ (q : sum xs ≡ field 4 n (replicate m 0xFF)). too-high (sum xs) (q ∙ erased-field n m h) (most xs))
  where
    too-high : (k : ℕ) → k ≡ 4294967295 → k < 4294901760 → ⊥
    too-high k e l = omega arith

pub detection : Detection
detection =
    record {
      item = item-detects;
      image = image-detects;
      invalid = image-invalid;
      class = image-class;
      damages = image-damages;
      erased = λ n m h. (erased-fails checksum checksum-most n m h, erased-fails byte_sum byte_sum-most n m h);
      erased_image = λ g. neither-sum g (replicate 256 0xFF) (erased-fails checksum checksum-most 252 256 (lit≤ tt))
          (erased-fails byte_sum byte_sum-most 252 256 (lit≤ tt));
    }

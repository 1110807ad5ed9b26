-- Laws of a record's payload looked at by eights: what is left from a place on, of the 60 bytes before the checksum.
use mathlib.Core.Path.{◌≡◌, sym, ap, ◌∙◌}
use mathlib.Core.Bool.{true, false}
use mathlib.Core.List.{List}
use Prim.Native.Nat.{ℕ, ◌+◌, ◌-◌, ◌≤◌, ◌<◌}
use native.Mathlib.Omega.{arith}
use lib.Dec.{eqb}
use lib.ListN.{length, take, drop, get_or, length-drop}
use lib.Seq.{drop-drop, get_or-take, length-take-le}
use Rattle.laws.proofs.Fields.{field-take}
use Rattle.laws.proofs.Parts.{drop-take}
use Rattle.laws.proofs.Tables.{by_cases}
use Rattle.laws.proofs.Zeros.{zero_is, drop-zeros, le-zeros}
use Rattle.codec.proofs.Runs.{zero-on, zero-not, zero-end, zero_field, last-is}
use Rattle.model.specs.Bytes.{le, field, part, all_zero}

-- ---- what is left of a list from place i on, where all from place a on is asked for

module _ (xs : List ℕ) (a : ℕ) where
  -- the same bytes, counted from place a on
  again : (i : ℕ) → a ≤ i → drop (i - a) (drop a xs) ≡ drop i xs
  again i h = let k : a + (i - a) ≡ i = omega arith in drop-drop (i - a) a xs ∙ rw k

  -- a field that is not 0
  field-not : (n i : ℕ) → a ≤ i → i ≤ length xs → (field n i xs ≡ 0 → ⊥) → all_zero (drop a xs) ≡ false
  field-not n i h l z =
      let k : length (drop a xs) ≡ length xs - a = length-drop a xs in
      by_cases (all_zero (drop a xs))
      (λ t.
      absurd (z (ap (le n) (sym (again i h) ∙ (ap (drop (i - a)) (zero_is (drop a xs) t)
      ∙ drop-zeros (i - a) (length (drop a xs)) (omega (arith, k)))) ∙ le-zeros n (length (drop a xs) - (i - a)))))
      (λ t. t)

  -- the last eight bytes, from place m on, decide
  last-from : (m i : ℕ) → m + 8 ≡ length xs → a ≤ m → m ≤ i → all_zero (drop i xs) ≡ all_zero (drop a xs)
      → eqb (field 8 m xs) 0 ≡ all_zero (drop a xs)
  last-from m i e h k z =
      let l : length (drop a xs) ≡ length xs - a = length-drop a xs in
      let same : all_zero (drop (i - a) (drop a xs)) ≡ all_zero (drop a xs) = ap all_zero (again i (omega arith)) ∙ z in
      ap (λ (l : List ℕ). eqb (le 8 l) 0) (sym (again m h)) ∙ last-is (drop a xs) (m - a) (omega (arith, l)) (i - a) (omega arith) same

-- ---- a record: n bytes before the end of its payload

module _ (r : List ℕ) (len : 60 ≤ length r) where
  cut : length (take 60 r) ≡ 60
  cut = length-take-le 60 r (omega arith)

  pub left-part : (i n : ℕ) → i + n ≡ 60 → all_zero (drop i (take 60 r)) ≡ all_zero (part r i n)
  unfolding part
  left-part i n e = let k : 60 - i ≡ n = omega arith in ap all_zero (drop-take i 60 r) ∙ rw k

  -- one byte
  pub byte-on : (i : ℕ) → i < 60 → get_or r i 0 ≡ 0 → all_zero (drop i (take 60 r)) ≡ all_zero (drop (i + 1) (take 60 r))
  byte-on i h e = zero-on (take 60 r) i (omega (arith, cut)) (get_or-take 60 r i 0 h ∙ e)

  pub byte-not : (i : ℕ) → i < 60 → (get_or r i 0 ≡ 0 → ⊥) → all_zero (drop i (take 60 r)) ≡ false
  byte-not i h e = zero-not (take 60 r) i (omega (arith, cut)) (λ z. e (sym (get_or-take 60 r i 0 h) ∙ z))

  pub none_left : (i : ℕ) → 60 ≤ i → all_zero (drop i (take 60 r)) ≡ true
  none_left i h = zero-end (take 60 r) i (omega (arith, cut))

  -- eight bytes
  pub eight-on : (i : ℕ) → i + 8 ≤ 60 → field 8 i r ≡ 0 → all_zero (drop i (take 60 r)) ≡ all_zero (drop (i + 8) (take 60 r))
  eight-on i h e = zero_field 8 i (take 60 r) (omega (arith, cut)) (field-take 8 i 60 r h ∙ e)

  pub eight-not : (a i : ℕ) → a ≤ i → i + 8 ≤ 60 → (field 8 i r ≡ 0 → ⊥) → all_zero (drop a (take 60 r)) ≡ false
  eight-not a i l h e = field-not (take 60 r) a 8 i l (omega (arith, cut)) (λ z. e (sym (field-take 8 i 60 r h) ∙ z))

  pub eight-last : (a i : ℕ) → a ≤ 52 → 52 ≤ i → all_zero (drop i (take 60 r)) ≡ all_zero (drop a (take 60 r))
      → eqb (field 8 52 r) 0 ≡ all_zero (drop a (take 60 r))
  eight-last a i h l z =
      ap (λ (x : ℕ). eqb x 0) (sym (field-take 8 52 60 r (omega arith))) ∙ last-from (take 60 r) a 52 i (omega (arith, cut)) h l z

-- The report of 66 numbers: the numbers written so far, and the outcome of a comparison that fills one.
use mathlib.Core.Path.{◌≡◌, refl, sym, ap, ◌∙◌}
use mathlib.Core.Bool.{Bool, true, false, cond, not, ◌&&◌}
use mathlib.Core.List.{List, [], ◌∷◌, ◌++◌, map, append_assoc, append-nil}
use Prim.Native.Nat.{ℕ, suc, ◌+◌, ◌≤◌, ◌<◌}
use native.Mathlib.Numerals.{add-one}
use native.Mathlib.Omega.{arith}
use mir.Val.{bool_byte}
use lib.Dec.{eqb}
use lib.ListN.{length, take, set, get_or, length-map, length-set, get_or-map}
use lib.Seq.{take-suc, take-suc-set, take_all}
use borrow.Author.Tests.{eq-eqb, ne_eqb}
use Rattle.model.specs.Tables.{first_of}
use Rattle.model.specs.Geometry.{valid_volume}
use Rattle.reports.specs.Mirror.{kind_number, count_number, flag, numbers_of, later_rows, mirror_rows, mirror_of, compare_rows, compare_of}
use Rattle.reports.specs.declared.reading.Compared.{Compared}
use Rattle.compare.proofs.Outcomes.{either-row, first-row, second-row}

-- ---- the numbers

-- the two at the front
fronted : (r : List ℕ) (a b : ℕ) → 2 ≤ length r → take 2 (set (set r 0 a) 1 b) ≡ a ∷ b ∷ []
fronted [] a b h = absurd (omega arith)
fronted (x ∷ []) a b h = absurd (omega arith)
fronted (x ∷ (y ∷ r)) a b h = refl

pub flag-is : (b : Bool) → bool_byte b ≡ flag b
flag-is true = refl
flag-is false = refl

-- those of the pages passed: behind two, i flags
abbrev pub Flagged : List ℕ → List Bool → List ℕ → ℕ → Type 0
Flagged start xs r i = (length r ≡ 66) × (take (i + 2) r ≡ take 2 start ++ take i (map flag xs))

pub flagged-none : (r : List ℕ) (xs : List Bool) → length r ≡ 66 → Flagged r xs r 0
flagged-none r xs e = (e, sym (append-nil (take 2 r)))

module _ (start : List ℕ) (xs : List Bool) (long : length xs ≡ 64) (r : List ℕ) (i : ℕ) where
  -- one more
  pub flagged-more : i < 64 → Flagged start xs r i → (n : ℕ) → n ≡ flag (get_or xs i false) → Flagged start xs (set r (i + 2) n) (i + 1)
  flagged-more l h n e =
      let m : (i + 1) + 2 ≡ suc (i + 2) = omega arith in
      let q : get_or (map flag xs) i 0 ≡ n = get_or-map flag xs i false ∙ sym e in (
        length-set r (i + 2) n ∙ h.0,
        ap (λ (k : ℕ). take k (set r (i + 2) n)) m ∙ take-suc-set r (i + 2) n (omega (arith, h.0))
            ∙ ap (λ (x : List ℕ). x ++ (n ∷ [])) h.1
            ∙ append_assoc (take 2 start) (take i (map flag xs)) (n ∷ [])
            ∙ ap (λ (x : List ℕ). take 2 start ++ x)
            (ap (λ (k : ℕ). take i (map flag xs) ++ (k ∷ [])) (sym q)
            ∙ sym (take-suc (map flag xs) i 0 (omega (arith, long, length-map xs flag)))
            ∙ ap (λ (k : ℕ). take k (map flag xs)) (sym (add-one i))),
      )

  -- all
  pub flagged-all : 64 ≤ i → Flagged start xs r i → r ≡ take 2 start ++ map flag xs
  flagged-all l h =
      sym (take_all (i + 2) r (omega (arith, h.0))) ∙ h.1
      ∙ ap (λ (x : List ℕ). take 2 start ++ x) (take_all i (map flag xs) (omega (arith, long, length-map xs flag)))

-- the numbers are those of the comparison
pub told : (c : Compared) (r : List ℕ) (a b : ℕ) → 2 ≤ length r → a ≡ kind_number c.answer → b ≡ count_number c.answer
    → take 2 (set (set r 0 a) 1 b) ++ map flag c.touched ≡ numbers_of c
told c r a b h ea eb = ap (λ (x : List ℕ). x ++ map flag c.touched) (fronted r a b h) ∙ rw (ea, eb)

-- ---- the call

module _ (v w report : List ℕ) where
  pub left : (n : ℕ) → n ≡ first_of (compare_rows v w (length report)) → (n ≡ 0 → ⊥)
      → (n ≡ (compare_of v w report).refusal) × (report ≡ (compare_of v w report).report)
  unfolding compare_of
  left n e z = rw (ne_eqb (first_of (compare_rows v w (length report))) 0 (λ q. z (e ∙ q))) (e, refl)

  pub unread : (n : ℕ) → (n ≡ 0 → ⊥) → n ≡ cond (not (valid_volume v && valid_volume w)) 1 0
      → (n ≡ (compare_of v w report).refusal) × (report ≡ (compare_of v w report).report)
  unfolding compare_rows
  unread n some e = left n (either-row v w n some e ((not (eqb (length report) 66), 2) ∷ later_rows v w)) some

  module _ (n : ℕ) (some : n ≡ 0 → ⊥) where
    pub first-unread : n ≡ cond (not (valid_volume v)) 1 0 → (n ≡ (compare_of v w report).refusal) × (report ≡ (compare_of v w report).report)
    unfolding compare_rows
    first-unread e = left n (first-row v w n some e ((not (eqb (length report) 66), 2) ∷ later_rows v w)) some

    pub second-unread : n ≡ cond (not (valid_volume w)) 1 0 → (n ≡ (compare_of v w report).refusal) × (report ≡ (compare_of v w report).report)
    unfolding compare_rows
    second-unread e = left n (second-row v w n some e ((not (eqb (length report) 66), 2) ∷ later_rows v w)) some

  -- of volumes that are valid
  module _ (x y : List ℕ) (ex : x ≡ v) (ey : y ≡ w) (ok : valid_volume x ≡ true) (ok₂ : valid_volume y ≡ true) where
    row-2 : (length report ≡ 66 → ⊥) → 2 ≡ first_of (compare_rows v w (length report))
    unfolding compare_rows
    row-2 ne = rw (← ex, ← ey, ok, ok₂, ne_eqb (length report) 66 ne)

    pub other-length : (length report ≡ 66 → ⊥) → (2 ≡ (compare_of v w report).refusal) × (report ≡ (compare_of v w report).report)
    other-length ne = left 2 (row-2 ne) (λ z. absurd (omega (arith, z)))

    module _ (long : length report ≡ 66) where
      same-rows : first_of (mirror_rows x y) ≡ first_of (compare_rows v w (length report))
      unfolding compare_rows mirror_rows
      same-rows = rw (← ex, ← ey, eq-eqb (length report) 66 long)

      pub unjudged : (n : ℕ) → n ≡ first_of (mirror_rows x y) → (n ≡ 0 → ⊥)
          → (n ≡ (compare_of v w report).refusal) × (report ≡ (compare_of v w report).report)
      unjudged n e some = left n (e ∙ same-rows) some

      pub filled : 0 ≡ first_of (mirror_rows x y) → (c : Compared) → c ≡ mirror_of x y → (r : List ℕ) → r ≡ numbers_of c
          → (0 ≡ (compare_of v w report).refusal) × (r ≡ (compare_of v w report).report)
      unfolding compare_of
      filled z c ec r er =
          rw (eq-eqb (first_of (compare_rows v w (length report))) 0 (sym same-rows ∙ sym z))
          (refl, er ∙ ap numbers_of (ec ∙ rw (ex, ey) refl))

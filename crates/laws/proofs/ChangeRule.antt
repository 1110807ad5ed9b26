-- The rule of a change with a sum, as it was first written, and that the table of `model` answers alike for all numbers.
use mathlib.Core.Path.{◌≡◌, refl, sym, ap, ◌∙◌}
use mathlib.Core.Bool.{Bool, true, false, ◌&&◌, ◌||◌, cond}
use mathlib.Core.List.{[], ◌∷◌}
use Prim.Native.Nat.{ℕ, ◌+◌, ◌-◌, ◌≤◌, ◌<◌}
use native.Mathlib.Omega.{arith}
use lib.Dec.{eqb, leb}
use borrow.Author.Tests.{eqb-true, leb-true, leb-false, le-leb, lt-leb}
use Rattle.laws.proofs.Tables.{by_cases, within-bounds}
use Rattle.model.specs.Tables.{all, within}
use Rattle.model.specs.Change.{change_fits}

-- of a format length and offset are 0; a put or a slide has 1 to 44 bytes that end within the body's 244, and fill 0
abbrev pub sum_fits : ℕ → ℕ → ℕ → ℕ → Bool
sum_fits kind length offset fill =
    all (eqb kind 1 ∷ eqb length 0 ∷ eqb offset 0 ∷ [])
    || all ((eqb kind 2 || eqb kind 3) ∷ within 44 length ∷ leb (offset + length) 244 ∷ eqb fill 0 ∷ [])

-- an offset leaves room for a length exactly where their sum is within the body
room-sum : (n o : ℕ) → n ≤ 244 → leb o (244 - n) ≡ leb (o + n) 244
room-sum n o l =
    by_cases (leb (o + n) 244)
    (λ t. let b : o + n ≤ 244 = leb-true (o + n) 244 t in le-leb o (244 - n) (omega (arith, b, l)) ∙ sym t)
    (λ t. let b : 244 < o + n = leb-false (o + n) 244 t in lt-leb o (244 - n) (omega (arith, b, l)) ∙ sym t)

-- a number is not two kinds
one-kind : (k i j : ℕ) → (i ≡ j → ⊥) → eqb k i ≡ true → eqb k j ≡ true → ⊥
one-kind k i j h s t = h (sym (eqb-true k i s) ∙ eqb-true k j t)

-- the two forms over their tests: k1 to k3 the kinds, l and o a format's, w the length's, r and s the offset's in either form, f the fill's
forms : (k1 k2 k3 l o w r s f : Bool) → (k1 ≡ true → k2 ≡ true → ⊥) → (k1 ≡ true → k3 ≡ true → ⊥) → (w ≡ true → r ≡ s)
    → cond k1 (l && o) (cond k2 (w && (r && f)) (cond k3 (w && (r && f)) false)) ≡ ((k1 && (l && o)) || ((k2 || k3) && (w && (s && f))))
forms true true k3 l o w r s f a b c = absurd (a refl refl)
forms true false true l o w r s f a b c = absurd (b refl refl)
forms true false false true true w r s f a b c = refl
forms true false false true false w r s f a b c = refl
forms true false false false o w r s f a b c = refl
forms false true k3 l o true r s f a b c = ap (λ (t : Bool). t && f) (c refl)
forms false true k3 l o false r s f a b c = refl
forms false false true l o true r s f a b c = ap (λ (t : Bool). t && f) (c refl)
forms false false true l o false r s f a b c = refl
forms false false false l o w r s f a b c = refl

-- "For every kind, length, offset and fill, a kind not 1 to 3 too, it is proved to answer as before"
pub fits_sum : (kind length offset fill : ℕ) → change_fits kind length offset fill ≡ sum_fits kind length offset fill
unfolding change_fits
fits_sum k n o f =
    forms (eqb k 1) (eqb k 2) (eqb k 3) (eqb n 0) (eqb o 0) (within 44 n) (leb o (244 - n)) (leb (o + n) 244) (eqb f 0)
    (one-kind k 1 2 (λ e. omega (arith, e))) (one-kind k 1 3 (λ e. omega (arith, e)))
    (λ w. room-sum n o (omega (arith, (within-bounds 44 n w).1)))

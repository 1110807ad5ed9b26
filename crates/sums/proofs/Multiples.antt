-- The two sums of an item are the words stored behind it: a test of multiples of 65535.
use mathlib.Core.Path.{◌≡◌, sym, ap, ◌∙◌}
use mathlib.Core.Bool.{Bool, true, false, not, ◌&&◌}
use Prim.Native.Nat.{ℕ, zero, suc, ◌+◌, ◌*◌, ◌-◌, ◌/◌, ◌%◌, ◌≤◌, ◌<◌}
use native.Mathlib.Nat.{mod-lt, mod-eq_of_lt, div-add-mod, add-mul-mod_self_left, mul-mod_right}
use native.Mathlib.Omega.{arith}
use borrow.Author.Tests.{eq-eqb, eqb-true, eqb-false}
use lib.Dec.{eqb, lit<}
use Rattle.laws.proofs.Tables.{by_cases}

remains : (j b v : ℕ) → 65535 * j + v ≡ b + 65535 → v < 65535 → b % 65535 ≡ v
remains zero b v e h = absurd (omega arith)
remains (suc j) b v e h =
    let r : b ≡ v + 65535 * j = omega arith in
    ap (λ (n : ℕ). n % 65535) r ∙ add-mul-mod_self_left v 65535 j ∙ mod-eq_of_lt h

-- with the sums a and b and the words w and v, x is twice b - v and y is a - w, each with a multiple of 65535 more
module _ (a b w v x y : ℕ) (hw : w ≤ 65535) (hv : v ≤ 65535) (ex : x + 2 * v ≡ 2 * b + 131070) (ey : y + w ≡ a + 196605) where
  -- 65535 is odd
  high-right : x % 65535 ≡ 0 → v < 65535 → b % 65535 ≡ v
  high-right e h =
      let k = x / 65535 in
      let p : 65535 * k ≡ x = omega (arith, div-add-mod x 65535) in
      let j = b + 65535 - v - 32767 * k in
      let q : k ≡ 2 * j = omega arith in
      remains j b v (omega arith) h

  low-right : y % 65535 ≡ 0 → w < 65535 → a % 65535 ≡ w
  low-right e h = omega arith

  high-multiple : b % 65535 ≡ v → x % 65535 ≡ 0
  high-multiple e =
      let d = b / 65535 in
      let p : 65535 * d + v ≡ b = omega (arith, div-add-mod b 65535) in
      let q : x ≡ 65535 * (2 * d + 2) = omega arith in
      ap (λ (n : ℕ). n % 65535) q ∙ mul-mod_right 65535 (2 * d + 2)

  low-multiple : a % 65535 ≡ w → y % 65535 ≡ 0
  low-multiple e = omega arith

  -- the stored words are right
  abbrev right : Bool
  right = eqb (b % 65535 * 65536 + a % 65535) (w + 65536 * v)

  both : right ≡ true → (a % 65535 ≡ w) × (b % 65535 ≡ v)
  both t =
      let e : b % 65535 * 65536 + a % 65535 ≡ w + 65536 * v = eqb-true _ _ t in
      let h : a % 65535 < 65535 = mod-lt a (lit< tt) in
      (omega arith, omega arith)

  -- the first test, and the second
  pub wrong-high : eqb (x % 65535) 0 ≡ false → false ≡ right
  wrong-high f = by_cases right (λ t. absurd (eqb-false _ _ f (high-multiple (both t).1))) (λ t. sym t)

  pub wrong-low : eqb (y % 65535) 0 ≡ false → false ≡ right
  wrong-low f = by_cases right (λ t. absurd (eqb-false _ _ f (low-multiple (both t).0))) (λ t. sym t)

  -- both are passed
  pub right-words : eqb (x % 65535) 0 ≡ true → eqb (y % 65535) 0 ≡ true → (not (eqb w 65535) && not (eqb v 65535)) ≡ right
  right-words e f =
      let h : a % 65535 < 65535 = mod-lt a (lit< tt) in
      let k : b % 65535 < 65535 = mod-lt b (lit< tt) in
      by_cases (eqb w 65535)
      (λ t.
      let z : w ≡ 65535 = eqb-true _ _ t in
      rw t (sym (by_cases right (λ r. absurd (let l : a % 65535 ≡ w = (both r).0 in omega arith)) (λ r. r))))
      (λ t. by_cases (eqb v 65535)
      (λ u.
      let z : v ≡ 65535 = eqb-true _ _ u in
      rw (t, u) (sym (by_cases right (λ r. absurd (let l : b % 65535 ≡ v = (both r).1 in omega arith)) (λ r. r))))
      (λ u.
      let hw : w < 65535 = omega (arith, eqb-false w 65535 t) in
      let hv : v < 65535 = omega (arith, eqb-false v 65535 u) in
      let p : a % 65535 ≡ w = low-right (eqb-true _ _ f) hw in
      let q : b % 65535 ≡ v = high-right (eqb-true _ _ e) hv in
      let g : b % 65535 * 65536 + a % 65535 ≡ w + 65536 * v = omega arith in
      rw (t, u) (sym (eq-eqb _ _ g))))

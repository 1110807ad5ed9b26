-- `codec::part::blank` meets its contract: two fields behind each other are 0 where the field of both is.
use mathlib.Core.Path.{◌≡◌, refl, sym, ap, ◌∙◌}
use mathlib.Core.Bool.{Bool, ◌&&◌}
use mathlib.Core.List.{List}
use Prim.Native.Nat.{ℕ, ◌+◌, ◌*◌, ◌^◌, ◌<◌}
use native.Mathlib.Nat.{mul-zero, mul-pos}
use native.Mathlib.Omega.{arith}
use lib.Dec.{eqb}
use borrow.Author.Tests.{eqb-true, eqb-false, eq-eqb, ne_eqb}
use Rattle.laws.proofs.Fields.{field-add, pow-positive}
use Rattle.laws.proofs.Tables.{by_cases}
use Rattle.model.specs.Bytes.{field}
use Rattle.codec.proofs.part.blank.Goals as goal

sum-zero : (x y k z : ℕ) → 0 < k → z ≡ x + k * y → (eqb x 0 && eqb y 0) ≡ eqb z 0
sum-zero x y k z h e =
    by_cases (eqb x 0)
    (λ t. by_cases (eqb y 0)
    (λ u.
    let p : k * y ≡ 0 = ap (λ (n : ℕ). k * n) (eqb-true y 0 u) ∙ mul-zero k in
    let q : x ≡ 0 = eqb-true x 0 t in
    rw (t, u) (sym (eq-eqb z 0 (omega (arith, p, q)))))
    (λ u.
    let o : y ≡ 0 → ⊥ = eqb-false y 0 u in
    let p : 0 < k * y = mul-pos h (omega arith) in
    rw (t, u) (sym (ne_eqb z 0 (λ w. omega (arith, p))))))
    (λ t. let o : x ≡ 0 → ⊥ = eqb-false x 0 t in rw t (sym (ne_eqb z 0 (λ w. o (omega arith)))))

-- a field of n bytes from place i on, and one of m bytes behind it
both : (n m i j : ℕ) (xs : List ℕ) {a b : Bool} → i + n ≡ j → a ≡ eqb (field n i xs) 0 → b ≡ eqb (field m j xs) 0
    → (a && b) ≡ eqb (field (n + m) i xs) 0
both n m i j xs e p q =
    rw (p, q, ← e) (sum-zero (field n i xs) (field m (i + n) xs) (256 ^ n) (field (n + m) i xs) (pow-positive n) (field-add n m i xs))

-- the test of a field that was read
read : {x y : ℕ} → x ≡ y → eqb x 0 ≡ eqb y 0
read e = rw e

pub returns : goal.returns
returns c =
    let c₄ = c in
    let a = c₄.args in
    let xs = a.s.now in
    let i = a.i in
    let first = both 8 8 i (i + 8) xs refl (read c₄.eight.ensures)
    (read c₄.eight-2.ensures) in
    let second = both 8 8 (i + 16) (i + 24) xs (omega arith) (read c₄.eight-3.ensures) (read c₄.eight-4.ensures) in
    let third = both 8 8 (i + 32) (i + 40) xs (omega arith) (read c.eight-5.ensures)
    (read c.eight-6.ensures) in
    let last = both 8 8 (i + 48) (i + 56) xs (omega arith) (read c.eight-7.ensures) (read c.eight-8.ensures) in
    both 32 32 i (i + 32) xs refl (both 16 16 i (i + 16) xs refl first second) (both 16 16 (i + 32) (i + 48) xs (omega arith) third last)

-- The rule of a change, kind by kind, as the code's cases meet it.
use Prim.Native.Nat.{ℕ, ◌-◌, ◌≤◌, ◌<◌}
use mathlib.Core.Path.{◌≡◌, refl}
use mathlib.Core.Logic.{◌⊎◌, inl, inr}
use mathlib.Core.Bool.{false, ◌&&◌}
use native.Mathlib.Omega.{arith}
use native.Mathlib.Decide.{ℕ_discrete}
use lib.Dec.{leb, eqb}
use borrow.Author.Tests.{ne_eqb, lt-leb}
use Rattle.laws.proofs.Tables.{and-fails}
use Rattle.model.specs.Tables.{within}
use Rattle.model.specs.Change.{change_fits}

-- a put or a slide
pub put-or-slide : (k : ℕ) → 2 ≤ k → k ≤ 3 → (k ≡ 2) ⊎ (k ≡ 3)
put-or-slide k low high = elim (ℕ_discrete k 2) [ yes e ↦ inl e | no z ↦ inr (omega (arith, z)) ]

pub ranged-is : (k n o f : ℕ) → (k ≡ 2) ⊎ (k ≡ 3)
    → ((leb 1 n && leb n 44) && (leb o (244 - n) && eqb f 0)) ≡ change_fits k n o f
unfolding change_fits
ranged-is k n o f (inl e) = rw e
ranged-is k n o f (inr e) = rw e

-- a length that one of its two tests refuses
pub outside : (n : ℕ) → (((1 ≤ n) × (44 < n)) ⊎ (n < 1)) → within 44 n ≡ false
outside n (inl e) = and-fails (leb 1 n) (lt-leb n 44 e.1)
outside n (inr e) = rw (lt-leb 1 n e) refl

-- no other kind
pub no_kind : (k n o f : ℕ) → (k ≡ 1 → ⊥) → (k ≡ 2 → ⊥) → (k ≡ 3 → ⊥) → false ≡ change_fits k n o f
unfolding change_fits
no_kind k n o f a b c = rw (ne_eqb k 1 a, ne_eqb k 2 b, ne_eqb k 3 c) refl

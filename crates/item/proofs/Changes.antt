-- Laws of a change: what it needs of the payload and the body, and what the bytes that the code moves and puts come to.
use Prim.Native.Nat.{ℕ, ◌+◌, ◌-◌, ◌≤◌}
use mathlib.Core.Path.{◌≡◌, refl, ap, subst, ◌∙◌}
use mathlib.Core.List.{List, [], ◌++◌, append-nil}
use mathlib.Core.Bool.{Bool, true, false, ◌&&◌}
use native.Mathlib.Omega.{arith}
use lib.Dec.{leb, eqb, lit≤}
use lib.ListN.{length, take, drop, replicate, drop_of_length-le}
use Rattle.std.specs.List.{copy_within}
use lib.Seq.{take-append-le, drop_at, take-take, length-take-le}
use Rattle.laws.proofs.Tables.{by_cases, true-not-false}
use Rattle.laws.proofs.Changes.{fits-facts}
use Rattle.model.specs.Tables.{within}
use Rattle.model.specs.Bytes.{splice}
use Rattle.model.specs.Change.{change_fits, fits, change_of, kind_of, offset_of, length_of, fill_of, apply_change}
use Rattle.model.specs.declared.change.Change.{Change}
use Rattle.model.specs.declared.change.Change.TheVariants.{Put, Slide}
use Rattle.model.specs.declared.change.Change.TheVariants.{Format}

-- ---- what a change needs

-- n bytes of the payload have room in the body from a place on
pub record Ready (at n : ℕ) (p b : List ℕ) : Type 0 where
  pub room : at + n ≤ 244
  pub held : n ≤ length p
  pub body : length b ≡ 244

module _ (c : Change) (p b : List ℕ) (h : (fits c ≡ true) × (length_of c ≤ length p) × (length b ≡ 244)) where
  ready : Ready (offset_of c) (length_of c) p b
  ready = record { room = (fits-facts (kind_of c) (length_of c) (offset_of c) (fill_of c) h.0).room; held = h.1; body = h.2 }

  pub put-ready : (at n : ℕ) → c ≡ Put at n → Ready at n p b
  put-ready at n e = subst (λ (d : Change). Ready (offset_of d) (length_of d) p b) e ready

  pub slide-ready : (at n : ℕ) → c ≡ Slide at n → Ready at n p b
  slide-ready at n e = subst (λ (d : Change). Ready (offset_of d) (length_of d) p b) e ready

-- ---- what the code makes of a body

-- the bytes from a place on moved up by n
pub moved-up : (at n : ℕ) (b s : List ℕ) → at + n ≤ 244 → length b ≡ 244 → s ≡ copy_within b at (244 - n) (at + n)
    → s ≡ take (at + n) b ++ take (length b - (at + n)) (drop at b)
moved-up at n b s room l es =
    let e : 244 - n - at ≡ length b - (at + n) = omega arith in
    let z : drop (at + n + (length b - (at + n))) b ≡ [] = drop_of_length-le b (omega arith) in
    es ∙ rw (e, z, append-nil)

module _ (c : Change) (p b x : List ℕ) where
  pub format-is : (f : ℕ) → c ≡ Format f → length b ≡ 244 → x ≡ replicate (length b) f → x ≡ apply_change c p b
  unfolding apply_change
  format-is f e l h = rw (h, l, e)

  pub put_is : (at n : ℕ) → c ≡ Put at n → Ready at n p b → x ≡ splice b at (take n p) → x ≡ apply_change c p b
  unfolding apply_change splice
  put_is at n e z h = rw (h, e, length-take-le n p z.held)

  pub slide-is : (at n : ℕ) (s : List ℕ) → c ≡ Slide at n → Ready at n p b
      → s ≡ take (at + n) b ++ take (length b - (at + n)) (drop at b)
      → x ≡ splice s at (take n p)
      → x ≡ apply_change c p b
  unfolding apply_change splice
  slide-is at n s e z es ex =
      let t = take (length b - (at + n)) (drop at b) in
      let k : length (take (at + n) b) ≡ at + n = length-take-le (at + n) b (omega (arith, z.room, z.body)) in
      let front : take at s ≡ take at b =
      ap (take at) es ∙ take-append-le at (take (at + n) b) t (omega (arith, k)) ∙ take-take at (at + n) b (omega arith) in
      let back : drop (at + n) s ≡ t = ap (drop (at + n)) es ∙ drop_at (take (at + n) b) t (at + n) k in
      rw (ex, length-take-le n p z.held, front, back, e, z.body)

-- ---- the change of numbers that obey the rule

-- three tests hold, the last of them of itself
no-fill : (w r f : Bool) → (w && (r && f)) ≡ true → (w && (r && true)) ≡ true
no-fill true true f h = refl
no-fill true false f h = h
no-fill false r f h = h

-- a change obeys its rule and brings at most 44 bytes
abbrev pub Obeys : Change → Type 0
Obeys c = (fits c ≡ true) × (length_of c ≤ 44)

pub held-obeys : (k n o f : ℕ) → change_fits k n o f ≡ true → Obeys (change_of k n o f)
unfolding change_fits change_of
held-obeys k n o f h =
    by_cases (eqb k 1) (λ t. rw t (refl, lit≤ tt))
    (λ t.
    let z = fits-facts k n o f h in
    rw t
    (by_cases (eqb k 2) (λ u. rw u (no-fill (within 44 n) (leb o (244 - n)) (eqb f 0) (rw (t, u) at h), z.length))
    (λ u. rw u (by_cases (eqb k 3) (λ w. (no-fill (within 44 n) (leb o (244 - n)) (eqb f 0) (rw (t, u, w) at h), z.length))
    (λ w. absurd (true-not-false (rw (t, u, w) at h) refl))))))

-- What the comparison's definition says in each of its cases.
use mathlib.Core.Path.{◌≡◌, refl, sym, ap, ◌∙◌}
use mathlib.Core.Bool.{Bool, true, false, ◌&&◌, ◌||◌, not, cond, and-false}
use mathlib.Core.List.{List, [], ◌∷◌}
use Prim.Native.Nat.{ℕ, ◌+◌, ◌-◌, ◌≤◌, min}
use native.Mathlib.Numerals.{add-one}
use native.Mathlib.Omega.{arith}
use lib.Dec.{eqb, leb, ltb}
use lib.ListN.{replicate}
use borrow.Author.Tests.{eq-eqb, ne_eqb, leb-true, leb-false}
use Rattle.laws.proofs.Tables.{by_cases}
use Rattle.std.specs.Prelude.{Result, Ok, Err, IfOk}
use Rattle.reports_laws.proofs.Mirror.{common}
use Rattle.laws.proofs.Refused.{refusal-some}
use Rattle.volume.proofs.Readings.{unknown-read}
use Rattle.model.specs.Tables.{Row, first_of, smaller}
use Rattle.model.specs.Refused.{refusal_number, error_number}
use Rattle.model.specs.Geometry.{known_magic, geometry_of, valid_volume}
use Rattle.model.specs.Scan.{valid_log, valid_notes, gone}
use Rattle.reports.specs.Mirror.{durable_in, common_from, common_of, either_rows, later_rows, mirror_rows, comparison}
use Rattle.reports.specs.Mirror.{mirror_of}
use Rattle.model.specs.declared.answer.Refusal.{Refusal}
use Rattle.model.specs.declared.geometry.Geometry.{Geometry}
use Rattle.reports.specs.declared.reading.Comparison.{Comparison}
use Rattle.reports.specs.declared.reading.Comparison.TheVariants.{Refused, FirstLacks, SecondLacks, Differs}
use Rattle.reports.specs.declared.reading.Compared.{Compared}
use Rattle.index.specs.Scanned.{scan_rows, scan_refusal, counts_of, gone_in}
use Rattle.index.specs.declared.Counts.{Counts}
use Rattle.compare.specs.Volumes.{both_refusal, marked_behind}
use Rattle.compare.proofs.Marks.{both-marked}

-- ---- the answer

module _ (k n m : ℕ) where
  pub agree : k ≡ n → k ≡ m → Comparison.Agree ≡ comparison k n m
  unfolding comparison
  agree a b = rw (eq-eqb k n a, eq-eqb k m b)

  pub first-lacks : k ≡ n → (k ≡ m → ⊥) → FirstLacks (m - k) ≡ comparison k n m
  unfolding comparison
  first-lacks a b = rw (eq-eqb k n a, ne_eqb k m b)

  pub second-lacks : (k ≡ n → ⊥) → k ≡ m → SecondLacks (n - k) ≡ comparison k n m
  unfolding comparison
  second-lacks a b = rw (ne_eqb k n a, eq-eqb k m b)

  pub differs : (k ≡ n → ⊥) → (k ≡ m → ⊥) → Differs (k + 1) ≡ comparison k n m
  unfolding comparison
  differs a b = rw (ne_eqb k n a, ne_eqb k m b, add-one k)

-- ---- the refusal

-- a scan's number, of its three tests
abbrev number : Bool → Bool → Bool → ℕ
number v l n = cond (not v) 1 (cond (not l) 17 (cond (not n) 18 0))

-- the tests of two scans' numbers
abbrev either : ℕ → ℕ → Bool → ℕ
either x y t = cond (eqb x 1 || eqb y 1) 1 (cond (eqb x 17 || eqb y 17) 17 (cond (eqb x 18 || eqb y 18) 18 (cond t 24 0)))

by_number : (v l n w m o t u : Bool) → (number v l n ≡ 0 → number w m o ≡ 0 → t ≡ u)
    → either (number v l n) (number w m o) t ≡ first_of ((not (v && w), 1) ∷ (not (l && m), 17) ∷ (not (n && o), 18) ∷ (u, 24) ∷ [])
by_number false l n w m o t u h = refl
by_number true false n false m o t u h = refl
by_number true false n true false o t u h = refl
by_number true false n true true false t u h = refl
by_number true false n true true true t u h = refl
by_number true true false false m o t u h = refl
by_number true true false true false o t u h = refl
by_number true true false true true false t u h = refl
by_number true true false true true true t u h = refl
by_number true true true false m o t u h = refl
by_number true true true true false o t u h = refl
by_number true true true true true false t u h = refl
by_number true true true true true true t u h = rw (h refl refl)

-- where one scan alone is refused, and where both are
one-refused : (v l n t : Bool) → (number v l n ≡ 0 → ⊥) → number v l n ≡ either 0 (number v l n) t
one-refused false l n t h = refl
one-refused true false n t h = refl
one-refused true true false t h = refl
one-refused true true true t h = absurd (h refl)

other-refused : (v l n t : Bool) → (number v l n ≡ 0 → ⊥) → number v l n ≡ either (number v l n) 0 t
other-refused false l n t h = refl
other-refused true false n t h = refl
other-refused true true false t h = refl
other-refused true true true t h = absurd (h refl)

abbrev lower : ℕ → ℕ → ℕ
lower x y = cond (ltb y x) y x

both-refused : (v l n w m o t : Bool) → (number v l n ≡ 0 → ⊥) → (number w m o ≡ 0 → ⊥)
    → lower (number v l n) (number w m o) ≡ either (number v l n) (number w m o) t
both-refused false l n false m o t h k = refl
both-refused false l n true false o t h k = refl
both-refused false l n true true false t h k = refl
both-refused true false n false m o t h k = refl
both-refused true false n true false o t h k = refl
both-refused true false n true true false t h k = refl
both-refused true true false false m o t h k = refl
both-refused true true false true false o t h k = refl
both-refused true true false true true false t h k = refl
both-refused true true true w m o t h k = absurd (h refl)
both-refused v l n true true true t h k = absurd (k refl)

-- where a scan refuses nothing, its counts tell whether record 1 has left
gone-is : (v : List ℕ) (c : Counts) → c ≡ counts_of v → gone_in c ≡ gone (geometry_of v) v
unfolding gone
gone-is v c e = ap gone_in e

-- one of two that is not right, whatever follows
not-either : (a : Bool) (n k : ℕ) → n ≡ cond (not a) 1 0 → (n ≡ 0 → ⊥) → n ≡ cond (not a) 1 k
not-either true n k e h = absurd (h e)
not-either false n k e h = e

-- the refusal of the first of two, or of the second, is that of the pair, whatever follows
not-first : (a b : Bool) (n k : ℕ) → n ≡ cond (not a) 1 0 → (n ≡ 0 → ⊥) → n ≡ cond (not (a && b)) 1 k
not-first true b n k e h = absurd (h e)
not-first false b n k e h = e

not-second : (a b : Bool) (n k : ℕ) → n ≡ cond (not b) 1 0 → (n ≡ 0 → ⊥) → n ≡ cond (not (a && b)) 1 k
not-second a true n k e h = absurd (h e)
not-second true false n k e h = e
not-second false false n k e h = e

pub smaller-is : (x y : ℕ) → min x y ≡ smaller x y
smaller-is x y = by_cases (leb x y) (λ t. rw t (omega (arith, leb-true x y t))) (λ t. rw t (omega (arith, leb-false x y t)))

-- what a scan counted
pub counted : (v : List ℕ) (a : Result Counts Refusal) → IfOk a (λ c. c ≡ counts_of v) → (c : Counts) → a ≡ Ok c → c ≡ counts_of v
counted v a h c e = rw e at h

-- ---- the call

module _ (v w : List ℕ) where
  -- the two scans' numbers decide, and `t` where both are 0
  rows-are : (t : Bool) → (scan_refusal v ≡ 0 → scan_refusal w ≡ 0 → t ≡ (gone (geometry_of v) v || gone (geometry_of w) w))
      → either (scan_refusal v) (scan_refusal w) t ≡ first_of (mirror_rows v w)
  unfolding scan_rows mirror_rows
  rows-are t h =
      let g = geometry_of v in
      let j = geometry_of w in
      by_number (valid_volume v) (valid_log g v) (valid_notes g v) (valid_volume w) (valid_log j w) (valid_notes j w) t
      (gone g v || gone j w) h

  one-number : (t : Bool) → (scan_refusal v ≡ 0 → ⊥) → scan_refusal v ≡ either (scan_refusal v) 0 t
  unfolding scan_rows
  one-number t h = other-refused (valid_volume v) (valid_log (geometry_of v) v) (valid_notes (geometry_of v) v) t h

  other-number : (t : Bool) → (scan_refusal w ≡ 0 → ⊥) → scan_refusal w ≡ either 0 (scan_refusal w) t
  unfolding scan_rows
  other-number t h = one-refused (valid_volume w) (valid_log (geometry_of w) w) (valid_notes (geometry_of w) w) t h

  both-numbers : (t : Bool) → (scan_refusal v ≡ 0 → ⊥) → (scan_refusal w ≡ 0 → ⊥)
      → lower (scan_refusal v) (scan_refusal w) ≡ either (scan_refusal v) (scan_refusal w) t
  unfolding scan_rows
  both-numbers t h k =
      both-refused (valid_volume v) (valid_log (geometry_of v) v) (valid_notes (geometry_of v) v) (valid_volume w)
      (valid_log (geometry_of w) w) (valid_notes (geometry_of w) w) t h k

  pub both-is : (a b : Result Counts Refusal) → error_number a ≡ scan_refusal v → IfOk a (λ c. c ≡ counts_of v)
      → error_number b ≡ scan_refusal w → IfOk b (λ c. c ≡ counts_of w) → both_refusal a b ≡ first_of (mirror_rows v w)
  both-is (Ok a) (Ok b) ea ca eb cb =
      let t = gone_in a || gone_in b in
      ap (λ (x : ℕ). either x 0 t) ea ∙ ap (λ (y : ℕ). either (scan_refusal v) y t) eb
      ∙ rows-are t (λ x y. rw (gone-is v a ca, gone-is w b cb) refl)
  both-is (Ok a) (Err s) ea ca eb cb =
      let t = gone (geometry_of v) v || gone (geometry_of w) w in
      eb ∙ other-number t (λ z. refusal-some s (eb ∙ z)) ∙ ap (λ (x : ℕ). either x (scan_refusal w) t) ea ∙ rows-are t (λ x y. refl)
  both-is (Err r) (Ok b) ea ca eb cb =
      let t = gone (geometry_of v) v || gone (geometry_of w) w in
      ea ∙ one-number t (λ z. refusal-some r (ea ∙ z)) ∙ ap (λ (y : ℕ). either (scan_refusal v) y t) eb ∙ rows-are t (λ x y. refl)
  both-is (Err r) (Err s) ea ca eb cb =
      let t = gone (geometry_of v) v || gone (geometry_of w) w in
      ap (λ (x : ℕ). lower x (refusal_number s)) ea ∙ ap (λ (y : ℕ). lower (scan_refusal v) y) eb
      ∙ both-numbers t (λ z. refusal-some r (ea ∙ z)) (λ z. refusal-some s (eb ∙ z)) ∙ rows-are t (λ x y. refl)

  -- what the scans counted
  module _ (a b : Counts) (ca : a ≡ counts_of v) (cb : b ≡ counts_of w) where
    first-durable : a.durable ≡ durable_in v
    first-durable = ap (λ (c : Counts). c.durable) ca

    second-durable : b.durable ≡ durable_in w
    second-durable = ap (λ (c : Counts). c.durable) cb

    module _ (most : ℕ) (em : most ≡ smaller a.durable b.durable) (k : ℕ) (ek : k ≡ common_from most v w 0) where
      common-is : k ≡ common_of v w
      common-is = ek ∙ ap (λ (n : ℕ). common_from n v w 0) (em ∙ rw (first-durable, second-durable))

      pub few : (k ≤ a.durable) × (k ≤ b.durable)
      few =
          let f = (common v w).few in
          (omega (arith, common-is, first-durable, f.0), omega (arith, common-is, second-durable, f.1))

      pub done : 0 ≡ first_of (mirror_rows v w) → (g h : Geometry) → g ≡ geometry_of v → h ≡ geometry_of w
          → (x y : List Bool) → x ≡ marked_behind g v k a.durable (replicate 64 false) → y ≡ marked_behind h w k b.durable x
          → (r : Comparison) → r ≡ comparison k a.durable b.durable
          → ◌≡◌ {A = Compared} (record { answer = r; touched = y }) (mirror_of v w)
      unfolding mirror_of
      done z g h eg eh x y ex ey r er =
          let t = eq-eqb (first_of (mirror_rows v w)) 0 (sym z) in
          rw (t, er, ey, ex, first-durable, second-durable, common-is, eg, eh)
          (ap (λ (t : List Bool). record { answer = comparison (common_of v w) (durable_in v) (durable_in w); touched = t })
          (both-marked (geometry_of v) (geometry_of w) v w (common_of v w) (durable_in v) (durable_in w)))

  pub refused : (n : ℕ) → n ≡ first_of (mirror_rows v w) → (n ≡ 0 → ⊥)
      → ◌≡◌ {A = Compared} (record { answer = Refused n; touched = replicate 64 false }) (mirror_of v w)
  unfolding mirror_of
  refused n e z = rw (ne_eqb (first_of (mirror_rows v w)) 0 (λ q. z (e ∙ q)), e)

  -- where a heading is not known, the two are not both valid
  pub not-both : (a b : Bool) → a ≡ known_magic v → b ≡ known_magic w → (not a || not b) ≡ true
      → (valid_volume v && valid_volume w) ≡ false
  not-both false b ea eb t = rw (unknown-read v (sym ea)) refl
  not-both true false ea eb t = rw (unknown-read w (sym eb)) (and-false (valid_volume v))
  not-both true true ea eb t = let z : ◌≡◌ {A = ℕ} 0 1 = cc in absurd (omega arith)

  -- a heading that is not known is refused, whatever follows it
  pub unknown : (a b : Bool) → a ≡ known_magic v → b ≡ known_magic w → (not a || not b) ≡ true → 1 ≡ first_of (mirror_rows v w)
  unfolding mirror_rows
  unknown a b ea eb t = rw (not-both a b ea eb t) refl

  -- two volumes that are not both valid are refused before anything else, whatever the rows behind that
  module _ (n : ℕ) (some : n ≡ 0 → ⊥) (e : n ≡ cond (not (valid_volume v && valid_volume w)) 1 0) where
    pub either-row : (rows : List Row) → n ≡ first_of (either_rows v w rows)
    either-row rows = not-either (valid_volume v && valid_volume w) n (first_of rows) e some

    pub unopened : n ≡ first_of (mirror_rows v w)
    unfolding mirror_rows
    unopened = either-row (later_rows v w)

  -- a volume that is not valid is refused before anything else, whatever the rows behind that
  module _ (n : ℕ) (some : n ≡ 0 → ⊥) where
    pub first-row : n ≡ cond (not (valid_volume v)) 1 0 → (rows : List Row) → n ≡ first_of (either_rows v w rows)
    first-row e rows = not-first (valid_volume v) (valid_volume w) n (first_of rows) e some

    pub second-row : n ≡ cond (not (valid_volume w)) 1 0 → (rows : List Row) → n ≡ first_of (either_rows v w rows)
    second-row e rows = not-second (valid_volume v) (valid_volume w) n (first_of rows) e some

    pub first-unopened : n ≡ cond (not (valid_volume v)) 1 0 → n ≡ first_of (mirror_rows v w)
    unfolding mirror_rows
    first-unopened e = first-row e (later_rows v w)

    pub second-unopened : n ≡ cond (not (valid_volume w)) 1 0 → n ≡ first_of (mirror_rows v w)
    unfolding mirror_rows
    second-unopened e = second-row e (later_rows v w)

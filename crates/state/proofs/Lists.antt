-- The library's searches of a list come to the tests of the model.
use Prim.Native.Nat.{ℕ, zero, suc, ◌+◌, ◌<◌, ◌≤◌}
use mathlib.Core.Path.{◌≡◌, refl, sym, ap, ◌∙◌}
use mathlib.Core.Bool.{Bool, true, false, ◌&&◌, ◌||◌}
use mathlib.Core.List.{List, [], ◌∷◌}
use native.Mathlib.Omega.{arith}
use lib.Dec.{eqb, leb}
use borrow.Author.Tests.{leb-false, lt-leb}
use lib.ListN.{length, get_or}
use Rattle.std.specs.Bool.{MatchBool}
use lib.ListN.{take}
use lib.Seq.{get_or-take, length-take-le}
use Rattle.laws.proofs.Tables.{every-same}
use Rattle.std.specs.List.{range_with_len, AllWithin, HoldsAt}
use Rattle.std.proofs.lemmas.List.FromFn.{length-range_with_len, get_or-range_with_len}
use Rattle.laws.proofs.Tables.{every-all, every-at, every-fails, by_cases, or_left, or_right, true-not-false}
use Rattle.model.specs.Tables.{every}
use Rattle.model.specs.State.{holder_from}
use Rattle.model.specs.declared.state.Frame.{Frame}

-- what `all` answers, as the lemmas on it say: each element passes the test, or one fails
abbrev pub Answered : {X : Type 0} → (X → Bool) → List X → Bool → Type 0
Answered test xs r =
    MatchBool r (AllWithin (λ x. test x ≡ true) xs 0 (length xs)) ((k : ℕ) × (k < length xs) × HoldsAt (λ x. test x ≡ false) xs k)

pub every-element : {X : Type 0} (test : X → Bool) (d : X) (xs : List X) (r : Bool) → Answered test xs r
    → r ≡ every (length xs) (λ k. test (get_or xs k d))
every-element test d xs true h = sym (every-all _ (length xs) (λ k l. h k d (omega arith) l))
every-element test d xs false h = sym (every-fails _ (length xs) h.0 h.1 (h.2 d))

pub every-below : (test : ℕ → Bool) (n : ℕ) (r : Bool) → Answered test (range_with_len 0 n) r → r ≡ every n test
every-below test n true h =
    sym (every-all test n (λ k l.
    let z : 0 + k ≡ k = omega arith in
    ap test (sym (get_or-range_with_len 0 n k 0 l ∙ z)) ∙ h k 0 (omega arith) (rw length-range_with_len l)))
every-below test n false h =
    let l : h.0 < n = rw length-range_with_len at h.1 in
    let z : 0 + h.0 ≡ h.0 = omega arith in
    sym (every-fails test n h.0 l (ap test (sym (get_or-range_with_len 0 n h.0 0 l ∙ z)) ∙ h.2 0))

-- the first i elements of a list
pub every-first : {X : Type 0} (test : X → Bool) (d : X) (xs : List X) (i : ℕ) (r : Bool) → i ≤ length xs
    → Answered test (take i xs) r → r ≡ every i (λ k. test (get_or xs k d))
every-first test d xs i r l h =
    every-element test d (take i xs) r h ∙ ap (λ n. every n (λ k. test (get_or (take i xs) k d))) (length-take-le i xs l)
    ∙ every-same _ _ i (λ k m. ap test (get_or-take i xs k d m))

-- the search for a page through the frames
pub holder-none : (i p : ℕ) (xs : List Frame) → AllWithin (λ f. eqb f.page p ≡ false) xs 0 (length xs) → 0 ≡ holder_from i p xs
unfolding holder_from
holder-none i p [] h = refl
holder-none i p (f ∷ fs) h =
    rw (h 0 f (omega arith) (omega arith)) (holder-none (suc i) p fs (λ k d a b. h (suc k) d (omega arith) (omega arith)))

pub holder-some : (i p k : ℕ) (xs : List Frame) → k < length xs → HoldsAt (λ f. eqb f.page p ≡ true) xs k
    → AllWithin (λ f. eqb f.page p ≡ false) xs 0 k → i + k + 1 ≡ holder_from i p xs
unfolding holder_from
holder-some i p zero (f ∷ fs) l at h = rw (at f) (omega arith)
holder-some i p (suc k) (f ∷ fs) l at h =
    let e : i + suc k + 1 ≡ suc i + k + 1 = omega arith in
    rw (h 0 f (omega arith) (omega arith)) (e ∙ holder-some (suc i) p k fs (omega arith) (λ d. at d) (λ j d a b. h (suc j) d (omega arith) (omega arith)))
holder-some i p k [] l at h = absurd (omega arith)

-- two tests of every number in one loop, the first of those below n alone
turned : (a b c d : Bool) → ((a && b) && (c && d)) ≡ ((a && c) && (b && d))
turned true true c d = refl
turned true false true d = refl
turned true false false d = refl
turned false b c d = refl

every-both : (p q : ℕ → Bool) (m : ℕ) → every m (λ i. p i && q i) ≡ (every m p && every m q)
unfolding every
every-both p q zero = refl
every-both p q (suc m) = rw (every-both p q m) (turned (every m p) (every m q) (p m) (q m))

-- from n on nothing is tested
every-less : (p : ℕ → Bool) (n m : ℕ) → n ≤ m → every m (λ i. leb n i || p i) ≡ every n p
every-less p n m l =
    let t = λ (i : ℕ). leb n i || p i in
    let same : every n t ≡ every n p = every-same t p n (λ i k. rw (lt-leb n i k)) in
    by_cases (every n p)
    (λ e. every-all t m (λ i k. by_cases (leb n i) (λ h. or_left (p i) h)
    (λ h. or_right (leb n i) (every-at p n e i (leb-false n i h)))) ∙ sym e)
    (λ e. by_cases (every m t)
    (λ h. absurd (true-not-false (every-all t n (λ i k. every-at t m h i (omega arith))) (same ∙ e)))
    (λ h. h ∙ sym e))

pub every-two : (p q : ℕ → Bool) (n m : ℕ) → n ≤ m → every m (λ i. (leb n i || p i) && q i) ≡ (every n p && every m q)
every-two p q n m l =
    every-both (λ i. leb n i || p i) q m ∙ ap (λ (b : Bool). b && every m q) (every-less p n m l)

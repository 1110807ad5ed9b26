-- How many changes of a page a list of changes has.
use mathlib.Core.Path.{◌≡◌, refl, sym, ap, ◌∙◌}
use mathlib.Core.Logic.{◌≢◌}
use mathlib.Core.Bool.{cond}
use mathlib.Core.List.{List, [], ◌∷◌, ◌++◌}
use Prim.Native.Nat.{ℕ, zero, suc, ◌≤◌}
use native.Mathlib.Omega.{arith}
use lib.ListN.{length, get_or-append}
use lib.Dec.{eqb}
use borrow.Author.Tests.{eq-eqb, ne_eqb, eqb-true}
use Rattle.laws.proofs.Tables.{by_cases}
use Rattle.model.specs.AbstractLog.{Logged}
use Rattle.history.proofs.Logs.{no_logged, at, last_at, last-hit, last-page, len_a, at_a}

-- of the first n changes: those of page p
unfoldable pub count_at : ℕ → List Logged → ℕ → ℕ
count_at p l zero = 0
count_at p l (suc n) = cond (eqb (at l n).page p) (suc (count_at p l n)) (count_at p l n)

abbrev pub count_of : ℕ → List Logged → ℕ
count_of p l = count_at p l (length l)

module _ (p : ℕ) (l : List Logged) where
  pub count-zero : count_at p l 0 ≡ 0
  unfolding count_at
  count-zero = refl

  pub count-hit : (n : ℕ) → (at l n).page ≡ p → count_at p l (suc n) ≡ suc (count_at p l n)
  unfolding count_at
  count-hit n h = rw (eq-eqb (at l n).page p h)

  pub count-miss : (n : ℕ) → (at l n).page ≢ p → count_at p l (suc n) ≡ count_at p l n
  unfolding count_at
  count-miss n h = rw (ne_eqb (at l n).page p h)

  -- the changes behind the last one of the page do not count
  pub count-last : (n : ℕ) → count_at p l n ≡ count_at p l (last_at p l n)
  unfolding last_at count_at
  count-last zero = refl
  count-last (suc n) =
      by_cases (eqb (at l n).page p) (λ t. ap (count_at p l) (sym (last-hit p l n (eqb-true (at l n).page p t)))) (λ t. rw t (count-last n))

  pub none-count : (n : ℕ) → last_at p l n ≡ 0 → count_at p l n ≡ 0
  none-count n e = count-last n ∙ (ap (count_at p l) e ∙ count-zero)

  pub count_none : (n : ℕ) → count_at p l n ≡ 0 → last_at p l n ≡ 0
  count_none n e = go (last_at p l n) refl
    where
      go : (m : ℕ) → last_at p l n ≡ m → m ≡ 0
      go zero q = refl
      go (suc m) q =
          let h : count_at p l (suc m) ≡ suc (count_at p l m) = count-hit m (last-page p l n m q) in
          absurd (omega (arith, count-last n, ap (count_at p l) q))

  pub count-append : (r : List Logged) (n : ℕ) → n ≤ length l → count_at p (l ++ r) n ≡ count_at p l n
  unfolding count_at
  count-append r zero h = refl
  count-append r (suc n) h = rw (get_or-append l r no_logged n h, count-append r n (omega arith))

-- one more change
module _ (l : List Logged) (c : Logged) where
  pub count-new : count_of c.page (l ++ (c ∷ [])) ≡ suc (count_of c.page l)
  count-new =
      rw (len_a l c) (count-hit c.page (l ++ (c ∷ [])) (length l) (ap (λ (z : Logged). z.page) (at_a l c))
      ∙ ap suc (count-append c.page l (c ∷ []) (length l) (omega arith)))

  pub count-other : (q : ℕ) → q ≢ c.page → count_of q (l ++ (c ∷ [])) ≡ count_of q l
  count-other q ne =
      rw (len_a l c) (count-miss q (l ++ (c ∷ [])) (length l) (λ z. ne (sym z ∙ ap (λ (y : Logged). y.page) (at_a l c)))
      ∙ count-append q l (c ∷ []) (length l) (omega arith))

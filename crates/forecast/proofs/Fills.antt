-- A table filled row by row, and its figures written out number by number.
use Prim.Native.Nat.{ℕ, zero, suc, ◌+◌, ◌*◌, ◌<◌}
use mathlib.Core.Path.{◌≡◌, refl, sym, ap, ◌∙◌}
use mathlib.Core.Bool.{cond}
use mathlib.Core.List.{List, [], ◌∷◌, ◌++◌, append_assoc}
use native.Mathlib.Omega.{arith}
use native.Mathlib.Decide.{dec_lt, ℕ_discrete}
use lib.Dec.{ltb}
use lib.ListN.{length, take, get_or, set, replicate, length-set, length-replicate}
use lib.Seq.{get_or-set_same, get_or-set_other, take-suc-set, take_all}
use borrow.Author.Tests.{lt-ltb, le-ltb}
use Rattle.laws.proofs.Tabulated.{replicate-at, table_of}
use Rattle.model.specs.Tables.{tabulate}
use Rattle.reports.specs.Forecast.{counted, figure_numbers}
use Rattle.reports.specs.declared.reading.Figure.{Figure}

module _ {A : Type 0} (f : ℕ → A) (d : A) where
  -- the first i of n rows are f's, the others are as they were
  pub record Filling (n : ℕ) (rows : List A) (i : ℕ) : Type 0 where
    pub size : length rows ≡ n
    pub row : (k : ℕ) → get_or rows k d ≡ cond (ltb k i) (f k) d

  pub none_filled : (n : ℕ) → Filling n (replicate n d) 0
  none_filled n = record { size = length-replicate {A = A} n d; row = λ k. rw (le-ltb k 0 (omega arith)) (replicate-at n k d) }

  pub one-filled : (n : ℕ) (rows : List A) (i : ℕ) (x : A) → Filling n rows i → i < n → x ≡ f i → Filling n (set rows i x) (i + 1)
  one-filled n rows i x h l e = record { size = length-set rows i x ∙ h.size; row = at }
    where
      at : (k : ℕ) → get_or (set rows i x) k d ≡ cond (ltb k (i + 1)) (f k) d
      at k = elim (ℕ_discrete k i) [
        | yes y ↦ rw (y, lt-ltb i (i + 1) (omega arith)) (get_or-set_same rows i x d (omega (arith, h.size)) ∙ e)
        | no z ↦
            get_or-set_other rows i k x d z ∙ h.row k
            ∙ elim (dec_lt k i) [
              | yes y ↦ rw (lt-ltb k i y, lt-ltb k (i + 1) (omega arith))
              | no w ↦ rw (le-ltb k i (omega arith), le-ltb k (i + 1) (omega arith))
            ]
      ]

  pub all-filled : (n : ℕ) (rows : List A) (i : ℕ) → Filling n rows i → rows ≡ tabulate n (λ k. cond (ltb k i) (f k) d)
  all-filled n rows i h = table_of n (λ k. cond (ltb k i) (f k) d) d rows h.size (λ k l. h.row k)

-- ---- figures as numbers

abbrev pair_of : Figure → List ℕ
pair_of f = f.refusal ∷ f.count ∷ []

numbers_more : (pages : List Figure) (i : ℕ) → i < length pages
    → figure_numbers (take (suc i) pages) ≡ figure_numbers (take i pages) ++ pair_of (get_or pages i (counted 0))
numbers_more [] i l = absurd (omega (arith, l))
numbers_more (f ∷ fs) zero l = refl
numbers_more (f ∷ fs) (suc i) l =
    ap (λ (k : List ℕ). f.refusal ∷ f.count ∷ k) (numbers_more fs i (omega (arith, l)))

-- the first i pages' numbers stand in front
pub record Telling (pages : List Figure) (figures : List ℕ) (i : ℕ) : Type 0 where
  pub size : length figures ≡ 128
  pub front : take (2 * i) figures ≡ figure_numbers (take i pages)

pub none_told : (pages : List Figure) (figures : List ℕ) → length figures ≡ 128 → Telling pages figures 0
none_told pages figures e = record { size = e; front = refl }

pub one_told : (pages : List Figure) (figures : List ℕ) (i a b : ℕ) → Telling pages figures i → length pages ≡ 64 → i < 64
    → a ≡ (get_or pages i (counted 0)).refusal → b ≡ (get_or pages i (counted 0)).count
    → Telling pages (set (set figures (2 * i) a) (2 * i + 1) b) (i + 1)
one_told pages figures i a b h long l ea eb =
    let s = set figures (2 * i) a in
    let n : length s ≡ 128 = length-set figures (2 * i) a ∙ h.size in
    let z : 2 * (i + 1) ≡ suc (2 * i + 1) = omega arith in
    let y : 2 * i + 1 ≡ suc (2 * i) = omega arith in
    let x : i + 1 ≡ suc i = omega arith in
    record {
      size = length-set s (2 * i + 1) b ∙ n;
      front =
          ap (λ (k : ℕ). take k (set s (2 * i + 1) b)) z
          ∙ take-suc-set s (2 * i + 1) b (omega (arith, n))
          ∙ ap (λ (k : ℕ). take k s ++ (b ∷ [])) y
          ∙ ap (λ (q : List ℕ). q ++ (b ∷ [])) (take-suc-set figures (2 * i) a (omega (arith, h.size)))
          ∙ append_assoc (take (2 * i) figures) (a ∷ []) (b ∷ [])
          ∙ ap (λ (q : List ℕ). q ++ (a ∷ b ∷ [])) h.front
          ∙ ap (λ (k : ℕ). figure_numbers (take i pages) ++ (k ∷ b ∷ [])) ea
          ∙ ap (λ (k : ℕ). figure_numbers (take i pages) ++ ((get_or pages i (counted 0)).refusal ∷ k ∷ [])) eb
          ∙ sym (numbers_more pages i (omega (arith, long)))
          ∙ ap (λ (k : ℕ). figure_numbers (take k pages)) (sym x);
    }

pub all_told : (pages : List Figure) (figures : List ℕ) (i : ℕ) → Telling pages figures i → length pages ≡ 64 → i ≡ 64
    → figures ≡ figure_numbers pages
all_told pages figures i h long e =
    sym (take_all (2 * i) figures (omega (arith, h.size, e))) ∙ h.front ∙ ap figure_numbers (take_all i pages (omega (arith, long, e)))

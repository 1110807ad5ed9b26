-- Laws of lists by their entries: a table's length and entries, a list that is a table.
use mathlib.Core.Path.{◌≡◌, refl, sym, ap, ◌∙◌}
use mathlib.Core.List.{List, map}
use Prim.Native.Nat.{ℕ, zero, suc, ◌≤◌, ◌<◌}
use native.Mathlib.Omega.{arith}
use lib.ListN.{length, get_or, replicate, length-map, get_or-eq_default}
use lib.Seq.{ext_get_or}
use Rattle.model.specs.Tables.{tabulate}

pub tabulate-length : {A : Type 0} (n : ℕ) (f : ℕ → A) → length (tabulate n f) ≡ n
unfolding tabulate
tabulate-length zero f = refl
tabulate-length (suc n) f = ap suc (tabulate-length n (λ i. f (suc i)))

pub tabulate-at : {A : Type 0} (n i : ℕ) (f : ℕ → A) (d : A) → i < n → get_or (tabulate n f) i d ≡ f i
unfolding tabulate
tabulate-at zero i f d l = absurd (omega arith)
tabulate-at (suc n) zero f d l = refl
tabulate-at (suc n) (suc i) f d l = tabulate-at n i (λ j. f (suc j)) d (omega arith)

pub tabulate-past : {A : Type 0} (n i : ℕ) (f : ℕ → A) (d : A) → n ≤ i → get_or (tabulate n f) i d ≡ d
unfolding tabulate
tabulate-past zero i f d l = refl
tabulate-past (suc n) zero f d l = absurd (omega arith)
tabulate-past (suc n) (suc i) f d l = tabulate-past n i (λ j. f (suc j)) d (omega arith)

pub replicate-at : {A : Type 0} (n i : ℕ) (d : A) → get_or (replicate n d) i d ≡ d
replicate-at zero i d = refl
replicate-at (suc n) zero d = refl
replicate-at (suc n) (suc i) d = replicate-at n i d

-- what owning an array of structs tells of its list
pub length-mapped : (X Y : Type 0) (f : X → Y) (l : List X) (n : ℕ) → length (map f l) ≡ n → length l ≡ n
length-mapped X Y f l n h = sym (length-map l f) ∙ h

-- a read past the end
pub past_end : (A : Type 0) (xs : List A) (d : A) (n k i : ℕ) → length xs ≡ n → n ≤ k → k ≡ i → d ≡ get_or xs i d
past_end A xs d n k i h l e = sym (get_or-eq_default xs d {n = i} (omega arith))

-- a list of n is its table
pub table_of : {A : Type 0} (n : ℕ) (f : ℕ → A) (d : A) (xs : List A) → length xs ≡ n → ((i : ℕ) → i < n → get_or xs i d ≡ f i)
    → xs ≡ tabulate n f
table_of n f d xs e h =
    ext_get_or d xs (tabulate n f) (e ∙ sym (tabulate-length n f)) (λ i b. let c : i < n = omega arith in h i c ∙ sym (tabulate-at n i f d c))

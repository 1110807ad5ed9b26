-- Laws of a body whose bytes move up, the last one first.
use mathlib.Core.Path.{◌≡◌, refl, ◌∙◌}
use mathlib.Core.List.{List, ◌∷◌, ◌++◌, append-nil}
use Prim.Native.Nat.{ℕ, suc, ◌+◌, ◌-◌, ◌≤◌, ◌<◌}
use native.Mathlib.Nat.{sub_self, add-sub_cancel}
use native.Mathlib.Numerals.{add-one}
use native.Mathlib.Omega.{arith}
use lib.ListN.{length, take, drop, get_or, set, get_or-append}
use lib.Seq.{take-suc, drop-cons, append_snoc, set_at, length-take-le, get_or-take, take-length}

-- the bytes from i on are moved up by n, those before are not yet
abbrev pub moved : List ℕ → ℕ → ℕ → List ℕ
moved xs n i = take i xs ++ take (length xs - i) (drop (i - n) xs)

pub moved_none : (xs : List ℕ) (n : ℕ) → moved xs n (length xs) ≡ xs
moved_none xs n = rw (take-length, sub_self, append-nil)

-- one byte moved
pub moved_on : (xs : List ℕ) (n k : ℕ) → n ≤ k → k < length xs
    → set (moved xs n (k + 1)) k (get_or (moved xs n (k + 1)) (k - n) 0) ≡ moved xs n k
moved_on xs n k h₁ h₂ =
    let R : List ℕ = take (length xs - suc k) (drop (suc k - n) xs) in
    let v : get_or (moved xs n (suc k)) (k - n) 0 ≡ get_or xs (k - n) 0 =
    get_or-append (take (suc k) xs) R 0 (k - n) (rw (length-take-le (suc k) xs h₂) (omega arith))
    ∙ get_or-take (suc k) xs (k - n) 0 (omega arith) in
    let s : moved xs n (suc k) ≡ take k xs ++ get_or xs k 0 ∷ R = rw (take-suc xs k 0 h₂) (append_snoc (take k xs) (get_or xs k 0) R) in
    let e₁ : length xs - k ≡ suc (length xs - suc k) = omega arith in
    let e₂ : suc (k - n) ≡ suc k - n = omega arith in
    let t : take (length xs - k) (drop (k - n) xs) ≡ get_or xs (k - n) 0 ∷ R = rw (e₁, drop-cons xs (k - n) 0 (omega arith), ← e₂) refl in
    rw (add-one, v, s, t) (set_at (take k xs) (get_or xs k 0) R (get_or xs (k - n) 0) k (length-take-le k xs (omega arith)))

pub moved_all : (xs : List ℕ) (at n : ℕ) → moved xs n (at + n) ≡ take (at + n) xs ++ take (length xs - (at + n)) (drop at xs)
moved_all xs at n = rw (add-sub_cancel at n)

-- Laws of an item that is written field by field: the fields behind each other, one byte as a field, a body that stays.
use mathlib.Core.Path.{◌≡◌, refl, sym, ap, ◌∙◌}
use mathlib.Core.List.{List, [], ◌∷◌, ◌++◌, append_assoc, append-nil}
use Prim.Native.Nat.{ℕ, ◌+◌, ◌≤◌, ◌<◌}
use native.Mathlib.Nat.{zero-add}
use native.Mathlib.Numerals.{add-one}
use native.Mathlib.Omega.{arith}
use lib.ListN.{length, take, drop, set, length-append, length-drop, drop_of_length-le}
use lib.Seq.{set_split, take-append-add, take-append_seam}
use Rattle.laws.proofs.Parts.{splice-append, splice-length}
use Rattle.model.specs.Bytes.{part, splice}

-- a byte stored
pub set-splice : (xs : List ℕ) (i v : ℕ) → i < length xs → set xs i v ≡ splice xs i (v ∷ [])
unfolding splice
set-splice xs i v h = set_split xs i v h ∙ rw (← add-one i) refl

-- a field behind those before it
pub next : (xs ys zs : List ℕ) (k : ℕ) {x y : List ℕ} → x ≡ splice xs 0 ys → y ≡ splice x k zs → length ys ≡ k → k + length zs ≤ length xs
    → y ≡ splice xs 0 (ys ++ zs)
next xs ys zs k p q e h =
    let l : 0 + length ys ≡ k = rw zero-add e in
    q
    ∙ ap (λ (l : List ℕ). splice l k zs) p
    ∙ ap (λ (i : ℕ). splice (splice xs 0 ys) i zs) (sym l)
    ∙ splice-append xs 0 ys zs (rw l h)

-- a byte behind those before it
pub next-byte : (xs ys : List ℕ) (k v : ℕ) {x : List ℕ} → x ≡ splice xs 0 ys → length ys ≡ k → k < length xs
    → set x k v ≡ splice xs 0 (ys ++ (v ∷ []))
next-byte xs ys k v {x} p e h =
    let l : length x ≡ length xs = ap length p ∙ splice-length xs 0 ys (omega arith) in
    next xs ys (v ∷ []) k p (set-splice x k v (omega arith)) e (omega arith)

-- the first n bytes, written
pub take-spliced : (xs ys : List ℕ) (n : ℕ) → length ys ≡ n → n ≤ length xs → take n (splice xs 0 ys) ≡ ys
unfolding splice
take-spliced xs ys n e h = rw (← e) (take-append_seam ys (drop (0 + length ys) xs))

-- both ends written, n bytes between them stay
pub cover-ends : (xs ys zs : List ℕ) (k n : ℕ) → length ys ≡ k → k + n + length zs ≡ length xs
    → splice (splice xs 0 ys) (k + n) zs ≡ ys ++ (part xs k n ++ zs)
unfolding splice part
cover-ends xs ys zs k n e h =
    let r : List ℕ = ys ++ drop (0 + length ys) xs in
    let q : 0 + length ys ≡ k = rw zero-add e in
    let l : length r ≤ k + n + length zs = simp (length-append, length-drop) (omega arith) in
    let front : take (k + n) r ≡ ys ++ take n (drop k xs) =
    ap (λ (i : ℕ). take (i + n) r) (sym e) ∙ take-append-add ys (drop (0 + length ys) xs) n ∙ ap (λ (i : ℕ). ys ++ take n (drop i xs)) q in
    ap (λ (l : List ℕ). l ++ (zs ++ drop (k + n + length zs) r)) front
    ∙ ap (λ (l : List ℕ). (ys ++ take n (drop k xs)) ++ (zs ++ l)) (drop_of_length-le r l)
    ∙ rw append-nil (append_assoc ys (take n (drop k xs)) zs)

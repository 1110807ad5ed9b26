-- A term that is summed before remainders are taken.
use mathlib.Core.Path.{◌≡◌, ◌∙◌}
use mathlib.Core.List.{List}
use native.Mathlib.Nat.{add-mod, mod-add-mod}
use Prim.Native.Nat.{ℕ, ◌+◌, ◌%◌, ◌≤◌}
use lib.ListN.{length, drop}

module _ (from : ℕ → ℕ → List ℕ → ℕ) (term : ℕ → List ℕ → ℕ) (width : ℕ)
    (next : (a b i : ℕ) (s : List ℕ) → i + width ≤ length s
    → from a b (drop i s) ≡ from ((a + term i s) % 65535) ((b + (a + term i s) % 65535) % 65535) (drop (i + width) s)) where
  pub next-late : (a b i : ℕ) (s : List ℕ) → i + width ≤ length s
      → from (a % 65535) (b % 65535) (drop i s) ≡ from ((a + term i s) % 65535) ((b + (a + term i s)) % 65535) (drop (i + width) s)
  next-late a b i s h =
      let w = term i s in
      next (a % 65535) (b % 65535) i s h ∙ rw (mod-add-mod a 65535 w, ← add-mod b (a + w) 65535)

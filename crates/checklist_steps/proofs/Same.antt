-- The library's `all` over a range comes to the model's test of every number below a bound.
use Prim.Native.Nat.{ℕ, ◌+◌, ◌<◌}
use mathlib.Core.Path.{◌≡◌, sym, ap, ◌∙◌}
use mathlib.Core.Bool.{Bool, true, false}
use native.Mathlib.Omega.{arith}
use mathlib.Core.List.{List}
use lib.ListN.{length}
use Rattle.std.specs.Bool.{MatchBool}
use Rattle.std.specs.List.{range_with_len, AllWithin, HoldsAt}
use Rattle.std.proofs.lemmas.List.FromFn.{length-range_with_len, get_or-range_with_len}
use Rattle.laws.proofs.Tables.{every-all, every-fails}
use Rattle.model.specs.Tables.{every}

module _ (test : ℕ → Bool) (from n : ℕ) where
  abbrev numbers : List ℕ
  numbers = range_with_len from n

  pub every-from : (r : Bool)
      → MatchBool r (AllWithin (λ x. test x ≡ true) numbers 0 (length numbers)) ((k : ℕ) × (k < length numbers) × HoldsAt (λ x. test x ≡ false) numbers k)
      → r ≡ every n (λ k. test (from + k))
  every-from true h =
      sym (every-all _ n (λ k l. ap test (sym (get_or-range_with_len from n k 0 l)) ∙ h k 0 (omega arith) (rw length-range_with_len l)))
  every-from false h =
      let l : h.0 < n = rw length-range_with_len at h.1 in
      sym (every-fails _ n h.0 l (ap test (sym (get_or-range_with_len from n h.0 0 l)) ∙ h.2 0))

-- The log positions: the code's tests come to the definition.
use mathlib.Core.Path.{◌≡◌, ap, ◌∙◌}
use mathlib.Core.Bool.{Bool, true, false}
use mathlib.Core.List.{List}
use Prim.Native.Nat.{ℕ, ◌+◌, ◌-◌, ◌/◌, ◌≤◌, ◌<◌}
use native.Mathlib.Omega.{arith}
use lib.Dec.{ltb}
use borrow.Author.Tests.{ltb-true, lt-ltb, le-ltb}
use Rattle.laws.proofs.Tables.{and_left}
use Rattle.laws.proofs.Search.{first-from}
use Rattle.model.specs.Passes.{first_from}
use Rattle.model.specs.State.{record_needed}
use Rattle.upkeep_policy.specs.Upkeep.{log_ahead, first_needed_log}
use Rattle.model.specs.declared.{geometry.Geometry.Geometry, state.State.State}
use Rattle.upkeep.proofs.Search.{first-start}

module _ (g : Geometry) (v : List ℕ) (s : State) where
  -- a slot that no record has had
  pub log-new : (i : ℕ) → s.durable + i ≤ g.records → false ≡ log_ahead g v s i
  unfolding log_ahead
  log-new i h = rw (le-ltb g.records (s.durable + i) h)

  -- a record is displaced
  pub log-turned : (i : ℕ) (k : Bool) → g.records < s.durable + i
      → k ≡ record_needed g v s (s.durable + i - g.records)
      → k ≡ log_ahead g v s i
  unfolding log_ahead
  log-turned i k h e = rw (lt-ltb g.records (s.durable + i) h) e

  -- a position that is needed has a number
  pub log-number : (i : ℕ) → log_ahead g v s i ≡ true → g.records < s.durable + i
  unfolding log_ahead
  log-number i h = ltb-true g.records (s.durable + i) (and_left (ltb g.records (s.durable + i)) _ h)

  -- the search from 1 on
  pub log-start : (half : ℕ) → half ≡ g.records / 2
      → first_from (half + 1 - 1) (log_ahead g v s) 1 ≡ first_needed_log g v s
  unfolding first_needed_log
  log-start half e = first-start (log_ahead g v s) half ∙ ap (λ (n : ℕ). first_from n (log_ahead g v s) 1) e

  -- a number that the search stopped at
  pub log-hit : (j : ℕ) → j ≡ first_needed_log g v s → j ≤ g.records / 2 → log_ahead g v s j ≡ true
  unfolding first_needed_log
  log-hit j e h = let f = first-from (log_ahead g v s) (g.records / 2) 1 in
      rw e (f.hit (omega (arith, e, h)))

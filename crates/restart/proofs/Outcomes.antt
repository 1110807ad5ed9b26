-- What the definition of Restart says in each of its cases.
use mathlib.Core.Path.{◌≡◌, refl, sym, ap, ◌∙◌}
use mathlib.Core.Bool.{Bool, true}
use mathlib.Core.List.{List}
use Prim.Native.Nat.{ℕ}
use lib.ListN.{length, replicate}
use borrow.Author.Tests.{eq-eqb, ne_eqb}
use Rattle.state.specs.Resumed.{resumed_state}
use Rattle.model.specs.Tables.{first_of}
use Rattle.model.specs.Geometry.{valid_volume}
use Rattle.model.specs.State.{valid_memory, zero_state}
use Rattle.model.specs.Refusals.{restart_rows}
use Rattle.model.specs.Outcome.{reply_of, decided}
use Rattle.model.specs.Restart.{restart_state, restart_of}
use Rattle.model.specs.declared.{state.State.State, answer.Reply.Reply}
use Rattle.model.specs.declared.answer.Answer.TheVariants.{Refused, Done}
use Rattle.index.specs.Scanned.{scan_rows, scan_refusal, scanned_of}

module _ (v m : List ℕ) where
  -- past the tests of the volume and the memory, the rows are the scan's
  pub scan-rows : (r : ℕ) (valid memory : Bool) → valid ≡ valid_volume v → valid ≡ true → memory ≡ valid_memory (length m) → memory ≡ true
      → r ≡ scan_refusal v → r ≡ first_of (restart_rows v m)
  unfolding restart_rows scan_rows
  scan-rows r valid memory ev tv em tm er =
      let a : valid_volume v ≡ true = sym ev ∙ tv in
      let b : valid_memory (length m) ≡ true = sym em ∙ tm in
      er ∙ rw (a, b)

  pub refused : (n : ℕ) (t : State) → n ≡ first_of (restart_rows v m) → (n ≡ 0 → ⊥) → t ≡ zero_state
      → (◌≡◌ {A = Reply} (record { answer = Refused n; state = t }) (reply_of (restart_of v m))) × (m ≡ (restart_of v m).memory)
  unfolding restart_of decided
  refused n t e ne et =
      rw (ne_eqb (first_of (restart_rows v m)) 0 (λ z. ne (e ∙ z))) (
        ap (λ (k : ℕ). record { answer = Refused k; state = t }) e
            ∙ ap (λ (x : State). record { answer = Refused (first_of (restart_rows v m)); state = x }) et,
        refl,
      )

  pub done : (t : State) (w : List ℕ) → 0 ≡ first_of (restart_rows v m) → t ≡ resumed_state (scanned_of v) → w ≡ replicate (length m) 0
      → (◌≡◌ {A = Reply} (record { answer = Done; state = t }) (reply_of (restart_of v m))) × (w ≡ (restart_of v m).memory)
  unfolding restart_of decided restart_state
  done t w e et ew =
      rw (eq-eqb (first_of (restart_rows v m)) 0 (sym e)) (ap (λ (x : State). record { answer = Done; state = x }) et, ew)

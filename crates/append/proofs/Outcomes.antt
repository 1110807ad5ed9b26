-- The outcomes of Begin and Change: refused as their tables say, else done.
use mathlib.Core.Path.{◌≡◌, sym, ap, ◌∙◌}
use mathlib.Core.List.{List, []}
use Prim.Native.Nat.{ℕ, ◌+◌}
use lib.ListN.{replicate}
use borrow.Author.Tests.{ne_eqb}
use Rattle.laws.proofs.Tables.{when_false}
use Rattle.laws.proofs.Gives.{passed}
use Rattle.model.specs.Tables.{Row, first_of}
use Rattle.model.specs.Change.{apply_change}
use Rattle.model.specs.Item.{image_body, frame_image}
use Rattle.model.specs.State.{frame_bytes, last_number, holder}
use Rattle.model.specs.Refusals.{begin_rows, change_rows}
use Rattle.model.specs.Outcome.{Outcome, nothing, reply_of, unchanged, decided}
use Rattle.model.specs.Effects.{appended_state, appended_memory, changed_image, begin_done, change_done}
use Rattle.model.specs.Calls.{begin_of, change_call}
use Rattle.model.specs.declared.{change.Change.Change, state.State.State}
use Rattle.model.specs.declared.answer.Answer.TheVariants.{Refused, Done}
use Rattle.model.specs.declared.change.Change.TheVariants.{Format}

-- what a table decides
module _ (rows : List Row) (m : List ℕ) (s : State) (done : Outcome) where
  decided-refused : (n : ℕ) → n ≡ first_of rows → (n ≡ 0 → ⊥) → unchanged (Refused n) m s ≡ decided rows m s done
  unfolding decided
  decided-refused n e ne =
      ap (λ (k : ℕ). unchanged (Refused k) m s) e ∙ sym (when_false _ _ (ne_eqb _ _ (λ z. ne (e ∙ z))))

left : (t t' : State) (w w' : List ℕ) → t ≡ t' → w ≡ w'
    → ◌≡◌ {A = Outcome} (record { answer = Done; state = t; memory = w; stored = nothing })
    (record { answer = Done; state = t'; memory = w'; stored = nothing })
left t t' w w' et ew = rw (et, ew)

-- the clauses of a call's contract, from one equation
pub clauses : {o p : Outcome} → o ≡ p → (reply_of o ≡ reply_of p) × (o.memory ≡ p.memory)
clauses e = (ap reply_of e, ap (λ (x : Outcome). x.memory) e)

module _ (v m : List ℕ) (s : State) (page : ℕ) where
  pub begin-refused : (frame fill n : ℕ) → n ≡ first_of (begin_rows v m s page frame) → (n ≡ 0 → ⊥) → unchanged (Refused n) m s
      ≡ begin_of v m s page frame fill
  unfolding decided begin_done
  begin-refused frame fill n = decided-refused (begin_rows v m s page frame) m s _ n

  pub begin-done : (frame fill : ℕ) (t : State) (w : List ℕ) → first_of (begin_rows v m s page frame) ≡ 0
      → t ≡ appended_state s page frame
      → w ≡ appended_memory m s page (Format fill) [] frame (frame_image page (last_number s + 1) (replicate 244 fill))
      → record { answer = Done; state = t; memory = w; stored = nothing } ≡ begin_of v m s page frame fill
  unfolding decided begin_done
  begin-done frame fill t w e et ew = left t _ w _ et ew ∙ passed v m s (begin_rows v m s page frame) _ e

  pub change-refused : (c : Change) (p : List ℕ) (n : ℕ) → n ≡ first_of (change_rows v m s page c) → (n ≡ 0 → ⊥) → unchanged (Refused n) m s
      ≡ change_call v m s page c p
  unfolding decided change_done
  change-refused c p n = decided-refused (change_rows v m s page c) m s _ n

  pub change-done : (c : Change) (p : List ℕ) (t : State) (w : List ℕ) → first_of (change_rows v m s page c) ≡ 0
      → t ≡ appended_state s page (holder s page)
      → w ≡ appended_memory m s page c p (holder s page)
      (changed_image (frame_bytes m (holder s page)) (last_number s + 1) (apply_change c p (image_body (frame_bytes m (holder s page)))))
      → record { answer = Done; state = t; memory = w; stored = nothing } ≡ change_call v m s page c p
  unfolding decided change_done
  change-done c p t w e et ew = left t _ w _ et ew ∙ passed v m s (change_rows v m s page c) _ e

-- A call's reply and volume as an outcome has them: refused by a table, passed by it, nothing to do, an item stored.
use mathlib.Core.Path.{◌≡◌, refl, sym, ap, ◌∙◌}
use mathlib.Core.List.{List}
use Prim.Native.Nat.{ℕ}
use borrow.Author.Tests.{eq-eqb, ne_eqb}
use Rattle.laws.proofs.Tables.{when_true}
use Rattle.model.specs.Tables.{Row, first_of}
use Rattle.model.specs.Outcome.{Outcome, unchanged, decided, reply_of, volume_after}
use Rattle.model.specs.declared.{state.State.State, answer.Answer.Answer, answer.Reply.Reply}
use Rattle.model.specs.declared.answer.Answer.TheVariants.{Refused, Nothing}

-- what a call has to show: its reply and the volume that it leaves are those of an outcome
abbrev pub Gives : List ℕ → Answer → State → List ℕ → Outcome → Type 0
Gives v a t w o = (◌≡◌ {A = Reply} (record { answer = a; state = t }) (reply_of o)) × (w ≡ volume_after v o.stored)

pub gives-is : (v : List ℕ) (a : Answer) (t : State) (w : List ℕ) (o p : Outcome) → o ≡ p → Gives v a t w o → Gives v a t w p
gives-is v a t w o p e h = rw e at h

-- what a table decides
module _ (v m : List ℕ) (s : State) (rows : List Row) (done : Outcome) where
  pub refused : (n : ℕ) → n ≡ first_of rows → (n ≡ 0 → ⊥) → Gives v (Refused n) s v (decided rows m s done)
  unfolding volume_after decided
  refused n e ne = rw (ne_eqb (first_of rows) 0 (λ z. ne (e ∙ z))) (ap (λ (k : ℕ). record { answer = Refused k; state = s }) e, refl)

  pub passed : first_of rows ≡ 0 → done ≡ decided rows m s done
  unfolding decided
  passed e = sym (when_true _ _ (eq-eqb _ _ e))

pub idle : (v m : List ℕ) (s : State) → Gives v Nothing s v (unchanged Nothing m s)
unfolding volume_after
idle v m s = (refl, refl)

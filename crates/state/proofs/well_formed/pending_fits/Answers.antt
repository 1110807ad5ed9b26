-- `state::well_formed::pending_fits` meets its contract.
use mathlib.Core.Path.{◌≡◌}
use mathlib.Core.Bool.{Bool}
use borrow.Author.Rules.{rules}
use Prim.Native.Nat.{ℕ}
use Rattle.model.specs.State.{pending_note_fits}
use Rattle.model.specs.declared.geometry.Geometry.{Geometry}
use Rattle.model.specs.declared.item.Note.{Note}
use Rattle.model.specs.Types.{PendingNote, None, Some}
use Rattle.std.specs.Option.{MatchOption}
use Rattle.std.specs.Bool.{IsTrue}
use Rattle.state.proofs.well_formed.pending_fits.Goals as goal

fits : (g : Geometry) (n d : ℕ) (p : PendingNote) (r : Bool) (P : Note → Type 0) → MatchOption p (IsTrue r) P
    → ((x : Note) → P x → r ≡ pending_note_fits g n d (Some x)) → r ≡ pending_note_fits g n d p
unfolding pending_note_fits
fits g n d None r P h of = h
fits g n d (Some x) r P h of = of x h

pub returns : goal.returns
returns c =
    let s = c.args.s.now in
    fits c.args.g s.notes s.durable s.note c.is_none_or.result _ c.is_none_or.ensures (λ x h. search rules)

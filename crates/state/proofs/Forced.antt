-- The next state of a force, by whether the page is one of the volume.
use Prim.Native.Nat.{ℕ, ◌+◌, ◌-◌}
use mathlib.Core.Path.{◌≡◌, ap, sym}
use mathlib.Core.List.{List}
use mathlib.Core.Bool.{true, false}
use Rattle.laws.proofs.Tables.{when_true, when_false}
use Rattle.model.specs.Tables.{within}
use Rattle.model.specs.Index.{entry_of, set_entry, with_durable}
use Rattle.model.specs.Effects.{forced_state}
use Rattle.model.specs.declared.{state.Entry.Entry, state.State.State}

-- one more durable record and one fewer pending, with the index given
abbrev pub counted : State → List Entry → State
counted s i =
    record { durable = s.durable + 1; pending = s.pending - 1; notes = s.notes; note = s.note; frames = s.frames; index = i }

module _ (s : State) (pages p : ℕ) where
  pub forced-in : within pages p ≡ true
      → counted s (set_entry s.index p (with_durable (entry_of s.index p) (s.durable + 1))) ≡ forced_state s pages p
  unfolding forced_state
  forced-in h = ap (counted s) (sym (when_true _ s.index h))

  pub forced-out : within pages p ≡ false → counted s s.index ≡ forced_state s pages p
  unfolding forced_state
  forced-out h = ap (counted s) (sym (when_false _ s.index h))

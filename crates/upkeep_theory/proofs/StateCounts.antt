-- The counts of the states that Note, an append and Force leave.
use mathlib.Core.Path.{◌≡◌, refl}
use Prim.Native.Nat.{ℕ, suc, ◌+◌, ◌-◌}
use native.Mathlib.Numerals.{add-one}
use Rattle.model.specs.Effects.{noted_state, forced_state, appended_state}
use Rattle.model.specs.declared.{item.Note.Note, state.State.State}
use Rattle.model.specs.Types.{None}

pub noted-counts : (s : State) (n : Note)
    → ((noted_state s n).notes ≡ suc s.notes) × ((noted_state s n).durable ≡ s.durable)
    × ((noted_state s n).pending ≡ s.pending) × ((noted_state s n).note ≡ None)
unfolding noted_state
noted-counts s n = (add-one s.notes, refl, refl, refl)

pub appended-counts : (s : State) (p f : ℕ)
    → ((appended_state s p f).notes ≡ s.notes) × ((appended_state s p f).durable ≡ s.durable)
    × ((appended_state s p f).pending ≡ s.pending + 1) × ((appended_state s p f).note ≡ s.note)
unfolding appended_state
appended-counts s p f = (refl, refl, refl, refl)

pub forced-counts : (s : State) (pages p : ℕ) → ((forced_state s pages p).durable ≡ suc s.durable)
    × ((forced_state s pages p).pending ≡ s.pending - 1)
    × ((forced_state s pages p).notes ≡ s.notes) × ((forced_state s pages p).note ≡ s.note)
    × ((forced_state s pages p).frames ≡ s.frames)
unfolding forced_state
forced-counts s pages p = (add-one s.durable, refl, refl, refl, refl)

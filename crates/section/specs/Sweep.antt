-- A section read in one pass: a guess where its run starts, and what the pass finds from there on.
use Rattle.std.specs.Prelude.{ℕ, suc, ◌+◌, ◌-◌, ◌%◌, ◌≤◌, ◌<◌, ◌≡◌, Bool, true, false, cond, ◌&&◌, ◌||◌, List, eqb, ltb}
use Rattle.model.specs.Bytes.{field}
use Rattle.model.specs.Checksum.{sealed}
use Rattle.model.specs.Geometry.{slot_of}
use Rattle.model.specs.Scan as scan
use Rattle.section.specs.declared.Extent.{Extent}
use Rattle.section.specs.declared.guess.Guess.{Guess}

-- what is sure of a guess: the slot is the number's, and no number of a run from there on is too large
pub record Guessed (s : Extent) (u : Guess) : Type 0 where
  pub some : 1 ≤ u.first
  pub low : u.first ≤ 4294960000
  pub inside : 1 ≤ s.slots → u.slot < s.slots
  pub place : 1 ≤ s.slots → u.slot ≡ (u.first - 1) % s.slots
  pub plain : s.ring ≡ false → u.first ≡ 1
  pub none : s.slots ≡ 0 → u.first ≡ 1

-- a pass from number f on found c numbers, each in its slot, whole; the slot behind them is not whole
pub record Swept (s : scan.Section) (f c : ℕ) : Type 0 where
  pub few : c ≤ s.slots
  pub whole : (i : ℕ) → i < c → sealed s.size (s.slot (slot_of s.slots (f + i))) ≡ true
  pub numbered : (i : ℕ) → i < c → field 4 0 (s.slot (slot_of s.slots (f + i))) ≡ f + i
  pub torn : c < s.slots → sealed s.size (s.slot (slot_of s.slots (f + c))) ≡ false

-- these numbers are all that the section holds: they fill the slots; or, from above 1 on, all but the one behind them,
-- which the next store meets; or they start at 1 and what follows the slot behind them is zero
unfoldable pub closed_of : List ℕ → Extent → ℕ → ℕ → Bool
closed_of v s f c =
    eqb c s.slots || ((ltb 1 f && (ltb 0 c && eqb (suc c) s.slots))
    || (eqb f 1 && scan.rest_zero (s.size + 4) s.slots v s.at c))

-- the run start, with c numbers from f on: of an empty ring 2
abbrev pub begun_of : Bool → ℕ → ℕ → ℕ
begun_of ring f c = cond (ring && eqb c 0) 2 f

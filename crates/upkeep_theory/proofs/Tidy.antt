-- T2's invariant as a whole (docs/UPKEEP.md: M1 to M7), over the live state, or over the state that a Restart would
-- give
-- where the power is off; and that it holds where upkeep is idle.
use mathlib.Core.Path.{◌≡◌, refl}
use mathlib.Core.Logic.{◌⊎◌}
use mathlib.Core.Bool.{true, false}
use mathlib.Core.List.{List}
use Prim.Native.Nat.{ℕ, suc, ◌+◌, ◌-◌, ◌≤◌}
use native.Mathlib.Omega.{arith}
use Rattle.model.specs.Item.{is_written}
use Rattle.model.specs.Index.{entry_of}
use Rattle.model.specs.Scan.{note_record}
use Rattle.model.specs.State.{note_needed, note_pending, held}
use Rattle.model.specs.Refusals.{page_dirty}
use Rattle.model.specs.Carry.{count_of}
use Rattle.model.specs.declared.{geometry.Geometry.Geometry, item.Note.Note, state.State.State}
use Rattle.upkeep_policy.specs.Upkeep.{reserve, note_ahead, log_ahead}
use Rattle.upkeep_theory.proofs.NotesTidy.{NotesTidy, idle-tidy, no-present}
use Rattle.upkeep_theory.proofs.LogTidy.{Place0, LogTidy, log-idle}
use mathlib.Core.Path.{sym, ◌∙◌}
use native.Mathlib.Decide.{ℕ_discrete}
use Rattle.model.specs.Types.{None, Some}

-- the renewal of the written note at position 2 is under way: its page is dirty, or a note is owed
pub record Busy (g : Geometry) (v : List ℕ) (s : State) : Type 0 where
  pub place : ℕ
  pub second : place + g.notes ≡ suc s.notes
  pub needed : note_needed g v s.notes (suc place) ≡ true
  pub written : is_written (note_record g v (suc place)) ≡ true
  pub live : ((held s (note_record g v (suc place)).page ≡ true)
      × (page_dirty s (note_record g v (suc place)).page ≡ true))
      ⊎ (note_pending s.note ≡ true)

-- how many of the notes since k0 are written
abbrev pub since_written : Geometry → List ℕ → ℕ → ℕ → ℕ
since_written g v k k0 = count_of (k - k0) (λ i. is_written (note_record g v (suc (k0 + i))))

-- M3, M6: numbers alone
pub record Sums (d pending d0 u written cuts b : ℕ) : Type 0 where
  pub d-low : d0 ≤ d
  pub u-one : u ≤ 1
  pub sum : d0 + u ≤ d + pending
  pub pending-one : pending ≤ 1
  pub b-one : b ≤ 1
  pub puts : d + pending ≤ d0 + u + written + cuts + b

pub record Tidy (g : Geometry) (v : List ℕ) (s : State) (cuts : ℕ) : Type 0 where
  pub z : Place0
  pub b : ℕ
  pub notes : NotesTidy g v s.notes z.k0 s.note
  pub near : s.notes + 2 ≤ z.k0 + g.notes
  pub log : LogTidy g v s z
  pub sums : Sums s.durable s.pending z.d0 z.u (since_written g v s.notes z.k0) cuts b
  pub busy : 1 ≤ b → Busy g v s
  -- not pending and owed at once; the user's record is pending before any note
  pub both : 1 ≤ s.pending → s.note ≡ None
  pub early : 1 ≤ s.pending → s.durable + s.pending ≡ z.d0 + z.u → s.notes ≡ z.k0
  -- no page was ever written: no put
  pub none : ((p : ℕ) → 1 ≤ p → p ≤ g.pages → (entry_of s.index p).written ≡ 0)
      → s.durable + s.pending ≡ z.d0 + z.u

-- the invariant with the same k0
abbrev pub From : Geometry → List ℕ → State → ℕ → ℕ → Type 0
From g v s cuts k0 = (y : Tidy g v s cuts) × (y.z.k0 ≡ k0)

-- where a note is pending no record is
module _ {g : Geometry} {v : List ℕ} {s : State} {cuts : ℕ} (t : Tidy g v s cuts) where
  pub settled : (n : Note) → s.note ≡ Some n → s.pending ≡ 0
  settled n q = elim (ℕ_discrete s.pending 0) [
    | yes z ↦ z
    | no z ↦ no-present n (sym (t.both (omega arith)) ∙ q)
  ]

-- ---- idle

-- the invariant as it is where upkeep was idle: the counts are those of that moment
pub record Reset (g : Geometry) (v : List ℕ) (s : State) (cuts : ℕ) : Type 0 where
  pub tidy : Tidy g v s cuts
  pub k-is : s.notes ≡ tidy.z.k0
  pub d-is : s.durable ≡ tidy.z.d0
  pub u-is : tidy.z.u ≡ 0
  pub b-is : tidy.b ≡ 0

pub idle : (g : Geometry) (v : List ℕ) (s : State) → s.note ≡ None → s.pending ≡ 0 → 2 ≤ g.records → 2 ≤ g.notes
    → note_ahead g v s 1 ≡ false → note_ahead g v s 2 ≡ false
    → ((i : ℕ) → 1 ≤ i → i ≤ reserve g → log_ahead g v s i ≡ false)
    → (cuts : ℕ) → Reset g v s cuts
idle g v s none quiet l2 n2 one two rest cuts =
    record {
      tidy = record {
        z = record { k0 = s.notes; d0 = s.durable; u = 0 };
        b = 0;
        notes = rw none (idle-tidy g v s one two);
        near = omega arith;
        log = log-idle g v s none l2 rest;
        sums = omega arith;
        busy = λ h. absurd (omega arith);
        both = λ h. absurd (omega arith);
        early = λ h. absurd (omega arith);
        none = λ h. omega arith;
      };
      k-is = refl;
      d-is = refl;
      u-is = refl;
      b-is = refl;
    }

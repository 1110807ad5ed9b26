-- T2: the phases of a renewal with the calls that are left.
use mathlib.Core.Path.{◌≡◌}
use mathlib.Core.Bool.{false, cond}
use mathlib.Core.List.{List}
use Prim.Native.Nat.{ℕ, ◌+◌, ◌-◌, ◌≤◌, ◌<◌}
use lib.ListN.{length}
use Rattle.model.specs.Geometry.{top_number}
use Rattle.model.specs.Item.{is_written}
use Rattle.model.specs.State.{note_pending}
use Rattle.model.specs.Outcome.{volume_after}
use Rattle.model.specs.Calls.{Call, outcome_of}
use Rattle.model.specs.declared.{geometry.Geometry.Geometry, item.Note.Note}
use Rattle.model.specs.declared.state.State.{State}
use Rattle.upkeep_policy.specs.Upkeep.{ever_written}
use Rattle.upkeep_theory.proofs.Tidy.{Tidy, since_written}
use Rattle.upkeep_theory.proofs.Measure.{rest_of}
use Rattle.upkeep_theory.proofs.Load.{Least}
use Rattle.upkeep_theory.proofs.Halfway.{Halfway}
use Rattle.model.specs.Types.{Some}

-- the calls that are left to do, and the written notes
abbrev pub rest_at : Geometry → ℕ → ℕ → List ℕ → State → ℕ
rest_at g W k0 v s = rest_of W g.pages (since_written g v s.notes k0) (s.notes - k0)

abbrev pub left_at : Geometry → ℕ → ℕ → List ℕ → State → ℕ
left_at g W k0 v s = W - since_written g v s.notes k0

pub data Phase (g : Geometry) (W k0 : ℕ) (v m : List ℕ) (s : State) (r N : ℕ) : Type 0 where
  quiet : (a : ℕ) → a ≤ 1 → note_pending s.note ≡ false → s.pending ≡ 0 → rest_at g W k0 v s ≤ N + a
      → s.durable + left_at g W k0 v s < top_number → Least a v m s r → Phase g W k0 v m s r N
  half : note_pending s.note ≡ false → s.pending ≡ 0 → Halfway g v s → rest_at g W k0 v s ≤ N + 3
      → s.durable + left_at g W k0 v s ≤ top_number → Phase g W k0 v m s r N
  unforced : 1 ≤ s.pending → rest_at g W k0 v s + 1 ≤ N → s.durable + s.pending + left_at g W k0 v s < top_number
      → Phase g W k0 v m s r N
  putting : 1 ≤ s.pending → Halfway g v s → rest_at g W k0 v s ≤ N + 2
      → s.durable + s.pending + left_at g W k0 v s ≤ top_number
      → Phase g W k0 v m s r N
  storing : (n : Note) → s.note ≡ Some n → rest_at g W k0 v s ≤ N + cond (is_written n) 4 2
      → s.durable + left_at g W k0 v s < top_number + cond (is_written n) 1 0 → Phase g W k0 v m s r N

pub record Next (g : Geometry) (W k0 : ℕ) (v m : List ℕ) (s : State) (r N : ℕ) (c : Call) : Type 0 where
  pub fewer : ever_written (outcome_of c v m s).state ≤ W
  pub size : length (outcome_of c v m s).memory ≡ length m
  pub phase : Phase g W k0 (volume_after v (outcome_of c v m s).stored) (outcome_of c v m s).memory
      (outcome_of c v m s).state r N

-- the same of a tidy state, and that a call leads from a phase with N calls left to one with a call less
module _ {g : Geometry} {v : List ℕ} {s : State} {cuts : ℕ} (t : Tidy g v s cuts) (W : ℕ) where
  abbrev pub rest : ℕ
  rest = rest_at g W t.z.k0 v s

  abbrev pub left : ℕ
  left = left_at g W t.z.k0 v s

  abbrev pub Leads : List ℕ → ℕ → ℕ → Call → Type 0
  Leads m r N c = (1 ≤ N) × Next g W t.z.k0 v m s r (N - 1) c

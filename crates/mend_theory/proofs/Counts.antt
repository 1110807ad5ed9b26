-- ME2: how many calls, records and notes a round takes.
use mathlib.Core.Path.{◌≡◌, refl, ap}
use mathlib.Core.Logic.{inl, inr}
use mathlib.Core.List.{List, [], ◌∷◌}
use Prim.Native.Nat.{ℕ, zero, suc, ◌+◌, ◌≤◌}
use native.Mathlib.Omega.{arith}
use native.Mathlib.Nat.{le_of_suc-le-suc}
use lib.Dec.{eqb, ltb}
use lib.ListN.{length}
use Rattle.laws.proofs.Tables.{by_cases}
use Rattle.model.specs.Outcome.{decided}
use Rattle.model.specs.Refusals.{page_dirty}
use Rattle.model.specs.Passes.{image_count, first_old}
use Rattle.model.specs.Geometry.{geometry_of}
use Rattle.model.specs.Effects.{note_stored, backup_done, begin_done, change_done, force_done, load_done, release_done, write_outcome}
use Rattle.model.specs.Effects.{restamp_done, appended_state, forced_state, noted_state}
use Rattle.model.specs.Calls.{Call, done_of, rows_of, outcome_of}
use Rattle.model.specs.Tables.{first_of}
use Rattle.model.specs.History.{Power, off, on, Machine, Event, perform, call_in, step, run}
use Rattle.model.specs.declared.state.State.{State}
use Rattle.model.specs.declared.command.Command.TheVariants.{Begin, Load, Force, Write, Release, StartCarry, Restamp, FinishCarry}
use Rattle.model.specs.declared.command.Command.TheVariants.{Change, Backup, Note}
use Rattle.upkeep_policy.specs.Upkeep.{Advice, idle, stuck, make, advice_of, then_call, upkeep_events}
use Rattle.upkeep_policy.specs.UpkeepClaim.{Rests}
use Rattle.model.specs.Types.{PendingNote, None, Some}

-- ---- notes

module _ (v m : List ℕ) (s : State) where
  note-done : (y : PendingNote) → (note_stored v m s y).state.notes ≤ suc s.notes
  unfolding noted_state
  note-done None = omega arith
  note-done (Some n) = omega arith

  done-notes : (c : Call) → (done_of c v m s).state.notes ≤ suc s.notes
  unfolding begin_done load_done change_done force_done write_outcome backup_done release_done restamp_done appended_state forced_state
  done-notes (Begin q r fill, _) = omega arith
  done-notes (Load q r, _) = omega arith
  done-notes (Change q c, payload) = omega arith
  done-notes (Force, _) = by_cases (eqb s.pending 0) (λ t. rw t (omega arith)) (λ t. rw t (omega arith))
  done-notes (Write q, _) = by_cases (page_dirty s q) (λ t. rw t (omega arith)) (λ t. rw t (omega arith))
  done-notes (Backup q b, _) = omega arith
  done-notes (Release q, _) = omega arith
  done-notes (Note, _) = note-done s.note
  done-notes (StartCarry, _) = omega arith
  done-notes (Restamp, _) = by_cases (ltb (first_old (geometry_of v) v s.index) (image_count (geometry_of v)))
      (λ t. rw t (omega arith)) (λ t. rw t (omega arith))
  done-notes (FinishCarry, _) = omega arith

  pub call-notes : (c : Call) → (outcome_of c v m s).state.notes ≤ suc s.notes
  unfolding decided
  call-notes c = by_cases (eqb (first_of (rows_of c v m s)) 0) (λ t. rw t (done-notes c)) (λ t. rw t (omega arith))

abbrev pub notes_in : Power → ℕ
notes_in off = 0
notes_in (on m s) = s.notes

pub step-notes : (w : Machine) (c : Call) → notes_in (step w (perform c)).power ≤ suc (notes_in w.power)
unfolding step
step-notes w c = go w.power
  where
    go : (y : Power) → notes_in (call_in y w.volume c w.past).power ≤ suc (notes_in y)
    go off = omega arith
    go (on m s) = call-notes w.volume m s c

pub upkeep-notes : (r n : ℕ) (w : Machine) → notes_in (run w (upkeep_events r n w)).power ≤ notes_in w.power + n
unfolding run upkeep_events
upkeep-notes r zero w = omega arith
upkeep-notes r (suc n) w = go (λ c. upkeep-notes r n (step w (perform c))) (advice_of r w)
  where
    go : ((c : Call) → notes_in (run (step w (perform c)) (upkeep_events r n (step w (perform c)))).power
        ≤ notes_in (step w (perform c)).power + n)
        → (a : Advice) → notes_in (run w (then_call a (λ c. upkeep_events r n (step w (perform c))))).power ≤ notes_in w.power + suc n
    go ih idle = omega arith
    go ih (stuck q) = omega arith
    go ih (make c) = omega (arith, ih c, step-notes w c)

-- ---- calls

pub upkeep-few : (r n : ℕ) (w : Machine) → length (upkeep_events r n w) ≤ n
unfolding upkeep_events
upkeep-few r zero w = omega arith
upkeep-few r (suc n) w = go (λ c. upkeep-few r n (step w (perform c))) (advice_of r w)
  where
    go : ((c : Call) → length (upkeep_events r n (step w (perform c))) ≤ n)
        → (a : Advice) → length (then_call a (λ c. upkeep_events r n (step w (perform c)))) ≤ suc n
    go ih idle = omega arith
    go ih (stuck q) = omega arith
    go ih (make c) = omega (arith, ih c)

-- upkeep that rests makes no call
pub idle-none : (r n : ℕ) (w : Machine) → advice_of r w ≡ idle → upkeep_events r n w ≡ []
unfolding upkeep_events
idle-none r zero w e = refl
idle-none r (suc n) w e = rw e refl

rest-none : (r n : ℕ) (w : Machine) → Rests r w → upkeep_events r n w ≡ []
unfolding upkeep_events
rest-none r zero w y = refl
rest-none r (suc n) w (inl e) = rw e refl
rest-none r (suc n) w (inr (q, e, z)) = rw e refl

-- more fuel than it needs to rest changes nothing
pub rest-same : (r n K : ℕ) (w : Machine) → n ≤ K → Rests r (run w (upkeep_events r n w)) → upkeep_events r K w ≡ upkeep_events r n w
unfolding run upkeep_events
rest-same r zero K w le y = rest-none r K w y
rest-same r (suc n) zero w le y = absurd (omega arith)
rest-same r (suc n) (suc K) w le y = go (λ c z. rest-same r n K (step w (perform c)) (le_of_suc-le-suc le) z) (advice_of r w) y
  where
    go : ((c : Call) → Rests r (run (step w (perform c)) (upkeep_events r n (step w (perform c))))
        → upkeep_events r K (step w (perform c)) ≡ upkeep_events r n (step w (perform c)))
        → (a : Advice) → Rests r (run w (then_call a (λ c. upkeep_events r n (step w (perform c)))))
        → then_call a (λ c. upkeep_events r K (step w (perform c))) ≡ then_call a (λ c. upkeep_events r n (step w (perform c)))
    go ih idle z = refl
    go ih (stuck q) z = refl
    go ih (make c) z = ap (λ (es : List Event). perform c ∷ es) (ih c z)

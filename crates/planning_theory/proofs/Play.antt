-- The real run, call by call: what a call that is not refused leaves of the machine and of what is counted.
use mathlib.Core.Path.{◌≡◌, refl, sym, ap, ◌∙◌, subst}
use mathlib.Core.Bool.{Bool, true, false, not}
use mathlib.Core.List.{List, [], ◌∷◌, ◌++◌}
use Prim.Native.Nat.{ℕ}
use lib.Dec.{eqb}
use borrow.Author.Tests.{eqb-true, not-false}
use Rattle.laws.proofs.Tables.{or-neither, true-not-false}
use Rattle.model.specs.Tables.{first_of}
use Rattle.model.specs.Outcome.{StoredItem, Outcome, volume_after, refusal_of}
use Rattle.model.specs.Calls.{Call, rows_of, outcome_of}
use Rattle.model.specs.AbstractLog.{Logged, step_call}
use Rattle.model.specs.Carry.{carries}
use Rattle.model.specs.History.{is_restamp, past_after, Power, off, on, payload_fits, step}
use Rattle.planning.specs.Rehearsal.{access_of}
use Rattle.planning.specs.RehearsalRun.{Choices, Played, answered, answer_count, stored_count, play_call, play_calls, calls_in, play_events}
use Rattle.model.specs.declared.{geometry.Geometry.Geometry, state.State.State}
use Rattle.planning.specs.declared.rehearsal.Figures.{Figures}
use Rattle.planning.specs.declared.rehearsal.Settings.{Settings}
use Rattle.history.proofs.Context.{Ctx}
use Rattle.history.proofs.Calls.{inv-call}
use Rattle.history.proofs.Steps.{context}
use Rattle.history.proofs.Refusals.{call-refusal}

-- a run whose machine is on, with no call refused
abbrev pub Run : List ℕ → List ℕ → List StoredItem → State → List Figures → Played
Run v m past s fs = record { machine = record { volume = v; power = on m s; past = past }; figures = fs; refused = false }

-- what a run is after a stage of an event
pub record Stage (C : Type 0) (g : Geometry) (r : Played) (fs : List Figures) (k w : List Logged)
    (Q : List ℕ → State → Type 0) : Type 0 where
  pub volume : List ℕ
  pub memory : List ℕ
  pub past : List StoredItem
  pub state : State
  pub run_is : r ≡ Run volume memory past state fs
  pub ctx : Ctx C g volume memory past state k w
  pub holds : Q volume state

-- ---- a refusal stays

pub call_stays : (r : Played) (c : Call) → (play_call r c).refused ≡ false → r.refused ≡ false
unfolding play_call
call_stays r c e = go r.machine.power e
  where
    go : (w : Power) → (answered w r.machine.volume c r.figures r.refused).1 ≡ false → r.refused ≡ false
    go off e = absurd (true-not-false refl e)
    go (on m s) e = (or-neither r.refused (not (eqb (refusal_of (outcome_of c r.machine.volume m s).answer) 0)) e).0

pub calls-stay : (cs : List Call) (r : Played) → (play_calls r cs).refused ≡ false → r.refused ≡ false
unfolding play_calls
calls-stay [] r e = e
calls-stay (c ∷ cs) r e = call_stays r c (calls-stay cs (play_call r c) e)

pub events-stay : (t : Settings) (choices : Choices) (es past : List ℕ) (r : Played)
    → (play_events t choices past r es).refused ≡ false → r.refused ≡ false
unfolding play_events
events-stay t choices [] past r e = e
events-stay t choices (x ∷ es) past r e =
    calls-stay (calls_in r.machine.power t choices past (access_of x)) r
    (events-stay t choices es (x ∷ past) (play_calls r (calls_in r.machine.power t choices past (access_of x))) e)

pub calls-append : (cs ds : List Call) (r : Played) → play_calls r (cs ++ ds) ≡ play_calls (play_calls r cs) ds
unfolding play_calls
calls-append [] ds r = refl
calls-append (c ∷ cs) ds r = calls-append cs ds (play_call r c)

-- ---- a call that is taken

module _ (v m : List ℕ) (past : List StoredItem) (s : State) (fs : List Figures) (c : Call)
    (no : (play_call (Run v m past s fs) c).refused ≡ false) where
  taken : eqb (refusal_of (outcome_of c v m s).answer) 0 ≡ true
  unfolding play_call
  taken = not-false (eqb (refusal_of (outcome_of c v m s).answer) 0) no

  pub rows_none : first_of (rows_of c v m s) ≡ 0
  rows_none = sym (call-refusal c v m s) ∙ eqb-true (refusal_of (outcome_of c v m s).answer) 0 taken

  pub run-as : is_restamp c ≡ false → (o : Outcome) → outcome_of c v m s ≡ o
      → play_call (Run v m past s fs) c ≡ Run (volume_after v o.stored) o.memory (o.stored ∷ past) o.state
      (answer_count c o.answer (stored_count o.stored fs))
  unfolding play_call step
  run-as nr o e = subst (λ (y : Outcome). play_call (Run v m past s fs) c ≡ Run (volume_after v y.stored) y.memory (y.stored ∷ past)
      y.state (answer_count c y.answer (stored_count y.stored fs))) e whole
    where
      counts : past_after c v (outcome_of c v m s).stored past ≡ (outcome_of c v m s).stored ∷ past
      counts = rw nr

      whole : play_call (Run v m past s fs) c
          ≡ Run (volume_after v (outcome_of c v m s).stored) (outcome_of c v m s).memory ((outcome_of c v m s).stored ∷ past)
          (outcome_of c v m s).state
          (answer_count c (outcome_of c v m s).answer (stored_count (outcome_of c v m s).stored fs))
      whole = ap (λ (b : Bool). record {
        machine = record {
          volume = volume_after v (outcome_of c v m s).stored;
          power = on (outcome_of c v m s).memory (outcome_of c v m s).state;
          past = past_after c v (outcome_of c v m s).stored past;
        };
        figures = answer_count c (outcome_of c v m s).answer (stored_count (outcome_of c v m s).stored fs);
        refused = not b;
      }) taken
          ∙ ap (λ (l : List StoredItem). record {
            machine = record {
              volume = volume_after v (outcome_of c v m s).stored;
              power = on (outcome_of c v m s).memory (outcome_of c v m s).state;
              past = l;
            };
            figures = answer_count c (outcome_of c v m s).answer (stored_count (outcome_of c v m s).stored fs);
            refused = false;
          }) counts

  pub ctx-as : {C : Type 0} {g : Geometry} {k w : List Logged} (x : Ctx C g v m past s k w) → carries c ≡ false → payload_fits c ≡ true
      → (o : Outcome) → outcome_of c v m s ≡ o
      → (k' w' : List Logged) → step_call (record { durable = k; pending = w }) c ≡ record { durable = k'; pending = w' }
      → Ctx C g (volume_after v o.stored) o.memory (o.stored ∷ past) o.state k' w'
  ctx-as {C} {g} {k} {w} x nc h o e k' w' b =
      subst (λ (y : Outcome). Ctx C g (volume_after v y.stored) y.memory (y.stored ∷ past) y.state k' w') e
      (context g (volume_after v (outcome_of c v m s).stored) (outcome_of c v m s).memory ((outcome_of c v m s).stored ∷ past)
      (outcome_of c v m s).state (record { durable = k'; pending = w' })
      (rw (rows_none, b) at (inv-call x c nc h)))

-- One event's machine, abstract log and answer, as `Worked` of `cases` computes them from one outcome, are `model`'s.
use mathlib.Core.Path.{◌≡◌, refl, ap}
use mathlib.Core.Bool.{Bool, true, false, cond, not}
use mathlib.Core.List.{List}
use Prim.Native.Nat.{ℕ}
use lib.Dec.{eqb, ltb}
use Rattle.laws.proofs.Tables.{by_cases}
use Rattle.model.specs.Tables.{first_of}
use Rattle.model.specs.Refusals.{restart_rows, begin_rows, load_rows, change_rows, force_rows, write_rows, backup_rows}
use Rattle.model.specs.Refusals.{release_rows, note_rows, start_carry_rows, restamp_rows, finish_carry_rows, page_dirty}
use Rattle.model.specs.Geometry.{geometry_of}
use Rattle.model.specs.Passes.{image_count, first_old}
use Rattle.model.specs.Outcome.{StoredItem, Outcome, decided}
use Rattle.model.specs.Effects.{note_stored, backup_done, begin_done, change_done, force_done, load_done, release_done, restamp_done, write_outcome}
use Rattle.model.specs.Calls.{Call, rows_of, outcome_of}
use Rattle.model.specs.Restart.{restart_of}
use Rattle.model.specs.declared.{state.State.State}
use Rattle.model.specs.declared.command.Command.TheVariants.{Begin, Load, Force, Write, Release, StartCarry, Restamp, FinishCarry}
use Rattle.model.specs.declared.command.Command.TheVariants.{Change, Backup, Note}
use Rattle.model.specs.AbstractLog.{AbstractLog, forget, step_call}
use Rattle.model.specs.History.{Power, off, on, Machine, Event, restart, perform, crash, crash_in, damage, lent, call_in}
use Rattle.model.specs.History.{refused_in, step, step_log}
use Rattle.cases.specs.Build.{asked_in}
use Rattle.cases.specs.Worked.{is_refused, call_step, event_step, answer_to}
use Rattle.model.specs.Types.{PendingNote, None, Some}

-- ---- a call is refused exactly where a row of its table holds

either : (b : Bool) (o p : Outcome) → is_refused o.answer ≡ false → is_refused p.answer ≡ false → is_refused (cond b o p).answer ≡ false
either true o p h k = h
either false o p h k = k

noted : (v m : List ℕ) (s : State) (n : PendingNote) → is_refused (note_stored v m s n).answer ≡ false
noted v m s None = refl
noted v m s (Some n) = refl

by_call : (c : Call) (v m : List ℕ) (s : State) → is_refused (outcome_of c v m s).answer ≡ not (eqb (first_of (rows_of c v m s)) 0)
unfolding decided begin_done load_done change_done force_done write_outcome backup_done release_done restamp_done
by_call (Begin page frame fill, _) v m s = by_cases (eqb (first_of (begin_rows v m s page frame)) 0) (λ t. rw t refl) (λ t. rw t refl)
by_call (Load page frame, _) v m s = by_cases (eqb (first_of (load_rows v m s page frame)) 0) (λ t. rw t refl) (λ t. rw t refl)
by_call (Change page c, payload) v m s = by_cases (eqb (first_of (change_rows v m s page c)) 0) (λ t. rw t refl) (λ t. rw t refl)
by_call (Force, _) v m s = by_cases (eqb (first_of (force_rows v m s)) 0)
    (λ t. rw t (either (eqb s.pending 0) _ _ refl refl)) (λ t. rw t refl)
by_call (Write page, _) v m s =
    by_cases (eqb (first_of (write_rows v m s page)) 0) (λ t. rw t (either (page_dirty s page) _ _ refl refl)) (λ t. rw t refl)
by_call (Backup page slot, _) v m s = by_cases (eqb (first_of (backup_rows v m s page slot)) 0) (λ t. rw t refl) (λ t. rw t refl)
by_call (Release page, _) v m s = by_cases (eqb (first_of (release_rows v m s page)) 0) (λ t. rw t refl) (λ t. rw t refl)
by_call (Note, _) v m s = by_cases (eqb (first_of (note_rows v m s)) 0) (λ t. rw t (noted v m s s.note)) (λ t. rw t refl)
by_call (StartCarry, _) v m s = by_cases (eqb (first_of (start_carry_rows v m s)) 0) (λ t. rw t refl) (λ t. rw t refl)
by_call (Restamp, _) v m s = by_cases (eqb (first_of (restamp_rows v m s)) 0)
    (λ t. rw t (either (ltb (first_old (geometry_of v) v s.index) (image_count (geometry_of v))) _ _ refl refl)) (λ t. rw t refl)
by_call (FinishCarry, _) v m s = by_cases (eqb (first_of (finish_carry_rows v m s)) 0) (λ t. rw t refl) (λ t. rw t refl)

by-restart : (v m : List ℕ) → not (is_refused (restart_of v m).answer) ≡ eqb (first_of (restart_rows v m)) 0
unfolding restart_of decided
by-restart v m = by_cases (eqb (first_of (restart_rows v m)) 0) (λ t. rw t refl) (λ t. rw t refl)

-- ---- the machine

called : (p : Power) (v : List ℕ) (c : Call) (past : List StoredItem) (b : AbstractLog) → (call_step p v c past b).machine ≡ call_in p v c past
called off v c past b = refl
called (on m s) v c past b = refl

pub machine-step : (w : Machine) (b : AbstractLog) (e : Event) → (event_step w b e).machine ≡ step w e
unfolding step
machine-step w b (restart m) =
    let m' = lent w.power m in
    ap (λ t. record {
      volume = w.volume;
      power = cond t (on (restart_of w.volume m').memory (restart_of w.volume m').state) off;
      past = w.past;
    })
    (by-restart w.volume m')
machine-step w b (perform c) = called w.power w.volume c w.past b
machine-step w b crash = refl
machine-step w b (crash_in c l) = refl
machine-step w b (damage at xs) = refl

-- ---- the abstract log

logged : (p : Power) (v : List ℕ) (c : Call) (past : List StoredItem) (b : AbstractLog)
    → (call_step p v c past b).log ≡ cond (refused_in p v c) b (step_call b c)
logged off v c past b = refl
logged (on m s) v c past b = ap (λ t. cond t b (step_call b c)) (by_call c v m s)

pub log-step : (w : Machine) (b : AbstractLog) (e : Event) → (event_step w b e).log ≡ step_log w b e
unfolding step_log
log-step w b (restart m) = ap (λ t. cond t (forget b) b) (by-restart w.volume (lent w.power m))
log-step w b (perform c) = logged w.power w.volume c w.past b
log-step w b crash = refl
log-step w b (crash_in c l) = refl
log-step w b (damage at xs) = refl

-- ---- the answer

answered : (p : Power) (v : List ℕ) (c : Call) (past : List StoredItem) (b : AbstractLog) → (call_step p v c past b).answer ≡ asked_in p v c
answered off v c past b = refl
answered (on m s) v c past b = refl

pub answer-step : (w : Machine) (b : AbstractLog) (e : Event) → (event_step w b e).answer ≡ answer_to w e
answer-step w b (restart m) = refl
answer-step w b (perform c) = answered w.power w.volume c w.past b
answer-step w b crash = refl
answer-step w b (crash_in c l) = refl
answer-step w b (damage at xs) = refl

-- T1 on any state: where upkeep is idle nothing is owed, nothing is pending, and log and notes have room, so that no
-- call is refused 11
-- to 14.
use mathlib.Core.Path.{◌≡◌, refl}
use mathlib.Core.Logic.{◌≢◌}
use mathlib.Core.Bool.{Bool, true, false, cond, ◌&&◌, ◌||◌, not}
use mathlib.Core.List.{List, [], ◌∷◌}
use Prim.Native.Nat.{ℕ, suc, ◌+◌, ◌-◌, ◌≤◌, ◌<◌}
use native.Mathlib.Numerals.{add-one}
use native.Mathlib.Omega.{arith}
use lib.Dec.{eqb, leb, ltb}
use lib.ListN.{length}
use borrow.Author.Tests.{leb-true, leb-false, ltb-false, lt-ltb, le-ltb, lt-leb, ne_eqb}
use Rattle.laws.proofs.Tables.{by_cases, and_right, and-fails, true-not-false}
use Rattle.laws.proofs.Search.{first-from}
use Rattle.model.specs.Tables.{Row, first_of, within}
use Rattle.model.specs.Geometry.{ring, top_number, geometry_of}
use Rattle.model.specs.Change.{fits}
use Rattle.model.specs.Index.{slot_used}
use Rattle.model.specs.State.{frame_count, record_needed, log_full, note_needed, notes_full, note_pending, held, blank}
use Rattle.model.specs.Refusals.{state_rows, frame_blocked, page_dirty, load_rows, begin_rows, change_rows}
use Rattle.laws.proofs.Conditions.{not_durable}
use Rattle.model.specs.Refusals.{force_rows, write_rows, backup_rows, release_rows, note_rows}
use Rattle.model.specs.Calls.{Call, rows_of, no_payload}
use Rattle.model.specs.declared.state.State.{State}
use Rattle.model.specs.declared.command.Command.TheVariants.{Begin, Load, Force, Write, Release, StartCarry, Restamp, FinishCarry}
use Rattle.model.specs.declared.command.Command.TheVariants.{Change, Backup, Note}
use Rattle.model.specs.Carry.{carries}
use Rattle.history.proofs.Loads.{Others, none_other}
use Rattle.history.proofs.Refusals.{call-refusal}
use Rattle.upkeep_policy.specs.Upkeep.{Advice, idle, stuck, make, note_ahead, log_ahead, reserve, first_needed_note}
use Rattle.upkeep_policy.specs.Upkeep.{first_needed_log, no_slot, free_slot, refresh, renew, renew_note, renew_log, upkeep_of}
use Rattle.upkeep_policy.specs.UpkeepClaim.{NotFull, IdleIsSafe}

-- ---- what an advice is not

pub make-not-idle : {a : Advice} (c : Call) → a ≡ make c → a ≡ idle → ⊥
make-not-idle c p q = let z : ◌≡◌ {A = ℕ} 0 1 = cc in omega arith

pub stuck-not-idle : {a : Advice} (p : ℕ) → a ≡ stuck p → a ≡ idle → ⊥
stuck-not-idle p e q = let z : ◌≡◌ {A = ℕ} 0 1 = cc in omega arith

-- a choice of two that are not idle
both-busy : (t : Bool) (a b : Advice) → a ≢ idle → b ≢ idle → cond t a b ≢ idle
both-busy true a b p q = p
both-busy false a b p q = q

-- a renewal is a call, or stuck
pub renew-busy : (v m : List ℕ) (s : State) (r p : ℕ) (written : Bool) → renew v m s r p written ≢ idle
unfolding renew
renew-busy v m s r p written =
    let g = geometry_of v in
    both-busy (held s p) _ _
    (both-busy written _ _
    (both-busy (page_dirty s p) _ _
    (both-busy (notes_full g v s) _ _ (stuck-not-idle p refl) (make-not-idle (Write p, no_payload) refl))
    (both-busy (log_full g v s) _ _ (stuck-not-idle p refl) (make-not-idle (refresh m s p) refl)))
    (both-busy (no_slot g s || notes_full g v s) _ _ (stuck-not-idle p refl)
    (make-not-idle (Backup p (free_slot g s), no_payload) refl)))
    (both-busy (eqb (first_of (load_rows v m s p r)) 23) _ _ (stuck-not-idle p refl) (make-not-idle (Load p r, no_payload) refl))

-- ---- what idle says

-- the tests of U1 to U4
pub record Rest (v : List ℕ) (s : State) : Type 0 where
  pub noting : note_pending s.note ≡ false
  pub pending : s.pending ≡ 0
  pub notes : (i : ℕ) → 1 ≤ i → i ≤ 2 → note_ahead (geometry_of v) v s i ≡ false
  pub log : (i : ℕ) → 1 ≤ i → i ≤ reserve (geometry_of v) → log_ahead (geometry_of v) v s i ≡ false

pick-else : (t : Bool) (a b : Advice) → a ≢ idle → cond t a b ≡ idle → (t ≡ false) × (b ≡ idle)
pick-else true a b n e = absurd (n e)
pick-else false a b n e = (refl, e)

pick-then : (t : Bool) (a b : Advice) → t ≡ true → cond t a b ≡ idle → a ≡ idle
pick-then true a b p e = e
pick-then false a b p e = absurd (true-not-false p refl)

module _ (v m : List ℕ) (s : State) (r : ℕ) where
  -- nothing is owed or pending, on any volume
  pub idle-closed : upkeep_of v m s r ≡ idle → (note_pending s.note ≡ false) × (s.pending ≡ 0)
  unfolding upkeep_of
  idle-closed e =
      let a = pick-else (note_pending s.note) (make (Note, no_payload)) _ (make-not-idle (Note, no_payload) refl) e in
      let b = pick-else (ltb 0 s.pending) (make (Force, no_payload)) _ (make-not-idle (Force, no_payload) refl) a.1 in
      (a.0, omega (arith, ltb-false 0 s.pending b.0))

  pub idle-rests : ring (geometry_of v) ≡ true → upkeep_of v m s r ≡ idle → Rest v s
  unfolding upkeep_of first_needed_note first_needed_log
  idle-rests o e =
      let g = geometry_of v in
      let a = pick-else (note_pending s.note) (make (Note, no_payload)) _ (make-not-idle (Note, no_payload) refl) e in
      let b = pick-else (ltb 0 s.pending) (make (Force, no_payload)) _ (make-not-idle (Force, no_payload) refl) a.1 in
      let c = pick-then (ring g) _ idle o b.1 in
      let d = pick-else (leb (first_needed_note g v s) 2) (renew_note v m s r (first_needed_note g v s)) _
      (renew-busy v m s r _ _) c in
      let f = pick-else (leb (first_needed_log g v s) (reserve g)) (renew_log v m s r (first_needed_log g v s)) idle
      (renew-busy v m s r _ _) d.1 in
      let n = first-from (note_ahead g v s) 2 1 in
      let l = first-from (log_ahead g v s) (reserve g) 1 in
      record {
        noting = a.0;
        pending = omega (arith, ltb-false 0 s.pending b.0);
        notes = λ i x y. n.before i x (omega (arith, leb-false (first_needed_note g v s) 2 d.0));
        log = λ i x y. l.before i x (omega (arith, leb-false (first_needed_log g v s) (reserve g) f.0));
      }

-- ---- the log and the notes have room

-- "below the next number" is "at most this one"
pub below_next : (a b : ℕ) → ltb a (suc b) ≡ leb a b
below_next a b = by_cases (leb a b) (λ t. rw t (lt-ltb a (suc b) (omega (arith, leb-true a b t))))
    (λ t. rw t (le-ltb a (suc b) (omega (arith, leb-false a b t))))

module _ (v : List ℕ) (s : State) (o : ring (geometry_of v) ≡ true) (rest : Rest v s) where
  pub notes-free : 2 ≤ (geometry_of v).notes → s.notes < top_number → notes_full (geometry_of v) v s ≡ false
  unfolding notes_full note_ahead
  notes-free n b =
      let g = geometry_of v in
      let h : (leb g.notes s.notes && note_needed g v s.notes (suc s.notes - g.notes)) ≡ false =
      rw (add-one s.notes, below_next g.notes s.notes) at (rest.notes 1 (omega arith) (omega arith)) in
      rw (o, ne_eqb g.notes 0 (λ z. omega arith), lt-leb top_number s.notes b) h

  pub log-free : 2 ≤ (geometry_of v).records → s.durable < top_number → log_full (geometry_of v) v s ≡ false
  unfolding log_full log_ahead
  log-free n b =
      let g = geometry_of v in
      let z : s.durable + s.pending ≡ s.durable = omega (arith, rest.pending) in
      let h : (leb g.records s.durable && record_needed g v s (suc s.durable - g.records)) ≡ false =
      rw (add-one s.durable, below_next g.records s.durable) at (rest.log 1 (omega arith) (omega arith)) in
      rw (o, z, lt-leb top_number s.durable b) h

-- ---- T1

-- the four tests that lock
pub record Open (v : List ℕ) (s : State) : Type 0 where
  pub noting : note_pending s.note ≡ false
  pub pending : eqb s.pending 16 ≡ false
  pub log : log_full (geometry_of v) v s ≡ false
  pub notes : notes_full (geometry_of v) v s ≡ false

pub idle-opens : (v m : List ℕ) (s : State) (r : ℕ) → ring (geometry_of v) ≡ true → 2 ≤ (geometry_of v).notes
    → s.durable < top_number → s.notes < top_number → upkeep_of v m s r ≡ idle → Open v s
idle-opens v m s r o n d k e =
    let rest = idle-rests v m s r o e in
    let l : 2 ≤ (geometry_of v).records =
    leb-true 2 (geometry_of v).records (and_right (eqb (geometry_of v).tag 0x32) (leb 2 (geometry_of v).records) o) in
    record {
      noting = rest.noting;
      pending = ne_eqb s.pending 16 (λ z. omega (arith, rest.pending));
      log = log-free v s o rest l d;
      notes = notes-free v s o rest n k;
    }

-- a table whose rows have none of the four numbers, once the four tests are out
few-rows : (ts : List Row) → Others 11 ts → Others 12 ts → Others 13 ts → Others 14 ts → NotFull (first_of ts)
few-rows ts a b c d =
    record {
      not-pending = none_other 11 (λ z. omega arith) ts a;
      not-log = none_other 12 (λ z. omega arith) ts b;
      not-noting = none_other 13 (λ z. omega arith) ts c;
      not-notes = none_other 14 (λ z. omega arith) ts d;
    }

pub not_full : (v m : List ℕ) (s : State) → Open v s → (c : Call) → carries c ≡ false
    → NotFull (first_of (rows_of c v m s))
unfolding begin_rows load_rows change_rows force_rows write_rows backup_rows release_rows note_rows
not_full v m s o (Begin p f x, _) e = rw (o.pending, o.log)
    (few-rows
    (state_rows v m s ((not (within (geometry_of v).pages p), 3) ∷ (not (within (frame_count (length m)) f), 4)
    ∷ (not (blank s p), 9)
    ∷ (frame_blocked s f, 10) ∷ [])) (omega arith) (omega arith) (omega arith) (omega arith))
not_full v m s o (Load p f, _) e = few-rows (load_rows v m s p f) (omega arith) (omega arith) (omega arith) (omega arith)
not_full v m s o (Change p c, x) e = rw (o.pending, o.log)
    (few-rows
    (state_rows v m s ((not (within (geometry_of v).pages p), 3) ∷ (not (fits c), 6) ∷ (not (held s p), 8) ∷ []))
    (omega arith) (omega arith) (omega arith) (omega arith))
not_full v m s o (Force, _) e = few-rows (force_rows v m s) (omega arith) (omega arith) (omega arith) (omega arith)
not_full v m s o (Write p, _) e =
    rw (
      and-fails (page_dirty s p) o.noting,
      and-fails (page_dirty s p) o.notes,
    )
    (few-rows
    (state_rows v m s
    ((not (within (geometry_of v).pages p), 3) ∷ (not (held s p), 8) ∷ (
      page_dirty s p && not_durable m s
          p,
      15,
    ) ∷ []))
    (omega arith) (omega arith) (omega arith) (omega arith))
not_full v m s o (Backup p b, _) e = rw (o.noting, o.notes)
    (few-rows
    (state_rows v m s ((not (within (geometry_of v).pages p), 3) ∷ (not (within (geometry_of v).slots b), 5)
    ∷ (not (held s p), 8)
    ∷ (not_durable m s p, 15) ∷ (slot_used b s.index, 16) ∷ []))
    (omega arith) (omega arith) (omega arith) (omega arith))
not_full v m s o (Release p, _) e = few-rows (release_rows v m s p) (omega arith) (omega arith) (omega arith) (omega arith)
not_full v m s o (Note, _) e = few-rows (note_rows v m s) (omega arith) (omega arith) (omega arith) (omega arith)
not_full v m s o (StartCarry, _) e = absurd (true-not-false refl e)
not_full v m s o (Restamp, _) e = absurd (true-not-false refl e)
not_full v m s o (FinishCarry, _) e = absurd (true-not-false refl e)

-- T1
pub idle-is-safe : IdleIsSafe
idle-is-safe v m s r o n d k e c x = rw (call-refusal c v m s) (not_full v m s (idle-opens v m s r o n d k e) c x)

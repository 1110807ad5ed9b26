-- Which refusals come: in a machine that keeps the invariant no call blames volume, memory, state, log, notes or chain.
use mathlib.Core.Path.{◌≡◌, refl, sym, ◌∙◌}
use mathlib.Core.Logic.{◌≢◌}
use mathlib.Core.Bool.{true, false, not}
use mathlib.Core.List.{List, [], ◌∷◌, ◌++◌}
use Prim.Native.Nat.{ℕ, ◌≤◌}
use native.Mathlib.Omega.{arith}
use native.Mathlib.Decide.{ℕ_discrete}
use lib.ListN.{length}
use lib.Dec.{eqb}
use borrow.Author.Tests.{eqb-true, eq-eqb, ne_eqb}
use Rattle.laws.proofs.Tables.{by_cases, true-not-false}
use Rattle.laws.proofs.Progress.{restamp-refusal}
use Rattle.model.specs.Tables.{Row, first_of, within}
use Rattle.model.specs.Geometry.{tag_of, carry_tag, headed, geometry_of}
use Rattle.model.specs.Index.{entry_of}
use Rattle.model.specs.Scan.{first_held, index_of}
use Rattle.model.specs.Item.{image_lsn}
use Rattle.model.specs.Repair.{view_of, walk_of}
use Rattle.model.specs.State.{frame_count, frame_bytes, valid_memory, holder, held, blank}
use Rattle.model.specs.Refusals.{frame_blocked, page_dirty, found_below, restart_rows, begin_rows, load_rows, change_rows}
use Rattle.model.specs.Refusals.{force_rows, write_rows, backup_rows, release_rows, note_rows, start_carry_rows, restamp_rows}
use Rattle.model.specs.Refusals.{finish_carry_rows, inspect_rows, begin_tail, load_tail, walk_tail, change_tail, write_tail}
use Rattle.model.specs.Refusals.{backup_tail, release_tail}
use Rattle.laws.proofs.Conditions.{chain_broken, chain_below}
use Rattle.model.specs.Outcome.{StoredItem, Outcome, decided, refusal_of}
use Rattle.model.specs.Effects.{note_stored, backup_done, begin_done, change_done, force_done, load_done, release_done, restamp_done, write_outcome}
use Rattle.model.specs.Calls.{load_of, Call, rows_of, outcome_of, no_payload}
use Rattle.model.specs.Restart.{restart_of, inspect_of}
use Rattle.model.specs.declared.{geometry.Geometry.Geometry, geometry.Heading.TheVariants.First, item.Note.Note}
use Rattle.model.specs.declared.{state.State.State}
use Rattle.model.specs.declared.command.Command.TheVariants.{Begin, Load, Force, Write, Release, StartCarry, Restamp, FinishCarry}
use Rattle.model.specs.declared.command.Command.TheVariants.{Change, Backup, Note as NoteCall}
use Rattle.model.specs.Passes.{old_left}
use Rattle.model.specs.Carry.{carries}
use Rattle.model.specs.AbstractLog.{Logged}
use Rattle.history.specs.Facts.{Ordinary}
use Rattle.history.proofs.Logs.{last_of, last-mono}
use Rattle.history.proofs.Disk.{Holds, Noted}
use Rattle.history.proofs.NoteIndex.{valid-notes}
use Rattle.history.proofs.LogScan.{valid-log}
use Rattle.history.proofs.Context.{Ctx, in-range, geo, len, last_entry, durable-last}
use Rattle.history.proofs.Loads.{Others, none_other, until, never-broken}
use Rattle.history.proofs.WellFormed.{state-ok, memory-ok, volume-ok}
use Rattle.model.specs.Types.{PendingNote, None, Some}

-- the answer of a call is what its table says
decided-refusal : (rows : List Row) (m : List ℕ) (s : State) (done : Outcome) → refusal_of done.answer ≡ 0
    → refusal_of (decided rows m s done).answer ≡ first_of rows
unfolding decided
decided-refusal rows m s done z = by_cases (eqb (first_of rows) 0) (λ t. rw t (z ∙ sym (eqb-true (first_of rows) 0 t))) (λ t. rw t)

pub call-refusal : (c : Call) (v m : List ℕ) (s : State) → refusal_of (outcome_of c v m s).answer ≡ first_of (rows_of c v m s)
unfolding decided begin_done load_done change_done force_done write_outcome backup_done release_done restamp_done
call-refusal (Begin page f fill, _) v m s = decided-refusal (begin_rows v m s page f) m s _ refl
call-refusal (Load page f, _) v m s = decided-refusal (load_rows v m s page f) m s _ refl
call-refusal (Change page c, payload) v m s = decided-refusal (change_rows v m s page c) m s _ refl
call-refusal (Force, _) v m s = decided-refusal (force_rows v m s) m s _ (by_cases (eqb s.pending 0) (λ t. rw t) (λ t. rw t))
call-refusal (Write page, _) v m s = decided-refusal (write_rows v m s page) m s _ (by_cases (page_dirty s page) (λ t. rw t) (λ t. rw t))
call-refusal (Backup page b, _) v m s = decided-refusal (backup_rows v m s page b) m s _ refl
call-refusal (Release page, _) v m s = decided-refusal (release_rows v m s page) m s _ refl
call-refusal (StartCarry, _) v m s = decided-refusal (start_carry_rows v m s) m s _ refl
call-refusal (Restamp, _) v m s = restamp-refusal v m s
call-refusal (FinishCarry, _) v m s = decided-refusal (finish_carry_rows v m s) m s _ refl
call-refusal (NoteCall, _) v m s = decided-refusal (note_rows v m s) m s _ (stored s.note)
  where
    stored : (y : PendingNote) → refusal_of (note_stored v m s y).answer ≡ 0
    stored None = refl
    stored (Some y) = refl

pub restart-refusal : (v m : List ℕ) → refusal_of (restart_of v m).answer ≡ first_of (restart_rows v m)
unfolding restart_of decided
restart-refusal v m = decided-refusal (restart_rows v m) m _ _ refl

pub inspect-refusal : (v : List ℕ) (p : ℕ) (buffer : List ℕ)
    → refusal_of (inspect_of v p buffer).answer ≡ first_of (inspect_rows v p (length buffer))
unfolding inspect_of
inspect-refusal v p buffer = by_cases (eqb (first_of (inspect_rows v p (length buffer))) 0)
    (λ t. rw t (sym (eqb-true (first_of (inspect_rows v p (length buffer))) 0 t))) (λ t. rw t)

-- rows with none of the five numbers
ordinary : (ts : List Row) → Others 1 ts → Others 2 ts → Others 17 ts → Others 18 ts → first_of ts ≢ 19 → Ordinary (first_of ts)
ordinary ts a b c d e =
    record {
      not-volume = none_other 1 (λ z. omega arith) ts a;
      not-state = none_other 2 (λ z. omega arith) ts b;
      not-log = none_other 17 (λ z. omega arith) ts c;
      not-notes = none_other 18 (λ z. omega arith) ts d;
      not-chain = e;
    }

usual : (ts : List Row) → Others 1 ts → Others 2 ts → Others 17 ts → Others 18 ts → Others 19 ts → Ordinary (first_of ts)
usual ts a b c d e = ordinary ts a b c d (none_other 19 (λ z. omega arith) ts e)

module _ {C : Type 0} {g : Geometry} {v m : List ℕ} {past : List StoredItem} {s : State} {k w : List Logged}
    (x : Ctx C g v m past s k w) where
  -- a call's own rows, after the rows 1 and 2
  unfoldable pub own_rows : Call → List Row
  own_rows (Begin page f fill, _) = begin_tail (geometry_of v) v (frame_count (length m)) s page f
  own_rows (Load page f, _) =
      let walk = walk_of (geometry_of v) page
      (view_of (geometry_of v) v (first_held (geometry_of v) v s.durable) (entry_of s.index page) page) in
      load_tail (geometry_of v) (frame_count (length m)) s page f ++ walk_tail walk.stop
  own_rows (Change page c, _) = change_tail (geometry_of v) v s page c
  own_rows (Force, _) = []
  own_rows (Write page, _) = write_tail (geometry_of v) v s page (holder s page) (image_lsn (frame_bytes m (holder s page)))
  own_rows (Backup page b, _) = backup_tail (geometry_of v) v s page b (holder s page) (image_lsn (frame_bytes m (holder s page)))
  own_rows (Release page, _) = release_tail (geometry_of v) s page (holder s page)
  own_rows (NoteCall, _) = []
  own_rows (StartCarry, _) = (not (headed (tag_of First) v), 1) ∷ []
  own_rows (Restamp, _) = (not (headed carry_tag v), 1) ∷ []
  own_rows (FinishCarry, _) = (not (headed carry_tag v), 1) ∷ (old_left (geometry_of v) v s.index, 20) ∷ []

  -- the rows 1 and 2 do not hold
  pub rows_are : (c : Call) → first_of (rows_of c v m s) ≡ first_of (own_rows c)
  unfolding own_rows begin_rows load_rows change_rows force_rows write_rows backup_rows release_rows note_rows start_carry_rows restamp_rows finish_carry_rows
  rows_are (Begin page f fill, _) = rw (volume-ok x, memory-ok x, state-ok x)
  rows_are (Load page f, _) = rw (volume-ok x, memory-ok x, state-ok x)
  rows_are (Change page c, payload) = rw (volume-ok x, memory-ok x, state-ok x)
  rows_are (Force, _) = rw (volume-ok x, memory-ok x, state-ok x)
  rows_are (Write page, _) = rw (volume-ok x, memory-ok x, state-ok x)
  rows_are (Backup page b, _) = rw (volume-ok x, memory-ok x, state-ok x)
  rows_are (Release page, _) = rw (volume-ok x, memory-ok x, state-ok x)
  rows_are (NoteCall, _) = rw (volume-ok x, memory-ok x, state-ok x)
  rows_are (StartCarry, _) = rw (volume-ok x, memory-ok x, state-ok x)
  rows_are (Restamp, _) = rw (volume-ok x, memory-ok x, state-ok x)
  rows_are (FinishCarry, _) = rw (volume-ok x, memory-ok x, state-ok x)

  own-ordinary : (c : Call) → carries c ≡ false → Ordinary (first_of (own_rows c))
  unfolding own_rows
  own-ordinary (Begin page f fill, _) o =
      usual (own_rows (Begin page f fill, no_payload)) (omega arith) (omega arith) (omega arith) (omega arith) (omega arith)
  own-ordinary (Load page f, _) o =
      ordinary (own_rows (Load page f, no_payload)) (omega arith) (omega arith) (omega arith) (omega arith)
      (λ e. never-broken x page f (rows_are (Load page f, no_payload) ∙ e))
  own-ordinary (Change page c, payload) o =
      usual (own_rows (Change page c, payload)) (omega arith) (omega arith) (omega arith) (omega arith) (omega arith)
  own-ordinary (Force, _) o = usual [] tt tt tt tt tt
  own-ordinary (Write page, _) o = usual (own_rows (Write page, no_payload)) (omega arith) (omega arith) (omega arith)
      (omega arith) (omega arith)
  own-ordinary (Backup page b, _) o = usual (own_rows (Backup page b, no_payload)) (omega arith) (omega arith)
      (omega arith) (omega arith) (omega arith)
  own-ordinary (Release page, _) o = usual (own_rows (Release page, no_payload)) (omega arith) (omega arith) (omega arith)
      (omega arith) (omega arith)
  own-ordinary (NoteCall, _) o = usual [] tt tt tt tt tt
  own-ordinary (StartCarry, _) o = absurd (true-not-false refl o)
  own-ordinary (Restamp, _) o = absurd (true-not-false refl o)
  own-ordinary (FinishCarry, _) o = absurd (true-not-false refl o)

  pub call-ordinary : (c : Call) → carries c ≡ false → Ordinary (refusal_of (outcome_of c v m s).answer)
  call-ordinary c o = rw (call-refusal c v m s, rows_are c) (own-ordinary c o)

  -- a page with a durable change is not blank
  pub load-durable : (p f : ℕ) → last_of p k ≢ 0 → refusal_of (load_of v m s p f).answer ≢ 7
  unfolding own_rows
  load-durable p f nz e =
      let u = until 7 ((not (within (geometry_of v).pages p), 3) ∷ (not (within (frame_count (length m)) f), 4) ∷ []) (blank s p)
      ((held s p, 9) ∷ (frame_blocked s f, 10) ∷ (chain_broken (geometry_of v) v s p, 19) ∷ (chain_below (geometry_of v) v s p, 23) ∷ [])
      (omega arith) (omega arith) (λ z. omega arith)
      (sym (rows_are (Load p f, no_payload)) ∙ (sym (call-refusal (Load p f, no_payload) v m s) ∙ e)) in
      let r : (1 ≤ p) × (p ≤ g.pages) = rw (geo x) at (in-range (geometry_of v).pages p u.0.0) in
      let z : last_of p x.all ≡ 0 = sym (last_entry x p r.0 r.1) ∙ eqb-true (entry_of s.index p).last 0 u.1 in
      nz (let le = last-mono p x.all (length x.all) (length k) (omega (arith, len x)) in
      omega (arith, durable-last x p r.0 r.1))

-- ---- Restart and Inspect, on any volume that holds a list of changes and notes

module _ {C : Type 0} (g : Geometry) (v : List ℕ) (k : List Logged) (h : Holds g v k) (ns : List Note) (o : Noted C g v k ns) where
  pub restart-right : (m : List ℕ) → valid_memory (length m) ≡ true → refusal_of (restart_of v m).answer ≡ 0
  unfolding restart_rows
  restart-right m t = restart-refusal v m ∙ rw (h.vol.geo, h.vol.ok, t, valid-log g v k h ns o, valid-notes g v k h ns o)

  pub restart-wrong : (m : List ℕ) → valid_memory (length m) ≡ false → refusal_of (restart_of v m).answer ≡ 2
  unfolding restart_rows
  restart-wrong m t = restart-refusal v m ∙ rw (h.vol.ok, t)

  short_rows : ℕ → List Row
  short_rows p = (not (within g.pages p), 3) ∷ (eqb (entry_of (index_of g v) p).durable 0, 7) ∷ (found_below g v p, 23) ∷ []

  inspect-rows : (p size : ℕ) → size ≡ 256 → first_of (inspect_rows v p size) ≡ first_of (short_rows p)
  unfolding inspect_rows short_rows
  inspect-rows p size e = rw (h.vol.geo, h.vol.ok, eq-eqb size 256 e, valid-log g v k h ns o, valid-notes g v k h ns o)

  pub inspect-right : (p : ℕ) (buffer : List ℕ) → length buffer ≡ 256 → Ordinary (refusal_of (inspect_of v p buffer).answer)
  unfolding short_rows
  inspect-right p buffer e =
      rw (inspect-refusal v p buffer, inspect-rows p (length buffer) e)
      (usual (short_rows p) (omega arith) (omega arith) (omega arith) (omega arith) (omega arith))

  pub inspect-wrong : (p : ℕ) (buffer : List ℕ) → length buffer ≢ 256 → refusal_of (inspect_of v p buffer).answer ≡ 2
  unfolding inspect_rows
  inspect-wrong p buffer e = inspect-refusal v p buffer ∙ rw (h.vol.ok, ne_eqb (length buffer) 256 e)

  -- a page with a durable change is not refused 7
  pub inspect-durable : (p : ℕ) (buffer : List ℕ) → (1 ≤ p → p ≤ g.pages → (entry_of (index_of g v) p).durable ≢ 0)
      → refusal_of (inspect_of v p buffer).answer ≢ 7
  unfolding short_rows
  inspect-durable p buffer nz e = elim (ℕ_discrete (length buffer) 256) [
    | yes y ↦
        let u = until 7 ((not (within g.pages p), 3) ∷ []) (eqb (entry_of (index_of g v) p).durable 0) ((found_below g v p, 23) ∷ [])
        (omega arith) (omega arith) (λ z. omega arith)
        (sym (inspect-rows p (length buffer) y) ∙ (sym (inspect-refusal v p buffer) ∙ e)) in
        let r = in-range g.pages p u.0.0 in
        nz r.0 r.1 (eqb-true (entry_of (index_of g v) p).durable 0 u.1)
    | no z ↦ omega (arith, inspect-wrong p buffer z)
  ]

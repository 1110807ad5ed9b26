-- A call changes at most one row of the index, the one that the code finds before it.
use mathlib.Core.Path.{◌≡◌, refl, sym, ap}
use mathlib.Core.Bool.{Bool, true, cond}
use mathlib.Core.List.{List, [], ◌∷◌}
use Prim.Native.Nat.{ℕ, zero, suc, ◌+◌, ◌*◌, ◌-◌, ◌%◌, ◌≤◌, ◌<◌}
use native.Mathlib.Omega.{arith}
use lib.Dec.{eqb, leb, ltb}
use lib.ListN.{length, get_or, set}
use lib.Seq.{get_or-set_same, set-get_or}
use borrow.Author.Tests.{leb-true, leb-false}
use Rattle.laws.proofs.Tables.{by_cases}
use Rattle.laws.proofs.Fields.{field-part}
use Rattle.model.specs.Tables.{Row, first_of, within}
use Rattle.model.specs.Bytes.{field}
use Rattle.model.specs.State.{pending_bytes}
use Rattle.model.specs.Index.{empty_entry, enter_note}
use Rattle.model.specs.Geometry.{geometry_of}
use Rattle.model.specs.Refusals.{begin_rows, load_rows, change_rows, force_rows, write_rows, backup_rows, release_rows}
use Rattle.model.specs.Refusals.{note_rows, start_carry_rows, restamp_rows, finish_carry_rows, page_dirty}
use Rattle.model.specs.Passes.{image_count, first_old}
use Rattle.model.specs.Demand1.{Arrays}
use Rattle.model.specs.Outcome.{Outcome, unchanged, decided}
use Rattle.model.specs.Effects.{appended_state, forced_state, noted_state, note_stored, backup_done, begin_done, change_done}
use Rattle.model.specs.Effects.{force_done, load_done, release_done, restamp_done, write_outcome}
use Rattle.model.specs.Calls.{outcome_of, Call}
use Rattle.model.specs.declared.{state.Entry.Entry, state.State.State}
use Rattle.model.specs.declared.command.Command.TheVariants.{Begin, Load, Force, Write, Release, StartCarry, Restamp, FinishCarry}
use Rattle.model.specs.declared.command.Command.TheVariants.{Change, Backup, Note}
use Rattle.face.specs.Numbers.{state_of, numbers_of, fits}
use Rattle.log_scan.specs.Rows.{row_of}
use Rattle.numbers.proofs.NumberLaws.{arrays}
use Rattle.numbers.proofs.FitLaws.{numbers-back}
use Rattle.face_step.specs.Targets.{touched, note_page}
use Rattle.model.specs.Types.{PendingNote, None, Some}

set-gone : (es : List Entry) (i : ℕ) (e : Entry) → length es ≤ i → set es i e ≡ es
set-gone [] i e h = refl
set-gone (x ∷ es) zero e h = absurd (omega arith)
set-gone (x ∷ es) (suc i) e h = ap (λ (xs : List Entry). x ∷ xs) (set-gone es i e (omega arith))

-- nothing is changed but row r
abbrev OneRow : ℕ → List Entry → List Entry → Type 0
OneRow r old new = new ≡ set old r (get_or new r empty_entry)

none : (r : ℕ) (es : List Entry) → OneRow r es es
none r es = sym (set-get_or es r empty_entry)

own : (p : ℕ) (es : List Entry) (e : Entry) → length es ≡ 64 → OneRow (row_of p) es (set es (p - 1) e)
unfolding row_of
own p es e l =
    by_cases (leb p 64)
    (λ t. let b = leb-true p 64 t in rw (t, get_or-set_same es (p - 1) e empty_entry (omega arith)))
    (λ t. let g : 64 < p = leb-false p 64 t in rw (t, set-gone es (p - 1) e (omega arith)) (none 0 es))

either : (r : ℕ) (es : List Entry) (b : Bool) (x y : Outcome) → OneRow r es x.state.index → OneRow r es y.state.index
    → OneRow r es (cond b x y).state.index
either r es b x y p q = by_cases b (λ e. rw e p) (λ e. rw e q)

module _ (v m : List ℕ) (s : State) where
  by_rows : (r : ℕ) (rows : List Row) (done : Outcome) → OneRow r s.index done.state.index
      → OneRow r s.index (decided rows m s done).state.index
  unfolding decided
  by_rows r rows done h = either r s.index (eqb (first_of rows) 0) done (unchanged _ m s) h (none r s.index)

  noted : (p : PendingNote) → length s.index ≡ 64 → OneRow (row_of (note_page p)) s.index (note_stored v m s p).state.index
  unfolding noted_state enter_note
  noted None l = none _ s.index
  noted (Some n) l = own n.page s.index _ l

  pub one-row : (c : Call) → length s.index ≡ 64
      → OneRow (row_of (touched c m s.durable s.note)) s.index (outcome_of c v m s).state.index
  unfolding decided begin_done load_done change_done force_done write_outcome backup_done release_done restamp_done appended_state forced_state
  one-row (Begin page frame fill, _) l = by_rows _ (begin_rows v m s page frame) _ (own page s.index _ l)
  one-row (Load page frame, _) l = by_rows _ (load_rows v m s page frame) _ (none _ s.index)
  one-row (Change page c, payload) l = by_rows _ (change_rows v m s page c) _ (own page s.index _ l)
  one-row (Force, _) l =
      let p = field 2 8 (pending_bytes m (s.durable + 1)) in
      by_rows _ (force_rows v m s) _
      (either _ s.index (eqb s.pending 0) _ _ (none _ s.index)
      (by_cases (within (geometry_of v).pages p) (λ t. rw t (own p s.index _ l)) (λ t. rw t (none _ s.index))))
  one-row (Write page, _) l =
      by_rows _ (write_rows v m s page) _ (either _ s.index (page_dirty s page) _ _ (none _ s.index) (none _ s.index))
  one-row (Backup page slot, _) l = by_rows _ (backup_rows v m s page slot) _ (none _ s.index)
  one-row (Release page, _) l = by_rows _ (release_rows v m s page) _ (none _ s.index)
  one-row (Note, _) l = by_rows _ (note_rows v m s) _ (noted s.note l)
  one-row (StartCarry, _) l = by_rows _ (start_carry_rows v m s) _ (none _ s.index)
  one-row (Restamp, _) l =
      let i = ltb (first_old (geometry_of v) v s.index) (image_count (geometry_of v)) in
      by_cases (eqb (first_of (restamp_rows v m s)) 0)
      (λ r. by_cases i (λ t. rw (r, t) (none _ s.index)) (λ t. rw (r, t) (none _ s.index)))
      (λ r. rw r (none _ s.index))
  one-row (FinishCarry, _) l = by_rows _ (finish_carry_rows v m s) _ (none _ s.index)

-- so the numbers that `numbers::update` leaves are the next state's
pub told : (c : Call) (v m xs : List ℕ) → fits xs ≡ true → (s : State) → s ≡ state_of xs → (z : State) → z ≡ (outcome_of c v m s).state
    → (r : ℕ) → r ≡ row_of (touched c m s.durable s.note) → (xs' : List ℕ)
    → ((t : State) → length t.frames ≡ 16 → length t.index ≡ 64 → xs ≡ numbers_of t
    → z.index ≡ set t.index r (get_or z.index r empty_entry) → xs' ≡ numbers_of z)
    → xs' ≡ numbers_of z
told c v m xs h s es z ez r er xs' w =
    let a : Arrays s = rw es (arrays xs) in
    let one : OneRow r s.index z.index = rw (er, ez) (one-row v m s c a.index) in
    w s a.frames a.index (rw es (sym (numbers-back xs h))) one

-- the oldest pending record's page, where the code reads it
pub forced-page : (m : List ℕ) (d at : ℕ) → at ≡ 64 * (d % 16) → field 2 (at + 8) m ≡ field 2 8 (pending_bytes m (d + 1))
forced-page m d at e =
    let a : d + 1 - 1 ≡ d = omega arith in
    rw (a, ← e) (sym (field-part 2 8 64 at m (omega arith)))

-- T2's invariant is kept by a cut: between calls, or within one that left its item torn. (One that left it new is the
-- call, and then a cut.)
use mathlib.Core.Path.{◌≡◌, refl, sym, ap, subst}
use mathlib.Core.Bool.{true, false, ◌&&◌, not}
use mathlib.Core.List.{List, [], ◌∷◌}
use Prim.Native.Nat.{ℕ, suc, ◌+◌, ◌≤◌}
use native.Mathlib.Numerals.{add-one}
use native.Mathlib.Omega.{arith}
use lib.Dec.{eqb}
use lib.ListN.{length}
use borrow.Author.Tests.{eqb-true, eqb-false, not-true}
use Rattle.laws.proofs.Tables.{by_cases, and_left, and_right, true-not-false}
use Rattle.model.specs.Tables.{Row, first_of}
use Rattle.model.specs.Checksum.{sealed}
use Rattle.model.specs.Geometry.{Place, ring, geometry_of, width, store, log_slot, note_slot, page_at, slot_at}
use Rattle.model.specs.Refusals.{page_dirty, begin_rows, load_rows, change_rows, force_rows, write_rows, backup_rows}
use Rattle.model.specs.Refusals.{release_rows, note_rows}
use Rattle.model.specs.Outcome.{StoredItem, Outcome, volume_after, decided}
use Rattle.model.specs.Effects.{note_stored, backup_done, begin_done, change_done, force_done, load_done, release_done, write_outcome}
use Rattle.model.specs.Calls.{Call, outcome_of}
use Rattle.model.specs.Restart.{restart_state}
use Rattle.model.specs.declared.{geometry.Geometry.Geometry, item.Note.Note}
use Rattle.model.specs.declared.state.State.{State}
use Rattle.model.specs.declared.command.Command.TheVariants.{Begin, Load, Force, Write, Release, StartCarry, Restamp, FinishCarry}
use Rattle.model.specs.declared.command.Command.TheVariants.{Change, Backup, Note as NoteCall}
use Rattle.model.specs.Carry.{carries}
use Rattle.model.specs.AbstractLog.{Logged, torn}
use Rattle.model.specs.History.{left_volume, item_sealed, torn_fits}
use Rattle.history.proofs.Disk.{Holds, Noted}
use Rattle.history.proofs.Images.{write_store, backup-store}
use Rattle.history.proofs.Persists.{writes, backs, note-store}
use Rattle.history.proofs.Forces.{force-store}
use Rattle.history.proofs.Context.{Ctx, geo}
use Rattle.upkeep_theory.proofs.Tidy.{Tidy}
use Rattle.upkeep_theory.proofs.Apart.{Apart, apart_none, apart-page, apart-slot}
use Rattle.upkeep_theory.proofs.TidySteps.{cut}
use Rattle.upkeep_theory.proofs.TidyStores.{torn-tidy, torn-note-tidy}
use Rattle.upkeep_theory.proofs.Live.{marks-restart, durable-restart, notes-restart}
use Rattle.upkeep_theory.proofs.Step.{l2}
use Rattle.model.specs.Types.{PendingNote, None, Some}

restart-rests : (v : List ℕ) → ((restart_state v).pending ≡ 0) × ((restart_state v).note ≡ None)
unfolding restart_state
restart-rests v = (refl, refl)

module _ {C : Type 0} {g : Geometry} {v m : List ℕ} {past : List StoredItem} {s : State} {k w : List Logged}
    (x : Ctx C g v m past s k w) (turns : ring g ≡ true) (n2 : 2 ≤ g.notes) (cuts : ℕ) (t : Tidy g v s cuts) where
  -- the log and the notes are as they were
  cut_at : (v' : List ℕ) → Holds g v' k → Noted C g v' k x.ns → Apart g v v' → Tidy g v' (restart_state v') (suc cuts)
  cut_at v' h o ap' =
      let q = restart-rests v' in
      cut g v x.hs.vol s (l2 x turns n2) n2 cuts t v' ap' (restart_state v') (marks-restart x v' h o)
      (notes-restart x v' h o)
      (durable-restart x v' h o) q.0 q.1

  pub cut-here : Tidy g v (restart_state v) (suc cuts)
  cut-here = cut_at v x.hs x.no (apart_none g v)

  abbrev pub TornAt : StoredItem → List ℕ → Type 0
  TornAt i xs = Tidy g (left_volume v i (torn xs)) (restart_state (left_volume v i (torn xs))) (suc cuts)

  by_rows : (rows : List Row) (done : Outcome) (xs : List ℕ)
      → torn_fits (geometry_of v) (decided rows m s done).stored (torn xs) ≡ true
      → (first_of rows ≡ 0 → torn_fits (geometry_of v) done.stored (torn xs) ≡ true → TornAt done.stored xs)
      → TornAt (decided rows m s done).stored xs
  unfolding decided
  by_rows rows done xs f h =
      by_cases (eqb (first_of rows) 0) (λ e. rw e (h (eqb-true (first_of rows) 0 e) (rw e at f))) (λ e. rw e cut-here)

  size_of : (at : Place) (xs : List ℕ) → (eqb (length xs) (width at) && not (item_sealed g at xs)) ≡ true
      → (length xs ≡ width at) × (item_sealed g at xs ≡ false)
  size_of at xs f = (
    eqb-true (length xs) (width at) (and_left (eqb (length xs) (width at)) (not (item_sealed g at xs)) f),
    not-true (item_sealed g at xs) (and_right (eqb (length xs) (width at)) (not (item_sealed g at xs)) f),
  )

  torn-record : (w' : List Logged) → w ≡ w' → eqb s.pending 0 ≡ false → (xs : List ℕ) → length xs ≡ 64
      → sealed 60 xs ≡ false
      → Tidy g (store g v (log_slot g (s.durable + 1)) xs) (restart_state (store g v (log_slot g (s.durable + 1)) xs))
      (suc cuts)
  torn-record [] e nz xs size bad =
      absurd (eqb-false s.pending 0 nz (omega (arith, x.al.log.pending-is, ap length e)))
  torn-record (c ∷ r) e nz xs size bad =
      let st = (force-store x c r e).torn' xs bad size in
      let v' = store g v (log_slot g (s.durable + 1)) xs in
      let q = restart-rests v' in
      let y = torn-tidy g v x.hs.vol s (l2 x turns n2) n2 cuts t xs size (restart_state v')
      (marks-restart x v' st.0 st.1)
      (notes-restart x v' st.0 st.1) q.0 q.1 bad (durable-restart x v' st.0 st.1) in
      subst (λ (d : ℕ). Tidy g (store g v (log_slot g d) xs) (restart_state v') (suc cuts)) (sym (add-one s.durable)) y

  torn-note : (n : Note) → s.note ≡ Some n → (xs : List ℕ) → length xs ≡ 16 → sealed 12 xs ≡ false
      → Tidy g (store g v (note_slot g (s.notes + 1)) xs) (restart_state (store g v (note_slot g (s.notes + 1)) xs))
      (suc cuts)
  torn-note n e xs size bad =
      let st = (note-store x n (rw e at x.al.note-ok)).torn' xs bad size in
      let v' = store g v (note_slot g (s.notes + 1)) xs in
      let q = restart-rests v' in
      let y = torn-note-tidy g v x.hs.vol s (l2 x turns n2) n2 cuts t (restart_state v')
      (durable-restart x v' st.0 st.1) q.0 q.1
      xs size bad (marks-restart x v' st.0 st.1) (notes-restart x v' st.0 st.1) n e in
      subst (λ (d : ℕ). Tidy g (store g v (note_slot g d) xs) (restart_state v') (suc cuts)) (sym (add-one s.notes)) y

  note-cut : (y : PendingNote) → s.note ≡ y → (xs : List ℕ)
      → torn_fits (geometry_of v) (note_stored v m s y).stored (torn xs) ≡ true
      → TornAt (note_stored v m s y).stored xs
  unfolding volume_after
  note-cut None e xs f = cut-here
  note-cut (Some n) e xs f =
      let z = size_of (note_slot g (s.notes + 1)) xs f in
      rw (geo x) (torn-note n e xs z.0 z.1)

  pub cut-torn : (c : Call) → carries c ≡ false → (xs : List ℕ)
      → torn_fits (geometry_of v) (outcome_of c v m s).stored (torn xs) ≡ true
      → TornAt (outcome_of c v m s).stored xs
  unfolding decided begin_done load_done change_done force_done write_outcome backup_done release_done volume_after
  cut-torn (Begin p f fill, _) o xs u = by_rows (begin_rows v m s p f) _ xs u (λ e y. cut-here)
  cut-torn (Load p f, _) o xs u = by_rows (load_rows v m s p f) _ xs u (λ e y. cut-here)
  cut-torn (Change p c, payload) o xs u = by_rows (change_rows v m s p c) _ xs u (λ e y. cut-here)
  cut-torn (Force, _) o xs u = by_rows (force_rows v m s) _ xs u (λ e y. by_cases (eqb s.pending 0) (λ q. rw q cut-here)
      (λ q. let z = size_of (log_slot g (s.durable + 1)) xs (rw q at y) in
      rw (q, geo x) (torn-record w refl q xs z.0 z.1)))
  cut-torn (Write p, _) o xs u = by_rows (write_rows v m s p) _ xs u (λ e y. by_cases (page_dirty s p)
      (λ d.
      let z = size_of (page_at p) xs (rw (d, geo x) at y) in
      let q = writes x p e in let fo = q.frame-of in
      let st = (write_store x p fo (q.ready d).2).torn' xs z.1 z.0 in
      rw (d, geo x) (cut_at (store g v (page_at p) xs) st.0 st.1 (apart-page g v x.hs.vol p fo.framed.low
      fo.framed.high xs z.0)))
      (λ d. rw d cut-here))
  cut-torn (Backup p b, _) o xs u = by_rows (backup_rows v m s p b) _ xs u (λ e y.
      let z = size_of (slot_at b) xs (rw (geo x) at y) in
      let q = backs x p b e in
      let st = (backup-store x p q.frame-of q.forced-to b q.slot-low q.slot-high q.spare).torn' xs
      z.1 z.0 in
      rw (geo x) (cut_at (store g v (slot_at b) xs) st.0 st.1
      (apart-slot g v x.hs.vol b q.slot-low q.slot-high xs z.0)))
  cut-torn (Release p, _) o xs u = by_rows (release_rows v m s p) _ xs u (λ e y. cut-here)
  cut-torn (NoteCall, _) o xs u =
      by_rows (note_rows v m s) (note_stored v m s s.note) xs u (λ e y. note-cut s.note refl xs y)
  cut-torn (StartCarry, _) o xs u = absurd (true-not-false refl o)
  cut-torn (Restamp, _) o xs u = absurd (true-not-false refl o)
  cut-torn (FinishCarry, _) o xs u = absurd (true-not-false refl o)

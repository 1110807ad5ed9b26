-- Every call but those that carry a volume over keeps the invariant, whole or cut short by a crash.
use mathlib.Core.Path.{◌≡◌, refl, sym, subst}
use mathlib.Core.Bool.{true, false, cond, not, ◌&&◌}
use mathlib.Core.List.{List, [], ◌∷◌, ◌++◌}
use Prim.Native.Nat.{ℕ, ◌+◌}
use lib.ListN.{length}
use lib.Dec.{eqb}
use borrow.Author.Tests.{eqb-true, not-true}
use Rattle.laws.proofs.Tables.{by_cases, and_left, and_right, true-not-false}
use Rattle.laws.proofs.Carrying.{no-restamp}
use Rattle.model.specs.Tables.{Row, first_of}
use Rattle.model.specs.Checksum.{seal_image}
use Rattle.model.specs.Geometry.{Place, page_at, slot_at, log_slot, note_slot, width, geometry_of}
use Rattle.model.specs.Item.{note_bytes}
use Rattle.model.specs.Repair.{repair_of, class_in, state_view}
use Rattle.model.specs.State.{frame_bytes, pending_bytes, holder}
use Rattle.model.specs.Refusals.{page_dirty, begin_rows, load_rows, change_rows, force_rows, write_rows, backup_rows, release_rows, note_rows}
use Rattle.model.specs.Outcome.{StoredItem, nothing, one_item, Outcome, volume_after, decided}
use Rattle.model.specs.Effects.{is_good, note_stored, backup_done, begin_done, change_done, force_done, load_done, release_done, write_outcome}
use Rattle.model.specs.Calls.{Call, rows_of, outcome_of, no_payload}
use Rattle.model.specs.declared.{geometry.Geometry.Geometry, item.Note.Note}
use Rattle.model.specs.declared.state.State.{State}
use Rattle.model.specs.declared.command.Command.TheVariants.{Begin, Load, Force, Write, Release, StartCarry, Restamp, FinishCarry}
use Rattle.model.specs.declared.answer.Answer.TheVariants.{Done, Repaired}
use Rattle.model.specs.declared.command.Command.TheVariants.{Change, Backup, Note as NoteCall}
use Rattle.model.specs.AbstractLog.{move_first, Logged, AbstractLog, Left, old, new, torn, forget, step_call, step_cut}
use Rattle.model.specs.History.{off, left_volume, left_past, past_after, item_sealed, torn_fits, payload_fits}
use Rattle.model.specs.Carry.{carries}
use Rattle.history.proofs.Inv.{past-cons, PendingOk, Inv}
use Rattle.history.proofs.Context.{Ctx, Preserved, geo, keep-decided}
use Rattle.history.proofs.Appends.{keep-begin, keep-change}
use Rattle.history.proofs.Loads.{keep_load}
use Rattle.history.proofs.Release.{keep-release}
use Rattle.history.proofs.Images.{StoreOk, write_store, backup-store}
use Rattle.history.proofs.Forces.{force-store, forced, none-pending, some-pending, keep-force}
use Rattle.history.proofs.Persists.{Writes, writes, written, keep-write, backs, keep-backup, note-store}
use Rattle.history.proofs.Persists.{keep-note}
use Rattle.model.specs.Types.{PendingNote, None, Some}

-- ---- what these calls store counts as stored

abbrev pub plain_past : StoredItem → Left → List StoredItem → List StoredItem
plain_past i old past = past
plain_past i new past = i ∷ past
plain_past i (torn xs) past = past

pub plain-after : (c : Call) → carries c ≡ false → (v : List ℕ) (i : StoredItem) (past : List StoredItem) → past_after c v i past ≡ i ∷ past
plain-after c o v i past = rw (no-restamp c o) refl

pub plain-left : (c : Call) → carries c ≡ false → (v : List ℕ) (i : StoredItem) (l : Left) (past : List StoredItem)
    → left_past c v i l past ≡ plain_past i l past
plain-left c o v i old past = refl
plain-left c o v i new past = plain-after c o v i past
plain-left c o v i (torn xs) past = refl

module _ {C : Type 0} {g : Geometry} {v m : List ℕ} {past : List StoredItem} {s : State} {k w : List Logged}
    (x : Ctx C g v m past s k w) where
  pub inv-call : (c : Call) → carries c ≡ false → payload_fits c ≡ true
      → Preserved C g v past (outcome_of c v m s) (cond (not (eqb (first_of (rows_of c v m s)) 0)) (record { durable = k; pending = w })
      (step_call (record { durable = k; pending = w }) c))
  unfolding decided begin_done load_done change_done force_done write_outcome backup_done release_done step_call
  inv-call (Begin page f fill, _) o h = keep-decided x (begin_rows v m s page f) _ _ (keep-begin x page f fill)
  inv-call (Load page f, _) o h =
      keep-decided x (load_rows v m s page f) _ _
      (keep_load x page f (Repaired (repair_of (geometry_of v) page (state_view (geometry_of v) v s page)))
      (not (is_good (class_in (geometry_of v) page (state_view (geometry_of v) v s page)))))
  inv-call (Change page c, payload) o h =
      keep-decided x (change_rows v m s page c) _ _ (keep-change x page c payload (eqb-true (length payload) 44 h))
  inv-call (Force, _) o h = keep-decided x (force_rows v m s) (forced x) _ (λ e. keep-force x w refl)
  inv-call (Write page, _) o h = keep-decided x (write_rows v m s page) (written x page) _ (λ e. keep-write x page (writes x page e))
  inv-call (Backup page b, _) o h = keep-decided x (backup_rows v m s page b) _ _ (λ e. keep-backup x page b (backs x page b e))
  inv-call (Release page, _) o h = keep-decided x (release_rows v m s page) _ _ (keep-release x page Done)
  inv-call (NoteCall, _) o h = keep-decided x (note_rows v m s) (note_stored v m s s.note) _ (λ e. keep-note x s.note x.al.note-ok)
  inv-call (StartCarry, _) o h = absurd (true-not-false refl o)
  inv-call (Restamp, _) o h = absurd (true-not-false refl o)
  inv-call (FinishCarry, _) o h = absurd (true-not-false refl o)

  -- ---- a crash within a call

  abbrev Cut : StoredItem → Left → AbstractLog → Type 0
  Cut i l b = Inv C g (left_volume v i l) (plain_past i l past) off (forget b)

  cut-old : Inv C g v past off (record { durable = k; pending = [] })
  cut-old = record { ns = x.ns; holds = x.hs; noted = x.no; past-ok = x.ps; live = tt }

  cut-nothing : (l : Left) (r : List Logged) → Cut nothing l (record { durable = k; pending = r })
  unfolding volume_after
  cut-nothing old r = cut-old
  cut-nothing new r = record { ns = x.ns; holds = x.hs; noted = x.no; past-ok = past-cons g k past nothing tt x.ps; live = tt }
  cut-nothing (torn xs) r = cut-old

  cut-new : (at : Place) (xs : List ℕ) (k' : List Logged) (ns' : List Note) → StoreOk C g v past k x.ns at xs k' ns'
      → Inv C g (volume_after v (one_item at xs)) (one_item at xs ∷ past) off (record { durable = k'; pending = [] })
  unfolding volume_after
  cut-new at xs k' ns' st = rw (geo x) (record { ns = ns'; holds = st.holds'; noted = st.noted'; past-ok = st.past'; live = tt })

  cut-torn : (at : Place) (xs ys : List ℕ) (k' : List Logged) (ns' : List Note) → StoreOk C g v past k x.ns at xs k' ns'
      → torn_fits (geometry_of v) (one_item at xs) (torn ys) ≡ true
      → Inv C g (volume_after v (one_item at ys)) past off (record { durable = k; pending = [] })
  unfolding volume_after
  cut-torn at xs ys k' ns' st t =
      let t' : (eqb (length ys) (width at) && not (item_sealed g at ys)) ≡ true = rw (geo x) at t in
      let r = st.torn' ys (not-true (item_sealed g at ys) (and_right (eqb (length ys) (width at)) (not (item_sealed g at ys)) t'))
      (eqb-true (length ys) (width at) (and_left (eqb (length ys) (width at)) (not (item_sealed g at ys)) t')) in
      rw (geo x) (record { ns = x.ns; holds = r.0; noted = r.1; past-ok = x.ps; live = tt })

  -- a store that the abstract log does not see
  cut-item : (at : Place) (xs : List ℕ) (ns' : List Note) → StoreOk C g v past k x.ns at xs k ns'
      → (l : Left) → torn_fits (geometry_of v) (one_item at xs) l ≡ true
      → Cut (one_item at xs) l (record { durable = k; pending = w })
  cut-item at xs ns' st old t = cut-old
  cut-item at xs ns' st new t = cut-new at xs k ns' st
  cut-item at xs ns' st (torn ys) t = cut-torn at xs ys k ns' st t

  -- an image, summed as the volume's heading says
  cut-image : (at : Place) (y : List ℕ) → StoreOk C g v past k x.ns at (seal_image g y) k x.ns
      → (l : Left) → torn_fits (geometry_of v) (one_item at (seal_image (geometry_of v) y)) l ≡ true
      → Cut (one_item at (seal_image (geometry_of v) y)) l (record { durable = k; pending = w })
  cut-image at y st l t = cut-item at (seal_image (geometry_of v) y) x.ns (rw (geo x) st) l t

  abbrev place : Place
  place = log_slot (geometry_of v) (s.durable + 1)

  abbrev bytes : List ℕ
  bytes = pending_bytes m (s.durable + 1)

  store_at : (c : Logged) (r : List Logged) → w ≡ c ∷ r → StoreOk C g v past k x.ns place bytes (k ++ (c ∷ [])) x.ns
  store_at c r e = subst (λ (h : Geometry). StoreOk C g v past k x.ns (log_slot h (s.durable + 1)) bytes (k ++ (c ∷ [])) x.ns)
      (sym (geo x)) (force-store x c r e)

  force-new : (c : Logged) (r : List Logged) → w ≡ c ∷ r → Cut (one_item place bytes) new (move_first k w)
  force-new c r e = rw e (cut-new place bytes (k ++ (c ∷ [])) x.ns (store_at c r e))

  force-torn : (c : Logged) (r : List Logged) → w ≡ c ∷ r → (ys : List ℕ) → torn_fits (geometry_of v) (one_item place bytes) (torn ys) ≡ true
      → Cut (one_item place bytes) (torn ys) (record { durable = k; pending = w })
  force-torn c r e ys f = cut-torn place bytes ys (k ++ (c ∷ [])) x.ns (store_at c r e) f

  stored-none : w ≡ [] → (forced x).stored ≡ nothing
  stored-none e = rw (none-pending x e)

  stored_one : (c : Logged) (r : List Logged) → w ≡ c ∷ r → (forced x).stored ≡ one_item place bytes
  stored_one c r e = rw (some-pending x c r e)

  abbrev CutForce : StoredItem → Left → Type 0
  CutForce i l = torn_fits (geometry_of v) i l ≡ true → Cut i l (step_cut (record { durable = k; pending = w }) (Force, no_payload) l)

  force-none : w ≡ [] → (l : Left) → CutForce nothing l
  unfolding step_cut step_call
  force-none e old f = cut-old
  force-none e new f = rw e (cut-nothing new [])
  force-none e (torn xs) f = cut-old

  force-one : (c : Logged) (r : List Logged) → w ≡ c ∷ r → (l : Left) → CutForce (one_item place bytes) l
  unfolding step_cut step_call
  force-one c r e old f = cut-old
  force-one c r e new f = force-new c r e
  force-one c r e (torn xs) f = force-torn c r e xs f

  cut-force : (w' : List Logged) → w ≡ w' → (l : Left) → torn_fits (geometry_of v) (forced x).stored l ≡ true
      → Cut (forced x).stored l (step_cut (record { durable = k; pending = w }) (Force, no_payload) l)
  cut-force [] e l = subst (λ (i : StoredItem). CutForce i l) (sym (stored-none e)) (force-none e l)
  cut-force (c ∷ r) e l = subst (λ (i : StoredItem). CutForce i l) (sym (stored_one c r e)) (force-one c r e l)

  cut-write : (p : ℕ) → Writes x p → (l : Left) → torn_fits (geometry_of v) (written x p).stored l ≡ true
      → Cut (written x p).stored l (record { durable = k; pending = w })
  cut-write p f l t = by_cases (page_dirty s p)
      (λ d. rw d (cut-image (page_at p) (frame_bytes m (holder s p)) (write_store x p f.frame-of (f.ready d).2) l (rw d at t)))
      (λ d. rw d (cut-nothing l w))

  cut-note : (y : PendingNote) → PendingOk C g v k x.ns y → (l : Left) → torn_fits (geometry_of v) (note_stored v m s y).stored l ≡ true
      → Cut (note_stored v m s y).stored l (record { durable = k; pending = w })
  cut-note None t l f = cut-nothing l w
  cut-note (Some y) t l f =
      cut-item (note_slot (geometry_of v) (s.notes + 1)) (note_bytes y) (x.ns ++ (y ∷ [])) (rw (geo x) (note-store x y t)) l f

  cut-decided : (rows : List Row) (done : Outcome) (b : AbstractLog) (l : Left)
      → torn_fits (geometry_of v) (decided rows m s done).stored l ≡ true
      → (first_of rows ≡ 0 → torn_fits (geometry_of v) done.stored l ≡ true → Cut done.stored l b)
      → Cut (decided rows m s done).stored l (cond (not (eqb (first_of rows) 0)) (record { durable = k; pending = w }) b)
  unfolding decided
  cut-decided rows done b l t f =
      by_cases (eqb (first_of rows) 0) (λ e. rw e (f (eqb-true (first_of rows) 0 e) (rw e at t))) (λ e. rw e (cut-nothing l w))

  pub inv-crash : (c : Call) → carries c ≡ false → (l : Left) → torn_fits (geometry_of v) (outcome_of c v m s).stored l ≡ true
      → Cut (outcome_of c v m s).stored l (cond (not (eqb (first_of (rows_of c v m s)) 0)) (record { durable = k; pending = w })
      (step_cut (record { durable = k; pending = w }) c l))
  unfolding decided begin_done load_done change_done force_done write_outcome backup_done release_done step_cut step_call
  inv-crash (Begin page f fill, _) o l t = cut-decided (begin_rows v m s page f) _ _ l t (λ e u. cut-nothing l w)
  inv-crash (Load page f, _) o l t = cut-decided (load_rows v m s page f) _ _ l t (λ e u. cut-nothing l w)
  inv-crash (Change page c, payload) o l t = cut-decided (change_rows v m s page c) _ _ l t (λ e u. cut-nothing l w)
  inv-crash (Force, _) o l t =
      cut-decided (force_rows v m s) (forced x) (step_cut (record { durable = k; pending = w }) (Force, no_payload) l) l t
      (λ e u. cut-force w refl l u)
  inv-crash (Write page, _) o l t = cut-decided (write_rows v m s page) (written x page) _ l t (λ e u. cut-write page (writes x page e) l u)
  inv-crash (Backup page b, _) o l t =
      cut-decided (backup_rows v m s page b) _ _ l t
      (λ e u. let f = backs x page b e in cut-image (slot_at b) (frame_bytes m (holder s page))
      (backup-store x page f.frame-of f.forced-to b f.slot-low f.slot-high f.spare) l u)
  inv-crash (Release page, _) o l t = cut-decided (release_rows v m s page) _ _ l t (λ e u. cut-nothing l w)
  inv-crash (NoteCall, _) o l t = cut-decided (note_rows v m s) (note_stored v m s s.note) _ l t
      (λ e u. cut-note s.note x.al.note-ok l u)
  inv-crash (StartCarry, _) o l t = absurd (true-not-false refl o)
  inv-crash (Restamp, _) o l t = absurd (true-not-false refl o)
  inv-crash (FinishCarry, _) o l t = absurd (true-not-false refl o)

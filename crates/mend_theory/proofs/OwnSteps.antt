-- ME4 (b)'s invariant is kept by every call but a carrying, whole or cut, and by every event that spares the page's own image.
use mathlib.Core.Path.{◌≡◌, refl}
use mathlib.Core.Logic.{◌≢◌}
use mathlib.Core.Bool.{Bool, true, false, cond, not, ◌&&◌, ◌||◌}
use mathlib.Core.List.{List, [], ◌∷◌}
use Prim.Native.Nat.{ℕ, suc, ◌+◌, ◌≤◌}
use native.Mathlib.Omega.{arith}
use native.Mathlib.Decide.{ℕ_discrete}
use lib.ListN.{length}
use lib.Dec.{eqb}
use borrow.Author.Tests.{eqb-true, eqb-false, not-true}
use Rattle.laws.proofs.Tables.{by_cases, and_left, and_right, or-neither, true-not-false, within-bounds}
use Rattle.laws.proofs.Notes.{note-length}
use Rattle.laws.proofs.WellFormed.{memory-facts, pending-length}
use Rattle.laws.proofs.Ring.{slot-in}
use Rattle.model.specs.Tables.{Row, first_of}
use Rattle.model.specs.Checksum.{seal_image}
use Rattle.model.specs.Geometry.{Place, page_at, slot_at, record_at, note_at, ring, geometry_of, item, store, width, log_slot, note_slot}
use Rattle.model.specs.Item.{image_lsn, note_bytes}
use Rattle.model.specs.Scan.{index_of}
use Rattle.model.specs.Passes.{is_image, passes_at}
use Rattle.model.specs.State.{frame_bytes, pending_bytes, holder}
use Rattle.model.specs.Refusals.{page_dirty, begin_rows, load_rows, change_rows, force_rows, write_rows, backup_rows, release_rows, note_rows}
use Rattle.model.specs.Refusals.{restart_rows}
use Rattle.model.specs.Outcome.{StoredItem, Outcome, volume_after, decided}
use Rattle.model.specs.Effects.{note_stored, backup_done, begin_done, change_done, force_done, load_done, release_done, write_outcome}
use Rattle.model.specs.Calls.{Call, rows_of, outcome_of, is_call}
use Rattle.model.specs.AbstractLog.{Logged, AbstractLog, move_first, forget, Left, old, new, torn, left_new, step_call, step_cut}
use Rattle.model.specs.History.{Power, off, on, Machine, Event, restart, perform, crash, crash_in, damage, lent, left_volume}
use Rattle.model.specs.History.{item_sealed, torn_fits, stored_before, allowed, step, step_log, all_allowed, run, log_after}
use Rattle.model.specs.Carry.{carries}
use Rattle.model.specs.declared.{geometry.Geometry.Geometry, state.State.State}
use Rattle.model.specs.declared.command.Command.TheVariants.{Begin, Load, Force, Write, Release, StartCarry, Restamp, FinishCarry}
use Rattle.model.specs.declared.command.Command.TheVariants.{Change, Backup, Note as NoteCall}
use Rattle.history.proofs.Logs.{last_of, len_a}
use Rattle.history.proofs.LogSteps.{oldest-fair}
use Rattle.history.proofs.Sections.{store_other, store_same}
use Rattle.history.proofs.Inv.{Inv, PendingOk}
use Rattle.history.proofs.Images.{sealed-valid, sealed-lsn, sealed-size, lsn-is, settled}
use Rattle.history.proofs.Persists.{writes, backs}
use Rattle.history.proofs.Context.{Ctx, geo, sized, durable-last}
use Rattle.history.proofs.Forces.{forced, none-pending, some-pending}
use Rattle.history.proofs.WellFormed.{memory-ok}
use Rattle.history.proofs.Steps.{context}
use Rattle.mend_policy.specs.MendClaim.{carries_in, is_own, writes_page, left_torn, hits_own, spares_own}
use Rattle.mend_theory.proofs.Own.{Reach, reach-more, reach-new}
use Rattle.mend_theory.proofs.Two.{one-inv, apart, no-starts, both}
use Rattle.model.specs.Types.{PendingNote, None, Some}

module _ (g : Geometry) (p F : ℕ) (lo : 1 ≤ p) (hi : p ≤ g.pages) where
  abbrev pub Near : List Logged → List ℕ → Type 0
  Near k v = (F ≤ suc (length k)) × Reach g p F k (item g v (page_at p))

  module _ {C : Type 0} {v m : List ℕ} {past : List StoredItem} {s : State} {k w : List Logged} (x : Ctx C g v m past s k w) where
    -- the own image reads as before
    keep : (v' : List ℕ) → item g v' (page_at p) ≡ item g v (page_at p) → Near k v → Near k v'
    keep v' e n = rw e n

    pub record-page : (xs : List ℕ) → length xs ≡ 64 → item g (store g v (log_slot g (s.durable + 1)) xs) (page_at p) ≡ item g v (page_at p)
    record-page xs six =
        let n : s.durable + 1 ≡ suc (length k) = omega (arith, x.al.log.durable-is) in
        let q = slot-in g.records (length k) (sized x).l-low in
        rw n (store_other g v x.hs.vol (log_slot g (suc (length k))) xs q six (page_at p) (lo, hi) (omega (arith, q.0)))

    pub note-page : (xs : List ℕ) → length xs ≡ 16 → 1 ≤ g.notes
        → item g (store g v (note_slot g (s.notes + 1)) xs) (page_at p) ≡ item g v (page_at p)
    note-page xs six one =
        let n : s.notes + 1 ≡ suc (length x.ns) = omega (arith, x.al.notes-is) in
        let q = slot-in g.notes (length x.ns) one in
        rw n (store_other g v x.hs.vol (note_slot g (suc (length x.ns))) xs q six (page_at p) (lo, hi) (omega (arith, q.0)))

    pub slot-page : (b : ℕ) (xs : List ℕ) → 1 ≤ b → b ≤ g.slots → length xs ≡ 256
        → item g (store g v (slot_at b) xs) (page_at p) ≡ item g v (page_at p)
    slot-page b xs bl bh five = store_other g v x.hs.vol (slot_at b) xs (bl, bh) five (page_at p) (lo, hi) (omega arith)

    pub page-page : (q : ℕ) (xs : List ℕ) → 1 ≤ q → q ≤ g.pages → length xs ≡ 256 → p ≢ q
        → item g (store g v (page_at q) xs) (page_at p) ≡ item g v (page_at p)
    page-page q xs ql qh five ne = store_other g v x.hs.vol (page_at q) xs (ql, qh) five (page_at p) (lo, hi) (λ z. ne (omega arith))

    -- ---- a call

    abbrev here : AbstractLog
    here = record { durable = k; pending = w }

    by-table : (rows : List Row) (done : Outcome) (b : AbstractLog) → Near k v
        → (first_of rows ≡ 0 → Near b.durable (volume_after v done.stored))
        → Near (cond (not (eqb (first_of rows) 0)) here b).durable (volume_after v (decided rows m s done).stored)
    unfolding volume_after decided
    by-table rows done b n h = by_cases (eqb (first_of rows) 0) (λ e. rw e (h (eqb-true (first_of rows) 0 e))) (λ e. rw e n)

    force-near : (w' : List Logged) → w ≡ w' → Near k v → Near (move_first k w).durable (volume_after v (forced x).stored)
    unfolding volume_after
    force-near [] e n = rw (none-pending x e, e) n
    force-near (c ∷ r) e n =
        let six = pending-length m (memory-facts m (memory-ok x)) (s.durable + 1) in
        let fair = oldest-fair g m s.durable s.pending k w x.all x.al.log c r e in
        rw (some-pending x c r e, e, geo x) (
          rw (len_a k c) (omega (arith, n.0)),
          rw (record-page (pending_bytes m (s.durable + 1)) six)
              (reach-more g p F g.pages k c (item g v (page_at p)) fair n.0 n.1),
        )

    note-near : (y : PendingNote) → PendingOk C g v k x.ns y → Near k v → Near k (volume_after v (note_stored v m s y).stored)
    unfolding volume_after
    note-near None t n = n
    note-near (Some y) t n = rw (geo x) (keep _ (note-page (note_bytes y) (note-length y) t.3.0) n)

    write-near : (q : ℕ) → first_of (write_rows v m s q) ≡ 0 → page_dirty s q ≡ true → Near k v
        → Near k (store g v (page_at q) (seal_image g (frame_bytes m (holder s q))))
    write-near q e d n =
        let y = writes x q e in let fo = y.frame-of in let rd = y.ready d in
        let xs = seal_image g (frame_bytes m (holder s q)) in
        let five = sealed-size x q fo rd.2 in
        elim (ℕ_discrete p q) [
          | yes z ↦
              let num : last_of q k ≤ image_lsn xs =
              let a = sealed-lsn x q fo rd.2 in let b = lsn-is x q fo rd.2 in let c = settled x q fo rd.2 in
              let f = durable-last x q fo.framed.low fo.framed.high in omega (arith, a, b, c, f) in (
                n.0,
                rw z (rw (store_same g v x.hs.vol (page_at q) xs (fo.framed.low, fo.framed.high) five)
                    (reach-new g q F k xs (sealed-valid x q fo rd.2) num)),
              )
          | no z ↦ keep _ (page-page q xs fo.framed.low fo.framed.high five z) n
        ]

    pub call-near : (c : Call) → carries c ≡ false → Near k v
        → Near (cond (not (eqb (first_of (rows_of c v m s)) 0)) here (step_call here c)).durable (volume_after v (outcome_of c v m s).stored)
    unfolding decided begin_done load_done change_done force_done write_outcome backup_done release_done step_call volume_after
    call-near (Begin q r fill, _) o n = by-table (begin_rows v m s q r) _ _ n (λ e. n)
    call-near (Load q r, _) o n = by-table (load_rows v m s q r) _ _ n (λ e. n)
    call-near (Change q c, payload) o n = by-table (change_rows v m s q c) _ _ n (λ e. n)
    call-near (Force, _) o n = by-table (force_rows v m s) (forced x) (move_first k w) n (λ e. force-near w refl n)
    call-near (Write q, _) o n = by-table (write_rows v m s q) _ _ n (λ e. by_cases (page_dirty s q)
        (λ d. rw (d, geo x) (write-near q e d n)) (λ d. rw d n))
    call-near (Backup q b, _) o n = by-table (backup_rows v m s q b) _ _ n (λ e.
        let y = backs x q b e in
        rw (geo x) (keep _ (slot-page b _ y.slot-low y.slot-high (sealed-size x q y.frame-of y.forced-to)) n))
    call-near (Release q, _) o n = by-table (release_rows v m s q) _ _ n (λ e. n)
    call-near (NoteCall, _) o n = by-table (note_rows v m s) (note_stored v m s s.note) _ n (λ e. note-near s.note x.al.note-ok n)
    call-near (StartCarry, _) o n = absurd (true-not-false refl o)
    call-near (Restamp, _) o n = absurd (true-not-false refl o)
    call-near (FinishCarry, _) o n = absurd (true-not-false refl o)

    -- ---- a cut that leaves the item torn

    by_rows : (rows : List Row) (done : Outcome) (xs : List ℕ) → Near k v
        → torn_fits (geometry_of v) (decided rows m s done).stored (torn xs) ≡ true
        → (first_of rows ≡ 0 → torn_fits (geometry_of v) done.stored (torn xs) ≡ true → Near k (left_volume v done.stored (torn xs)))
        → Near k (left_volume v (decided rows m s done).stored (torn xs))
    unfolding decided
    by_rows rows done xs n t h =
        by_cases (eqb (first_of rows) 0) (λ e. rw e (h (eqb-true (first_of rows) 0 e) (rw e at t))) (λ e. rw e n)

    size_of : (at : Place) (xs : List ℕ) → (eqb (length xs) (width at) && not (item_sealed g at xs)) ≡ true → length xs ≡ width at
    size_of at xs f = eqb-true (length xs) (width at) (and_left (eqb (length xs) (width at)) (not (item_sealed g at xs)) f)

    torn-note : (y : PendingNote) → PendingOk C g v k x.ns y → (xs : List ℕ) → Near k v
        → torn_fits (geometry_of v) (note_stored v m s y).stored (torn xs) ≡ true → Near k (left_volume v (note_stored v m s y).stored (torn xs))
    unfolding volume_after
    torn-note None t xs n a = n
    torn-note (Some y) t xs n a = rw (geo x) (keep _ (note-page xs (size_of (note_slot g (s.notes + 1)) xs a) t.3.0) n)

    pub torn-near : (c : Call) → carries c ≡ false → writes_page p c.0 ≡ false → (xs : List ℕ) → Near k v
        → torn_fits (geometry_of v) (outcome_of c v m s).stored (torn xs) ≡ true → Near k (left_volume v (outcome_of c v m s).stored (torn xs))
    unfolding decided begin_done load_done change_done force_done write_outcome backup_done release_done volume_after
    torn-near (Begin q r fill, _) o u xs n a = by_rows (begin_rows v m s q r) _ xs n a (λ e y. n)
    torn-near (Load q r, _) o u xs n a = by_rows (load_rows v m s q r) _ xs n a (λ e y. n)
    torn-near (Change q c, payload) o u xs n a = by_rows (change_rows v m s q c) _ xs n a (λ e y. n)
    torn-near (Force, _) o u xs n a = by_rows (force_rows v m s) _ xs n a (λ e y. by_cases (eqb s.pending 0) (λ t. rw t n)
        (λ t. rw (t, geo x) (keep _ (record-page xs (size_of (log_slot g (s.durable + 1)) xs (rw t at y))) n)))
    torn-near (Write q, _) o u xs n a = by_rows (write_rows v m s q) _ xs n a (λ e y. by_cases (page_dirty s q)
        (λ d. let fo = (writes x q e).frame-of in
        rw (d, geo x) (keep _ (page-page q xs fo.framed.low fo.framed.high (size_of (page_at q) xs (rw (d, geo x) at y)) (eqb-false p q u)) n))
        (λ d. rw d n))
    torn-near (Backup q b, _) o u xs n a = by_rows (backup_rows v m s q b) _ xs n a (λ e y.
        let bk = backs x q b e in
        rw (geo x) (keep _ (slot-page b xs bk.slot-low bk.slot-high (size_of (slot_at b) xs (rw (geo x) at y))) n))
    torn-near (Release q, _) o u xs n a = by_rows (release_rows v m s q) _ xs n a (λ e y. n)
    torn-near (NoteCall, _) o u xs n a = by_rows (note_rows v m s) (note_stored v m s s.note) xs n a
        (λ e y. torn-note s.note x.al.note-ok xs n y)
    torn-near (StartCarry, _) o u xs n a = absurd (true-not-false refl o)
    torn-near (Restamp, _) o u xs n a = absurd (true-not-false refl o)
    torn-near (FinishCarry, _) o u xs n a = absurd (true-not-false refl o)

-- ---- the durable list of a cut

and_no : (t : Bool) → (t && false) ≡ false
and_no true = refl
and_no false = refl

cut-new : (b : AbstractLog) (c : Call) → step_cut b c new ≡ step_call b c
unfolding step_cut
cut-new b c = rw (and_no (is_call 6 c))

cut-same : (b : AbstractLog) (c : Call) (l : Left) → left_new l ≡ false → (step_cut b c l).durable ≡ b.durable
unfolding step_cut step_call
cut-same b (Begin p f fill, _) l t = refl
cut-same b (Load p f, _) l t = refl
cut-same b (Change p c, _) l t = refl
cut-same b (Force, _) l t = rw t refl
cut-same b (Write p, _) l t = refl
cut-same b (Backup p s, _) l t = refl
cut-same b (Release p, _) l t = refl
cut-same b (NoteCall, _) l t = refl
cut-same b (StartCarry, _) l t = refl
cut-same b (Restamp, _) l t = refl
cut-same b (FinishCarry, _) l t = refl

either : (t : Bool) (b b' : AbstractLog) → b'.durable ≡ b.durable → (cond t b b').durable ≡ b.durable
either true b b' e = refl
either false b b' e = e

-- ---- events

module _ (g : Geometry) (p F : ℕ) (lo : 1 ≤ p) (hi : p ≤ g.pages) where
  abbrev At : Machine → AbstractLog → Type 0
  At w b = Near g p F lo hi b.durable w.volume

  cut-near : (v m : List ℕ) (past : List StoredItem) (s : State) (b : AbstractLog) → Inv ⊥ g v past (on m s) b → (c : Call) → carries c ≡ false
      → (l : Left) → torn_fits (geometry_of v) (outcome_of c v m s).stored l ≡ true → (writes_page p c.0 && left_torn l) ≡ false
      → Near g p F lo hi b.durable v
      → Near g p F lo hi (cond (not (eqb (first_of (rows_of c v m s)) 0)) b (step_cut b c l)).durable
      (left_volume v (outcome_of c v m s).stored l)
  cut-near v m past s b i c o old t u n =
      rw (either (not (eqb (first_of (rows_of c v m s)) 0)) b (step_cut b c old) (cut-same b c old refl)) n
  cut-near v m past s b i c o new t u n = rw (cut-new b c) (call-near g p F lo hi (context g v m past s b i) c o n)
  cut-near v m past s b i c o (torn xs) t u n =
      rw (either (not (eqb (first_of (rows_of c v m s)) 0)) b (step_cut b c (torn xs)) (cut-same b c (torn xs) refl))
      (torn-near g p F lo hi (context g v m past s b i) c o (no-page (writes_page p c.0) u) xs n t)
    where
      no-page : (a : Bool) → (a && true) ≡ false → a ≡ false
      no-page true e = e
      no-page false e = refl

  hurt-near : (v : List ℕ) (past : List StoredItem) (x : Power) (b : AbstractLog) → Inv ⊥ g v past x b → (at : Place) (xs : List ℕ)
      → is_image g at ≡ true → length xs ≡ 256 → is_own p at ≡ false
      → Near g p F lo hi b.durable v → Near g p F lo hi b.durable (store g v at xs)
  hurt-near v past x b i (page_at q) xs r five u n =
      let w = within-bounds g.pages q r in
      let ne = eqb-false p q u in
      rw (store_other g v i.holds.vol (page_at q) xs w five (page_at p) (lo, hi) (λ z. ne (omega (arith, w.0)))) n
  hurt-near v past x b i (slot_at q) xs r five u n =
      let w = within-bounds g.slots q r in
      rw (store_other g v i.holds.vol (slot_at q) xs w five (page_at p) (lo, hi) (omega (arith, w.0, w.1))) n
  hurt-near v past x b i (record_at q) xs r five u n = absurd (true-not-false r refl)
  hurt-near v past x b i (note_at q) xs r five u n = absurd (true-not-false r refl)

  one-near : (v : List ℕ) (past : List StoredItem) (x : Power) (b : AbstractLog) → Inv ⊥ g v past x b → (e : Event)
      → allowed (record { volume = v; power = x; past = past }) e ≡ true → carries_in (e ∷ []) ≡ false → hits_own p e ≡ false
      → Near g p F lo hi b.durable v
      → At (step (record { volume = v; power = x; past = past }) e) (step_log (record { volume = v; power = x; past = past }) b e)
  unfolding step step_log allowed
  one-near v past x b i (restart m) t o u n = same (eqb (first_of (restart_rows v (lent x m))) 0)
    where
      same : (y : Bool) → Near g p F lo hi (cond y (forget b) b).durable v
      same true = n
      same false = n
  one-near v past off b i (perform c) t o u n = absurd (true-not-false t refl)
  one-near v past (on m s) b i (perform c) t o u n =
      call-near g p F lo hi (context g v m past s b i) c (or-neither (carries c) false o).0 n
  one-near v past x b i crash t o u n = n
  one-near v past off b i (crash_in c l) t o u n = absurd (true-not-false t refl)
  one-near v past (on m s) b i (crash_in c l) t o u n =
      cut-near v m past s b i c (or-neither (carries c) false o).0 l
      (and_left (torn_fits (geometry_of v) (outcome_of c v m s).stored l) _ t) u n
  one-near v past x b i (damage at xs) t o u n =
      let e = i.holds.vol.geo in
      let t₁ : (is_image g at && (eqb (length xs) 256 && (not (passes_at g (index_of g v) at xs) || stored_before at xs past))) ≡ true =
      rw e at t in
      let t₂ = and_right (is_image g at) (eqb (length xs) 256 && (not (passes_at g (index_of g v) at xs) || stored_before at xs past)) t₁ in
      rw e (hurt-near v past x b i at xs (and_left (is_image g at) _ t₁) (eqb-true (length xs) 256 (and_left (eqb (length xs) 256) _ t₂)) u n)

  pub all_near : ring g ≡ true → (es : List Event) (w : Machine) (b : AbstractLog) → Inv ⊥ g w.volume w.past w.power b
      → all_allowed w es ≡ true → carries_in es ≡ false → spares_own p es ≡ true → At w b
      → At (run w es) (log_after w b es) × Inv ⊥ g (run w es).volume (run w es).past (run w es).power (log_after w b es)
  unfolding all_allowed run log_after
  all_near turns [] w b i a z u n = (n, i)
  all_near turns (e ∷ es) w b i a z u n =
      let q = both (allowed w e) (all_allowed (step w e) es) a in
      let c = apart e es z in
      all_near turns es (step w e) (step_log w b e) (one-inv g turns w b i e q.0 (no-starts e c.0)) q.1 c.1
      (and_right (not (hits_own p e)) (spares_own p es) u)
      (one-near w.volume w.past w.power b i e q.0 c.0
      (not-true (hits_own p e) (and_left (not (hits_own p e)) (spares_own p es) u)) n)

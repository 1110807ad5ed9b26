-- ME4 (a): while no damage hits a page's backup it stands, whatever cuts come and however many records. An invariant beside history's: the
-- image in the slot that the notes give page p is valid with the noted number, and so is that of an owed backup note of p.
use mathlib.Core.Path.{◌≡◌, refl, ap, subst}
use mathlib.Core.Logic.{◌≢◌}
use mathlib.Core.Bool.{true, false, not, ◌&&◌}
use mathlib.Core.List.{List, [], ◌∷◌, ◌++◌}
use Prim.Native.Nat.{ℕ, suc, ◌+◌, ◌≤◌}
use native.Mathlib.Omega.{arith}
use native.Mathlib.Decide.{ℕ_discrete}
use lib.ListN.{length}
use lib.Dec.{eqb}
use borrow.Author.Tests.{eqb-true, eqb-false, not-true}
use Rattle.laws.proofs.Tables.{by_cases, and_left, and_right}
use Rattle.laws.proofs.Tables.{true-not-false}
use Rattle.laws.proofs.Notes.{note-length}
use Rattle.laws.proofs.WellFormed.{memory-facts, pending-length}
use Rattle.laws.proofs.Ring.{slot-in}
use Rattle.model.specs.Tables.{Row, first_of}
use Rattle.model.specs.Checksum.{seal_image}
use Rattle.model.specs.Geometry.{Place, page_at, slot_at, geometry_of, item, store, width}
use Rattle.model.specs.Geometry.{log_slot, note_slot}
use Rattle.model.specs.Item.{valid_image, note_bytes, is_written}
use Rattle.model.specs.Index.{entry_of}
use Rattle.model.specs.Scan.{index_of}
use Rattle.model.specs.State.{frame_bytes, pending_bytes, holder}
use Rattle.model.specs.Refusals.{page_dirty, begin_rows, load_rows, change_rows, force_rows, write_rows, backup_rows, release_rows, note_rows}
use Rattle.model.specs.Outcome.{StoredItem, Outcome, volume_after, decided}
use Rattle.model.specs.Effects.{appended_state, forced_state, noted_state, note_stored, backup_done, begin_done, change_done, force_done}
use Rattle.model.specs.Effects.{load_done, release_done, write_outcome}
use Rattle.model.specs.Calls.{Call, outcome_of}
use Rattle.model.specs.AbstractLog.{Logged, torn}
use Rattle.model.specs.History.{Power, off, on, left_volume}
use Rattle.model.specs.History.{item_sealed, torn_fits}
use Rattle.model.specs.Carry.{carries}
use Rattle.model.specs.declared.{geometry.Geometry.Geometry, item.Note.Note, state.Entry.Entry, state.State.State}
use Rattle.model.specs.declared.command.Command.TheVariants.{Begin, Load, Force, Write, Release, StartCarry, Restamp, FinishCarry}
use Rattle.model.specs.declared.command.Command.TheVariants.{Change, Backup, Note as NoteCall}
use Rattle.history.proofs.Marks.{mark_at, mark-hit, mark-miss, mark-append, len_n, note_n}
use Rattle.history.proofs.Entries.{slot-spare}
use Rattle.history.proofs.Sections.{volume-sized, store_other}
use Rattle.history.proofs.NoteIndex.{index_is}
use Rattle.history.proofs.Disk.{Holds, Noted, Copy}
use Rattle.history.proofs.Inv.{PendingOk}
use Rattle.history.proofs.Stores.{slot-high, slot_same, slot-other}
use Rattle.history.proofs.RecordStores.{rec-slots}
use Rattle.history.proofs.Images.{write_store, backup-store, sealed-valid, sealed-lsn, sealed-size}
use Rattle.history.proofs.Persists.{writes, backs, note-store}
use Rattle.history.proofs.Forces.{force-store}
use Rattle.history.proofs.Context.{Ctx, geo, sized}
use Rattle.history.proofs.WellFormed.{memory-ok}
use Rattle.model.specs.Types.{PendingNote, None, Some}

-- every slot reads as before
abbrev SlotsSame : Geometry → List ℕ → List ℕ → Type 0
SlotsSame g v v' = (i : ℕ) → 1 ≤ i → i ≤ g.slots → item g v' (slot_at i) ≡ item g v (slot_at i)

module _ (g : Geometry) (p : ℕ) where
  -- the noted backup, by the index that the volume gives
  abbrev pub Kept : List ℕ → Type 0
  Kept v = (entry_of (index_of g v) p).slot ≢ 0 → Copy g v p (entry_of (index_of g v) p).slot (entry_of (index_of g v) p).backup

  -- the owed one
  abbrev pub Owed : List ℕ → PendingNote → Type 0
  Owed v None = Unit {0}
  Owed v (Some n) = is_written n ≡ false → n.page ≡ p → Copy g v p n.slot n.lsn

  abbrev pub OwedIn : List ℕ → Power → Type 0
  OwedIn v off = Unit {0}
  OwedIn v (on m s) = Owed v s.note

module _ (g : Geometry) (p : ℕ) (lo : 1 ≤ p) (hi : p ≤ g.pages) where
  -- the same by the list of notes
  module _ {C : Type 0} (v : List ℕ) (k : List Logged) (h : Holds g v k) (ns : List Note) (o : Noted C g v k ns) where
    pub slot_is : (entry_of (index_of g v) p).slot ≡ (mark_at p ns (length ns)).slot
    slot_is = ap (λ (e : Entry). e.slot) ((index_is g v k h ns o).entry p lo (omega (arith, (volume-sized g v h.vol).p-high)))

    number : (entry_of (index_of g v) p).backup ≡ (mark_at p ns (length ns)).backup
    number = ap (λ (e : Entry). e.backup) ((index_is g v k h ns o).entry p lo (omega (arith, (volume-sized g v h.vol).p-high)))

    pub to-mark : Kept g p v → (mark_at p ns (length ns)).slot ≢ 0
        → Copy g v p (mark_at p ns (length ns)).slot (mark_at p ns (length ns)).backup
    to-mark f = rw (slot_is, number) at f

    pub from-mark : ((mark_at p ns (length ns)).slot ≢ 0 → Copy g v p (mark_at p ns (length ns)).slot (mark_at p ns (length ns)).backup)
        → Kept g p v
    from-mark f = rw (slot_is, number) f

  -- a store elsewhere
  pub kept_same : {C : Type 0} (v v' : List ℕ) (k k' : List Logged) (ns : List Note) (h : Holds g v k) (o : Noted C g v k ns)
      → Holds g v' k' → Noted C g v' k' ns → SlotsSame g v v' → Kept g p v → Kept g p v'
  kept_same v v' k k' ns h o h' o' e f = from-mark v' k' h' ns o' (λ z.
      rw (e (mark_at p ns (length ns)).slot (omega arith) (slot-high g v k h ns o p)) (to-mark v k h ns o f z))

  -- a store in a slot that is not p's
  pub kept-apart : {C : Type 0} (v : List ℕ) (k : List Logged) (ns : List Note) (h : Holds g v k) (o : Noted C g v k ns)
      → (b : ℕ) (xs : List ℕ) → 1 ≤ b → b ≤ g.slots → length xs ≡ 256
      → Holds g (store g v (slot_at b) xs) k → Noted C g (store g v (slot_at b) xs) k ns
      → (mark_at p ns (length ns)).slot ≢ b → Kept g p v → Kept g p (store g v (slot_at b) xs)
  kept-apart v k ns h o b xs bl bh five h' o' ne f = from-mark (store g v (slot_at b) xs) k h' ns o' (λ z.
      rw (slot-other g v k h ns o b xs bl bh five (slot_at (mark_at p ns (length ns)).slot) (omega (arith, slot-high g v k h ns o p)) (omega arith))
      (to-mark v k h ns o f z))

  module _ {C : Type 0} {v m : List ℕ} {past : List StoredItem} {s : State} {k w : List Logged} (x : Ctx C g v m past s k w) where
    -- an owed note keeps its slot
    owed_same : (v' : List ℕ) → SlotsSame g v v' → (y : PendingNote) → PendingOk C g v k x.ns y → Owed g p v y → Owed g p v' y
    owed_same v' e None t f = tt
    owed_same v' e (Some n) t f = λ z q. let b = t.0.backed z in rw (e n.slot b.low b.high) (f z q)

    same : (v' : List ℕ) (k' : List Logged) → Holds g v' k' → Noted C g v' k' x.ns → SlotsSame g v v' → Kept g p v → Kept g p v'
    same v' k' h' o' e f = kept_same v v' k k' x.ns x.hs x.no h' o' e f

    -- one more note
    new-note : (n : Note) → PendingOk C g v k x.ns (Some n) → (v' : List ℕ) → Holds g v' k → Noted C g v' k (x.ns ++ (n ∷ []))
        → SlotsSame g v v' → Kept g p v → Owed g p v (Some n) → Kept g p v'
    new-note n t v' h' o' e f u =
        let ns = x.ns in
        from-mark v' k h' (ns ++ (n ∷ [])) o' (rw (len_n ns n) (elim (ℕ_discrete n.page p) [
          | yes y ↦
              rw (mark-hit p (ns ++ (n ∷ [])) (length ns) (rw (note_n ns n) y), note_n ns n, mark-append p ns (n ∷ []) (length ns) (omega arith))
              (by_cases (is_written n)
              (λ q. rw q (λ z. rw (e (mark_at p ns (length ns)).slot (omega arith) (slot-high g v k x.hs ns x.no p))
              (to-mark v k x.hs ns x.no f z)))
              (λ q. rw q (λ z. let b = t.0.backed q in rw (e n.slot b.low b.high) (u q y))))
          | no y ↦ rw (mark-miss p (ns ++ (n ∷ [])) (length ns) (rw (note_n ns n) y), mark-append p ns (n ∷ []) (length ns) (omega arith))
              (λ z. rw (e (mark_at p ns (length ns)).slot (omega arith) (slot-high g v k x.hs ns x.no p))
              (to-mark v k x.hs ns x.no f z))
        ]))

    -- p's own backup note: its slot holds the copy, whatever the one before it held
    pub new-backup : (n : Note) → PendingOk C g v k x.ns (Some n) → is_written n ≡ false → n.page ≡ p
        → Copy g v p n.slot n.lsn → (v' : List ℕ) → Holds g v' k → Noted C g v' k (x.ns ++ (n ∷ []))
        → SlotsSame g v v' → Kept g p v'
    new-backup n t q y u v' h' o' e =
        let ns = x.ns in
        from-mark v' k h' (ns ++ (n ∷ [])) o' (rw (len_n ns n)
        (rw (mark-hit p (ns ++ (n ∷ [])) (length ns) (rw (note_n ns n) y), note_n ns n, mark-append p ns (n ∷ []) (length ns) (omega arith))
        (rw q (λ z. let b = t.0.backed q in rw (e n.slot b.low b.high) u))))

    -- ---- a call

    abbrev After : Outcome → Type 0
    After o = Kept g p (volume_after v o.stored) × Owed g p (volume_after v o.stored) o.state.note

    by-table : (rows : List Row) (done : Outcome) → Kept g p v → Owed g p v s.note → (first_of rows ≡ 0 → After done)
        → After (decided rows m s done)
    unfolding volume_after decided
    by-table rows done f u h = by_cases (eqb (first_of rows) 0) (λ e. rw e (h (eqb-true (first_of rows) 0 e))) (λ e. rw e (f, u))

    record-slots : (xs : List ℕ) → length xs ≡ 64 → SlotsSame g v (store g v (log_slot g (s.durable + 1)) xs)
    record-slots xs six =
        let n : s.durable + 1 ≡ suc (length k) = omega (arith, x.al.log.durable-is) in
        rw n (rec-slots g v k x.hs x.ns x.no xs six)

    pub note-slots : (xs : List ℕ) → length xs ≡ 16 → 1 ≤ g.notes → SlotsSame g v (store g v (note_slot g (s.notes + 1)) xs)
    note-slots xs six one i a b =
        let n : s.notes + 1 ≡ suc (length x.ns) = omega (arith, x.al.notes-is) in
        let q = slot-in g.notes (length x.ns) one in
        rw n (store_other g v x.hs.vol (note_slot g (suc (length x.ns))) xs q six (slot_at i) (a, b) (omega (arith, q.0)))

    force-after : (w' : List Logged) → w ≡ w' → eqb s.pending 0 ≡ false → Kept g p v → Owed g p v s.note
        → Kept g p (store g v (log_slot g (s.durable + 1)) (pending_bytes m (s.durable + 1)))
        × Owed g p (store g v (log_slot g (s.durable + 1)) (pending_bytes m (s.durable + 1))) s.note
    force-after [] e nz f u = absurd (eqb-false s.pending 0 nz (omega (arith, x.al.log.pending-is, ap length e)))
    force-after (c ∷ r) e nz f u =
        let st = force-store x c r e in
        let six : length (pending_bytes m (s.durable + 1)) ≡ 64 =
        pending-length m (memory-facts m (memory-ok x)) (s.durable + 1) in
        let sl = record-slots (pending_bytes m (s.durable + 1)) six in
        (same _ (k ++ (c ∷ [])) st.holds' st.noted' sl f, owed_same _ sl s.note x.al.note-ok u)

    note-after : (y : PendingNote) → s.note ≡ y → PendingOk C g v k x.ns y → Kept g p v → Owed g p v s.note
        → After (note_stored v m s y)
    unfolding volume_after noted_state
    note-after None e t f u = (f, u)
    note-after (Some n) e t f u =
        let st = note-store x n t in
        rw (geo x) (new-note n t _ st.holds' st.noted' (note-slots (note_bytes n) (note-length n) t.3.0) f (rw e at u), tt)

    pub call-safe : (c : Call) → carries c ≡ false → Kept g p v → Owed g p v s.note → After (outcome_of c v m s)
    unfolding decided begin_done load_done change_done force_done write_outcome backup_done release_done volume_after appended_state forced_state
    call-safe (Begin q r fill, _) o f u = by-table (begin_rows v m s q r) _ f u (λ e. (f, u))
    call-safe (Load q r, _) o f u = by-table (load_rows v m s q r) _ f u (λ e. (f, u))
    call-safe (Change q c, payload) o f u = by-table (change_rows v m s q c) _ f u (λ e. (f, u))
    call-safe (Force, _) o f u = by-table (force_rows v m s) _ f u (λ e. by_cases (eqb s.pending 0) (λ t. rw t (f, u))
        (λ t. rw (t, geo x) (force-after w refl t f u)))
    call-safe (Write q, _) o f u = by-table (write_rows v m s q) _ f u (λ e. by_cases (page_dirty s q)
        (λ d. let y = writes x q e in let fo = y.frame-of in let rd = y.ready d in
        let st = write_store x q fo rd.2 in
        rw (d, geo x) (
          same _ k st.holds' st.noted'
              (λ i a b. store_other g v x.hs.vol (page_at q) (seal_image g (frame_bytes m (holder s q))) (fo.framed.low, fo.framed.high)
              (sealed-size x q fo rd.2) (slot_at i) (a, b) (omega (arith, fo.framed.low, fo.framed.high))) f,
          (λ z. absurd (true-not-false refl z)),
        ))
        (λ d. rw d (f, u)))
    call-safe (Backup q b, _) o f u = by-table (backup_rows v m s q b) _ f u (λ e.
        let y = backs x q b e in let fo = y.frame-of in
        let st = backup-store x q fo y.forced-to b y.slot-low y.slot-high y.spare in
        let five = sealed-size x q fo y.forced-to in
        rw (geo x) (
          kept-apart v k x.ns x.hs x.no b _ y.slot-low y.slot-high five st.holds' st.noted'
              (slot-spare s.index x.all (length x.all) (length k) x.ns (length x.ns) x.al.index b y.spare p lo
              (omega (arith, hi, (sized x).p-high))) f,
          (λ z q'.
              rw (slot_same g v k x.hs x.ns x.no b (seal_image g (frame_bytes m (holder s q))) y.slot-low y.slot-high five) (
                subst (λ (n : ℕ). valid_image g n (seal_image g (frame_bytes m (holder s q))) ≡ true) q' (sealed-valid x q fo y.forced-to),
                sealed-lsn x q fo y.forced-to,
              )),
        ))
    call-safe (Release q, _) o f u = by-table (release_rows v m s q) _ f u (λ e. (f, u))
    call-safe (NoteCall, _) o f u = by-table (note_rows v m s) (note_stored v m s s.note) f u
        (λ e. note-after s.note refl x.al.note-ok f u)
    call-safe (StartCarry, _) o f u = absurd (true-not-false refl o)
    call-safe (Restamp, _) o f u = absurd (true-not-false refl o)
    call-safe (FinishCarry, _) o f u = absurd (true-not-false refl o)

    -- ---- a cut that leaves the item torn

    abbrev TornAt : StoredItem → List ℕ → Type 0
    TornAt i xs = Kept g p (left_volume v i (torn xs))

    by_rows : (rows : List Row) (done : Outcome) (xs : List ℕ) → Kept g p v
        → torn_fits (geometry_of v) (decided rows m s done).stored (torn xs) ≡ true
        → (first_of rows ≡ 0 → torn_fits (geometry_of v) done.stored (torn xs) ≡ true → TornAt done.stored xs)
        → TornAt (decided rows m s done).stored xs
    unfolding decided
    by_rows rows done xs f t h =
        by_cases (eqb (first_of rows) 0) (λ e. rw e (h (eqb-true (first_of rows) 0 e) (rw e at t))) (λ e. rw e f)

    size_of : (at : Place) (xs : List ℕ) → (eqb (length xs) (width at) && not (item_sealed g at xs)) ≡ true
        → (length xs ≡ width at) × (item_sealed g at xs ≡ false)
    size_of at xs f = (
      eqb-true (length xs) (width at) (and_left (eqb (length xs) (width at)) (not (item_sealed g at xs)) f),
      not-true (item_sealed g at xs) (and_right (eqb (length xs) (width at)) (not (item_sealed g at xs)) f),
    )

    torn-record : (w' : List Logged) → w ≡ w' → eqb s.pending 0 ≡ false → (xs : List ℕ) → length xs ≡ 64
        → item_sealed g (log_slot g (s.durable + 1)) xs ≡ false → Kept g p v → Kept g p (store g v (log_slot g (s.durable + 1)) xs)
    torn-record [] e nz xs size bad f = absurd (eqb-false s.pending 0 nz (omega (arith, x.al.log.pending-is, ap length e)))
    torn-record (c ∷ r) e nz xs size bad f =
        let st = (force-store x c r e).torn' xs bad size in same _ k st.0 st.1 (record-slots xs size) f

    torn-note : (y : PendingNote) → PendingOk C g v k x.ns y → (xs : List ℕ) → Kept g p v
        → torn_fits (geometry_of v) (note_stored v m s y).stored (torn xs) ≡ true → TornAt (note_stored v m s y).stored xs
    unfolding volume_after
    torn-note None t xs f a = f
    torn-note (Some n) t xs f a =
        let z = size_of (note_slot g (s.notes + 1)) xs a in
        let st = (note-store x n t).torn' xs z.1 z.0 in
        rw (geo x) (same _ k st.0 st.1 (note-slots xs z.0 t.3.0) f)

    pub torn-safe : (c : Call) → carries c ≡ false → (xs : List ℕ) → Kept g p v
        → torn_fits (geometry_of v) (outcome_of c v m s).stored (torn xs) ≡ true → TornAt (outcome_of c v m s).stored xs
    unfolding decided begin_done load_done change_done force_done write_outcome backup_done release_done volume_after
    torn-safe (Begin q r fill, _) o xs f a = by_rows (begin_rows v m s q r) _ xs f a (λ e y. f)
    torn-safe (Load q r, _) o xs f a = by_rows (load_rows v m s q r) _ xs f a (λ e y. f)
    torn-safe (Change q c, payload) o xs f a = by_rows (change_rows v m s q c) _ xs f a (λ e y. f)
    torn-safe (Force, _) o xs f a = by_rows (force_rows v m s) _ xs f a (λ e y. by_cases (eqb s.pending 0) (λ t. rw t f)
        (λ t. let z = size_of (log_slot g (s.durable + 1)) xs (rw t at y) in
        rw (t, geo x) (torn-record w refl t xs z.0 z.1 f)))
    torn-safe (Write q, _) o xs f a = by_rows (write_rows v m s q) _ xs f a (λ e y. by_cases (page_dirty s q)
        (λ d. let z = size_of (page_at q) xs (rw (d, geo x) at y) in
        let wr = writes x q e in let fo = wr.frame-of in
        let st = (write_store x q fo (wr.ready d).2).torn' xs z.1 z.0 in
        rw (d, geo x) (same _ k st.0 st.1
        (λ i a b. store_other g v x.hs.vol (page_at q) xs (fo.framed.low, fo.framed.high)
        z.0 (slot_at i) (a, b) (omega (arith, fo.framed.low, fo.framed.high))) f))
        (λ d. rw d f))
    torn-safe (Backup q b, _) o xs f a = by_rows (backup_rows v m s q b) _ xs f a (λ e y.
        let z = size_of (slot_at b) xs (rw (geo x) at y) in
        let bk = backs x q b e in
        let st = (backup-store x q bk.frame-of bk.forced-to b bk.slot-low bk.slot-high bk.spare).torn' xs z.1 z.0 in
        rw (geo x) (kept-apart v k x.ns x.hs x.no b xs bk.slot-low bk.slot-high z.0 st.0 st.1
        (slot-spare s.index x.all (length x.all) (length k) x.ns (length x.ns) x.al.index b bk.spare p lo
        (omega (arith, hi, (sized x).p-high))) f))
    torn-safe (Release q, _) o xs f a = by_rows (release_rows v m s q) _ xs f a (λ e y. f)
    torn-safe (NoteCall, _) o xs f a = by_rows (note_rows v m s) (note_stored v m s s.note) xs f a
        (λ e y. torn-note s.note x.al.note-ok xs f y)
    torn-safe (StartCarry, _) o xs f a = absurd (true-not-false refl o)
    torn-safe (Restamp, _) o xs f a = absurd (true-not-false refl o)
    torn-safe (FinishCarry, _) o xs f a = absurd (true-not-false refl o)

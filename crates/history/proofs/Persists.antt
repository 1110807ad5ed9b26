-- Write, Backup and Note keep the invariant.
use mathlib.Core.Path.{◌≡◌, refl}
use mathlib.Core.Bool.{true, false, cond}
use mathlib.Core.List.{List, [], ◌∷◌, ◌++◌}
use Prim.Native.Nat.{ℕ, suc, ◌+◌, ◌-◌, ◌≤◌}
use native.Mathlib.Omega.{arith}
use lib.ListN.{length}
use borrow.Author.Tests.{ltb-false}
use Rattle.laws.proofs.Tables.{by_cases, true-not-false}
use Rattle.laws.proofs.Notes.{note-length}
use Rattle.laws.proofs.Ring.{displaced-keep}
use Rattle.model.specs.Tables.{first_of}
use Rattle.model.specs.Checksum.{seal_image}
use Rattle.model.specs.Geometry.{page_at, slot_at, note_slot, geometry_of, store}
use Rattle.model.specs.Item.{image_lsn, note_bytes}
use Rattle.model.specs.Index.{slot_used}
use Rattle.model.specs.State.{frame_bytes, holder, note_pending, notes_full}
use Rattle.model.specs.Refusals.{page_dirty, write_rows, backup_rows}
use Rattle.model.specs.Outcome.{StoredItem, one_item, Outcome, volume_after, unchanged}
use Rattle.model.specs.Effects.{with_frame, with_frames, next_note, noted_state, note_stored}
use Rattle.model.specs.AbstractLog.{Logged}
use Rattle.model.specs.History.{on}
use Rattle.model.specs.declared.{geometry.Geometry.Geometry, item.Note.Note}
use Rattle.model.specs.declared.state.State.{State}
use Rattle.model.specs.declared.answer.Answer.TheVariants.{Done, Nothing}
use Rattle.history.proofs.Marks.{len_n}
use Rattle.history.proofs.Disk.{Spare}
use Rattle.history.proofs.Asked.{notes-room, notes-asked}
use Rattle.history.proofs.Inv.{past-cons, PendingOk, image-fine, Inv}
use Rattle.history.proofs.Stores.{slot_same}
use Rattle.history.proofs.NoteStores.{note-holds, note-noted, note-torn, spare-rises}
use Rattle.history.proofs.LogSteps.{index-note}
use Rattle.history.proofs.FrameSteps.{frames-clean}
use Rattle.history.proofs.Context.{Ctx, Preserved, passed, in-range, sized, geo, Found, found-frame, keep_same}
use Rattle.history.proofs.Images.{StoreOk, sealed-size, sealed-valid, sealed-lsn, image-is, write-note}
use Rattle.history.proofs.Images.{backup-note, write_store, backup-store}
use Rattle.model.specs.Types.{PendingNote, None, Some}

no_note : (n : PendingNote) → note_pending n ≡ false → n ≡ None
no_note None e = refl
no_note (Some y) e = absurd (true-not-false refl e)

module _ {C : Type 0} {g : Geometry} {v m : List ℕ} {past : List StoredItem} {s : State} {k w : List Logged}
    (x : Ctx C g v m past s k w) where
  -- ---- Write

  -- what a write that is not refused has been asked
  pub record Writes (p : ℕ) : Type 0 where
    pub frame-of : Found x p
    pub ready : page_dirty s p ≡ true → (s.note ≡ None) × (notes_full g v s ≡ false) × (image_lsn (frame_bytes m (holder s p)) ≤ s.durable)

  pub writes : (p : ℕ) → first_of (write_rows v m s p) ≡ 0 → Writes p
  unfolding write_rows
  writes p e =
      let t = passed (write_rows v m s p) (omega arith) e in
      let q : (1 ≤ p) × (p ≤ g.pages) = rw (geo x) at (in-range (geometry_of v).pages p t.1.1.1.0) in
      record {
        frame-of = found-frame x p q.0 t.1.1.1.1.0;
        ready = λ d. (
          no_note s.note (rw d at t.1.1.1.1.1.0),
          rw (d, geo x) at t.1.1.1.1.1.1.0,
          ltb-false s.durable (image_lsn (frame_bytes m (holder s p))) (rw d at t.1.1.1.1.1.1.1.0),
        );
      }

  abbrev pub written : ℕ → Outcome
  written p =
      cond (page_dirty s p)
      (record {
        answer = Done;
        state = with_frames s (with_frame s (holder s p) p false) (next_note s p 1 0 (image_lsn (frame_bytes m (holder s p))));
        memory = m;
        stored = one_item (page_at p) (seal_image (geometry_of v) (frame_bytes m (holder s p)));
      })
      (unchanged Nothing m s)

  pub keep-write : (p : ℕ) → Writes p → Preserved C g v past (written p) (record { durable = k; pending = w })
  unfolding volume_after
  keep-write p f = by_cases (page_dirty s p) (λ d. rw (d, geo x) (go d)) (λ d. rw d (keep_same x Nothing))
    where
      go : page_dirty s p ≡ true → Inv C g (store g v (page_at p) (seal_image g (frame_bytes m (holder s p))))
          (one_item (page_at p) (seal_image g (frame_bytes m (holder s p))) ∷ past)
          (on m (with_frames s (with_frame s (holder s p) p false) (next_note s p 1 0 (image_lsn (frame_bytes m (holder s p))))))
          (record { durable = k; pending = w })
      go d =
          let q = f.ready d in
          let fo = f.frame-of in
          let st = write_store x p fo q.2 in
          let row : holder s p - 1 ≡ fo.row = omega (arith, fo.holder-is) in
          record {
            ns = x.ns;
            holds = st.holds';
            noted = st.noted';
            past-ok = st.past';
            live = (
              x.all,
              record {
                F = x.al.F;
                memory = x.al.memory;
                log = x.al.log;
                frames = rw (row, ← fo.page-is) (frames-clean g.pages x.al.F x.all (length k) s.frames m x.al.frames
                    x.al.memory.high fo.row fo.in_table);
                index = x.al.index;
                displaced = x.al.displaced;
                notes-is = x.al.notes-is;
                note-ok = (
                  write-note x p fo q.2,
                  notes-room x q.1,
                  (λ z. absurd (true-not-false refl z)),
                  notes-asked x q.1,
                  (λ c z. absurd (true-not-false refl z)),
                );
              },
            );
          }

  -- ---- Backup

  pub record Backs (p b : ℕ) : Type 0 where
    pub slot-low : 1 ≤ b
    pub slot-high : b ≤ g.slots
    pub frame-of : Found x p
    pub few : notes_full g v s ≡ false
    pub forced-to : image_lsn (frame_bytes m (holder s p)) ≤ s.durable
    pub spare : slot_used b s.index ≡ false

  pub backs : (p b : ℕ) → first_of (backup_rows v m s p b) ≡ 0 → Backs p b
  unfolding backup_rows
  backs p b e =
      let t = passed (backup_rows v m s p b) (omega arith) e in
      let q : (1 ≤ p) × (p ≤ g.pages) = rw (geo x) at (in-range (geometry_of v).pages p t.1.1.1.0) in
      let u : (1 ≤ b) × (b ≤ g.slots) = rw (geo x) at (in-range (geometry_of v).slots b t.1.1.1.1.0) in
      record {
        slot-low = u.0;
        slot-high = u.1;
        frame-of = found-frame x p q.0 t.1.1.1.1.1.0;
        few = rw (geo x) at t.1.1.1.1.1.1.1.0;
        forced-to = ltb-false s.durable (image_lsn (frame_bytes m (holder s p))) t.1.1.1.1.1.1.1.1.0;
        spare = t.1.1.1.1.1.1.1.1.1.0;
      }

  pub keep-backup : (p b : ℕ) → Backs p b
      → Preserved C g v past (record {
        answer = Done;
        state = with_frames s s.frames (next_note s p 2 b (image_lsn (frame_bytes m (holder s p))));
        memory = m;
        stored = one_item (slot_at b) (seal_image (geometry_of v) (frame_bytes m (holder s p)));
      }) (record { durable = k; pending = w })
  unfolding volume_after
  keep-backup p b f =
      let fo = f.frame-of in
      let st = backup-store x p fo f.forced-to b f.slot-low f.slot-high f.spare in
      rw (geo x) (record {
        ns = x.ns;
        holds = st.holds';
        noted = st.noted';
        past-ok = st.past';
        live = (
          x.all,
          record {
            F = x.al.F;
            memory = x.al.memory;
            log = x.al.log;
            frames = x.al.frames;
            index = x.al.index;
            displaced = x.al.displaced;
            notes-is = x.al.notes-is;
            note-ok = (
              backup-note x p fo f.forced-to b f.slot-low f.slot-high f.spare,
              notes-room x f.few,
              (λ z. rw (slot_same g v k x.hs x.ns x.no b (seal_image g (frame_bytes m (holder s p))) f.slot-low f.slot-high
                  (sealed-size x p fo f.forced-to))
                  (image-fine g k (seal_image g (frame_bytes m (holder s p))) (image-is x p fo f.forced-to) p)),
              notes-asked x f.few,
              (λ c z. rw (slot_same g v k x.hs x.ns x.no b (seal_image g (frame_bytes m (holder s p))) f.slot-low f.slot-high
                  (sealed-size x p fo f.forced-to))
                  (sealed-valid x p fo f.forced-to, sealed-lsn x p fo f.forced-to)),
            );
          },
        );
      })

  -- ---- Note

  pub note-store : (y : Note) → PendingOk C g v k x.ns (Some y)
      → StoreOk C g v past k x.ns (note_slot g (s.notes + 1)) (note_bytes y) k (x.ns ++ (y ∷ []))
  note-store y t =
      let e : s.notes + 1 ≡ suc (length x.ns) = omega (arith, x.al.notes-is) in
      rw e (record {
        holds' = note-holds g v k x.hs x.ns x.no (note_bytes y) t.3 (note-length y);
        noted' = note-noted g v k x.hs x.ns x.no y t.0 t.1 t.3 t.2 t.4;
        past' = past-cons g k past (one_item (note_slot g (suc (length x.ns))) (note_bytes y))
            (λ z. absurd (true-not-false z refl)) x.ps;
        torn' = λ ys f n. (
          note-holds g v k x.hs x.ns x.no ys t.3 n,
          note-torn g v k x.hs x.ns x.no ys t.3 n f t.1,
        );
      })

  pub keep-note : (y : PendingNote) → PendingOk C g v k x.ns y
      → Preserved C g v past (note_stored v m s y) (record { durable = k; pending = w })
  unfolding volume_after noted_state
  keep-note None t = keep_same x Nothing
  keep-note (Some y) t =
      let st = note-store y t in
      rw (geo x) (record {
        ns = x.ns ++ (y ∷ []);
        holds = st.holds';
        noted = st.noted';
        past-ok = st.past';
        live = (
          x.all,
          record {
            F = x.al.F;
            memory = x.al.memory;
            log = x.al.log;
            frames = x.al.frames;
            index = index-note s.index x.all (length k) x.ns x.al.index y t.0.low
                (omega (arith, t.0.high, (sized x).p-high));
            displaced = displaced-keep g.records (length k) (length x.all) (Spare k x.ns) (Spare k (x.ns ++ (y ∷ [])))
                (λ i b z. spare-rises g v k x.hs x.ns x.no y t.0 k i z)
                (length k) (omega arith) x.al.displaced;
            notes-is = rw (len_n x.ns y) (omega (arith, x.al.notes-is));
            note-ok = tt;
          },
        );
      })

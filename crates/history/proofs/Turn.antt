-- A heading stored where there is no ring: the invariant holds under the new tag, if the images that the store relies on are valid as
-- before.
use mathlib.Core.Path.{◌≡◌, sym, ap, ◌∙◌, subst}
use mathlib.Core.Logic.{◌≢◌, ◌⊎◌}
use mathlib.Core.Bool.{Bool, true, false}
use mathlib.Core.List.{List, ◌∷◌}
use Prim.Native.Nat.{ℕ, suc, ◌≤◌}
use native.Mathlib.Omega.{arith}
use lib.ListN.{length}
use Rattle.laws.proofs.Places.{In}
use Rattle.laws.proofs.Headings.{item-tag, item-heading, geometry-heading, valid-heading}
use Rattle.laws.proofs.FormedTags.{most-rises, notes-rise}
use Rattle.laws.proofs.Ring.{slot-in, Run, run-keep, run-plain}
use Rattle.model.specs.Geometry.{tag_of, carry_tag, with_tag, Place, page_at, slot_at, record_at, note_at, item, store_heading}
use Rattle.model.specs.Geometry.{ring, most, most_notes, slot_of, log_slot, note_slot}
use Rattle.model.specs.Item.{valid_image, is_written}
use Rattle.model.specs.Passes.{is_image}
use Rattle.model.specs.Outcome.{StoredItem, new_heading}
use Rattle.model.specs.AbstractLog.{Logged}
use Rattle.model.specs.declared.{geometry.Geometry.Geometry, geometry.Heading.TheVariants.Second, item.Note.Note}
use Rattle.model.specs.declared.{state.State.State}
use Rattle.history.proofs.Marks.{mark_at, mark-ok, Later}
use Rattle.history.proofs.Records.{Faithful}
use Rattle.history.proofs.Sections.{Volume, Sized, volume-sized, Tail}
use Rattle.history.proofs.Disk.{Holds, Noted, Copy, Stands, Torn, Spare, NoteStands, NoteTorn, LogRun, NoteRun}
use Rattle.history.proofs.Inv.{Image, Past, past-cons, PendingOk, Alive}
use Rattle.model.specs.Types.{PendingNote, None, Some}

-- the images that the store relies on are valid under the new tag as they were
pub record SameImages (g : Geometry) (tag : ℕ) (v : List ℕ) (ns : List Note) : Type 0 where
  pub own : (p : ℕ) → 1 ≤ p → p ≤ g.pages → valid_image (with_tag g tag) p (item g v (page_at p)) ≡ valid_image g p (item g v (page_at p))
  pub copy : (p : ℕ) → 1 ≤ p → p ≤ g.pages → (mark_at p ns (length ns)).slot ≢ 0
      → valid_image (with_tag g tag) p (item g v (slot_at (mark_at p ns (length ns)).slot))
      ≡ valid_image g p (item g v (slot_at (mark_at p ns (length ns)).slot))

-- and so is the one of a pending backup note
abbrev pub SamePending : Geometry → ℕ → List ℕ → PendingNote → Type 0
SamePending g tag v None = Unit {0}
SamePending g tag v (Some y) = is_written y ≡ false
    → valid_image (with_tag g tag) y.page (item g v (slot_at y.slot)) ≡ valid_image g y.page (item g v (slot_at y.slot))

module _ {C : Type 0} (g : Geometry) (v : List ℕ) (k : List Logged) (h : Holds g v k) (ns : List Note) (o : Noted C g v k ns) (tag : ℕ)
    (plain : ring g ≡ false) (known : (tag ≡ carry_tag) ⊎ (tag ≡ tag_of Second)) (same : SameImages g tag v ns) where
  abbrev g' : Geometry
  g' = with_tag g tag

  abbrev v' : List ℕ
  v' = store_heading v tag

  sz : Sized g
  sz = volume-sized g v h.vol

  turn-volume : Volume (with_tag g tag) (store_heading v tag)
  turn-volume =
      record {
        geo = geometry-heading v h.vol.ok tag ∙ ap (λ (y : Geometry). with_tag y tag) h.vol.geo;
        ok = valid-heading v h.vol.ok tag known;
      }

  pub turn-item : (at : Place) → In g at → item (with_tag g tag) (store_heading v tag) at ≡ item g v at
  turn-item at i = item-tag g tag v' at ∙ item-heading v h.vol.ok tag g at i

  more_room : most g ≤ most (with_tag g tag)
  more_room = most-rises g plain sz.l-high sz.n-high tag

  more-notes : most_notes g ≤ most_notes (with_tag g tag)
  more-notes = notes-rise g plain sz.l-high sz.n-high tag

  -- an image that is valid now was
  turn-faithful : (p : ℕ) (at : Place) → In g at → valid_image (with_tag g tag) p (item g v at) ≡ valid_image g p (item g v at)
      → Faithful g p k (item g v at)
      → Faithful (with_tag g tag) p k (item (with_tag g tag) (store_heading v tag) at)
  turn-faithful p at i e f = rw (turn-item at i) (λ t. f (sym e ∙ t))

  turn-copy : (p slot n : ℕ) → In g (slot_at slot)
      → valid_image (with_tag g tag) p (item g v (slot_at slot)) ≡ valid_image g p (item g v (slot_at slot)) → Copy g v p slot n
      → Copy (with_tag g tag) (store_heading v tag) p slot n
  turn-copy p slot n i e f = rw (turn-item (slot_at slot) i) (e ∙ f.0, f.1)

  slot-high : (p : ℕ) → (mark_at p ns (length ns)).slot ≤ g.slots
  slot-high p = (mark-ok g.pages g.slots k ns o.fit p (length ns) (omega arith)).slots

  turn-tail : (place : ℕ → Place) (c n N : ℕ) → ((i : ℕ) → 1 ≤ i → i ≤ N → In g (place i)) → Tail g v place c n N
      → Tail (with_tag g tag) (store_heading v tag) place c n N
  turn-tail place c n N inside t =
      record {
        gap = λ b. rw (turn-item (place (suc n)) (inside (suc n) (omega arith) b)) (t.gap b);
        rest = λ i a b. rw (turn-item (place i) (inside i (omega arith) b)) (t.rest i a b);
      }

  pub turn_holds : Holds (with_tag g tag) (store_heading v tag) k
  turn_holds =
      record {
        vol = turn-volume;
        room = omega (arith, h.room, more_room);
        fair = h.fair;
        tail = turn-tail record_at 60 (length k) g.records (λ i a b. (a, b)) h.tail;
        images = λ p lo hi. turn-faithful p (page_at p) (lo, hi) (same.own p lo hi) (h.images p lo hi);
      }

  log-same : (i : ℕ) → item (with_tag g tag) (store_heading v tag) (log_slot g (suc i)) ≡ item g v (log_slot g (suc i))
  log-same i = let q = slot-in g.records i sz.l-low in turn-item (record_at (slot_of g.records (suc i))) (q.0, q.1)

  note-same : (i : ℕ) → 1 ≤ g.notes → item (with_tag g tag) (store_heading v tag) (note_slot g (suc i)) ≡ item g v (note_slot g (suc i))
  note-same i low = let q = slot-in g.notes i low in turn-item (note_at (slot_of g.notes (suc i))) (q.0, q.1)

  turn-run : LogRun (with_tag g tag) (store_heading v tag) k ns
  turn-run =
      run-plain (ring g') g.records (length k) (Stands g' v' k) (Torn g' v') (Spare k ns)
      (run-keep false g.records (length k) (Stands g v k) (Torn g v) (Spare k ns) (Stands g' v' k) (Torn g' v') (Spare k ns) (λ i a s. s)
      (subst (λ (r : Bool). Run r g.records (length k) (Stands g v k) (Torn g v) (Spare k ns)) plain o.run)
      (λ i a b w. log-same i ∙ w) (λ i a b t. rw (log-same i) t))

  turn-notes : NoteRun (with_tag g tag) (store_heading v tag) ns
  turn-notes =
      run-plain (ring g') g.notes (length ns) (NoteStands g' v' ns) (NoteTorn g' v') (Later ns)
      (run-keep false g.notes (length ns) (NoteStands g v ns) (NoteTorn g v) (Later ns) (NoteStands g' v' ns)
      (NoteTorn g' v') (Later ns) (λ i a s. s)
      (subst (λ (r : Bool). Run r g.notes (length ns) (NoteStands g v ns) (NoteTorn g v) (Later ns)) plain o.notes)
      (λ i a b w. note-same i (omega arith) ∙ w) (λ i a b t. rw (note-same i (omega arith)) t))

  pub turn-noted : Noted C (with_tag g tag) (store_heading v tag) k ns
  turn-noted =
      record {
        few = omega (arith, o.few, more-notes);
        run = turn-run;
        notes = turn-notes;
        tail = turn-tail note_at 12 (length ns) g.notes (λ i a b. (a, b)) o.tail;
        fit = o.fit;
        backups = λ p lo hi z. turn-faithful p (slot_at (mark_at p ns (length ns)).slot) (omega arith, slot-high p)
            (same.copy p lo hi z) (o.backups p lo hi z);
        copies = λ c p lo hi z. turn-copy p (mark_at p ns (length ns)).slot (mark_at p ns (length ns)).backup (omega arith, slot-high p)
            (same.copy p lo hi z) (o.copies c p lo hi z);
      }

  turn-pending : (y : PendingNote) → SamePending g tag v y → PendingOk C g v k ns y
      → PendingOk C (with_tag g tag) (store_heading v tag) k ns y
  turn-pending None e t = tt
  turn-pending (Some y) e t = (
    t.0,
    omega (arith, t.1, more-notes),
    (λ z. let bk = t.0.backed z in turn-faithful y.page (slot_at y.slot) (bk.low, bk.high) (e z) (t.2 z)),
    t.3,
    (λ c z. let bk = t.0.backed z in turn-copy y.page y.slot y.lsn (bk.low, bk.high) (e z) (t.4 c z)),
  )

  pub turn-alive : (m : List ℕ) (s : State) (w all : List Logged) → SamePending g tag v s.note → Alive C g v m s k w all ns
      → Alive C (with_tag g tag) (store_heading v tag) m s k w all ns
  turn-alive m s w all e a =
      record {
        F = a.F;
        memory = a.memory;
        log = record {
          split = a.log.split;
          durable-is = a.log.durable-is;
          pending-is = a.log.pending-is;
          room = omega (arith, a.log.room, more_room);
          fair = a.log.fair;
          few = a.log.few;
          pends = a.log.pends;
        };
        frames = a.frames;
        index = a.index;
        displaced = a.displaced;
        notes-is = a.notes-is;
        note-ok = turn-pending s.note e a.note-ok;
      }

-- what calls stored does not depend on the tag
pub turn-past : (g : Geometry) (k : List Logged) (past : List StoredItem) (tag : ℕ) → Past g k past
    → Past (with_tag g tag) k (new_heading tag ∷ past)
turn-past g k past tag f = past-cons (with_tag g tag) k past (new_heading tag) tt (λ at xs i e. moved xs (f at xs (same at i) e))
  where
    same : (at : Place) → is_image (with_tag g tag) at ≡ true → is_image g at ≡ true
    same (page_at p) i = i
    same (slot_at b) i = i
    same (record_at n) i = i
    same (note_at n) i = i

    moved : (xs : List ℕ) → Image g k xs → Image (with_tag g tag) k xs
    moved xs x = record { page = x.page; low = x.low; high = x.high; number = x.number; good = x.good }

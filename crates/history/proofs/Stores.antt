-- What the store of a page's image and of a backup, whole or torn, leaves of the volume's part of the invariant; what
-- any store leaves of the items that read as before.
use mathlib.Core.Path.{◌≡◌, ◌∙◌}
use mathlib.Core.Logic.{◌≢◌}
use mathlib.Core.Bool.{true}
use mathlib.Core.List.{List}
use Prim.Native.Nat.{ℕ, suc, ◌≤◌, ◌<◌}
use native.Mathlib.Omega.{arith}
use native.Mathlib.Decide.{ℕ_discrete}
use lib.ListN.{length}
use Rattle.laws.proofs.Places.{In}
use Rattle.laws.proofs.Ring.{slot-in, run-keep}
use Rattle.model.specs.Geometry.{Place, page_at, slot_at, record_at, note_at, start, item, store, ring, slot_of, log_slot}
use Rattle.model.specs.Geometry.{note_slot}
use Rattle.model.specs.Item.{image_lsn, valid_image}
use Rattle.model.specs.AbstractLog.{Logged}
use Rattle.model.specs.declared.{geometry.Geometry.Geometry, item.Note.Note}
use Rattle.history.proofs.Marks.{mark_at, NoteOk, mark-ok, Later}
use Rattle.history.proofs.Records.{Faithful}
use Rattle.history.proofs.Sections.{Volume, Sized, volume-sized, volume-store, store_same, store_other, Tail}
use Rattle.history.proofs.Disk.{Holds, Noted, Copy, Stands, Torn, Spare, NoteStands, NoteTorn, LogRun, NoteRun}
use Rattle.history.proofs.Inv.{PendingOk}
use Rattle.model.specs.Types.{PendingNote, None, Some}

-- two volumes that read alike where it matters
module _ (g : Geometry) (v v' : List ℕ) where
  pub tail-keep : (place : ℕ → Place) (c n N : ℕ) → ((i : ℕ) → 1 ≤ i → i ≤ N → item g v' (place i) ≡ item g v (place i))
      → Tail g v place c n N → Tail g v' place c n N
  tail-keep place c n N e t =
      record { gap = λ b. rw (e (suc n) (omega arith) b) (t.gap b); rest = λ i a b. rw (e i (omega arith) b) (t.rest i a b) }

  -- the two rings
  pub log-keep : (k : List Logged) (ns ns' : List Note) → 1 ≤ g.records
      → ((i : ℕ) → 1 ≤ i → i ≤ g.records → item g v' (record_at i) ≡ item g v (record_at i))
      → ((i : ℕ) → i < length k → Spare k ns i → Spare k ns' i) → LogRun g v k ns → LogRun g v' k ns'
  log-keep k ns ns' low e up r =
      run-keep (ring g) g.records (length k) (Stands g v k) (Torn g v) (Spare k ns) (Stands g v' k) (Torn g v') (Spare k ns') up r
      (λ i a b w. same i ∙ w) (λ i a b t. rw (same i) t)
    where
      same : (i : ℕ) → item g v' (log_slot g (suc i)) ≡ item g v (log_slot g (suc i))
      same i = let q = slot-in g.records i low in e (slot_of g.records (suc i)) q.0 q.1

  pub notes-keep : (ns : List Note) → ((i : ℕ) → 1 ≤ i → i ≤ g.notes → item g v' (note_at i) ≡ item g v (note_at i))
      → NoteRun g v ns → NoteRun g v' ns
  notes-keep ns e r =
      run-keep (ring g) g.notes (length ns) (NoteStands g v ns) (NoteTorn g v) (Later ns) (NoteStands g v' ns) (NoteTorn g v')
      (Later ns) (λ i b s. s) r
      (λ i a b w. same i (omega arith) ∙ w) (λ i a b t. rw (same i (omega arith)) t)
    where
      same : (i : ℕ) → 1 ≤ g.notes → item g v' (note_slot g (suc i)) ≡ item g v (note_slot g (suc i))
      same i low = let q = slot-in g.notes i low in e (slot_of g.notes (suc i)) q.0 q.1

  module _ (k : List Logged) where
    pub holds-keep : Holds g v k → Volume g v' → ((i : ℕ) → 1 ≤ i → i ≤ g.records → item g v' (record_at i) ≡ item g v (record_at i))
        → ((p : ℕ) → 1 ≤ p → p ≤ g.pages → Faithful g p k (item g v' (page_at p))) → Holds g v' k
    holds-keep h vol e f =
        record { vol = vol; room = h.room; fair = h.fair; tail = tail-keep record_at 60 (length k) g.records e h.tail; images = f }

    noted-keep : {C : Type 0} (ns : List Note) → 1 ≤ g.records → Noted C g v k ns
        → ((i : ℕ) → 1 ≤ i → i ≤ g.records → item g v' (record_at i) ≡ item g v (record_at i))
        → ((i : ℕ) → 1 ≤ i → i ≤ g.notes → item g v' (note_at i) ≡ item g v (note_at i))
        → ((p : ℕ) → 1 ≤ p → p ≤ g.pages → (mark_at p ns (length ns)).slot ≢ 0
        → Faithful g p k (item g v' (slot_at (mark_at p ns (length ns)).slot)))
        → (C → (p : ℕ) → 1 ≤ p → p ≤ g.pages → (mark_at p ns (length ns)).slot ≢ 0
        → Copy g v' p (mark_at p ns (length ns)).slot (mark_at p ns (length ns)).backup)
        → Noted C g v' k ns
    noted-keep ns low o r e b cs =
        record {
          few = o.few;
          run = log-keep k ns ns low r (λ i c s. s) o.run;
          notes = notes-keep ns e o.notes;
          tail = tail-keep note_at 12 (length ns) g.notes e o.tail;
          fit = o.fit;
          backups = b;
          copies = cs;
        }

module _ {C : Type 0} (g : Geometry) (v : List ℕ) (k : List Logged) (h : Holds g v k) (ns : List Note) (o : Noted C g v k ns) where
  sz : Sized g
  sz = volume-sized g v h.vol

  -- the slot that the notes give page p
  abbrev slot : ℕ → ℕ
  slot p = (mark_at p ns (length ns)).slot

  pub slot-high : (p : ℕ) → slot p ≤ g.slots
  slot-high p = (mark-ok g.pages g.slots k ns o.fit p (length ns) (omega arith)).slots

  -- a backup that the index names is read as before where the store is elsewhere
  pub backups-other : (v' : List ℕ) (k' : List Logged) → ((p : ℕ) (y : List ℕ) → Faithful g p k y → Faithful g p k' y)
      → ((i : ℕ) → 1 ≤ i → i ≤ g.slots → item g v' (slot_at i) ≡ item g v (slot_at i))
      → (p : ℕ) → 1 ≤ p → p ≤ g.pages → (mark_at p ns (length ns)).slot ≢ 0
      → Faithful g p k' (item g v' (slot_at (mark_at p ns (length ns)).slot))
  backups-other v' k' up e p lo hi b =
      rw (e (slot p) (omega arith) (slot-high p)) (up p (item g v (slot_at (slot p))) (o.backups p lo hi b))

  pub copies-other : (v' : List ℕ) → ((i : ℕ) → 1 ≤ i → i ≤ g.slots → item g v' (slot_at i) ≡ item g v (slot_at i))
      → C → (p : ℕ) → 1 ≤ p → p ≤ g.pages → (mark_at p ns (length ns)).slot ≢ 0
      → Copy g v' p (mark_at p ns (length ns)).slot (mark_at p ns (length ns)).backup
  copies-other v' e c p lo hi b = rw (e (slot p) (omega arith) (slot-high p)) (o.copies c p lo hi b)

  -- a page's image: whole, torn or damaged
  module _ (i : ℕ) (xs : List ℕ) (lo : 1 ≤ i) (hi : i ≤ g.pages) (five : length xs ≡ 256) (f : Faithful g i k xs) where
    page-other : (q : Place) → In g q → start g q ≢ start g (page_at i) → item g (store g v (page_at i) xs) q ≡ item g v q
    page-other q n ne = store_other g v h.vol (page_at i) xs (lo, hi) five q n ne

    pub page-slots : (j : ℕ) → 1 ≤ j → j ≤ g.slots → item g (store g v (page_at i) xs) (slot_at j) ≡ item g v (slot_at j)
    page-slots j a b = page-other (slot_at j) (a, b) (omega arith)

    pub page-holds : Holds g (store g v (page_at i) xs) k
    page-holds =
        holds-keep g v (store g v (page_at i) xs) k h (volume-store g v h.vol (page_at i) xs (lo, hi) five)
        (λ j a b. page-other (record_at j) (a, b) (omega arith)) (λ p a b. go p a b (ℕ_discrete p i))
      where
        go : (p : ℕ) → 1 ≤ p → p ≤ g.pages → Dec (p ≡ i) → Faithful g p k (item g (store g v (page_at i) xs) (page_at p))
        go p a b (yes e) = rw (e, store_same g v h.vol (page_at i) xs (lo, hi) five) f
        go p a b (no e) = rw (page-other (page_at p) (a, b) (omega arith)) (h.images p a b)

    pub page-noted : Noted C g (store g v (page_at i) xs) k ns
    page-noted =
        noted-keep g v (store g v (page_at i) xs) k ns sz.l-low o (λ j a b. page-other (record_at j) (a, b) (omega arith))
        (λ j a b. page-other (note_at j) (a, b) (omega arith))
        (backups-other (store g v (page_at i) xs) k (λ p y z. z) page-slots) (copies-other (store g v (page_at i) xs) page-slots)

  -- a slot's image: whole, torn or damaged
  module _ (i : ℕ) (xs : List ℕ) (lo : 1 ≤ i) (hi : i ≤ g.slots) (five : length xs ≡ 256) where
    pub slot-other : (q : Place) → In g q → start g q ≢ start g (slot_at i) → item g (store g v (slot_at i) xs) q ≡ item g v q
    slot-other q n ne = store_other g v h.vol (slot_at i) xs (lo, hi) five q n ne

    pub slot_same : item g (store g v (slot_at i) xs) (slot_at i) ≡ xs
    slot_same = store_same g v h.vol (slot_at i) xs (lo, hi) five

    pub slot-holds : Holds g (store g v (slot_at i) xs) k
    slot-holds =
        holds-keep g v (store g v (slot_at i) xs) k h (volume-store g v h.vol (slot_at i) xs (lo, hi) five)
        (λ j a b. slot-other (record_at j) (a, b) (omega arith)) (λ p a b. rw (slot-other (page_at p) (a, b) (omega arith)) (h.images p a b))

    pub slot-noted : ((p : ℕ) → 1 ≤ p → p ≤ g.pages → (mark_at p ns (length ns)).slot ≡ i → Faithful g p k xs)
        → (C → (p : ℕ) → 1 ≤ p → p ≤ g.pages → (mark_at p ns (length ns)).slot ≡ i
        → (valid_image g p xs ≡ true) × (image_lsn xs ≡ (mark_at p ns (length ns)).backup))
        → Noted C g (store g v (slot_at i) xs) k ns
    slot-noted f copy =
        noted-keep g v (store g v (slot_at i) xs) k ns sz.l-low o (λ j a b. slot-other (record_at j) (a, b) (omega arith))
        (λ j a b. slot-other (note_at j) (a, b) (omega arith))
        (λ p a b z. go p a b z (ℕ_discrete (slot p) i))
        (λ c p a b z. stands c p a b z (ℕ_discrete (slot p) i))
      where
        stands : C → (p : ℕ) → 1 ≤ p → p ≤ g.pages → slot p ≢ 0 → Dec (slot p ≡ i)
            → Copy g (store g v (slot_at i) xs) p (slot p) (mark_at p ns (length ns)).backup
        stands c p a b z (yes e) = rw (e, slot_same) (copy c p a b e)
        stands c p a b z (no e) = rw (slot-other (slot_at (slot p)) (omega (arith, slot-high p)) (omega arith)) (o.copies c p a b z)

        go : (p : ℕ) → 1 ≤ p → p ≤ g.pages → slot p ≢ 0 → Dec (slot p ≡ i)
            → Faithful g p k (item g (store g v (slot_at i) xs) (slot_at (slot p)))
        go p a b z (yes e) = rw (e, slot_same) (f p a b e)
        go p a b z (no e) = rw (slot-other (slot_at (slot p)) (omega (arith, slot-high p)) (omega arith)) (o.backups p a b z)

-- the pending note, as the volume and the durable list change
pub pending-keep : (C : Type 0) (g : Geometry) (v v' : List ℕ) (k k' : List Logged) (ns : List Note) (w : PendingNote)
    → ((p : ℕ) (y : List ℕ) → Faithful g p k y → Faithful g p k' y)
    → ((x : Note) → NoteOk g.pages g.slots k ns (length ns) x → NoteOk g.pages g.slots k' ns (length ns) x)
    → ((i : ℕ) → 1 ≤ i → i ≤ g.slots → item g v' (slot_at i) ≡ item g v (slot_at i))
    → PendingOk C g v k ns w → PendingOk C g v' k' ns w
pending-keep C g v v' k k' ns None up nup e t = tt
pending-keep C g v v' k k' ns (Some x) up nup e t = (
  nup x t.0,
  t.1,
  λ z. let bk = t.0.backed z in rw (e x.slot bk.low bk.high) (up x.page (item g v (slot_at x.slot)) (t.2 z)),
  t.3,
  λ c z. let bk = t.0.backed z in rw (e x.slot bk.low bk.high) (t.4 c z),
)

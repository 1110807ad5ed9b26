-- What the store of a record, whole or torn, leaves of the volume's part of the invariant.
use mathlib.Core.Path.{◌≡◌, sym, ap, ◌∙◌}
use mathlib.Core.Logic.{◌≢◌}
use mathlib.Core.Bool.{true, false}
use mathlib.Core.List.{List, [], ◌∷◌, ◌++◌}
use Prim.Native.Nat.{ℕ, suc, ◌+◌, ◌≤◌, ◌<◌}
use native.Mathlib.Omega.{arith}
use lib.ListN.{length, get_or-append}
use Rattle.laws.proofs.Tables.{by_cases}
use Rattle.laws.proofs.Places.{In, item-length}
use Rattle.laws.proofs.Ring.{slot-low, slot-in, slot-again, slot_apart, run-new, run-torn}
use Rattle.model.specs.Checksum.{sealed}
use Rattle.model.specs.Geometry.{Place, page_at, slot_at, record_at, note_at, start, item, store, ring, most, slot_of}
use Rattle.model.specs.Geometry.{log_slot}
use Rattle.model.specs.AbstractLog.{Logged}
use Rattle.model.specs.declared.{geometry.Geometry.Geometry, item.Note.Note}
use Rattle.history.proofs.Logs.{no_logged, len_a}
use Rattle.history.proofs.Marks.{note}
use Rattle.history.proofs.Records.{Fair, fair-more, rec_of, rec_of-is, rec_of-append, valid-append}
use Rattle.history.proofs.Sections.{Sized, volume-sized, volume-size, volume-store, store_same, store_other}
use Rattle.history.proofs.Sections.{most-high, most-plain}
use Rattle.history.proofs.Disk.{Holds, Noted, Stands, Torn, Spare}
use Rattle.history.proofs.LogScan.{fails-zero}
use Rattle.history.proofs.Inv.{note-append}
use Rattle.history.proofs.Stores.{tail-keep, notes-keep, backups-other, copies-other}

module _ {C : Type 0} (g : Geometry) (v : List ℕ) (k : List Logged) (h : Holds g v k) (ns : List Note) (o : Noted C g v k ns) where
  sz : Sized g
  sz = volume-sized g v h.vol

  -- the next record's place
  module _ (xs : List ℕ) (six : length xs ≡ 64) where
    abbrev next : Place
    next = log_slot g (suc (length k))

    abbrev after : List ℕ
    after = store g v (log_slot g (suc (length k))) xs

    here : In g (log_slot g (suc (length k)))
    here = slot-in g.records (length k) sz.l-low

    rec-other : (q : Place) → In g q → start g q ≢ start g (log_slot g (suc (length k))) → item g after q ≡ item g v q
    rec-other q i ne = store_other g v h.vol next xs here six q i ne

    rec-same : item g after (log_slot g (suc (length k))) ≡ xs
    rec-same = store_same g v h.vol next xs here six

    rec-notes : (i : ℕ) → 1 ≤ i → i ≤ g.notes → item g after (note_at i) ≡ item g v (note_at i)
    rec-notes i lo hi = rec-other (note_at i) (lo, hi) (omega (arith, here.0, here.1))

    pub rec-slots : (i : ℕ) → 1 ≤ i → i ≤ g.slots → item g after (slot_at i) ≡ item g v (slot_at i)
    rec-slots i lo hi = rec-other (slot_at i) (lo, hi) (omega (arith, here.0, here.1))

    rec-pages : (i : ℕ) → 1 ≤ i → i ≤ g.pages → item g after (page_at i) ≡ item g v (page_at i)
    rec-pages i lo hi = rec-other (page_at i) (lo, hi) (omega (arith, here.0, here.1))

    rec-records : (i : ℕ) → 1 ≤ i → i ≤ g.records → i ≢ slot_of g.records (suc (length k))
        → item g after (record_at i) ≡ item g v (record_at i)
    rec-records i lo hi ne = rec-other (record_at i) (lo, hi) (λ z. ne (omega (arith, here.0)))

    -- the other places of the ring
    rec-held : (i : ℕ) → i < length k → length k < i + g.records → item g after (log_slot g (suc i)) ≡ item g v (log_slot g (suc i))
    rec-held i a b =
        let q = slot-in g.records i sz.l-low in
        rec-records (slot_of g.records (suc i)) q.0 q.1 (slot_apart g.records i (length k) a b)

    rest-stays : (i : ℕ) → suc (length k) < i → i ≤ g.records → item g after (record_at i) ≡ item g v (record_at i)
    rest-stays i a z = rec-records i (omega arith) z (λ e. omega (arith, slot-low g.records (length k) (omega arith)))

    -- torn
    pub torn-holds : sealed 60 xs ≡ false → Holds g (store g v (log_slot g (suc (length k))) xs) k
    torn-holds t =
        record {
          vol = volume-store g v h.vol next xs here six;
          room = h.room;
          fair = h.fair;
          tail = record {
            gap = λ a. let q : item g after (record_at (suc (length k))) ≡ xs = ap (λ (n : ℕ). item g after (record_at n))
                (sym (slot-low g.records (length k) a)) ∙ rec-same in rw q t;
            rest = λ i a z. rw (rest-stays i a z) (h.tail.rest i a z);
          };
          images = λ p lo hi. rw (rec-pages p lo hi) (h.images p lo hi);
        }

    pub torn-noted : sealed 60 xs ≡ false → length k < most g → ((i : ℕ) → i < length k → length k ≡ i + g.records → Spare k ns i)
        → Noted C g (store g v (log_slot g (suc (length k))) xs) k ns
    torn-noted t b spare =
        record {
          few = o.few;
          run = run-torn (ring g) g.records (length k) (Stands g v k) (Torn g v) (Spare k ns) (Stands g after k) (Torn g after)
              (Spare k ns) (λ i c s. s) o.run
              (λ i a c w. rec-held i a c ∙ w) (λ i a e. (in-ring i e, again i e)) spare;
          notes = notes-keep g v after ns rec-notes o.notes;
          tail = tail-keep g v after note_at 12 (length ns) g.notes rec-notes o.tail;
          fit = o.fit;
          backups = backups-other g v k h ns o after k (λ p y f. f) rec-slots;
          copies = copies-other g v k h ns o after rec-slots;
        }
      where
        in-ring : (i : ℕ) → length k ≡ i + g.records → ring g ≡ true
        in-ring i e = by_cases (ring g) (λ r. r) (λ r. absurd (omega (arith, most-plain g sz r)))

        again : (i : ℕ) → length k ≡ i + g.records → sealed 60 (item g after (log_slot g (suc i))) ≡ false
        again i e =
            let q : slot_of g.records (suc i) ≡ slot_of g.records (suc (length k)) = sym (slot-again g.records i)
            ∙ ap (λ (n : ℕ). slot_of g.records (suc n)) (sym e) in
            ap (λ (n : ℕ). sealed 60 (item g after (record_at n))) q ∙ (ap (sealed 60) rec-same ∙ t)

  -- the next record, whole
  module _ (c : Logged) (b : length k < most g) (f : Fair g.pages (k ++ (c ∷ [])) (length k)) where
    xs : List ℕ
    xs = rec_of (k ++ (c ∷ [])) (length k)

    pub record-size : length (rec_of (k ++ (c ∷ [])) (length k)) ≡ 64
    record-size = (rec_of-is g.pages (k ++ (c ∷ [])) (length k) sz.p-high (omega (arith, most-high g sz)) f).size

    abbrev after' : List ℕ
    after' = store g v (log_slot g (suc (length k))) (rec_of (k ++ (c ∷ [])) (length k))

    pub force-holds : Holds g (store g v (log_slot g (suc (length k))) (rec_of (k ++ (c ∷ [])) (length k))) (k ++ (c ∷ []))
    unfolding xs
    force-holds =
        record {
          vol = volume-store g v h.vol (log_slot g (suc (length k))) xs (here xs record-size) record-size;
          room = rw (len_a k c) b;
          fair = fair-more g.pages k c h.fair f;
          tail = record {
            gap = λ a.
                let a' : suc (length k) < g.records = rw (len_a k c) at a in
                rw (len_a k c, rest-stays xs record-size (suc (suc (length k))) (omega arith) a')
                (fails-zero 60 64 (item g v (record_at (suc (suc (length k)))))
                (item-length g v (volume-size g v h.vol) (record_at (suc (suc (length k)))) (omega arith)) (omega arith)
                (h.tail.rest (suc (suc (length k))) (omega arith) a'));
            rest = λ i a z. rw (rest-stays xs record-size i (omega (arith, len_a k c)) z) (h.tail.rest i (omega (arith, len_a k c)) z);
          };
          images = λ p lo hi. rw (rec-pages xs record-size p lo hi) (valid-append g p k (c ∷ []) (item g v (page_at p)) (h.images p lo hi));
        }

    spare-longer : (i : ℕ) → i < length k → Spare k ns i → Spare (k ++ (c ∷ [])) ns i
    spare-longer i a s = rw (get_or-append k (c ∷ []) no_logged i a) s

    pub force-noted : ((i : ℕ) → i < length k → length k ≡ i + g.records → Spare k ns i)
        → Noted C g (store g v (log_slot g (suc (length k))) (rec_of (k ++ (c ∷ [])) (length k))) (k ++ (c ∷ [])) ns
    unfolding xs
    force-noted spare =
        record {
          few = o.few;
          run = rw (len_a k c) (run-new (ring g) g.records (length k) (Stands g v k) (Torn g v) (Spare k ns)
              (Stands g after' (k ++ (c ∷ []))) (Torn g after') (Spare (k ++ (c ∷ [])) ns) spare-longer o.run
              (λ i a d w. rec-held xs record-size i a d ∙ (w ∙ sym (rec_of-append k (c ∷ []) i a))) (rec-same xs record-size)
              (λ i a e. let q : i < length k = omega (arith, sz.l-low) in spare-longer i q (spare i q e)));
          notes = notes-keep g v after' ns (rec-notes xs record-size) o.notes;
          tail = tail-keep g v after' note_at 12 (length ns) g.notes (rec-notes xs record-size) o.tail;
          fit = λ i z. note-append g.pages g.slots k (c ∷ []) ns i (note ns i) (o.fit i z);
          backups = backups-other g v k h ns o after' (k ++ (c ∷ [])) (λ p y. valid-append g p k (c ∷ []) y)
              (rec-slots xs record-size);
          copies = copies-other g v k h ns o after' (rec-slots xs record-size);
        }

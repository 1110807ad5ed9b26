-- What the store of a note, whole or torn, leaves of the volume's part of the invariant.
use mathlib.Core.Path.{◌≡◌, refl, sym, ap, ◌∙◌}
use mathlib.Core.Logic.{◌≢◌, ◌⊎◌, inl, inr}
use mathlib.Core.Bool.{true, false}
use mathlib.Core.List.{List, [], ◌∷◌, ◌++◌}
use Prim.Native.Nat.{ℕ, suc, ◌+◌, ◌≤◌, ◌<◌}
use native.Mathlib.Omega.{arith}
use native.Mathlib.Decide.{dec_lt, ℕ_discrete}
use lib.ListN.{length, get_or-append}
use Rattle.laws.proofs.Tables.{by_cases}
use Rattle.laws.proofs.Places.{In, item-length}
use Rattle.laws.proofs.Ring.{slot-low, slot-in, slot-again, slot_apart, run-new, run-torn}
use Rattle.laws.proofs.Notes.{note-length}
use Rattle.model.specs.Checksum.{sealed}
use Rattle.model.specs.Geometry.{Place, page_at, slot_at, record_at, note_at, start, item, store, ring, most_notes, slot_of, note_slot}
use Rattle.model.specs.Item.{note_bytes, is_written}
use Rattle.model.specs.AbstractLog.{Logged}
use Rattle.model.specs.declared.{geometry.Geometry.Geometry, item.Note.Note}
use Rattle.history.proofs.Logs.{at}
use Rattle.history.proofs.Marks.{note, no_note, mark_at, mark-hit, mark-miss, mark-append, len_n, note_n, NoteOk}
use Rattle.history.proofs.Marks.{Later}
use Rattle.history.proofs.Records.{Faithful}
use Rattle.history.proofs.Sections.{Sized, volume-sized, volume-size, volume-store, store_same, store_other, notes-plain}
use Rattle.history.proofs.Disk.{Holds, Noted, Copy, Spare, NoteStands, NoteTorn}
use Rattle.history.proofs.LogScan.{fails-zero}
use Rattle.history.proofs.Inv.{Room}
use Rattle.history.proofs.Stores.{log-keep, holds-keep, slot-high, backups-other, copies-other}

-- a later note stays one as the list grows
pub later_more : (ns : List Note) (x : Note) (i : ℕ) → i < length ns → Later ns i → Later (ns ++ (x ∷ [])) i
later_more ns x i b t =
    record {
      place = t.place;
      above = t.above;
      below = rw (len_n ns x) (omega (arith, t.below));
      page-is = rw (get_or-append ns (x ∷ []) no_note t.place t.below, get_or-append ns (x ∷ []) no_note i b) t.page-is;
      kind-is = rw (get_or-append ns (x ∷ []) no_note t.place t.below, get_or-append ns (x ∷ []) no_note i b) t.kind-is;
    }

module _ {C : Type 0} (g : Geometry) (v : List ℕ) (k : List Logged) (h : Holds g v k) (ns : List Note) (o : Noted C g v k ns) where
  sz : Sized g
  sz = volume-sized g v h.vol

  -- the slot that the notes give page p
  abbrev slot : ℕ → ℕ
  slot p = (mark_at p ns (length ns)).slot

  -- the next note: whole or torn
  module _ (xs : List ℕ) (room : Room g ns) (six : length xs ≡ 16) where
    abbrev note_after : List ℕ
    note_after = store g v (note_slot g (suc (length ns))) xs

    note-here : In g (note_slot g (suc (length ns)))
    note-here = slot-in g.notes (length ns) room.0

    note-other : (q : Place) → In g q → start g q ≢ start g (note_slot g (suc (length ns))) → item g note_after q ≡ item g v q
    note-other q n ne = store_other g v h.vol (note_slot g (suc (length ns))) xs note-here six q n ne

    note-same : item g note_after (note_slot g (suc (length ns))) ≡ xs
    note-same = store_same g v h.vol (note_slot g (suc (length ns))) xs note-here six

    note-records : (j : ℕ) → 1 ≤ j → j ≤ g.records → item g note_after (record_at j) ≡ item g v (record_at j)
    note-records j l u = note-other (record_at j) (l, u) (omega (arith, note-here.0))

    note-notes : (i : ℕ) → 1 ≤ i → i ≤ g.notes → i ≢ slot_of g.notes (suc (length ns))
        → item g note_after (note_at i) ≡ item g v (note_at i)
    note-notes i lo hi ne = note-other (note_at i) (lo, hi) (λ z. ne (omega (arith, note-here.0)))

    note-held : (i : ℕ) → i < length ns → length ns < i + g.notes → item g note_after (note_slot g (suc i)) ≡ item g v (note_slot g (suc i))
    note-held i a b =
        let q = slot-in g.notes i room.0 in
        note-notes (slot_of g.notes (suc i)) q.0 q.1 (slot_apart g.notes i (length ns) a b)

    notes-stay : (i : ℕ) → suc (length ns) < i → i ≤ g.notes → item g note_after (note_at i) ≡ item g v (note_at i)
    notes-stay i a z = note-notes i (omega arith) z (λ e. omega (arith, slot-low g.notes (length ns) (omega arith)))

    pub note-holds : Holds g (store g v (note_slot g (suc (length ns))) xs) k
    note-holds =
        holds-keep g v note_after k h (volume-store g v h.vol (note_slot g (suc (length ns))) xs note-here six)
        note-records (λ p l u. rw (note-other (page_at p) (l, u) (omega (arith, note-here.0))) (h.images p l u))

    slots-stay : (i : ℕ) → 1 ≤ i → i ≤ g.slots → item g note_after (slot_at i) ≡ item g v (slot_at i)
    slots-stay i l u = note-other (slot_at i) (l, u) (omega (arith, note-here.0))

    pub note-torn : sealed 12 xs ≡ false → length ns < most_notes g → Noted C g (store g v (note_slot g (suc (length ns))) xs) k ns
    note-torn t b =
        record {
          few = o.few;
          run = log-keep g v note_after k ns ns sz.l-low note-records (λ i c s. s) o.run;
          notes = run-torn (ring g) g.notes (length ns) (NoteStands g v ns) (NoteTorn g v) (Later ns) (NoteStands g note_after ns)
              (NoteTorn g note_after) (Later ns) (λ i c s. s) o.notes
              (λ i a c w. note-held i a c ∙ w) (λ i a e. (in-ring i e, again i e)) room.1;
          tail = record {
            gap = λ a. let q : item g note_after (note_at (suc (length ns))) ≡ xs = ap (λ (n : ℕ). item g note_after (note_at n))
                (sym (slot-low g.notes (length ns) a)) ∙ note-same in rw q t;
            rest = λ i a z. rw (notes-stay i a z) (o.tail.rest i a z);
          };
          fit = o.fit;
          backups = backups-other g v k h ns o note_after k (λ p y f. f) slots-stay;
          copies = copies-other g v k h ns o note_after slots-stay;
        }
      where
        in-ring : (i : ℕ) → length ns ≡ i + g.notes → ring g ≡ true
        in-ring i e = by_cases (ring g) (λ r. r) (λ r. absurd (omega (arith, notes-plain g sz r)))

        again : (i : ℕ) → length ns ≡ i + g.notes → sealed 12 (item g note_after (note_slot g (suc i))) ≡ false
        again i e =
            let q : slot_of g.notes (suc i) ≡ slot_of g.notes (suc (length ns)) = sym (slot-again g.notes i)
            ∙ ap (λ (n : ℕ). slot_of g.notes (suc n)) (sym e) in
            ap (λ (n : ℕ). sealed 12 (item g note_after (note_at n))) q ∙ (ap (sealed 12) note-same ∙ t)

  -- the slot that one more note gives a page
  module _ (x : Note) (x-ok : NoteOk g.pages g.slots k ns (length ns) x) where
    new-mark : (p : ℕ)
        → (((mark_at p (ns ++ (x ∷ [])) (length (ns ++ (x ∷ [])))).slot ≡ slot p)
        × ((mark_at p (ns ++ (x ∷ [])) (length (ns ++ (x ∷ [])))).backup ≡ (mark_at p ns (length ns)).backup))
        ⊎ ((is_written x ≡ false) × (p ≡ x.page) × ((mark_at p (ns ++ (x ∷ [])) (length (ns ++ (x ∷ [])))).slot ≡ x.slot)
        × ((mark_at p (ns ++ (x ∷ [])) (length (ns ++ (x ∷ [])))).backup ≡ x.lsn))
    new-mark p = rw (len_n ns x) (elim (ℕ_discrete x.page p) [
      | yes y ↦
          rw (mark-hit p (ns ++ (x ∷ [])) (length ns) (rw (note_n ns x) y), note_n ns x, mark-append p ns (x ∷ []) (length ns) (omega arith))
          (by_cases (is_written x)
          (λ t. rw t (inl (refl, refl)))
          (λ t. rw t (inr (refl, sym y, refl, refl))))
      | no z ↦ rw (mark-miss p (ns ++ (x ∷ [])) (length ns) (rw (note_n ns x) z), mark-append p ns (x ∷ []) (length ns) (omega arith))
          (inl (refl, refl))
    ])

    -- backups only rise
    pub backup-rises : (p : ℕ) → (mark_at p ns (length ns)).backup ≤ (mark_at p (ns ++ (x ∷ [])) (length (ns ++ (x ∷ [])))).backup
    backup-rises p = rw (len_n ns x) (elim (ℕ_discrete x.page p) [
      | yes y ↦
          rw (mark-hit p (ns ++ (x ∷ [])) (length ns) (rw (note_n ns x) y), note_n ns x, mark-append p ns (x ∷ []) (length ns) (omega arith))
          (by_cases (is_written x)
          (λ t. rw t (omega arith))
          (λ t. rw t (let q : (mark_at p ns (length ns)).backup ≤ x.lsn = rw y at (x-ok.backed t).above in q)))
      | no z ↦ rw (mark-miss p (ns ++ (x ∷ [])) (length ns) (rw (note_n ns x) z), mark-append p ns (x ∷ []) (length ns) (omega arith))
          (omega arith)
    ])

    pub spare-rises : (k' : List Logged) (i : ℕ) → Spare k' ns i → Spare k' (ns ++ (x ∷ [])) i
    spare-rises k' i s = omega (arith, s, backup-rises (at k' i).page)

    pub note-noted : length ns < most_notes g → Room g ns → (is_written x ≡ false → Faithful g x.page k (item g v (slot_at x.slot)))
        → (C → is_written x ≡ false → Copy g v x.page x.slot x.lsn)
        → Noted C g (store g v (note_slot g (suc (length ns))) (note_bytes x)) k (ns ++ (x ∷ []))
    note-noted b room f fc =
        record {
          few = rw (len_n ns x) b;
          run = log-keep g v after'' k ns (ns ++ (x ∷ [])) sz.l-low (note-records (note_bytes x) room six)
              (λ i c s. spare-rises k i s) o.run;
          notes = rw (len_n ns x) (run-new (ring g) g.notes (length ns) (NoteStands g v ns) (NoteTorn g v) (Later ns)
              (NoteStands g after'' (ns ++ (x ∷ []))) (NoteTorn g after'') (Later (ns ++ (x ∷ []))) (later_more ns x) o.notes
              (λ i a d w. note-held (note_bytes x) room six i a d ∙ (w ∙ ap note_bytes (sym (get_or-append ns (x ∷ []) no_note i a))))
              (note-same (note_bytes x) room six ∙ ap note_bytes (sym (note_n ns x)))
              (λ i a e. let q : i < length ns = omega (arith, room.0) in later_more ns x i q (room.1 i q e)));
          tail = record {
            gap = λ a.
                let a' : suc (length ns) < g.notes = rw (len_n ns x) at a in
                rw (len_n ns x, notes-stay (note_bytes x) room six (suc (suc (length ns))) (omega arith) a')
                (fails-zero 12 16 (item g v (note_at (suc (suc (length ns)))))
                (item-length g v (volume-size g v h.vol) (note_at (suc (suc (length ns)))) (omega arith)) (omega arith)
                (o.tail.rest (suc (suc (length ns))) (omega arith) a'));
            rest = λ i a z. rw (notes-stay (note_bytes x) room six i (omega (arith, len_n ns x)) z)
                (o.tail.rest i (omega (arith, len_n ns x)) z);
          };
          fit = λ i a. elim (dec_lt i (length ns)) [
            | yes y ↦ rw (get_or-append ns (x ∷ []) no_note i y) (notes-longer i (omega arith) (note ns i) (o.fit i y))
            | no n ↦ let q : i ≡ length ns = omega (arith, len_n ns x) in rw (q, note_n ns x) (notes-longer (length ns) (omega arith) x x-ok)
          ];
          backups = λ p lo hi z. backed p lo hi z (new-mark p);
          copies = λ c p lo hi z. copied c p lo hi z (new-mark p);
        }
      where
        after'' : List ℕ
        after'' = store g v (note_slot g (suc (length ns))) (note_bytes x)

        six : length (note_bytes x) ≡ 16
        six = note-length x

        -- the notes before it say what they said
        notes-longer : (i : ℕ) → i ≤ length ns → (y : Note) → NoteOk g.pages g.slots k ns i y
            → NoteOk g.pages g.slots k (ns ++ (x ∷ [])) i y
        notes-longer i l y q =
            record {
              number_is = q.number_is;
              low = q.low;
              high = q.high;
              some = q.some;
              below = q.below;
              page-is = q.page-is;
              written = λ t. rw (mark-append y.page ns (x ∷ []) i l) (q.written t);
              backed = λ t.
                  let r = q.backed t in
                  record {
                    kind-is = r.kind-is;
                    low = r.low;
                    high = r.high;
                    spare = λ p a c. rw (mark-append p ns (x ∷ []) i l) (r.spare p a c);
                    above = rw (mark-append y.page ns (x ∷ []) i l) r.above;
                  };
            }

        backed : (p : ℕ) → 1 ≤ p → p ≤ g.pages → (mark_at p (ns ++ (x ∷ [])) (length (ns ++ (x ∷ [])))).slot ≢ 0
            → (((mark_at p (ns ++ (x ∷ [])) (length (ns ++ (x ∷ [])))).slot ≡ slot p)
            × ((mark_at p (ns ++ (x ∷ [])) (length (ns ++ (x ∷ [])))).backup ≡ (mark_at p ns (length ns)).backup))
            ⊎ ((is_written x ≡ false) × (p ≡ x.page) × ((mark_at p (ns ++ (x ∷ [])) (length (ns ++ (x ∷ [])))).slot ≡ x.slot)
            × ((mark_at p (ns ++ (x ∷ [])) (length (ns ++ (x ∷ [])))).backup ≡ x.lsn))
            → Faithful g p k (item g (store g v (note_slot g (suc (length ns))) (note_bytes x))
            (slot_at (mark_at p (ns ++ (x ∷ [])) (length (ns ++ (x ∷ [])))).slot))
        backed p lo hi z (inl e) = let q = e.0 in rw e.0
            (rw (slots-stay (note_bytes x) room six (slot p) (omega (arith, rw q at z)) (slot-high g v k h ns o p))
            (o.backups p lo hi (rw q at z)))
        backed p lo hi z (inr e) =
            let bk = x-ok.backed e.0 in
            rw e.2 (rw (slots-stay (note_bytes x) room six x.slot bk.low bk.high, e.1) (f e.0))

        copied : C → (p : ℕ) → 1 ≤ p → p ≤ g.pages → (mark_at p (ns ++ (x ∷ [])) (length (ns ++ (x ∷ [])))).slot ≢ 0
            → (((mark_at p (ns ++ (x ∷ [])) (length (ns ++ (x ∷ [])))).slot ≡ slot p)
            × ((mark_at p (ns ++ (x ∷ [])) (length (ns ++ (x ∷ [])))).backup ≡ (mark_at p ns (length ns)).backup))
            ⊎ ((is_written x ≡ false) × (p ≡ x.page) × ((mark_at p (ns ++ (x ∷ [])) (length (ns ++ (x ∷ [])))).slot ≡ x.slot)
            × ((mark_at p (ns ++ (x ∷ [])) (length (ns ++ (x ∷ [])))).backup ≡ x.lsn))
            → Copy g (store g v (note_slot g (suc (length ns))) (note_bytes x)) p (mark_at p (ns ++ (x ∷ [])) (length (ns ++ (x ∷ [])))).slot
            (mark_at p (ns ++ (x ∷ [])) (length (ns ++ (x ∷ [])))).backup
        copied c p lo hi z (inl e) = let q = e.0 in rw (e.0, e.1)
            (rw (slots-stay (note_bytes x) room six (slot p) (omega (arith, rw q at z)) (slot-high g v k h ns o p))
            (o.copies c p lo hi (rw q at z)))
        copied c p lo hi z (inr e) =
            let bk = x-ok.backed e.0 in
            rw (e.2, e.3) (rw (slots-stay (note_bytes x) room six x.slot bk.low bk.high, e.1) (fc c e.0))

-- The scan of a volume that holds a list of changes and a list of notes: the index that both lists say, and the tests
-- that the notes of the run pass.
use mathlib.Core.Path.{◌≡◌, refl, sym, ap, ◌∙◌}
use mathlib.Core.Logic.{◌≢◌}
use mathlib.Core.Bool.{true, false, ◌&&◌, ◌||◌}
use mathlib.Core.List.{List, map}
use Prim.Native.Nat.{ℕ, zero, suc, ◌+◌, ◌-◌, ◌≤◌, ◌<◌}
use native.Mathlib.Omega.{arith}
use native.Mathlib.Decide.{dec_lt, ℕ_discrete}
use lib.ListN.{length}
use lib.Dec.{eqb, leb, ltb}
use borrow.Author.Tests.{eq-eqb, ne_eqb, le-leb, lt-ltb}
use Rattle.laws.proofs.Tables.{by_cases, and_both, or_left, or_right, every-all, within-holds}
use Rattle.model.specs.Checksum.{sealed}
use Rattle.model.specs.Geometry.{item, note_slot}
use Rattle.model.specs.Item.{note_layout, is_written}
use Rattle.model.specs.Index.{entry_row, enter_note, settled}
use Rattle.model.specs.Scan.{log_record, indexed_run, note_index, note_follows, note_fits, valid_notes, index_of}
use Rattle.model.specs.AbstractLog.{Logged}
use Rattle.model.specs.declared.{geometry.Geometry.Geometry, item.Note.Note, item.LogRecord.LogRecord}
use Rattle.model.specs.declared.state.Entry.{Entry}
use Rattle.history.proofs.Logs.{at, last_of, last-le, last-page}
use Rattle.history.proofs.Marks.{note, Mark, mark_at, mark-zero, mark-ok, NoteOk, with_mark, last_by, lsn_by, slot_by}
use Rattle.history.proofs.Marks.{mark_of, by-hit, by-other, by-miss, by_le, mark-by}
use Rattle.history.proofs.Entries.{entry_from, entry-noted, Tabled, tabled-set, tabled-same, tabled-map}
use Rattle.history.proofs.Entries.{spare-tabled, Indexed}
use Rattle.laws.proofs.Notes.{note-sealed}
use Rattle.history.proofs.Sections.{Sized, volume-sized}
use Rattle.history.proofs.Disk.{Holds, Noted}
use Rattle.history.proofs.LogScan.{first as log-first, in_run, run-yes, run-no, add-suc, suc-add, first-is}
use Rattle.history.proofs.LogScan.{started, durable-count, record-read, log_entry, run_index}
use Rattle.history.proofs.NoteScan.{nfirst as note-first, nfirst-is, nstarted, note-count, notes-end, note-ok}
use Rattle.history.proofs.NoteScan.{last-in-run}

module _ {C : Type 0} (g : Geometry) (v : List ℕ) (l : List Logged) (h : Holds g v l) (ns : List Note) (o : Noted C g v l ns) where
  sz : Sized g
  sz = volume-sized g v h.vol

  abbrev first : ℕ
  first = log-first g v l h ns o

  abbrev nfirst : ℕ
  nfirst = note-first g v l h ns o

  -- what the log and the notes of the run before place n say of a page
  abbrev run_mark : ℕ → ℕ → Mark
  run_mark n p = mark_of ns (in_run nfirst (last_by true p ns n)) (in_run nfirst (last_by false p ns n))

  abbrev note_entry : ℕ → ℕ → Entry
  note_entry n p = entry_from (in_run first (last_of p l)) (in_run first (last_of p l)) (run_mark n p)

  pub note-index : (c : ℕ) → nfirst + c ≤ length ns → Tabled (note_index g v (suc nfirst) c) (note_entry (nfirst + c))
  unfolding note_index enter_note
  note-index zero b =
      tabled-same (indexed_run g v) (log_entry g v l h ns o (length l)) (note_entry (nfirst + zero)) (run_index g v l h ns o)
      (λ p a c. sym (rw (
        run-no nfirst (last_by true p ns (nfirst + zero)) (omega (arith, by_le p ns true (nfirst + zero))),
        run-no nfirst (last_by false p ns (nfirst + zero)) (omega (arith, by_le p ns false (nfirst + zero))),
      )))
  note-index (suc c) b =
      let i = nfirst + c in
      let b' : nfirst + c < length ns = omega arith in
      let f = o.fit i b' in
      let q = (note ns i).page in
      let x = note-index c (omega arith) in
      rw (suc-add nfirst c, add-suc nfirst c, note-ok g v l h ns o i b' (omega arith))
      (tabled-set (note_index g v (suc nfirst) c) (note_entry i) (note_entry (suc i)) x q _ f.low (omega (arith, f.high, sz.p-high))
      (rw (x.entry q f.low (omega (arith, f.high, sz.p-high)))
      (entry-noted (in_run first (last_of q l)) (in_run first (last_of q l)) (run_mark i q) (note ns i)
      ∙ ap (entry_from (in_run first (last_of q l)) (in_run first (last_of q l))) (marked i (omega arith))))
      (λ p ne. rw (by-miss p ns true i (λ e. ne (sym e)), by-miss p ns false i (λ e. ne (sym e)))))
    where
      marked : (i : ℕ) → nfirst ≤ i → with_mark (run_mark i (note ns i).page) (note ns i) ≡ run_mark (suc i) (note ns i).page
      marked i a = by_cases (is_written (note ns i))
          (λ t. rw (
            by-hit (note ns i).page ns true i refl t,
            by-other (note ns i).page ns false i (rw t refl),
            run-yes nfirst (suc i) (omega arith),
            t,
          ))
          (λ t. rw (
            by-other (note ns i).page ns true i t,
            by-hit (note ns i).page ns false i refl (rw t refl),
            run-yes nfirst (suc i) (omega arith),
            t,
          ))

  abbrev full_entry : ℕ → Entry
  full_entry p = entry_from (in_run first (last_of p l)) (in_run first (last_of p l)) (mark_at p ns (length ns))

  full-index : Tabled (note_index g v (suc nfirst) (suc (length ns) - suc nfirst)) full_entry
  unfolding note_index
  full-index = elim (ℕ_discrete (length ns) 0) [
    | yes z ↦
        let e : suc (length ns) - suc nfirst ≡ 0 = omega arith in
        rw e (tabled-same (indexed_run g v) (log_entry g v l h ns o (length l)) full_entry (run_index g v l h ns o)
        (λ p a c. sym (rw (z, mark-zero p ns))))
    | no z ↦
        let i : nfirst ≤ length ns = (nstarted g v l h ns o).inside (omega arith) in
        let e : suc (length ns) - suc nfirst ≡ length ns - nfirst = omega arith in
        let q : nfirst + (length ns - nfirst) ≡ length ns = omega arith in
        rw e (tabled-same (note_index g v (suc nfirst) (length ns - nfirst)) (note_entry (length ns)) full_entry
        (rw q at (note-index (length ns - nfirst) (omega arith)))
        (λ p a c. ap (entry_from (in_run first (last_of p l)) (in_run first (last_of p l)))
        (rw (last-in-run g v l h ns o true p, last-in-run g v l h ns o false p) (sym (mark-by p ns (length ns))))))
  ]

  -- the last step of a restart gives every page its last change
  settled_is : (p : ℕ) → settled (full_entry p) ≡ entry_from (last_of p l) (last_of p l) (mark_at p ns (length ns))
  settled_is p = go (last_of p l) refl
    where
      back : (mark_at p ns (length ns)).backup ≤ last_of p l
      back = (mark-ok g.pages g.slots l ns o.fit p (length ns) (omega arith)).backs

      go : (n : ℕ) → last_of p l ≡ n
          → settled (entry_from (in_run first n) (in_run first n) (mark_at p ns (length ns))) ≡ entry_from n n (mark_at p ns (length ns))
      go n e = elim (dec_lt first n) [
        | yes y ↦ rw (run-yes first n y, ne_eqb n 0 (λ z. omega arith))
        | no z ↦ let q : (mark_at p ns (length ns)).backup ≡ n = same n e (omega arith) in rw (run-no first n (omega arith), q)
      ]
        where
          same : (n : ℕ) → last_of p l ≡ n → n ≤ first → (mark_at p ns (length ns)).backup ≡ n
          same zero e b = omega (arith, back)
          same (suc i) e b =
              let pg : (at l i).page ≡ p = last-page p l (length l) i e in
              let sp : suc i ≤ (mark_at p ns (length ns)).backup =
              rw pg at ((started g v l h ns o).lost i (omega (arith, last-le p l (length l))) b) in
              omega (arith, back)

  final-index : Tabled (map settled (note_index g v (suc nfirst) (suc (length ns) - suc nfirst)))
      (λ p. entry_from (last_of p l) (last_of p l) (mark_at p ns (length ns)))
  final-index =
      tabled-same (map settled (note_index g v (suc nfirst) (suc (length ns) - suc nfirst))) (λ p. settled (full_entry p))
      (λ p. entry_from (last_of p l) (last_of p l) (mark_at p ns (length ns)))
      (tabled-map settled (note_index g v (suc nfirst) (suc (length ns) - suc nfirst)) full_entry full-index) (λ p a c. settled_is p)

  -- note i of the run passes the scan's tests
  module _ (c : ℕ) (b : nfirst + c < length ns) where
    abbrev i : ℕ
    i = nfirst + c

    x-ok : NoteOk g.pages g.slots l ns (nfirst + c) (note ns (nfirst + c))
    x-ok = o.fit (nfirst + c) b

    idx : Tabled (note_index g v (suc nfirst) c) (note_entry (nfirst + c))
    idx = note-index c (omega arith)

    -- the marks of the run are those of all notes, or none
    lsn-less : (n : ℕ) → lsn_by ns (in_run nfirst n) ≤ lsn_by ns n
    lsn-less n =
        elim (dec_lt nfirst n) [ yes y ↦ rw (run-yes nfirst n y) (omega arith) | no z ↦ rw (run-no nfirst n (omega arith)) (omega arith) ]

    slot-less : (n : ℕ) (s : ℕ) → 1 ≤ s → slot_by ns n ≢ s → slot_by ns (in_run nfirst n) ≢ s
    slot-less n s a ne =
        elim (dec_lt nfirst n) [ yes y ↦ rw (run-yes nfirst n y) ne | no z ↦ rw (run-no nfirst n (omega arith)) (λ e. omega arith) ]

    note-follows : note_follows g (note_index g v (suc nfirst) c) (note ns i) ≡ true
    unfolding note_follows
    note-follows =
        let f = x-ok in
        let q = (note ns i).page in
        let m : mark_at q ns i ≡ mark_of ns (last_by true q ns i) (last_by false q ns i) = mark-by q ns i in
        rw (idx.entry q f.low (omega (arith, f.high, sz.p-high))) (by_cases (is_written (note ns i))
        (λ t.
        let w : lsn_by ns (last_by true q ns i) ≤ (note ns i).lsn = rw m at (f.written t).1 in
        rw t (le-leb _ (note ns i).lsn (omega (arith, lsn-less (last_by true q ns i)))))
        (λ t.
        let k = f.backed t in
        let w : lsn_by ns (last_by false q ns i) ≤ (note ns i).lsn = rw m at k.above in
        rw (
          t,
          spare-tabled (note_index g v (suc nfirst) c) (note_entry i) idx (note ns i).slot
              (λ p a d. slot-less (last_by false p ns i) (note ns i).slot k.low (rw (mark-by p ns i) at (k.spare p a d))),
        )
        (and_both (le-leb _ (note ns i).lsn (omega (arith, lsn-less (last_by false q ns i))))
        (and_both (within-holds g.slots (note ns i).slot k.low k.high) refl))))

    layout : note_layout (note ns i) ≡ true
    unfolding note_layout
    layout = by_cases (is_written (note ns i))
        (λ t. or_left (eqb (note ns i).kind 2) (and_both t (eq-eqb (note ns i).slot 0 (x-ok.written t).0)))
        (λ t. or_right (eqb (note ns i).kind 1 && eqb (note ns i).slot 0) (eq-eqb (note ns i).kind 2 (x-ok.backed t).kind-is))

    names : (ltb (note ns i).lsn (suc first) || eqb (log_record g v (note ns i).lsn).page (note ns i).page) ≡ true
    names = elim (dec_lt (note ns i).lsn (suc first)) [
      | yes y ↦ or_left _ (lt-ltb (note ns i).lsn (suc first) y)
      | no z ↦
          let f = x-ok in
          let s : (note ns i).lsn ≡ suc ((note ns i).lsn - 1) = omega (arith, f.some) in
          or_right (ltb (note ns i).lsn (suc first)) (eq-eqb (log_record g v (note ns i).lsn).page (note ns i).page
          (ap (λ (k : ℕ). (log_record g v k).page) s
          ∙ (ap (λ (y : LogRecord). y.page)
          (record-read g v l h ns o ((note ns i).lsn - 1) (omega (arith, f.some, f.below)) (omega arith)) ∙ f.page-is)))
    ]

    pub note-fits : note_fits g v (note_index g v (suc nfirst) c) (suc nfirst + c) ≡ true
    unfolding note_fits
    note-fits =
        let f = x-ok in
        let st = (nstarted g v l h ns o).held i b (omega arith) in
        let sl : sealed 12 (item g v (note_slot g (suc i))) ≡ true = rw st (note-sealed (note ns i)) in
        rw (
          suc-add nfirst c,
          sl,
          note-ok g v l h ns o i b (omega arith),
          durable-count g v l h ns o,
          first-is g v l h ns o,
        )
        (and_both layout
        (and_both (eq-eqb (note ns i).number (suc i) f.number_is)
        (and_both (within-holds g.pages (note ns i).page f.low f.high)
        (and_both (within-holds (length l) (note ns i).lsn f.some f.below)
        (and_both names note-follows)))))

  pub valid-notes : valid_notes g v ≡ true
  unfolding valid_notes
  valid-notes =
      rw (note-count g v l h ns o, nfirst-is g v l h ns o) (and_both (and_both
      (every-all (λ i. note_fits g v (note_index g v (suc nfirst) i) (suc nfirst + i)) (suc (length ns) - suc nfirst)
      (λ i b. note-fits i (omega arith))) (notes-end g v l h ns o))
      (every-all (λ i. leb (entry_row idx i).written (entry_row idx i).last) 64 (λ i b.
      let e : suc i - 1 ≡ i = omega arith in
      let q : entry_row idx i ≡ entry_from (last_of (suc i) l) (last_of (suc i) l) (mark_at (suc i) ns (length ns)) =
      rw e at (final-index.entry (suc i) (omega arith) (omega arith)) in
      rw q (le-leb (mark_at (suc i) ns (length ns)).written (last_of (suc i) l)
      (mark-ok g.pages g.slots l ns o.fit (suc i) (length ns) (omega arith)).wrote))))
    where
      idx : List Entry
      idx = map settled (note_index g v (suc nfirst) (suc (length ns) - suc nfirst))

  -- the index that the volume gives
  pub index_is : Indexed (index_of g v) l (length l) (length l) ns (length ns)
  index_is = rw (note-count g v l h ns o, nfirst-is g v l h ns o) final-index

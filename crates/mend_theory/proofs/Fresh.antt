-- ME2: once a page was written its own image is no older than its written notes, the owed one counted: so it is not Stale.
-- Kept by upkeep's calls.
use mathlib.Core.Path.{◌≡◌, refl, sym, ap}
use mathlib.Core.Logic.{◌≢◌}
use mathlib.Core.Bool.{Bool, true, false, cond, ◌&&◌}
use mathlib.Core.List.{List}
use Prim.Native.Nat.{ℕ, ◌+◌, ◌-◌, ◌≤◌}
use native.Mathlib.Omega.{arith}
use native.Mathlib.Decide.{ℕ_discrete}
use lib.ListN.{length, set}
use lib.Seq.{get_or-set_same, get_or-set_other}
use lib.Dec.{eqb, ltb}
use borrow.Author.Tests.{eqb-true, eq-eqb, ne_eqb, le-ltb}
use Rattle.laws.proofs.Tables.{by_cases, true-not-false}
use Rattle.laws.proofs.Notes.{note-length}
use Rattle.laws.proofs.WellFormed.{memory-facts, pending-length}
use Rattle.model.specs.Tables.{Row, first_of}
use Rattle.model.specs.Checksum.{seal_image}
use Rattle.model.specs.Bytes.{field}
use Rattle.model.specs.Geometry.{page_at, item}
use Rattle.model.specs.Item.{image_lsn, note_bytes, is_written}
use Rattle.model.specs.Index.{empty_entry, entry_of, with_note, enter_note}
use Rattle.model.specs.State.{frame_bytes, pending_bytes, holder}
use Rattle.model.specs.Refusals.{page_dirty, load_rows, change_rows, force_rows, write_rows, backup_rows, note_rows}
use Rattle.model.specs.Repair.{class_of}
use Rattle.model.specs.Outcome.{StoredItem, Outcome, volume_after, decided}
use Rattle.model.specs.Effects.{note_stored, backup_done, change_done, force_done, load_done, write_outcome, noted_state}
use Rattle.model.specs.Calls.{Call, rows_of, outcome_of, no_payload}
use Rattle.model.specs.AbstractLog.{Logged}
use Rattle.model.specs.declared.{geometry.Geometry.Geometry, change.Change.TheVariants.Put, item.Note.Note}
use Rattle.model.specs.declared.{state.Entry.Entry, state.State.State}
use Rattle.model.specs.declared.command.Command.TheVariants.{Load, Force, Write}
use Rattle.model.specs.declared.command.Command.TheVariants.{Backup, Note as NoteCall}
use Rattle.history.proofs.Marks.{mark-ok}
use Rattle.history.proofs.Sections.{store_same}
use Rattle.history.proofs.Inv.{PendingOk}
use Rattle.history.proofs.Images.{sealed-lsn, sealed-size, lsn-is, settled}
use Rattle.history.proofs.Persists.{writes as asked, backs as backed}
use Rattle.history.proofs.Context.{Ctx, geo, sized, durable-last, entry-is}
use Rattle.history.proofs.Forces.{forced}
use Rattle.history.proofs.WellFormed.{memory-ok}
use Rattle.upkeep_policy.specs.Upkeep.{refresh}
use Rattle.upkeep_theory.proofs.Same.{written-appended, written-forced}
use Rattle.upkeep_theory.proofs.StateCounts.{appended-counts, forced-counts}
use Rattle.upkeep_theory.proofs.Shape.{Renewal, loads, backs, writes, puts, Advised, notes, forces, by_note, by_log}
use Rattle.mend_policy.specs.Mend.{is_stale}
use Rattle.mend_policy.specs.MendClaim.{writes_page}
use Rattle.mend_theory.proofs.OwnSteps.{record-page, note-page, slot-page, page-page}
use Rattle.model.specs.Types.{PendingNote, None, Some}

-- such an image is not Stale
pub not-stale : (valid : Bool) (n d w : ℕ) → w ≤ n → is_stale (class_of valid n d w) ≡ false
unfolding class_of
not-stale false n d w le = refl
not-stale true n d w le = by_cases (eqb n d) (λ t. rw t refl)
    (λ t. by_cases (ltb d n) (λ u. rw (t, u) refl) (λ u. rw (t, u, le-ltb n w le) refl))

module _ (g : Geometry) (p : ℕ) (lo : 1 ≤ p) (hi : p ≤ g.pages) where
  -- the number of the owed written note of the page (0: none)
  abbrev owes : PendingNote → ℕ
  owes None = 0
  owes (Some n) = cond (is_written n && eqb n.page p) n.lsn 0

  abbrev pub Fresh : List ℕ → State → Type 0
  Fresh v s = ((entry_of s.index p).written ≤ image_lsn (item g v (page_at p))) × (owes s.note ≤ image_lsn (item g v (page_at p)))

  module _ {C : Type 0} {v m : List ℕ} {past : List StoredItem} {s : State} {k w : List Logged} (x : Ctx C g v m past s k w) where
    abbrev After : Call → Type 0
    After c = Fresh (volume_after v (outcome_of c v m s).stored) (outcome_of c v m s).state

    by-table : (rows : List Row) (done : Outcome) → Fresh v s → (first_of rows ≡ 0 → Fresh (volume_after v done.stored) done.state)
        → Fresh (volume_after v (decided rows m s done).stored) (decided rows m s done).state
    unfolding volume_after decided
    by-table rows done n h = by_cases (eqb (first_of rows) 0) (λ e. rw e (h (eqb-true (first_of rows) 0 e))) (λ e. rw e n)

    load_fresh : (q r : ℕ) → Fresh v s → After (Load q r, no_payload)
    unfolding decided load_done volume_after
    load_fresh q r n = by-table (load_rows v m s q r) _ n (λ e. n)

    put-fresh : (q : ℕ) → Fresh v s → After (refresh m s q)
    unfolding decided change_done volume_after
    put-fresh q n = by-table (change_rows v m s q (Put 0 1)) _ n (λ e.
        rw (written-appended s q (holder s q) (p - 1), (appended-counts s q (holder s q)).3) n)

    backup-fresh : (q b : ℕ) → Fresh v s → After (Backup q b, no_payload)
    unfolding decided backup_done volume_after
    backup-fresh q b n = by-table (backup_rows v m s q b) _ n (λ e.
        let y = backed x q b e in
        rw (
          geo x,
          slot-page g p 0 lo hi x b (seal_image g (frame_bytes m (holder s q))) y.slot-low y.slot-high
              (sealed-size x q y.frame-of y.forced-to),
        ) (n.0, omega arith))

    force-fresh : Fresh v s → After (Force, no_payload)
    unfolding decided force_done volume_after
    force-fresh n = by-table (force_rows v m s) (forced x) n (λ e. by_cases (eqb s.pending 0) (λ t. rw t n)
        (λ t.
        let six = pending-length m (memory-facts m (memory-ok x)) (s.durable + 1) in
        let q = field 2 8 (pending_bytes m (s.durable + 1)) in
        rw (
          t,
          geo x,
          record-page g p 0 lo hi x (pending_bytes m (s.durable + 1)) six,
          written-forced s g.pages q (p - 1),
          (forced-counts s g.pages q).3,
        ) n))

    -- the index with a note entered
    noted-fresh : (y : Note) → 1 ≤ y.page → (i : ℕ) → (entry_of s.index p).written ≤ i → owes (Some y) ≤ i
        → (entry_of (enter_note s.index y) p).written ≤ i
    unfolding enter_note
    noted-fresh y l i a b = elim (ℕ_discrete y.page p) [
      | yes z ↦
          let e : entry_of (set s.index (y.page - 1) (with_note (entry_of s.index y.page) y)) y.page
          ≡ with_note (entry_of s.index y.page) y =
          get_or-set_same s.index (y.page - 1) (with_note (entry_of s.index y.page) y) empty_entry
          (omega (arith, x.al.index.size, (sized x).p-high, hi, z, lo)) in
          rw (← z) (rw e (by_cases (is_written y)
          (λ u. rw u (rw (u, eq-eqb y.page p z) at b)) (λ u. rw u (rw (← z) at a))))
      | no z ↦ rw (get_or-set_other s.index (y.page - 1) (p - 1) (with_note (entry_of s.index y.page) y) empty_entry
          (λ e. z (omega (arith, e, l, lo)))) a
    ]

    note-done : (y : PendingNote) → PendingOk C g v k x.ns y → s.note ≡ y → Fresh v s
        → Fresh (volume_after v (note_stored v m s y).stored) (note_stored v m s y).state
    unfolding volume_after noted_state
    note-done None t e n = n
    note-done (Some y) t e n =
        rw (geo x, note-page g p 0 lo hi x (note_bytes y) (note-length y) t.3.0)
        (noted-fresh y t.0.low _ n.0 (rw e at n.1), omega arith)

    note-fresh : Fresh v s → After (NoteCall, no_payload)
    unfolding decided volume_after
    note-fresh n = by-table (note_rows v m s) (note_stored v m s s.note) n (λ e. note-done s.note x.al.note-ok refl n)

    -- Write: of the page itself nothing need be known before
    wrote : (q : ℕ) → first_of (write_rows v m s q) ≡ 0 → page_dirty s q ≡ true → (p ≢ q → Fresh v s) → After (Write q, no_payload)
    unfolding decided write_outcome volume_after
    wrote q e d n =
        let y = asked x q e in let fo = y.frame-of in let rd = y.ready d in
        let xs = seal_image g (frame_bytes m (holder s q)) in
        let five = sealed-size x q fo rd.2 in
        let num : image_lsn xs ≡ image_lsn (frame_bytes m (holder s q)) = sealed-lsn x q fo rd.2 in
        rw (e, d, geo x) (elim (ℕ_discrete p q) [
          | yes z ↦
              let ok = (mark-ok g.pages g.slots k x.ns x.no.fit q (length x.ns) (omega arith)).wrote in
              let en = ap (λ (a : Entry). a.written) (entry-is x q fo.framed.low fo.framed.high) in
              let a = lsn-is x q fo rd.2 in
              let b = settled x q fo rd.2 in
              let f = durable-last x q fo.framed.low fo.framed.high in
              rw z (rw (store_same g v x.hs.vol (page_at q) xs (fo.framed.low, fo.framed.high) five, eq-eqb q q refl)
              (omega (arith, ok, en, a, b, f, num), omega (arith, num)))
          | no z ↦
              let o = n z in
              rw (page-page g p 0 lo hi x q xs fo.framed.low fo.framed.high five z, ne_eqb q p (λ i. z (sym i)))
              (o.0, omega arith)
        ])

    write-fresh : (q : ℕ) → Fresh v s → After (Write q, no_payload)
    unfolding decided write_outcome volume_after
    write-fresh q n = by-table (write_rows v m s q) _ n (λ e. by_cases (page_dirty s q)
        (λ d. let y : After (Write q, no_payload) = wrote q e d (λ z. n) in rw d (rw (e, d) at y)) (λ d. rw d n))

    renewal-fresh : (r q : ℕ) (written : Bool) (c : Call) → Renewal v m s r q written c → Fresh v s → After c
    renewal-fresh r q written c (loads h a e) n = rw e (load_fresh q r n)
    renewal-fresh r q written c (backs h t b a e) n = rw e (backup-fresh q _ n)
    renewal-fresh r q written c (writes h t d a e) n = rw e (write-fresh q n)
    renewal-fresh r q written c (puts h t d a e) n = rw e (put-fresh q n)

    pub advised-fresh : (r : ℕ) (c : Call) → Advised v m s r c → Fresh v s → After c
    advised-fresh r c (notes a e) n = rw e (note-fresh n)
    advised-fresh r c (forces a b e) n = rw e (force-fresh n)
    advised-fresh r c (by_note a q o i l h y u) n = renewal-fresh r _ _ c u n
    advised-fresh r c (by_log a q o n1 n2 i l h y fi u) n = renewal-fresh r _ _ c u n

    -- after mending's Write of the page
    pub mended-fresh : (r : ℕ) (written : Bool) (c : Call) → Renewal v m s r p written c → writes_page p c.0 ≡ true
        → first_of (rows_of c v m s) ≡ 0 → After c
    mended-fresh r written c (loads h a e) i z = absurd (true-not-false (rw e at i) refl)
    mended-fresh r written c (backs h t b a e) i z = absurd (true-not-false (rw e at i) refl)
    mended-fresh r written c (writes h t d a e) i z = rw e (wrote p (rw e at z) d (λ y. absurd (y refl)))
    mended-fresh r written c (puts h t d a e) i z = absurd (true-not-false (rw e at i) refl)

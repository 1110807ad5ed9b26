-- A call that has room is taken: no row of its table holds.
use mathlib.Core.Path.{◌≡◌, ap, ◌∙◌}
use mathlib.Core.Logic.{◌≢◌}
use mathlib.Core.Bool.{true, false, not, and-false}
use mathlib.Core.List.{List, []}
use Prim.Native.Nat.{ℕ, suc, ◌+◌, ◌-◌, ◌*◌, ◌≤◌, ◌<◌}
use native.Mathlib.Omega.{arith}
use lib.ListN.{length}
use lib.Dec.{eqb, leb}
use borrow.Author.Tests.{eq-eqb, ne_eqb, eqb-false, le-ltb, lt-leb}
use Rattle.laws.proofs.Tables.{by_cases, and_both, and-fails, or_left, or_right, within-holds, first-none}
use Rattle.laws.proofs.Frames.{is_held}
use Rattle.model.specs.Tables.{first_of, within}
use Rattle.model.specs.Change.{fits}
use Rattle.model.specs.Geometry.{top_number, ring, most, most_notes, slot_at, geometry_of, item}
use Rattle.model.specs.Item.{image_lsn}
use Rattle.model.specs.Index.{entry_of, slot_used}
use Rattle.model.specs.Scan.{index_of}
use Rattle.model.specs.Claim.{start_stands}
use Rattle.model.specs.State.{frame_row, frame_count, frame_bytes, holder, held, blank, last_number, log_full, notes_full, note_pending}
use Rattle.model.specs.Refusals.{frame_blocked, page_dirty}
use Rattle.laws.proofs.Conditions.{not_durable}
use Rattle.model.specs.Outcome.{StoredItem, refusal_of}
use Rattle.model.specs.Calls.{outcome_of, Call, rows_of, no_payload}
use Rattle.model.specs.declared.{geometry.Geometry.Geometry, change.Change.Change}
use Rattle.model.specs.declared.{state.State.State}
use Rattle.model.specs.declared.command.Command.TheVariants.{Begin, Load, Force, Write, Release}
use Rattle.model.specs.declared.command.Command.TheVariants.{Change as ChangeCall, Backup, Note}
use Rattle.model.specs.AbstractLog.{Logged}
use Rattle.planning.specs.RehearsalRun.{play_call}
use Rattle.planning.specs.declared.rehearsal.Figures.{Figures}
use Rattle.history.proofs.Logs.{last_at, last_of, last-le}
use Rattle.history.proofs.Leaf.{frame-lsn}
use Rattle.history.proofs.Sections.{Sized}
use Rattle.history.proofs.Marks.{mark_at}
use Rattle.history.proofs.Entries.{entry_from}
use Rattle.history.proofs.NoteIndex.{index_is}
use Rattle.history.proofs.Memory.{frame-count}
use Rattle.history.proofs.Context.{Ctx, sized, geo, sum, few, body-size, last_entry, found-frame}
use Rattle.history.proofs.Loads.{load-unbroken, load-granted}
use Rattle.history.proofs.Refusals.{call-refusal, own_rows, rows_are}
use Rattle.planning_theory.proofs.Play.{Run}
use Rattle.planning_theory.proofs.Relation.{all-is, last-is, durable-is}
use Rattle.model.specs.Types.{None}

pub taken-call : (v m : List ℕ) (past : List StoredItem) (s : State) (fs : List Figures) (c : Call) → first_of (rows_of c v m s) ≡ 0
    → (play_call (Run v m past s fs) c).refused ≡ false
unfolding play_call
taken-call v m past s fs c e = let z : refusal_of (outcome_of c v m s).answer ≡ 0 = call-refusal c v m s ∙ e in rw z

-- ---- 12 and 14

module _ (g : Geometry) (z : Sized g) (v : List ℕ) (s : State) where
  log-free : last_number s < g.records → log_full g v s ≡ false
  unfolding log_full
  log-free b =
      let a : leb (most g) (last_number s) ≡ false =
      lt-leb (most g) (last_number s) (by_cases (ring g) (λ t. rw t (omega (arith, z.l-high))) (λ t. rw t b)) in
      let c : leb g.records (last_number s) ≡ false = lt-leb g.records (last_number s) b in
      rw (a, c) (and-false (ring g))

  notes-free : s.notes < g.notes → notes_full g v s ≡ false
  unfolding notes_full
  notes-free b =
      let n : eqb g.notes 0 ≡ false = ne_eqb g.notes 0 (λ y. omega arith) in
      let a : leb (most_notes g) s.notes ≡ false =
      lt-leb (most_notes g) s.notes (by_cases (ring g) (λ t. rw t (omega (arith, z.n-high))) (λ t. rw t b)) in
      let c : leb g.notes s.notes ≡ false = lt-leb g.notes s.notes b in
      rw (n, a, c) (and-false (ring g))

-- ---- the tests that several calls share

module _ {C : Type 0} {g : Geometry} {v m : List ℕ} {past : List StoredItem} {s : State} {k w : List Logged} (x : Ctx C g v m past s k w)
  where
    pub note-free : first_of (rows_of (Note, no_payload) v m s) ≡ 0
    unfolding own_rows
    note-free = rows_are x (Note, no_payload)

    pub force-free : first_of (rows_of (Force, no_payload) v m s) ≡ 0
    unfolding own_rows
    force-free = rows_are x (Force, no_payload)

    page-free : (p : ℕ) → 1 ≤ p → p ≤ g.pages → not (within (geometry_of v).pages p) ≡ false
    page-free p lo hi = rw (geo x, within-holds g.pages p lo hi)

    place-free : (f n : ℕ) → 1024 + 256 * n ≤ length m → f < n → not (within (frame_count (length m)) (suc f)) ≡ false
    place-free f n b l =
        rw (frame-count x.al.F m x.al.memory, within-holds x.al.F (suc f) (omega arith) (omega (arith, x.al.memory.size)))

    held-free : (p f : ℕ) → f < 16 → (frame_row s f).page ≡ p → not (held s p) ≡ false
    held-free p f b e = rw (is_held s p f (omega (arith, x.al.frames.size)) e)

-- ---- with no record pending

module _ {C : Type 0} {g : Geometry} {v m : List ℕ} {past : List StoredItem} {s : State} {k : List Logged} (x : Ctx C g v m past s k [])
  where
    length-all : length x.all ≡ length k
    length-all = ap length (all-is x)

    -- 10: no page has a change that is not durable
    frame-free : (j : ℕ) → j < 16 → frame_blocked s (suc j) ≡ false
    frame-free j b =
        let e : suc j - 1 ≡ j = omega arith in
        let q : (frame_row s (suc j - 1)).page ≡ (frame_row s j).page = ap (λ (i : ℕ). (frame_row s i).page) e in
        rw q (by_cases (eqb (frame_row s j).page 0) (λ t. rw t) (λ t.
        let nz : (frame_row s j).page ≢ 0 = eqb-false (frame_row s j).page 0 t in
        let fr = x.al.frames.each j (x.al.frames.inside j b nz) nz in
        let p64 : (frame_row s j).page ≤ 64 = omega (arith, fr.high, (sized x).p-high) in
        rw (t, last-is x (frame_row s j).page fr.low p64, durable-is x (frame_row s j).page fr.low p64)
        (le-ltb (last_of (frame_row s j).page k) (last_of (frame_row s j).page k) (omega arith))))

    -- 15
    durable-free : (p f : ℕ) → 1 ≤ p → f < 16 → (frame_row s f).page ≡ p → not_durable m s p ≡ false
    durable-free p f lo b e =
        let fd = found-frame x p lo (held-free x p f b e) in
        let pg : p ≤ 64 = omega (arith, fd.framed.high, (sized x).p-high) in
        let nm : last_of p x.all ≤ top_number = omega (arith, few x, last-le p x.all (length x.all)) in
        let q : image_lsn (frame_bytes m (holder s p)) ≡ last_of p x.all =
        rw fd.framed.frame_is (frame-lsn g p (last_of p x.all) _ pg nm (body-size x p)) in
        rw q (le-ltb s.durable (last_of p x.all) (omega (
          arith,
          last-le p x.all
              (length x.all),
          length-all,
          x.al.log.durable-is,
        )))

    pending-free : eqb s.pending 16 ≡ false
    pending-free = ne_eqb s.pending 16 (λ z. omega (arith, sum x, length-all, x.al.log.durable-is))

    records-free : length k < g.records → log_full (geometry_of v) v s ≡ false
    records-free b = rw (geo x) (log-free g (sized x) v s (omega (arith, sum x, length-all)))

    last-free : s.notes < g.notes → notes_full (geometry_of v) v s ≡ false
    last-free b = rw (geo x) (notes-free g (sized x) v s b)

    -- ---- the calls

    pub write-free : (p f : ℕ) → 1 ≤ p → p ≤ g.pages → f < 16 → (frame_row s f).page ≡ p → s.note ≡ None → s.notes < g.notes
        → first_of (rows_of (Write p, no_payload) v m s) ≡ 0
    unfolding own_rows
    write-free p f lo hi b e quiet n =
        rows_are x (Write p, no_payload)
        ∙ first-none (own_rows x (Write p, no_payload)) (
          page-free x p lo hi,
          (
            held-free x p f b e,
            (
              and-fails (page_dirty s p) (ap note_pending quiet),
              (
                and-fails (page_dirty s p) (last-free n),
                (and-fails (page_dirty s p) (durable-free p f lo b e), tt),
              ),
            ),
          ),
        )

    pub backup-free : (p f slot : ℕ) → 1 ≤ p → p ≤ g.pages → f < 16 → (frame_row s f).page ≡ p → 1 ≤ slot
        → slot ≤ g.slots → s.note ≡ None
        → s.notes < g.notes → slot_used slot s.index ≡ false
        → first_of (rows_of (Backup p slot, no_payload) v m s) ≡ 0
    unfolding own_rows
    backup-free p f slot lo hi b e slo shi quiet n spare =
        rows_are x (Backup p slot, no_payload)
        ∙ first-none (own_rows x (Backup p slot, no_payload)) (
          page-free x p lo hi,
          (
            rw
                (geo x, within-holds g.slots slot slo shi),
            (held-free x p f b e, (ap note_pending quiet, (last-free n, (durable-free p f lo b e, (spare, tt))))),
          ),
        )

    pub release-free : (p f : ℕ) → 1 ≤ p → p ≤ g.pages → f < 16 → (frame_row s f).page ≡ p → first_of (rows_of (Release p, no_payload) v m s) ≡ 0
    unfolding own_rows
    release-free p f lo hi b e =
        let fd = found-frame x p lo (held-free x p f b e) in
        rows_are x (Release p, no_payload)
        ∙ first-none (own_rows x (Release p, no_payload)) (
          page-free x p lo hi,
          (
            held-free x p f b e,
            (
              rw fd.holder-is
                  (frame-free fd.row (omega (arith, fd.in_table, x.al.memory.high))),
              tt,
            ),
          ),
        )

    pub begin-free : (p f fill n : ℕ) → 1 ≤ p → p ≤ g.pages → f < n → n ≤ 16 → 1024 + 256 * n ≤ length m → blank s p ≡ true
        → length k < g.records → first_of (rows_of (Begin p (suc f) fill, no_payload) v m s) ≡ 0
    unfolding own_rows
    begin-free p f fill n lo hi b n16 mem bl r =
        rows_are x (Begin p (suc f) fill, no_payload)
        ∙ first-none (own_rows x (Begin p (suc f) fill, no_payload)) (
          page-free x p lo hi,
          (
            place-free x f n mem b,
            (
              ap not bl,
              (
                frame-free f
                    (omega arith),
                (pending-free, (records-free r, tt)),
              ),
            ),
          ),
        )

    pub change-free : (p f : ℕ) (c : Change) (payload : List ℕ) → 1 ≤ p → p ≤ g.pages → f < 16 → (frame_row s f).page ≡ p → fits c ≡ true
        → length k < g.records
        → first_of (rows_of (ChangeCall p c, payload) v m s) ≡ 0
    unfolding own_rows
    change-free p f c payload lo hi b e ft r =
        rows_are x (ChangeCall p c, payload) ∙ first-none (own_rows x (ChangeCall p c, payload))
        (page-free x p lo hi, (ap not ft, (held-free x p f b e, (pending-free, (records-free r, tt)))))

    -- ---- Load

    module _ (ok : C) (p : ℕ) (lo : 1 ≤ p) (hi : p ≤ g.pages) where
      -- its backup stands
      stands : start_stands g v (entry_of (index_of g v) p) p ≡ true
      stands =
          let k' = mark_at p x.ns (length x.ns) in
          let e : entry_of (index_of g v) p ≡ entry_from (last_of p k) (last_of p k) (mark_at p x.ns (length x.ns)) =
          (index_is g v k x.hs x.ns x.no).entry p lo (omega (arith, (sized x).p-high)) in
          rw e (by_cases (eqb k'.slot 0)
          (λ t. or_left _ t)
          (λ t.
          let c = x.no.copies ok p lo hi (eqb-false k'.slot 0 t) in
          or_right (eqb k'.slot 0) (or_left _ (and_both c.0 (eq-eqb (image_lsn (item g v (slot_at k'.slot))) k'.backup c.1)))))

      pub load-free : (f n : ℕ) → f < n → n ≤ 16 → 1024 + 256 * n ≤ length m → blank s p ≡ false → held s p ≡ false
          → first_of (rows_of (Load p (suc f), no_payload) v m s) ≡ 0
      unfolding own_rows
      load-free f n b n16 mem bl hd =
          let st : last_of p x.all ≡ last_at p x.all (length k) = ap (last_at p x.all) length-all in
          let nz : last_of p x.all ≢ 0 = λ z. eqb-false (entry_of s.index p).last 0 bl (last_entry x p lo hi ∙ z) in
          rows_are x (Load p (suc f), no_payload)
          ∙ first-none (own_rows x (Load p (suc f), no_payload)) (
            page-free x p lo hi,
            (
              place-free x f n mem b,
              (
                bl,
                (
                  hd,
                  (
                    frame-free f
                        (omega arith),
                    (rw (geo x) (load-unbroken x p lo hi st nz), (rw (geo x) (load-granted x p lo hi st nz stands), tt)),
                  ),
                ),
              ),
            ),
          )

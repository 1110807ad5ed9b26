-- ME2: where a page is clean in a frame its own image has its newest number. Kept by upkeep's calls, and so after mending's
-- put of the page, which leaves its frame dirty, no second put comes.
use mathlib.Core.Path.{◌≡◌, refl, sym, ap, ◌∙◌, subst}
use mathlib.Core.Logic.{◌≢◌, ◌⊎◌, inl, inr}
use mathlib.Core.Bool.{Bool, true, false, cond, not}
use mathlib.Core.List.{List, [], ◌∷◌, ◌++◌, append_assoc}
use Prim.Native.Nat.{ℕ, ◌+◌, ◌-◌, ◌≤◌, ◌<◌}
use native.Mathlib.Omega.{arith}
use native.Mathlib.Decide.{ℕ_discrete}
use lib.ListN.{length, set}
use lib.Seq.{get_or-set_same, get_or-set_other}
use lib.Dec.{eqb}
use borrow.Author.Tests.{eqb-true}
use Rattle.laws.proofs.Tables.{by_cases, true-not-false}
use Rattle.laws.proofs.Notes.{note-length}
use Rattle.laws.proofs.WellFormed.{memory-facts, pending-length}
use Rattle.model.specs.Tables.{Row, first_of}
use Rattle.model.specs.Checksum.{seal_image}
use Rattle.model.specs.Geometry.{page_at, geometry_of, item, store}
use Rattle.model.specs.Item.{image_lsn, valid_image, note_bytes}
use Rattle.model.specs.State.{empty_frame, frame_bytes, pending_bytes, holder, held}
use Rattle.model.specs.Refusals.{page_dirty, load_rows, change_rows, force_rows, write_rows, backup_rows, note_rows}
use Rattle.model.specs.Repair.{state_view, class_in}
use Rattle.model.specs.Outcome.{StoredItem, Outcome, volume_after, decided}
use Rattle.model.specs.Effects.{is_good, note_stored, backup_done, change_done, force_done, load_done, write_outcome, appended_state, forced_state, noted_state}
use Rattle.model.specs.Calls.{Call, rows_of, outcome_of, no_payload}
use Rattle.model.specs.AbstractLog.{Logged, AbstractLog, move_first, step_call}
use Rattle.model.specs.declared.{geometry.Geometry.Geometry, change.Change.TheVariants.Put}
use Rattle.model.specs.declared.{state.Entry.Entry, state.Frame.Frame, state.State.State}
use Rattle.model.specs.declared.command.Command.TheVariants.{Load, Force, Write}
use Rattle.model.specs.declared.command.Command.TheVariants.{Backup, Note as NoteCall}
use Rattle.history.proofs.Logs.{last_of, number-miss}
use Rattle.history.proofs.Sections.{store_same}
use Rattle.history.proofs.Inv.{PendingOk, frame}
use Rattle.history.proofs.Images.{sealed-valid, sealed-lsn, sealed-size, lsn-is}
use Rattle.history.proofs.Persists.{writes as asked, backs as backed}
use Rattle.history.proofs.Loads.{loads as loaded}
use Rattle.history.proofs.Context.{Ctx, geo, entry-is, nowhere}
use Rattle.history.proofs.Forces.{forced, none-pending, some-pending}
use Rattle.history.proofs.WellFormed.{memory-ok}
use Rattle.upkeep_policy.specs.Upkeep.{refresh}
use Rattle.upkeep_theory.proofs.Shape.{Renewal, loads, backs, writes, puts, Advised, notes, forces, by_note, by_log}
use Rattle.upkeep_theory.proofs.Text.{put-found}
use Rattle.mend_theory.proofs.OwnSteps.{record-page, note-page, slot-page, page-page}
use Rattle.mend_theory.proofs.Loaded.{good-is}
use Rattle.model.specs.Types.{PendingNote, None, Some}

module _ (g : Geometry) (p : ℕ) (lo : 1 ≤ p) (hi : p ≤ g.pages) where
  -- the own image has the newest number
  abbrev pub Newest : List Logged → List ℕ → Type 0
  Newest all v = (valid_image g p (item g v (page_at p)) ≡ true) × (image_lsn (item g v (page_at p)) ≡ last_of p all)

  abbrev pub Clean : AbstractLog → List ℕ → State → Type 0
  Clean b v s =
      (j : ℕ) → j < 16 → (frame s.frames j).page ≡ p → (frame s.frames j).dirty ≡ false
      → Newest (b.durable ++ b.pending) v

  -- one row of the table is set
  by_row : {A : Type 0} (fs : List Frame) (i q : ℕ) (d : Bool) → length fs ≡ 16 → i < 16 → (j : ℕ)
      → (q ≡ p → d ≡ false → A) → (j ≢ i → (frame fs j).page ≡ p → (frame fs j).dirty ≡ false → A)
      → (frame (set fs i (record { page = q; dirty = d })) j).page ≡ p
      → (frame (set fs i (record { page = q; dirty = d })) j).dirty ≡ false → A
  by_row fs i q d size b j here there a c = elim (ℕ_discrete j i) [
    | yes z ↦
        let e : frame (set fs i (record { page = q; dirty = d })) i ≡ record { page = q; dirty = d } =
        get_or-set_same fs i (record { page = q; dirty = d }) empty_frame (omega (arith, size, b)) in
        here (rw (z, e) at a) (rw (z, e) at c)
    | no z ↦
        let e : frame (set fs i (record { page = q; dirty = d })) j ≡ frame fs j =
        get_or-set_other fs i j (record { page = q; dirty = d }) empty_frame z in
        there z (rw e at a) (rw e at c)
  ]

  module _ {C : Type 0} {v m : List ℕ} {past : List StoredItem} {s : State} {k w : List Logged} (x : Ctx C g v m past s k w) where
    abbrev here : AbstractLog
    here = record { durable = k; pending = w }

    abbrev After : Call → Type 0
    After c = Clean (cond (not (eqb (first_of (rows_of c v m s)) 0)) here (step_call here c))
        (volume_after v (outcome_of c v m s).stored) (outcome_of c v m s).state

    by-table : (rows : List Row) (done : Outcome) (b : AbstractLog) → Clean here v s
        → (first_of rows ≡ 0 → Clean b (volume_after v done.stored) done.state)
        → Clean (cond (not (eqb (first_of rows) 0)) here b) (volume_after v (decided rows m s done).stored) (decided rows m s done).state
    unfolding volume_after decided
    by-table rows done b n h = by_cases (eqb (first_of rows) 0) (λ e. rw e (h (eqb-true (first_of rows) 0 e))) (λ e. rw e n)

    -- the own image reads as before, and the page has no new change
    keep : (b : AbstractLog) (v' : List ℕ) → b.durable ++ b.pending ≡ k ++ w
        → item g v' (page_at p) ≡ item g v (page_at p) → Clean here v s → Clean b v' s
    keep b v' l e n = rw (l, e) n

    in_table : (q : ℕ) → 1 ≤ q → q ≤ x.al.F → q - 1 < 16
    in_table q a b = omega (arith, x.al.memory.high)

    load-clean : (q r : ℕ) → Clean here v s → After (Load q r, no_payload)
    unfolding decided load_done step_call volume_after
    load-clean q r n = by-table (load_rows v m s q r) _ _ n (λ e.
        let l = loaded x q r e in
        let t = is_good (class_in (geometry_of v) q (state_view (geometry_of v) v s q)) in
        λ j b. by_row s.frames (r - 1) q (not t) x.al.frames.size (in_table r l.frame-low l.frame-high) j
        (λ z d.
        let u = state_view g v s q in
        let good : is_good (class_in g q u) ≡ true = rw (geo x) at (not-true' t d) in
        let y = good-is (valid_image g q u.own) (image_lsn u.own) u.durable u.written good in
        let dur : u.durable ≡ last_of q (k ++ w) = ap (λ (a : Entry). a.durable) (entry-is x q l.low l.high)
        ∙ (sym l.settled ∙ ap (last_of q) x.al.log.split) in
        subst (λ (i : ℕ). (valid_image g i (item g v (page_at i)) ≡ true) × (image_lsn (item g v (page_at i)) ≡ last_of i (k ++ w))) z
        (y.0, y.1 ∙ dur))
        (λ z a c. n j b a c))
      where
        not-true' : (t : Bool) → not t ≡ false → t ≡ true
        not-true' true e = refl
        not-true' false e = absurd (true-not-false refl e)

    write-clean : (q : ℕ) → Clean here v s → After (Write q, no_payload)
    unfolding decided write_outcome step_call volume_after
    write-clean q n = by-table (write_rows v m s q) _ _ n (λ e. by_cases (page_dirty s q)
        (λ d. rw (d, geo x) (go e d)) (λ d. rw d n))
      where
        go : first_of (write_rows v m s q) ≡ 0 → page_dirty s q ≡ true
            → (j : ℕ) → j < 16 → (frame (set s.frames (holder s q - 1) (record { page = q; dirty = false })) j).page ≡ p
            → (frame (set s.frames (holder s q - 1) (record { page = q; dirty = false })) j).dirty ≡ false
            → Newest (k ++ w) (store g v (page_at q) (seal_image g (frame_bytes m (holder s q))))
        go e d j b a c =
            let y = asked x q e in let fo = y.frame-of in let rd = y.ready d in
            let xs = seal_image g (frame_bytes m (holder s q)) in
            let five = sealed-size x q fo rd.2 in
            elim (ℕ_discrete p q) [
              | yes z ↦
                  let num : image_lsn xs ≡ last_of q (k ++ w) =
                  sealed-lsn x q fo rd.2 ∙ (lsn-is x q fo rd.2 ∙ ap (last_of q) x.al.log.split) in
                  rw z (rw (store_same g v x.hs.vol (page_at q) xs (fo.framed.low, fo.framed.high) five)
                  (sealed-valid x q fo rd.2, num))
              | no z ↦
                  rw (page-page g p 0 lo hi x q xs fo.framed.low fo.framed.high five z)
                  (by_row s.frames (holder s q - 1) q false x.al.frames.size
                  (omega (arith, fo.holder-is, fo.in_table, x.al.memory.high)) j
                  (λ u t. absurd (z (sym u))) (λ u t o. n j b t o) a c)
            ]

    -- after a put of the page itself nothing need be known before
    put-row : (q : ℕ) → first_of (change_rows v m s q (Put 0 1)) ≡ 0 → (p ≢ q → Clean here v s) → (c : Logged) → c.page ≡ q
        → (j : ℕ) → j < 16 → (frame (set s.frames (holder s q - 1) (record { page = q; dirty = true })) j).page ≡ p
        → (frame (set s.frames (holder s q - 1) (record { page = q; dirty = true })) j).dirty ≡ false
        → Newest (k ++ (w ++ (c ∷ []))) v
    put-row q e n c pg j b a d =
        let fo = put-found x q e in
        by_row s.frames (holder s q - 1) q true x.al.frames.size
        (omega (arith, fo.holder-is, fo.in_table, x.al.memory.high)) j
        (λ u t. absurd (true-not-false refl t))
        (λ u t o. elim (ℕ_discrete p q) [
          | yes z ↦
              let nz : (frame s.frames j).page ≢ 0 = λ y. omega (arith, t, y, lo) in
              let f : j < x.al.F = x.al.frames.inside j b nz in
              absurd (u (x.al.frames.once j fo.row f fo.in_table nz (t ∙ (z ∙ sym fo.page-is)) ∙ omega (arith, fo.holder-is)))
          | no z ↦
              let y = n z j b t o in
              let l : last_of p (k ++ (w ++ (c ∷ []))) ≡ last_of p (k ++ w) =
              ap (last_of p) (sym (append_assoc k w (c ∷ []))) ∙ number-miss (k ++ w) c p (λ i. z (i ∙ pg)) in
              (y.0, y.1 ∙ sym l)
        ]) a d

    put-clean : (q : ℕ) → Clean here v s → After (refresh m s q)
    unfolding decided change_done step_call volume_after appended_state
    put-clean q n = by-table (change_rows v m s q (Put 0 1)) _ _ n (λ e. put-row q e (λ z. n) _ refl)

    -- after a put of the page itself nothing need be known before
    own_put : first_of (change_rows v m s p (Put 0 1)) ≡ 0 → After (refresh m s p)
    unfolding decided change_done step_call volume_after appended_state
    own_put e = rw e (put-row p e (λ z. absurd (z refl)) _ refl)

    backup-clean : (q b : ℕ) → Clean here v s → After (Backup q b, no_payload)
    unfolding decided backup_done step_call volume_after
    backup-clean q b n = by-table (backup_rows v m s q b) _ _ n (λ e.
        let y = backed x q b e in
        rw (geo x) (keep here _ refl
        (slot-page g p 0 lo hi x b _ y.slot-low y.slot-high (sealed-size x q y.frame-of y.forced-to)) n))

    force-done : (w' : List Logged) → w ≡ w' → Clean here v s
        → Clean (move_first k w) (volume_after v (forced x).stored) (forced x).state
    unfolding volume_after forced_state
    force-done [] e n = rw (none-pending x e, e) (rw e at n)
    force-done (c ∷ r) e n =
        let six = pending-length m (memory-facts m (memory-ok x)) (s.durable + 1) in
        rw (some-pending x c r e, e, geo x) (keep (record { durable = k ++ (c ∷ []); pending = r }) _
        (append_assoc k (c ∷ []) r ∙ rw e) (record-page g p 0 lo hi x (pending_bytes m (s.durable + 1)) six) n)

    force-clean : Clean here v s → After (Force, no_payload)
    unfolding decided force_done step_call volume_after
    force-clean n = by-table (force_rows v m s) (forced x) (move_first k w) n (λ e. force-done w refl n)

    note-done : (y : PendingNote) → PendingOk C g v k x.ns y → Clean here v s
        → Clean here (volume_after v (note_stored v m s y).stored) (note_stored v m s y).state
    unfolding volume_after noted_state
    note-done None t n = n
    note-done (Some y) t n =
        rw (geo x) (keep here _ refl (note-page g p 0 lo hi x (note_bytes y) (note-length y) t.3.0) n)

    note-clean : Clean here v s → After (NoteCall, no_payload)
    unfolding decided step_call volume_after
    note-clean n = by-table (note_rows v m s) (note_stored v m s s.note) here n (λ e. note-done s.note x.al.note-ok n)

    pub renewal-clean : (r q : ℕ) (written : Bool) (c : Call) → Renewal v m s r q written c → Clean here v s → After c
    renewal-clean r q written c (loads h a e) n = rw e (load-clean q r n)
    renewal-clean r q written c (backs h t b a e) n = rw e (backup-clean q _ n)
    renewal-clean r q written c (writes h t d a e) n = rw e (write-clean q n)
    renewal-clean r q written c (puts h t d a e) n = rw e (put-clean q n)

    pub advised-clean : (r : ℕ) (c : Call) → Advised v m s r c → Clean here v s → After c
    advised-clean r c (notes a e) n = rw e (note-clean n)
    advised-clean r c (forces a b e) n = rw e (force-clean n)
    advised-clean r c (by_note a q o i l h y u) n = renewal-clean r _ _ c u n
    advised-clean r c (by_log a q o n1 n2 i l h y fi u) n = renewal-clean r _ _ c u n

    -- after mending's Load or put of the page
    pub mended-clean : (r : ℕ) (written : Bool) (c : Call) → Renewal v m s r p written c → first_of (rows_of c v m s) ≡ 0
        → ((held s p ≡ true) → (page_dirty s p ≡ true ⊎ written ≡ false) → Clean here v s) → After c
    mended-clean r written c (loads h a e) z n = rw e (load-clean p r (λ j b i d. absurd (nowhere x p h j (x.al.frames.inside j b (λ y. omega (arith, i, y, lo))) i)))
    mended-clean r written c (backs h t b a e) z n = rw e (backup-clean p _ (n h (inr t)))
    mended-clean r written c (writes h t d a e) z n = rw e (write-clean p (n h (inl d)))
    mended-clean r written c (puts h t d a e) z n = rw e (own_put (rw e at z))

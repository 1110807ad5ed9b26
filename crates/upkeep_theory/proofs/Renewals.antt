-- T2's invariant is kept by each call of a renewal, U3's and U4's, while no note and no record is pending.
use mathlib.Core.Path.{◌≡◌, refl, sym, ap, ◌∙◌}
use mathlib.Core.Logic.{◌≢◌, ◌⊎◌, inl, inr}
use mathlib.Core.Bool.{Bool, true, false, not}
use mathlib.Core.List.{List, [], ◌∷◌}
use Prim.Native.Nat.{ℕ, zero, suc, ◌+◌, ◌-◌, ◌≤◌, ◌<◌}
use native.Mathlib.Nat.{le_of_suc-le-suc}
use native.Mathlib.Omega.{arith}
use lib.Dec.{eqb, ltb}
use lib.ListN.{length, get_or, set}
use lib.Seq.{get_or-set_same}
use borrow.Author.Tests.{eqb-true, eq-eqb, lt-ltb}
use Rattle.laws.proofs.Tables.{by_cases, true-not-false}
use Rattle.laws.proofs.Ring.{slot-in}
use Rattle.model.specs.Tables.{Row, first_of}
use Rattle.model.specs.Geometry.{ring, slot_of}
use Rattle.model.specs.Item.{is_written, note_of}
use Rattle.model.specs.Index.{entry_of}
use Rattle.model.specs.Scan.{log_record, note_record}
use Rattle.model.specs.State.{frame_of, empty_frame, holder_from, holder, held, note_pending, note_needed, note_whole}
use Rattle.model.specs.State.{record_needed}
use Rattle.model.specs.Refusals.{page_dirty, load_rows, change_rows, write_rows, backup_rows}
use Rattle.model.specs.Outcome.{StoredItem, Outcome, volume_after, decided}
use Rattle.model.specs.Effects.{appended_state, backup_done, change_done, load_done, write_outcome}
use Rattle.model.specs.Calls.{outcome_of, no_payload}
use Rattle.model.specs.declared.{change.Change.TheVariants.Put, geometry.Geometry.Geometry, item.Note.Note}
use Rattle.model.specs.declared.{state.Entry.Entry, state.Frame.Frame, state.State.State}
use Rattle.model.specs.declared.command.Command.TheVariants.{Load, Write}
use Rattle.model.specs.declared.command.Command.TheVariants.{Backup}
use Rattle.model.specs.AbstractLog.{Logged}
use Rattle.history.proofs.Marks.{note as note', mark_at}
use Rattle.history.proofs.Images.{sealed-size}
use Rattle.history.proofs.Persists.{writes, backs}
use Rattle.history.proofs.Context.{Ctx, geo, entry-is, Found}
use Rattle.upkeep_policy.specs.Upkeep.{reserve, refresh}
use Rattle.upkeep_theory.proofs.Shift.{alike, note-same}
use Rattle.upkeep_theory.proofs.Text.{put-found}
use Rattle.upkeep_theory.proofs.NotesTidy.{NotesTidy, alike-holds, leave-second}
use Rattle.upkeep_theory.proofs.Near.{wrote_in, stands-whole, wrote-note}
use Rattle.upkeep_theory.proofs.Tidy.{Tidy, From, Busy}
use Rattle.upkeep_theory.proofs.Apart.{Apart, apart_none, apart-page, apart-slot, marks-index}
use Rattle.upkeep_theory.proofs.TidySteps.{still, put_record, leave}
use Rattle.upkeep_theory.proofs.Live.{marks-appended, frame-above}
use Rattle.upkeep_theory.proofs.Step.{l2, place2, note-came, no_record, not-busy, no_note}
use Rattle.upkeep_theory.proofs.StateCounts.{appended-counts}
use Rattle.model.specs.Types.{None, Some}

-- a frame set anew with the page that it had is found as before
pub holder-set : (i p j : ℕ) (fs : List Frame) (d : Bool) → (get_or fs j empty_frame).page ≡ p → j < length fs
    → holder_from i p (set fs j (record { page = p; dirty = d })) ≡ holder_from i p fs
unfolding holder_from
holder-set i p j [] d e b = absurd (omega arith)
holder-set i p zero (f ∷ fs) d e b = rw (eq-eqb p p refl, eq-eqb f.page p e)
holder-set i p (suc j) (f ∷ fs) d e b = rw (holder-set (suc i) p j fs d e (le_of_suc-le-suc b))

module _ {g : Geometry} {v : List ℕ} {s : State} {cuts : ℕ} (t : Tidy g v s cuts) where
  -- the invariant after an outcome, with the same k0
  abbrev pub Then : Outcome → Type 0
  Then o = From g (volume_after v o.stored) o.state cuts t.z.k0

  pub by_rows : (m : List ℕ) (rows : List Row) (done : Outcome) → (first_of rows ≡ 0 → Then done)
      → Then (decided rows m s done)
  unfolding volume_after decided
  by_rows m rows done h = by_cases (eqb (first_of rows) 0) (λ e. rw e (h (eqb-true (first_of rows) 0 e)))
      (λ e. rw e (t, refl))

module _ {C : Type 0} {g : Geometry} {v m : List ℕ} {past : List StoredItem} {s : State} {k w : List Logged}
    (x : Ctx C g v m past s k w) (turns : ring g ≡ true) (n2 : 2 ≤ g.notes) (cuts : ℕ) (t : Tidy g v s cuts)
    (noting : note_pending s.note ≡ false) (silent : s.pending ≡ 0) where
  absent : s.note ≡ None
  absent = no_note s.note noting

  pub load_step : (p r : ℕ) → t.b ≡ 0 → Then t (outcome_of (Load p r, no_payload) v m s)
  unfolding decided load_done volume_after
  load_step p r b0 = by_rows t m (load_rows v m s p r) _ (λ e.
      still g v x.hs.vol s (l2 x turns n2) n2 cuts t v (apart_none g v) _ (marks-index g s _ refl) refl
      refl refl refl
      0 (omega arith) (omega arith) (λ h. absurd (omega arith)))

  pub backup-step : (p b : ℕ) → t.b ≡ 0
      → ((n : Note) → n.page ≡ p → n.kind ≡ 2 → NotesTidy g v s.notes t.z.k0 (Some n))
      → ((j : ℕ) → s.durable ≤ j + g.records → suc j + g.records ≡ t.z.d0 + t.z.u + reserve g
      → record_needed g v s (suc j) ≡ true
      → (log_record g v (suc j)).page ≡ p)
      → Then t (outcome_of (Backup p b, no_payload) v m s)
  unfolding decided backup_done volume_after
  backup-step p b b0 nt next = by_rows t m (backup_rows v m s p b) _ (λ e.
      let q = backs x p b e in let fo = q.frame-of in
      rw (geo x) (leave g v x.hs.vol s (l2 x turns n2) n2 cuts t _
      (apart-slot g v x.hs.vol b q.slot-low q.slot-high _ (sealed-size x p fo q.forced-to)) _
      (marks-index g s _ refl) refl refl
      silent silent _ refl (nt _ refl refl)
      (λ u j a c e y. (frame-above x silent p fo j a c e y, fo.framed.low, fo.framed.high))
      (λ j a e y. (refl, next j a e y))
      0 (omega arith) (omega arith) (λ h. absurd (omega arith))))

  -- the page of a put is in a frame, and dirty
  pub dirty-now : (p : ℕ) → Found x p → (held (appended_state s p (holder s p)) p ≡ true)
      × (page_dirty (appended_state s p (holder s p)) p ≡ true)
  unfolding appended_state
  dirty-now p d =
      let row : holder s p - 1 ≡ d.row = omega (arith, d.holder-is) in
      let b : holder s p - 1 < length s.frames =
      omega (arith, row, d.in_table, x.al.memory.high, x.al.frames.size) in
      let e : holder (appended_state s p (holder s p)) p ≡ holder s p =
      holder-set 0 p (holder s p - 1) s.frames true (rw row d.page-is) b in (
        ap (λ (h : ℕ). ltb 0 h) e ∙ lt-ltb 0 (holder s p) (omega (arith, d.holder-is)),
        ap (λ (h : ℕ). (frame_of (appended_state s p (holder s p)) h).dirty) e
            ∙ ap (λ (y : Frame). y.dirty) (get_or-set_same s.frames (holder s p - 1) (record {
              page = p;
              dirty =
                  true;
            }) empty_frame b),
      )

  -- position 2 is needed, and of page p
  module _ (at2 : place2 x turns n2 + g.notes ≡ suc s.notes)
      (need : note_needed g v s.notes (suc (place2 x turns n2)) ≡ true) where
    abbrev a : ℕ
    a = place2 x turns n2

    pub came : s.notes ≢ t.z.k0
    came = note-came x turns n2 cuts t at2 need

    whole : (b : ℕ) → t.z.k0 ≤ b → b < s.notes → note_whole g v (suc b) ≡ true
    whole b lo hi = (stands-whole g v k x.hs x.ns x.no b (omega (arith, x.al.notes-is))
        (omega (arith, t.near, x.al.notes-is))).1

    -- the note at position 2 is one of the list
    is-note : note_record g v (suc a) ≡ note' x.ns a
    is-note = (stands-whole g v k x.hs x.ns x.no a (omega (arith, x.al.notes-is))
        (omega (arith, x.al.notes-is))).0

    renews-second : (n : Note) → alike (note_record g v (suc a)) n ≡ true
        → NotesTidy g v s.notes t.z.k0 (Some n)
    renews-second n same = leave-second g v t.notes n2 t.near whole a at2 need n same

    kind-two : is_written (note_record g v (suc a)) ≡ false → (note_record g v (suc a)).kind ≡ 2
    kind-two u = rw is-note ((x.no.fit a (omega (arith, x.al.notes-is))).backed (rw is-note at u)).kind-is

    -- the renewal is under way
    same-record : (v' : List ℕ) → Apart g v v' → note_record g v' (suc a) ≡ note_record g v (suc a)
    same-record v' ap' = ap note_of (let q = slot-in g.notes a (omega arith) in
        ap'.notes (slot_of g.notes (suc a)) q.0 q.1)

    busy-of : is_written (note_record g v (suc a)) ≡ true → (v' : List ℕ) → Apart g v v' → (s' : State)
        → s'.notes ≡ s.notes
        → ((held s' (note_record g v (suc a)).page ≡ true) × (page_dirty s' (note_record g v (suc a)).page ≡ true))
        ⊎ (note_pending s'.note ≡ true)
        → Busy g v' s'
    busy-of wr v' ap' s' kk lv =
        record {
          place = a;
          second = omega arith;
          needed = rw kk (note-same g v x.hs.vol (omega arith) v' s.notes a (omega arith) ap'.notes) ∙ need;
          written = rw (same-record v' ap') wr;
          live = rw (same-record v' ap') lv;
        }

    second-written : is_written (note_record g v (suc a)) ≡ true → (n : Note) → n.page ≡ (note_record g v (suc a)).page
        → n.kind ≡ 1
        → NotesTidy g v s.notes t.z.k0 (Some n)
    second-written wr n p q =
        renews-second n (alike-holds (note_record g v (suc a)) n p (q
        ∙ sym (eqb-true (note_record g v (suc a)).kind 1 wr)))

    pub second-backup : is_written (note_record g v (suc a)) ≡ false → (n : Note) → n.page ≡ (note_record g v (suc a)).page
        → n.kind ≡ 2
        → NotesTidy g v s.notes t.z.k0 (Some n)
    second-backup wr n p q = renews-second n (alike-holds (note_record g v (suc a)) n p (q ∙ sym (kind-two wr)))

    pub write_step : is_written (note_record g v (suc a)) ≡ true → (p : ℕ) → p ≡ (note_record g v (suc a)).page
        → Then t (outcome_of (Write p, no_payload) v m s)
    unfolding decided write_outcome volume_after
    write_step wr p pe = by_rows t m (write_rows v m s p) _ (λ e. by_cases (page_dirty s p)
        (λ d. let q = writes x p e in let rd = q.ready d in let fo = q.frame-of in
        let ap' = apart-page g v x.hs.vol p fo.framed.low fo.framed.high _ (sealed-size x p fo rd.2) in
        rw (d, geo x) (leave g v x.hs.vol s (l2 x turns n2) n2 cuts t _ ap' _ (marks-index g s _ refl) refl refl
        silent silent _ refl (second-written wr _ pe refl)
        (λ u. absurd (true-not-false refl u)) (λ j b c y. no_record x turns n2 cuts t came j b c y)
        t.b t.sums.b-one (omega arith) (λ h. busy-of wr _ ap' _ refl (inr refl))))
        (λ d. rw d (t, refl)))

    -- a page with a written note is written
    some_written : is_written (note_record g v (suc a)) ≡ true
        → ((p : ℕ) → 1 ≤ p → p ≤ g.pages → (entry_of s.index p).written ≡ 0) → ⊥
    some_written wr h =
        let ab : a < length x.ns = omega (arith, x.al.notes-is) in
        let f = x.no.fit a ab in
        let p = (note' x.ns a).page in
        let q : suc ((note' x.ns a).page - 1) ≡ (note' x.ns a).page = omega (arith, f.low) in
        let y : wrote_in x.ns ((note' x.ns a).page - 1) ≡ true =
        wrote-note g v k x.hs x.ns x.no a ab (rw is-note at wr) in
        let y' : not (eqb (mark_at p x.ns (length x.ns)).written 0) ≡ true = rw q at y in
        let e : (mark_at p x.ns (length x.ns)).written ≡ 0 =
        sym (ap (λ (y : Entry). y.written) (entry-is x p f.low f.high)) ∙ h p f.low f.high in
        true-not-false (rw (eq-eqb (mark_at p x.ns (length x.ns)).written 0 e) at y') refl

    pub put_step : is_written (note_record g v (suc a)) ≡ true → (p : ℕ) → p ≡ (note_record g v (suc a)).page
        → page_dirty s p ≡ false
        → Then t (outcome_of (refresh m s p) v m s)
    unfolding decided change_done volume_after
    put_step wr p pe clean = by_rows t m (change_rows v m s p (Put 0 1)) _ (λ e.
        let d = put-found x p e in
        put_record g v x.hs.vol s (l2 x turns n2) n2 cuts t v (apart_none g v) (appended_state s p (holder s p))
        (marks-appended g s p (holder s p))
        ac.0 ac.1 silent ac.2 came
        (not-busy x turns n2 cuts t (λ q1 q2 q3 l. true-not-false (rw (← pe) at l.1) clean) noting) absent ac.3
        (busy-of wr v (apart_none g v) (appended_state s p (holder s p)) ac.0 (inl (rw (← pe) (dirty-now p d))))
        (some_written wr))
      where
        ac : ((appended_state s p (holder s p)).notes ≡ s.notes) × ((appended_state s p (holder s p)).durable ≡ s.durable)
            × ((appended_state s p (holder s p)).pending ≡ 1) × ((appended_state s p (holder s p)).note ≡ None)
        ac = let y = appended-counts s p (holder s p) in (y.0, y.1, omega (arith, y.2), y.3 ∙ absent)

-- T2's invariant is kept by every call: a user's where upkeep is idle, and the one that upkeep advises.
use mathlib.Core.Path.{◌≡◌, refl}
use mathlib.Core.Logic.{◌≢◌, ⊎_elim}
use mathlib.Core.Bool.{true, false}
use mathlib.Core.List.{List}
use Prim.Native.Nat.{ℕ, suc, ◌+◌, ◌-◌, ◌≤◌}
use native.Mathlib.Omega.{arith}
use native.Mathlib.Decide.{ℕ_discrete}
use lib.Dec.{eqb, leb, ltb}
use borrow.Author.Tests.{eqb-true, ltb-true, leb-true, eq-eqb}
use Rattle.laws.proofs.Tables.{by_cases, and_left, and_right, true-not-false}
use Rattle.model.specs.Tables.{Row, first_of}
use Rattle.model.specs.Geometry.{ring}
use Rattle.model.specs.Item.{is_written}
use Rattle.model.specs.Scan.{note_record}
use Rattle.model.specs.State.{holder, held, note_pending, note_needed, record_needed}
use Rattle.model.specs.Refusals.{page_dirty, begin_rows, load_rows, change_rows, force_rows, write_rows, backup_rows}
use Rattle.model.specs.Refusals.{release_rows, note_rows}
use Rattle.model.specs.Outcome.{StoredItem, Outcome, volume_after, decided}
use Rattle.model.specs.Effects.{note_stored, appended_state, backup_done, begin_done, change_done, force_done, load_done, release_done, write_outcome}
use Rattle.model.specs.Calls.{Call, outcome_of}
use Rattle.model.specs.declared.{geometry.Geometry.Geometry, item.Note.Note}
use Rattle.model.specs.declared.state.State.{State}
use Rattle.model.specs.declared.command.Command.TheVariants.{Begin, Load, Force, Write, Release, StartCarry, Restamp, FinishCarry}
use Rattle.model.specs.declared.command.Command.TheVariants.{Change, Backup, Note as NoteCall}
use Rattle.model.specs.Carry.{carries}
use Rattle.model.specs.AbstractLog.{Logged}
use Rattle.history.proofs.Images.{sealed-size}
use Rattle.history.proofs.Persists.{writes, backs}
use Rattle.history.proofs.Context.{Ctx, geo}
use Rattle.upkeep_policy.specs.Upkeep.{idle, upkeep_of, reserve, note_ahead, note_position}
use Rattle.upkeep_theory.proofs.Idle.{Rest, idle-rests}
use Rattle.upkeep_theory.proofs.NotesTidy.{NotesTidy, leave-user}
use Rattle.upkeep_theory.proofs.Tidy.{Tidy, Reset, idle as reset}
use Rattle.upkeep_theory.proofs.Apart.{apart_none, apart-page, apart-slot, marks-index}
use Rattle.upkeep_theory.proofs.TidySteps.{still, user-record, leave}
use Rattle.upkeep_theory.proofs.Live.{marks-appended, frame-above}
use Rattle.model.specs.Types.{PendingNote, None, Some}

pub no_note : (n : PendingNote) → note_pending n ≡ false → n ≡ None
no_note None e = refl
no_note (Some y) e = absurd (true-not-false refl e)

module _ {C : Type 0} {g : Geometry} {v m : List ℕ} {past : List StoredItem} {s : State} {k w : List Logged}
    (x : Ctx C g v m past s k w) (turns : ring g ≡ true) (n2 : 2 ≤ g.notes) where
  pub l2 : 2 ≤ g.records
  l2 = leb-true 2 g.records (and_right (eqb g.tag 0x32) (leb 2 g.records) turns)

  abbrev After : Outcome → ℕ → Type 0
  After o cuts = Tidy g (volume_after v o.stored) o.state cuts

  pub by-table : (cuts : ℕ) → Tidy g v s cuts → (rows : List Row) (done : Outcome)
      → (first_of rows ≡ 0 → After done cuts)
      → After (decided rows m s done) cuts
  unfolding volume_after decided
  by-table cuts t rows done h = by_cases (eqb (first_of rows) 0) (λ e. rw e (h (eqb-true (first_of rows) 0 e)))
      (λ e. rw e t)

  -- ---- where upkeep is idle

  module _ (r : ℕ) (rests : upkeep_of v m s r ≡ idle) (cuts : ℕ) where
    rest : Rest v s
    rest = idle-rests v m s r (rw (geo x) turns) rests

    quiet : s.pending ≡ 0
    quiet = rest.pending

    absent : s.note ≡ None
    absent = no_note s.note rest.noting

    pub idle-reset : Reset g v s cuts
    idle-reset =
        reset g v s absent quiet l2 n2 (rw (geo x) at (rest.notes 1 (omega arith) (omega arith)))
        (rw (geo x) at (rest.notes 2 (omega arith) (omega arith))) (rw (geo x) at rest.log) cuts

    abbrev t : Tidy g v s cuts
    t = idle-reset.tidy

    frames-only : (s' : State) → s'.index ≡ s.index → s'.notes ≡ s.notes → s'.durable ≡ s.durable
        → s'.pending ≡ s.pending
        → s'.note ≡ s.note → Tidy g v s' cuts
    frames-only s' a b c d e =
        (still g v x.hs.vol s l2 n2 cuts t v (apart_none g v) s' (marks-index g s s' a) b c d e 0 (omega arith)
        (omega (arith, idle-reset.b-is)) (λ h. absurd (omega arith))).0

    one_more : (p f : ℕ) → Tidy g v (appended_state s p f) cuts
    unfolding appended_state
    one_more p f = user-record g v x.hs.vol s l2 n2 cuts t v (apart_none g v) (appended_state s p f)
        (marks-appended g s p f) refl refl
        quiet (omega (arith, quiet)) idle-reset.k-is idle-reset.d-is idle-reset.u-is absent absent
        idle-reset.b-is

    -- the user's owed note
    no-next : {A : Type 0} (j : ℕ) → s.durable ≤ j + g.records → suc j + g.records ≡ t.z.d0 + t.z.u + reserve g
        → record_needed g v s (suc j) ≡ true → A
    no-next j a e y = absurd (true-not-false y (t.log.spare j a (omega (arith, idle-reset.u-is))))

    user-notes : (n : Note) → NotesTidy g v s.notes t.z.k0 (Some n)
    user-notes n = leave-user g v t.notes idle-reset.k-is n

    no-note-step : (y : PendingNote) → y ≡ None → After (note_stored v m s y) cuts
    unfolding volume_after
    no-note-step None e = t
    no-note-step (Some n) e = let q : ◌≡◌ {A = ℕ} 0 1 = cc in absurd (omega arith)

    pub user-step : (c : Call) → carries c ≡ false → After (outcome_of c v m s) cuts
    unfolding decided begin_done load_done change_done force_done write_outcome backup_done release_done volume_after
    user-step (Begin p f fill, _) o = by-table cuts t (begin_rows v m s p f) _ (λ e. one_more p f)
    user-step (Load p f, _) o = by-table cuts t (load_rows v m s p f) _ (λ e. frames-only _ refl refl refl refl refl)
    user-step (Change p c, payload) o = by-table cuts t (change_rows v m s p c) _ (λ e. one_more p (holder s p))
    user-step (Force, _) o = by-table cuts t (force_rows v m s) _ (λ e. rw (eq-eqb s.pending 0 quiet) t)
    user-step (Write p, _) o = by-table cuts t (write_rows v m s p) _ (λ e. by_cases (page_dirty s p)
        (λ d. let q = writes x p e in let rd = q.ready d in let fo = q.frame-of in
        rw (d, geo x) (leave g v x.hs.vol s l2 n2 cuts t _
        (apart-page g v x.hs.vol p fo.framed.low fo.framed.high _ (sealed-size x p fo rd.2)) _
        (marks-index g s _ refl) refl refl
        quiet quiet _ refl (user-notes _) (λ u. absurd (true-not-false refl u)) (λ j a e y. no-next j a e y)
        0 (omega arith) (omega (arith, idle-reset.b-is)) (λ h. absurd (omega arith))).0)
        (λ d. rw d t))
    user-step (Backup p b, _) o = by-table cuts t (backup_rows v m s p b) _ (λ e.
        let q = backs x p b e in let fo = q.frame-of in
        rw (geo x) (leave g v x.hs.vol s l2 n2 cuts t _
        (apart-slot g v x.hs.vol b q.slot-low q.slot-high _ (sealed-size x p fo q.forced-to)) _
        (marks-index g s _ refl) refl refl
        quiet quiet _ refl (user-notes _)
        (λ u j a c e y. (frame-above x quiet p fo j a c e y, fo.framed.low, fo.framed.high))
        (λ j a e y. no-next j a e y)
        0 (omega arith) (omega (arith, idle-reset.b-is)) (λ h. absurd (omega arith))).0)
    user-step (Release p, _) o = by-table cuts t (release_rows v m s p) _ (λ e. frames-only _ refl refl refl refl refl)
    user-step (NoteCall, _) o = by-table cuts t (note_rows v m s) _ (λ e. no-note-step s.note absent)
    user-step (StartCarry, _) o = absurd (true-not-false refl o)
    user-step (Restamp, _) o = absurd (true-not-false refl o)
    user-step (FinishCarry, _) o = absurd (true-not-false refl o)

  -- ---- the call that upkeep advises

  -- the place of position 2
  abbrev pub place2 : ℕ
  place2 = s.notes + 1 - g.notes

  module _ (cuts : ℕ) (t : Tidy g v s cuts) where
    -- of the two positions it is the second that is needed
    pub needs-second : (i : ℕ) → 1 ≤ i → i ≤ 2 → note_ahead g v s i ≡ true
        → (i ≡ 2) × (place2 + g.notes ≡ suc s.notes) × (note_needed g v s.notes (suc place2) ≡ true)
        × (note_position g s i ≡ suc place2)
    unfolding note_ahead
    needs-second i lo hi y =
        let b =
        ltb-true g.notes (s.notes + i)
        (and_left (ltb g.notes (s.notes + i)) (note_needed g v s.notes (note_position g s i)) y) in
        let q : note_needed g v s.notes (note_position g s i) ≡ true =
        and_right (ltb g.notes (s.notes + i)) (note_needed g v s.notes (note_position g s i)) y in
        elim (ℕ_discrete i 2) [
          | yes e ↦
              let p : s.notes + i - g.notes ≡ suc place2 = omega arith in
              (e, omega arith, rw p at q, p)
          | no n ↦
              let a = s.notes - g.notes in
              let p : s.notes + i - g.notes ≡ suc (s.notes - g.notes) = omega arith in
              absurd (true-not-false (rw p at q) (t.notes.first (s.notes - g.notes) (omega arith)))
        ]

    -- where position 2 is needed a note came since k0
    pub note-came : place2 + g.notes ≡ suc s.notes → note_needed g v s.notes (suc place2) ≡ true
        → s.notes ≢ t.z.k0
    note-came e y z = true-not-false y (t.notes.second z place2 e)

    -- and so the record at the reserve is spare
    pub no_record : {A : Type 0} → s.notes ≢ t.z.k0 → (j : ℕ) → s.durable ≤ j + g.records
        → suc j + g.records ≡ t.z.d0 + t.z.u + reserve g
        → record_needed g v s (suc j) ≡ true → A
    no_record ne j a e y = ⊎_elim (λ f. absurd (ne f.0)) (λ f. absurd (true-not-false y (f j a (omega arith))))
        t.log.next

    -- no renewal of a written note is under way while upkeep has something else to do
    pub not-busy : ((place2 + g.notes ≡ suc s.notes) → note_needed g v s.notes (suc place2) ≡ true
        → is_written (note_record g v (suc place2)) ≡ true
        → ((held s (note_record g v (suc place2)).page ≡ true)
        × (page_dirty s (note_record g v (suc place2)).page ≡ true)) → ⊥)
        → note_pending s.note ≡ false → t.b ≡ 0
    not-busy h noting = elim (ℕ_discrete t.b 0) [
      | yes q ↦ q
      | no q ↦
          let y = t.busy (omega arith) in
          let e : y.place ≡ place2 = omega (arith, y.second) in
          absurd (⊎_elim
          (λ l. h (omega (arith, y.second)) (rw e at y.needed) (rw e at y.written) (rw e at l))
          (λ l. true-not-false l noting) y.live)
    ]

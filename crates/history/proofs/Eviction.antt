-- A page that leaves its frame: when Release is refused, and that a later Load shows the same text.
use mathlib.Core.Path.{◌≡◌, refl, sym, ap, ◌∙◌}
use mathlib.Core.Logic.{◌≢◌}
use mathlib.Core.Bool.{Bool, true, false, cond, not}
use mathlib.Core.List.{List, [], ◌∷◌, ◌++◌, append_assoc}
use Prim.Native.Nat.{ℕ, ◌-◌, ◌≤◌, ◌<◌}
use native.Mathlib.Omega.{arith}
use native.Mathlib.Decide.{ℕ_discrete}
use lib.ListN.{length, get_or, set, length-set}
use lib.Seq.{get_or-set_same, get_or-set_other}
use lib.Dec.{eqb, ltb}
use borrow.Author.Tests.{eqb-true, ne_eqb, ltb-true, lt-ltb, le-ltb, not-false}
use Rattle.laws.proofs.Tables.{by_cases, within-holds, true-not-false}
use Rattle.laws.proofs.Frames.{is_held}
use Rattle.model.specs.Tables.{Row, first_of}
use Rattle.model.specs.Geometry.{geometry_of}
use Rattle.model.specs.Index.{entry_of}
use Rattle.model.specs.Scan.{index_of, gone}
use Rattle.model.specs.State.{frame_count, frame_bytes, empty_frame, frame_row, holder, held, blank}
use Rattle.model.specs.Refusals.{frame_blocked, page_dirty, begin_rows, load_rows, change_rows, force_rows, write_rows}
use Rattle.model.specs.Refusals.{backup_rows, release_rows, note_rows, start_carry_rows, restamp_rows, finish_carry_rows}
use Rattle.laws.proofs.Conditions.{chain_below}
use Rattle.model.specs.Passes.{image_count, first_old}
use Rattle.model.specs.Outcome.{StoredItem, nothing, Outcome, volume_after, decided, refusal_of}
use Rattle.model.specs.Effects.{with_frame, with_frames, appended_state, forced_state, noted_state, note_stored, backup_done}
use Rattle.model.specs.Effects.{begin_done, change_done, force_done, load_done, release_done, restamp_done, write_outcome}
use Rattle.model.specs.Calls.{begin_of, load_of, release_of, Call, outcome_of, no_payload}
use Rattle.model.specs.declared.{geometry.Geometry.Geometry, answer.Answer.TheVariants.Done, state.Entry.Entry}
use Rattle.model.specs.declared.{state.Frame.Frame, state.State.State}
use Rattle.model.specs.declared.command.Command.TheVariants.{Begin, Load, Force, Write, Release, StartCarry, Restamp, FinishCarry}
use Rattle.model.specs.declared.command.Command.TheVariants.{Change, Backup, Note}
use Rattle.model.specs.AbstractLog.{Logged, AbstractLog, logged_change}
use Rattle.model.specs.History.{on}
use Rattle.model.specs.Claim.{History, Legal, reached, log_of, durable_of, start_stands}
use Rattle.model.specs.declared.change.Change.TheVariants.{Format}
use Rattle.history.specs.Facts.{volume_of, heading_of, Releases, Evicted}
use Rattle.history.proofs.Logs.{last_of, body_of, last-mono, number-miss, body-miss, last-is}
use Rattle.history.proofs.Inv.{Settled, frame, Inv}
use Rattle.history.proofs.FrameSteps.{Holder, found}
use Rattle.history.proofs.Context.{Ctx, Preserved, passed, in-range, geo, len, entry-is, last_entry}
use Rattle.history.proofs.Context.{durable-last, Found, found-frame, nowhere}
use Rattle.history.proofs.Loads.{load-unbroken, load-whole, load-granted, below-only, keep_load}
use Rattle.history.proofs.Appends.{keep-begin}
use Rattle.history.proofs.Release.{keep-release}
use Rattle.history.proofs.Refusals.{call-refusal, own_rows, rows_are}
use Rattle.history.proofs.Theorem.{load-refusal, loaded_bytes}
use Rattle.history.proofs.Steps.{context}
use Rattle.history.proofs.Reached.{present, tied, live}
use Rattle.model.specs.Types.{PendingNote, None, Some}

-- what a call that took page p out of its frame leaves, in a machine that keeps the invariant
record Leaves (g : Geometry) (v m : List ℕ) (s : State) (p : ℕ) (o : Outcome) : Type 0 where
  volume : volume_after v o.stored ≡ v
  text : (f : ℕ) → refusal_of (load_of v o.memory o.state p f).answer ≡ 0
      → frame_bytes (load_of v o.memory o.state p f).memory f ≡ frame_bytes m (holder s p)
  opens : (f : ℕ) → 1 ≤ f → f ≤ frame_count (length o.memory) → frame_blocked o.state f ≡ false
      → (gone g v ≡ true → start_stands g v (entry_of (index_of g v) p) p ≡ true) → refusal_of (load_of v o.memory o.state p f).answer ≡ 0
  below : (f : ℕ) → refusal_of (load_of v o.memory o.state p f).answer ≡ 23
      → (gone g v ≡ true) × (start_stands g v (entry_of (index_of g v) p) p ≡ true → ⊥)

module _ {C : Type 0} {g : Geometry} {v m : List ℕ} {past : List StoredItem} {s : State} {k w : List Logged} (x : Ctx C g v m past s k w)
    (p : ℕ) (lo : 1 ≤ p) (hi : p ≤ g.pages) (before : held s p ≡ true) where
  found_at : Found x p
  found_at = found-frame x p lo (rw before)

  -- ---- Release

  release-rows : first_of (release_rows v m s p) ≡ cond (frame_blocked s (holder s p)) 10 0
  unfolding own_rows
  release-rows = rows_are x (Release p, no_payload) ∙ rw (geo x, within-holds g.pages p lo hi, before)

  at-page : (frame s.frames (holder s p - 1)).page ≡ p
  at-page = let q : holder s p - 1 ≡ found_at.row = omega (arith, found_at.holder-is) in rw q found_at.page-is

  free : last_of p x.all ≡ last_of p k → frame_blocked s (holder s p) ≡ false
  free e =
      let en = entry-is x p lo hi in
      rw (at-page, ne_eqb p 0 (λ z. omega arith)) (le-ltb (entry_of s.index p).durable (entry_of s.index p).last
      (omega (arith, ap (λ (y : Entry). y.last) en, ap (λ (y : Entry). y.durable) en, durable-last x p lo hi)))

  blocked : last_of p x.all ≢ last_of p k → frame_blocked s (holder s p) ≡ true
  blocked ne =
      let en = entry-is x p lo hi in
      let l = last-mono p x.all (length x.all) (length k) (omega (arith, len x)) in
      rw (at-page, ne_eqb p 0 (λ z. omega arith)) (lt-ltb (entry_of s.index p).durable (entry_of s.index p).last
      (omega (arith, ap (λ (y : Entry). y.last) en, ap (λ (y : Entry). y.durable) en, durable-last x p lo hi)))

  -- the page is in no frame once its row is emptied
  abbrev freed : State
  freed = with_frames s (with_frame s (holder s p) 0 false) s.note

  emptied : held freed p ≡ false
  emptied = by_cases (held freed p) (λ t. absurd (other (found p freed.frames (ltb-true 0 (holder freed p) t)))) (λ t. t)
    where
      other : Holder p freed.frames (holder freed p) → ⊥
      other r = elim (ℕ_discrete r.row (holder s p - 1)) [
        | yes e ↦
            let z : 0 ≡ p = sym (ap (λ (y : Frame). y.page) (get_or-set_same s.frames (holder s p - 1) empty_frame empty_frame
            (omega (arith, found_at.holder-is, found_at.in_table, x.al.memory.high, x.al.frames.size))))
            ∙ rw e at r.page-is in
            omega arith
        | no e ↦
            let q : (frame s.frames r.row).page ≡ p =
            rw (get_or-set_other s.frames (holder s p - 1) r.row empty_frame empty_frame e) at r.page-is in
            let b : r.row < x.al.F = x.al.frames.inside r.row
            (omega (arith, r.below, length-set s.frames (holder s p - 1) empty_frame, x.al.frames.size)) (λ z. omega arith) in
            let o : r.row ≡ found_at.row =
            x.al.frames.once r.row found_at.row b found_at.in_table (λ z. omega arith) (q ∙ sym found_at.page-is) in
            e (omega (arith, found_at.holder-is))
      ]

  release-empties : refusal_of (release_of v m s p).answer ≡ 0 → held (release_of v m s p).state p ≡ false
  unfolding decided release_done
  release-empties e =
      let z : first_of (release_rows v m s p) ≡ 0 = sym (call-refusal (Release p, no_payload) v m s) ∙ e in
      rw z emptied

  -- a page that is begun is blank
  other-page : (page f : ℕ) → first_of (begin_rows v m s page f) ≡ 0 → p ≢ page
  unfolding begin_rows
  other-page page f e z =
      let t = passed (begin_rows v m s page f) (omega arith) e in
      let n : (entry_of s.index p).last ≡ 0 =
      rw z (eqb-true (entry_of s.index page).last 0 (not-false (blank s page) t.1.1.1.1.1.0)) in
      omega (arith, last_entry x p lo hi, found_at.framed.some)

  -- ---- a Load of the page, in a machine in which it is in no frame and has the changes that it had

  module _ {m' : List ℕ} {past' : List StoredItem} {s' : State} {k' w' : List Logged} (x' : Ctx C g v m' past' s' k' w')
      (after : held s' p ≡ false)
      (same-last : last_of p (k' ++ w') ≡ last_of p (k ++ w)) (same_body : body_of p (k' ++ w') ≡ body_of p (k ++ w)) where
    again-text : (f : ℕ) → refusal_of (load_of v m' s' p f).answer ≡ 0
        → frame_bytes (load_of v m' s' p f).memory f ≡ frame_bytes m (holder s p)
    again-text f e =
        let b = loaded_bytes x' p f (sym (load-refusal x' p f) ∙ e) in
        b.1 ∙ (rw (← b.2, ← b.3, same-last, same_body, ← x.al.log.split) (sym found_at.framed.frame_is))

    some : last_of p x'.all ≢ 0
    some z =
        let q : last_of p x'.all ≡ last_of p x.all = rw (x'.al.log.split, x.al.log.split) same-last in
        omega (arith, found_at.framed.some)

    settled : Settled x'.all (length k') p
    settled = x'.al.frames.away p lo hi (nowhere x' p after)

    not-below : (gone g v ≡ true → start_stands g v (entry_of (index_of g v) p) p ≡ true) → chain_below g v s' p ≡ false
    not-below f = by_cases (gone g v) (λ t. load-granted x' p lo hi settled some (f t)) (λ t. load-whole x' p lo hi settled some t)

    again-opens : (f : ℕ) → 1 ≤ f → f ≤ frame_count (length m') → frame_blocked s' f ≡ false
        → (gone g v ≡ true → start_stands g v (entry_of (index_of g v) p) p ≡ true) → refusal_of (load_of v m' s' p f).answer ≡ 0
    unfolding own_rows
    again-opens f f1 f2 t q =
        load-refusal x' p f ∙ (rows_are x' (Load p f, no_payload)
        ∙ rw (
          geo x',
          within-holds g.pages p lo hi,
          within-holds (frame_count (length m')) f f1 f2,
          ne_eqb (entry_of s'.index p).last 0 (λ z. some (sym (last_entry x' p lo hi) ∙ z)),
          after,
          t,
          load-unbroken x' p lo hi settled some,
          not-below q,
        ))

    again : (o : Outcome) → o.memory ≡ m' → o.state ≡ s' → volume_after v o.stored ≡ v → Leaves g v m s p o
    again o em es ev = rw (em, es)
        (record { volume = ev; text = again-text; opens = again-opens; below = λ f e. below-only x' p f (sym (load-refusal x' p f) ∙ e) })

  -- ---- the calls that take a page out of its frame

  -- a call by its table: refused, it takes nothing out
  by-table : (rows : List Row) (done : Outcome) → (first_of rows ≡ 0 → held done.state p ≡ false → Leaves g v m s p done)
      → held (decided rows m s done).state p ≡ false → Leaves g v m s p (decided rows m s done)
  unfolding decided
  by-table rows done f h =
      by_cases (eqb (first_of rows) 0) (λ t. rw t (f (eqb-true (first_of rows) 0 t) (rw t at h)))
      (λ t. absurd (true-not-false before (rw t at h)))

  after_call : (o : Outcome) (b : AbstractLog) → o.stored ≡ nothing → Preserved C g v past o b → held o.state p ≡ false
      → last_of p (b.durable ++ b.pending) ≡ last_of p (k ++ w)
      → body_of p (b.durable ++ b.pending) ≡ body_of p (k ++ w) → Leaves g v m s p o
  unfolding volume_after
  after_call o b none i h el eb =
      let i' : Inv C g v (nothing ∷ past) (on o.memory o.state) b = rw none at i in
      again (context g v o.memory (nothing ∷ past) o.state b i') h el eb o refl refl (rw none)

  release-leaves : (page : ℕ) → held (release_of v m s page).state p ≡ false → Leaves g v m s p (release_of v m s page)
  unfolding decided release_done
  release-leaves page = by-table (release_rows v m s page) _ (λ e h. after_call _ _ refl (keep-release x page Done e) h refl refl)

  load-leaves : (page f : ℕ) → held (load_of v m s page f).state p ≡ false → Leaves g v m s p (load_of v m s page f)
  unfolding decided load_done
  load-leaves page f = by-table (load_rows v m s page f) _ (λ e h. after_call _ _ refl (keep_load x page f Done _ e) h refl refl)

  begin-leaves : (page f fill : ℕ) → held (begin_of v m s page f fill).state p ≡ false → Leaves g v m s p (begin_of v m s page f fill)
  unfolding decided begin_done
  begin-leaves page f fill = by-table (begin_rows v m s page f) _ (λ e h.
      let c = logged_change page (Format fill) [] in
      let ne : p ≢ page = other-page page f e in
      after_call _ _ refl (keep-begin x page f fill e) h
      (rw (joined c) (number-miss (k ++ w) c p ne)) (rw (joined c) (body-miss (k ++ w) c p ne)))
    where
      joined : (c : Logged) → k ++ (w ++ (c ∷ [])) ≡ (k ++ w) ++ (c ∷ [])
      joined c = sym (append_assoc k w (c ∷ []))

  -- ---- the calls that take none

  -- every row has the page that it had
  abbrev SameRows : State → Type 0
  SameRows s' = (length s'.frames ≡ length s.frames) × ((i : ℕ) → (frame_row s' i).page ≡ (frame_row s i).page)

  still : (s' : State) → SameRows s' → held s' p ≡ true
  still s' e =
      is_held s' p (holder s p - 1) (omega (arith, e.0, found_at.holder-is, found_at.in_table, x.al.memory.high, x.al.frames.size))
      (e.1 (holder s p - 1) ∙ at-page)

  stays : (o : Outcome) → SameRows o.state → held o.state p ≡ false → Leaves g v m s p o
  stays o e h = absurd (true-not-false (still o.state e) h)

  -- a page put into the row that holds it
  module _ (q : ℕ) (lo' : 1 ≤ q) (h : not (held s q) ≡ false) (t : Bool) where
    row_of : Found x q
    row_of = found-frame x q lo' h

    put_same : (i : ℕ) → (get_or (set s.frames (holder s q - 1) (record { page = q; dirty = t })) i empty_frame).page ≡ (frame_row s i).page
    put_same i = elim (ℕ_discrete i (holder s q - 1)) [
      | yes e ↦
          let r : holder s q - 1 ≡ row_of.row = omega (arith, row_of.holder-is) in
          rw (
            e,
            get_or-set_same s.frames (holder s q - 1) (record { page = q; dirty = t }) empty_frame
                (omega (arith, row_of.holder-is, row_of.in_table, x.al.memory.high, x.al.frames.size)),
            r,
          )
          (sym row_of.page-is)
      | no e ↦ ap (λ (y : Frame). y.page) (get_or-set_other s.frames (holder s q - 1) i (record { page = q; dirty = t }) empty_frame e)
    ]

  leaves : (c : Call) → held (outcome_of c v m s).state p ≡ false → Leaves g v m s p (outcome_of c v m s)
  unfolding decided change_done change_rows force_done write_outcome write_rows backup_done restamp_done appended_state forced_state noted_state
  leaves (Begin page f fill, _) = begin-leaves page f fill
  leaves (Load page f, _) = load-leaves page f
  leaves (Change page c, payload) = by-table (change_rows v m s page c) _ (λ e h.
      let t = passed (change_rows v m s page c) (omega arith) e in
      let q = in-range (geometry_of v).pages page t.1.1.1.0 in
      stays _ (length-set s.frames (holder s page - 1) _, put_same page q.0 t.1.1.1.1.1.0 true) h)
  leaves (Force, _) = by-table (force_rows v m s) _
      (λ e. by_cases (eqb s.pending 0) (λ t. rw t (stays _ (refl, λ i. refl))) (λ t. rw t (stays _ (refl, λ i. refl))))
  leaves (Write page, _) = by-table (write_rows v m s page) _ (λ e.
      let t = passed (write_rows v m s page) (omega arith) e in
      let q = in-range (geometry_of v).pages page t.1.1.1.0 in
      by_cases (page_dirty s page)
      (λ d. rw d (stays _ (length-set s.frames (holder s page - 1) _, put_same page q.0 t.1.1.1.1.0 false)))
      (λ d. rw d (stays _ (refl, λ i. refl))))
  leaves (Backup page b, _) = by-table (backup_rows v m s page b) _ (λ e. stays _ (refl, λ i. refl))
  leaves (Release page, _) = release-leaves page
  leaves (StartCarry, _) = by-table (start_carry_rows v m s) _ (λ e. stays _ (refl, λ i. refl))
  leaves (Restamp, _) = by-table (restamp_rows v m s) _
      (λ e. by_cases (ltb (first_old (geometry_of v) v s.index) (image_count (geometry_of v)))
      (λ t. rw t (stays _ (refl, λ i. refl))) (λ t. rw t (stays _ (refl, λ i. refl))))
  leaves (FinishCarry, _) = by-table (finish_carry_rows v m s) _ (λ e. stays _ (refl, λ i. refl))
  leaves (Note, _) = by-table (note_rows v m s) (note_stored v m s s.note) (λ e. noted s.note)
    where
      noted : (y : PendingNote) → held (note_stored v m s y).state p ≡ false → Leaves g v m s p (note_stored v m s y)
      noted None = stays _ (refl, λ i. refl)
      noted (Some y) = stays _ (refl, λ i. refl)

-- ---- every legal history

module _ (h : History) (legal : Legal h) (m : List ℕ) (s : State) (e : (reached h).power ≡ on m s) where
  heading : heading_of h ≡ present h
  heading = (tied h legal).holds.vol.geo

  pub releases-is : (p : ℕ) → 1 ≤ p → p ≤ h.pages → held s p ≡ true → Releases h m s p
  releases-is p lo hi t =
      let x = live h legal m s e in
      let sp : x.all ≡ durable_of h ++ (log_of h).pending = x.al.log.split in
      let r : refusal_of (release_of (volume_of h) m s p).answer ≡ cond (frame_blocked s (holder s p)) 10 0 =
      call-refusal (Release p, no_payload) (volume_of h) m s ∙ release-rows x p lo hi t in
      record {
        free = λ z. r ∙ rw (free x p lo hi t (rw sp (sym (last-is p (durable_of h ++ (log_of h).pending)) ∙ (z ∙ last-is p (durable_of h)))));
        blocked = λ z. r ∙ rw (blocked x p lo hi t
            (λ y. z (last-is p (durable_of h ++ (log_of h).pending) ∙ (rw (← sp) (y ∙ sym (last-is p (durable_of h)))))));
        gone = release-empties x p lo hi t;
      }

  pub evicts : (c : Call) → (p : ℕ) → 1 ≤ p → p ≤ h.pages → held s p ≡ true
      → held (outcome_of c (volume_of h) m s).state p ≡ false → Evicted h m s c p
  evicts c p lo hi t f =
      let l = leaves (live h legal m s e) p lo hi t c f in
      record { volume = l.volume; text = l.text; opens = rw heading l.opens; below = rw heading l.below }

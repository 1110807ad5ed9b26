-- What a call leaves for C: the range that the code finds before the call is that of what the call stores.
use mathlib.Core.Path.{◌≡◌, refl, sym, ap, ◌∙◌}
use mathlib.Core.Bool.{Bool, true, false, cond, ◌&&◌, ◌||◌, not}
use mathlib.Core.List.{List}
use Prim.Native.Nat.{ℕ, suc, ◌+◌, ◌*◌, ◌%◌, ◌≤◌, ◌<◌, ◌-◌}
use native.Mathlib.Omega.{arith}
use native.Mathlib.Nat.{mod-eq_of_lt}
use lib.Dec.{eqb, ltb}
use lib.ListN.{length}
use borrow.Author.Tests.{eq-eqb, ne_eqb, eqb-true, lt-ltb, le-ltb}
use Rattle.laws.proofs.Tables.{by_cases, and_left, and_right, not-true}
use Rattle.laws.proofs.Places.{in_item, place-fits, valid-facts}
use Rattle.laws.proofs.Demand1.{demand1}
use Rattle.laws.proofs.Restamped.{is_done}
use Rattle.model.specs.Tables.{Row, first_of}
use Rattle.model.specs.Geometry.{known_magic, log_slot, note_slot, width, start, geometry_of, valid_volume}
use Rattle.model.specs.Passes.{image_count, image_place, first_old}
use Rattle.model.specs.Refusals.{begin_rows, load_rows, change_rows, force_rows, write_rows, backup_rows, release_rows}
use Rattle.model.specs.Refusals.{note_rows, start_carry_rows, restamp_rows, finish_carry_rows, page_dirty, restart_rows}
use Rattle.model.specs.State.{zero_state}
use Rattle.model.specs.Outcome.{StoredItem, nothing, one_item, new_heading, Outcome, volume_after, unchanged, decided}
use Rattle.model.specs.Effects.{note_stored, backup_done, begin_done, change_done, force_done, load_done, release_done, restamp_done, write_outcome}
use Rattle.model.specs.Calls.{Call, rows_of, done_of, outcome_of, restamp_of, is_call, no_payload}
use Rattle.model.specs.Restart.{restart_of}
use Rattle.model.specs.declared.{geometry.Geometry.Geometry, state.State.State}
use Rattle.model.specs.declared.answer.Answer.{Answer}
use Rattle.model.specs.declared.command.Command.TheVariants.{Begin, Load, Force, Write, Release, StartCarry, Restamp, FinishCarry}
use Rattle.model.specs.declared.answer.Answer.TheVariants.{Refused, Nothing, Done, Repaired}
use Rattle.model.specs.declared.command.Command.TheVariants.{Change, Backup, Note}
use Rattle.model.specs.Demand1.{StoresItem, Arrays}
use Rattle.face.specs.Numbers.{state_of, numbers_of, fits}
use Rattle.face.specs.Face.{answer_number, told_range, report_after, misheaded, faced, face_of, restarted, restarted_of}
use Rattle.face_step.specs.Targets.{Target, none, place, front, target_of, old_target, target, range_of, told, own_magic, headed_by}
use Rattle.face_step.specs.declared.range.Range.{Range}
use Rattle.numbers.proofs.NumberLaws.{arrays}
use Rattle.numbers.proofs.FitLaws.{numbers-back}
use Rattle.volume.proofs.Readings.{unknown-read}
use Rattle.model.specs.Types.{PendingNote, None, Some}

-- ---- the range that the code finds

suc-sub-one : (n : ℕ) → suc n - 1 ≡ n
suc-sub-one n = omega arith

image-width : (g : Geometry) (i : ℕ) → width (image_place g i) ≡ 256
image-width g i = by_cases (ltb i g.pages) (λ t. rw t) (λ t. rw t)

module _ (g : Geometry) (v : List ℕ) (e : g ≡ geometry_of v) where
  pub log-range : (d t : ℕ) → t ≡ d % g.records
      → record { at = (16 + 256 * g.pages + 256 * g.slots + 64 * t) % 4294967296; size = 64 }
      ≡ range_of (geometry_of v) (place (log_slot (geometry_of v) (d + 1)))
  log-range d t et =
      let a : d + 1 - 1 ≡ d = omega arith in
      rw (et, ← e, a, suc-sub-one)

  pub note-range : (d t : ℕ) → t ≡ d % g.notes
      → record { at = (20 + 256 * g.pages + 256 * g.slots + 64 * g.records + 16 * t) % 4294967296; size = 16 }
      ≡ range_of (geometry_of v) (place (note_slot (geometry_of v) (d + 1)))
  note-range d t et =
      let a : d + 1 - 1 ≡ d = omega arith in
      rw (et, ← e, a, suc-sub-one)

  module _ (s : State) (b : Bool) (eb : b ≡ valid_volume v) where
    pub old-invalid : b ≡ false → record { at = 0; size = 0 } ≡ range_of g (old_target v s)
    old-invalid h = rw (sym eb ∙ h)

    module _ (h : b ≡ true) where
      pub old-valid : valid_volume v ≡ true
      old-valid = sym eb ∙ h

      pub old-few : g.pages + g.slots ≤ 192
      old-few = let f = valid-facts v old-valid in rw e (omega (arith, f.p-high, f.b-high))

      module _ (i : ℕ) (ei : i ≡ first_old g v s.index) where
        pub old-none : g.pages + g.slots ≤ i → record { at = 0; size = 0 } ≡ range_of g (old_target v s)
        old-none l = rw (old-valid, ← e, ← ei, le-ltb i (image_count g) l)

        pub old-place : i < g.pages + g.slots → (at : ℕ) → at ≡ start g (image_place g i)
            → record { at = at % 4294967296; size = 256 } ≡ range_of g (old_target v s)
        old-place l at ea = rw (old-valid, ← e, ← ei, lt-ltb i (image_count g) l, ea, image-width g i)

-- ---- the heading

module _ (c : Call) (v : List ℕ) where
  -- one that the call takes
  own-headed : headed_by (own_magic c) v ≡ true → misheaded c v ≡ not (valid_volume v)
  own-headed = by_cases (is_call 18 c) (λ t. rw t (λ h. rw h))
      (λ t. rw t (by_cases (is_call 19 c || is_call 20 c) (λ u. rw u (λ h. rw h)) (λ u. rw u (λ h. refl))))

  -- another
  other-headed : headed_by (own_magic c) v ≡ false → misheaded c v ≡ true
  other-headed = by_cases (is_call 18 c) (λ t. rw t (λ h. rw h))
      (λ t. rw t (by_cases (is_call 19 c || is_call 20 c) (λ u. rw u (λ h. rw h)) (λ u. rw u (λ h. rw (unknown-read v h)))))

-- another is row 1, whatever follows it
first-row : (c : Call) (v m : List ℕ) (s : State) → headed_by (own_magic c) v ≡ false → first_of (rows_of c v m s) ≡ 1
unfolding begin_rows load_rows change_rows force_rows write_rows backup_rows release_rows note_rows start_carry_rows restamp_rows finish_carry_rows
first-row (Begin page frame fill, _) v m s h = rw (unknown-read v h)
first-row (Load page frame, _) v m s h = rw (unknown-read v h)
first-row (Change page c, payload) v m s h = rw (unknown-read v h)
first-row (Force, _) v m s h = rw (unknown-read v h)
first-row (Write page, _) v m s h = rw (unknown-read v h)
first-row (Backup page slot, _) v m s h = rw (unknown-read v h)
first-row (Release page, _) v m s h = rw (unknown-read v h)
first-row (Note, _) v m s h = rw (unknown-read v h)
first-row (StartCarry, _) v m s h = rw h
first-row (Restamp, _) v m s h = rw h
first-row (FinishCarry, _) v m s h = rw h

refused-by-one : (rows : List Row) (m : List ℕ) (s : State) (done : Outcome) → first_of rows ≡ 1
    → decided rows m s done ≡ unchanged (Refused 1) m s
unfolding decided
refused-by-one rows m s done e = rw e

-- ---- what a call stores, by what it answers

abbrev Aimed : Target → Outcome → Type 0
Aimed t o = target_of o.stored ≡ cond (is_done o.answer) t none

either : (t : Target) (b : Bool) (x y : Outcome) → Aimed t x → Aimed t y → Aimed t (cond b x y)
either t b x y p q = by_cases b (λ e. rw e p) (λ e. rw e q)

module _ (v m : List ℕ) (s : State) where
  by_rows : (t : Target) (rows : List Row) (done : Outcome) → Aimed t done → Aimed t (decided rows m s done)
  unfolding decided is_done
  by_rows t rows done h = either t (eqb (first_of rows) 0) done (unchanged (Refused (first_of rows)) m s) h refl

  noted : (p : PendingNote) → Aimed (target (Note, no_payload) v s) (note_stored v m s p)
  unfolding is_done
  noted None = refl
  noted (Some n) = refl

  aimed : (c : Call) → Arrays s → Aimed (target c v s) (outcome_of c v m s)
  unfolding is_done decided begin_done load_done change_done force_done write_outcome backup_done release_done restamp_done
  aimed (Begin page frame fill, _) a = by_rows none (begin_rows v m s page frame) _ refl
  aimed (Load page frame, _) a = by_rows none (load_rows v m s page frame) _ refl
  aimed (Change page c, payload) a = by_rows none (change_rows v m s page c) _ refl
  aimed (Force, _) a = by_rows (target (Force, no_payload) v s) (force_rows v m s) _
      (either (target (Force, no_payload) v s) (eqb s.pending 0) _ _ refl refl)
  aimed (Write page, _) a = by_rows (target (Write page, no_payload) v s) (write_rows v m s page) _
      (either (target (Write page, no_payload) v s) (page_dirty s page) _ _ refl refl)
  aimed (Backup page slot, _) a = by_rows (target (Backup page slot, no_payload) v s) (backup_rows v m s page slot) _ refl
  aimed (Release page, _) a = by_rows none (release_rows v m s page) _ refl
  aimed (Note, _) a = by_rows (target (Note, no_payload) v s) (note_rows v m s) _ (noted s.note)
  aimed (StartCarry, _) a = by_rows front (start_carry_rows v m s) _ refl
  aimed (Restamp, _) a =
      let st : StoresItem v (restamp_of v m s).stored = (demand1.calls (Restamp, no_payload) v m s a).stored in
      let i = ltb (first_old (geometry_of v) v s.index) (image_count (geometry_of v)) in
      by_cases (eqb (first_of (restamp_rows v m s)) 0)
      (λ r. by_cases i (λ t. rw (r, t) (let val = (rw (r, t) at st).0 in rw val)) (λ t. rw (r, t)))
      (λ r. rw r)
  aimed (FinishCarry, _) a = by_rows front (finish_carry_rows v m s) _ refl

-- ---- and the numbers of what it stores

range-is : (v : List ℕ) (x : StoredItem) → StoresItem v x
    → told_range (geometry_of v) x ≡ ((range_of (geometry_of v) (target_of x)).at, (range_of (geometry_of v) (target_of x)).size)
range-is v nothing h = refl
range-is v (new_heading tag) h = refl
range-is v (one_item at xs) h =
    let f = valid-facts v h.0 in
    let p = place-fits (geometry_of v) v f.size at (in_item (geometry_of v) at h.1) in
    let b : start (geometry_of v) at < 4294967296 =
    omega (arith, p, f.size, f.p-high, f.b-high, f.l-high, f.n-high) in
    let q : start (geometry_of v) at % 4294967296 ≡ start (geometry_of v) at = mod-eq_of_lt b in
    rw (q, h.2)

by_answer : (a : Answer) (g : Geometry) (t : Target) (x : ℕ × ℕ) (report : List ℕ)
    → x ≡ ((range_of g (cond (is_done a) t none)).at, (range_of g (cond (is_done a) t none)).size)
    → report_after a x report ≡ told a (range_of g t) report
unfolding is_done
by_answer (Refused n) g t x report e = refl
by_answer Nothing g t x report e = rw e
by_answer Done g t x report e = rw e
by_answer (Repaired r) g t x report e = rw e

report-is : (c : Call) (v m : List ℕ) (s : State) → Arrays s → (report : List ℕ)
    → (let o = outcome_of c v m s in
    report_after o.answer (told_range (geometry_of v) o.stored) report
    ≡ told o.answer (range_of (geometry_of v) (target c v s)) report)
report-is c v m s a report =
    let o = outcome_of c v m s in
    let st : StoresItem v o.stored = (demand1.calls c v m s a).stored in
    by_answer o.answer (geometry_of v) (target c v s) (told_range (geometry_of v) o.stored) report
    (range-is v o.stored st ∙ rw (aimed v m s c a))

-- ---- a call for C

pub not-both : (a b : Bool) → (not a || not b) ≡ true → (a && b) ≡ false
not-both true true h = let z : ◌≡◌ {A = ℕ} 0 1 = cc in absurd (omega arith)
not-both true false h = refl
not-both false b h = refl

pub both : (a b : Bool) → (not a || not b) ≡ false → (a && b) ≡ true
both true true h = refl
both true false h = let z : ◌≡◌ {A = ℕ} 0 1 = cc in absurd (omega arith)
both false b h = let z : ◌≡◌ {A = ℕ} 0 1 = cc in absurd (omega arith)

-- the volume has another heading: it is told, and everything is left
pub unlike-headed : (c : Call) (v m xs report own : List ℕ) (h : Bool) → own ≡ own_magic c → h ≡ headed_by own v → h ≡ false
    → faced 1 xs report m v ≡ face_of c v m xs report
unfolding face_of volume_after
unlike-headed c v m xs report own h eo eh t =
    let f : headed_by (own_magic c) v ≡ false = sym (eh ∙ ap (λ (o : List ℕ). headed_by o v) eo) ∙ t in
    let s = state_of xs in
    let r : outcome_of c v m s ≡ unchanged (Refused 1) m s = refused-by-one (rows_of c v m s) m s (done_of c v m s) (first-row c v m s f) in
    by_cases (fits xs && eqb (length report) 5)
    (λ t. rw (t, r, numbers-back xs (and_left (fits xs) (eqb (length report) 5) t)))
    (λ t. rw (t, other-headed c v f))

module _ (c : Call) (v m xs report : List ℕ) (b : Bool) (eb : b ≡ fits xs) where
  pub unfit : (own : List ℕ) (h valid : Bool) (n : ℕ) → (not b || not (eqb (length report) 5)) ≡ true → own ≡ own_magic c
      → h ≡ headed_by own v → h ≡ true → valid ≡ valid_volume v → n ≡ cond (not valid) 1 2
      → faced n xs report m v ≡ face_of c v m xs report
  unfolding face_of
  unfit own h valid n t eo eh th ev en =
      let q : (fits xs && eqb (length report) 5) ≡ false = rw (← eb) (not-both b (eqb (length report) 5) t) in
      let k : headed_by (own_magic c) v ≡ true = sym (eh ∙ ap (λ (o : List ℕ). headed_by o v) eo) ∙ th in
      rw (q, en, ev, own-headed c v k)

  module _ (t : (not b || not (eqb (length report) 5)) ≡ false) where
    passed : (fits xs && eqb (length report) 5) ≡ true
    passed = rw (← eb) (both b (eqb (length report) 5) t)

    pub sized : length report ≡ 5
    sized = eqb-true _ _ (and_right (fits xs) (eqb (length report) 5) passed)

    pub fitting : fits xs ≡ true
    fitting = and_left (fits xs) (eqb (length report) 5) passed

    pub fit : (s : State) → s ≡ state_of xs → (a : Answer) (z : State) (x : Range) (n : ℕ) (xs' report' m' v' : List ℕ)
        → a ≡ (outcome_of c v m s).answer → z ≡ (outcome_of c v m s).state → m' ≡ (outcome_of c v m s).memory
        → v' ≡ volume_after v (outcome_of c v m s).stored → x ≡ range_of (geometry_of v) (target c v s)
        → n ≡ answer_number a → xs' ≡ numbers_of z → report' ≡ told a x report
        → faced n xs' report' m' v' ≡ face_of c v m xs report
    unfolding face_of
    fit s es a z x n xs' report' m' v' ea ez em ev ex en exs er =
        let er2 : report' ≡ told (outcome_of c v m s).answer (range_of (geometry_of v) (target c v s)) report = er ∙ rw (ea, ex) in
        let er3 = er2 ∙ sym (report-is c v m s (rw es (arrays xs)) report) in
        let en2 : n ≡ answer_number (outcome_of c v m s).answer = en ∙ rw ea in
        let exs2 : xs' ≡ numbers_of (outcome_of c v m s).state = exs ∙ rw ez in
        rw (passed, ← es, en2, exs2, er3, em, ev)

-- ---- Restart for C

module _ (v m xs : List ℕ) where
  -- a heading that is not known: row 1, and a state of zeros where its numbers are as many
  pub restart-unknown : (b : Bool) → b ≡ known_magic v → not b ≡ true → (ys : List ℕ)
      → ys ≡ cond (eqb (length xs) 360) (numbers_of zero_state) xs → restarted 1 ys m ≡ restarted_of v m xs
  unfolding restarted_of restart_of restart_rows
  restart-unknown b eb t ys ey =
      let f : valid_volume v ≡ false = unknown-read v (sym eb ∙ not-true b t) in
      let o : restart_of v m ≡ unchanged (Refused 1) m zero_state = refused-by-one (restart_rows v m) m zero_state _ (rw f) in
      by_cases (eqb (length xs) 360) (λ e. rw (ey, e, o)) (λ e. rw (ey, e, f))

  pub restart-unlike : (n : ℕ) (b : Bool) → (length xs ≡ 360 → ⊥) → b ≡ valid_volume v → n ≡ cond (not b) 1 2
      → restarted n xs m ≡ restarted_of v m xs
  unfolding restarted_of
  restart-unlike n b ne eb en = rw (ne_eqb (length xs) 360 ne, en, eb)

  pub restart-alike : length xs ≡ 360 → (a : Answer) (z : State) (n : ℕ) (xs' m' : List ℕ)
      → a ≡ (restart_of v m).answer → z ≡ (restart_of v m).state → m' ≡ (restart_of v m).memory → n ≡ answer_number a → xs' ≡ numbers_of z
      → restarted n xs' m' ≡ restarted_of v m xs
  unfolding restarted_of
  restart-alike l a z n xs' m' ea ez em en exs = rw (eq-eqb (length xs) 360 l, en, exs, em, ea, ez)

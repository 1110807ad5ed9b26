-- What the contracts of the calls for C come to: on the numbers of a well-formed state a call is the history's; a refusal leaves everything;
-- the bytes outside of the range told are as they were; what the header calls const is not changed.
use mathlib.Core.Path.{◌≡◌, refl, sym}
use mathlib.Core.Logic.{◌⊎◌, inl, inr, ⊎_elim}
use mathlib.Core.Bool.{true, ◌&&◌, ◌||◌}
use mathlib.Core.List.{List, [], ◌∷◌}
use Prim.Native.Nat.{ℕ, suc, ◌+◌, ◌≤◌, ◌<◌}
use native.Mathlib.Omega.{arith}
use lib.Dec.{eqb, leb, ltb}
use lib.ListN.{length, get_or}
use borrow.Author.Tests.{eq-eqb, ne_eqb, eqb-true, leb-true}
use Rattle.laws.proofs.Tables.{by_cases, all-at, and_left, and_right, or_cases, true-not-false, within-bounds}
use Rattle.laws.proofs.Places.{valid-facts, place-fits, in_item}
use Rattle.laws.proofs.WellFormed.{formed, formed-note}
use Rattle.laws.proofs.Parts.{splice-before, splice-after}
use Rattle.laws.proofs.Demand1.{demand1}
use Rattle.store.proofs.Steps as steps
use Rattle.model.specs.Tables.{within}
use Rattle.model.specs.Geometry.{Place, start, magic_of, geometry_of, valid_volume, store, store_heading, most_notes}
use Rattle.model.specs.Item.{is_written, note_layout}
use Rattle.model.specs.Index.{empty_entry, entry_row}
use Rattle.model.specs.State.{empty_frame, frame_row, frame_fits, entry_fits, page_fits, pending_note_fits, well_formed, last_number, held}
use Rattle.model.specs.Outcome.{StoredItem, nothing, one_item, new_heading, Outcome, volume_after, refusal_of}
use Rattle.model.specs.Calls.{outcome_of, Call}
use Rattle.model.specs.declared.{state.State.State, answer.Answer.Answer}
use Rattle.model.specs.declared.command.Command.TheVariants.{Begin, Load, Force, Write, Release, StartCarry, Restamp, FinishCarry}
use Rattle.model.specs.declared.answer.Answer.TheVariants.{Refused, Nothing, Done, Repaired}
use Rattle.model.specs.declared.command.Command.TheVariants.{Change, Backup, Note}
use Rattle.model.specs.Demand1.{StoresItem, Arrays}
use Rattle.face.specs.Numbers.{state_of, numbers_of, fits}
use Rattle.called.specs.Unchanged.{memory_const, volume_const, RefusalsLeave, OutsideUnchanged, ConstUnchanged}
use Rattle.face.specs.Face.{answer_number, told_range, report_after, faced, face_of}
use Rattle.numbers.proofs.NumberLaws.{Stated, NoteTold, state-back, arrays}
use Rattle.numbers.proofs.FitLaws.{numbers-back, stated-fits}
use Rattle.model.specs.Types.{PendingNote, None, Some}

-- ---- the numbers of a well-formed state fit

module _ (v : List ℕ) (k : ℕ) (s : State) (a : Arrays s) (ok : valid_volume v ≡ true) (h : well_formed (geometry_of v) k s ≡ true) where
  small-page : (i : ℕ) → i < 16 → (get_or s.frames i empty_frame).page < 65536
  unfolding frame_fits
  small-page i l =
      let p = leb-true (frame_row s i).page (geometry_of v).pages (and_left _ _ ((formed (geometry_of v) k s h).table i l)) in
      omega (arith, p, (valid-facts v ok).p-high)

  small_slot : (i : ℕ) → i < 64 → (get_or s.index i empty_entry).slot < 256
  unfolding page_fits entry_fits
  small_slot i l =
      let g = geometry_of v in
      let e = entry_row s.index i in
      let f = (formed g k s h).pages i l in
      by_cases (ltb i g.pages)
      (λ t. let q = all-at
      (leb e.last (last_number s) ∷ leb e.durable e.last ∷ leb e.durable s.durable ∷ leb e.written e.durable
      ∷ leb e.backup e.durable ∷ leb e.slot g.slots ∷ (held s (suc i) || eqb e.last e.durable) ∷ [])
      5 (rw t at f) in
      omega (arith, leb-true e.slot g.slots q, (valid-facts v ok).b-high))
      (λ t. let q = all-at
      (eqb e.last 0 ∷ eqb e.durable 0 ∷ eqb e.written 0 ∷ eqb e.slot 0 ∷ eqb e.backup 0 ∷ []) 3 (rw t at f) in
      omega (arith, eqb-true e.slot 0 q))

  note-told : (p : PendingNote) → pending_note_fits (geometry_of v) s.notes s.durable p ≡ true → NoteTold p
  unfolding pending_note_fits note_layout
  note-told None e = tt
  note-told (Some n) e =
      let f = formed-note (geometry_of v) s.notes s.durable n e in
      let g = valid-facts v ok in
      let w : (is_written n || within (geometry_of v).slots n.slot) ≡ true = all-at
      (ltb s.notes (most_notes (geometry_of v)) ∷ ltb 0 (geometry_of v).notes ∷ note_layout n ∷ eqb n.number (s.notes + 1)
      ∷ within (geometry_of v).pages n.page ∷ (is_written n || within (geometry_of v).slots n.slot) ∷ leb n.lsn s.durable ∷ [])
      5 e in
      ⊎_elim
      (λ a. let k1 = eqb-true n.kind 1 (and_left (eqb n.kind 1) (eqb n.slot 0) a) in
      let s0 = eqb-true n.slot 0 (and_right (eqb n.kind 1) (eqb n.slot 0) a) in
      (omega (arith, k1), omega (arith, k1), omega (arith, f.high, g.p-high), omega (arith, s0)))
      (λ a. let k2 = eqb-true n.kind 2 a in
      let u : within (geometry_of v).slots n.slot ≡ true = rw (ne_eqb n.kind 1 (λ z. omega (arith, k2, z))) at w in
      let b = within-bounds (geometry_of v).slots n.slot u in
      (omega (arith, k2), omega (arith, k2), omega (arith, f.high, g.p-high), omega (arith, b.1, g.b-high)))
      (or_cases (eqb n.kind 1 && eqb n.slot 0) (eqb n.kind 2) f.layout)

  pub formed-stated : Stated s
  formed-stated =
      record {
        frames = a.frames;
        index = a.index;
        pages = small-page;
        slots = small_slot;
        note = note-told s.note (formed (geometry_of v) k s h).note;
      }

-- ---- on them a call for C is the history's

pub called : (c : Call) (v m : List ℕ) (s : State) (report : List ℕ) → Stated s → length report ≡ 5
    → (let o = outcome_of c v m s in
    face_of c v m (numbers_of s) report
    ≡ faced (answer_number o.answer) (numbers_of o.state) (report_after o.answer (told_range (geometry_of v) o.stored) report)
    o.memory (volume_after v o.stored))
unfolding face_of
called c v m s report h l =
    rw (stated-fits s h, eq-eqb (length report) 5 l, state-back s h)

-- ---- a refusal leaves everything as it was

module _ (v m xs report : List ℕ) (o : Outcome) where
  by_answer : (a : Answer) → a ≡ o.answer → (answer_number a ≡ 0 → ⊥) → (answer_number a ≡ 256 → ⊥)
      → ((refusal_of a ≡ 0 → ⊥) → o.state ≡ state_of xs) → ((refusal_of a ≡ 0 → ⊥) → o.memory ≡ m)
      → ((refusal_of a ≡ 0 → ⊥) → volume_after v o.stored ≡ v) → numbers_of (state_of xs) ≡ xs
      → faced (answer_number a) (numbers_of o.state) (report_after a (told_range (geometry_of v) o.stored) report) o.memory
      (volume_after v o.stored)
      ≡ faced (answer_number a) xs report m v
  by_answer (Refused n) e n0 n1 es em ev back = rw (es n0, em n0, ev n0, back)
  by_answer Nothing e n0 n1 es em ev back = absurd (n1 refl)
  by_answer Done e n0 n1 es em ev back = absurd (n0 refl)
  by_answer (Repaired r) e n0 n1 es em ev back = absurd (n0 refl)

module _ (c : Call) (v m xs report : List ℕ) where
  pub refusal-leaves : ((face_of c v m xs report).answer ≡ 0 → ⊥) → ((face_of c v m xs report).answer ≡ 256 → ⊥)
      → face_of c v m xs report ≡ faced (face_of c v m xs report).answer xs report m v
  unfolding face_of
  refusal-leaves n0 n1 =
      let o = outcome_of c v m (state_of xs) in
      let k = demand1.calls c v m (state_of xs) (arrays xs) in
      by_cases (fits xs && eqb (length report) 5)
      (λ t. rw t
      (by_answer v m xs report o o.answer refl (rw t at n0) (rw t at n1) k.state k.memory k.volume
      (numbers-back xs (and_left (fits xs) (eqb (length report) 5) t))))
      (λ t. rw t)

-- ---- the bytes outside of the range are as they were

pub item-fits : (v : List ℕ) (at : Place) (xs : List ℕ) → StoresItem v (one_item at xs) → start (geometry_of v) at + length xs ≤ length v
item-fits v at xs st =
    let p = place-fits (geometry_of v) v (valid-facts v st.0).size at (in_item (geometry_of v) at st.1) in
    omega (arith, p, st.2)

pub heading-fits : (v : List ℕ) → valid_volume v ≡ true → 0 + 4 ≤ length v
heading-fits v ok = let f = valid-facts v ok in omega (arith, f.size)

pub outside : (v : List ℕ) (x : StoredItem) (i : ℕ) → StoresItem v x
    → (i < (told_range (geometry_of v) x).0) ⊎ ((told_range (geometry_of v) x).0 + (told_range (geometry_of v) x).1 ≤ i)
    → get_or (volume_after v x) i 0 ≡ get_or v i 0
unfolding volume_after store store_heading
outside v nothing i st h = refl
outside v (one_item at xs) i st (inl h) = splice-before v (start (geometry_of v) at) xs (item-fits v at xs st) i h
outside v (one_item at xs) i st (inr h) = splice-after v (start (geometry_of v) at) xs (item-fits v at xs st) i h
outside v (new_heading tag) i st (inl h) = absurd (omega arith)
outside v (new_heading tag) i st (inr h) = splice-after v 0 (magic_of tag) (heading-fits v st.0) i h

-- ---- what is const in the header

pub memory-const : (c : Call) (v m : List ℕ) (s : State) → memory_const c ≡ true → m ≡ (outcome_of c v m s).memory
memory-const (Begin page frame fill, _) v m s e = absurd (true-not-false e refl)
memory-const (Load page frame, _) v m s e = absurd (true-not-false e refl)
memory-const (Change page c, payload) v m s e = absurd (true-not-false e refl)
memory-const (Force, _) v m s e = steps.force-memory v m s
memory-const (Write page, _) v m s e = steps.write-memory v m s page
memory-const (Backup page slot, _) v m s e = steps.backup-memory v m s page slot
memory-const (Release page, _) v m s e = steps.release-memory v m s page
memory-const (Note, _) v m s e = steps.note-memory v m s
memory-const (StartCarry, _) v m s e = steps.start-carry-memory v m s
memory-const (Restamp, _) v m s e = steps.restamp-memory v m s
memory-const (FinishCarry, _) v m s e = steps.finish-carry-memory v m s

pub volume-const : (c : Call) (v m : List ℕ) (s : State) → volume_const c ≡ true → v ≡ volume_after v (outcome_of c v m s).stored
volume-const (Begin page frame fill, _) v m s e = steps.begin-volume v m s page frame fill
volume-const (Load page frame, _) v m s e = steps.load-volume v m s page frame
volume-const (Change page c, payload) v m s e = steps.change-volume v m s page c payload
volume-const (Force, _) v m s e = absurd (true-not-false e refl)
volume-const (Write page, _) v m s e = absurd (true-not-false e refl)
volume-const (Backup page slot, _) v m s e = absurd (true-not-false e refl)
volume-const (Release page, _) v m s e = steps.release-volume v m s page
volume-const (Note, _) v m s e = absurd (true-not-false e refl)
volume-const (StartCarry, _) v m s e = absurd (true-not-false e refl)
volume-const (Restamp, _) v m s e = absurd (true-not-false e refl)
volume-const (FinishCarry, _) v m s e = absurd (true-not-false e refl)

-- ---- the claims

pub refusals-leave : RefusalsLeave
refusals-leave = refusal-leaves

pub outside-unchanged : OutsideUnchanged
unfolding face_of
outside-unchanged c v m xs report i h =
    let o = outcome_of c v m (state_of xs) in
    by_cases (fits xs && eqb (length report) 5)
    (λ t. rw t (outside v o.stored i (demand1.calls c v m (state_of xs) (arrays xs)).stored h))
    (λ t. rw t)

module _ (c : Call) (v m xs report : List ℕ) where
  unchanged-memory : m ≡ (outcome_of c v m (state_of xs)).memory → (face_of c v m xs report).memory ≡ m
  unfolding face_of
  unchanged-memory e = by_cases (fits xs && eqb (length report) 5) (λ t. rw t (sym e)) (λ t. rw t)

  unchanged-volume : v ≡ volume_after v (outcome_of c v m (state_of xs)).stored → (face_of c v m xs report).volume ≡ v
  unfolding face_of
  unchanged-volume e = by_cases (fits xs && eqb (length report) 5) (λ t. rw t (sym e)) (λ t. rw t)

pub const-unchanged : ConstUnchanged
const-unchanged =
    record {
      memory = λ c v m xs report e. unchanged-memory c v m xs report (memory-const c v m (state_of xs) e);
      volume = λ c v m xs report e. unchanged-volume c v m xs report (volume-const c v m (state_of xs) e);
    }

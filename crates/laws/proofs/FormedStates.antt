-- The states that calls leave, where rows 1 and 2 let a state through, are well formed: a page put into a frame, a frame emptied, a note
-- left to be stored.
use mathlib.Core.Path.{◌≡◌, refl, sym, ◌∙◌}
use mathlib.Core.Logic.{◌≢◌}
use mathlib.Core.Bool.{Bool, true, false, ◌||◌}
use mathlib.Core.List.{List, [], ◌∷◌}
use Prim.Native.Nat.{ℕ, ◌+◌, ◌-◌, ◌≤◌, ◌<◌}
use native.Mathlib.Omega.{arith}
use native.Mathlib.Decide.{dec_lt}
use lib.Dec.{eqb, leb, ltb}
use lib.ListN.{length, length-set}
use lib.Seq.{get_or-set_same, get_or-set_other}
use borrow.Author.Tests.{leb-false, le-leb, ltb-false, lt-ltb, eqb-false, eq-eqb, ne_eqb}
use Rattle.laws.proofs.Tables.{all-holds, or-neither, within-holds}
use Rattle.laws.proofs.Places.{valid-facts}
use Rattle.laws.proofs.WellFormed.{Ready, holder-low, holder-high, holder-page, holder-within}
use Rattle.laws.proofs.Frames.{row_fits, Numbers, entry-of, forms}
use Rattle.laws.proofs.FramePut.{Durable, Put, put-formed}
use Rattle.model.specs.Tables.{Row, within}
use Rattle.model.specs.Geometry.{most, most_notes, geometry_of}
use Rattle.model.specs.Item.{note_layout}
use Rattle.model.specs.Index.{empty_entry, entry_of, with_last}
use Rattle.model.specs.State.{frame_count, frame_row, holder, held, last_number, log_full, notes_full, pending_note_fits}
use Rattle.model.specs.State.{frame_fits, entry_fits, page_fits, well_formed}
use Rattle.model.specs.Refusals.{frame_blocked}
use Rattle.model.specs.Effects.{with_frame, with_frames, appended_state, next_note}
use Rattle.model.specs.Demand1.{Arrays}
use Rattle.model.specs.declared.{geometry.Geometry.Geometry, state.State.State}
use Rattle.model.specs.Types.{PendingNote}

-- what stays
pub record Good (g : Geometry) (frames : ℕ) (s : State) : Type 0 where
  pub arrays : Arrays s
  pub state : well_formed g frames s ≡ true

module _ (v m : List ℕ) (s : State) (a : Arrays s) (rows : List Row) (r : Ready v m s rows) where
  abbrev g : Geometry
  g = geometry_of v

  abbrev F : ℕ
  F = frame_count (length m)

  p64 : g.pages ≤ 64
  p64 = (valid-facts v r.volume).p-high

  -- a page that row 10 lets go
  pub unblocked : (f : ℕ) → 1 ≤ f → f ≤ F → frame_blocked s f ≡ false → (frame_row s (f - 1)).page ≢ 0 → Durable s (frame_row s (f - 1)).page
  unblocked f lo hi t nz =
      let p = (frame_row s (f - 1)).page in
      let h : (frame_row s (f - 1)).page ≤ g.pages =
      (row_fits g F s (f - 1) (r.state.table (f - 1) (omega (arith, r.memory.high)))).high in
      let n = (entry-of g F s r.state p64 p (omega arith) h).numbers in
      let l : (entry_of s.index p).last ≤ (entry_of s.index p).durable = ltb-false _ _ (rw (ne_eqb p 0 nz) at t) in
      omega (arith, n.durable)

  -- the row that holds a page, and no other
  module _ (p : ℕ) (lo : 1 ≤ p) (h : held s p ≡ true) where
    pub at_low : 1 ≤ holder s p
    at_low = holder-low g F s r.state a.frames p h

    pub at-within : holder s p ≤ F
    at-within = holder-within g F s r.state a.frames p h lo

    pub at_place : holder s p - 1 < 16
    at_place = omega (arith, at_low, holder-high g F s r.state a.frames p h)

    pub at-page : (frame_row s (holder s p - 1)).page ≡ p
    at-page = holder-page g F s r.state a.frames p h

    pub at-alone : (i : ℕ) → i < 16 → i ≢ holder s p - 1 → (frame_row s i).page ≢ p
    at-alone i l ne e = elim (dec_lt i (holder s p - 1)) [
      | yes b ↦ (row_fits g F s (holder s p - 1) (r.state.table (holder s p - 1) at_place)).once
          (λ z. omega (arith, at-page)) i b (e ∙ sym at-page)
      | no b ↦ (row_fits g F s i (r.state.table i l)).once (λ z. omega arith) (holder s p - 1) (omega arith) (at-page ∙ sym e)
    ]

  -- ---- a change of a page, put into frame f

  entry-numbers : (p : ℕ) → 1 ≤ p → p ≤ g.pages → Numbers g s (entry_of s.index p)
  entry-numbers p lo hi = (entry-of g F s r.state p64 p lo hi).numbers

  module _ (p f : ℕ) (lo : 1 ≤ p) (hi : p ≤ g.pages) (f-low : 1 ≤ f) (f-high : f ≤ F)
      (alone : (i : ℕ) → i < 16 → i ≢ f - 1 → (frame_row s i).page ≢ p)
      (leaves : (frame_row s (f - 1)).page ≢ 0 → (frame_row s (f - 1)).page ≢ p → Durable s (frame_row s (f - 1)).page) where
    place-low : f - 1 < 16
    place-low = omega (arith, r.memory.high)

    appended-entry : entry_of (appended_state s p f).index p ≡ with_last (entry_of s.index p) (last_number s + 1)
    unfolding appended_state
    appended-entry = get_or-set_same s.index (p - 1) _ empty_entry (omega (arith, a.index, p64))

    appended-put : Put g F s (appended_state s p f) (f - 1) p true
    unfolding appended_state
    appended-put =
        let n = entry-numbers p lo hi in
        record {
          place = place-low;
          rows = refl;
          count = refl;
          more = omega arith;
          entries = λ q l ne. get_or-set_other s.index (p - 1) (q - 1) _ empty_entry (λ e. ne (let z : q ≡ p = omega arith in z));
          own = λ nz. record {
            high = hi;
            inside = omega arith;
            alone = alone;
            some = rw appended-entry (λ z. omega arith);
            numbers = rw appended-entry (record {
              last = omega arith;
              durable = omega (arith, n.count);
              count = n.count;
              written = n.written;
              backup = n.backup;
              slot = n.slot;
            });
          };
          idle = λ z. absurd (omega arith);
          leaves = leaves;
        }

    pub appended-good : eqb s.pending 16 ≡ false → log_full g v s ≡ false → Good g F (appended_state s p f)
    unfolding appended_state log_full
    appended-good free full =
        let w = r.state in
        let ne : s.pending ≢ 16 = eqb-false s.pending 16 free in
        let l : last_number s < most g = leb-false (most g) (last_number s) (or-neither (leb (most g) (last_number s)) _ full).0 in
        record {
          arrays = record { frames = length-set s.frames (f - 1) _ ∙ a.frames; index = length-set s.index (p - 1) _ ∙ a.index };
          state = put-formed g F s a w p64 (appended_state s p f) (f - 1) p true appended-put (omega arith)
              (omega (arith, w.few)) w.notes w.note;
        }

    -- ---- a page whose entry stays, put into frame f

    framed-put : (t : Bool) (n : PendingNote) → (entry_of s.index p).last ≢ 0 → Put g F s (with_frames s (with_frame s f p t) n) (f - 1) p t
    framed-put t n some =
        let e = entry-numbers p lo hi in
        record {
          place = place-low;
          rows = refl;
          count = refl;
          more = omega arith;
          entries = λ q l ne. refl;
          own = λ nz. record {
            high = hi;
            inside = omega arith;
            alone = alone;
            some = some;
            numbers =
                record { last = e.last; durable = e.durable; count = e.count; written = e.written; backup = e.backup; slot = e.slot };
          };
          idle = λ z. absurd (omega arith);
          leaves = leaves;
        }

    pub framed-good : (t : Bool) (n : PendingNote) → (entry_of s.index p).last ≢ 0 → pending_note_fits g s.notes s.durable n ≡ true
        → Good g F (with_frames s (with_frame s f p t) n)
    framed-good t n some fit =
        let w = r.state in
        record {
          arrays = record { frames = length-set s.frames (f - 1) _ ∙ a.frames; index = a.index };
          state = put-formed g F s a w p64 (with_frames s (with_frame s f p t) n) (f - 1) p t (framed-put t n some) w.room
              w.few w.notes fit;
        }

  -- ---- frame f emptied

  emptied-put : (f : ℕ) → 1 ≤ f → f ≤ F → frame_blocked s f ≡ false
      → Put g F s (with_frames s (with_frame s f 0 false) s.note) (f - 1) 0 false
  emptied-put f lo hi t =
      record {
        place = omega (arith, r.memory.high);
        rows = refl;
        count = refl;
        more = omega arith;
        entries = λ q l ne. refl;
        own = λ nz. absurd (nz refl);
        idle = λ z. refl;
        leaves = λ nz ne. unblocked f lo hi t nz;
      }

  pub emptied-good : (f : ℕ) → 1 ≤ f → f ≤ F → frame_blocked s f ≡ false → Good g F (with_frames s (with_frame s f 0 false) s.note)
  emptied-good f lo hi t =
      let w = r.state in
      record {
        arrays = record { frames = length-set s.frames (f - 1) _ ∙ a.frames; index = a.index };
        state = put-formed g F s a w p64 (with_frames s (with_frame s f 0 false) s.note) (f - 1) 0 false (emptied-put f lo hi t) w.room
            w.few w.notes w.note;
      }

  -- ---- the note that a Write or a Backup leaves

  pub next_fits : (p kind slot lsn : ℕ) → 1 ≤ p → p ≤ g.pages → notes_full g v s ≡ false → lsn ≤ s.durable
      → note_layout (record { number = s.notes + 1; page = p; kind = kind; slot = slot; lsn = lsn }) ≡ true
      → (eqb kind 1 || within g.slots slot) ≡ true → pending_note_fits g s.notes s.durable (next_note s p kind slot lsn) ≡ true
  unfolding pending_note_fits notes_full
  next_fits p kind slot lsn lo hi full low layout in-range =
      let q = or-neither (eqb g.notes 0) _ full in
      let q' = or-neither (leb (most_notes g) s.notes) _ q.1 in
      let nz : g.notes ≢ 0 = eqb-false g.notes 0 q.0 in
      all-holds
      (ltb s.notes (most_notes g) ∷ ltb 0 g.notes
      ∷ note_layout (record { number = s.notes + 1; page = p; kind = kind; slot = slot; lsn = lsn }) ∷ eqb (s.notes + 1) (s.notes + 1)
      ∷ within g.pages p ∷ (eqb kind 1 || within g.slots slot) ∷ leb lsn s.durable ∷ []) (
        lt-ltb _ _ (leb-false (most_notes g) s.notes q'.0),
        (
          lt-ltb 0 g.notes (omega arith),
          (layout, (eq-eqb (s.notes + 1) (s.notes + 1) refl, (within-holds g.pages p lo hi, (in-range, (le-leb _ _ low, tt))))),
        ),
      )

  pub noted-good : (n : PendingNote) → pending_note_fits g s.notes s.durable n ≡ true → Good g F (with_frames s s.frames n)
  unfolding frame_fits page_fits entry_fits
  noted-good n fit =
      let w = r.state in
      record {
        arrays = record { frames = a.frames; index = a.index };
        state = forms g F (with_frames s s.frames n)
            (record { room = w.room; few = w.few; notes = w.notes; note = fit; table = w.table; pages = w.pages });
      }

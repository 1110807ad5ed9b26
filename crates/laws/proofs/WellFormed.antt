-- What a well-formed state and a table that refuses nothing tell: the counts, the pending note, the frame that holds a page, and the parts
-- of the memory.
use mathlib.Core.Path.{◌≡◌, refl}
use mathlib.Core.Logic.{⊎_elim}
use mathlib.Core.Bool.{Bool, true, false, ◌||◌, not, cond}
use mathlib.Core.List.{List, [], ◌∷◌}
use Prim.Native.Nat.{ℕ, suc, ◌+◌, ◌-◌, ◌*◌, ◌≤◌, ◌<◌}
use native.Mathlib.Omega.{arith}
use lib.Dec.{eqb, leb, ltb}
use lib.ListN.{length, get_or}
use borrow.Author.Tests.{leb-true, ltb-true, eqb-true, eqb-false, not-false}
use Rattle.laws.proofs.Tables.{all-at, every-at, or_cases, by_cases, within-bounds}
use Rattle.laws.proofs.Parts.{part_length}
use Rattle.model.specs.Tables.{Row, first_of, every, within}
use Rattle.model.specs.Geometry.{most, most_notes, geometry_of, valid_volume}
use Rattle.model.specs.Item.{note_layout, is_written}
use Rattle.model.specs.State.{frame_count, valid_memory, pending_at, pending_bytes, frame_at, frame_bytes, empty_frame}
use Rattle.model.specs.State.{frame_row, frame_of, holder_from, holder, held, blank, pending_note_fits, first_holder}
use Rattle.model.specs.State.{frame_fits, page_fits, well_formed}
use Rattle.model.specs.Refusals.{state_rows}
use Rattle.model.specs.declared.{geometry.Geometry.Geometry, item.Note.Note, state.Frame.Frame, state.State.State}
use Rattle.model.specs.Types.{Some}

-- ---- the clauses

pub record Formed (g : Geometry) (frames : ℕ) (s : State) : Type 0 where
  pub room : s.durable + s.pending ≤ most g
  pub few : s.pending ≤ 16
  pub notes : s.notes ≤ most_notes g
  pub note : pending_note_fits g s.notes s.durable s.note ≡ true
  pub table : (i : ℕ) → i < 16 → frame_fits g frames s i ≡ true
  pub pages : (i : ℕ) → i < 64 → page_fits g s i ≡ true

pub formed : (g : Geometry) (frames : ℕ) (s : State) → well_formed g frames s ≡ true → Formed g frames s
unfolding well_formed
formed g frames s h =
    let tests = leb (s.durable + s.pending) (most g) ∷ leb s.pending 16 ∷ leb s.notes (most_notes g)
    ∷ pending_note_fits g s.notes s.durable s.note ∷ every 16 (frame_fits g frames s) ∷ every 64 (page_fits g s) ∷ [] in
    record {
      room = leb-true _ _ (all-at tests 0 h);
      few = leb-true _ _ (all-at tests 1 h);
      notes = leb-true _ _ (all-at tests 2 h);
      note = all-at tests 3 h;
      table = every-at (frame_fits g frames s) 16 (all-at tests 4 h);
      pages = every-at (page_fits g s) 64 (all-at tests 5 h);
    }

pub record FormedNote (g : Geometry) (notes durable : ℕ) (n : Note) : Type 0 where
  pub room : notes < most_notes g
  pub slots : 0 < g.notes
  pub layout : note_layout n ≡ true
  pub number : n.number ≡ notes + 1
  pub low : 1 ≤ n.page
  pub high : n.page ≤ g.pages
  pub lsn : n.lsn ≤ durable

pub formed-note : (g : Geometry) (notes durable : ℕ) (n : Note) → pending_note_fits g notes durable (Some n) ≡ true
    → FormedNote g notes durable n
unfolding pending_note_fits
formed-note g notes durable n h =
    let tests = ltb notes (most_notes g) ∷ ltb 0 g.notes ∷ note_layout n ∷ eqb n.number (notes + 1) ∷ within g.pages n.page
    ∷ (is_written n || within g.slots n.slot) ∷ leb n.lsn durable ∷ [] in
    let w = within-bounds g.pages n.page (all-at tests 4 h) in
    record {
      room = ltb-true _ _ (all-at tests 0 h);
      slots = ltb-true _ _ (all-at tests 1 h);
      layout = all-at tests 2 h;
      number = eqb-true _ _ (all-at tests 3 h);
      low = w.0;
      high = w.1;
      lsn = leb-true _ _ (all-at tests 6 h);
    }

-- ---- the frame that holds a page

-- of rows i on, the search finds one of them, which holds the page
pub record Holds (i p : ℕ) (fs : List Frame) (k : ℕ) : Type 0 where
  pub low : i < k
  pub high : k ≤ i + length fs
  pub page : (get_or fs (k - suc i) empty_frame).page ≡ p

here : (i p : ℕ) (f : Frame) (fs : List Frame) → f.page ≡ p → Holds i p (f ∷ fs) (suc i)
here i p f fs e = let z : suc i - suc i ≡ 0 = omega arith in record { low = omega arith; high = omega arith; page = rw z e }

there : (i p : ℕ) (f : Frame) (fs : List Frame) (k : ℕ) → Holds (suc i) p fs k → Holds i p (f ∷ fs) k
there i p f fs k r =
    let z : k - suc i ≡ suc (k - suc (suc i)) = omega (arith, r.low) in
    record { low = omega (arith, r.low); high = omega (arith, r.high); page = rw z r.page }

pub holder-finds : (i p : ℕ) (fs : List Frame) → 0 < holder_from i p fs → Holds i p fs (holder_from i p fs)
unfolding holder_from
holder-finds i p [] h = absurd (omega arith)
holder-finds i p (f ∷ fs) h =
    by_cases (eqb f.page p) (λ t. rw t (here i p f fs (eqb-true f.page p t)))
    (λ t. rw t (there i p f fs (holder_from (suc i) p fs) (holder-finds (suc i) p fs (rw t at h))))

module _ (g : Geometry) (frames : ℕ) (s : State) (w : Formed g frames s) (rows : length s.frames ≡ 16) (p : ℕ)
    (at : held s p ≡ true) where
  found : Holds 0 p s.frames (holder s p)
  found = holder-finds 0 p s.frames (ltb-true _ _ at)

  pub holder-low : 1 ≤ holder s p
  holder-low = found.low

  pub holder-high : holder s p ≤ 16
  holder-high = omega (arith, found.high)

  pub holder-page : (frame_of s (holder s p)).page ≡ p
  holder-page = found.page

  frame-fits : frame_fits g frames s (holder s p - 1) ≡ true
  frame-fits = w.table (holder s p - 1) (omega (arith, holder-low, holder-high))

  -- a frame in use is one of the memory's
  pub holder-within : 1 ≤ p → holder s p ≤ frames
  unfolding frame_fits
  holder-within one =
      let i = holder s p - 1 in
      let f = frame_row s i in
      let empty = eqb f.page 0 in
      let tests = leb f.page g.pages ∷ (empty || first_holder s i) ∷ (empty || not (blank s f.page)) ∷ (not empty || not f.dirty)
      ∷ (ltb i frames || empty) ∷ [] in
      ⊎_elim (λ t. let l : i < frames = ltb-true i frames t in omega (arith, holder-low))
      (λ t. let z : f.page ≡ 0 = eqb-true f.page 0 t in let q : f.page ≡ p = holder-page in absurd (omega arith))
      (or_cases (ltb i frames) empty (all-at tests 4 frame-fits))

-- ---- the memory

pub record Memory (m : List ℕ) : Type 0 where
  pub low : 1 ≤ frame_count (length m)
  pub high : frame_count (length m) ≤ 16
  pub size : length m ≡ 1024 + 256 * frame_count (length m)

pub memory-facts : (m : List ℕ) → valid_memory (length m) ≡ true → Memory m
unfolding valid_memory
memory-facts m h =
    let tests = within 16 (frame_count (length m)) ∷ eqb (length m) (1024 + 256 * frame_count (length m)) ∷ [] in
    let w = within-bounds 16 (frame_count (length m)) (all-at tests 0 h) in
    record { low = w.0; high = w.1; size = eqb-true _ _ (all-at tests 1 h) }

module _ (m : List ℕ) (k : Memory m) where
  pub pending-fits : (n : ℕ) → pending_at n + 64 ≤ 1024
  pending-fits n = omega arith

  pub pending-length : (n : ℕ) → length (pending_bytes m n) ≡ 64
  pending-length n = part_length m (pending_at n) 64 (omega (arith, k.low, k.size, pending-fits n))

  pub frame-within : (f : ℕ) → 1 ≤ f → f ≤ frame_count (length m) → frame_at f + 256 ≤ length m
  frame-within f a b = omega (arith, k.size)

  pub frame-length : (f : ℕ) → 1 ≤ f → f ≤ frame_count (length m) → length (frame_bytes m f) ≡ 256
  frame-length f a b = part_length m (frame_at f) 256 (frame-within f a b)

-- ---- a call on the state that rows 1 and 2 let through

pub record Ready (v m : List ℕ) (s : State) (rows : List Row) : Type 0 where
  pub volume : valid_volume v ≡ true
  pub memory : Memory m
  pub state : Formed (geometry_of v) (frame_count (length m)) s
  pub rest : first_of rows ≡ 0

pick-rest : (t : Bool) (n k : ℕ) → (n ≡ 0 → ⊥) → cond t n k ≡ 0 → k ≡ 0
pick-rest true n k ne h = absurd (ne h)
pick-rest false n k ne h = h

pick-none : (t : Bool) (n k : ℕ) → (n ≡ 0 → ⊥) → cond t n k ≡ 0 → t ≡ false
pick-none true n k ne h = absurd (ne h)
pick-none false n k ne h = refl

pub ready : (v m : List ℕ) (s : State) (rows : List Row) → first_of (state_rows v m s rows) ≡ 0 → Ready v m s rows
ready v m s rows h =
    let a = not (valid_volume v) in
    let b = not (valid_memory (length m)) in
    let c = not (well_formed (geometry_of v) (frame_count (length m)) s) in
    let one : ◌≡◌ {A = ℕ} 1 0 → ⊥ = eqb-false 1 0 refl in
    let two : ◌≡◌ {A = ℕ} 2 0 → ⊥ = eqb-false 2 0 refl in
    let h₁ = pick-rest a 1 _ one h in
    let h₂ = pick-rest b 2 _ two h₁ in
    record {
      volume = not-false _ (pick-none a 1 _ one h);
      memory = memory-facts m (not-false _ (pick-none b 2 _ two h₁));
      state = formed (geometry_of v) (frame_count (length m)) s (not-false _ (pick-none c 2 _ two h₂));
      rest = pick-rest c 2 _ two h₂;
    }

-- and a row before them
pub ready-behind : (t : Bool) (v m : List ℕ) (s : State) (rows : List Row) → first_of ((t, 1) ∷ state_rows v m s rows) ≡ 0
    → (t ≡ false) × Ready v m s rows
ready-behind t v m s rows h =
    let one : ◌≡◌ {A = ℕ} 1 0 → ⊥ = eqb-false 1 0 refl in
    (pick-none t 1 _ one h, ready v m s rows (pick-rest t 1 _ one h))

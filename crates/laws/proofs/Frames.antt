-- A well-formed state read clause by clause, and built again: rows of the frame table, entries of the index, and a page put into a row.
use mathlib.Core.Path.{◌≡◌}
use mathlib.Core.Logic.{◌≢◌, ⊎_elim}
use mathlib.Core.Bool.{true, false, ◌||◌, not}
use mathlib.Core.List.{List, [], ◌∷◌}
use Prim.Native.Nat.{ℕ, zero, suc, ◌+◌, ◌-◌, ◌≤◌, ◌<◌}
use native.Mathlib.Omega.{arith}
use native.Mathlib.Decide.{dec_lt}
use native.Mathlib.Nat.{le_of_suc-le-suc}
use lib.Dec.{eqb, leb, ltb}
use lib.ListN.{length, get_or}
use borrow.Author.Tests.{leb-true, le-leb, ltb-true, ltb-false, lt-ltb, le-ltb, eqb-true, eqb-false, eq-eqb, ne_eqb}
use Rattle.laws.proofs.Tables.{all-at, all-holds, every-at, every-all, or_cases, or_left, or_right, or-other, not-true, by_cases}
use Rattle.laws.proofs.WellFormed.{Formed}
use Rattle.model.specs.Tables.{every}
use Rattle.model.specs.Geometry.{most, most_notes}
use Rattle.model.specs.Index.{entry_row, entry_of}
use Rattle.model.specs.State.{empty_frame, frame_row, holder_from, holder, held, blank, last_number, pending_note_fits}
use Rattle.model.specs.State.{first_holder, frame_fits, entry_fits, entry_zero, page_fits, well_formed}
use Rattle.model.specs.declared.{geometry.Geometry.Geometry, state.Entry.Entry, state.Frame.Frame, state.State.State}

-- ---- the search for a page

missing-from : (p i : ℕ) (fs : List Frame) → holder_from i p fs ≡ 0 → (j : ℕ) → j < length fs → (get_or fs j empty_frame).page ≢ p
unfolding holder_from
missing-from p i [] h j b e = omega arith
missing-from p i (f ∷ fs) h zero b e = let h' : suc i ≡ 0 = rw (eq-eqb f.page p e) at h in omega arith
missing-from p i (f ∷ fs) h (suc j) b e = by_cases (eqb f.page p)
    (λ t. let h' : suc i ≡ 0 = rw t at h in omega arith)
    (λ t. missing-from p (suc i) fs (rw t at h) j (le_of_suc-le-suc b) e)

-- a page that is not found is in no row
pub missing : (p : ℕ) (fs : List Frame) → holder_from 0 p fs ≡ 0 → (j : ℕ) → j < length fs → (get_or fs j empty_frame).page ≢ p
missing p fs = missing-from p 0 fs

pub not-held : (s : State) (p : ℕ) → held s p ≡ false → (j : ℕ) → j < length s.frames → (frame_row s j).page ≢ p
not-held s p t = missing p s.frames (let z : holder s p ≤ 0 = ltb-false 0 (holder s p) t in omega arith)

-- and a page in a row is found
pub is_held : (s : State) (p j : ℕ) → j < length s.frames → (frame_row s j).page ≡ p → held s p ≡ true
is_held s p j b e = by_cases (held s p) (λ t. t) (λ t. absurd (not-held s p t j b e))

-- ---- the clauses of a row and of an entry

pub record RowFits (g : Geometry) (frames : ℕ) (s : State) (i : ℕ) : Type 0 where
  pub high : (frame_row s i).page ≤ g.pages
  pub once : (frame_row s i).page ≢ 0 → (j : ℕ) → j < i → (frame_row s j).page ≢ (frame_row s i).page
  pub some : (frame_row s i).page ≢ 0 → (entry_of s.index (frame_row s i).page).last ≢ 0
  pub idle : (frame_row s i).page ≡ 0 → (frame_row s i).dirty ≡ false
  pub inside : (frame_row s i).page ≢ 0 → i < frames

pub row_fits : (g : Geometry) (frames : ℕ) (s : State) (i : ℕ) → frame_fits g frames s i ≡ true → RowFits g frames s i
unfolding frame_fits
row_fits g frames s i h =
    let f = frame_row s i in
    let empty = eqb f.page 0 in
    let tests = leb f.page g.pages ∷ (empty || first_holder s i) ∷ (empty || not (blank s f.page)) ∷ (not empty || not f.dirty)
    ∷ (ltb i frames || empty) ∷ [] in
    record {
      high = leb-true _ _ (all-at tests 0 h);
      once = λ nz j l. eqb-false _ _ (not-true _ (every-at (λ k. not (eqb (frame_row s k).page f.page)) i
          (or-other empty (first_holder s i) (all-at tests 1 h) (ne_eqb f.page 0 nz)) j l));
      some = λ nz. eqb-false _ _ (not-true _ (or-other empty (not (blank s f.page)) (all-at tests 2 h) (ne_eqb f.page 0 nz)));
      idle = λ z. not-true f.dirty (or-other (not empty) (not f.dirty) (all-at tests 3 h) (rw (eq-eqb f.page 0 z)));
      inside = λ nz. ⊎_elim (λ t. ltb-true i frames t) (λ t. absurd (nz (eqb-true f.page 0 t)))
          (or_cases (ltb i frames) empty (all-at tests 4 h));
    }

pub fits-row : (g : Geometry) (frames : ℕ) (s : State) (i : ℕ) → RowFits g frames s i → frame_fits g frames s i ≡ true
unfolding frame_fits
fits-row g frames s i r =
    let f = frame_row s i in
    let empty = eqb f.page 0 in
    all-holds (leb f.page g.pages ∷ (empty || first_holder s i) ∷ (empty || not (blank s f.page)) ∷ (not empty || not f.dirty)
    ∷ (ltb i frames || empty) ∷ []) (
      le-leb _ _ r.high,
      (
        by_cases empty (λ t. or_left (first_holder s i) t) (λ t. or_right empty
            (every-all (λ j. not (eqb (frame_row s j).page f.page)) i (λ j l. rw (ne_eqb _ _ (r.once (eqb-false _ _ t) j l))))),
        (
          by_cases empty (λ t. or_left (not (blank s f.page)) t) (λ t. or_right empty (rw (ne_eqb _ _ (r.some (eqb-false _ _ t))))),
          (
            by_cases empty (λ t. or_right (not empty) (rw (r.idle (eqb-true _ _ t))))
                (λ t. or_left {a = not empty} (not f.dirty) (rw t)),
            (by_cases empty (λ t. or_right (ltb i frames) t) (λ t. or_left empty (lt-ltb _ _ (r.inside (eqb-false _ _ t)))), tt),
          ),
        ),
      ),
    )

-- an entry's numbers
pub record Numbers (g : Geometry) (s : State) (e : Entry) : Type 0 where
  pub last : e.last ≤ last_number s
  pub durable : e.durable ≤ e.last
  pub count : e.durable ≤ s.durable
  pub written : e.written ≤ e.durable
  pub backup : e.backup ≤ e.durable
  pub slot : e.slot ≤ g.slots

pub record EntryFits (g : Geometry) (s : State) (p : ℕ) (e : Entry) : Type 0 where
  pub numbers : Numbers g s e
  pub away : held s p ≡ false → e.last ≡ e.durable

pub entry-fits : (g : Geometry) (s : State) (p : ℕ) (e : Entry) → entry_fits g s p e ≡ true → EntryFits g s p e
unfolding entry_fits
entry-fits g s p e h =
    let tests = leb e.last (last_number s) ∷ leb e.durable e.last ∷ leb e.durable s.durable ∷ leb e.written e.durable
    ∷ leb e.backup e.durable ∷ leb e.slot g.slots ∷ (held s p || eqb e.last e.durable) ∷ [] in
    record {
      numbers = record {
        last = leb-true _ _ (all-at tests 0 h);
        durable = leb-true _ _ (all-at tests 1 h);
        count = leb-true _ _ (all-at tests 2 h);
        written = leb-true _ _ (all-at tests 3 h);
        backup = leb-true _ _ (all-at tests 4 h);
        slot = leb-true _ _ (all-at tests 5 h);
      };
      away = λ t. eqb-true _ _ (or-other (held s p) (eqb e.last e.durable) (all-at tests 6 h) t);
    }

pub fits-entry : (g : Geometry) (s : State) (p : ℕ) (e : Entry) → EntryFits g s p e → entry_fits g s p e ≡ true
unfolding entry_fits
fits-entry g s p e f =
    let n = f.numbers in
    all-holds (leb e.last (last_number s) ∷ leb e.durable e.last ∷ leb e.durable s.durable ∷ leb e.written e.durable
    ∷ leb e.backup e.durable ∷ leb e.slot g.slots ∷ (held s p || eqb e.last e.durable) ∷ []) (
      le-leb _ _ n.last,
      (
        le-leb _ _ n.durable,
        (
          le-leb _ _ n.count,
          (
            le-leb _ _ n.written,
            (
              le-leb _ _ n.backup,
              (
                le-leb _ _ n.slot,
                (by_cases (held s p) (λ t. or_left (eqb e.last e.durable) t) (λ t. or_right (held s p) (eq-eqb _ _ (f.away t))), tt),
              ),
            ),
          ),
        ),
      ),
    )

-- page p's entry, and what lies past the last page
module _ (g : Geometry) (frames : ℕ) (s : State) (w : Formed g frames s) where
  pub entry-of : g.pages ≤ 64 → (p : ℕ) → 1 ≤ p → p ≤ g.pages → EntryFits g s p (entry_of s.index p)
  unfolding page_fits
  entry-of h p lo hi =
      let e : suc (p - 1) ≡ p = omega arith in
      let t : entry_fits g s (suc (p - 1)) (entry_row s.index (p - 1)) ≡ true =
      rw (lt-ltb (p - 1) g.pages (omega arith)) at (w.pages (p - 1) (omega arith)) in
      entry-fits g s p (entry_of s.index p) (rw e at t)

  pub entry_past : (i : ℕ) → i < 64 → g.pages ≤ i → entry_zero (entry_row s.index i) ≡ true
  unfolding page_fits
  entry_past i l h = rw (le-ltb i g.pages h) at (w.pages i l)

pub page-fits : (g : Geometry) (s : State) (i : ℕ) → (i < g.pages → EntryFits g s (suc i) (entry_row s.index i))
    → (g.pages ≤ i → entry_zero (entry_row s.index i) ≡ true)
    → page_fits g s i ≡ true
unfolding page_fits
page-fits g s i f z = elim (dec_lt i g.pages) [
  | yes l ↦ rw (lt-ltb i g.pages l) (fits-entry g s (suc i) (entry_row s.index i) (f l))
  | no l ↦ rw (le-ltb i g.pages (omega arith)) (z (omega arith))
]

-- ---- the whole

pub forms : (g : Geometry) (frames : ℕ) (s : State) → Formed g frames s → well_formed g frames s ≡ true
unfolding well_formed
forms g frames s f =
    all-holds (leb (s.durable + s.pending) (most g) ∷ leb s.pending 16 ∷ leb s.notes (most_notes g)
    ∷ pending_note_fits g s.notes s.durable s.note ∷ every 16 (frame_fits g frames s) ∷ every 64 (page_fits g s) ∷ []) (
      le-leb _ _ f.room,
      (
        le-leb _ _ f.few,
        (le-leb _ _ f.notes, (f.note, (every-all (frame_fits g frames s) 16 f.table, (every-all (page_fits g s) 64 f.pages, tt)))),
      ),
    )

-- The tests of a state as the code makes them: what its callees give comes to the model's clauses.
use Prim.Native.Nat.{ℕ, ◌+◌, ◌≤◌}
use mathlib.Core.Path.{◌≡◌, refl, ap, sym, ◌∙◌}
use mathlib.Core.List.{List, [], ◌∷◌}
use mathlib.Core.Bool.{Bool, true, false, ◌&&◌, ◌||◌, not, cond}
use lib.Dec.{eqb, leb, ltb}
use lib.ListN.{length, get_or, get_or-eq_default}
use native.Mathlib.Numerals.{add-one}
use native.Mathlib.Omega.{arith}
use borrow.Author.Tests.{leb-true, le-leb, eqb-true, eq-eqb, ne_eqb}
use Rattle.laws.proofs.Tables.{true-not-false, every-same, when_true, when_false}
use Rattle.model.specs.Tables.{Row, all, every, first_of}
use Rattle.model.specs.Geometry.{geometry_of, valid_volume, most, most_notes}
use Rattle.model.specs.Index.{entry_of}
use Rattle.model.specs.State.{empty_frame, frame_count, valid_memory, pending_note_fits, frame_fits, entry_fits, page_fits, well_formed}
use Rattle.model.specs.Refusals.{state_rows}
use Rattle.state.specs.Clauses.{row_clauses, frame_in, entry_clauses, settled_clauses}
use Rattle.state.specs.Clauses.{page_in, count_clauses}
use Rattle.model.specs.declared.geometry.Geometry.{Geometry}
use Rattle.model.specs.declared.state.Entry.{Entry}
use Rattle.model.specs.declared.state.Frame.{Frame}
use Rattle.model.specs.declared.state.State.{State}

pub or-second : (a b : Bool) → a ≡ false → b ≡ (a || b)
or-second a b t = sym (rw t)

-- an entry whose last number is durable
spread : (a b c x y z k : Bool) → (c ≡ true → a ≡ true) → b ≡ true → k ≡ true
    → all (c ∷ x ∷ y ∷ z ∷ []) ≡ all (a ∷ b ∷ c ∷ x ∷ y ∷ z ∷ k ∷ [])
spread a b true x y true k h eb ek = sym (rw (h refl, eb, ek))
spread a b true x y false k h eb ek = sym (rw (h refl, eb))
spread true b false x y z k h eb ek = sym (rw eb)
spread false b false x y z k h eb ek = refl

or-last : (a b : Bool) → b ≡ true → (a || b) ≡ true
or-last true b e = refl
or-last false b e = e

pub settled_is : (g : Geometry) (durable pending : ℕ) (h : Bool) (e : Entry) → e.last ≡ e.durable
    → settled_clauses g durable e ≡ entry_clauses g durable pending h e
settled_is g durable pending h e q =
    spread (leb e.last (durable + pending)) (leb e.durable e.last) (leb e.durable durable) (leb e.written e.durable)
    (leb e.backup e.durable) (leb e.slot g.slots) (h || eqb e.last e.durable)
    (λ t. le-leb e.last (durable + pending) (omega (arith, q, leb-true e.durable durable t)))
    (le-leb e.durable e.last (omega (arith, q))) (or-last h _ (eq-eqb _ _ q))

-- a row that is empty and clean is passed over
neither : (a b : Bool) → (not a || b) ≡ false → (a ≡ true) × (b ≡ false)
neither true b e = (refl, e)
neither false b e = absurd (true-not-false refl e)

pub row-passed : (g : Geometry) (count : ℕ) (table : List Frame) (i last : ℕ)
    → let f = get_or table i empty_frame in (not (eqb f.page 0) || f.dirty) ≡ false → true ≡ row_clauses g count table i last
row-passed g count table i last e =
    let f = get_or table i empty_frame in
    let n = neither (eqb f.page 0) f.dirty e in
    let l : leb f.page g.pages ≡ true = le-leb f.page g.pages (omega (arith, eqb-true f.page 0 n.0)) in
    sym (rw (l, n.0, n.1) (or-last (ltb i count) true refl))

-- past the table's end there are no frames to test
pub frame_past : (g : Geometry) (count : ℕ) (table : List Frame) (index : List Entry) (i : ℕ) → length table ≤ i
    → frame_in g count table index i ≡ true
frame_past g count table index i h =
    let e = get_or-eq_default table empty_frame {n = i} h in
    sym (row-passed g count table i (entry_of index (get_or table i empty_frame).page).last (rw e))

module _ (g : Geometry) (s : State) where
  frames-are : (count : ℕ) → every 16 (frame_in g count s.frames s.index) ≡ every 16 (frame_fits g count s)
  unfolding frame_fits
  frames-are count = every-same (frame_in g count s.frames s.index) (frame_fits g count s) 16 (λ i l. refl)

  pages-are : every 64 (page_in g s.durable s.pending s.frames s.index) ≡ every 64 (page_fits g s)
  unfolding page_fits entry_fits
  pages-are = every-same (page_in g s.durable s.pending s.frames s.index) (page_fits g s) 64 (λ i l. rw add-one)

  joined : (a b c d f p : Bool) → all (a ∷ b ∷ c ∷ d ∷ f ∷ p ∷ []) ≡ (all (a ∷ b ∷ c ∷ d ∷ []) && (f && p))
  joined false b c d f p = refl
  joined true false c d f p = refl
  joined true true false d f p = refl
  joined true true true false f p = refl
  joined true true true true f p = refl

  -- the tests in the code's order: the counts and the pending note, the frames, the pages
  abbrev counts : Bool
  counts = count_clauses g s.durable s.pending s.notes s.note

  abbrev frames : ℕ → Bool
  frames count = every 16 (frame_in g count s.frames s.index)

  abbrev pages : Bool
  pages = every 64 (page_in g s.durable s.pending s.frames s.index)

  pub formed-is : (count : ℕ) → well_formed g count s ≡ (counts && (frames count && pages))
  unfolding well_formed
  formed-is count =
      joined (leb (s.durable + s.pending) (most g)) (leb s.pending 16) (leb s.notes (most_notes g))
      (pending_note_fits g s.notes s.durable s.note) (every 16 (frame_fits g count s)) (every 64 (page_fits g s))
      ∙ ap (λ (x : Bool). counts && (x && every 64 (page_fits g s))) (sym (frames-are count))
      ∙ ap (λ (x : Bool). counts && (frames count && x)) (sym pages-are)

-- the code's tests, in the table's order, come to the rows 1, 2, 2
module _ (s : State) (v m : List ℕ) where
  pub refused-1 : (valid : Bool) → valid ≡ valid_volume v → valid ≡ false → 1 ≡ first_of (state_rows v m s [])
  refused-1 valid ev t = sym (rw (← ev, t))

  pub refused-2 : (size : ℕ) (valid memory : Bool) → valid ≡ valid_volume v → memory ≡ valid_memory size → valid ≡ true → memory ≡ false
      → length m ≡ size
      → 2 ≡ first_of (state_rows v m s [])
  refused-2 size valid memory ev em tv tm en = sym (rw (← ev, tv, en, ← em, tm))

  pub refusal_is : (size count : ℕ) (g : Geometry) (valid memory formed : Bool) (k : ℕ) → valid ≡ valid_volume v → memory ≡ valid_memory size
      → valid ≡ true
      → memory ≡ true
      → g ≡ geometry_of v
      → count ≡ frame_count size
      → formed ≡ well_formed g count s
      → k ≡ cond (not formed) 2 0
      → length m ≡ size
      → k ≡ first_of (state_rows v m s [])
  refusal_is size count g valid memory formed k ev em tv tm eg ec ef ek en = sym (rw (← ev, tv, en, ← em, tm, ← eg, ← ec, ← ef, ek))

-- a call's own rows come after them
after : (a b c : Bool) (n : ℕ)
    → cond (not (eqb (cond a 1 (cond b 2 (cond c 2 0))) 0)) (cond a 1 (cond b 2 (cond c 2 0))) n ≡ cond a 1 (cond b 2 (cond c 2 n))
after true b c n = refl
after false true c n = refl
after false false true n = refl
after false false false n = refl

pub refusal-then : (v m : List ℕ) (s : State) (rows : List Row) (k rest : ℕ) → k ≡ first_of (state_rows v m s []) → rest ≡ first_of rows
    → cond (not (eqb k 0)) k rest ≡ first_of (state_rows v m s rows)
refusal-then v m s rows k rest ek er =
    rw (ek, er)
    (after (not (valid_volume v)) (not (valid_memory (length m))) (not (well_formed (geometry_of v) (frame_count (length m)) s)) (first_of rows))

-- the same where the code goes on only if they refuse nothing
pub refusal-first : (v m : List ℕ) (s : State) (rows : List Row) (k : ℕ) → k ≡ first_of (state_rows v m s []) → (k ≡ 0 → ⊥)
    → k ≡ first_of (state_rows v m s rows)
refusal-first v m s rows k ek ne =
    sym (when_true k (first_of rows) (ap not (ne_eqb k 0 ne))) ∙ refusal-then v m s rows k (first_of rows) ek refl

pub refusal-last : (v m : List ℕ) (s : State) (rows : List Row) (k rest : ℕ) → k ≡ first_of (state_rows v m s []) → k ≡ 0
    → rest ≡ first_of rows → rest ≡ first_of (state_rows v m s rows)
refusal-last v m s rows k rest ek z er = sym (when_false k rest (ap not (eq-eqb k 0 z))) ∙ refusal-then v m s rows k rest ek er

-- Clauses of a well-formed state, over the parts of the state that each looks at: what the code's small functions
-- answer.
use Rattle.std.specs.Prelude.{ℕ, ◌+◌, Bool, ◌||◌, not, cond, List, [], ◌∷◌, eqb, leb, ltb, get_or}
use Rattle.model.specs.Tables.{all, every}
use Rattle.model.specs.Geometry.{most, most_notes}
use Rattle.model.specs.State.{empty_frame, holder_from, pending_note_fits, entry_zero}
use Rattle.model.specs.Index.{entry_row, entry_of}
use Rattle.model.specs.declared.{geometry.Geometry.Geometry, state.Entry.Entry, state.Frame.Frame}
use Rattle.model.specs.Types.{PendingNote}

-- no row of a frame table before row i holds its page
abbrev pub first_in : List Frame → ℕ → Bool
first_in table i = every i (λ j. not (eqb (get_or table j empty_frame).page (get_or table i empty_frame).page))

-- row i is empty, or no row before it holds its page
abbrev pub sole_in : List Frame → ℕ → Bool
sole_in table i = eqb (get_or table i empty_frame).page 0 || first_in table i

-- frame i, counted from 0, by its row, whether no row before it holds its page, and the page's last number
abbrev pub frame_clauses : Geometry → ℕ → ℕ → Frame → Bool → ℕ → Bool
frame_clauses g count i f only last =
    let empty = eqb f.page 0 in
    all
    (leb f.page g.pages ∷ (empty || only) ∷ (empty || not (eqb last 0)) ∷ (not empty || not f.dirty) ∷
    (ltb i count || empty) ∷ [])

-- the same of row i of a frame table
abbrev pub row_clauses : Geometry → ℕ → List Frame → ℕ → ℕ → Bool
row_clauses g count table i last = frame_clauses g count i (get_or table i empty_frame) (first_in table i) last

-- the same, with the tables of frames and entries
abbrev pub frame_in : Geometry → ℕ → List Frame → List Entry → ℕ → Bool
frame_in g count table index i = row_clauses g count table i (entry_of index (get_or table i empty_frame).page).last

-- the entry of a page of the volume, which is in a frame or not, beside the counts of durable and pending records
abbrev pub entry_clauses : Geometry → ℕ → ℕ → Bool → Entry → Bool
entry_clauses g durable pending in_frame e =
    all
    (leb e.last (durable + pending) ∷ leb e.durable e.last ∷ leb e.durable durable ∷ leb e.written
    e.durable
    ∷ leb e.backup e.durable ∷ leb e.slot g.slots ∷ (in_frame || eqb e.last e.durable) ∷ [])

-- what is left of these where the last number is durable
abbrev pub settled_clauses : Geometry → ℕ → Entry → Bool
settled_clauses g durable e =
    all (leb e.durable durable ∷ leb e.written e.durable ∷ leb e.backup e.durable ∷ leb e.slot g.slots ∷ [])

-- the entry of page i + 1
abbrev pub page_clauses : Geometry → ℕ → ℕ → Bool → ℕ → Entry → Bool
page_clauses g durable pending in_frame i e = cond (ltb i g.pages) (entry_clauses g durable pending in_frame e)
    (entry_zero e)

-- the same, with the tables of frames and entries
abbrev pub page_in : Geometry → ℕ → ℕ → List Frame → List Entry → ℕ → Bool
page_in g durable pending table index i = page_clauses g durable pending (ltb 0 (holder_from 0 (i + 1) table)) i
    (entry_row index i)

-- the counts of durable and pending records and of notes, and the pending note
abbrev pub count_clauses : Geometry → ℕ → ℕ → ℕ → PendingNote → Bool
count_clauses g durable pending notes p =
    all
    (leb (durable + pending) (most g) ∷ leb pending 16 ∷ leb notes (most_notes g)
    ∷ pending_note_fits g notes durable p ∷ [])

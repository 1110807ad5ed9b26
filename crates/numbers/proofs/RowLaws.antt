-- One row of the pages written over a state's numbers: they are those of the state with that row set.
use mathlib.Core.Path.{◌≡◌, refl, sym, ap, ◌∙◌}
use mathlib.Core.List.{List, [], ◌∷◌, ◌++◌, append_assoc}
use borrow.Rule.Slice.PartMut.{put_mid, post_of}
use Prim.Native.Nat.{ℕ, zero, suc, ◌+◌, ◌*◌, ◌<◌}
use native.Mathlib.Omega.{arith}
use lib.ListN.{length, take, drop, get_or, set, length-append}
use lib.Seq.{take_at, drop_at, take-append-add, drop-append-add}
use Rattle.model.specs.Index.{empty_entry}
use Rattle.model.specs.declared.{state.Entry.Entry, state.State.State}
use Rattle.face.specs.Numbers.{note_numbers, frame_numbers, entry_numbers, numbers_of}
use Rattle.numbers.proofs.NumberLaws.{head-long, frames-long}

abbrev pub row_numbers : Entry → List ℕ
row_numbers e = e.last ∷ e.durable ∷ e.written ∷ e.slot ∷ e.backup ∷ []

row-set : (es : List Entry) (i : ℕ) (e : Entry) → i < length es
    → take (5 * i) (entry_numbers es) ++ (row_numbers e ++ drop 5 (drop (5 * i) (entry_numbers es))) ≡ entry_numbers (set es i e)
unfolding entry_numbers
row-set [] i e h = absurd (omega arith)
row-set (x ∷ es) zero e h = refl
row-set (x ∷ es) (suc i) e h =
    let p : 5 * suc i ≡ suc (suc (suc (suc (suc (5 * i))))) = omega arith in
    let again = row-set es i e (omega arith) in
    rw p (ap (λ (xs : List ℕ). x.last ∷ x.durable ∷ x.written ∷ x.slot ∷ x.backup ∷ xs) again)

-- a and f over the first 8 and 32 numbers, then a row
covered-row : (a₀ f₀ a f : List ℕ) (es : List Entry) (i : ℕ) (e : Entry) → length a₀ ≡ 8 → length f₀ ≡ 32 → length a ≡ 8
    → length f ≡ 32 → i < length es
    → put_mid (40 + 5 * i) 5 (put_mid 8 32 (a ++ post_of 0 8 (a₀ ++ (f₀ ++ entry_numbers es))) f) (row_numbers e)
    ≡ a ++ (f ++ entry_numbers (set es i e))
covered-row a₀ f₀ a f es i e la₀ lf₀ la lf h =
    let n = entry_numbers es in
    let x : drop 8 (a₀ ++ (f₀ ++ n)) ≡ f₀ ++ n = drop_at a₀ (f₀ ++ n) 8 la₀ in
    let y : drop 32 (f₀ ++ n) ≡ n = drop_at f₀ n 32 lf₀ in
    let one : put_mid 8 32 (a ++ (f₀ ++ n)) f ≡ a ++ (f ++ n) =
    rw (take_at a (f₀ ++ n) 8 la, drop_at a (f₀ ++ n) 8 la, y) in
    let l : length (a ++ f) ≡ 40 = simp length-append (omega arith) in
    let r : a ++ (f ++ n) ≡ (a ++ f) ++ n = sym (append_assoc a f n) in
    let t : take (40 + 5 * i) ((a ++ f) ++ n) ≡ (a ++ f) ++ take (5 * i) n = rw (← l) (take-append-add (a ++ f) n (5 * i)) in
    let d : drop (40 + 5 * i) ((a ++ f) ++ n) ≡ drop (5 * i) n = rw (← l) (drop-append-add (a ++ f) n (5 * i)) in
    let s = row-set es i e h in
    rw (x, one, r, t, d)
    (append_assoc (a ++ f) (take (5 * i) n) (row_numbers e ++ drop 5 (drop (5 * i) n)) ∙ ap (λ (xs : List ℕ). (a ++ f) ++ xs) s
    ∙ append_assoc a f (entry_numbers (set es i e)))

-- the numbers of a state t, and those of a state s whose index differs in row i at most: what `update` writes
pub row-updated : (t s : State) (out a f r : List ℕ) (i n : ℕ) → length t.frames ≡ 16 → length t.index ≡ 64
    → out ≡ numbers_of t → s.index ≡ set t.index i (get_or s.index i empty_entry) → i < 64 → n ≡ 5
    → a ≡ s.durable ∷ s.pending ∷ s.notes ∷ note_numbers s.note → f ≡ frame_numbers s.frames → length f ≡ 32
    → r ≡ row_numbers (get_or s.index i empty_entry)
    → put_mid (40 + 5 * i) n (put_mid 8 32 (a ++ post_of 0 8 out) f) r ≡ numbers_of s
unfolding numbers_of
row-updated t s out a f r i n lf li eo one h en ea ef l er =
    let e = get_or s.index i empty_entry in
    let la : length a ≡ 8 = ap length ea ∙ head-long s.durable s.pending s.notes s.note in
    let c =
    covered-row (t.durable ∷ t.pending ∷ t.notes ∷ note_numbers t.note) (frame_numbers t.frames) a f t.index i e
    (head-long t.durable t.pending t.notes t.note) (omega (arith, frames-long t.frames, lf)) la l (omega arith) in
    rw (eo, en, er) c ∙ ap (λ (es : List Entry). a ++ (f ++ entry_numbers es)) (sym one) ∙ rw (ea, ef)

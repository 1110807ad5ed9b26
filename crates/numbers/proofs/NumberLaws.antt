-- Laws of the state's numbers: one more element written, the number at each place, lists compared, and that `state_of` and
-- `numbers_of` are each other's inverse on what fits.
use mathlib.Core.Path.{◌≡◌, refl, sym, ◌∙◌}
use mathlib.Core.Bool.{Bool, true, false}
use mathlib.Core.List.{List, [], ◌∷◌, ◌++◌, append_assoc, append-nil}
use borrow.Rule.Slice.PartMut.{put_mid, post_of}
use Prim.Native.Nat.{ℕ, zero, suc, ◌+◌, ◌*◌, ◌%◌, ◌≤◌, ◌<◌}
use native.Mathlib.Omega.{arith}
use native.Mathlib.Nat.{mod-eq_of_lt}
use lib.Dec.{eqb}
use lib.ListN.{length, take, drop, get_or, set, length-set, length-append, length-drop}
use lib.Seq.{take-suc, take-suc-set, take_all, take_at, drop_at}
use borrow.Author.Tests.{ne_eqb}
use Rattle.laws.proofs.Tabulated.{tabulate-length, tabulate-at, table_of}
use Rattle.model.specs.Bytes.{part}
use Rattle.model.specs.Demand1.{Arrays}
use Rattle.model.specs.Index.{empty_entry}
use Rattle.model.specs.State.{empty_frame}
use Rattle.model.specs.declared.{state.Entry.Entry, state.Frame.Frame, state.State.State}
use Rattle.face.specs.Numbers.{bit_of, note_numbers, frame_numbers, entry_numbers, numbers_of}
use Rattle.face.specs.Numbers.{note_from, frame_row, entry_row, frames_of, entries_of, state_of}
use Rattle.model.specs.Types.{PendingNote, None, Some}

-- ---- lists that agree so far

pub more : {A : Type 0} (xs ys : List A) (i j : ℕ) (d v : A) → j ≡ suc i → i < length xs → length xs ≡ length ys
    → take i xs ≡ take i ys → v ≡ get_or ys i d → take j (set xs i v) ≡ take j ys
more xs ys i j d v ej hx el e h =
    let hy : i < length ys = omega arith in
    rw (ej, take-suc-set, take-suc ys i d, e, h)

pub whole : {A : Type 0} (xs ys : List A) (i : ℕ) → length xs ≤ i → length xs ≡ length ys → take i xs ≡ take i ys → xs ≡ ys
whole xs ys i h el e = sym (take_all i xs h) ∙ e ∙ take_all i ys (omega arith)

-- two, and five, more
pub two : (xs ys : List ℕ) (k j a b : ℕ) → j ≡ k + 2 → k + 2 ≤ length xs → length xs ≡ length ys
    → take k xs ≡ take k ys → a ≡ get_or ys k 0 → b ≡ get_or ys (k + 1) 0
    → take j (set (set xs k a) (k + 1) b) ≡ take j ys
two xs ys k j a b ej h el e ha hb =
    more (set xs k a) ys (k + 1) j 0 b (omega arith) (simp length-set (omega arith)) (simp length-set el)
    (more xs ys k (k + 1) 0 a (omega arith) (omega arith) el e ha) hb

pub five : (xs ys : List ℕ) (k j a b c d e : ℕ) → j ≡ k + 5 → k + 5 ≤ length xs → length xs ≡ length ys
    → take k xs ≡ take k ys → a ≡ get_or ys k 0 → b ≡ get_or ys (k + 1) 0 → c ≡ get_or ys (k + 2) 0 → d ≡ get_or ys (k + 3) 0
    → e ≡ get_or ys (k + 4) 0
    → take j (set (set (set (set (set xs k a) (k + 1) b) (k + 2) c) (k + 3) d) (k + 4) e) ≡ take j ys
five xs ys k j a b c d e ej h el p ha hb hc hd he =
    more (set (set (set (set xs k a) (k + 1) b) (k + 2) c) (k + 3) d) ys (k + 4) j 0 e (omega arith)
    (simp length-set (omega arith)) (simp length-set el)
    (more (set (set (set xs k a) (k + 1) b) (k + 2) c) ys (k + 3) (k + 4) 0 d (omega arith)
    (simp length-set (omega arith)) (simp length-set el)
    (more (set (set xs k a) (k + 1) b) ys (k + 2) (k + 3) 0 c (omega arith)
    (simp length-set (omega arith)) (simp length-set el)
    (two xs ys k (k + 2) a b refl (omega arith) el p ha hb) hc) hd) he

-- ---- the number at each place

twice : (i : ℕ) → 2 * suc i ≡ suc (suc (2 * i))
twice i = omega arith

pub frame-page : (fs : List Frame) (i : ℕ) → get_or (frame_numbers fs) (2 * i) 0 ≡ (get_or fs i empty_frame).page
unfolding frame_numbers
frame-page [] i = refl
frame-page (f ∷ fs) zero = refl
frame-page (f ∷ fs) (suc i) = rw (twice i) (frame-page fs i)

pub frame-dirty : (fs : List Frame) (i : ℕ) → get_or (frame_numbers fs) (2 * i + 1) 0 ≡ bit_of (get_or fs i empty_frame).dirty
unfolding frame_numbers
frame-dirty [] i = refl
frame-dirty (f ∷ fs) zero = refl
frame-dirty (f ∷ fs) (suc i) =
    let e : 2 * suc i + 1 ≡ suc (suc (2 * i + 1)) = omega arith in rw e (frame-dirty fs i)

pub frames-long : (fs : List Frame) → length (frame_numbers fs) ≡ 2 * length fs
unfolding frame_numbers
frames-long [] = refl
frames-long (f ∷ fs) = let h = frames-long fs in omega arith

-- the numbers of row i of the pages
pub record Told (xs : List ℕ) (i : ℕ) (e : Entry) : Type 0 where
  pub last : get_or xs (5 * i) 0 ≡ e.last
  pub durable : get_or xs (5 * i + 1) 0 ≡ e.durable
  pub written : get_or xs (5 * i + 2) 0 ≡ e.written
  pub slot : get_or xs (5 * i + 3) 0 ≡ e.slot
  pub backup : get_or xs (5 * i + 4) 0 ≡ e.backup

behind : (xs : List ℕ) (a b c d e k n : ℕ) → n ≡ 5 + k → get_or (a ∷ b ∷ c ∷ d ∷ e ∷ xs) n 0 ≡ get_or xs k 0
behind xs a b c d e k n h = let p : n ≡ suc (suc (suc (suc (suc k)))) = omega arith in rw p

pub entry-told : (es : List Entry) (i : ℕ) → Told (entry_numbers es) i (get_or es i empty_entry)
unfolding entry_numbers
entry-told [] i = record { last = refl; durable = refl; written = refl; slot = refl; backup = refl }
entry-told (e ∷ es) zero = record { last = refl; durable = refl; written = refl; slot = refl; backup = refl }
entry-told (e ∷ es) (suc i) =
    let t = entry-told es i in
    record {
      last = behind (entry_numbers es) _ _ _ _ _ (5 * i) (5 * suc i) (omega arith) ∙ t.last;
      durable = behind (entry_numbers es) _ _ _ _ _ (5 * i + 1) (5 * suc i + 1) (omega arith) ∙ t.durable;
      written = behind (entry_numbers es) _ _ _ _ _ (5 * i + 2) (5 * suc i + 2) (omega arith) ∙ t.written;
      slot = behind (entry_numbers es) _ _ _ _ _ (5 * i + 3) (5 * suc i + 3) (omega arith) ∙ t.slot;
      backup = behind (entry_numbers es) _ _ _ _ _ (5 * i + 4) (5 * suc i + 4) (omega arith) ∙ t.backup;
    }

pub entries-long : (es : List Entry) → length (entry_numbers es) ≡ 5 * length es
unfolding entry_numbers
entries-long [] = refl
entries-long (e ∷ es) = let h = entries-long es in omega arith

-- ---- rows made of numbers

pub frames_of-long : (xs : List ℕ) → length (frames_of xs) ≡ 16
unfolding frames_of
frames_of-long xs = tabulate-length 16 (frame_row xs)

pub frames_of-at : (xs : List ℕ) (i : ℕ) → i < 16 → get_or (frames_of xs) i empty_frame ≡ frame_row xs i
unfolding frames_of
frames_of-at xs i h = tabulate-at 16 i (frame_row xs) empty_frame h

pub entries_of-long : (xs : List ℕ) → length (entries_of xs) ≡ 64
unfolding entries_of
entries_of-long xs = tabulate-length 64 (entry_row xs)

pub entries_of-at : (xs : List ℕ) (i : ℕ) → i < 64 → get_or (entries_of xs) i empty_entry ≡ entry_row xs i
unfolding entries_of
entries_of-at xs i h = tabulate-at 64 i (entry_row xs) empty_entry h

-- ---- lengths

gone : (xs : List ℕ) (i : ℕ) → length xs ≤ i → drop i xs ≡ []
gone [] zero h = refl
gone [] (suc i) h = refl
gone (x ∷ xs) zero h = absurd (omega arith)
gone (x ∷ xs) (suc i) h = gone xs i (omega arith)

pub note-long : (p : PendingNote) → length (note_numbers p) ≡ 5
note-long None = refl
note-long (Some n) = refl

pub head-long : (a b c : ℕ) (p : PendingNote) → length (a ∷ b ∷ c ∷ note_numbers p) ≡ 8
head-long a b c p = let h = note-long p in omega arith

-- ---- 8, 32 and 320 numbers, written one after the other over 360

pub covered : (out a f e : List ℕ) → length out ≡ 360 → length a ≡ 8 → length f ≡ 32
    → put_mid 40 320 (put_mid 8 32 (a ++ post_of 0 8 out) f) e ≡ a ++ (f ++ e)
covered out a f e lo la lf =
    let x = post_of 0 8 out in
    let y = drop 32 x in
    let one : put_mid 8 32 (a ++ x) f ≡ a ++ (f ++ y) = rw (take_at a x 8 la, drop_at a x 8 la) in
    let l : length (a ++ f) ≡ 40 = simp length-append (omega arith) in
    let g : drop 320 y ≡ [] = gone y 320 (simp length-drop (omega arith)) in
    let r : a ++ (f ++ y) ≡ (a ++ f) ++ y = sym (append_assoc a f y) in
    rw (one, r, take_at (a ++ f) y 40 l, drop_at (a ++ f) y 40 l, g, append-nil e) (append_assoc a f e)

pub numbers-long : (s : State) → length s.frames ≡ 16 → length s.index ≡ 64 → length (numbers_of s) ≡ 360
unfolding numbers_of
numbers-long s hf hi =
    simp length-append (omega (arith, note-long s.note, frames-long s.frames, entries-long s.index))

-- ---- the state of a state's numbers

-- a note that the numbers can tell
abbrev pub NoteTold : PendingNote → Type 0
NoteTold None = Unit {0}
NoteTold (Some n) = (1 ≤ n.kind) × (n.kind ≤ 2) × (n.page < 65536) × (n.slot < 256)

-- a state that the numbers can tell: as many rows as the code's arrays have, each number in its field
pub record Stated (s : State) : Type 0 where
  pub frames : length s.frames ≡ 16
  pub index : length s.index ≡ 64
  pub pages : (i : ℕ) → i < 16 → (get_or s.frames i empty_frame).page < 65536
  pub slots : (i : ℕ) → i < 64 → (get_or s.index i empty_entry).slot < 256
  pub note : NoteTold s.note

bit-back : (b : Bool) → eqb (bit_of b) 1 ≡ b
bit-back true = refl
bit-back false = refl

frames-back : (fs : List Frame) → length fs ≡ 16 → ((i : ℕ) → i < 16 → (get_or fs i empty_frame).page < 65536)
    → frames_of (frame_numbers fs) ≡ fs
unfolding frames_of
frames-back fs l h =
    sym (table_of 16 (frame_row (frame_numbers fs)) empty_frame fs l
    (λ i b. let f = get_or fs i empty_frame in
    let p : f.page % 65536 ≡ f.page = mod-eq_of_lt (h i b) in
    rw (frame-page fs i, frame-dirty fs i, p, bit-back f.dirty)))

entries-back : (es : List Entry) → length es ≡ 64 → ((i : ℕ) → i < 64 → (get_or es i empty_entry).slot < 256)
    → entries_of (entry_numbers es) ≡ es
unfolding entries_of
entries-back es l h =
    sym (table_of 64 (entry_row (entry_numbers es)) empty_entry es l
    (λ i b. let e = get_or es i empty_entry in
    let t = entry-told es i in
    let p : e.slot % 256 ≡ e.slot = mod-eq_of_lt (h i b) in
    rw (t.last, t.durable, t.written, t.slot, t.backup, p)))

note-back : (p : PendingNote) → NoteTold p → (xs : List ℕ)
    → (let ys = note_numbers p ++ xs in note_from (get_or ys 0 0) (get_or ys 1 0) (get_or ys 2 0) (get_or ys 3 0) (get_or ys 4 0)) ≡ p
note-back None h xs = refl
note-back (Some n) h xs =
    let k : eqb n.kind 0 ≡ false = ne_eqb n.kind 0 (omega arith) in
    let a : n.kind % 256 ≡ n.kind = mod-eq_of_lt (omega (arith, h.1)) in
    let b : n.page % 65536 ≡ n.page = mod-eq_of_lt h.2 in
    let c : n.slot % 256 ≡ n.slot = mod-eq_of_lt h.3 in
    rw (k, a, b, c)

pub state-back : (s : State) → Stated s → state_of (numbers_of s) ≡ s
unfolding state_of numbers_of part
state-back s h =
    let a = s.durable ∷ s.pending ∷ s.notes ∷ note_numbers s.note in
    let f = frame_numbers s.frames in
    let e = entry_numbers s.index in
    let la : length a ≡ 8 = head-long s.durable s.pending s.notes s.note in
    let lf : length f ≡ 32 = omega (arith, frames-long s.frames, h.frames) in
    let le : length e ≡ 320 = omega (arith, entries-long s.index, h.index) in
    let pf : take 32 (drop 8 (a ++ (f ++ e))) ≡ f = rw (drop_at a (f ++ e) 8 la) (take_at f e 32 lf) in
    let l : length (a ++ f) ≡ 40 = simp length-append (omega arith) in
    let r : a ++ (f ++ e) ≡ (a ++ f) ++ e = sym (append_assoc a f e) in
    let pe : take 320 (drop 40 (a ++ (f ++ e))) ≡ e = rw (r, drop_at (a ++ f) e 40 l) (take_all 320 e (omega arith)) in
    rw (pf, pe, frames-back s.frames h.frames h.pages, entries-back s.index h.index h.slots)
    (rw (note-back s.note h.note (f ++ e)))

pub arrays : (xs : List ℕ) → Arrays (state_of xs)
unfolding state_of
arrays xs = record { frames = frames_of-long _; index = entries_of-long _ }

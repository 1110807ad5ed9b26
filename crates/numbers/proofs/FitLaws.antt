-- Numbers that fit: a state's numbers do, and what fits is given back by its state.
use mathlib.Core.Path.{◌≡◌, refl, sym, ◌∙◌}
use mathlib.Core.Bool.{Bool, true, false, ◌&&◌}
use mathlib.Core.List.{List, [], ◌∷◌, ◌++◌, append_assoc}
use Prim.Native.Nat.{ℕ, zero, suc, ◌+◌, ◌*◌, ◌%◌, ◌≤◌, ◌<◌}
use native.Mathlib.Numerals.{add-one}
use native.Mathlib.Omega.{arith}
use native.Mathlib.Nat.{mod-eq_of_lt}
use lib.Dec.{eqb, leb}
use lib.ListN.{length, take, drop, get_or, length-append, length-drop}
use lib.Seq.{take-suc, take_all, take-add, take_at, drop_at, drop-cons, drop-drop}
use borrow.Author.Tests.{eq-eqb, ne_eqb, eqb-true, leb-true, le-leb}
use Rattle.laws.proofs.Tables.{by_cases, all-at, all-holds, and_left, and_right, and_both, every-at, every-all}
use Rattle.laws.proofs.Parts.{part_length}
use Rattle.model.specs.Tables.{all, every}
use Rattle.model.specs.Bytes.{part}
use Rattle.model.specs.State.{empty_frame}
use Rattle.model.specs.declared.{state.State.State}
use Rattle.face.specs.Numbers.{bit_of, note_numbers, frame_numbers, entry_numbers, numbers_of}
use Rattle.face.specs.Numbers.{note_from, frames_of, entries_of, state_of, note_held, frame_held, entry_held, fits}
use Rattle.numbers.proofs.NumberLaws.{Stated, NoteTold, whole, frame-page, frame-dirty, frames-long, entry-told, entries-long}
use Rattle.numbers.proofs.NumberLaws.{frames_of-long, frames_of-at, entries_of-long, entries_of-at, head-long, numbers-long}
use Rattle.model.specs.Types.{PendingNote, None, Some}

-- one more row that is held
pub every-next : (p : ℕ → Bool) (i : ℕ) (b : Bool) → b ≡ every i p → (b && p i) ≡ every (i + 1) p
unfolding every
every-next p i b e = rw (add-one, e)

-- ---- what fits has 360 numbers

abbrev tests : List ℕ → List Bool
tests xs =
    eqb (length xs) 360 ∷ note_held (get_or xs 3 0) (get_or xs 4 0) (get_or xs 5 0) (get_or xs 6 0) (get_or xs 7 0)
    ∷ every 16 (frame_held (part xs 8 32)) ∷ every 64 (entry_held (part xs 40 320)) ∷ []

pub long : (xs : List ℕ) → fits xs ≡ true → length xs ≡ 360
unfolding fits
long xs h = eqb-true (length xs) 360 (all-at (tests xs) 0 h)

pub unlike : (xs : List ℕ) → (length xs ≡ 360 → ⊥) → fits xs ≡ false
unfolding fits
unlike xs ne = rw (ne_eqb (length xs) 360 ne)

pub alike : (xs : List ℕ) → length xs ≡ 360 → (a b c : Bool)
    → a ≡ note_held (get_or xs 3 0) (get_or xs 4 0) (get_or xs 5 0) (get_or xs 6 0) (get_or xs 7 0)
    → b ≡ every 16 (frame_held (part xs 8 32)) → c ≡ every 64 (entry_held (part xs 40 320)) → (a && (b && c)) ≡ fits xs
unfolding fits
alike xs l a b c ea eb ec = rw (eq-eqb (length xs) 360 l, ea, eb, ec)

-- ---- the numbers of its state

-- one more number that agrees
agree : (xs ys : List ℕ) (i j : ℕ) → j ≡ suc i → i < length xs → length xs ≡ length ys → take i xs ≡ take i ys
    → get_or xs i 0 ≡ get_or ys i 0 → take j xs ≡ take j ys
agree xs ys i j ej hx el e h =
    let hy : i < length ys = omega arith in
    rw (ej, take-suc xs i 0 hx, take-suc ys i 0 hy, e, h)

bit-of : (n : ℕ) → n ≤ 1 → bit_of (eqb n 1) ≡ n
bit-of zero h = refl
bit-of (suc zero) h = refl
bit-of (suc (suc n)) h = absurd (omega arith)

module _ (p : List ℕ) (l : length p ≡ 32) (h : every 16 (frame_held p) ≡ true) where
  abbrev again : List ℕ
  again = frame_numbers (frames_of p)

  frames-long-again : length again ≡ 32
  frames-long-again = omega (arith, frames-long (frames_of p), frames_of-long p)

  frames-so-far : (n : ℕ) → n ≤ 16 → take (2 * n) again ≡ take (2 * n) p
  frames-so-far zero b = refl
  frames-so-far (suc n) b =
      let c : n < 16 = omega arith in
      let held = every-at (frame_held p) 16 h n c in
      let small = leb-true (get_or p (2 * n) 0) 65535 (and_left (leb (get_or p (2 * n) 0) 65535) (leb (get_or p (2 * n + 1) 0) 1) held) in
      let bit = leb-true (get_or p (2 * n + 1) 0) 1 (and_right (leb (get_or p (2 * n) 0) 65535) (leb (get_or p (2 * n + 1) 0) 1) held) in
      let m : get_or p (2 * n) 0 % 65536 ≡ get_or p (2 * n) 0 = mod-eq_of_lt (omega arith) in
      let x : get_or again (2 * n) 0 ≡ get_or p (2 * n) 0 = frame-page (frames_of p) n ∙ rw (frames_of-at p n c) m in
      let y : get_or again (2 * n + 1) 0 ≡ get_or p (2 * n + 1) 0 =
      frame-dirty (frames_of p) n ∙ rw (frames_of-at p n c) (bit-of (get_or p (2 * n + 1) 0) bit) in
      let el = frames-long-again ∙ sym l in
      agree again p (2 * n + 1) (2 * suc n) (omega arith) (omega (arith, frames-long-again)) el
      (agree again p (2 * n) (2 * n + 1) (omega arith) (omega (arith, frames-long-again)) el (frames-so-far n (omega arith)) x) y

  pub frames-again : again ≡ p
  frames-again = whole again p (2 * 16) (omega (arith, frames-long-again)) (frames-long-again ∙ sym l) (frames-so-far 16 (omega arith))

module _ (p : List ℕ) (l : length p ≡ 320) (h : every 64 (entry_held p) ≡ true) where
  abbrev listed : List ℕ
  listed = entry_numbers (entries_of p)

  entries-long-again : length listed ≡ 320
  entries-long-again = omega (arith, entries-long (entries_of p), entries_of-long p)

  entries-so-far : (n : ℕ) → n ≤ 64 → take (5 * n) listed ≡ take (5 * n) p
  entries-so-far zero b = refl
  entries-so-far (suc n) b =
      let c : n < 64 = omega arith in
      let small = leb-true (get_or p (5 * n + 3) 0) 255 (every-at (entry_held p) 64 h n c) in
      let m : get_or p (5 * n + 3) 0 % 256 ≡ get_or p (5 * n + 3) 0 = mod-eq_of_lt (omega arith) in
      let t = entry-told (entries_of p) n in
      let at = entries_of-at p n c in
      let x0 : get_or listed (5 * n) 0 ≡ get_or p (5 * n) 0 = t.last ∙ rw at in
      let x1 : get_or listed (5 * n + 1) 0 ≡ get_or p (5 * n + 1) 0 = t.durable ∙ rw at in
      let x2 : get_or listed (5 * n + 2) 0 ≡ get_or p (5 * n + 2) 0 = t.written ∙ rw at in
      let x3 : get_or listed (5 * n + 3) 0 ≡ get_or p (5 * n + 3) 0 = t.slot ∙ rw at m in
      let x4 : get_or listed (5 * n + 4) 0 ≡ get_or p (5 * n + 4) 0 = t.backup ∙ rw at in
      let lg = entries-long-again in
      let el = lg ∙ sym l in
      agree listed p (5 * n + 4) (5 * suc n) (omega arith) (omega (arith, lg)) el
      (agree listed p (5 * n + 3) (5 * n + 4) (omega arith) (omega (arith, lg)) el
      (agree listed p (5 * n + 2) (5 * n + 3) (omega arith) (omega (arith, lg)) el
      (agree listed p (5 * n + 1) (5 * n + 2) (omega arith) (omega (arith, lg)) el
      (agree listed p (5 * n) (5 * n + 1) (omega arith) (omega (arith, lg)) el (entries-so-far n (omega arith)) x0) x1) x2) x3) x4

  pub entries-again : listed ≡ p
  entries-again =
      whole listed p (5 * 64) (omega (arith, entries-long-again)) (entries-long-again ∙ sym l) (entries-so-far 64 (omega arith))

note-again : (kind number page slot lsn : ℕ) → note_held kind number page slot lsn ≡ true
    → note_numbers (note_from kind number page slot lsn) ≡ kind ∷ number ∷ page ∷ slot ∷ lsn ∷ []
note-again kind number page slot lsn h =
    by_cases (eqb kind 0)
    (λ t. let k = eqb-true kind 0 t in
    let zeros = eqb number 0 ∷ eqb page 0 ∷ eqb slot 0 ∷ eqb lsn 0 ∷ [] in
    let u : all zeros ≡ true = rw t at h in
    rw t (rw (
      k,
      eqb-true number 0 (all-at zeros 0 u),
      eqb-true page 0 (all-at zeros 1 u),
      eqb-true slot 0 (all-at zeros 2 u),
      eqb-true lsn 0 (all-at zeros 3 u),
    )))
    (λ t. let fields = leb kind 2 ∷ leb page 65535 ∷ leb slot 255 ∷ [] in
    let u : all fields ≡ true = rw t at h in
    let a = leb-true kind 2 (all-at fields 0 u) in
    let b = leb-true page 65535 (all-at fields 1 u) in
    let c = leb-true slot 255 (all-at fields 2 u) in
    let ma : kind % 256 ≡ kind = mod-eq_of_lt (omega (arith, a)) in
    let mb : page % 65536 ≡ page = mod-eq_of_lt (omega (arith, b)) in
    let mc : slot % 256 ≡ slot = mod-eq_of_lt (omega (arith, c)) in
    rw t (rw (ma, mb, mc)))

eight : (xs : List ℕ) → length xs ≡ 360
    → get_or xs 0 0 ∷ get_or xs 1 0 ∷ get_or xs 2 0 ∷ get_or xs 3 0 ∷ get_or xs 4 0 ∷ get_or xs 5 0 ∷ get_or xs 6 0 ∷ get_or xs 7 0 ∷ drop 8 xs ≡ xs
eight xs l =
    let e0 : drop 0 xs ≡ get_or xs 0 0 ∷ drop 1 xs = drop-cons xs 0 0 (omega arith) in
    let e1 : drop 1 xs ≡ get_or xs 1 0 ∷ drop 2 xs = drop-cons xs 1 0 (omega arith) in
    let e2 : drop 2 xs ≡ get_or xs 2 0 ∷ drop 3 xs = drop-cons xs 2 0 (omega arith) in
    let e3 : drop 3 xs ≡ get_or xs 3 0 ∷ drop 4 xs = drop-cons xs 3 0 (omega arith) in
    let e4 : drop 4 xs ≡ get_or xs 4 0 ∷ drop 5 xs = drop-cons xs 4 0 (omega arith) in
    let e5 : drop 5 xs ≡ get_or xs 5 0 ∷ drop 6 xs = drop-cons xs 5 0 (omega arith) in
    let e6 : drop 6 xs ≡ get_or xs 6 0 ∷ drop 7 xs = drop-cons xs 6 0 (omega arith) in
    let e7 : drop 7 xs ≡ get_or xs 7 0 ∷ drop 8 xs = drop-cons xs 7 0 (omega arith) in
    sym (e0 ∙ rw (e1, e2, e3, e4, e5, e6, e7))

behind-eight : (xs : List ℕ) → length xs ≡ 360 → part xs 8 32 ++ part xs 40 320 ≡ drop 8 xs
unfolding part
behind-eight xs l =
    let a : take 352 (drop 8 xs) ≡ take 32 (drop 8 xs) ++ take 320 (drop 32 (drop 8 xs)) = take-add 32 320 (drop 8 xs) in
    let b : drop 32 (drop 8 xs) ≡ drop 40 xs = drop-drop 32 8 xs in
    let c : take 352 (drop 8 xs) ≡ drop 8 xs = take_all 352 (drop 8 xs) (simp length-drop (omega arith)) in
    sym (rw b at a) ∙ c

pub numbers-back : (xs : List ℕ) → fits xs ≡ true → numbers_of (state_of xs) ≡ xs
unfolding fits numbers_of state_of
numbers-back xs h =
    let l = eqb-true (length xs) 360 (all-at (tests xs) 0 h) in
    let n = note-again (get_or xs 3 0) (get_or xs 4 0) (get_or xs 5 0) (get_or xs 6 0) (get_or xs 7 0) (all-at (tests xs) 1 h) in
    let f = frames-again (part xs 8 32) (part_length xs 8 32 (omega arith)) (all-at (tests xs) 2 h) in
    let e = entries-again (part xs 40 320) (part_length xs 40 320 (omega arith)) (all-at (tests xs) 3 h) in
    rw (n, f, e, behind-eight xs l) (eight xs l)

-- ---- a state's numbers fit

module _ (s : State) (h : Stated s) where
  abbrev front : List ℕ
  front = s.durable ∷ s.pending ∷ s.notes ∷ note_numbers s.note

  front_long : length front ≡ 8
  front_long = head-long s.durable s.pending s.notes s.note

  lf : length (frame_numbers s.frames) ≡ 32
  lf = omega (arith, frames-long s.frames, h.frames)

  frames-part : part (numbers_of s) 8 32 ≡ frame_numbers s.frames
  unfolding part numbers_of
  frames-part =
      let f = frame_numbers s.frames in
      let e = entry_numbers s.index in
      let p : take 32 (drop 8 (front ++ (f ++ e))) ≡ f = rw (drop_at front (f ++ e) 8 front_long) (take_at f e 32 lf) in
      p

  entries-part : part (numbers_of s) 40 320 ≡ entry_numbers s.index
  unfolding part numbers_of
  entries-part =
      let f = frame_numbers s.frames in
      let e = entry_numbers s.index in
      let l : length (front ++ f) ≡ 40 = simp length-append (omega (arith, front_long, lf)) in
      let r : front ++ (f ++ e) ≡ (front ++ f) ++ e = sym (append_assoc front f e) in
      let p : take 320 (drop 40 (front ++ (f ++ e))) ≡ e =
      rw (r, drop_at (front ++ f) e 40 l) (take_all 320 e (omega (arith, entries-long s.index, h.index))) in
      p

  bit-small : (b : Bool) → bit_of b ≤ 1
  bit-small true = omega arith
  bit-small false = omega arith

  frame-held : (i : ℕ) → i < 16 → frame_held (frame_numbers s.frames) i ≡ true
  frame-held i b =
      let f = get_or s.frames i empty_frame in
      let n = frame_numbers s.frames in
      and_both
      (le-leb (get_or n (2 * i) 0) 65535 (omega (arith, frame-page s.frames i, h.pages i b)))
      (le-leb (get_or n (2 * i + 1) 0) 1 (omega (arith, frame-dirty s.frames i, bit-small f.dirty)))

  entry-held : (i : ℕ) → i < 64 → entry_held (entry_numbers s.index) i ≡ true
  entry-held i b =
      le-leb (get_or (entry_numbers s.index) (5 * i + 3) 0) 255 (omega (arith, (entry-told s.index i).slot, h.slots i b))

  note-held : (p : PendingNote) → NoteTold p → (xs : List ℕ)
      → (let ys = note_numbers p ++ xs in note_held (get_or ys 0 0) (get_or ys 1 0) (get_or ys 2 0) (get_or ys 3 0) (get_or ys 4 0)) ≡ true
  note-held None k xs = refl
  note-held (Some n) k xs =
      rw (
        ne_eqb n.kind 0 (omega (arith, k.0)),
        le-leb n.kind 2 k.1,
        le-leb n.page 65535 (omega (arith, k.2)),
        le-leb n.slot 255 (omega (arith, k.3)),
      )

  pub stated-fits : fits (numbers_of s) ≡ true
  unfolding fits numbers_of
  stated-fits =
      all-holds (tests (numbers_of s)) (
        eq-eqb (length (numbers_of s)) 360 (numbers-long s h.frames h.index),
        (
          note-held s.note h.note (frame_numbers s.frames ++ entry_numbers s.index),
          (
            rw frames-part (every-all (frame_held (frame_numbers s.frames)) 16 frame-held),
            (rw entries-part (every-all (entry_held (entry_numbers s.index)) 64 entry-held), tt),
          ),
        ),
      )

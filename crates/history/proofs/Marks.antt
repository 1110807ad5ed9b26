-- What a list of notes says of a page: its marks, the notes that may follow, the last note of a page and kind.
use mathlib.Core.Path.{◌≡◌, refl, sym, ap, ◌∙◌}
use mathlib.Core.Logic.{◌≢◌}
use mathlib.Core.Bool.{Bool, true, false, cond, not, ◌&&◌}
use mathlib.Core.List.{List, [], ◌∷◌, ◌++◌}
use Prim.Native.Nat.{ℕ, zero, suc, ◌-◌, ◌≤◌, ◌<◌}
use native.Mathlib.Omega.{arith}
use native.Mathlib.Decide.{ℕ_discrete}
use lib.ListN.{length, get_or, length-append, get_or-append}
use lib.Seq.{get_or-append_seam}
use lib.Dec.{eqb}
use borrow.Author.Tests.{eq-eqb, ne_eqb, eqb-true}
use Rattle.model.specs.declared.item.Note.{Note}
use Rattle.model.specs.Item.{is_written}
use Rattle.model.specs.AbstractLog.{Logged}
use Rattle.laws.proofs.Tables.{by_cases, and_left, and_right, and_both, true-not-false}
use Rattle.history.proofs.Logs.{at, last_at, last-ge}

-- ---- what notes say of a page

pub record Mark : Type 0 where
  pub written : ℕ
  pub slot : ℕ
  pub backup : ℕ

abbrev pub no_mark : Mark
no_mark = record { written = 0; slot = 0; backup = 0 }

abbrev pub no_note : Note
no_note = record { number = 0; page = 0; kind = 0; slot = 0; lsn = 0 }

-- the note at place i, counted from 0
abbrev pub note : List Note → ℕ → Note
note ns i = get_or ns i no_note

abbrev pub with_mark : Mark → Note → Mark
with_mark k x = cond (is_written x) (record { written = x.lsn; slot = k.slot; backup = k.backup })
    (record { written = k.written; slot = x.slot; backup = x.lsn })

-- the note is a written one (t), or a backup's (not t)
abbrev pub kind_matches : Bool → Note → Bool
kind_matches true x = is_written x
kind_matches false x = not (is_written x)

-- what the first n notes say of page p
unfoldable pub mark_at : ℕ → List Note → ℕ → Mark
mark_at p ns zero = no_mark
mark_at p ns (suc n) = cond (eqb (note ns n).page p) (with_mark (mark_at p ns n) (note ns n)) (mark_at p ns n)

module _ (p : ℕ) (ns : List Note) where
  pub mark-zero : mark_at p ns 0 ≡ no_mark
  unfolding mark_at
  mark-zero = refl

  pub mark-hit : (n : ℕ) → (note ns n).page ≡ p → mark_at p ns (suc n) ≡ with_mark (mark_at p ns n) (note ns n)
  unfolding mark_at
  mark-hit n h = rw (eq-eqb (note ns n).page p h)

  pub mark-miss : (n : ℕ) → (note ns n).page ≢ p → mark_at p ns (suc n) ≡ mark_at p ns n
  unfolding mark_at
  mark-miss n h = rw (ne_eqb (note ns n).page p h)

  pub mark-append : (r : List Note) (n : ℕ) → n ≤ length ns → mark_at p (ns ++ r) n ≡ mark_at p ns n
  unfolding mark_at
  mark-append r zero h = refl
  mark-append r (suc n) h = rw (mark-append r n (omega arith), get_or-append ns r no_note n h)

pub len_n : (ns : List Note) (x : Note) → length (ns ++ (x ∷ [])) ≡ suc (length ns)
len_n ns x = length-append ns (x ∷ []) ∙ omega arith

pub note_n : (ns : List Note) (x : Note) → note (ns ++ (x ∷ [])) (length ns) ≡ x
note_n ns x = get_or-append_seam ns x [] no_note

-- ---- notes that may follow others

-- what a backup's note has been asked, after the first n notes
pub record Backed (B : ℕ) (ns : List Note) (n : ℕ) (x : Note) : Type 0 where
  pub kind-is : x.kind ≡ 2
  pub low : 1 ≤ x.slot
  pub high : x.slot ≤ B
  pub spare : (p : ℕ) → 1 ≤ p → p ≤ 64 → (mark_at p ns n).slot ≢ x.slot
  pub above : (mark_at x.page ns n).backup ≤ x.lsn

-- note x may follow the first n notes, over the durable list l
pub record NoteOk (P B : ℕ) (l : List Logged) (ns : List Note) (n : ℕ) (x : Note) : Type 0 where
  pub number_is : x.number ≡ suc n
  pub low : 1 ≤ x.page
  pub high : x.page ≤ P
  pub some : 1 ≤ x.lsn
  pub below : x.lsn ≤ length l
  pub page-is : (at l (x.lsn - 1)).page ≡ x.page
  pub written : is_written x ≡ true → (x.slot ≡ 0) × ((mark_at x.page ns n).written ≤ x.lsn)
  pub backed : is_written x ≡ false → Backed B ns n x

-- each note of the list follows those before it
abbrev pub NotesOk : ℕ → ℕ → List Logged → List Note → Type 0
NotesOk P B l ns = (i : ℕ) → i < length ns → NoteOk P B l ns i (note ns i)

-- the numbers that the notes give are those of durable changes of the page, and its slot is in range
pub record MarkOk (B : ℕ) (l : List Logged) (p : ℕ) (k : Mark) : Type 0 where
  pub wrote : k.written ≤ last_at p l (length l)
  pub backs : k.backup ≤ last_at p l (length l)
  pub slots : k.slot ≤ B

-- of a page after n notes
module _ (P B : ℕ) (l : List Logged) (ns : List Note) (fit : NotesOk P B l ns) (p : ℕ) where
  pub mark-ok : (n : ℕ) → n ≤ length ns → MarkOk B l p (mark_at p ns n)
  mark-ok zero h = rw (mark-zero p ns) (record { wrote = omega arith; backs = omega arith; slots = omega arith })
  mark-ok (suc n) h = elim (ℕ_discrete (note ns n).page p)
      [ yes y ↦ rw (mark-hit p ns n y) (step y (mark-ok n (omega arith))) | no z ↦ rw (mark-miss p ns n z) (mark-ok n (omega arith)) ]
    where
      step : (note ns n).page ≡ p → MarkOk B l p (mark_at p ns n) → MarkOk B l p (with_mark (mark_at p ns n) (note ns n))
      step y old =
          let x = note ns n in
          let f = fit n h in
          let d : suc (x.lsn - 1) ≡ x.lsn = omega (arith, f.some) in
          let le : x.lsn ≤ last_at p l (length l) =
          rw d at (last-ge p l (length l) (x.lsn - 1) (omega (arith, f.below, f.some)) (f.page-is ∙ y)) in
          by_cases (is_written x)
          (λ t. rw t (record { wrote = le; backs = old.backs; slots = old.slots }))
          (λ t. rw t (record { wrote = old.wrote; backs = le; slots = (f.backed t).high }))

  -- a page past the last has no note
  pub mark-past : P < p → (n : ℕ) → n ≤ length ns → mark_at p ns n ≡ no_mark
  mark-past b zero h = mark-zero p ns
  mark-past b (suc n) h = mark-miss p ns n (λ e. omega (arith, (fit n h).high)) ∙ mark-past b n (omega arith)

-- no two pages share a slot
pub slots_apart : (P B : ℕ) (l : List Logged) (ns : List Note) → NotesOk P B l ns → P ≤ 64 → (n : ℕ) → n ≤ length ns → (p q : ℕ) → 1 ≤ p
    → p ≤ 64 → 1 ≤ q → q ≤ 64
    → (mark_at p ns n).slot ≢ 0 → (mark_at p ns n).slot ≡ (mark_at q ns n).slot → p ≡ q
slots_apart P B l ns fit P64 zero h p q p1 p2 q1 q2 nz e = absurd (nz (ap (λ (k : Mark). k.slot) (mark-zero p ns)))
slots_apart P B l ns fit P64 (suc n) h p q p1 p2 q1 q2 nz e =
    go (λ nz e. slots_apart P B l ns fit P64 n (omega arith) p q p1 p2 q1 q2 nz e) (ℕ_discrete (note ns n).page p)
    (ℕ_discrete (note ns n).page q)
  where
    go : ((mark_at p ns n).slot ≢ 0 → (mark_at p ns n).slot ≡ (mark_at q ns n).slot → p ≡ q) → Dec ((note ns n).page ≡ p)
        → Dec ((note ns n).page ≡ q) → p ≡ q
    go ih (yes y) (yes z) = sym y ∙ z
    go ih (no y) (no z) = ih (rw (mark-miss p ns n y) at nz) (rw (mark-miss p ns n y, mark-miss q ns n z) at e)
    go ih (yes y) (no z) = both (rw (mark-hit p ns n y) at nz) (rw (mark-hit p ns n y, mark-miss q ns n z) at e)
      where
        both : (with_mark (mark_at p ns n) (note ns n)).slot ≢ 0 → (with_mark (mark_at p ns n) (note ns n)).slot ≡ (mark_at q ns n).slot → p ≡ q
        both nz e = by_cases (is_written (note ns n)) (λ t. ih (rw t at nz) (rw t at e))
            (λ t. absurd (((fit n h).backed t).spare q q1 q2 (sym (rw t at e))))
    go ih (no y) (yes z) = both (rw (mark-miss p ns n y) at nz) (rw (mark-miss p ns n y, mark-hit q ns n z) at e)
      where
        both : (mark_at p ns n).slot ≢ 0 → (mark_at p ns n).slot ≡ (with_mark (mark_at q ns n) (note ns n)).slot → p ≡ q
        both nz e = by_cases (is_written (note ns n)) (λ t. ih nz (rw t at e)) (λ t. absurd (((fit n h).backed t).spare p p1 p2 (rw t at e)))

-- ---- notes by the place of the last one of a page and kind

-- of the first n notes: one more than the place of the last of page p that is written (t) or backed up (not t); 0: there is none
unfoldable pub last_by : Bool → ℕ → List Note → ℕ → ℕ
last_by t p ns zero = 0
last_by t p ns (suc n) = cond (eqb (note ns n).page p && kind_matches t (note ns n)) (suc n) (last_by t p ns n)

abbrev pub lsn_by : List Note → ℕ → ℕ
lsn_by ns zero = 0
lsn_by ns (suc i) = (note ns i).lsn

abbrev pub slot_by : List Note → ℕ → ℕ
slot_by ns zero = 0
slot_by ns (suc i) = (note ns i).slot

abbrev pub mark_of : List Note → ℕ → ℕ → Mark
mark_of ns a b = record { written = lsn_by ns a; slot = slot_by ns b; backup = lsn_by ns b }

module _ (p : ℕ) (ns : List Note) where
  pub by-hit : (t : Bool) (n : ℕ) → (note ns n).page ≡ p → kind_matches t (note ns n) ≡ true → last_by t p ns (suc n) ≡ suc n
  unfolding last_by
  by-hit t n h k = rw (eq-eqb (note ns n).page p h, k)

  pub by-other : (t : Bool) (n : ℕ) → kind_matches t (note ns n) ≡ false → last_by t p ns (suc n) ≡ last_by t p ns n
  unfolding last_by
  by-other t n k = by_cases (eqb (note ns n).page p) (λ u. rw (u, k)) (λ u. rw u)

  pub by-miss : (t : Bool) (n : ℕ) → (note ns n).page ≢ p → last_by t p ns (suc n) ≡ last_by t p ns n
  unfolding last_by
  by-miss t n h = rw (ne_eqb (note ns n).page p h)

  pub by_zero : (t : Bool) → last_by t p ns 0 ≡ 0
  unfolding last_by
  by_zero t = refl

  pub by_le : (t : Bool) (n : ℕ) → last_by t p ns n ≤ n
  unfolding last_by
  by_le t zero = omega arith
  by_le t (suc n) = let ih : last_by t p ns n ≤ n = by_le t n in
      by_cases (eqb (note ns n).page p && kind_matches t (note ns n)) (λ e. rw e (omega arith)) (λ e. rw e (omega arith))

  -- the last is one, and none is later
  pub by-is : (t : Bool) (n i : ℕ) → last_by t p ns n ≡ suc i → ((note ns i).page ≡ p) × (kind_matches t (note ns i) ≡ true)
  unfolding last_by
  by-is t zero i e = absurd (omega arith)
  by-is t (suc n) i e = by_cases (eqb (note ns n).page p && kind_matches t (note ns n))
      (λ u.
      let q : suc n ≡ suc i = rw u at e in
      let q' : i ≡ n = omega arith in
      rw q' (
        eqb-true (note ns n).page p (and_left (eqb (note ns n).page p) (kind_matches t (note ns n)) u),
        and_right (eqb (note ns n).page p) (kind_matches t (note ns n)) u,
      ))
      (λ u. by-is t n i (rw u at e))

  pub by-ge : (t : Bool) (n j : ℕ) → j < n → (note ns j).page ≡ p → kind_matches t (note ns j) ≡ true → suc j ≤ last_by t p ns n
  unfolding last_by
  by-ge t zero j b e k = absurd (omega arith)
  by-ge t (suc n) j b e k = by_cases (eqb (note ns n).page p && kind_matches t (note ns n))
      (λ u. rw u b)
      (λ u. rw u (elim (ℕ_discrete j n) [
        | yes q ↦ absurd (true-not-false (rw (← q) (and_both (eq-eqb (note ns j).page p e) k)) u)
        | no q ↦ by-ge t n j (omega arith) e k
      ]))

  -- what the notes say, by those places
  pub mark-by : (n : ℕ) → mark_at p ns n ≡ mark_of ns (last_by true p ns n) (last_by false p ns n)
  mark-by zero = mark-zero p ns ∙ sym (rw (by_zero true, by_zero false))
  mark-by (suc n) = elim (ℕ_discrete (note ns n).page p) [
    | yes y ↦ mark-hit p ns n y ∙ (rw (mark-by n) (by_cases (is_written (note ns n))
        (λ t. rw (by-hit true n y t, by-other false n (rw t refl), t))
        (λ t. rw (by-other true n t, by-hit false n y (rw t refl), t))))
    | no z ↦ mark-miss p ns n z ∙ (mark-by n ∙ sym (rw (by-miss true n z, by-miss false n z)))
  ]

-- a later note has the page and kind of note i
pub record Later (ns : List Note) (i : ℕ) : Type 0 where
  pub place : ℕ
  pub above : i < place
  pub below : place < length ns
  pub page-is : (note ns place).page ≡ (note ns i).page
  pub kind-is : (note ns place).kind ≡ (note ns i).kind

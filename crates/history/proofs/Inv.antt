-- The invariant that ties a machine to the abstract log: what the volume holds, what calls stored, and, while the power is on, what memory
-- and state say.
use mathlib.Core.Path.{◌≡◌, refl, sym, ap, ◌∙◌, subst}
use mathlib.Core.Logic.{◌≢◌, ⊎_elim}
use mathlib.Core.Bool.{true, false, cond, ◌&&◌}
use mathlib.Core.List.{List, ◌∷◌, ◌++◌}
use Prim.Native.Nat.{ℕ, suc, ◌+◌, ◌-◌, ◌*◌, ◌≤◌, ◌<◌}
use native.Mathlib.Omega.{arith}
use lib.ListN.{length, get_or, length-append, get_or-append}
use lib.Dec.{eqb}
use borrow.Author.Tests.{eqb-true}
use Rattle.laws.proofs.Tables.{and_left, and_right, or_cases}
use Rattle.laws.proofs.Parts.{same_bytes}
use Rattle.laws.proofs.Ring.{Displaced}
use Rattle.model.specs.Bytes.{equal_bytes}
use Rattle.model.specs.Geometry.{Place, page_at, slot_at, record_at, note_at, item, most, most_notes}
use Rattle.model.specs.Item.{image_page, frame_image, is_written}
use Rattle.model.specs.Passes.{is_image}
use Rattle.model.specs.State.{frame_bytes, pending_bytes, empty_frame}
use Rattle.model.specs.Outcome.{StoredItem, nothing, one_item, new_heading}
use Rattle.model.specs.AbstractLog.{Logged, AbstractLog}
use Rattle.model.specs.History.{Power, off, on, place_numbers, equal_place, stored_before}
use Rattle.model.specs.declared.{geometry.Geometry.Geometry, item.Note.Note, state.Frame.Frame}
use Rattle.model.specs.declared.{state.State.State}
use Rattle.history.proofs.Logs.{no_logged, at, last_at, last_of, body_of}
use Rattle.history.proofs.Marks.{NoteOk, Later}
use Rattle.history.proofs.Entries.{Indexed}
use Rattle.history.proofs.Leaf.{valid-page}
use Rattle.history.proofs.Records.{AllFair, rec_of, ReplayOf, Faithful, replay-grows}
use Rattle.history.proofs.Disk.{Holds, Noted, Copy, Spare}
use Rattle.model.specs.Types.{PendingNote, None, Some}

-- ---- what calls stored

-- the image is a replay, whichever page it is valid as
abbrev pub Fine : Geometry → List Logged → List ℕ → Type 0
Fine g k xs = (p : ℕ) → Faithful g p k xs

-- the image names a page in range, and is that page's replay; its sum may be either, since the heading may change
pub record Image (g : Geometry) (k : List Logged) (xs : List ℕ) : Type 0 where
  pub page : ℕ
  pub low : 1 ≤ page
  pub high : page ≤ g.pages
  pub number : image_page xs ≡ page
  pub good : ReplayOf page k xs

pub image-fine : (g : Geometry) (k : List Logged) (xs : List ℕ) → Image g k xs → Fine g k xs
image-fine g k xs x p t =
    let e : x.page ≡ p = sym x.number ∙ valid-page g p xs t in
    subst (λ (q : ℕ). ReplayOf q k xs) e x.good

pub image-append : (g : Geometry) (k r : List Logged) (xs : List ℕ) → Image g k xs → Image g (k ++ r) xs
image-append g k r xs x =
    record { page = x.page; low = x.low; high = x.high; number = x.number; good = replay-grows x.page k r xs x.good }

-- every image stored so far is such
abbrev pub Past : Geometry → List Logged → List StoredItem → Type 0
Past g k past = (at : Place) (xs : List ℕ) → is_image g at ≡ true → stored_before at xs past ≡ true → Image g k xs

abbrev pub ItemFine : Geometry → List Logged → StoredItem → Type 0
ItemFine g k nothing = Unit {0}
ItemFine g k (one_item at ys) = is_image g at ≡ true → Image g k ys
ItemFine g k (new_heading tag) = Unit {0}

pub past-append : (g : Geometry) (k r : List Logged) (past : List StoredItem) → Past g k past → Past g (k ++ r) past
past-append g k r past f at xs i e = image-append g k r xs (f at xs i e)

place_of : ℕ → ℕ → Place
place_of n i = cond (eqb n 0) (page_at i) (cond (eqb n 1) (slot_at i) (cond (eqb n 2) (record_at i) (note_at i)))

place-back : (p : Place) → place_of (place_numbers p).0 (place_numbers p).1 ≡ p
unfolding place_of
place-back (page_at i) = refl
place-back (slot_at i) = refl
place-back (record_at i) = refl
place-back (note_at i) = refl

same_place : (p q : Place) → equal_place p q ≡ true → p ≡ q
same_place p q h =
    let kinds = eqb (place_numbers p).0 (place_numbers q).0 in
    let numbers = eqb (place_numbers p).1 (place_numbers q).1 in
    let a : (place_numbers p).0 ≡ (place_numbers q).0 = eqb-true _ _ (and_left kinds numbers h) in
    let b : (place_numbers p).1 ≡ (place_numbers q).1 = eqb-true _ _ (and_right kinds numbers h) in
    sym (place-back p) ∙ (ap (λ (n : ℕ). place_of n (place_numbers p).1) a ∙ (ap (place_of (place_numbers q).0) b ∙ place-back q))

pub past-cons : (g : Geometry) (k : List Logged) (past : List StoredItem) (x : StoredItem) → ItemFine g k x
    → Past g k past → Past g k (x ∷ past)
unfolding stored_before
past-cons g k past nothing t f at xs i e = f at xs i e
past-cons g k past (new_heading tag) t f at xs i e = f at xs i e
past-cons g k past (one_item at' ys) t f at xs i e =
    ⊎_elim
    (λ h.
    let p : at ≡ at' = same_place at at' (and_left (equal_place at at') (equal_bytes xs ys) h) in
    let q : xs ≡ ys = same_bytes xs ys (and_right (equal_place at at') (equal_bytes xs ys) h) in
    rw q (t (rw p at i)))
    (λ h. f at xs i h)
    (or_cases (equal_place at at' && equal_bytes xs ys) (stored_before at xs past) e)

-- ---- memory and state

-- there is a slot for one more note, and what it will displace is not needed (OWED SPARE)
abbrev pub Room : Geometry → List Note → Type 0
Room g ns = (1 ≤ g.notes) × ((i : ℕ) → i < length ns → length ns ≡ i + g.notes → Later ns i)

-- the note that is pending
abbrev pub PendingOk : Type 0 → Geometry → List ℕ → List Logged → List Note → PendingNote → Type 0
PendingOk C g v k ns None = Unit {0}
PendingOk C g v k ns (Some x) =
    NoteOk g.pages g.slots k ns (length ns) x × (length ns < most_notes g)
    × (is_written x ≡ false → Faithful g x.page k (item g v (slot_at x.slot))) × Room g ns
    × (C → is_written x ≡ false → Copy g v x.page x.slot x.lsn)

-- a memory of F frames
pub record Memory (F : ℕ) (m : List ℕ) : Type 0 where
  pub size : length m ≡ 1024 + 256 * F
  pub low : 1 ≤ F
  pub high : F ≤ 16

-- the frame holds page p, at its newest change
pub record Framed (P : ℕ) (all : List Logged) (p : ℕ) (frame : List ℕ) : Type 0 where
  pub low : 1 ≤ p
  pub high : p ≤ P
  pub some : 1 ≤ last_of p all
  pub frame_is : frame ≡ frame_image p (last_of p all) (body_of p all)

-- page p has no change after the first d
abbrev pub Settled : List Logged → ℕ → ℕ → Type 0
Settled all d p = last_of p all ≡ last_at p all d

-- row j of the frame table, counted from 0
abbrev pub frame : List Frame → ℕ → Frame
frame fs j = get_or fs j empty_frame

pub record Frames (P F : ℕ) (all : List Logged) (d : ℕ) (fs : List Frame) (m : List ℕ) : Type 0 where
  pub size : length fs ≡ 16
  pub inside : (j : ℕ) → j < 16 → (frame fs j).page ≢ 0 → j < F
  pub idle : (j : ℕ) → j < 16 → (frame fs j).page ≡ 0 → (frame fs j).dirty ≡ false
  pub each : (j : ℕ) → j < F → (frame fs j).page ≢ 0 → Framed P all (frame fs j).page (frame_bytes m (suc j))
  pub once : (i j : ℕ) → i < F → j < F → (frame fs i).page ≢ 0 → (frame fs i).page ≡ (frame fs j).page → i ≡ j
  pub away : (p : ℕ) → 1 ≤ p → p ≤ P → ((j : ℕ) → j < F → (frame fs j).page ≢ p) → Settled all d p

-- the counts and the pending records
pub record LogState (g : Geometry) (m : List ℕ) (durable pending : ℕ) (k w all : List Logged) : Type 0 where
  pub split : all ≡ k ++ w
  pub durable-is : durable ≡ length k
  pub pending-is : pending ≡ length w
  pub room : length all ≤ most g
  pub fair : AllFair g.pages all
  pub few : length w ≤ 16
  pub pends : (i : ℕ) → length k ≤ i → i < length all → pending_bytes m (suc i) ≡ rec_of all i

pub record Alive (C : Type 0) (g : Geometry) (v m : List ℕ) (s : State) (k w all : List Logged) (ns : List Note) : Type 0 where
  pub F : ℕ
  pub memory : Memory F m
  pub log : LogState g m s.durable s.pending k w all
  pub frames : Frames g.pages F all (length k) s.frames m
  pub index : Indexed s.index all (length all) (length k) ns (length ns)
  pub displaced : Displaced g.records (length k) (length all) (Spare k ns)
  pub notes-is : s.notes ≡ length ns
  pub note-ok : PendingOk C g v k ns s.note

abbrev pub PowerInv : Type 0 → Geometry → List ℕ → Power → AbstractLog → List Note → Type 0
PowerInv C g v off b ns = Unit {0}
PowerInv C g v (on m s) b ns = (all : List Logged) × Alive C g v m s b.durable b.pending all ns

pub record Inv (C : Type 0) (g : Geometry) (v : List ℕ) (past : List StoredItem) (x : Power) (b : AbstractLog) : Type 0 where
  pub ns : List Note
  pub holds : Holds g v b.durable
  pub noted : Noted C g v b.durable ns
  pub past-ok : Past g b.durable past
  pub live : PowerInv C g v x b ns

-- a note over a longer list
pub note-append : (P B : ℕ) (l r : List Logged) (ns : List Note) (n : ℕ) (x : Note) → NoteOk P B l ns n x → NoteOk P B (l ++ r) ns n x
note-append P B l r ns n x f =
    let b : x.lsn - 1 < length l = omega (arith, f.some, f.below) in
    record {
      number_is = f.number_is;
      low = f.low;
      high = f.high;
      some = f.some;
      below = rw (length-append l r) (omega (arith, f.below));
      page-is = rw (get_or-append l r no_logged (x.lsn - 1) b) f.page-is;
      written = f.written;
      backed = f.backed;
    }

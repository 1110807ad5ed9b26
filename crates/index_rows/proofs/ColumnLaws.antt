-- Laws of the index by columns: a column is read and set where the index is, and what records and notes leave of each column.
use Prim.Native.Nat.{ℕ, zero, suc, ◌+◌, ◌-◌, ◌≤◌, ◌<◌}
use mathlib.Core.Path.{◌≡◌, refl, sym, ap, ◌∙◌}
use mathlib.Core.Bool.{Bool, true, false, cond, not, ◌&&◌, ◌||◌}
use mathlib.Core.List.{List, [], ◌∷◌, map}
use native.Mathlib.Numerals.{add-one}
use native.Mathlib.Omega.{arith}
use lib.Dec.{eqb, leb}
use mir.Val.{bool_byte}
use lib.ListN.{length, drop, get_or, set, take, replicate, length-map, drop_of_length-le}
use lib.ListN.{get_or-map}
use lib.Seq.{drop-cons, map-set_same, take-suc-set, take-suc}
use borrow.Author.Tests.{ne_eqb, le-leb}
use Rattle.laws.proofs.Tables.{by_cases, every-same, or_right}
use Rattle.model.specs.Tables.{every}
use Rattle.model.specs.Item.{is_written}
use Rattle.model.specs.Index.{empty_entry, empty_index, entry_row, with_note, settled, enter_note, slot_used}
use Rattle.model.specs.Scan.{log_record, note_record, log_index, indexed_run, note_index}
use Rattle.model.specs.declared.geometry.Geometry.{Geometry}
use Rattle.model.specs.declared.item.Note.{Note}
use Rattle.model.specs.declared.state.Entry.{Entry}
use Rattle.log_scan.specs.Rows.{lasts}
use Rattle.index_rows.specs.declared.columns.Columns.{Columns}
use Rattle.index_rows.specs.Columns.{durables, writtens, slots_in, backups, ColumnsOf, column_row, columns_ordered, slot_in, Unwritten}
use Rattle.log_scan.proofs.RowLaws.{column-set}

-- ---- the slot's search

pub slot-in : (b : ℕ) (l : List Entry) → slot_in b (slots_in l) ≡ slot_used b l
unfolding slot_in slot_used
slot-in b [] = refl
slot-in b (e ∷ l) = ap (λ (t : Bool). eqb e.slot b || t) (slot-in b l)

-- nothing is left that could decide
pub or-none : (found rest : Bool) → rest ≡ false → found ≡ (found || rest)
or-none true rest e = refl
or-none false rest e = sym e

pub one-most : (t : Bool) → bool_byte t ≤ 1
one-most true = omega arith
one-most false = omega arith

-- a count is not 0 where something was counted
counts : (n d : ℕ) (t : Bool) → d ≡ bool_byte t → not (eqb (n + d) 0) ≡ (not (eqb n 0) || t)
counts n d true e =
    let k : d ≡ 1 = e in
    let z : eqb (n + d) 0 ≡ false = ne_eqb (n + d) 0 (λ q. omega arith) in
    rw z (sym (or_right (not (eqb n 0)) refl))
counts n d false e =
    let k : d ≡ 0 = e in
    let z : n + d ≡ n = omega arith in
    rw z (or-none (not (eqb n 0)) false refl)

module _ (b : ℕ) (l : List ℕ) (i : ℕ) where
  -- of what is left of the column behind a row that was looked at
  pub in-next : (found : Bool) → i < length l
      → (found || slot_in b (drop i l)) ≡ ((found || eqb (get_or l i 0) b) || slot_in b (drop (i + 1) l))
  unfolding slot_in
  in-next true h = refl
  in-next false h = rw (add-one, drop-cons l i 0)

  pub in_end : length l ≤ i → slot_in b (drop i l) ≡ false
  unfolding slot_in
  in_end h = rw (drop_of_length-le l h)

  -- a row that is the slot's is counted, and then the count is not 0
  pub counted_next : (n d : ℕ) → i < length l → d ≡ bool_byte (eqb (get_or l i 0) b)
      → (not (eqb (n + d) 0) || slot_in b (drop (i + 1) l)) ≡ (not (eqb n 0) || slot_in b (drop i l))
  counted_next n d h e = rw (counts n d (eqb (get_or l i 0) b) e) (sym (in-next (not (eqb n 0)) h))

-- ---- rows

module _ (index : List Entry) (c : Columns) (h : ColumnsOf index c) where
  pub row_of : (i : ℕ) → column_row c i ≡ settled (get_or index i empty_entry)
  row_of i =
      let e = get_or index i empty_entry in
      let a : get_or c.last i 0 ≡ e.last = ap (λ (l : List ℕ). get_or l i 0) (sym h.last-is)
      ∙ get_or-map (λ (e : Entry). e.last) index i empty_entry in
      let d : get_or c.last i 0 ≡ e.durable = ap (λ (l : List ℕ). get_or l i 0) (sym h.durable-is)
      ∙ get_or-map (λ (e : Entry). e.durable) index i empty_entry in
      let w : get_or c.written i 0 ≡ e.written = ap (λ (l : List ℕ). get_or l i 0) (sym h.noted.written_is)
      ∙ get_or-map (λ (e : Entry). e.written) index i empty_entry in
      let s : get_or c.slots i 0 ≡ e.slot = ap (λ (l : List ℕ). get_or l i 0) (sym h.noted.slots-are)
      ∙ get_or-map (λ (e : Entry). e.slot) index i empty_entry in
      let b : get_or c.backup i 0 ≡ e.backup = ap (λ (l : List ℕ). get_or l i 0) (sym h.noted.backup-is)
      ∙ get_or-map (λ (e : Entry). e.backup) index i empty_entry in
      same e (get_or c.last i 0) (get_or c.written i 0) (get_or c.slots i 0) (get_or c.backup i 0) a d w s b
    where
      same : (x : Entry) (a w s b : ℕ) → a ≡ x.last → a ≡ x.durable → w ≡ x.written → s ≡ x.slot → b ≡ x.backup
          → ◌≡◌ {A = Entry}
          (record { last = cond (eqb a 0) b a; durable = cond (eqb a 0) b a; written = w; slot = s; backup = b }) (settled x)
      same x a w s b ea ed ew es eb =
          by_cases (eqb a 0) (λ t. let u : eqb x.last 0 ≡ true = rw ea at t in rw (t, u, ew, es, eb))
          (λ t. let u : eqb x.last 0 ≡ false = rw ea at t in rw (t, u) (plain x a w s b ea ed ew es eb))
        where
          plain : (x : Entry) (a w s b : ℕ) → a ≡ x.last → a ≡ x.durable → w ≡ x.written → s ≡ x.slot → b ≡ x.backup
              → ◌≡◌ {A = Entry} (record { last = a; durable = a; written = w; slot = s; backup = b }) x
          plain x a w s b ea ed ew es eb = λ i. record { last = ea i; durable = ed i; written = ew i; slot = es i; backup = eb i }

  -- and so it is the settled index's
  pub settled-row : (i : ℕ) → column_row c i ≡ get_or (map settled index) i empty_entry
  settled-row i = row_of i ∙ sym (get_or-map settled index i empty_entry)

  pub ordered-is : columns_ordered c
      ≡ every 64 (λ i. leb (entry_row (map settled index) i).written (entry_row (map settled index) i).last)
  unfolding columns_ordered
  ordered-is = every-same _ _ 64 (λ i b. ap (λ (e : Entry). leb e.written e.last) (settled-row i))

  pub index-length : length index ≡ length c.last
  index-length = sym (length-map index (λ (e : Entry). e.last)) ∙ ap length h.last-is

  -- i rows are made
  pub gathered-more : (made : List Entry) (i : ℕ) (x : Entry) → i < length made → i < length index
      → take i made ≡ take i (map settled index) → x ≡ column_row c i
      → take (i + 1) (set made i x) ≡ take (i + 1) (map settled index)
  gathered-more made i x b k e ex =
      let l : i < length (map settled index) = omega (arith, length-map index settled) in
      rw (add-one, take-suc-set made i x b, e, ex, settled-row i, take-suc (map settled index) i empty_entry l)

and-unit : (x : Bool) → (x && true) ≡ x
and-unit true = refl
and-unit false = refl

-- no written number above its page's last, row by row
module _ (c : Columns) where
  abbrev ordered_at : ℕ → Bool
  ordered_at i = leb (column_row c i).written (column_row c i).last

  pub ordered-next : (i : ℕ) (sound : Bool) (e : Entry) → sound ≡ every i ordered_at → e ≡ column_row c i
      → (sound && leb e.written e.last) ≡ every (i + 1) ordered_at
  unfolding every
  ordered-next i sound e h q = rw (add-one, h, q)

  -- rows in which nothing is written
  ordered-past : (pages d : ℕ) → Unwritten pages c.written → every (pages + d) ordered_at ≡ every pages ordered_at
  unfolding every
  ordered-past pages zero u = let e : pages + 0 ≡ pages = omega arith in rw e
  ordered-past pages (suc d) u =
      let e : pages + suc d ≡ suc (pages + d) = omega arith in
      let w : get_or c.written (pages + d) 0 ≡ 0 = u.unwritten (pages + d) (omega arith) in
      let t : ordered_at (pages + d) ≡ true = rw w (le-leb 0 (column_row c (pages + d)).last (omega arith)) in
      rw (e, t) (and-unit (every (pages + d) ordered_at) ∙ ordered-past pages d u)

  pub ordered-all : (pages : ℕ) → pages ≤ 64 → Unwritten pages c.written → (i : ℕ) (sound : Bool) → i ≡ pages → sound ≡ every i ordered_at
      → sound ≡ columns_ordered c
  unfolding columns_ordered
  ordered-all pages few u i sound e h =
      let s : 64 ≡ pages + (64 - pages) = omega arith in
      h ∙ ap (λ (n : ℕ). every n ordered_at) e ∙ sym (ordered-past pages (64 - pages) u) ∙ ap (λ (n : ℕ). every n ordered_at) (sym s)

-- ---- the log

-- a record leaves the columns of the notes
module _ (g : Geometry) (v : List ℕ) (f : ℕ) where
  pub log-written : (n : ℕ) → writtens (log_index g v f n) ≡ replicate 64 0
  unfolding log_index empty_index
  log-written zero = refl
  log-written (suc n) = map-set_same (λ (e : Entry). e.written) (log_index g v f n) _ _ empty_entry refl ∙ log-written n

  pub log-slots : (n : ℕ) → slots_in (log_index g v f n) ≡ replicate 64 0
  unfolding log_index empty_index
  log-slots zero = refl
  log-slots (suc n) = map-set_same (λ (e : Entry). e.slot) (log_index g v f n) _ _ empty_entry refl ∙ log-slots n

  pub log-backup : (n : ℕ) → backups (log_index g v f n) ≡ replicate 64 0
  unfolding log_index empty_index
  log-backup zero = refl
  log-backup (suc n) = map-set_same (λ (e : Entry). e.backup) (log_index g v f n) _ _ empty_entry refl ∙ log-backup n

  -- the last number is durable
  pub log-durable : (n : ℕ) → durables (log_index g v f n) ≡ lasts (log_index g v f n)
  unfolding log_index empty_index
  log-durable zero = refl
  log-durable (suc n) =
      column-set (λ (e : Entry). e.durable) (log_index g v f n) _ _
      ∙ ap (λ (l : List ℕ). set l ((log_record g v (f + n)).page - 1) (f + n)) (log-durable n)
      ∙ sym (column-set (λ (e : Entry). e.last) (log_index g v f n) _ _)

  -- a note leaves the numbers of the records
  pub note-last : (k : ℕ) → lasts (note_index g v f k) ≡ lasts (indexed_run g v)
  unfolding note_index enter_note
  note-last zero = refl
  note-last (suc k) =
      map-set_same (λ (e : Entry). e.last) (note_index g v f k) _ _ empty_entry
      (by_cases (is_written (note_record g v (f + k))) (λ t. rw t) (λ t. rw t)) ∙ note-last k

  pub note-durable : (k : ℕ) → durables (note_index g v f k) ≡ durables (indexed_run g v)
  unfolding note_index enter_note
  note-durable zero = refl
  note-durable (suc k) =
      map-set_same (λ (e : Entry). e.durable) (note_index g v f k) _ _ empty_entry
      (by_cases (is_written (note_record g v (f + k))) (λ t. rw t) (λ t. rw t)) ∙ note-durable k

-- ---- a note, entered in an entry of which only the notes' columns are known

module _ (a b : Entry) (n : Note) where
  pub noted-written : a.written ≡ b.written → (with_note a n).written ≡ (with_note b n).written
  noted-written h = by_cases (is_written n) (λ t. rw t) (λ t. rw t h)

  pub noted-slot : a.slot ≡ b.slot → (with_note a n).slot ≡ (with_note b n).slot
  noted-slot h = by_cases (is_written n) (λ t. rw t h) (λ t. rw t)

  pub noted-backup : a.backup ≡ b.backup → (with_note a n).backup ≡ (with_note b n).backup
  noted-backup h = by_cases (is_written n) (λ t. rw t h) (λ t. rw t)

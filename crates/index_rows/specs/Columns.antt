-- The index by columns: a list for each field of its entries, as a scan fills them. A scan finds no pending record, so
-- that one column holds the last and the durable numbers. The columns are those before a restart's last step, which is
-- made with a row.
use Rattle.std.specs.Prelude.{ℕ, ◌≤◌, ◌≡◌, Bool, false, cond, ◌||◌, List, [], ◌∷◌, map, eqb, leb, get_or, set, replicate}
use Rattle.model.specs.Tables.{every}
use Rattle.model.specs.declared.state.Entry.{Entry}
use Rattle.log_scan.specs.Rows.{lasts}
use Rattle.index_rows.specs.declared.columns.Columns.{Columns}

abbrev pub durables : List Entry → List ℕ
durables index = map (λ (e : Entry). e.durable) index

abbrev pub writtens : List Entry → List ℕ
writtens index = map (λ (e : Entry). e.written) index

abbrev pub slots_in : List Entry → List ℕ
slots_in index = map (λ (e : Entry). e.slot) index

abbrev pub backups : List Entry → List ℕ
backups index = map (λ (e : Entry). e.backup) index

-- the columns that the notes fill are those of the index
pub record Noted (index : List Entry) (c : Columns) : Type 0 where
  pub written_is : writtens index ≡ c.written
  pub slots-are : slots_in index ≡ c.slots
  pub backup-is : backups index ≡ c.backup

-- all columns are those of the index
pub record ColumnsOf (index : List Entry) (c : Columns) : Type 0 where
  pub last-is : lasts index ≡ c.last
  pub durable-is : durables index ≡ c.last
  pub noted : Noted index c

-- before the notes
pub record Blank (c : Columns) : Type 0 where
  pub written_none : c.written ≡ replicate 64 0
  pub slots-none : c.slots ≡ replicate 64 0
  pub backup-none : c.backup ≡ replicate 64 0

-- a page's entry, as the columns of the notes give it
abbrev pub earlier_entry : ℕ → ℕ → ℕ → Entry
earlier_entry written slot backup = record { last = 0; durable = 0; written = written; slot = slot; backup = backup }

abbrev pub earlier_row : Columns → ℕ → Entry
earlier_row c i = earlier_entry (get_or c.written i 0) (get_or c.slots i 0) (get_or c.backup i 0)

-- row i of columns, counted from 0: a page with no record in the run stands at its last noted backup
abbrev pub column_row : Columns → ℕ → Entry
column_row c i =
    let n = cond (eqb (get_or c.last i 0) 0) (get_or c.backup i 0) (get_or c.last i 0) in
    record { last = n; durable = n; written = get_or c.written i 0; slot = get_or c.slots i 0; backup = get_or c.backup i 0 }

-- row i of the notes' columns as an entry has it
abbrev pub entered : Columns → ℕ → Entry → Columns
entered c i e =
    record { last = c.last; written = set c.written i e.written; slots = set c.slots i e.slot; backup = set c.backup i e.backup }

-- no written number is above its page's last
unfoldable pub columns_ordered : Columns → Bool
columns_ordered c = every 64 (λ i. leb (column_row c i).written (column_row c i).last)

-- the slot is in the column of slots
unfoldable pub slot_in : ℕ → List ℕ → Bool
slot_in b [] = false
slot_in b (x ∷ xs) = eqb x b || slot_in b xs

-- nothing is written in the rows from `pages` on
pub record Unwritten (pages : ℕ) (written : List ℕ) : Type 0 where
  pub unwritten : (i : ℕ) → pages ≤ i → get_or written i 0 ≡ 0

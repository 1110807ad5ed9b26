-- The walk as the code makes it: what it asks of its arguments, its step at one number, its result as two numbers, and
-- the chain that is followed once more for the replay.
use Rattle.std.specs.Prelude.{ℕ, zero, suc, ◌+◌, ◌≤◌, ◌<◌, ◌≡◌, false, cond, List, [], ◌∷◌, eqb, ltb, length}
use Rattle.std.specs.Prelude.{Result, Ok, Err}
use Rattle.model.specs.Geometry.{log_slot, item}
use Rattle.model.specs.Item.{record_of}
use Rattle.model.specs.Repair.{View, view_of, Walk, class_in, chain_record, walk_of, start_of, is_broken}
use Rattle.model.specs.declared.{geometry.Geometry.Geometry, state.Entry.Entry, answer.Repair.Repair, answer.Stop.Stop}
use Rattle.model.specs.declared.item.LogRecord.{LogRecord}
use Rattle.model.specs.declared.answer.Stop.TheVariants.{Own, Backup, Broken, Below}
use Rattle.repair.specs.declared.Target.{Target}
use Rattle.repair.specs.declared.walk.Traced.{Traced}
use Rattle.repair.specs.declared.walk.Walked.{Walked}

-- what a page's repair asks: a page of the volume, and an entry within its counts
pub record Ready (g : Geometry) (first : ℕ) (e : Entry) (page : ℕ) : Type 0 where
  pub low : 1 ≤ page
  pub high : page ≤ g.pages
  pub durable : e.durable < first + g.records
  pub slot : e.slot ≤ g.slots

abbrev pub view_for : Target → View
view_for t = view_of t.volume.geometry t.volume.bytes.now t.first t.entry t.page

-- no record of the walk is broken, as after a clean scan; a page without records has no walk
abbrev pub Whole : Geometry → ℕ → View → Type 0
Whole g p w = 1 ≤ w.durable → is_broken (walk_of g p w).stop ≡ false

-- the log's records by number
abbrev pub log_of : Geometry → List ℕ → ℕ → List ℕ
log_of g v n = item g v (log_slot g n)

-- where a walk stops, and how many records are to be replayed
abbrev pub counted : Walk → Traced
counted w = record { stop = w.stop; count = length w.chain }

-- and the class of the own image
unfoldable pub walked_of : Geometry → ℕ → View → Walked
walked_of g p w = record { stop = (walk_of g p w).stop; count = length (walk_of g p w).chain; class = class_in g p w }

abbrev pub walk_for : Target → Walk
walk_for t = walk_of t.volume.geometry t.page (view_for t)

abbrev pub walked_for : Target → Walked
walked_for t = walked_of t.volume.geometry t.page (view_for t)

-- the answer, from what the walk found
abbrev pub repair_as : Walked → Repair
repair_as w = record { class = w.class; start = start_of w.stop; count = w.count }

-- the walk for page p at number n: own image, else the backup, else the record, where the run holds it: it
-- reads the record, or stops
unfoldable pub step_of : (ℕ → List ℕ) → ℕ → ℕ → ℕ → ℕ → ℕ → Result LogRecord Stop
step_of log first p own backup n =
    cond (eqb n 0) (Err Broken)
    (cond (eqb own n) (Err Own)
    (cond (eqb backup n) (Err Backup)
    (cond (ltb n first) (Err Below)
    (cond (chain_record p n (log n)) (Ok (record_of (log n))) (Err Broken)))))

-- the step at n meets no record that it may not read
abbrev pub Sound : (ℕ → List ℕ) → ℕ → ℕ → ℕ → ℕ → ℕ → Type 0
Sound log first p own backup n = step_of log first p own backup n ≡ Err Broken → n ≡ 0

-- n and the k - 1 numbers behind it, each named by the record before it
unfoldable pub chain_from : ℕ → (ℕ → List ℕ) → ℕ → List ℕ
chain_from zero log n = []
chain_from (suc k) log n = n ∷ chain_from k log (record_of (log n)).prev

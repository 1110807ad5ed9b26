-- A page's class, the chain walk and the rebuilt page. States document 01, "Reading the disk": the four classes; the
-- walk (own image, else the noted backup, else the record); the replay, oldest first; and refusal 19's condition.
use Rattle.std.specs.Prelude.{ℕ, zero, suc}
use mathlib.Core.{Bool.Bool, Bool.true, Bool.false, Bool.cond, Bool.◌&&◌, List.List, List.[], List.◌∷◌}
use lib.{Dec.eqb, Dec.ltb, ListN.length}
use Rattle.model.specs.{Tables.all, Checksum.sealed, Change.zero_body, Index.entry_of}
use Rattle.model.specs.Geometry.{page_at, slot_at, item, log_slot}
use Rattle.model.specs.Item.{image_lsn, image_body, valid_image, record_of, record_layout, is_format, first_is_format}
use Rattle.model.specs.Item.{apply_record, frame_image}
use Rattle.model.specs.Scan.{durable_count, first_held, index_of}
use Rattle.model.specs.Types.{Geometry, Entry, State, Class, Good, Behind, Stale, Failed, Ahead, Start, Stop}
use Rattle.model.specs.Types.{Broken, Below, Repair}
use Rattle.model.specs.declared.answer.Stop.TheVariants.{Own, Backup, Format}

-- "Good if n is the newest durable number; Behind if below that and at least the last written number; Stale if below
-- the last written number"; document 02, §8: "a passing own image above the newest durable number gets a class of its
-- own, Ahead". So Failed is exactly an image that is not valid
unfoldable pub class_of : Bool → ℕ → ℕ → ℕ → Class
class_of valid n durable written =
    cond valid (cond (eqb n durable) Good (cond (ltb durable n) Ahead (cond (ltb n written) Stale Behind))) Failed

-- All that a page's repair depends on: its own image, its durable and written lsn, the noted backup's lsn (0: none) and
-- image, and the log's records by number, with the number that the run starts at.
pub record View : Type 0 where
  pub own : List ℕ
  pub durable : ℕ
  pub written : ℕ
  pub backup : ℕ
  pub copy : List ℕ
  pub log : ℕ → List ℕ
  pub first : ℕ

-- page p as the volume and its entry of the index show it; slot 0 is no backup
abbrev pub view_of : Geometry → List ℕ → ℕ → Entry → ℕ → View
view_of g v f e p =
    record {
      own = item g v (page_at p);
      durable = e.durable;
      written = e.written;
      backup = cond (eqb e.slot 0) 0 e.backup;
      copy = item g v (slot_at e.slot);
      log = λ n. item g v (log_slot g n);
      first = f;
    }

-- by the index that the log and the notes give, for Inspect; by the state's, for Load
abbrev pub scanned_view : Geometry → List ℕ → ℕ → View
scanned_view g v p = view_of g v (first_held g v (durable_count g v)) (entry_of (index_of g v) p) p

abbrev pub state_view : Geometry → List ℕ → State → ℕ → View
state_view g v s p = view_of g v (first_held g v s.durable) (entry_of s.index p) p

abbrev pub class_in : Geometry → ℕ → View → Class
class_in g p w = class_of (valid_image g p w.own) (image_lsn w.own) w.durable w.written

-- the number at which the walk may stop at the own image, and at the backup; 0 is none, since the walk meets no 0
abbrev pub own_start : Geometry → ℕ → View → ℕ
own_start g p w = cond (valid_image g p w.own) (image_lsn w.own) 0

abbrev pub backup_start : Geometry → ℕ → View → ℕ
backup_start g p w = cond (valid_image g p w.copy && eqb (image_lsn w.copy) w.backup) w.backup 0

-- record n as the walk for page p may read it (19 is that it may not): check, number, page and layout are right, the
-- previous number is below its own, and 0 only in a format
unfoldable pub chain_record : ℕ → ℕ → List ℕ → Bool
chain_record p n r =
    let e = record_of r in
    all (sealed 60 r ∷ eqb e.lsn n ∷ eqb e.page p ∷ record_layout r ∷ ltb e.prev n ∷ first_is_format e ∷ [])

-- where the walk stopped, and the numbers of the records to replay, newest first. A format at which it stopped is one
-- of them.
pub record Walk : Type 0 where
  pub stop : Stop
  pub chain : List ℕ

abbrev pub stop_at : Stop → List ℕ → Walk
stop_at s c = record { stop = s; chain = c }

-- the walk of what is left, behind the numbers passed
abbrev pub behind : List ℕ → Walk → Walk
behind [] w = w
behind (n ∷ ns) w = record { stop = (behind ns w).stop; chain = n ∷ (behind ns w).chain }

-- the walk for page p from number n on; each previous number is below, so n steps are enough
unfoldable pub walk_from : ℕ → (ℕ → List ℕ) → ℕ → ℕ → ℕ → ℕ → ℕ → Walk
walk_from zero log first p own backup n = stop_at Broken []
walk_from (suc steps) log first p own backup n =
    let r = log n in
    let rest = behind (n ∷ []) (walk_from steps log first p own backup (record_of r).prev) in
    cond (eqb own n) (stop_at Own [])
    (cond (eqb backup n) (stop_at Backup [])
    (cond (ltb n first) (stop_at Below [])
    (cond (chain_record p n r) (cond (is_format (record_of r)) (stop_at Format (n ∷ [])) rest) (stop_at Broken []))))

-- "The walk begins at the newest durable number"
unfoldable pub walk_of : Geometry → ℕ → View → Walk
walk_of g p w = walk_from w.durable w.log w.first p (own_start g p w) (backup_start g p w) w.durable

-- a chain's records replayed on a body, "oldest first"
unfoldable pub replay_chain : (ℕ → List ℕ) → List ℕ → List ℕ → List ℕ
replay_chain log [] body = body
replay_chain log (n ∷ ns) body = apply_record (log n) (replay_chain log ns body)

-- the body on which a replay starts; a format replaces all of it
abbrev pub start_body : Stop → View → List ℕ
start_body Own w = image_body w.own
start_body Backup w = image_body w.copy
start_body Format w = zero_body
start_body Broken w = zero_body
start_body Below w = zero_body

-- the repaired page: its body, and its image as a frame holds it
unfoldable pub rebuilt_body : Geometry → ℕ → View → List ℕ
rebuilt_body g p w = replay_chain w.log (walk_of g p w).chain (start_body (walk_of g p w).stop w)

abbrev pub rebuilt : Geometry → ℕ → View → List ℕ
rebuilt g p w = frame_image p w.durable (rebuilt_body g p w)

-- the start that is answered; a broken walk is refused 19 by Load, and none is met after a clean scan
abbrev pub start_of : Stop → Start
start_of Own = Start.Own
start_of Backup = Start.Backup
start_of Format = Start.Format
start_of Broken = Start.Format
start_of Below = Start.Format

abbrev pub is_broken : Stop → Bool
is_broken Own = false
is_broken Backup = false
is_broken Format = false
is_broken Broken = true
is_broken Below = false

-- 23: the walk goes below the run
abbrev pub is_below : Stop → Bool
is_below Own = false
is_below Backup = false
is_below Format = false
is_below Broken = false
is_below Below = true

-- "The answer holds the class, the start and the count replayed"
unfoldable pub repair_of : Geometry → ℕ → View → Repair
repair_of g p w =
    record { class = class_in g p w; start = start_of (walk_of g p w).stop; count = length (walk_of g p w).chain }

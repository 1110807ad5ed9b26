-- Repairs, and a Backup, that fall into document 01's three traps. Each is `model`'s own but for one thing.
use Rattle.std.specs.Prelude.{ℕ, cond, List}
use Rattle.model.specs.Geometry.{geometry_of}
use Rattle.model.specs.Item.{image_body, valid_image}
use Rattle.model.specs.Index.{entry_of, set_entry}
use Rattle.model.specs.Scan.{index_of}
use Rattle.model.specs.Repair.{View, view_of, own_start, walk_from, replay_chain, start_body, rebuilt_body}
use Rattle.model.specs.Outcome.{Outcome}
use Rattle.model.specs.Calls.{backup_of}
use Rattle.model.specs.declared.state.State.{State}

abbrev pub view_in : List ℕ → ℕ → View
view_in v p = let g = geometry_of v in view_of g v 1 (entry_of (index_of g v) p) p

-- Trap 1: the own image is taken to be at the last written number, whatever its own number says; what it has already
-- is replayed onto it.
unfoldable pub replays_again : List ℕ → ℕ → List ℕ
replays_again v p =
    let w = view_in v p in
    replay_chain w.log
    (walk_from w.durable w.log w.first p w.written 0 w.durable).chain (image_body w.own)

-- Trap 2: a Backup that frees the page's old slot at once, so that it may take it.
unfoldable pub backup_freeing : List ℕ → List ℕ → State → ℕ → ℕ → Outcome
backup_freeing v m s page slot =
    let e = entry_of s.index page in
    let freed = set_entry s.index page
    (record { last = e.last; durable = e.durable; written = e.written; slot = 0; backup = 0 }) in
    backup_of v m (record {
      durable = s.durable;
      pending = s.pending;
      notes = s.notes;
      note = s.note;
      frames = s.frames;
      index = freed;
    }) page slot

-- and a repair that takes the image in the noted slot to be at the noted number
unfoldable pub trusts_note : List ℕ → ℕ → List ℕ
trusts_note v p =
    let g = geometry_of v in
    let w = view_in v p in
    let k = walk_from w.durable w.log w.first p (own_start g p w) w.backup w.durable in
    replay_chain w.log k.chain (start_body k.stop w)

-- Trap 3: an own image that passes is taken as current.
unfoldable pub passes_so_current : List ℕ → ℕ → List ℕ
passes_so_current v p =
    let g = geometry_of v in
    let w = view_in v p in
    cond (valid_image g p w.own) (image_body w.own) (rebuilt_body g p w)

-- The memory once a change's record is pending: the first half of what Begin and Change leave there.
use Rattle.std.specs.Prelude.{ℕ, ◌+◌, List}
use Rattle.model.specs.Bytes.{splice}
use Rattle.model.specs.Index.{entry_of}
use Rattle.model.specs.Item.{encode_change}
use Rattle.model.specs.State.{pending_at, last_number}
use Rattle.model.specs.declared.{change.Change.Change, state.State.State}

abbrev pub pended_memory : List ℕ → State → ℕ → Change → List ℕ → List ℕ
pended_memory m s page c payload =
    let n = last_number s + 1 in
    splice m (pending_at n) (encode_change n (entry_of s.index page).last page c payload)

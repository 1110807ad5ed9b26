-- What Load finds before it loads: the page's target by volume and state, and the walk of it.
use Rattle.std.specs.Prelude.{ℕ, ◌≡◌, List}
use Rattle.model.specs.Geometry.{geometry_of}
use Rattle.model.specs.Index.{entry_of}
use Rattle.model.specs.Scan.{first_held}
use Rattle.model.specs.declared.state.State.{State}
use Rattle.repair.specs.Walked.{walked_for}
use Rattle.repair.specs.declared.Target.{Target}
use Rattle.repair.specs.declared.walk.Walked.{Walked}

pub record Finds (v : List ℕ) (s : State) (page : ℕ) (t : Target) (w : Walked) : Type 0 where
  pub volume : t.volume.bytes.now ≡ v
  pub first : t.first ≡ first_held (geometry_of v) v s.durable
  pub entry : t.entry ≡ entry_of s.index page
  pub number : t.page ≡ page
  pub walked : w ≡ walked_for t

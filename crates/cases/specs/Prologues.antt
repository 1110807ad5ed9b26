-- The first events of histories, shared by name, on a machine with so many frames: page 1 is begun with 7 in frame 1,
-- page 2 with 9 in frame 2.
use Rattle.std.specs.Prelude.{ℕ, List, [], ◌∷◌, ◌++◌}
use Rattle.cases.specs.Calls.{begin, force, write, backup, note}
use Rattle.model.specs.History.{Event, restart, perform}
use Rattle.cases.specs.Build.{memory}

abbrev pub page_begun : ℕ → List Event
page_begun frames = restart (memory frames) ∷ perform (begin 1 1 7) ∷ []

-- its record durable
abbrev pub page_forced : ℕ → List Event
page_forced frames = page_begun frames ++ (perform force ∷ [])

-- and its image written, or backed up in slot 1, and noted
abbrev pub page_written : ℕ → List Event
page_written frames = page_forced frames ++ (perform (write 1) ∷ perform note ∷ [])

abbrev pub page_backed_up : ℕ → List Event
page_backed_up frames = page_forced frames ++ (perform (backup 1 1) ∷ perform note ∷ [])

-- both pages, their records durable
abbrev pub pages_forced : ℕ → List Event
pages_forced frames =
    page_begun frames ++ (perform (begin 2 2 9) ∷ perform force ∷ perform force ∷ [])

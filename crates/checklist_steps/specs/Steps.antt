-- What the checklist's steps leave: the outcomes of the store's calls, applied one after the other.
use Rattle.std.specs.Prelude.{ℕ, List, [], ◌∷◌, take, replicate}
use Rattle.model.specs.Bytes.{splice}
use Rattle.model.specs.Outcome.{Outcome, reply_of, volume_after}
use Rattle.model.specs.Calls.{no_payload}
use Rattle.model.specs.Restart.{make_of, restart_of}
use Rattle.model.specs.declared.change.Change as changes
use Rattle.model.specs.declared.{command.Command.Command, geometry.Heading.TheVariants.Second}
use Rattle.model.specs.declared.change.Change.TheVariants.{Put, Slide}
use Rattle.model.specs.declared.command.Command.TheVariants.{Begin, Load, Force, Write}
use Rattle.model.specs.declared.command.Command.TheVariants.{Change, Backup, Note}
use Rattle.store.specs.Store.{wrapped, performed}
use Rattle.store.specs.declared.Store.{Store}
use Rattle.checklist_steps.specs.declared.steps.Live.{Live}

-- what is there between two calls
abbrev pub live : List ℕ → List ℕ → Store → Live
live v m s = record { volume = v; memory = m; store = s }

-- an outcome applied to the volume that it was given
abbrev pub applied : List ℕ → Outcome → Live
applied v o = live (volume_after v o.stored) o.memory (wrapped (reply_of o)).store

-- a line's 44 bytes: zeros behind the words
unfoldable pub row_of : List ℕ → List ℕ
row_of words = splice (replicate 44 0) 0 (take 44 words)

-- a command made
unfoldable pub made : Live → Command → List ℕ → Live
made w c payload = applied w.volume (performed w.store w.volume w.memory c payload)

abbrev pub restarted : List ℕ → List ℕ → Live
restarted v m = applied v (restart_of v m)

-- ---- the steps

abbrev pub forced : Live → Live
forced w = made w Force no_payload

abbrev pub noted : Live → Live
noted w = made w Note no_payload

abbrev pub begun : Live → ℕ → Live
begun w page = forced (made w (Begin page page 0) no_payload)

abbrev pub changed : Live → ℕ → changes.Change → List ℕ → Live
changed w page c words = forced (made w (Change page c) (row_of words))

abbrev pub put_in : Live → ℕ → ℕ → List ℕ → Live
put_in w page offset words = changed w page (Put offset 44) words

abbrev pub slid_in : Live → ℕ → ℕ → List ℕ → Live
slid_in w page offset words = changed w page (Slide offset 44) words

abbrev pub written : Live → ℕ → Live
written w page = noted (made w (Write page) no_payload)

abbrev pub backed_up : Live → ℕ → Live
backed_up w page = noted (made w (Backup page 1) no_payload)

abbrev pub loaded : Live → ℕ → Live
loaded w page = made w (Load page page) no_payload

-- 06:10 bed 4 moved to 7
abbrev pub first_line : List ℕ
first_line =
    0x30 ∷ 0x36 ∷ 0x3a ∷ 0x31 ∷ 0x30 ∷ 0x20 ∷ 0x62 ∷ 0x65 ∷ 0x64 ∷ 0x20 ∷ 0x34 ∷ 0x20 ∷ 0x6d ∷ 0x6f ∷ 0x76 ∷ 0x65 ∷ 0x64
    ∷ 0x20 ∷ 0x74 ∷ 0x6f ∷ 0x20 ∷ 0x37 ∷ []

-- a volume made of 2 pages, 1 slot, 16 records and 8 notes, page 1 begun, and its first line
abbrev pub opening : List ℕ → List ℕ → Live
opening v m = put_in (begun (restarted (make_of Second v 2 1 16 8).volume m) 1) 1 0 first_line

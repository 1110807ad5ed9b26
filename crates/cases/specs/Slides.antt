-- What worked histories and other rows share: bytes slid in at the front of a page, as a call, as what is kept of it
-- and as the image that it leaves.
use Rattle.std.specs.Prelude.{ℕ, ◌-◌, List, ◌++◌, map, length, replicate, take}
use Rattle.model.specs.Calls.{Call}
use Rattle.cases.specs.Calls.{change}
use Rattle.model.specs.AbstractLog.{Logged}
use Rattle.model.specs.History.{Event, perform}
use Rattle.model.specs.declared.{geometry.Heading.Heading, geometry.Heading.TheVariants.Second, change.Change.Change}
use Rattle.model.specs.declared.change.Change.TheVariants.{Slide}
use Rattle.cases.specs.Words.{done}
use Rattle.cases.specs.Build.{image_under}
use Rattle.cases.specs.Worked.{Told, told}

-- a payload: a change's bytes, and behind them what must not be stored
abbrev pub payload : List ℕ → List ℕ
payload xs = xs ++ replicate (44 - length xs) 0x55

abbrev pub logged : ℕ → Change → List ℕ → Logged
logged p c xs = record { page = p; change = c; bytes = xs }

-- bytes slid in at the front of a page's body, as a call and as what is kept of it
abbrev pub slide : ℕ → List ℕ → Call
slide p xs = change p (Slide 0 (length xs)) (payload xs)

abbrev pub slid : ℕ → List ℕ → Logged
slid p xs = logged p (Slide 0 (length xs)) xs

abbrev pub does : Call → List ℕ → Told
does c a = told (perform c) a

-- events that all answer Done
abbrev pub all_done : List Event → List Told
all_done es = map (λ e. told e done) es

-- page 1 formatted with 7: its image at 1, and at n after these bytes were slid in
abbrev pub sevens_under : Heading → List ℕ
sevens_under h = image_under h 1 1 (replicate 244 7)

abbrev pub sevens : List ℕ
sevens = sevens_under Second

abbrev pub slid_under : Heading → ℕ → List ℕ → List ℕ
slid_under h n xs = image_under h 1 n (take 244 (xs ++ replicate 244 7))

abbrev pub slid_image : ℕ → List ℕ → List ℕ
slid_image n xs = slid_under Second n xs

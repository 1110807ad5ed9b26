-- Rows on the rehearsal (document 02, §10): the model on small lists, 25's four grounds, and the real calls beside it.
use Rattle.std.specs.Prelude.{ℕ, ◌+◌, List, [], ◌∷◌, ◌++◌, length, replicate}
use Rattle.model.specs.Geometry.{length_for}
use Rattle.model.specs.Outcome.{refusal_of}
use Rattle.planning.specs.Rehearsal.{page_row, use_row, settings, play_from, idle, rehearsal_of, total_of}
use Rattle.planning.specs.RehearsalRun.{Choices, Played, Site, real_run, free_slot, backed_up}
use Rattle.model.specs.declared.geometry.Heading.{Heading}
use Rattle.model.specs.declared.geometry.Heading.TheVariants.{First, Second}
use Rattle.planning.specs.declared.rehearsal.Victim.{Victim}
use Rattle.planning.specs.declared.rehearsal.Victim.TheVariants.{Written, Released}
use Rattle.planning.specs.declared.rehearsal.Figures.{Figures}
use Rattle.planning.specs.declared.rehearsal.Totals.{Totals}
use Rattle.cases.specs.Rows.{Row, row}
use Rattle.cases.specs.Opened.{opened}
use Rattle.cases.specs.Words.{bit, yes, no, accepted, refusal}
use Rattle.cases.specs.Build.{memory}

-- a read and a change of page p
abbrev r : ℕ → ℕ
r p = p

abbrev c : ℕ → ℕ
c p = 128 + p

-- loads; records, images, backups, notes stored; records replayed
abbrev counts : Figures → List ℕ
counts f = f.loads ∷ f.records ∷ f.images ∷ f.backups ∷ f.notes ∷ f.replayed ∷ []

abbrev sums : Totals → List ℕ
sums f = f.loads ∷ f.records ∷ f.images ∷ f.backups ∷ f.notes ∷ f.replayed ∷ []

-- in words, for a page or in total: loads; records, images, backups, notes stored; records replayed
abbrev page : ℕ → ℕ → ℕ → ℕ → ℕ → ℕ → List ℕ
page loads records images backups notes replayed =
    loads ∷ records ∷ images ∷ backups ∷ notes ∷ replayed ∷ []

-- pages 1 and 2 of the model
abbrev figures : List ℕ → ℕ → ℕ → Victim → List ℕ
figures events frames every v =
    let f = (rehearsal_of events (settings frames every v)).pages in
    counts (page_row f 1) ++ counts (page_row f 2)

abbrev answered : List ℕ → ℕ → ℕ → ℕ
answered events frames every = refusal_of (rehearsal_of events (settings frames every Written)).answer

-- a frame: its page, its last use, whether it is dirty
abbrev used : ℕ → ℕ → ℕ → List ℕ
used page at dirty = page ∷ at ∷ dirty ∷ []

-- frames 1 and 2 of the model
abbrev frames : List ℕ → List ℕ
frames events =
    let m = play_from (settings 2 4 Written) 0 idle events in
    let a = use_row m.frames 0 in
    let b = use_row m.frames 1 in
    a.page ∷ a.used ∷ bit a.dirty ∷ b.page ∷ b.used ∷ bit b.dirty ∷ []

-- the real calls: a fill and a put by the event's number, the lowest free slot
abbrev choices : Choices
choices i s = record { fill = i; offset = i; length = 2; payload = i ∷ replicate 43 0; slot = free_slot s }

abbrev pub site : Heading → ℕ → ℕ → ℕ → ℕ → ℕ → Site
site h p b l n f =
    record {
      heading = h;
      found = replicate (length_for p b l n) 0xDD;
      pages = p;
      slots = b;
      records = l;
      notes = n;
      memory = memory f;
    }

-- whether a call was refused, then pages 1 and 2
abbrev real : Played → List ℕ
real x = bit x.refused ∷ (counts (page_row x.figures 1) ++ counts (page_row x.figures 2))

-- page 1 begins and changes twice, page 2 begins, page 1 is read
abbrev pub short : List ℕ
short = c 1 ∷ c 1 ∷ c 1 ∷ c 2 ∷ r 1 ∷ []

-- a page comes back clean, and makes way again
abbrev around : List ℕ
around = c 1 ∷ c 2 ∷ r 1 ∷ r 2 ∷ r 1 ∷ c 1 ∷ r 2 ∷ []

unfoldable pub rehearsal_cases : List Row
unfolding opened
rehearsal_cases =
    row "rehearsal: 25 for 1,025 events"
    (answered (replicate 1025 1) 1 1 ∷ answered (replicate 1024 1) 1 1 ∷ []) (refusal 25 ∷ accepted ∷ [])
    ∷ row "rehearsal: 25 for the frames"
    (answered short 0 2 ∷ answered short 1 2 ∷ answered short 16 2 ∷ answered short 17 2 ∷ [])
    (refusal 25 ∷ accepted ∷ accepted ∷ refusal 25 ∷ [])
    ∷ row "rehearsal: 25 for k"
    (answered short 1 0 ∷ answered short 1 1 ∷ answered short 1 255 ∷ answered short 1 256 ∷ [])
    (refusal 25 ∷ accepted ∷ accepted ∷ refusal 25 ∷ [])
    ∷ row "rehearsal: 25 for a page, of a read too"
    (answered (c 1 ∷ r 0 ∷ []) 1 1 ∷ answered (c 0 ∷ []) 1 1 ∷ answered (c 1 ∷ r 64 ∷ c 64 ∷ []) 1 1
    ∷ answered (c 1 ∷ r 65 ∷ []) 1 1 ∷ answered (c 65 ∷ []) 1 1 ∷ [])
    (refusal 25 ∷ refusal 25 ∷ accepted ∷ refusal 25 ∷ refusal 25 ∷ [])
    ∷ row "rehearsal: refused, all figures are zero"
    (length (rehearsal_of (c 1 ∷ r 65 ∷ []) (settings 1 1 Written)).pages ∷ figures (c 1 ∷ r 65 ∷ []) 1 1 Written)
    (64 ∷ (page 0 0 0 0 0 0 ++ page 0 0 0 0 0 0))
    ∷ row "rehearsal: let go" (figures short 1 2 Released) (page 1 3 0 1 1 1 ++ page 0 1 0 0 0 0)
    ∷ row "rehearsal: written" (figures short 1 2 Written) (page 1 3 1 1 2 0 ++ page 0 1 1 0 1 0)
    ∷ row "rehearsal: below k the walk ends at the format" (figures short 1 4 Released)
    (page 1 3 0 0 0 3 ++ page 0 1 0 0 0 0)
    ∷ row "rehearsal: a clean victim costs nothing" (figures around 1 9 Written)
    (page 2 2 2 0 2 0 ++ page 2 1 1 0 1 0)
    ∷ row "rehearsal: a page that was loaded is dirty where victims are let go"
    (figures around 1 9 Released)
    (page 2 2 0 0 0 2 ++ page 2 1 0 0 0 2)
    ∷ row "rehearsal: a read before the begin does nothing" (figures (r 1 ∷ c 1 ∷ r 2 ∷ r 1 ∷ []) 1 1 Written)
    (page 0 1 0 1 1 0 ++ page 0 0 0 0 0 0)
    ∷ row "rehearsal: a hit renews the use" (figures (c 1 ∷ c 2 ∷ r 1 ∷ c 3 ∷ r 1 ∷ r 2 ∷ []) 2 1 Released)
    (page 0 1 0 1 1 0 ++ page 1 1 0 1 1 0)
    ∷ row "rehearsal: the first empty frame, the least recently used"
    (frames (c 5 ∷ []) ++ frames (c 5 ∷ c 6 ∷ r 5 ∷ c 7 ∷ []))
    (used 5 1 yes ++ (used 0 0 no ++ (used 5 3 yes ++ used 7 4 yes)))
    ∷ row "rehearsal: in total" (sums (total_of (rehearsal_of short (settings 1 2 Written)).pages 64))
    (page 1 4 2 1 3 0) ∷ []

unfoldable pub rehearsal_runs : List Row
unfolding opened
rehearsal_runs =
    row "rehearsal, real: let go, on a ring that has turned"
    (real (real_run (site Second 2 1 2 2 1) (settings 1 2 Released) choices short))
    (no ∷ (page 1 3 0 1 1 1 ++ page 0 1 0 0 0 0))
    ∷ row "rehearsal, real: written, the room just enough"
    (real (real_run (site First 2 2 4 3 1) (settings 1 2 Written) choices short))
    (no ∷ (page 1 3 1 1 2 0 ++ page 0 1 1 0 1 0))
    ∷ row "rehearsal, real: one note too few, one record too few"
    (bit (real_run (site First 2 2 4 2 1) (settings 1 2 Written) choices short).refused
    ∷ bit (real_run (site First 2 2 3 3 1) (settings 1 2 Written) choices short).refused ∷ [])
    (yes ∷ yes ∷ [])
    ∷ row "rehearsal, real: a clean victim"
    (real (real_run (site Second 2 1 3 4 1) (settings 1 9 Written) choices around))
    (no ∷ (page 2 2 2 0 2 0 ++ page 2 1 1 0 1 0))
    ∷ row "rehearsal, real: loaded, and dirty"
    (real (real_run (site Second 2 1 3 4 1) (settings 1 9 Released) choices around))
    (no ∷ (page 2 2 0 0 0 2 ++ page 2 1 0 0 0 2))
    ∷ row "rehearsal, real: a read before the begin; a hit renews the use"
    (real (real_run (site Second 3 4 3 3 2) (settings 2 1 Released) choices (r 2 ∷ c 1 ∷ c 2 ∷ r 1 ∷ c 3 ∷ r 1 ∷ r 2 ∷ [])))
    (no ∷ (page 0 1 0 1 1 0 ++ page 1 1 0 1 1 0))
    ∷ row "rehearsal, real: pages with a backup"
    (backed_up (rehearsal_of short (settings 1 2 Released)).pages 64
    ∷ backed_up (rehearsal_of short (settings 1 1 Released)).pages 64 ∷ [])
    (1 ∷ 2 ∷ []) ∷ []

-- A site that has just the room that the model names, as an instance of the theorem: so the room can be met, and there the figures are the
-- model's without a refusal.
use mathlib.Core.Path.{◌≡◌, refl, ap}
use mathlib.Core.List.{List, [], ◌∷◌}
use Prim.Native.Nat.{ℕ, ◌-◌, ◌<◌}
use native.Mathlib.Omega.{arith}
use native.Mathlib.Decide.{dec_lt}
use lib.ListN.{length, replicate, length-replicate, get_or-eq_default}
use Rattle.model.specs.Geometry.{valid_counts, length_for}
use Rattle.model.specs.Change.{change_fits}
use Rattle.model.specs.Refusals.{make_rows}
use Rattle.model.specs.Outcome.{refusal_of}
use Rattle.model.specs.Restart.{make_of}
use Rattle.planning.specs.Rehearsal.{settings, access_of, pages_fit, rehearsal_rows, rehearsal_of, play_from, idle, step_on}
use Rattle.planning.specs.Rehearsal.{touched, holding, least_used, evicted, brought_in, changed, with_change, no_figures}
use Rattle.planning.specs.Rehearsal.{page_row, total_of}
use Rattle.planning.specs.RehearsalRun.{Choices, Site, Tried, Roomy, real_run, free_slot, backed_up}
use Rattle.model.specs.declared.geometry.Heading.TheVariants.{First}
use Rattle.planning.specs.declared.rehearsal.Victim.TheVariants.{Written}
use Rattle.planning.specs.declared.rehearsal.Settings.{Settings}
use Rattle.planning.specs.declared.rehearsal.Figures.{Figures}
use Rattle.planning_theory.proofs.Room.{roomy-figures}

-- page 1 begins and changes twice, page 2 begins, page 1 is read; one frame, a dirty page is written, a backup after every 2 changes
abbrev events : List ℕ
events = 129 ∷ 129 ∷ 129 ∷ 130 ∷ 1 ∷ []

abbrev habit : Settings
habit = settings 1 2 Written

abbrev choices : Choices
choices i s = record { fill = 7; offset = 0; length = 12; payload = replicate 44 1; slot = free_slot s }

-- as many slots, log records and notes as the model says, and no more
abbrev site : Site
site =
    record {
      heading = First;
      found = replicate (length_for 64 2 4 3) 0;
      pages = 64;
      slots = 2;
      records = 4;
      notes = 3;
      memory = replicate 1280 0;
    }

made : (v : List ℕ) → length v ≡ length_for 64 2 4 3 → refusal_of (make_of First v 64 2 4 3).answer ≡ 0
unfolding make_of make_rows valid_counts
made v e = rw e

tried : Tried site habit choices events
unfolding rehearsal_rows pages_fit access_of
tried =
    record {
      make = made site.found (length-replicate {A = ℕ} (length_for 64 2 4 3) 0);
      memory = length-replicate {A = ℕ} 1280 0;
      taken = refl;
      payloads = λ i s. refl;
    }

rows-size : length (rehearsal_of events habit).pages ≡ 64
unfolding rehearsal_of rehearsal_rows pages_fit access_of play_from idle step_on touched holding least_used evicted brought_in changed with_change
rows-size = refl

-- past the 64 rows no page has a record
none-past : (p : ℕ) → 64 < p → (page_row (rehearsal_of events habit).pages p).records ≡ 0
none-past p h =
    ap (λ (r : Figures). r.records)
    (get_or-eq_default (rehearsal_of events habit).pages no_figures {n = p - 1} (omega (arith, rows-size)))

roomy : Roomy site habit choices events
unfolding rehearsal_of rehearsal_rows pages_fit access_of play_from idle step_on touched holding least_used evicted brought_in changed with_change total_of backed_up change_fits
roomy =
    record {
      pages = λ p some. elim (dec_lt 64 p) [ yes z ↦ absurd (omega (arith, some, none-past p z)) | no z ↦ omega arith ];
      slots = omega arith;
      records = omega arith;
      notes = omega arith;
      lowest-slot = λ i s. refl;
      puts = λ i s. refl;
    }

pub instance : (real_run site habit choices events).figures ≡ (rehearsal_of events habit).pages
instance = roomy-figures site habit choices events tried roomy

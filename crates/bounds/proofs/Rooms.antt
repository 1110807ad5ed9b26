-- A rehearsal whose site has just the room that the model names: the real calls are not refused, and the figures are the model's. (With
-- one note or one record less a call is refused: the row `rehearsal, real: one note too few, one record too few`.)
use Prim.Native.Nat.{ℕ, zero, suc, ◌-◌, ◌≤◌}
use mathlib.Core.Path.{◌≡◌, refl, ap, ◌∙◌}
use mathlib.Core.Bool.{true, false}
use mathlib.Core.List.{List, ◌∷◌}
use native.Mathlib.Omega.{arith}
use lib.Dec.{eqb→eq}
use lib.ListN.{get_or, replicate, length-replicate}
use Rattle.model.specs.Tables.{first_of}
use Rattle.model.specs.Change.{fits}
use Rattle.model.specs.Outcome.{refusal_of}
use Rattle.model.specs.Restart.{make_of}
use Rattle.planning.specs.Rehearsal.{no_figures, page_row, settings, rehearsal_rows, rehearsal_of, total_of}
use Rattle.planning.specs.RehearsalRun.{Choices, Site, real_run, Tried, free_slot, backed_up, Roomy}
use Rattle.model.specs.declared.{change.Change.TheVariants.Put, geometry.Heading.TheVariants.First}
use Rattle.planning.specs.declared.rehearsal.Victim.TheVariants.{Written}
use Rattle.planning.specs.declared.rehearsal.Settings.{Settings}
use Rattle.planning.specs.declared.rehearsal.Figures.{Figures}
use Rattle.cases.specs.Opened.{opened}
use Rattle.cases.specs.Rehearsals.{site, short}
use Rattle.laws.proofs.Tabulated.{replicate-at}
use Rattle.planning_theory.proofs.Theorem.{same-figures}
use Rattle.planning_theory.proofs.Room.{enough-room}
use Rattle.cases.proofs.Tests.{holds}

-- two pages, two slots, four records, three notes, one frame
abbrev narrow : Site
narrow = site First 2 2 4 3 1

abbrev habits : Settings
habits = settings 1 2 Written

abbrev choices : Choices
choices i s = record { fill = 7; offset = 242; length = 2; payload = replicate 44 5; slot = free_slot s }

abbrev pages : List Figures
pages = (rehearsal_of short habits).pages

tried : Tried narrow habits choices short
unfolding opened
tried =
    record {
      make = eqb→eq (refusal_of (make_of First narrow.found 2 2 4 3).answer) 0 tt;
      memory = length-replicate {A = ℕ} 1280 0xCC;
      taken = eqb→eq (first_of (rehearsal_rows short habits)) 0 tt;
      payloads = λ i s. length-replicate {A = ℕ} 44 5;
    }

-- pages 1 and 2 have figures, the others none
two-pages : pages ≡ page_row pages 1 ∷ page_row pages 2 ∷ replicate 62 no_figures
unfolding opened
two-pages = refl

no_more : (p : ℕ) → 1 ≤ (page_row pages p).records → p ≤ 2
no_more zero h = omega arith
no_more (suc zero) h = omega arith
no_more (suc (suc zero)) h = omega arith
no_more (suc (suc (suc q))) h =
    let i : suc (suc (suc q)) - 1 ≡ suc (suc q) = omega arith in
    let e : page_row pages (suc (suc (suc q))) ≡ no_figures =
    ap (λ (j : ℕ). get_or pages j no_figures) i
    ∙ (ap (λ (fs : List Figures). get_or fs (suc (suc q)) no_figures) two-pages ∙ replicate-at 62 q no_figures) in
    let z : (page_row pages (suc (suc (suc q)))).records ≡ 0 = ap (λ (f : Figures). f.records) e in
    absurd (omega (arith, h, z))

slots-used : backed_up pages 64 ≡ 1
unfolding opened
slots-used = eqb→eq (backed_up pages 64) 1 tt

records-used : (total_of pages 64).records ≡ 4
unfolding opened
records-used = eqb→eq (total_of pages 64).records 4 tt

notes-used : (total_of pages 64).notes ≡ 3
unfolding opened
notes-used = eqb→eq (total_of pages 64).notes 3 tt

put-fits : fits (Put 242 2) ≡ true
unfolding opened
put-fits = holds (fits (Put 242 2)) tt

just-roomy : Roomy narrow habits choices short
just-roomy =
    record {
      pages = no_more;
      slots = omega (arith, slots-used);
      records = omega (arith, records-used);
      notes = omega (arith, notes-used);
      lowest-slot = λ i s. refl;
      puts = λ i s. put-fits;
    }

pub none-refused : (real_run narrow habits choices short).refused ≡ false
none-refused = enough-room narrow habits choices short tried just-roomy

pub figures-told : (real_run narrow habits choices short).figures ≡ pages
figures-told = same-figures narrow habits choices short tried none-refused

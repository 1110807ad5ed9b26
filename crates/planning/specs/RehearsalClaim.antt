-- A rehearsal is refused by its table and only so, and has no figures then; the table stands in order. States document
-- 02, §10: "Checks: 25, over 1,024 events, frames not 1 to 16, k out of range or a page not 1 to 64, before all others."
use Rattle.std.specs.Prelude.{ℕ, ◌≡◌, true, List, [], replicate}
use Rattle.model.specs.Outcome.{refusal_of}
use Rattle.planning.specs.Rehearsal.{no_figures, rehearsal_rows, rehearsal_of}
use Rattle.planning.specs.declared.rehearsal.Settings.{Settings}
use Rattle.model.specs.Demand1.{Refuses}
use Rattle.model.specs.Precedence.{ordered}

pub record RehearsalClaim : Type 0 where
  pub refuses : (events : List ℕ) (t : Settings)
      → Refuses (rehearsal_rows events t) (refusal_of (rehearsal_of events t).answer) (rehearsal_of events t).pages
      (replicate 64 no_figures)
  pub in_order : (events : List ℕ) (t : Settings) → ordered [] (rehearsal_rows events t) ≡ true

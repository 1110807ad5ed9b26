-- A rehearsal is refused by its table, with no figures, and the table stands in order: the proof of `RehearsalClaim`.
use mathlib.Core.Path.{refl}
use mathlib.Core.List.{List}
use Prim.Native.Nat.{ℕ}
use native.Mathlib.Omega.{arith}
use lib.ListN.{replicate}
use Rattle.model.specs.Outcome.{refusal_of}
use Rattle.planning.specs.Rehearsal.{no_figures, rehearsal_rows, rehearsal_of}
use Rattle.model.specs.Demand1.{Refuses}
use Rattle.planning.specs.declared.rehearsal.Settings.{Settings}
use Rattle.planning.specs.declared.rehearsal.Rehearsed.{Rehearsed}
use Rattle.laws.proofs.Refuses.{by_rows}
use Rattle.planning.specs.RehearsalClaim.{RehearsalClaim}

rehearses : (events : List ℕ) (t : Settings)
    → Refuses (rehearsal_rows events t) (refusal_of (rehearsal_of events t).answer) (rehearsal_of events t).pages (replicate 64 no_figures)
unfolding rehearsal_of rehearsal_rows
rehearses events t =
    by_rows (rehearsal_rows events t) (omega arith) (λ (r : Rehearsed). refusal_of r.answer) (λ (r : Rehearsed). r.pages) _ _ _ refl refl
    refl

pub rehearsal-claim : RehearsalClaim
unfolding rehearsal_rows
rehearsal-claim = record { refuses = rehearses; in_order = λ events t. refl }

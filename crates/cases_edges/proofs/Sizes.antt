-- A body keeps its 244 bytes under changes that only just obey the rule: a format, a put that ends with the body and has
-- no byte more than its length, a slide of the last byte.
use Prim.Native.Nat.{ℕ}
use mathlib.Core.Path.{◌≡◌}
use mathlib.Core.Bool.{true}
use mathlib.Core.List.{List, [], ◌∷◌}
use native.Mathlib.Omega.{arith}
use lib.ListN.{length, replicate, length-replicate}
use Rattle.model.specs.Change.{fits, zero_body}
use Rattle.model.specs.AbstractLog.{Logged, replay_on}
use Rattle.model.specs.ChangeLaws.{put_on, slide_on, AllFit}
use Rattle.model.specs.declared.change.Change.TheVariants.{Put, Slide}
use Rattle.model.specs.declared.change.Change.TheVariants.{Format}
use Rattle.laws.proofs.Replays.{change-laws}
use Rattle.cases.specs.Opened.{opened}
use Rattle.cases.proofs.Tests.{holds}

abbrev changes : List Logged
changes =
    record { page = 1; change = Format 255; bytes = [] } ∷ put_on 1 200 44 (replicate 44 5) ∷ slide_on 1 243 1 (7 ∷ []) ∷ []

rule : (fits (Format 255) ≡ true) × (fits (Put 200 44) ≡ true) × (fits (Slide 243 1) ≡ true)
unfolding opened
rule = (holds (fits (Format 255)) tt, holds (fits (Put 200 44)) tt, holds (fits (Slide 243 1)) tt)

all_fit : AllFit changes
all_fit =
    ((rule.0, omega arith), ((rule.1, omega (arith, length-replicate {A = ℕ} 44 5)), ((rule.2, omega arith), tt)))

pub keeps-size : (q : ℕ) → length (replay_on q changes zero_body) ≡ 244
keeps-size q = change-laws.size q changes zero_body all_fit (length-replicate {A = ℕ} 244 0)

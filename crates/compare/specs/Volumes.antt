-- The refusal of the comparison of two logs, of their scans, and the pages that it marks.
use Rattle.std.specs.Prelude.{ℕ, suc, ◌-◌, Bool, true, false, Result, Ok, Err, cond, ◌||◌, List, ltb, get_or, set}
use Rattle.model.specs.Tables.{within, tabulate}
use Rattle.model.specs.Refused.{refusal_number}
use Rattle.reports.specs.Mirror.{touched_in}
use Rattle.model.specs.declared.geometry.Geometry.{Geometry}
use Rattle.model.specs.declared.answer.Refusal.{Refusal}
use Rattle.index.specs.Scanned.{gone_in}
use Rattle.index.specs.declared.Counts.{Counts}

-- 0, or the lower refusal of two scans, or 24 where record 1 has left either log
abbrev pub both_refusal : Result Counts Refusal → Result Counts Refusal → ℕ
both_refusal (Ok a) (Ok b) = cond (gone_in a || gone_in b) 24 0
both_refusal (Ok a) (Err s) = refusal_number s
both_refusal (Err r) (Ok b) = refusal_number r
both_refusal (Err r) (Err s) = cond (ltb (refusal_number s) (refusal_number r)) (refusal_number s) (refusal_number r)

-- a Bool for each page, with this page's set; one that no volume has is passed over
abbrev pub marked : List Bool → ℕ → List Bool
marked xs page = cond (within 64 page) (set xs (page - 1) true) xs

-- with the pages set that records k + 1 to n are of
unfoldable pub marked_behind : Geometry → List ℕ → ℕ → ℕ → List Bool → List Bool
marked_behind g v k n xs = tabulate 64 (λ i. get_or xs i false || touched_in g v n k (suc i))

-- The policy in the parts that the code takes it in.
use Rattle.std.specs.Prelude.{ℕ, suc, ◌+◌, ◌-◌, Bool, true, false, cond, ◌&&◌, ◌||◌, not, List}
use Rattle.model.specs.Tables.{larger}
use Rattle.model.specs.Geometry.{geometry_of}
use Rattle.model.specs.Index.{entry_of}
use Rattle.model.specs.Scan.{first_held}
use Rattle.model.specs.State.{held}
use Rattle.model.specs.Repair.{state_view, class_in}
use Rattle.model.specs.Calls.{no_payload}
use Rattle.model.specs.declared.{geometry.Geometry.Geometry, state.State.State}
use Rattle.upkeep_policy.specs.Upkeep.{renew}
use Rattle.upkeep_policy.specs.declared.upkeep.Advised.{Advised}
use Rattle.upkeep_policy.specs.declared.upkeep.Upkeep.{Upkeep}
use Rattle.upkeep_policy.specs.declared.upkeep.Upkeep.TheVariants.{Idle, Stuck}
use Rattle.upkeep_policy.specs.declared.upkeep.Upkeep.TheVariants as upkeep
use Rattle.mend_policy.specs.Mend.{stands, reaches, margin, may_write, is_ahead, is_stale}
use Rattle.mend_policy.specs.Mend.{Mending, whole, single, ahead, mending}
use Rattle.mend_policy.specs.declared.mending.Mended.{Mended}
use Rattle.mend_policy.specs.declared.mending.Mend.TheVariants.{Refused, Whole, Lost, Full, Make}

-- where the run starts once a quarter of the log more is stored behind d durable records
abbrev pub start_at : Geometry → List ℕ → ℕ → ℕ
start_at g v d = larger (first_held g v d) (suc (d + margin g) - g.records)

-- where the backup is a start: M2, A3 and A4
unfoldable pub standing_part : List ℕ → List ℕ → State → ℕ → ℕ → Mending
standing_part v m s r p =
    let g = geometry_of v in
    let w = state_view g v s p in
    let far = reaches g w s.durable p (margin g) in
    let again = mending (held s p) (renew v m s r p true) in
    cond (may_write g (entry_of s.index p) && (not far || is_stale (class_in g p w))) again (cond far whole single)

-- of a page with a durable change, in a ring: A2, M1, then that
unfoldable pub second_part : List ℕ → List ℕ → State → ℕ → ℕ → Mending
second_part v m s r p =
    let g = geometry_of v in
    let copy = mending (held s p) (renew v m s r p false) in
    cond (is_ahead (class_in g p (state_view g v s p))) ahead
    (cond (not (stands g v (entry_of s.index p) p)) copy (standing_part v m s r p))

-- what a renewal's advice comes to
abbrev pub mended_for : Bool → Upkeep → List ℕ → Mended
mended_for in_frame (upkeep.Refused n) bytes = record { mend = Refused n; payload = no_payload }
mended_for in_frame Idle bytes = record { mend = Whole; payload = no_payload }
mended_for in_frame (Stuck p) bytes = record { mend = cond in_frame Full Lost; payload = no_payload }
mended_for in_frame (upkeep.Make c) bytes = record { mend = Make c; payload = bytes }

abbrev pub mended_from : Bool → Advised → Mended
mended_from in_frame a = mended_for in_frame a.upkeep a.payload

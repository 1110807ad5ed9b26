-- A volume that was carried over, as an instance of the theorems: demand 2 at the worked histories that hold a Start, and that the same
-- pages are shown as by one in which none came.
use Prim.Native.Nat.{ℕ}
use mathlib.Core.Path.{◌≡◌, refl, sym, ◌∙◌}
use mathlib.Core.Bool.{Bool, true, false, not}
use mathlib.Core.List.{List}
use native.Mathlib.Omega.{arith}
use lib.Dec.{T}
use lib.ListN.{length}
use Rattle.model.specs.Geometry.{geometry_of}
use Rattle.model.specs.Scan.{gone}
use Rattle.model.specs.Claim.{reached, Safe}
use Rattle.cases.specs.Opened.{opened}
use Rattle.cases.specs.Worked.{history_of, Computed}
use Rattle.cases.specs.CarriedOver.{carried_histories, forgery_carried, not_carried}
use Rattle.cases_carry.proofs.Carry.{carried-worked}
use Rattle.history.proofs.Lost.{made-safe}
use Rattle.history.proofs.CarryClaims.{carry-history}
use Rattle.instances.proofs.Instances.{AllFollow, follow, AllAgree}

pub carried-instances : AllFollow carried_histories
carried-instances = follow carried_histories carried-worked

forgery-computed : Computed forgery_carried
forgery-computed = carried-worked.1.0

plain-computed : Computed not_carried
plain-computed = carried-worked.1.1.0

-- record 1 has not left
fails : (b : Bool) → T (not b) → b ≡ true → ⊥
fails true t e = t
fails false t e = let z : ◌≡◌ {A = ℕ} 0 1 = cc in omega arith

forgery-safe : Safe (history_of forgery_carried)
unfolding opened
forgery-safe z =
    absurd (fails (gone (geometry_of (reached (history_of forgery_carried)).volume) (reached (history_of forgery_carried)).volume) tt z)

plain-safe : Safe (history_of not_carried)
plain-safe = made-safe (history_of not_carried) plain-computed.legal refl refl

pub as-if-not-begun : (x y : List ℕ) → length x ≡ 256 → length y ≡ 256 → AllAgree forgery_carried not_carried x y
as-if-not-begun x y sx sy =
    carry-history.as_if_not_begun (history_of forgery_carried) (history_of not_carried) forgery-computed.legal
    plain-computed.legal refl refl refl forgery-safe plain-safe
    (forgery-computed.durable ∙ sym plain-computed.durable) x y sx sy

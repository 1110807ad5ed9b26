-- Advices told apart by computed tests.
use Prim.Native.Nat.{ℕ}
use mathlib.Core.Path.{◌≡◌, refl, ap}
use mathlib.Core.Bool.{Bool, false}
use lib.Dec.{T, eqb, eqb→eq}
use Rattle.upkeep_policy.specs.Upkeep.{Advice, idle, stuck, make, is_idle}

pub idle-is : (a : Advice) → T (is_idle a) → a ≡ idle
idle-is idle t = refl
idle-is (stuck p) t = absurd t
idle-is (make c) t = absurd t

abbrev pub stuck_at : ℕ → Advice → Bool
stuck_at p idle = false
stuck_at p (stuck q) = eqb q p
stuck_at p (make c) = false

pub stuck-is : (p : ℕ) (a : Advice) → T (stuck_at p a) → a ≡ stuck p
stuck-is p idle t = absurd t
stuck-is p (stuck q) t = ap stuck (eqb→eq q p t)
stuck-is p (make c) t = absurd t

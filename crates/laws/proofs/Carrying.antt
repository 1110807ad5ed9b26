-- A call that carries a volume over is Start, Restamp or Finish, whatever stands beside it as a payload; another is no Restamp.
use mathlib.Core.Path.{◌≡◌, refl}
use mathlib.Core.Bool.{true, false, ◌||◌}
use mathlib.Core.List.{List}
use Prim.Native.Nat.{ℕ}
use Rattle.laws.proofs.Tables.{or-neither, true-not-false}
use Rattle.model.specs.Calls.{Call, is_call}
use Rattle.model.specs.History.{is_restamp}
use Rattle.model.specs.Carry.{carries}
use Rattle.model.specs.declared.command.Command.TheVariants.{Begin, Load, Force, Write, Release, StartCarry, Restamp, FinishCarry}
use Rattle.model.specs.declared.command.Command.TheVariants.{Change, Backup, Note}

module _ (P : Call → Type 0) (start : (x : List ℕ) → P (StartCarry, x)) (restamp : (x : List ℕ) → P (Restamp, x))
    (finish : (x : List ℕ) → P (FinishCarry, x)) where
  pub carrying : (c : Call) → carries c ≡ true → P c
  carrying (StartCarry, x) o = start x
  carrying (Restamp, x) o = restamp x
  carrying (FinishCarry, x) o = finish x
  carrying (Begin page frame fill, x) o = absurd (true-not-false o refl)
  carrying (Load page frame, x) o = absurd (true-not-false o refl)
  carrying (Change page c, x) o = absurd (true-not-false o refl)
  carrying (Force, x) o = absurd (true-not-false o refl)
  carrying (Write page, x) o = absurd (true-not-false o refl)
  carrying (Backup page slot, x) o = absurd (true-not-false o refl)
  carrying (Release page, x) o = absurd (true-not-false o refl)
  carrying (Note, x) o = absurd (true-not-false o refl)

pub no-restamp : (c : Call) → carries c ≡ false → is_restamp c ≡ false
no-restamp c o = (or-neither (is_call 19 c) (is_call 20 c) (or-neither (is_call 18 c) (is_call 19 c || is_call 20 c) o).1).0

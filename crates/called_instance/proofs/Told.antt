-- Upkeep's advice for C where it is a Change, so that all eight numbers are used: P 1, B 2, L 4, N 4. The note that
-- page 1 was written comes to the front of the ring, so its first byte, 7, is put once more.
use Prim.Native.Nat.{ℕ}
use mathlib.Core.Path.{◌≡◌, refl}
use mathlib.Core.Bool.{true}
use mathlib.Core.List.{List, [], ◌∷◌, ◌++◌}
use lib.Dec.{eqb→eq}
use lib.ListN.{get_or, replicate}
use Rattle.model.specs.Tables.{first_of}
use Rattle.model.specs.History.{perform, all_allowed}
use Rattle.model.specs.Claim.{History, Legal, fresh}
use Rattle.model.specs.declared.geometry.Heading.TheVariants.{Second}
use Rattle.upkeep_policy.specs.Upkeep.{make, advise_rows, upkeep_of}
use Rattle.face.specs.Numbers.{state_of, fits}
use Rattle.face.specs.Advice.{upkeep_face}
use Rattle.called.specs.Told.{call_from}
use Rattle.called.proofs.Told.{advice-told}
use Rattle.cases.specs.Opened.{opened}
use Rattle.cases.specs.Calls.{backup, note}
use Rattle.cases.specs.Prologues.{page_written}
use Rattle.cases.specs.Rings.{put}
use Rattle.cases.specs.Worked.{history_with, makes}
use Rattle.cases.proofs.Cases.{equal}
use Rattle.cases.proofs.Tests.{holds}
use Rattle.called_instance.proofs.Machines.{face_opened, volume_of, memory_of, numbers_for}

abbrev backups : History
backups =
    history_with Second 1 2 4 4
    (page_written 2 ++ (perform (backup 1 1) ∷ perform note ∷ perform (backup 1 2) ∷ perform note ∷ []))

pub backups-legal : Legal backups
unfolding opened
backups-legal =
    record { make = eqb→eq (makes backups) 0 tt; events = holds (all_allowed (fresh backups) backups.events) tt }

abbrev v : List ℕ
v = volume_of backups

abbrev m : List ℕ
m = memory_of backups

abbrev xs : List ℕ
xs = numbers_for backups

abbrev report : List ℕ
report = replicate 8 9

fit : fits xs ≡ true
unfolding face_opened
fit = holds (fits xs) tt

taken : first_of (advise_rows v m (state_of xs) 2) ≡ 0
unfolding face_opened
taken = eqb→eq (first_of (advise_rows v m (state_of xs) 2)) 0 tt

advised : upkeep_of v m (state_of xs) 2 ≡ make (put 7)
unfolding face_opened
advised = refl

pub told : ((upkeep_face v m xs 2 report).refusal ≡ 0) × (get_or (upkeep_face v m xs 2 report).numbers 0 0 ≡ 1)
    × (call_from (upkeep_face v m xs 2 report).numbers ≡ put 7)
told = advice-told v m xs 2 report fit refl taken (put 7) advised

-- kind, call, page, no slot; put, one byte, at 0, a 7
pub numbers-told : (upkeep_face v m xs 2 report).numbers ≡ 1 ∷ 5 ∷ 1 ∷ 0 ∷ 2 ∷ 1 ∷ 0 ∷ 7 ∷ []
unfolding face_opened upkeep_face
numbers-told = equal (upkeep_face v m xs 2 report).numbers (1 ∷ 5 ∷ 1 ∷ 0 ∷ 2 ∷ 1 ∷ 0 ∷ 7 ∷ []) tt

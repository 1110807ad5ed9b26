-- What a call for C leaves alone. A Change that the log has no room for leaves all it was lent; a Force changes only
-- slot 1 of the log, bytes 528 to 591; the first call whose memory is const leaves it, and so do the last two whose
-- volume is const.
use Prim.Native.Nat.{ℕ}
use mathlib.Core.Path.{◌≡◌, refl, ap, ◌∙◌}
use mathlib.Core.Logic.{◌≢◌, inl, inr}
use mathlib.Core.Bool.{false}
use mathlib.Core.List.{List, []}
use native.Mathlib.Omega.{arith}
use lib.Dec.{eqb→eq}
use lib.ListN.{get_or}
use Rattle.model.specs.Geometry.{geometry_of}
use Rattle.model.specs.Calls.{Call, outcome_of}
use Rattle.face.specs.Numbers.{state_of}
use Rattle.face.specs.Face.{Face, told_range, faced, face_of}
use Rattle.called.specs.Unchanged.{memory_const, volume_const}
use Rattle.called.proofs.Claims.{refusals-leave, outside-unchanged, const-unchanged}
use Rattle.cases.specs.Opened.{opened}
use Rattle.cases.specs.Calls.{force, release}
use Rattle.cases.specs.Rings.{put}
use Rattle.called_instance.proofs.Machines.{face_opened, lent_report, volume_of, memory_of, numbers_for}
use Rattle.called_instance.proofs.Machines.{waiting, full}

abbrev v : List ℕ
v = volume_of waiting

abbrev m : List ℕ
m = memory_of waiting

abbrev xs : List ℕ
xs = numbers_for waiting

-- ---- a refusal leaves everything

abbrev full_face : Call → Face
full_face c = face_of c (volume_of full) (memory_of full) (numbers_for full) lent_report

no_room : (full_face (put 4)).answer ≡ 12
unfolding face_opened
no_room = eqb→eq (full_face (put 4)).answer 12 tt

pub full-left : full_face (put 4) ≡ faced 12 (numbers_for full) lent_report (memory_of full) (volume_of full)
full-left =
    refusals-leave (put 4) (volume_of full) (memory_of full) (numbers_for full) lent_report
    (λ z. omega (arith, z, no_room)) (λ z. omega (arith, z, no_room))
    ∙ ap (λ (n : ℕ). faced n (numbers_for full) lent_report (memory_of full) (volume_of full)) no_room

-- 256 is no refusal: a Force that finds nothing pending sets the report
pub nothing-pending : ((full_face force).answer ≡ 256) × ((full_face force).report ≢ lent_report)
unfolding face_opened
nothing-pending =
    (eqb→eq (full_face force).answer 256 tt, λ e. omega (arith, ap (λ (r : List ℕ). get_or r 0 0) e))

-- numbers that are no state's
no-state : (face_of force v m [] lent_report).answer ≡ 2
unfolding face_opened
no-state = eqb→eq (face_of force v m [] lent_report).answer 2 tt

pub no-state-left : face_of force v m [] lent_report ≡ faced 2 [] lent_report m v
no-state-left =
    refusals-leave force v m [] lent_report (λ z. omega (arith, z, no-state)) (λ z. omega (arith, z, no-state))
    ∙ ap (λ (n : ℕ). faced n [] lent_report m v) no-state

-- ---- bytes outside of the range

abbrev forced : List ℕ
forced = (face_of force v m xs lent_report).volume

range-is : ((told_range (geometry_of v) (outcome_of force v m (state_of xs)).stored).0 ≡ 528)
    × ((told_range (geometry_of v) (outcome_of force v m (state_of xs)).stored).1 ≡ 64)
unfolding face_opened
range-is =
    let x = told_range (geometry_of v) (outcome_of force v m (state_of xs)).stored in
    (eqb→eq x.0 528 tt, eqb→eq x.1 64 tt)

bytes-before : (get_or v 527 0 ≡ 0) × (get_or v 528 0 ≡ 1) × (get_or v 592 0 ≡ 2)
unfolding opened
bytes-before = (eqb→eq (get_or v 527 0) 0 tt, eqb→eq (get_or v 528 0) 1 tt, eqb→eq (get_or v 592 0) 2 tt)

-- the last byte of L's count, right before the range, and the first of record 2, right after it
pub byte-527 : get_or forced 527 0 ≡ 0
byte-527 = outside-unchanged force v m xs lent_report 527 (inl (omega (arith, range-is.0))) ∙ bytes-before.0

pub byte-592 : get_or forced 592 0 ≡ 2
byte-592 =
    outside-unchanged force v m xs lent_report 592 (inr (omega (arith, range-is.0, range-is.1))) ∙ bytes-before.2

-- within it record 1 is overwritten by record 3
pub byte-528 : get_or forced 528 0 ≡ 3
unfolding face_opened
byte-528 = eqb→eq (get_or forced 528 0) 3 tt

-- ---- what is const in the header

pub force-memory : (face_of force v m xs lent_report).memory ≡ m
force-memory = const-unchanged.memory force v m xs lent_report refl

pub change-volume : (face_of (put 4) v m xs lent_report).volume ≡ v
change-volume = const-unchanged.volume (put 4) v m xs lent_report refl

pub release-volume : (face_of (release 1) v m xs lent_report).volume ≡ v
release-volume = const-unchanged.volume (release 1) v m xs lent_report refl

-- one call on either side of each
pub not-const : (memory_const (put 4) ≡ false) × (volume_const force ≡ false)
not-const = (refl, refl)

-- What C gets is what the history has, at one call of each kind: a Load that repairs, whose class, start and count are
-- three different numbers; a Force that stores in slot 1 of the log; a Change that is refused; a Restart after a cut,
-- and one that is refused; a Make. Each answer, report and number is computed, and is the theorem's.
use Prim.Native.Nat.{ℕ}
use mathlib.Core.Path.{◌≡◌, refl, ap, sym, ◌∙◌}
use mathlib.Core.Logic.{◌≢◌}
use mathlib.Core.List.{List, [], ◌∷◌}
use native.Mathlib.Omega.{arith}
use lib.Dec.{eqb→eq}
use lib.ListN.{get_or, take, replicate, length-replicate}
use Rattle.model.specs.Bytes.{part}
use Rattle.model.specs.Geometry.{record_at, length_for}
use Rattle.model.specs.Item.{encode_change}
use Rattle.model.specs.State.{zero_state}
use Rattle.model.specs.Outcome.{one_item}
use Rattle.model.specs.Calls.{Call, outcome_of}
use Rattle.model.specs.Restart.{make_of}
use Rattle.model.specs.History.{off, on, perform, crash, restart, lent}
use Rattle.model.specs.Claim.{History, Legal, reached}
use Rattle.model.specs.declared.{geometry.Heading.TheVariants.Second, change.Change.TheVariants.Put}
use Rattle.model.specs.declared.answer.Repair.{Repair}
use Rattle.model.specs.declared.answer.Answer.TheVariants.{Refused, Done, Repaired}
use Rattle.model.specs.declared.answer.{Class.TheVariants.Failed, Start.TheVariants.Backup}
use Rattle.face.specs.Numbers.{numbers_of}
use Rattle.face.specs.Face.{answer_number, face_of, Restarted, restarted_of}
use Rattle.face.specs.Claim.{Holds, then, CallIs, RestartIs, made, MakeIs}
use Rattle.called.proofs.Theorem.{histories-for-c}
use Rattle.cases.specs.Opened.{opened}
use Rattle.cases.specs.Build.{memory}
use Rattle.cases.specs.Calls.{load, force}
use Rattle.cases.specs.Rings.{put}
use Rattle.cases.proofs.Cases.{equal}
use Rattle.called_instance.proofs.Machines.{face_opened, lent_report, volume_of, memory_of, state_for, numbers_for}
use Rattle.called_instance.proofs.Machines.{waiting, waiting-legal, waiting-on, full, full-legal, full-on}
use Rattle.called_instance.proofs.Machines.{released, released-legal, released-on}

-- the claim of a call at a history whose machine is on
abbrev IsAt : History → Call → Type 0
IsAt h c =
    CallIs c (volume_of h) (memory_of h) (state_for h) lent_report
    (face_of c (volume_of h) (memory_of h) (numbers_for h) lent_report) (reached (then h (perform c)))

is_at : (h : History) → Legal h → (reached h).power ≡ on (memory_of h) (state_for h) → (c : Call) → IsAt h c
is_at h legal power c =
    histories-for-c.calls h legal (volume_of h) (memory_of h) (numbers_for h)
    (record { state = state_for h; volume = refl; power = power; numbers = refl }) c lent_report refl

-- ---- a Load: Failed, from the backup, one record replayed

pub load_is : IsAt released (load 1 1)
load_is = is_at released released-legal released-on (load 1 1)

abbrev mended : Repair
mended = record { class = Failed; start = Backup; count = 1 }

load-repairs : (outcome_of (load 1 1) (volume_of released) (memory_of released) (state_for released)).answer
    ≡ Repaired mended
unfolding opened
load-repairs = refl

abbrev load_report : List ℕ
load_report = (face_of (load 1 1) (volume_of released) (memory_of released) (numbers_for released) lent_report).report

not-refused : (n : ℕ)
    → (outcome_of (load 1 1) (volume_of released) (memory_of released) (state_for released)).answer ≢ Refused n
not-refused n e =
    let z : Repaired mended ≡ Refused n = sym load-repairs ∙ e in
    let y : ◌≡◌ {A = ℕ} 0 1 = cc in
    omega arith

pub load_told : (get_or load_report 0 0 ≡ 4) × (get_or load_report 1 0 ≡ 2) × (get_or load_report 2 0 ≡ 1)
load_told = (load_is.report.told not-refused).repair.repaired mended load-repairs

pub load-report : load_report ≡ 4 ∷ 2 ∷ 1 ∷ 0 ∷ 0 ∷ []
unfolding face_opened
load-report = equal load_report (4 ∷ 2 ∷ 1 ∷ 0 ∷ 0 ∷ []) tt

-- ---- a Force: record 3, 64 bytes at 528

pub force-is : IsAt waiting force
force-is = is_at waiting waiting-legal waiting-on force

abbrev third : List ℕ
third = encode_change 3 2 1 (Put 0 1) (3 ∷ replicate 43 0)

force-stores : (outcome_of force (volume_of waiting) (memory_of waiting) (state_for waiting)).stored
    ≡ one_item (record_at 1) third
unfolding opened
force-stores = refl

force-done : (outcome_of force (volume_of waiting) (memory_of waiting) (state_for waiting)).answer ≡ Done
unfolding opened
force-done = refl

force-not-refused : (n : ℕ)
    → (outcome_of force (volume_of waiting) (memory_of waiting) (state_for waiting)).answer ≢ Refused n
force-not-refused n e =
    let z : Done ≡ Refused n = sym force-done ∙ e in
    let y : ◌≡◌ {A = ℕ} 0 1 = cc in
    omega arith

abbrev forced_report : List ℕ
forced_report = (face_of force (volume_of waiting) (memory_of waiting) (numbers_for waiting) lent_report).report

pub force-report : forced_report ≡ 0 ∷ 0 ∷ 0 ∷ 528 ∷ 64 ∷ []
unfolding face_opened
force-report = equal forced_report (0 ∷ 0 ∷ 0 ∷ 528 ∷ 64 ∷ []) tt

-- where the report says the volume of the longer history has the record
pub record-stands : part (reached (then waiting (perform force))).volume 528 64 ≡ third
record-stands =
    let told = (force-is.report.told force-not-refused).range.item (record_at 1) third force-stores in
    let at : get_or forced_report 3 0 ≡ 528 = ap (λ (r : List ℕ). get_or r 3 0) force-report in
    let size : get_or forced_report 4 0 ≡ 64 = ap (λ (r : List ℕ). get_or r 4 0) force-report in
    rw (← force-is.holds.volume, ← at, ← size) told.2

-- and the numbers are its state's: three durable, none pending
pub force-numbers : take 3 (numbers_of force-is.holds.state) ≡ 3 ∷ 0 ∷ 1 ∷ []
unfolding face_opened
force-numbers =
    ap (take 3) (sym force-is.holds.numbers)
    ∙ equal (take 3 (face_of force (volume_of waiting) (memory_of waiting) (numbers_for waiting) lent_report).state)
    (3 ∷ 0 ∷ 1 ∷ []) tt

-- ---- a Change that the log has no room for

pub change-is : IsAt full (put 4)
change-is = is_at full full-legal full-on (put 4)

refused-12 : (outcome_of (put 4) (volume_of full) (memory_of full) (state_for full)).answer ≡ Refused 12
unfolding opened
refused-12 = refl

pub change-answer : (face_of (put 4) (volume_of full) (memory_of full) (numbers_for full) lent_report).answer ≡ 12
change-answer = change-is.answer ∙ ap answer_number refused-12

pub change-report : (face_of (put 4) (volume_of full) (memory_of full) (numbers_for full) lent_report).report ≡ lent_report
change-report = change-is.report.refused 12 refused-12

-- ---- a Restart after a cut: record 3 was pending, and is lost

abbrev cut : History
cut = then waiting crash

cut-legal : Legal cut
unfolding opened
cut-legal = histories-for-c.legal waiting waiting-legal crash refl

abbrev after : List ℕ → Restarted
after m = restarted_of (reached cut).volume (lent (reached cut).power m) (replicate 360 9)

abbrev RestartAt : List ℕ → Type 0
RestartAt m =
    RestartIs (reached cut).volume (lent (reached cut).power m) (after m) (reached (then cut (restart m)))

restart-at : (m : List ℕ) → RestartAt m
restart-at m = histories-for-c.restarts cut cut-legal m (replicate 360 9) (length-replicate {A = ℕ} 360 9)

restarts : (after (memory 1)).answer ≡ 0
unfolding face_opened
restarts = eqb→eq (after (memory 1)).answer 0 tt

pub restart-holds : Holds (reached cut).volume (after (memory 1)).memory (after (memory 1)).state
    (reached (then cut (restart (memory 1))))
restart-holds = (restart-at (memory 1)).done restarts

-- two durable, none pending, one note
pub restart-numbers : take 3 (after (memory 1)).state ≡ 2 ∷ 0 ∷ 1 ∷ []
unfolding face_opened
restart-numbers = equal (take 3 (after (memory 1)).state) (2 ∷ 0 ∷ 1 ∷ []) tt

-- a memory with no room for a frame is refused, and the machine stays off
abbrev small : List ℕ
small = replicate 1279 9

no-frame : (after small).answer ≡ 2
unfolding face_opened
no-frame = eqb→eq (after small).answer 2 tt

pub stays-off : ((reached (then cut (restart small))).power ≡ off)
    × ((after small).memory ≡ lent (reached cut).power small) × ((after small).state ≡ numbers_of zero_state)
stays-off = (restart-at small).refused (λ z. omega (arith, z, no-frame))

-- ---- a Make, on as many bytes as it asks for, and on one fewer

abbrev found : ℕ → List ℕ
found n = replicate n 0xDD

made-now : answer_number (make_of Second (found (length_for 1 1 2 2)) 1 1 2 2).answer ≡ 0
unfolding opened
made-now = eqb→eq (answer_number (make_of Second (found (length_for 1 1 2 2)) 1 1 2 2).answer) 0 tt

pub make-is : MakeIs Second (found (length_for 1 1 2 2)) 1 1 2 2
make-is = histories-for-c.make Second (found (length_for 1 1 2 2)) 1 1 2 2 made-now

pub one-byte-short : (Legal (made Second (found 691) 1 1 2 2) → ⊥) × (length_for 1 1 2 2 ≡ 692)
unfolding opened
one-byte-short = (
  λ l. let a = histories-for-c.begun (made Second (found 691) 1 1 2 2) l in
      let b : answer_number (make_of Second (found 691) 1 1 2 2).answer ≡ 1 =
      eqb→eq (answer_number (make_of Second (found 691) 1 1 2 2).answer) 1 tt in
      omega (arith, a, b),
  refl,
)

-- A volume that is carried over, at the bounds: as many images left as there are, so many Restamps, and Finish when none is left; the last
-- slot keeps passing.
use Prim.Native.Nat.{ℕ}
use mathlib.Core.Path.{◌≡◌, refl, sym, ◌∙◌}
use mathlib.Core.Logic.{◌≢◌}
use mathlib.Core.Bool.{true}
use mathlib.Core.List.{List, [], ◌∷◌, ◌++◌}
use native.Mathlib.Omega.{arith}
use lib.Dec.{eqb→eq}
use lib.ListN.{replicate}
use Rattle.model.specs.Tables.{first_of}
use Rattle.model.specs.Geometry.{length_for, slot_at, geometry_of}
use Rattle.model.specs.Passes.{is_image, image_count}
use Rattle.model.specs.Refusals.{restamp_rows}
use Rattle.model.specs.Outcome.{volume_after, refusal_of}
use Rattle.model.specs.Calls.{start_carry_of, restamp_of, finish_carry_of, outcome_of}
use Rattle.model.specs.Restart.{make_of, inspect_of}
use Rattle.cases.specs.Calls.{force, backup, note, start_carry, restamp}
use Rattle.model.specs.History.{on, perform, allowed, all_allowed}
use Rattle.model.specs.Claim.{History, Legal, fresh, reached}
use Rattle.model.specs.Health.{Same}
use Rattle.model.specs.Carry.{old_count, passes_on, OnlyHeading}
use Rattle.model.specs.declared.{geometry.Heading.TheVariants.First, state.State.State}
use Rattle.model.specs.declared.answer.Answer.TheVariants.{Nothing, Done}
use Rattle.cases.specs.Opened.{opened}
use Rattle.cases.specs.Prologues.{page_written}
use Rattle.cases.specs.Carried.{does}
use Rattle.laws.proofs.Progress.{progress, drops-none}
use Rattle.history.proofs.CarryClaims.{carry-history}
use Rattle.cases.specs.Build.{memory_in}
use Rattle.cases.proofs.Tests.{holds, live, state_in}

-- P 1, B 1: page 1 written and backed up, both noted, under the first heading; then a Start. Both images are old
abbrev carrying : History
carrying =
    record {
      heading = First;
      found = replicate (length_for 1 1 4 4) 0xDD;
      pages = 1;
      slots = 1;
      records = 4;
      notes = 4;
      events =
          page_written 1 ++ does (backup 1 1 ∷ note ∷ start_carry ∷ []);
    }

abbrev v : List ℕ
v = (reached carrying).volume

abbrev m : List ℕ
m = memory_in (reached carrying).power

abbrev s : State
s = state_in (reached carrying).power

-- ---- the images left

pub all_left : old_count v s ≡ image_count (geometry_of v)
unfolding opened
all_left = eqb→eq (old_count v s) 2 tt ∙ sym (eqb→eq (image_count (geometry_of v)) 2 tt)

two-left : old_count v s ≡ 2
unfolding opened
two-left = eqb→eq (old_count v s) 2 tt

restamped : (restamp_of v m s).answer ≡ Done
unfolding opened
restamped = refl

-- Finish is too early
pub finish-refused : refusal_of (finish_carry_of v m s).answer ≡ 20
finish-refused = (progress.finish v m s).1 restamped

pub one_left : old_count (volume_after v (restamp_of v m s).stored) s ≡ 1
one_left = omega (arith, progress.lowers v m s restamped, two-left)

-- ---- when none is left

abbrev once : List ℕ
once = volume_after v (restamp_of v m s).stored

abbrev twice : List ℕ
twice = volume_after once (restamp_of once m s).stored

again : (restamp_of once m s).answer ≡ Done
unfolding opened
again = refl

none_left : old_count twice s ≡ 0
none_left = omega (arith, progress.lowers once m s again, one_left)

still-taken : first_of (restamp_rows twice m s) ≡ 0
unfolding opened
still-taken = eqb→eq (first_of (restamp_rows twice m s)) 0 tt

pub then-nothing : (restamp_of twice m s).answer ≡ Nothing
then-nothing = (progress.nothing twice m s still-taken).1 none_left

-- and Finish drops no image, that of the last slot neither
finished : refusal_of (finish_carry_of twice m s).answer ≡ 0
unfolding opened
finished = eqb→eq (refusal_of (finish_carry_of twice m s).answer) 0 tt

last-slot : is_image (geometry_of twice) (slot_at 1) ≡ true
unfolding opened
last-slot = holds (is_image (geometry_of twice) (slot_at 1)) tt

passed : passes_on twice s (slot_at 1) ≡ true
unfolding opened
passed = holds (passes_on twice s (slot_at 1)) tt

pub slot-passes : passes_on (volume_after twice (finish_carry_of twice m s).stored) s (slot_at 1) ≡ true
slot-passes = drops-none.finish twice m s finished (slot_at 1) last-slot ∙ passed

-- ---- in the history

legal : Legal carrying
unfolding opened
legal =
    record {
      make = eqb→eq (refusal_of (make_of First (replicate (length_for 1 1 4 4) 0xDD) 1 1 4 4).answer) 0 tt;
      events = holds (all_allowed (fresh carrying) carrying.events) tt;
    }

is-on : (reached carrying).power ≡ on m s
unfolding opened
is-on = live (reached carrying).power tt

heading : OnlyHeading carrying m s
heading = carry-history.heading carrying legal m s is-on

tag_is : (geometry_of v).tag ≡ 0x43
unfolding opened
tag_is = eqb→eq (geometry_of v).tag 0x43 tt

-- a second Start meets a heading not its own, and a Force is not refused for it
pub second-start : refusal_of (start_carry_of v m s).answer ≡ 1
second-start = heading.start.1 (λ e. omega (arith, tag_is, e))

pub force-takes-it : refusal_of (outcome_of force v m s).answer ≢ 1
force-takes-it = heading.others force refl

restamp-allowed : allowed (reached carrying) (perform restamp) ≡ true
unfolding opened
restamp-allowed = holds (allowed (reached carrying) (perform restamp)) tt

-- a Restamp changes no inspection, class, start and count included
pub restamp-same : (p : ℕ) (buffer : List ℕ)
    → Same (inspect_of (volume_after v (outcome_of restamp v m s).stored) p buffer) (inspect_of v p buffer)
restamp-same = carry-history.same carrying legal m s is-on restamp refl restamp-allowed

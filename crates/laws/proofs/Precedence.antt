-- The rows of every table stand in the order of the documents, and the lowest number wins.
use mathlib.Core.Path.{◌≡◌, refl}
use mathlib.Core.Bool.{Bool, true, false, ◌&&◌, ◌||◌, not}
use mathlib.Core.List.{List, [], ◌∷◌}
use Prim.Native.Nat.{ℕ, zero, suc, ◌<◌}
use native.Mathlib.Nat.{le_of_suc-le-suc, not-suc-le-zero}
use native.Mathlib.Omega.{arith}
use lib.ListN.{length, get_or}
use borrow.Author.Tests.{le-leb}
use Rattle.laws.proofs.Tables.{by_cases, and_left, and_right}
use Rattle.laws.proofs.Decided.{later}
use Rattle.model.specs.Tables.{Row}
use Rattle.model.specs.Refusals.{make_rows, restart_rows, begin_rows, load_rows, change_rows, force_rows, write_rows}
use Rattle.model.specs.Refusals.{backup_rows, release_rows, note_rows, start_carry_rows, restamp_rows, finish_carry_rows}
use Rattle.model.specs.Refusals.{inspect_rows}
use Rattle.model.specs.Calls.{Call, rows_of}
use Rattle.model.specs.declared.state.State.{State}
use Rattle.model.specs.declared.command.Command.TheVariants.{Begin, Load, Force, Write, Release, StartCarry, Restamp, FinishCarry}
use Rattle.model.specs.declared.command.Command.TheVariants.{Change, Backup, Note}
use Rattle.model.specs.Demand1.{Decides}
use Rattle.model.specs.Precedence.{Exception, excepted, precedes, precedes_all, ordered, TablesOrdered, LowestWins}

-- ---- the tables: by their numbers alone

calls-ordered : (c : Call) (v m : List ℕ) (s : State) → ordered [] (rows_of c v m s) ≡ true
unfolding begin_rows load_rows change_rows force_rows write_rows backup_rows release_rows note_rows start_carry_rows restamp_rows finish_carry_rows
calls-ordered (Begin page frame fill, _) v m s = refl
calls-ordered (Load page frame, _) v m s = refl
calls-ordered (Change page c, payload) v m s = refl
calls-ordered (Force, _) v m s = refl
calls-ordered (Write page, _) v m s = refl
calls-ordered (Backup page slot, _) v m s = refl
calls-ordered (Release page, _) v m s = refl
calls-ordered (Note, _) v m s = refl
calls-ordered (StartCarry, _) v m s = refl
calls-ordered (Restamp, _) v m s = refl
calls-ordered (FinishCarry, _) v m s = refl

pub tables-ordered : TablesOrdered
unfolding make_rows restart_rows inspect_rows
tables-ordered =
    record {
      calls = calls-ordered;
      make = λ v p b l n. refl;
      restart = λ v m. refl;
      inspect = λ v page size. refl;
    }

-- ---- the lowest wins

itself : (t : Bool) → (t || (true && not t)) ≡ true
itself true = refl
itself false = refl

precedes-itself : (es : List Exception) (n : ℕ) → precedes es n n ≡ true
precedes-itself es n = rw (le-leb n n (omega arith)) (itself (excepted es n n))

all-precede : (es : List Exception) (n : ℕ) (rs : List Row) → precedes_all es n rs ≡ true → (i : ℕ) → i < length rs
    → precedes es n (get_or rs i (false, 0)).1 ≡ true
all-precede es n [] h i l = absurd (not-suc-le-zero l)
all-precede es n (r ∷ rs) h zero l = and_left (precedes es n r.1) (precedes_all es n rs) h
all-precede es n (r ∷ rs) h (suc i) l =
    all-precede es n rs (and_right (precedes es n r.1) (precedes_all es n rs) h) i (le_of_suc-le-suc l)

-- where a row holds, the first that does decides, and comes before it
record First (es : List Exception) (rs : List Row) (k : ℕ) : Type 0 where
  number : ℕ
  decides : Decides rs number
  before : precedes es number k ≡ true

module _ (es : List Exception) (r : Row) (rs : List Row) where
  here : r.0 ≡ true → (k : ℕ) → precedes es r.1 k ≡ true → First es (r ∷ rs) k
  here t k h =
      record {
        number = r.1;
        decides = record { at = 0; within = omega arith; holds = t; number = refl; first = λ j b. absurd (not-suc-le-zero b) };
        before = h;
      }

  there : r.0 ≡ false → (k : ℕ) → First es rs k → First es (r ∷ rs) k
  there t k x = record { number = x.number; decides = later r rs x.number t x.decides; before = x.before }

first-row : (es : List Exception) (rs : List Row) → ordered es rs ≡ true → (i : ℕ) → i < length rs → (get_or rs i (false, 0)).0 ≡ true
    → First es rs (get_or rs i (false, 0)).1
first-row es [] o i l h = absurd (not-suc-le-zero l)
first-row es (r ∷ rs) o zero l h = here es r rs h r.1 (precedes-itself es r.1)
first-row es (r ∷ rs) o (suc i) l h =
    let a = precedes_all es r.1 rs in
    let k = (get_or rs i (false, 0)).1 in
    by_cases r.0 (λ t. here es r rs t k (all-precede es r.1 rs (and_left a (ordered es rs) o) i (le_of_suc-le-suc l)))
    (λ t. there es r rs t k (first-row es rs (and_right a (ordered es rs) o) i (le_of_suc-le-suc l) h))

pub lowest-wins : LowestWins
lowest-wins es rows n o b i l h =
    let x = first-row es rows o i l h in
    rw (b.only x.number x.decides) x.before

-- The claim for mending's numbers: the call that a C caller makes of the eight numbers is the one that mending names.
use Rattle.std.specs.Prelude.{ℕ, ◌≡◌, true, List, length, get_or}
use Rattle.model.specs.Tables.{first_of}
use Rattle.model.specs.Calls.{Call}
use Rattle.mend_policy.specs.Mend.{call, mend_rows, mend_of}
use Rattle.face.specs.Numbers.{state_of, fits}
use Rattle.face.specs.Mending.{mend_face}
use Rattle.called.specs.Told.{call_from}

-- where mending is not refused and names a call: kind 1, and that call
abbrev pub MendTold : Type 0
MendTold =
    (v m xs : List ℕ) (r p : ℕ) (report : List ℕ) → fits xs ≡ true → length report ≡ 8
    → first_of (mend_rows v m (state_of xs) r p) ≡ 0 → (c : Call) → mend_of v m (state_of xs) r p ≡ call c
    → ((mend_face v m xs r p report).refusal ≡ 0) × (get_or (mend_face v m xs r p report).numbers 0 0 ≡ 1)
    × (call_from (mend_face v m xs r p report).numbers ≡ c)

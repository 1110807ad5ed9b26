-- The claim for upkeep's numbers: the call that a C caller makes of the eight numbers is the one that upkeep advises.
use Rattle.std.specs.Prelude.{ℕ, ◌≡◌, true, cond, List, [], ◌∷◌, eqb, length, get_or}
use Rattle.model.specs.Tables.{first_of}
use Rattle.model.specs.Calls.{Call, no_payload}
use Rattle.model.specs.declared.command.Command.TheVariants.{Load, Force, Write}
use Rattle.model.specs.declared.command.Command.TheVariants.{Change, Backup, Note}
use Rattle.upkeep_policy.specs.Upkeep.{make, advise_rows, upkeep_of}
use Rattle.face.specs.Numbers.{state_of, fits}
use Rattle.face.specs.Arguments.{change_from, payload_from}
use Rattle.face.specs.Advice.{upkeep_face}

-- what lib/pagestore_file.c makes of them: the put has fill 0 and a payload of one byte
unfoldable pub call_from : List ℕ → Call
call_from xs =
    let n = get_or xs 1 0 in
    let page = get_or xs 2 0 in
    let put = change_from (get_or xs 4 0) (get_or xs 6 0) (get_or xs 5 0) 0 1 in
    cond (eqb n 4) (Load page (get_or xs 3 0), no_payload)
    (cond (eqb n 5) (Change page put, payload_from (get_or xs 7 0 ∷ []))
    (cond (eqb n 6) (Force, no_payload) (cond (eqb n 7) (Write page, no_payload)
    (cond (eqb n 8) (Backup page (get_or xs 3 0), no_payload) (Note, no_payload)))))

-- where upkeep is not refused and advises a call: kind 1, and that call
abbrev pub AdviceTold : Type 0
AdviceTold =
    (v m xs : List ℕ) (r : ℕ) (report : List ℕ) → fits xs ≡ true → length report ≡ 8
    → first_of (advise_rows v m (state_of xs) r) ≡ 0 → (c : Call) → upkeep_of v m (state_of xs) r ≡ make c
    → ((upkeep_face v m xs r report).refusal ≡ 0) × (get_or (upkeep_face v m xs r report).numbers 0 0 ≡ 1)
    × (call_from (upkeep_face v m xs r report).numbers ≡ c)

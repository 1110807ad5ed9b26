-- The policy's rules U3 to U5, as the code takes them: in a ring, with nothing pending.
use Rattle.std.specs.Prelude.{◌≡◌, ℕ, ◌≤◌, cond, List, leb, Option, MatchOption}
use Rattle.model.specs.Geometry.{geometry_of}
use Rattle.upkeep_policy.specs.Upkeep.{Advice, idle, reserve, first_needed_note, first_needed_log, renew_note, renew_log}
use Rattle.model.specs.declared.{geometry.Geometry.Geometry, state.State.State}

unfoldable pub ring_advice : List ℕ → List ℕ → State → ℕ → Advice
ring_advice v m s r =
    let g = geometry_of v in
    let i = first_needed_note g v s in
    let j = first_needed_log g v s in
    let by_note = renew_note v m s r i in
    let by_log = renew_log v m s r j in
    cond (leb i 2) by_note (cond (leb j (reserve g)) by_log idle)

-- the first needed of note positions 1 and 2, as the code has it: none in place of 3
abbrev pub FirstNote : Option ℕ → Geometry → List ℕ → State → Type 0
FirstNote o g v s =
    MatchOption o (first_needed_note g v s ≡ 3) (λ i. (i ≡ first_needed_note g v s) × (1 ≤ i) × (i ≤ 2))

-- What a function for C has found before it writes: its numbers, or a refusal's number.
use Rattle.std.specs.Prelude.{ℕ, List, Result, Ok, Err, ◌≡◌}
use Rattle.face.specs.Slots.{Listed}

-- what is found, over old numbers, is what is listed: a refusal leaves the numbers as they were
abbrev pub Gives : Result (List ℕ) ℕ → List ℕ → Listed → Type 0
Gives (Ok xs) old l = (0 ≡ l.refusal) × (xs ≡ l.numbers)
Gives (Err n) old l = (n ≡ l.refusal) × (old ≡ l.numbers)

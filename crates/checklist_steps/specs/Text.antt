-- When a check passes: the page was rebuilt, and two images are the same where they are compared.
use Rattle.std.specs.Prelude.{ℕ, ◌+◌, ◌-◌, Bool, true, false, ◌&&◌, List, eqb}
use Rattle.model.specs.Tables.{every}
use Rattle.model.specs.Bytes.{byte_at}
use Rattle.model.specs.Restart.{Inspected}
use Rattle.model.specs.declared.answer.Answer.{Answer}
use Rattle.model.specs.declared.answer.Answer.TheVariants.{Refused, Nothing, Done, Repaired}

-- the bytes from a place to another are the same in both
abbrev pub same_between : List ℕ → List ℕ → ℕ → ℕ → Bool
same_between a b from to = every (to - from) (λ k. eqb (byte_at a (from + k)) (byte_at b (from + k)))

-- an answer that a page was rebuilt
abbrev pub is_repaired : Answer → Bool
is_repaired (Refused n) = false
is_repaired Nothing = false
is_repaired Done = false
is_repaired (Repaired r) = true

-- Inspect rebuilt the page, with the number and the body of an earlier image of it
abbrev pub rebuilt_as : Inspected → List ℕ → Bool
rebuilt_as o image = is_repaired o.answer && same_between image o.buffer 4 252

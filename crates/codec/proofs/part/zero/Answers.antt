-- `codec::part::zero` meets its contract.
use mathlib.Core.Path.{◌≡◌, ap, ◌∙◌}
use Prim.Native.Nat.{ℕ, ◌+◌, ◌-◌, ◌≤◌}
use native.Mathlib.Omega.{arith}
use lib.Dec.{eqb, ltb}
use lib.ListN.{length}
use borrow.Author.Tests.{ltb-false}
use Rattle.laws.proofs.Tables.{or-neither}
use Rattle.codec.proofs.Runs.{last-is}
use Rattle.codec.proofs.part.zero.Goals.{Else-s-i}
use Rattle.codec.proofs.part.zero.Goals as goal

-- what the test that is left tells: eight bytes are there, and what is left is among the last eight
known : (c : goal.Else-s-i) → let n = length c.args.s.now in
    (8 ≤ n) × (n - c.past-i.result ≤ 8)
known c =
    let n = length c.args.s.now in
    let h = or-neither (ltb n 8) (ltb 8 (n - c.past-i.result)) c.if-s-i.false in
    (ltb-false n 8 h.0, ltb-false 8 _ h.1)

pub returns-then-s-i : goal.returns-then-s-i
returns-then-s-i c = c.rest.ensures ∙ (c.past-i.ensures.1 ∙ c.front.ensures.1)

pub overflow_sub-s-2 : goal.overflow_sub-s-2
overflow_sub-s-2 c = (known c).0

pub eight-requires : goal.eight-requires
eight-requires c = let h = known c in omega (arith, h.0)

pub returns : goal.returns
returns c =
    let xs = c.args.s.now in
    let p = c.past-i in
    let h = known (goal.at.returns c).Else-s-i in
    let e : length xs - 8 + 8 ≡ length xs = omega (arith, h.0) in
    ap (λ (x : ℕ). eqb x 0) c.eight.ensures
    ∙ last-is xs (length xs - 8) e p.result (omega (arith, h.1)) (p.ensures.1 ∙ c.front.ensures.1)

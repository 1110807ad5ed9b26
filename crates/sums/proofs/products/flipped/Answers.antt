-- `products::flipped`: a word less 32768 is a signed word.
use mathlib.Core.Path.{◌≡◌}
use Prim.Native.Nat.{ℕ, ◌≤◌}
use native.Mathlib.Omega.{arith}
use lib.IntN.{pos, ◌-ℤ◌}
use mir.Syntax.{w16, w32}
use mir.Val.{to_z, of_z}
use Rattle.model.specs.Bytes.{field}
use Rattle.sums.specs.Products.{Minus}
use Rattle.sums.proofs.Differences.{minus_pos, minus-fits, minus-back, minus-other, sub-minus}
use Rattle.sums.proofs.Weighed.{word-most}
use Rattle.sums.proofs.products.flipped.Goals as goal

abbrev word : goal.After-two → ℕ
word c = field 2 c.args.at c.args.s.now

most : (c : goal.After-two) → word c ≤ 65535
most c = word-most c.args.at c.args.s.now (λ i. (c.type_inv.s i).fits)

less : (c : goal.After-two) → Minus (to_z w32 c.two.result -ℤ pos 32768) (word c) 32768
less c =
    let x = c.two.result in
    let e : x ≡ word c = c.two.ensures in
    let h : word c ≤ 65535 = most c in
    minus-other (sub-minus (minus-back (minus_pos x) w32 (omega arith) (omega arith)) (minus_pos 32768)) (word c) 32768 (omega arith)

pub overflow_sub-result : goal.overflow_sub-result
overflow_sub-result c = let h = most c in minus-fits (less c) w32 (omega arith) (omega arith)

less-back : (c : goal.After-two) → Minus (to_z w32 (of_z w32 (to_z w32 c.two.result -ℤ pos 32768))) (word c) 32768
less-back c = let h = most c in minus-back (less c) w32 (omega arith) (omega arith)

pub overflow_cast-result-2 : goal.overflow_cast-result-2
overflow_cast-result-2 c = let h = most c in minus-fits (less-back c) w16 (omega arith) (omega arith)

pub returns : goal.returns
returns c = let h = most c in minus-back (less-back c) w16 (omega arith) (omega arith)

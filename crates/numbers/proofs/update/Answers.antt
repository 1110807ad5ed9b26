-- `numbers::update` meets its contract.
use mathlib.Core.Path.{◌≡◌, ◌∙◌}
use Prim.Native.Nat.{◌+◌, ◌*◌, ◌-◌}
use native.Mathlib.Omega.{arith}
use lib.ListN.{length}
use Rattle.numbers.proofs.RowLaws.{row-updated}
use borrow.Author.Rules.{rules}
use Rattle.numbers.proofs.update.Goals as goal

pub returns : goal.returns
returns c = λ t lf li eo one.
    let k = c.copy_from_slice-2 in
    let f = c.put_frames in
    let a = c.copy_from_slice in
    let h = c.head-front in
    let x = c.args in
    let five : 40 + 5 * x.row + 5 - (40 + 5 * x.row) ≡ 5 = omega arith in
    let l : length f.new.out ≡ 32 = search rules in
    row-updated t x.s x.out.now a.new.self f.new.out k.new.self x.row _ lf li eo one c.requires.1 five
    (a.ensures.after ∙ h.ensures) f.ensures l k.ensures.after

-- `codec::part::near` meets its contract. The loop keeps: the test of what is left is that of all from the place on.
use mathlib.Core.Path.{◌≡◌, sym, ◌∙◌}
use Prim.Native.Nat.{◌+◌, ◌*◌}
use native.Mathlib.Omega.{arith}
use lib.ListN.{drop}
use Rattle.model.specs.Bytes.{all_zero}
use Rattle.codec.proofs.Runs.{zero_field}
use Rattle.codec.proofs.part.near.Goals as goal

pub loop-k-preserved : goal.loop-k-preserved
loop-k-preserved c =
    let xs = c.args.s.now in
    let i = c.args.from + 16 * c.loop-k.k in
    let first = zero_field 8 i xs (omega arith) (sym c.eight.ensures ∙ c.if-eight-ne0.false) in
    let next : all_zero (drop (i + 8) xs) ≡ all_zero (drop (i + 8 + 8) xs) =
    zero_field 8 (i + 8) xs (omega arith) (sym c.eight-in-loop-k.ensures ∙ c.if-eight-ne0-2.false) in
    let e : i + 8 + 8 ≡ c.args.from + 16 * (c.loop-k.k + 1) = omega arith in
    sym (rw e at next) ∙ (sym first ∙ c.loop-k.invariant)

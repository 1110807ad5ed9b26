-- `checksum::short`: the sums of the first 12 bytes, of the blocks and of the rest.
use mathlib.Core.Path.{sym, ◌∙◌}
use Prim.Native.Nat.{◌%◌}
use native.Mathlib.Omega.{arith}
use Rattle.laws.proofs.Checksums.{checksum-end}
use Rattle.sums.proofs.checksum.short.Goals as goal

pub returns-then-s-lt14 : goal.returns-then-s-lt14
returns-then-s-lt14 c =
    let h = c.head-t in
    let t = h.result in
    c.value.ensures
    ∙ sym (checksum-end (t.a % 65535) (t.b % 65535) t.at c.args.s.now
    (omega (arith, h.ensures.headed.place, c.if-s-lt14.true)))
    ∙ h.ensures.summed.leads

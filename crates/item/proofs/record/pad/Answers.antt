-- `record::pad` writes the change's bytes, and zeros up to the checksum.
use borrow.Author.Rules.{rules}
use mathlib.Core.Path.{◌≡◌}
use native.Mathlib.Nat.{sub-zero}
use lib.ListN.{length}
use Rattle.item.proofs.Builds.{pad-is}
use Rattle.item.proofs.record.pad.Goals as goal

pub returns : goal.returns
returns c =
    let l : length c.args.payload ≡ 44 = search rules in
    pad-is c.args.dst.now c.put.new.dst c.fill.new.self c.args.payload c.args.n c.requires.0 c.requires.1 l
    (simp sub-zero at c.put.ensures) (c.fill.ensures.after (λ y e. e))

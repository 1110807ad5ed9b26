-- `record::encode`: the fields, the padded payload and the checksum make a record.
use borrow.Author.Rules.{rules}
use native.Mathlib.Omega.{arith}
use mathlib.Core.Path.{◌≡◌}
use lib.ListN.{length}
use Rattle.item.proofs.Builds.{length-few, encode-is}
use Rattle.item.proofs.record.encode.Goals as goal

pub pad-requires : goal.pad-requires
pad-requires c = (
  omega (arith, c.requires.0, c.fields.auto),
  omega (arith, length-few c.args.lsn c.args.prev c.args.page c.args.c c.describe-e.result c.describe-e.ensures c.requires.1),
)

pub returns : goal.returns
returns c =
    let l : length c.args.payload ≡ 44 = search rules in
    encode-is _ _ _ c.args.c _ c.describe-e.ensures c.requires.1 c.args.dst.now _ _ _ c.args.payload c.requires.0 l
    c.fields.ensures (rw c.from-n.ensures at c.pad.ensures) c.set.ensures

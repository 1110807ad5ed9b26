-- `append::change::alter` meets its contract.
use mathlib.Core.Path.{◌≡◌}
use native.Mathlib.Omega.{arith}
use lib.ListN.{length, length-take, length-drop}
use Rattle.append.proofs.Parts.{changed-is}
use Rattle.laws.proofs.Changes.{fits-facts}
use Rattle.model.specs.Change.{kind_of, length_of, offset_of, fill_of}
use borrow.Author.Rules.{rules}
use Rattle.append.proofs.change.alter.Goals as goal

pub apply-requires : goal.apply-requires
apply-requires c =
    let l : length c.args.payload ≡ 44 = search rules in (
      c.requires.1,
      omega (
        arith,
        l,
        (fits-facts (kind_of c.args.c) (length_of c.args.c) (offset_of c.args.c) (fill_of c.args.c)
            c.requires.1).length,
      ),
      simp (length-take, length-drop) (omega (arith, c.requires.0, c.put_u32.auto)),
    )

pub returns : goal.returns
returns c =
    let l : length c.args.payload ≡ 44 = search rules in
    changed-is c.args.x.now _ _ c.args.payload c.args.c c.args.lsn c.requires.0 c.requires.1 l c.put_u32.ensures
    c.apply.ensures

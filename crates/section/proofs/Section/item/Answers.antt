-- `section::Section::item` meets its contract.
use Prim.Native.Nat.{◌+◌, ◌*◌}
use mathlib.Core.Path.{refl}
use Rattle.laws.proofs.Parts.{part-lent}
use Rattle.section.proofs.Section.item.Goals as goal

pub returns : goal.returns
returns c =
    let s = c.args.self.now.extent in
    part-lent c.args.self.now.bytes.now (s.at + (s.size + 4) * c.args.slot) (s.size + 4) _ refl

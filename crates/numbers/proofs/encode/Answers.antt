use Rattle.numbers.proofs.NumberLaws.{head-long, covered}
use Rattle.face.specs.Numbers.{numbers_of}
use mathlib.Core.Path.{ap, ◌∙◌}
use lib.ListN.{length}
use borrow.Author.Rules.{rules}
use Rattle.numbers.proofs.encode.Goals as goal

pub returns : goal.returns
unfolding numbers_of
returns c =
    let e = c.put_entries in
    let f = c.put_frames in
    let h = c.head-front in
    let t = c.args.s in
    let ea = c.copy_from_slice.ensures.after ∙ h.ensures in
    covered c.args.out.now c.copy_from_slice.new.self f.new.out e.new.out c.requires
    (ap length ea ∙ head-long t.durable t.pending t.notes t.note) (search rules)
    ∙ rw (ea, f.ensures, e.ensures)

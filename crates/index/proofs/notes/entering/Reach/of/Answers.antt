-- `index::notes::entering::Reach::of` gives where the log's run lies.
use mathlib.Core.Path.{refl}
use native.Mathlib.Omega.{arith}
use Rattle.index.proofs.notes.entering.Reach.of.Goals as goal

pub overflow_add-result : goal.overflow_add-result
overflow_add-result c =
    let z = c.args.v.now.sized in
    omega (arith, c.record_at-at.ensures, z.pages, z.slots, z.records)

pub invariant_of-result : goal.invariant_of-result
invariant_of-result c =
    let z = c.args.v.now.sized in
    record {
      counts = c.requires;
      at_is = c.record_at-at.ensures;
      stop_is = refl;
      from_is = omega (arith, rw c.from.ensures at c.start-slot.ensures z.some);
    }

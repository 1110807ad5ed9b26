-- `index::notes::entering::Reach::near` meets its contract.
use native.Mathlib.Omega.{arith}
use Prim.Native.Nat.{◌+◌, ◌<◌}
use Rattle.index.proofs.NoteSweep.{near-on, near-back}
use Rattle.index.proofs.notes.entering.Reach.near.Goals.{Start}
use Rattle.index.proofs.notes.entering.Reach.near.Goals as goal

high : (c : Start) → let s = c.args.self.now in c.args.n < s.first + s.volume.geometry.records
high c = omega (arith, c.requires.1, c.args.self.now.counts.few)

pub returns-then-k-self : goal.returns-then-k-self
returns-then-k-self c =
    let s = c.args.self.now in
    omega (
      arith,
      s.at_is,
      near-on s.at s.volume.geometry.records s.first c.args.n s.from s.stop s.counts.some c.requires.0
          (high (goal.at.returns-then-k-self c).Start) s.from_is s.stop_is c.if-k-self.true,
    )

pub returns-else-k-self : goal.returns-else-k-self
returns-else-k-self c =
    let s = c.args.self.now in
    omega (
      arith,
      s.at_is,
      near-back s.at s.volume.geometry.records s.first c.args.n s.from s.stop s.counts.some c.requires.0
          (high (goal.at.returns-else-k-self c).Start) s.from_is s.stop_is c.if-k-self.false,
    )

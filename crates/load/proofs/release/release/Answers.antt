-- `load::release::release` is its definition: the laws of Releases.antt say what each case is.
use mathlib.Core.Path.{◌≡◌, sym}
use native.Mathlib.Omega.{arith}
use lib.ListN.{length}
use Rattle.laws.proofs.Tabulated.{length-mapped}
use borrow.Author.Rules.{rules}
use Rattle.laws.proofs.Refused.{refusal-some}
use Rattle.load.proofs.Releases.{release-refused, release-held, release-done}
use Rattle.load.proofs.release.release.Goals.{Start}
use Rattle.load.proofs.release.release.Goals as goal

-- the frame table's length
long : (c : Start) → length c.args.s.frames ≡ 16
long c = search (rules, length-mapped)

pub loaded-requires : goal.loaded-requires
loaded-requires c =
    let k = release-held c.args.volume.now c.args.memory.now c.args.s c.args.page (long (goal.at.loaded-requires c).Start) (sym c.in-Ok.ensures.refusal) in
    (omega arith, omega (arith, k.1, c.in-Ok.ensures.frame), omega (arith, k.2, c.in-Ok.ensures.frame))

pub returns-in-Err : goal.returns-in-Err
returns-in-Err c = rw c.from.ensures (release-refused _ _ _ _ _ c.in-Err.ensures.refusal (refusal-some _))

pub returns-in-Ok : goal.returns-in-Ok
returns-in-Ok c = release-done _ _ _ _ _ _ (sym c.in-Ok.ensures.refusal) c.in-Ok.ensures.frame c.loaded.ensures

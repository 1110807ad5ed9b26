-- `section::Section::guess_start` meets its contract.
use native.Mathlib.Omega.{arith}
use Rattle.section.proofs.GuessLaws.{rings, past-turn, guess-seam}
use Rattle.section.proofs.Section.guess_start.Goals as goal

pub past_torn-requires-clause-guessed : goal.past_torn-requires-clause-guessed
past_torn-requires-clause-guessed c =
    let m = c.seam-seam.ensures in
    let h = past-turn c.args.self.now.extent _ c.if-top-s.false in
    let r = rings _ c.if-s.false in
    (guess-seam _ _ _ r h c.if-top-s-ne0.false m.0 m.1 _ c.after.ensures, omega (arith, m, h.low, h.past))

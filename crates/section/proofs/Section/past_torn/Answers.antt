-- `section::Section::past_torn` meets its contract.
use Rattle.section.proofs.GuessLaws.{guess-later}
use Rattle.section.proofs.Section.past_torn.Goals as goal

pub returns : goal.returns
returns c =
    let p = c.requires in
    guess-later _ _ p.ring_value.0 p.ring_value.1 p.guessed.0 p.guessed.1 _ c.after.ensures

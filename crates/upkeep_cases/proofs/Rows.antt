-- The rows of upkeep hold, by computation.
use Rattle.cases.specs.Rows.{Hold}
use Rattle.cases.proofs.Cases.{all}
use Rattle.upkeep_cases.specs.Upkeeps.{upkeep_rows}
use Rattle.upkeep_cases.specs.Turns.{turn_rows, later_turns, lock_rows}
use Rattle.upkeep_cases.specs.Discipline.{discipline_rows}

pub upkeep-cases : Hold upkeep_rows
unfolding upkeep_rows
upkeep-cases = all upkeep_rows tt

pub turn-cases : Hold turn_rows
unfolding turn_rows
turn-cases = all turn_rows tt

pub later-turns : Hold later_turns
unfolding later_turns
later-turns = all later_turns tt

pub lock-cases : Hold lock_rows
unfolding lock_rows
lock-cases = all lock_rows tt

pub discipline-cases : Hold discipline_rows
unfolding discipline_rows
discipline-cases = all discipline_rows tt

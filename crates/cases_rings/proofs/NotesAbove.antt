-- A note above the state's count spares none: `note_needed` looks from the note that would be displaced up to the count.
-- No history reaches such a volume and state: a Restart counts to the highest number, and refuses this volume 18.
use Prim.Native.Nat.{ℕ}
use mathlib.Core.Bool.{true, false}
use mathlib.Core.List.{List, [], ◌∷◌, ◌++◌}
use lib.ListN.{replicate}
use Rattle.model.specs.Geometry.{record_at, note_at, empty_volume}
use Rattle.model.specs.Item.{encode_change}
use Rattle.model.specs.Outcome.{one_item}
use Rattle.model.specs.Restart.{restart_of}
use Rattle.model.specs.History.{on}
use Rattle.model.specs.declared.{geometry.Heading.TheVariants.Second, change.Change.TheVariants.Format}
use Rattle.cases.specs.Rows.{Row, row, Hold}
use Rattle.cases.specs.Opened.{opened}
use Rattle.cases.specs.Words.{numbers, refused, done, accepted, refusal}
use Rattle.cases.specs.Build.{written_note, backup_note, stored_in, memory}
use Rattle.cases.specs.States.{entry, none, frame, state_with}
use Rattle.cases.specs.Calls.{write, backup}
use Rattle.cases.specs.Refused.{numbers_in}
use Rattle.cases.proofs.Cases.{all}
use Rattle.model.specs.Types.{None}

-- P 1, B 1, L 4, N 3: record 1 of page 1, its written note 1, its backup note 3, and this note in slot 2
abbrev pub between : List ℕ → List ℕ
between n =
    stored_in (empty_volume Second 1 1 4 3)
    (one_item (record_at 1) (encode_change 1 0 1 (Format 7) [])
    ∷ one_item (note_at 1) (written_note 1 1 1) ∷ one_item (note_at 2) n ∷ one_item (note_at 3) (backup_note 3 1 1 1) ∷ [])

-- three notes, page 1 in a frame and dirty: a Write and a Backup, whose note would be number 4 and displace note 1
abbrev pub fourth : List ℕ → List ℕ
fourth n =
    numbers_in
    (on (replicate 1536 0) (state_with 1 0 3 None (frame 1 true) (frame 0 false) (entry 1 1 1 0 0) none none))
    (between n) (write 1 ∷ backup 1 1 ∷ [])

unfoldable pub notes_above : List Row
unfolding opened
notes_above =
    row "ring: note 1 is spare by note 2, written too" (fourth (written_note 2 1 1)) (accepted ∷ accepted ∷ [])
    ∷ row "ring: note 1 is not spare by note 5, above the state's count: 14"
    (fourth (written_note 5 1 1)) (refusal 14 ∷ refusal 14 ∷ [])
    ∷ row "ring: a Restart takes notes 1 to 3, and refuses note 5 among them: 18"
    (numbers (restart_of (between (written_note 2 1 1)) (memory 1)).answer
    ++ numbers (restart_of (between (written_note 5 1 1)) (memory 1)).answer)
    (done ++ refused 18)
    ∷ []

pub notes-above : Hold notes_above
unfolding notes_above
notes-above = all notes_above tt

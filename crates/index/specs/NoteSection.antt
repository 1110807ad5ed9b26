-- The notes as a section of a volume, and what their scan gives.
use Rattle.std.specs.Prelude.{ℕ, suc, ◌+◌, ◌-◌, Bool, cond, not, List, [], ◌∷◌, eqb, leb}
use Rattle.model.specs.Tables.{all, within}
use Rattle.model.specs.Geometry.{note_at, start, ring}
use Rattle.model.specs.Item.{note_layout, is_written}
use Rattle.model.specs.Scan.{valid_run, note_slots, note_count, first_note, note_index, note_fits}
use Rattle.model.specs.declared.{geometry.Geometry.Geometry, item.Note.Note}
use Rattle.model.specs.declared.state.Entry.{Entry}
use Rattle.section.specs.Section.{front_in}
use Rattle.section.specs.declared.Extent.{Extent}
use Rattle.section.specs.declared.Run.{Run}

abbrev pub note_section : Geometry → Extent
note_section g = record { ring = ring g; at = start g (note_at 1); size = 12; slots = g.notes }

abbrev pub note_run : Geometry → List ℕ → Run
note_run g v = record { first = first_note g v (note_count g v); count = note_count g v; front = front_in v (note_section g) }

-- the index that the log and the notes give, before a restart's last step
abbrev pub noted_index : Geometry → List ℕ → List Entry
noted_index g v = let k = note_count g v in let f = first_note g v k in note_index g v f (suc k - f)

-- the notes keep the restart rule, but for what is judged at the end
unfoldable pub notes_fit : Geometry → List ℕ → Bool
notes_fit g v =
    let k = note_count g v in
    let f = first_note g v k in
    valid_run v (note_slots g v) f k (λ i. note_fits g v (note_index g v f i) (f + i))

-- ---- a note's test, of what was read for it

-- note_follows, of its page's entry and whether its slot is in the index
abbrev pub note_after : Entry → Note → ℕ → Bool → Bool
note_after e n slots used =
    cond (is_written n) (leb e.written n.lsn)
    (all (leb e.backup n.lsn ∷ within slots n.slot ∷ not used ∷ []))

-- note_fits, of a note's fields and whether it may name its record
abbrev pub note_agrees : Bool → Note → ℕ → ℕ → ℕ → Bool → Bool → Bool
note_agrees whole n k pages durable named follows =
    all
    (whole ∷ note_layout n ∷ eqb n.number k ∷ within pages n.page ∷ within durable n.lsn ∷ named ∷ follows ∷ [])

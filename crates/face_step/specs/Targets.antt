-- Where a call stores if it stores, and the page whose row of the index it may change: what the code finds before it makes
-- the call.
use Rattle.std.specs.Prelude.{ℕ, ◌+◌, ◌%◌, Bool, true, false, cond, ◌||◌, List, [], ◌∷◌, eqb, ltb, get_or}
use Rattle.model.specs.Bytes.{field, starts_with}
use Rattle.model.specs.Geometry.{tag_of, magic_of, carry_tag, known_magic, geometry_of, valid_volume}
use Rattle.model.specs.Geometry.{Place, page_at, slot_at, log_slot, note_slot, width, start}
use Rattle.model.specs.State.{pending_bytes}
use Rattle.model.specs.Passes.{image_count, image_place, first_old}
use Rattle.model.specs.Outcome.{StoredItem, nothing, one_item, new_heading}
use Rattle.model.specs.Calls.{Call, is_call}
use Rattle.model.specs.declared.{geometry.Geometry.Geometry, geometry.Heading.TheVariants.First}
use Rattle.model.specs.declared.{state.State.State, answer.Answer.Answer}
use Rattle.model.specs.declared.command.Command.TheVariants.{Begin, Load, Force, Write, Release, StartCarry, Restamp, FinishCarry}
use Rattle.model.specs.declared.answer.Answer.TheVariants.{Refused, Nothing, Done, Repaired}
use Rattle.model.specs.declared.command.Command.TheVariants.{Change, Backup, Note}
use Rattle.reports.specs.Examine.{class_number, start_number}
use Rattle.face_step.specs.declared.range.Range.{Range}
use Rattle.model.specs.Types.{PendingNote, None, Some}

pub data Target : Type 0 where
  none : Target
  place : Place → Target
  front : Target

abbrev pub target_of : StoredItem → Target
target_of nothing = none
target_of (one_item at xs) = place at
target_of (new_heading tag) = front

abbrev pub old_target : List ℕ → State → Target
old_target v s =
    let g = geometry_of v in
    let i = first_old g v s.index in
    cond (valid_volume v) (cond (ltb i (image_count g)) (place (image_place g i)) none) none

abbrev pub target : Call → List ℕ → State → Target
target (Begin page frame fill, _) v s = none
target (Load page frame, _) v s = none
target (Change page c, payload) v s = none
target (Force, _) v s = place (log_slot (geometry_of v) (s.durable + 1))
target (Write page, _) v s = place (page_at page)
target (Backup page slot, _) v s = place (slot_at slot)
target (Release page, _) v s = none
target (Note, _) v s = place (note_slot (geometry_of v) (s.notes + 1))
target (StartCarry, _) v s = front
target (Restamp, _) v s = old_target v s
target (FinishCarry, _) v s = front

-- as the code has it: cut down to 32 bits
abbrev pub range_of : Geometry → Target → Range
range_of g none = record { at = 0; size = 0 }
range_of g (place p) = record { at = start g p % 4294967296; size = width p }
range_of g front = record { at = 0; size = 4 }

abbrev pub note_page : PendingNote → ℕ
note_page None = 0
note_page (Some n) = n.page

-- the page whose entry a call may change, by the memory, the durable count and the pending note; 0 where it changes none
abbrev pub touched : Call → List ℕ → ℕ → PendingNote → ℕ
touched (Begin page frame fill, _) m n p = page
touched (Load page frame, _) m n p = 0
touched (Change page c, _) m n p = page
touched (Force, _) m n p = field 2 8 (pending_bytes m (n + 1))
touched (Write page, _) m n p = 0
touched (Backup page slot, _) m n p = 0
touched (Release page, _) m n p = 0
touched (Note, _) m n p = note_page p
touched (StartCarry, _) m n p = 0
touched (Restamp, _) m n p = 0
touched (FinishCarry, _) m n p = 0

abbrev pub is_refused : Answer → Bool
is_refused (Refused n) = true
is_refused Nothing = false
is_refused Done = false
is_refused (Repaired r) = false

-- the five numbers of an answer that is no refusal, with the range that is told where the call is done
abbrev pub told_numbers : Answer → Range → List ℕ
told_numbers (Refused n) x = 0 ∷ 0 ∷ 0 ∷ 0 ∷ 0 ∷ []
told_numbers Nothing x = 0 ∷ 0 ∷ 0 ∷ 0 ∷ 0 ∷ []
told_numbers Done x = 0 ∷ 0 ∷ 0 ∷ x.at ∷ x.size ∷ []
told_numbers (Repaired r) x = class_number r.class ∷ start_number r.start ∷ r.count ∷ 0 ∷ 0 ∷ []

abbrev pub told : Answer → Range → List ℕ → List ℕ
told a x report = cond (is_refused a) report (told_numbers a x)

-- the heading that the call's volume must have; zeros where any will do
abbrev pub any_magic : List ℕ
any_magic = 0 ∷ 0 ∷ 0 ∷ 0 ∷ []

abbrev pub own_magic : Call → List ℕ
own_magic c =
    cond (is_call 18 c) (magic_of (tag_of First)) (cond (is_call 19 c || is_call 20 c) (magic_of carry_tag) any_magic)

-- the volume starts with a heading that the call takes
abbrev pub headed_by : List ℕ → List ℕ → Bool
headed_by own v = cond (eqb (get_or own 0 0) 0) (known_magic v) (starts_with own v)

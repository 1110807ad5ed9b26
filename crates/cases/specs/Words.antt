-- What a row finds and what it says, in words; each is a number or a list of them, so that one test compares all. A
-- word that only says is the documents' number, not a definition of `model`: a wrong definition is seen beside it.
use Rattle.std.specs.Prelude.{ℕ, Bool, true, false, List, [], ◌∷◌, ◌++◌, map}
use Rattle.reports.specs.Examine.{report_of}
use Rattle.model.specs.declared.{answer.Class.Class, answer.Start.Start, answer.Answer.Answer}
use Rattle.model.specs.declared.answer.Class.TheVariants.{Good, Behind, Stale, Failed, Ahead}
use Rattle.model.specs.declared.answer.Answer.TheVariants.{Refused, Nothing, Done, Repaired}
use Rattle.model.specs.declared.answer.Start.TheVariants.{Own, Backup, Format}

-- ---- tests

abbrev pub bit : Bool → ℕ
bit false = 0
bit true = 1

abbrev pub bits : List Bool → List ℕ
bits bs = map bit bs

-- what a test says
abbrev pub yes : ℕ
yes = 1

abbrev pub no : ℕ
no = 0

-- ---- answers

-- no two answers have the same numbers
abbrev pub numbers : Answer → List ℕ
numbers (Refused n) = 100 ∷ n ∷ []
numbers Nothing = 101 ∷ []
numbers Done = 102 ∷ []
numbers (Repaired r) = 103 ∷ report_of r

-- a page of this class, repaired from its own image, its backup or a format, and how many records were replayed
abbrev pub from_own : Class → ℕ → List ℕ
from_own c n = numbers (Repaired (record { class = c; start = Own; count = n }))

abbrev pub from_backup : Class → ℕ → List ℕ
from_backup c n = numbers (Repaired (record { class = c; start = Backup; count = n }))

abbrev pub from_format : Class → ℕ → List ℕ
from_format c n = numbers (Repaired (record { class = c; start = Format; count = n }))

abbrev pub refused : ℕ → List ℕ
refused n = numbers (Refused n)

abbrev pub done : List ℕ
done = numbers Done

abbrev pub idle : List ℕ
idle = numbers Nothing

-- the number of a refusal, where it stands alone: 0 where there is none
abbrev pub accepted : ℕ
accepted = 0

abbrev pub refusal : ℕ → ℕ
refusal n = n

-- ---- class, start and count in a report

abbrev pub class_no : Class → ℕ
class_no Good = 1
class_no Behind = 2
class_no Stale = 3
class_no Failed = 4
class_no Ahead = 5

abbrev pub start_no : Start → ℕ
start_no Own = 1
start_no Backup = 2
start_no Format = 3

abbrev pub report : Class → Start → ℕ → List ℕ
report c s n = class_no c ∷ start_no s ∷ n ∷ []

-- ---- bytes

-- a number below 256 in four bytes
abbrev pub word : ℕ → List ℕ
word n = n ∷ 0 ∷ 0 ∷ 0 ∷ []

-- a page lsn, then the first of the body
abbrev pub at_lsn : ℕ → List ℕ → List ℕ
at_lsn lsn body = word lsn ++ body

-- what inspection shows of a page after a worked history: an answer, the page lsn as a number, the first of the body
abbrev pub shown : List ℕ → ℕ → List ℕ → List ℕ
shown answer lsn body = answer ++ (lsn ∷ body)

-- ---- the index

-- an entry: the last record, the last durable one, the last written number, the backup's slot and its number
abbrev pub entered : ℕ → ℕ → ℕ → ℕ → ℕ → List ℕ
entered last durable written slot backup = last ∷ durable ∷ written ∷ slot ∷ backup ∷ []

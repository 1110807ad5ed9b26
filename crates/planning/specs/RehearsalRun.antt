-- Two kinds of reader, played through: the real calls, and the claims. States document 02, §10: "Every figure must be
-- that of the real calls made in that order on a fresh volume without damage where none is refused." The calls of an
-- event are chosen from the store's own state and the events so far, never from the model; what they stored is counted
-- from each call's item, and what they replayed from the answers of Load.
use Rattle.std.specs.Prelude.{ℕ, zero, suc, ◌+◌, ◌*◌, ◌%◌, ◌≤◌, ◌≡◌, Bool, true, false, cond, ◌||◌, not, List, [], ◌∷◌, ◌++◌, eqb, leb, length, get_or, replicate}
use Rattle.model.specs.Tables.{first_of, every}
use Rattle.model.specs.Geometry.{page_at, slot_at, record_at, note_at}
use Rattle.model.specs.Change.{fits}
use Rattle.model.specs.Item.{image_page, record_of, note_of}
use Rattle.model.specs.Index.{slot_used}
use Rattle.model.specs.Passes.{first_from}
use Rattle.model.specs.State.{frame_row, held, blank}
use Rattle.model.specs.Outcome.{StoredItem, nothing, one_item, new_heading, refusal_of}
use Rattle.model.specs.Calls.{Call, code_of, is_call, outcome_of, no_payload}
use Rattle.model.specs.Restart.{make_of}
use Rattle.model.specs.declared.{geometry.Heading.Heading, change.Change.TheVariants.Put, answer.Answer.Answer}
use Rattle.model.specs.declared.{state.Frame.Frame, state.State.State}
use Rattle.model.specs.declared.command.Command.TheVariants.{Begin, Load, Force, Write, Release}
use Rattle.model.specs.declared.answer.Answer.TheVariants.{Refused, Nothing, Done, Repaired}
use Rattle.model.specs.declared.command.Command.TheVariants.{Change as ChangeCall, Backup, Note}
use Rattle.model.specs.History.{Power, off, on, Machine, perform, restart, step, is_on, fresh_machine}
use Rattle.planning.specs.Rehearsal.{access_of, page_in, victim_written, no_figures, page_row, set_row, with_load}
use Rattle.planning.specs.Rehearsal.{with_record, one_image, one_backup, one_note, rehearsal_rows, rehearsal_of}
use Rattle.planning.specs.Rehearsal.{total_of}
use Rattle.planning.specs.declared.rehearsal.Settings.{Settings}
use Rattle.planning.specs.declared.rehearsal.Access.{Access}
use Rattle.planning.specs.declared.rehearsal.Access.TheVariants.{Read, Change}
use Rattle.planning.specs.declared.rehearsal.Figures.{Figures}

-- ---- what the settings leave open

-- what the caller gives with an event: the fill of a begin, the put of a later change, the slot of a backup
pub record Choice : Type 0 where
  pub fill : ℕ
  pub offset : ℕ
  pub length : ℕ
  pub payload : List ℕ
  pub slot : ℕ

-- the choices: at each event, counted from 1, by the state that it finds
abbrev pub Choices : Type 0
Choices = ℕ → State → Choice

-- ---- from the events so far, the newest first

-- how many of them changed page p
unfoldable pub changes_of : ℕ → List ℕ → ℕ
changes_of p [] = 0
changes_of p (e ∷ es) = count_one (access_of e) + changes_of p es
  where
    count_one : Access → ℕ
    count_one (Read q) = 0
    count_one (Change q) = cond (eqb q p) 1 0

-- the last of them that is of page p, counted from 1; 0 if none is. While a page is in a frame every event of it uses
-- that frame, so this is also the frame's last use; page 0, which an empty frame has, is in no event
unfoldable pub last_use : ℕ → List ℕ → ℕ
last_use p [] = 0
last_use p (e ∷ es) = cond (eqb (page_in (access_of e)) p) (suc (length es)) (last_use p es)

-- the row, counted from 0, of the least recently used of the first n frames: the first that none was used before
abbrev pub use_of : List ℕ → State → ℕ → ℕ
use_of past s i = last_use (frame_row s i).page past

unfoldable pub victim_row : ℕ → List ℕ → State → ℕ
victim_row n past s = first_from n (λ i. every n (λ j. leb (use_of past s i) (use_of past s j))) 0

-- ---- the calls of an event

-- a frame's page makes way: a dirty one is "either written and noted or let go"; a clean one leaves by the Load or
-- Begin itself
abbrev pub eviction_calls : Settings → Frame → List Call
eviction_calls t x =
    cond x.dirty
    (cond (victim_written t.victim) ((Write x.page, no_payload) ∷ (Note, no_payload) ∷ []) ((Release x.page, no_payload) ∷ [])) []

-- page p is brought into the victim's frame: by its Begin, which is its first change, or by a Load
unfoldable pub bring_in : Settings → Choice → List ℕ → State → ℕ → List Call
bring_in t c past s p =
    let i = victim_row t.frames past s in
    eviction_calls t (frame_row s i) ++ (cond (blank s p) (Begin p (suc i) c.fill, no_payload) (Load p (suc i), no_payload) ∷ [])

-- "a backup of a page, noted at once, after every k of its changes": n of them with this one
abbrev pub back_up : Settings → Choice → ℕ → ℕ → List Call
back_up t c p n = cond (eqb (n % t.every) 0) ((Backup p c.slot, no_payload) ∷ (Note, no_payload) ∷ []) []

unfoldable pub calls_of : Settings → Choice → List ℕ → State → Access → List Call
calls_of t c past s (Read p) = cond (blank s p || held s p) [] (bring_in t c past s p)
calls_of t c past s (Change p) =
    cond (held s p) [] (bring_in t c past s p)
    ++ (cond (blank s p) [] ((ChangeCall p (Put c.offset c.length), c.payload) ∷ [])
    ++ ((Force, no_payload) ∷ back_up t c p (suc (changes_of p past))))

-- ---- what is counted

-- of an item that a call stored: its sort is its place's, its page is its place's or the one that it names
abbrev pub stored_count : StoredItem → List Figures → List Figures
stored_count nothing fs = fs
stored_count (one_item (page_at p) xs) fs = set_row fs p (one_image (page_row fs p))
stored_count (one_item (slot_at b) xs) fs = let p = image_page xs in set_row fs p (one_backup (page_row fs p))
stored_count (one_item (record_at n) xs) fs = let p = (record_of xs).page in set_row fs p (with_record (page_row fs p))
stored_count (one_item (note_at n) xs) fs = let p = (note_of xs).page in set_row fs p (one_note (page_row fs p))
stored_count (new_heading tag) fs = fs

-- of a Load's answer
abbrev pub load_count : ℕ → Answer → List Figures → List Figures
load_count p (Refused n) fs = fs
load_count p Nothing fs = fs
load_count p Done fs = fs
load_count p (Repaired r) fs = set_row fs p (with_load (page_row fs p) r.count)

abbrev pub answer_count : Call → Answer → List Figures → List Figures
answer_count c a fs = cond (is_call 4 c) (load_count (get_or (code_of c.0) 1 0) a fs) fs

-- ---- the run

-- the store and what was counted; whether some call was refused
pub record Played : Type 0 where
  pub machine : Machine
  pub figures : List Figures
  pub refused : Bool

abbrev pub answered : Power → List ℕ → Call → List Figures → Bool → List Figures × Bool
answered off v c fs b = (fs, true)
answered (on m s) v c fs b =
    let o = outcome_of c v m s in
    (answer_count c o.answer (stored_count o.stored fs), b || not (eqb (refusal_of o.answer) 0))

unfoldable pub play_call : Played → Call → Played
play_call r c =
    let w = r.machine in
    let a = answered w.power w.volume c r.figures r.refused in
    record { machine = step w (perform c); figures = a.0; refused = a.1 }

unfoldable pub play_calls : Played → List Call → Played
play_calls r [] = r
play_calls r (c ∷ cs) = play_calls (play_call r c) cs

-- the calls that an event makes in a machine; none where it is off
abbrev pub calls_in : Power → Settings → Choices → List ℕ → Access → List Call
calls_in off t choices past a = []
calls_in (on m s) t choices past a = calls_of t (choices (suc (length past)) s) past s a

unfoldable pub play_events : Settings → Choices → List ℕ → Played → List ℕ → Played
play_events t choices past r [] = r
play_events t choices past r (e ∷ es) =
    play_events t choices (e ∷ past) (play_calls r (calls_in r.machine.power t choices past (access_of e))) es

-- what Make is given, and the memory that the Restart after it is lent
pub record Site : Type 0 where
  pub heading : Heading
  pub found : List ℕ
  pub pages : ℕ
  pub slots : ℕ
  pub records : ℕ
  pub notes : ℕ
  pub memory : List ℕ

-- "a fresh volume", restarted; Make and Restart are not counted
unfoldable pub restarted_site : Site → Played
restarted_site x =
    let w = step (fresh_machine x.heading x.found x.pages x.slots x.records x.notes)
    (restart x.memory) in
    record { machine = w; figures = replicate 64 no_figures; refused = not (is_on w.power) }

unfoldable pub real_run : Site → Settings → Choices → List ℕ → Played
real_run x t choices events = play_events t choices [] (restarted_site x) events

-- ---- the claims

-- a site that Make takes and whose memory has the settings' frames; events and settings that are not 25; and payloads
-- of 44 bytes
pub record Tried (x : Site) (t : Settings) (choices : Choices) (events : List ℕ) : Type 0 where
  pub make : refusal_of (make_of x.heading x.found x.pages x.slots x.records x.notes).answer ≡ 0
  pub memory : length x.memory ≡ 1024 + 256 * t.frames
  pub taken : first_of (rehearsal_rows events t) ≡ 0
  pub payloads : (i : ℕ) (s : State) → length (choices i s).payload ≡ 44

-- "Every figure must be that of the real calls made in that order on a fresh volume without damage where none is
-- refused": under either heading, for any counts, fills, puts and slots. Every beginning of a list is a list, so it
-- holds after each event
abbrev pub SameFigures : Type 0
SameFigures =
    (x : Site) (t : Settings) (choices : Choices) (events : List ℕ) → Tried x t choices events
    → (real_run x t choices events).refused ≡ false → (real_run x t choices events).figures ≡ (rehearsal_of events t).pages

-- the lowest slot that is in no entry
abbrev pub free_slot : State → ℕ
free_slot s = suc (first_from 128 (λ i. not (slot_used (suc i) s.index)) 0)

-- how many of the first n pages were backed up
unfoldable pub backed_up : List Figures → ℕ → ℕ
backed_up pages zero = 0
backed_up pages (suc n) = backed_up pages n + cond (eqb (page_row pages (suc n)).backups 0) 0 1

-- room for all that the model stores: each page that is changed, a slot for each page that is backed up and one more,
-- its records and its notes; the lowest free slot is taken, and puts obey their rule
pub record Roomy (x : Site) (t : Settings) (choices : Choices) (events : List ℕ) : Type 0 where
  pub pages : (p : ℕ) → 1 ≤ (page_row (rehearsal_of events t).pages p).records → p ≤ x.pages
  pub slots : backed_up (rehearsal_of events t).pages 64 + 1 ≤ x.slots
  pub records : (total_of (rehearsal_of events t).pages 64).records ≤ x.records
  pub notes : (total_of (rehearsal_of events t).pages 64).notes ≤ x.notes
  pub lowest-slot : (i : ℕ) (s : State) → (choices i s).slot ≡ free_slot s
  pub puts : (i : ℕ) (s : State) → fits (Put (choices i s).offset (choices i s).length) ≡ true

-- then no call is refused: so the claim above is about every list, given the room
abbrev pub EnoughRoom : Type 0
EnoughRoom =
    (x : Site) (t : Settings) (choices : Choices) (events : List ℕ)
    → Tried x t choices events → Roomy x t choices events
    → (real_run x t choices events).refused ≡ false

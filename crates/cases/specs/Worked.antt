-- A worked history: each event with what it answers, what the history kept, and what inspection then shows of each
-- page. `computes` tests it; `Computed` is what the test shows.
use Rattle.std.specs.Prelude.{ℕ, zero, suc, ◌≡◌, Bool, true, false, cond, ◌&&◌, not, List, [], ◌∷◌, ◌++◌, map, eqb, length, replicate, take}
use Prim.Native.String.{String}
use Rattle.model.specs.Bytes.{bytes_of, part}
use Rattle.model.specs.Geometry.{length_for}
use Rattle.model.specs.Change.{kind_of, length_of, offset_of, fill_of}
use Rattle.model.specs.Item.{image_lsn, image_body}
use Rattle.model.specs.Outcome.{StoredItem, volume_after, refusal_of}
use Rattle.model.specs.Calls.{Call, outcome_of}
use Rattle.model.specs.Restart.{make_of, inspect_of, restart_of}
use Rattle.model.specs.AbstractLog.{Logged, AbstractLog, empty_log, last_place, replay, forget, step_call}
use Rattle.model.specs.History.{Power, off, on, Machine, Event, restart, perform, crash, crash_in, damage, past_after}
use Rattle.model.specs.History.{lent, step, allowed, step_log}
use Rattle.model.specs.Claim.{History, Legal, fresh, reached, durable_of}
use Rattle.model.specs.declared.{geometry.Heading.Heading, answer.Answer.Answer}
use Rattle.model.specs.declared.answer.Answer.TheVariants.{Refused, Nothing, Done, Repaired}
use Rattle.cases.specs.Rows.{same}
use Rattle.cases.specs.Words.{numbers}
use Rattle.cases.specs.Build.{buffer, asked}

-- an event and what it answers; a crash and damage answer nothing
pub record Told : Type 0 where
  pub event : Event
  pub answer : List ℕ

abbrev pub told : Event → List ℕ → Told
told e a = record { event = e; answer = a }

abbrev pub quiet : Event → Told
quiet e = told e []

pub record Worked : Type 0 where
  pub name : String
  pub heading : Heading
  pub pages : ℕ
  pub slots : ℕ
  pub records : ℕ
  pub notes : ℕ
  pub events : List Told
  pub durable : List Logged
  pub shows : List (List ℕ)

-- a history under a heading with these counts, whose Make found other bytes than zeros
abbrev pub history_with : Heading → ℕ → ℕ → ℕ → ℕ → List Event → History
history_with h p b l n es =
    record {
      heading = h;
      found = replicate (length_for p b l n) 0xDD;
      pages = p;
      slots = b;
      records = l;
      notes = n;
      events = es;
    }

abbrev pub history_of : Worked → History
history_of w = history_with w.heading w.pages w.slots w.records w.notes (map (λ t. t.event) w.events)

-- ---- what is found

-- lists joined, each behind its length, so that no border is lost
abbrev pub joined : List (List ℕ) → List ℕ
joined [] = []
joined (xs ∷ xss) = length xs ∷ (xs ++ joined xss)

abbrev pub answer_to : Machine → Event → List ℕ
answer_to w (restart m) = numbers (restart_of w.volume (lent w.power m)).answer
answer_to w (perform c) = asked w c
answer_to w crash = []
answer_to w (crash_in c l) = []
answer_to w (damage at xs) = []

abbrev pub answers_of : Machine → List Event → List (List ℕ)
answers_of w [] = []
answers_of w (e ∷ es) = answer_to w e ∷ answers_of (step w e) es

abbrev pub is_refused : Answer → Bool
is_refused (Refused n) = true
is_refused Nothing = false
is_refused Done = false
is_refused (Repaired r) = false

-- an event's machine, abstract log and answer, from one outcome: `step`, `step_log` and `answer_to` each compute it again
pub record Step : Type 0 where
  pub machine : Machine
  pub log : AbstractLog
  pub answer : List ℕ

abbrev pub restart_step : List ℕ → List ℕ → List StoredItem → AbstractLog → Step
restart_step v m past b =
    let o = restart_of v m in
    let r = is_refused o.answer in
    record {
      machine = record { volume = v; power = cond (not r) (on o.memory o.state) off; past = past };
      log = cond (not r) (forget b) b;
      answer = numbers o.answer;
    }

abbrev pub call_step : Power → List ℕ → Call → List StoredItem → AbstractLog → Step
call_step off v c past b = record { machine = record { volume = v; power = off; past = past }; log = b; answer = [] }
call_step (on m s) v c past b =
    let o = outcome_of c v m s in
    record {
      machine = record {
        volume = volume_after v o.stored;
        power = on o.memory o.state;
        past = past_after c v o.stored past;
      };
      log = cond (is_refused o.answer) b (step_call b c);
      answer = numbers o.answer;
    }

abbrev pub event_step : Machine → AbstractLog → Event → Step
event_step w b (restart m) = restart_step w.volume (lent w.power m) w.past b
event_step w b (perform c) = call_step w.power w.volume c w.past b
event_step w b crash = record { machine = step w crash; log = step_log w b crash; answer = [] }
event_step w b (crash_in c l) = record { machine = step w (crash_in c l); log = step_log w b (crash_in c l); answer = [] }
event_step w b (damage at xs) = record { machine = step w (damage at xs); log = step_log w b (damage at xs); answer = [] }

-- all that a history leaves, in one pass: that its events are allowed, their answers, the machine and the abstract log
pub record Tale : Type 0 where
  pub ok : Bool
  pub answers : List (List ℕ)
  pub machine : Machine
  pub log : AbstractLog

abbrev pub tale_from : Machine → AbstractLog → List Event → Tale
tale_from w b [] = record { ok = true; answers = []; machine = w; log = b }
tale_from w b (e ∷ es) =
    let s = event_step w b e in
    let rest = tale_from s.machine s.log es in
    record {
      ok = cond (allowed w e) rest.ok false;
      answers = s.answer ∷ rest.answers;
      machine = rest.machine;
      log = rest.log;
    }

abbrev pub tale_of : History → Tale
tale_of h = tale_from (fresh h) empty_log h.events

-- a change in the log: its page, kind, length, offset, fill and bytes
abbrev pub logged_numbers : Logged → List ℕ
logged_numbers c =
    c.page ∷ kind_of c.change ∷ length_of c.change ∷ offset_of c.change ∷ fill_of c.change ∷ c.bytes

-- what inspection shows: the answer; where a page is repaired, its number and the first of its body
abbrev pub seen : Answer → List ℕ → List ℕ
seen (Refused n) x = numbers (Refused n)
seen Nothing x = numbers Nothing
seen Done x = numbers Done
seen (Repaired r) x = numbers (Repaired r) ++ (image_lsn x ∷ take 6 (image_body x))

abbrev pub page_seen : List ℕ → ℕ → List ℕ
page_seen v p = let i = inspect_of v p buffer in seen i.answer i.buffer

abbrev pub pages_seen : ℕ → ℕ → List ℕ → List (List ℕ)
pages_seen zero p v = []
pages_seen (suc n) p v = page_seen v p ∷ pages_seen n (suc p) v

-- demand 2 of page p of a volume: 7 where it is blank, else the replay's number and body, all of it
abbrev pub replays : List ℕ → List Logged → ℕ → Bool
replays v durable p =
    let i = inspect_of v p buffer in
    let n = last_place p durable in
    cond (eqb n 0) (eqb (refusal_of i.answer) 7)
    (eqb (refusal_of i.answer) 0 && same (part i.buffer 4 248) (bytes_of 4 n ++ replay p durable))

abbrev pub all_replay : ℕ → List ℕ → List Logged → Bool
all_replay zero v durable = true
all_replay (suc n) v durable = replays v durable (suc n) && all_replay n v durable

-- ---- the test and the statement

abbrev pub makes : History → ℕ
makes h = refusal_of (make_of h.heading h.found h.pages h.slots h.records h.notes).answer

abbrev pub answers : History → List ℕ
answers h = joined (answers_of (fresh h) h.events)

abbrev pub says_answers : Worked → List ℕ
says_answers w = joined (map (λ t. t.answer) w.events)

abbrev pub same_changes : List Logged → List Logged → Bool
same_changes [] [] = true
same_changes [] (d ∷ ds) = false
same_changes (c ∷ cs) [] = false
same_changes (c ∷ cs) (d ∷ ds) = same (logged_numbers c) (logged_numbers d) && same_changes cs ds

abbrev pub pages_of : Worked → List ℕ → List ℕ
pages_of w v = joined (pages_seen w.pages 1 v)

-- what is made of a history, beside what the worked one says
abbrev pub agrees : Worked → Tale → Bool
agrees w t =
    t.ok && (same (joined t.answers) (says_answers w) && (same_changes t.log.durable w.durable
    && (same (pages_of w t.machine.volume) (joined w.shows)
    && all_replay w.pages t.machine.volume t.log.durable)))

abbrev pub computes : Worked → Bool
computes w = eqb (makes (history_of w)) 0 && agrees w (tale_of (history_of w))

abbrev pub all_compute : List Worked → Bool
all_compute [] = true
all_compute (w ∷ ws) = computes w && all_compute ws

pub record Computed (w : Worked) : Type 0 where
  pub legal : Legal (history_of w)
  pub answers : answers (history_of w) ≡ says_answers w
  pub durable : durable_of (history_of w) ≡ w.durable
  pub pages : pages_of w (reached (history_of w)).volume ≡ joined w.shows
  pub replay : all_replay w.pages (reached (history_of w)).volume (durable_of (history_of w)) ≡ true

abbrev pub AllComputed : List Worked → Type 0
AllComputed [] = Unit
AllComputed (w ∷ ws) = Computed w × AllComputed ws

-- Two kinds of reader, played through: the model. States document 02, §10: "A list of at most 1,024 events, each a read
-- or a change of a page, is played step by step on a small model. Its settings are the frame count, the least recently
-- used frame as victim, a force after each change, a dirty victim either written and noted or let go as in §5, and a
-- backup of a page, noted at once, after every k of its changes"; "It reports loads, stores by sort and records
-- replayed, in total and per page." The real calls that it stands for are in `RehearsalRun`.
use Rattle.std.specs.Prelude.{ℕ, zero, suc, ◌+◌, ◌-◌, ◌%◌, Bool, true, false, cond, ◌&&◌, ◌||◌, not, List, [], ◌∷◌, eqb, leb, ltb, length, get_or, set, replicate}
use Rattle.model.specs.Tables.{Row, first_of, within}
use Rattle.model.specs.declared.answer.Answer.TheVariants.{Refused, Done}
use Rattle.planning.specs.declared.rehearsal.Victim.{Victim}
use Rattle.planning.specs.declared.rehearsal.Victim.TheVariants.{Written, Released}
use Rattle.planning.specs.declared.rehearsal.Settings.{Settings}
use Rattle.planning.specs.declared.rehearsal.Access.{Access}
use Rattle.planning.specs.declared.rehearsal.Access.TheVariants.{Read, Change}
use Rattle.planning.specs.declared.rehearsal.FrameUse.{FrameUse}
use Rattle.planning.specs.declared.rehearsal.Figures.{Figures}
use Rattle.planning.specs.declared.rehearsal.Totals.{Totals}
use Rattle.planning.specs.declared.rehearsal.Rehearsal.{Rehearsal}
use Rattle.planning.specs.declared.rehearsal.Rehearsed.{Rehearsed}

-- ---- events and settings

-- an event is a byte: below 128 a read of page e, else a change of page e − 128
unfoldable pub access_of : ℕ → Access
access_of e = cond (ltb e 128) (Read e) (Change (e - 128))

abbrev pub page_in : Access → ℕ
page_in (Read p) = p
page_in (Change p) = p

-- the settings: "frames", "k", and the victim
abbrev pub settings : ℕ → ℕ → Victim → Settings
settings frames every victim = record { frames = frames; every = every; victim = victim }

abbrev pub victim_written : Victim → Bool
victim_written Written = true
victim_written Released = false

-- ---- the figures of a page

abbrev pub no_figures : Figures
no_figures = record { loads = 0; records = 0; images = 0; backups = 0; notes = 0; replayed = 0 }

-- page p's row, and the rows with another one for page p
abbrev pub page_row : List Figures → ℕ → Figures
page_row pages p = get_or pages (p - 1) no_figures

abbrev pub set_row : List Figures → ℕ → Figures → List Figures
set_row pages p r = set pages (p - 1) r

-- a page's figures, each by its function: loads, log records, page images, backup images, notes, records replayed
abbrev pub each : (ℕ → ℕ) → (ℕ → ℕ) → (ℕ → ℕ) → (ℕ → ℕ) → (ℕ → ℕ) → (ℕ → ℕ) → Figures → Figures
each loads records images backups notes replayed r =
    record {
      loads = loads r.loads;
      records = records r.records;
      images = images r.images;
      backups = backups r.backups;
      notes = notes r.notes;
      replayed = replayed r.replayed;
    }

abbrev pub same : ℕ → ℕ
same = λ n. n

abbrev pub more : ℕ → ℕ → ℕ
more k = λ n. n + k

-- one load, with so many records replayed; one log record; one page image, one backup image, one note
abbrev pub with_load : Figures → ℕ → Figures
with_load r n = each (more 1) same same same same (more n) r

abbrev pub with_record : Figures → Figures
with_record r = each same (more 1) same same same same r

abbrev pub one_image : Figures → Figures
one_image r = each same same (more 1) same same same r

abbrev pub one_backup : Figures → Figures
one_backup r = each same same same (more 1) same same r

abbrev pub one_note : Figures → Figures
one_note r = each same same same same (more 1) same r

-- a page image or a backup image with its note
abbrev pub with_image : Figures → Figures
with_image r = one_note (one_image r)

abbrev pub with_backup : Figures → Figures
with_backup r = one_note (one_backup r)

-- ---- the frames

abbrev pub unused : FrameUse
unused = record { page = 0; used = 0; dirty = false }

-- row i, counted from 0
abbrev pub use_row : List FrameUse → ℕ → FrameUse
use_row fs i = get_or fs i unused

-- of the first n frames: the one that holds page p, counted from 1; 0 if none does
unfoldable pub holding : List FrameUse → ℕ → ℕ → ℕ
holding fs p zero = 0
holding fs p (suc n) = cond (eqb (use_row fs n).page p) (suc n) (holding fs p n)

-- and the row, counted from 0, of the least recently used, the first of them; an empty one was never used, so that
-- "Empty frames are filled first"
unfoldable pub least_used : List FrameUse → ℕ → ℕ
least_used fs zero = 0
least_used fs (suc n) = let f = least_used fs n in cond (ltb (use_row fs n).used (use_row fs f).used) n f

-- ---- a step

-- the figures once row f's page makes way: "a dirty victim either written and noted or let go"
unfoldable pub evicted : Settings → Rehearsal → ℕ → List Figures
evicted t m f =
    let x = use_row m.frames f in
    cond (victim_written t.victim && x.dirty)
    (set_row m.pages x.page (with_image (page_row m.pages x.page))) m.pages

-- what a load of a page with n changes replays: nothing of one that was written when it left; of one that was let go
-- its changes since its last backup, which stands at the last multiple of k
abbrev pub replayed_by : Settings → ℕ → ℕ
replayed_by t n = cond (victim_written t.victim) 0 (n % t.every)

-- the figures once page p is brought in: a load, but for its begin
unfoldable pub brought_in : Settings → List Figures → ℕ → List Figures
brought_in t pages p =
    let r = page_row pages p in
    cond (eqb r.records 0) pages (set_row pages p (with_load r (replayed_by t r.records)))

-- event i uses row f, which holds page p: found there, or brought there in place of the victim. A page that is loaded
-- is dirty where victims are let go: its image on disk is old
abbrev pub found_in : ℕ → Rehearsal → ℕ → Bool → ℕ → Rehearsal
found_in i m p change f =
    record {
      frames = set m.frames f (record { page = p; used = i; dirty = change || (use_row m.frames f).dirty });
      pages = m.pages;
    }

abbrev pub missing : Settings → ℕ → Rehearsal → ℕ → Bool → ℕ → Rehearsal
missing t i m p change f =
    record {
      frames = set m.frames f (record { page = p; used = i; dirty = change || not (victim_written t.victim) });
      pages = brought_in t (evicted t m f) p;
    }

unfoldable pub touched : Settings → ℕ → Rehearsal → ℕ → Bool → Rehearsal
touched t i m p change =
    let h = holding m.frames p t.frames in
    cond (ltb 0 h) (found_in i m p change (h - 1)) (missing t i m p change (least_used m.frames t.frames))

-- a page's figures with one change more: "a force after each change", "a backup of a page, noted at once, after every k
-- of its changes"
unfoldable pub with_change : ℕ → Figures → Figures
with_change k r = let x = with_record r in cond (eqb (x.records % k) 0) (with_backup x) x

unfoldable pub changed : Settings → Rehearsal → ℕ → Rehearsal
changed t m p =
    record { frames = m.frames; pages = set_row m.pages p (with_change t.every (page_row m.pages p)) }

-- "A page's first change is its begin, later ones are puts; a read before that does nothing"
unfoldable pub step_on : Settings → ℕ → Rehearsal → Access → Rehearsal
step_on t i m (Read p) = cond (eqb (page_row m.pages p).records 0) m (touched t i m p false)
step_on t i m (Change p) = changed t (touched t i m p true) p

-- ---- a whole list

-- the events behind the first i
unfoldable pub play_from : Settings → ℕ → Rehearsal → List ℕ → Rehearsal
play_from t i m [] = m
play_from t i m (e ∷ es) = play_from t (suc i) (step_on t (suc i) m (access_of e)) es

unfoldable pub idle : Rehearsal
idle = record { frames = replicate 16 unused; pages = replicate 64 no_figures }

-- every event's page is 1 to 64, a read's too
unfoldable pub pages_fit : List ℕ → Bool
pages_fit [] = true
pages_fit (e ∷ es) = within 64 (page_in (access_of e)) && pages_fit es

-- "25, over 1,024 events, frames not 1 to 16, k out of range or a page not 1 to 64, before all others"
unfoldable pub rehearsal_rows : List ℕ → Settings → List Row
rehearsal_rows events t =
    (not (leb (length events) 1024), 25) ∷ (not (within 16 t.frames), 25) ∷ (not (within 255 t.every), 25)
    ∷ (not (pages_fit events), 25) ∷ []

unfoldable pub rehearsal_of : List ℕ → Settings → Rehearsed
rehearsal_of events t =
    let no = first_of (rehearsal_rows events t) in
    cond (eqb no 0) (record { answer = Done; pages = (play_from t 0 idle events).pages })
    (record { answer = Refused no; pages = replicate 64 no_figures })

-- ---- in total

abbrev pub plus : Totals → Figures → Totals
plus a r =
    record {
      loads = a.loads + r.loads;
      records = a.records + r.records;
      images = a.images + r.images;
      backups = a.backups + r.backups;
      notes = a.notes + r.notes;
      replayed = a.replayed + r.replayed;
    }

-- the sum of the first n rows
unfoldable pub total_of : List Figures → ℕ → Totals
total_of pages zero = record { loads = 0; records = 0; images = 0; backups = 0; notes = 0; replayed = 0 }
total_of pages (suc n) = plus (total_of pages n) (get_or pages n no_figures)

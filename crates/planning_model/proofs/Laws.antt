-- The steps of the definitions, over plain variables, as the code takes them.
use Rattle.std.specs.Prelude.{Option, None, Some, MatchOption}
use Prim.Native.Nat.{ℕ, zero, suc, ◌+◌, ◌-◌, ◌%◌, ◌≤◌, ◌<◌}
use mathlib.Core.Path.{◌≡◌, refl, sym, ap, ◌∙◌}
use mathlib.Core.Bool.{Bool, true, false, cond, not, ◌&&◌, ◌||◌}
use mathlib.Core.List.{List}
use native.Mathlib.Omega.{arith}
use native.Mathlib.Nat.{mod-le, sub-zero}
use native.Mathlib.Numerals.{add-one}
use lib.Dec.{eqb, leb, ltb}
use lib.ListN.{length, get_or, set, take, drop, replicate, drop_of_length-le}
use lib.Seq.{drop-cons, set_out, length-take-le, get_or-take}
use borrow.Author.Tests.{eq-eqb, ne_eqb, lt-ltb, le-ltb, leb-true, not-false}
use Rattle.laws.proofs.Tables.{by_cases, none-at, within-bounds}
use Rattle.model.specs.Tables.{first_of, within}
use Rattle.planning.specs.Rehearsal.{access_of, page_in, no_figures, page_row, set_row, with_image, with_load, with_record}
use Rattle.planning.specs.Rehearsal.{with_backup, with_change, victim_written, unused, use_row, holding, least_used, evicted}
use Rattle.planning.specs.Rehearsal.{brought_in, replayed_by, play_from, found_in, missing, touched, changed, step_on}
use Rattle.planning.specs.Rehearsal.{pages_fit, plus, total_of, idle, rehearsal_rows, rehearsal_of}
use Rattle.model.specs.declared.answer.Answer.TheVariants.{Refused, Done}
use Rattle.planning.specs.declared.rehearsal.Settings.{Settings}
use Rattle.planning.specs.declared.rehearsal.Access.{Access}
use Rattle.planning.specs.declared.rehearsal.Access.TheVariants.{Read, Change}
use Rattle.planning.specs.declared.rehearsal.Figures.{Figures}
use Rattle.planning.specs.declared.rehearsal.FrameUse.{FrameUse}
use Rattle.planning.specs.declared.rehearsal.Totals.{Totals}
use Rattle.planning.specs.declared.rehearsal.Rehearsal.{Rehearsal}

-- ---- arrays

-- a store past the end
pub past-set : (A : Type 0) (xs : List A) (x : A) (n k i : ℕ) → length xs ≡ n → n ≤ k → k ≡ i → xs ≡ set xs i x
past-set A xs x n k i h l e = sym (set_out xs i x (omega arith))

-- ---- the searches

module _ (fs : List FrameUse) (n : ℕ) where
  pub holding-here : (p : ℕ) → (use_row fs n).page ≡ p → holding fs p (n + 1) ≡ n + 1
  unfolding holding
  holding-here p e = rw (add-one n, eq-eqb (use_row fs n).page p e)

  pub holding-on : (p : ℕ) → ((use_row fs n).page ≡ p → ⊥) → holding fs p (n + 1) ≡ holding fs p n
  unfolding holding
  holding-on p e = rw (add-one n, ne_eqb (use_row fs n).page p e)

  pub least-here : (use_row fs n).used < (use_row fs (least_used fs n)).used → least_used fs (n + 1) ≡ n
  unfolding least_used
  least-here l = rw (add-one n, lt-ltb (use_row fs n).used (use_row fs (least_used fs n)).used l)

  pub least_on : (use_row fs (least_used fs n)).used ≤ (use_row fs n).used → least_used fs (n + 1) ≡ least_used fs n
  unfolding least_used
  least_on l = rw (add-one n, le-ltb (use_row fs n).used (use_row fs (least_used fs n)).used l)

-- the frame found so far
pub found-on : (o : Option ℕ) (a b i : ℕ) → b ≡ a → MatchOption o (a ≡ 0) (λ f. (f < i) × (a ≡ f + 1))
    → MatchOption o (b ≡ 0) (λ f. (f < i + 1) × (b ≡ f + 1))
found-on None a b i e h = e ∙ h
found-on (Some f) a b i e h = (omega (arith, h.0), e ∙ h.1)

pub holding-none : (fs : List FrameUse) (p : ℕ) → holding fs p 0 ≡ 0
unfolding holding
holding-none fs p = refl

pub least-none : (fs : List FrameUse) → least_used fs 0 ≡ 0
unfolding least_used
least-none fs = refl

-- of the first n frames alone

module _ (xs fs : List FrameUse) where
  holding-same : (p n : ℕ) → ((i : ℕ) → i < n → use_row xs i ≡ use_row fs i) → holding xs p n ≡ holding fs p n
  unfolding holding
  holding-same p zero h = refl
  holding-same p (suc n) h = rw (h n (omega arith), holding-same p n (λ i l. h i (omega arith)))

  least-low : (n : ℕ) → least_used fs n ≤ n
  unfolding least_used
  least-low zero = omega arith
  least-low (suc n) =
      by_cases (ltb (use_row fs n).used (use_row fs (least_used fs n)).used) (λ t. rw t (omega arith)) (λ t. rw t (omega (arith, least-low n)))

  least-same : (n : ℕ) → ((i : ℕ) → i < n → use_row xs i ≡ use_row fs i) → least_used xs n ≡ least_used fs n
  unfolding least_used
  least-same zero h = refl
  least-same (suc n) h =
      rw (least-same n (λ i l. h i (omega arith)), h n (omega arith), h (least_used fs n) (omega (arith, least-low n)))

module _ (fs : List FrameUse) (n : ℕ) (l : n ≤ length fs) where
  front-long : length (take (n - 0) fs) ≡ n
  front-long = rw (sub-zero n) (length-take-le n fs l)

  front-row : (i : ℕ) → i < n → use_row (take (n - 0) fs) i ≡ use_row fs i
  front-row i k = rw (sub-zero n) (get_or-take n fs i unused k)

  pub holding-front : (p : ℕ) → holding (take (n - 0) fs) p (length (take (n - 0) fs)) ≡ holding fs p n
  holding-front p = ap (holding (take (n - 0) fs) p) front-long ∙ holding-same (take (n - 0) fs) fs p n front-row

  pub least-front : least_used (take (n - 0) fs) (length (take (n - 0) fs)) ≡ least_used fs n
  least-front = ap (least_used (take (n - 0) fs)) front-long ∙ least-same (take (n - 0) fs) fs n front-row

  pub least-in : n ≤ 16 → (f : ℕ) → f ≤ length (take (n - 0) fs) - 1 → f < 16
  least-in k f h = omega (arith, front-long, h, k)

-- ---- the events

module _ (s : List ℕ) (i : ℕ) (l : i < length s) where
  pub fit_on : within 64 (page_in (access_of (get_or s i 0))) ≡ true → pages_fit (drop i s) ≡ pages_fit (drop (i + 1) s)
  unfolding pages_fit
  fit_on t = rw (add-one i, drop-cons s i 0 l, t)

  pub fit-not : within 64 (page_in (access_of (get_or s i 0))) ≡ false → pages_fit (drop i s) ≡ false
  unfolding pages_fit
  fit-not t = rw (drop-cons s i 0 l, t)

  pub play-on : (t : Settings) (m : Rehearsal)
      → play_from t i m (drop i s) ≡ play_from t (i + 1) (step_on t (i + 1) m (access_of (get_or s i 0))) (drop (i + 1) s)
  unfolding play_from
  play-on t m = rw (add-one i, drop-cons s i 0 l)

pub fit-end : (s : List ℕ) (i : ℕ) → length s ≤ i → pages_fit (drop i s) ≡ true
unfolding pages_fit
fit-end s i l = rw (drop_of_length-le s l)

pub play-end : (s : List ℕ) (i : ℕ) (t : Settings) (m : Rehearsal) → length s ≤ i → play_from t i m (drop i s) ≡ m
unfolding play_from
play-end s i t m l = rw (drop_of_length-le s l)

-- ---- a page that makes way, and one that comes in

pub evict-written : (t : Settings) (m : Rehearsal) (f : ℕ) (r q : Figures) (out : List Figures)
    → (victim_written t.victim && (use_row m.frames f).dirty) ≡ true
    → r ≡ page_row m.pages (use_row m.frames f).page → q ≡ with_image r
    → out ≡ set_row m.pages (use_row m.frames f).page q → out ≡ evicted t m f
unfolding evicted
evict-written t m f r q out e er eq eo = rw (e, eo, eq, er)

pub evict-not : (t : Settings) (m : Rehearsal) (f : ℕ) → (victim_written t.victim && (use_row m.frames f).dirty) ≡ false
    → m.pages ≡ evicted t m f
unfolding evicted
evict-not t m f e = rw e

pub bring-load : (t : Settings) (pages : List Figures) (p n : ℕ) (r q : Figures) (out : List Figures)
    → r ≡ page_row pages p → (r.records ≡ 0 → ⊥)
    → n ≡ replayed_by t r.records → q ≡ with_load r n → out ≡ set_row pages p q → out ≡ brought_in t pages p
unfolding brought_in
bring-load t pages p n r q out er ne en eq eo =
    let z : eqb (page_row pages p).records 0 ≡ false = rw (← er) (ne_eqb r.records 0 ne) in rw (z, eo, eq, en, er)

pub bring-begin : (t : Settings) (pages : List Figures) (p : ℕ) (r : Figures) → r ≡ page_row pages p → r.records ≡ 0
    → pages ≡ brought_in t pages p
unfolding brought_in
bring-begin t pages p r er z =
    let e : eqb (page_row pages p).records 0 ≡ true = rw (← er) (eq-eqb r.records 0 z) in rw e

-- ---- a change

pub change-backed : (k : ℕ) (r : Figures) → (r.records + 1) % k ≡ 0 → with_backup (with_record r) ≡ with_change k r
unfolding with_change
change-backed k r e = rw (eq-eqb ((r.records + 1) % k) 0 e)

pub change-plain : (k : ℕ) (r : Figures) → ((r.records + 1) % k ≡ 0 → ⊥) → with_record r ≡ with_change k r
unfolding with_change
change-plain k r e = rw (ne_eqb ((r.records + 1) % k) 0 e)

-- a load replays no more than the page's changes
pub replayed-most : (t : Settings) (n b x : ℕ) → x ≡ replayed_by t n → n ≤ b → x ≤ b
replayed-most t n b x e l =
    rw e (by_cases (victim_written t.victim) (λ w. rw w (omega arith)) (λ w. rw w (omega (arith, mod-le n t.every))))

-- ---- a step

pub bring-is : (t : Settings) (i : ℕ) (m : Rehearsal) (p : ℕ) (c w : Bool) (f : ℕ) (a b : List Figures) → a ≡ evicted t m f
    → b ≡ brought_in t a p → w ≡ victim_written t.victim
    → record { frames = set m.frames f (record { page = p; used = i; dirty = c || not w }); pages = b } ≡ missing t i m p c f
bring-is t i m p c w f a b ea eb ew = rw (eb, ea, ew)

module _ (t : Settings) (i : ℕ) (m out : Rehearsal) (p : ℕ) where
  module _ (c : Bool) (f : ℕ) where
    pub touch-found : holding m.frames p t.frames ≡ f + 1 → out ≡ found_in i m p c f → out ≡ touched t i m p c
    unfolding touched
    touch-found e o =
        let z : ltb 0 (holding m.frames p t.frames) ≡ true = lt-ltb 0 (holding m.frames p t.frames) (omega (arith, e)) in
        let n : holding m.frames p t.frames - 1 ≡ f = omega (arith, e) in
        rw (z, n) o

    pub touch-missing : holding m.frames p t.frames ≡ 0 → f ≡ least_used m.frames t.frames → out ≡ missing t i m p c f → out ≡ touched t i m p c
    unfolding touched
    touch-missing e ef o =
        let z : ltb 0 (holding m.frames p t.frames) ≡ false = le-ltb 0 (holding m.frames p t.frames) (omega (arith, e)) in
        rw (z, o, ef)

  pub read_none : (r : Figures) → r ≡ page_row m.pages p → r.records ≡ 0 → m ≡ step_on t i m (Read p)
  unfolding step_on
  read_none r e z = let y : eqb (page_row m.pages p).records 0 ≡ true = rw (← e) (eq-eqb r.records 0 z) in rw y

  pub read-touch : (r : Figures) → r ≡ page_row m.pages p → (r.records ≡ 0 → ⊥) → out ≡ touched t i m p false
      → out ≡ step_on t i m (Read p)
  unfolding step_on
  read-touch r e z o = let y : eqb (page_row m.pages p).records 0 ≡ false = rw (← e) (ne_eqb r.records 0 z) in rw (y, o)

  pub step-read : (a : Access) → a ≡ Read p → out ≡ step_on t i m (Read p) → out ≡ step_on t i m a
  step-read a e o = rw (e, o)

  pub step-change : (a : Access) (x : Rehearsal) → a ≡ Change p → x ≡ touched t i m p true → out ≡ changed t x p → out ≡ step_on t i m a
  unfolding step_on
  step-change a x e ex o = rw (e, o, ex)

-- ---- totals

pub total-none : (pages : List Figures)
    → total_of pages 0 ≡ record { loads = 0; records = 0; images = 0; backups = 0; notes = 0; replayed = 0 }
unfolding total_of
total-none pages = refl

pub total-more : (pages : List Figures) (n : ℕ) → total_of pages (n + 1) ≡ plus (total_of pages n) (get_or pages n no_figures)
unfolding total_of
total-more pages n = rw (add-one n)

pub plus-is : (a : Totals) (x : Figures) (l r i b n p : ℕ) → l ≡ x.loads → r ≡ x.records → i ≡ x.images → b ≡ x.backups
    → n ≡ x.notes → p ≡ x.replayed
    → record {
      loads = a.loads + l;
      records = a.records + r;
      images = a.images + i;
      backups = a.backups + b;
      notes = a.notes + n;
      replayed = a.replayed + p;
    } ≡ plus a x
plus-is a x l r i b n p el er ei eb en ep = rw (el, er, ei, eb, en, ep)

-- ---- the whole call

module _ (events : List ℕ) (t : Settings) (fit : Bool) (ef : fit ≡ pages_fit events) where
  abbrev tests : Bool
  tests = leb (length events) 1024 && (within 16 t.frames && (within 255 t.every && fit))

  rows-25 : (a b c d : Bool) → ◌≡◌ {A = ℕ} (cond (a && (b && (c && d))) 0 25)
      (cond (not a) 25 (cond (not b) 25 (cond (not c) 25 (cond (not d) 25 0))))
  rows-25 true true true true = refl
  rows-25 true true true false = refl
  rows-25 true true false d = refl
  rows-25 true false c d = refl
  rows-25 false b c d = refl

  all-25 : cond tests 0 25 ≡ first_of (rehearsal_rows events t)
  unfolding rehearsal_rows
  all-25 = rows-25 (leb (length events) 1024) (within 16 t.frames) (within 255 t.every) fit ∙ rw ef

  pub rows-none : tests ≡ true → 0 ≡ first_of (rehearsal_rows events t)
  rows-none e = ap (λ (b : Bool). cond b 0 25) (sym e) ∙ all-25

  pub rows-some : tests ≡ false → 25 ≡ first_of (rehearsal_rows events t)
  rows-some e = ap (λ (b : Bool). cond b 0 25) (sym e) ∙ all-25

module _ (events : List ℕ) (t : Settings) where
  pub rehearse-refused : (n : ℕ) → n ≡ first_of (rehearsal_rows events t) → (n ≡ 0 → ⊥)
      → record { answer = Refused n; pages = replicate 64 no_figures } ≡ rehearsal_of events t
  unfolding rehearsal_of
  rehearse-refused n e ne = let z : eqb (first_of (rehearsal_rows events t)) 0 ≡ false = rw (← e) (ne_eqb n 0 ne) in rw (z, ← e)

  module _ (e : 0 ≡ first_of (rehearsal_rows events t)) where
    pub rehearse-done : (m : Rehearsal) → m ≡ play_from t 0 idle events → record { answer = Done; pages = m.pages } ≡ rehearsal_of events t
    unfolding rehearsal_of
    rehearse-done m em = rw (eq-eqb (first_of (rehearsal_rows events t)) 0 (sym e), em)

    pub rehearse-asks : (length events ≤ 1024) × (1 ≤ t.frames) × (t.frames ≤ 16) × (1 ≤ t.every) × (t.every ≤ 255)
    unfolding rehearsal_rows
    rehearse-asks =
        let q = none-at (rehearsal_rows events t) (omega arith) (sym e) in
        let f = within-bounds 16 t.frames (not-false (within 16 t.frames) (q 1)) in
        let k = within-bounds 255 t.every (not-false (within 255 t.every) (q 2)) in
        (leb-true (length events) 1024 (not-false (leb (length events) 1024) (q 0)), f.0, f.1, k.0, k.1)

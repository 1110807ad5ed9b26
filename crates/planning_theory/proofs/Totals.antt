-- Figures in total: the sum of a column, the records as the length of the log, and that the model's figures only grow.
use mathlib.Core.Path.{◌≡◌, refl, sym, ap, ◌∙◌}
use mathlib.Core.Bool.{Bool, true, false, cond, ◌&&◌}
use mathlib.Core.List.{List, [], ◌∷◌}
use Prim.Native.Nat.{ℕ, zero, suc, ◌+◌, ◌-◌, ◌%◌, ◌≤◌, ◌<◌}
use native.Mathlib.Omega.{arith}
use native.Mathlib.Decide.{ℕ_discrete, dec_lt}
use lib.ListN.{length, get_or, set, length-set}
use lib.Seq.{get_or-set_same, get_or-set_other, set_out}
use lib.Dec.{eqb, ltb}
use borrow.Author.Tests.{ne_eqb, eqb-false}
use Rattle.laws.proofs.Tables.{by_cases}
use Rattle.model.specs.AbstractLog.{Logged}
use Rattle.planning.specs.Rehearsal.{access_of, victim_written, no_figures, page_row, set_row, with_load, with_record}
use Rattle.planning.specs.Rehearsal.{with_image, with_backup, use_row, holding, least_used, evicted, brought_in, replayed_by}
use Rattle.planning.specs.Rehearsal.{touched, with_change, changed, step_on, play_from, total_of}
use Rattle.planning.specs.RehearsalRun.{backed_up}
use Rattle.planning.specs.declared.rehearsal.Settings.{Settings}
use Rattle.planning.specs.declared.rehearsal.Access.{Access}
use Rattle.planning.specs.declared.rehearsal.Access.TheVariants.{Read, Change}
use Rattle.planning.specs.declared.rehearsal.Figures.{Figures}
use Rattle.planning.specs.declared.rehearsal.Rehearsal.{Rehearsal}
use Rattle.history.proofs.Logs.{at}
use Rattle.planning_theory.proofs.Counts.{count_at, count_of, count-zero, count-hit, count-miss}
use Rattle.planning_theory.proofs.Relation.{Rows}

-- ---- a column

-- its sum over the first n rows
unfoldable pub column_total : (Figures → ℕ) → List Figures → ℕ → ℕ
column_total f fs zero = 0
column_total f fs (suc n) = column_total f fs n + f (get_or fs n no_figures)

pub total-records : (fs : List Figures) (n : ℕ) → (total_of fs n).records ≡ column_total (λ (r : Figures). r.records) fs n
unfolding total_of column_total
total-records fs zero = refl
total-records fs (suc n) = ap (λ (m : ℕ). m + (get_or fs n no_figures).records) (total-records fs n)

pub total-notes : (fs : List Figures) (n : ℕ) → (total_of fs n).notes ≡ column_total (λ (r : Figures). r.notes) fs n
unfolding total_of column_total
total-notes fs zero = refl
total-notes fs (suc n) = ap (λ (m : ℕ). m + (get_or fs n no_figures).notes) (total-notes fs n)

-- another row
module _ (f : Figures → ℕ) (fs : List Figures) (i : ℕ) (r : Figures) where
  column-out : (n : ℕ) → n ≤ i → column_total f (set fs i r) n ≡ column_total f fs n
  unfolding column_total
  column-out zero h = refl
  column-out (suc n) h = rw (column-out n (omega arith), get_or-set_other fs i n r no_figures (λ z. omega arith))

  column-in : (n : ℕ) → i < n → i < length fs → column_total f (set fs i r) n + f (get_or fs i no_figures) ≡ column_total f fs n + f r
  unfolding column_total
  column-in zero h b = absurd (omega arith)
  column-in (suc n) h b = elim (ℕ_discrete i n) [
    | yes z ↦
        let new : get_or (set fs i r) n no_figures ≡ r = ap (λ (j : ℕ). get_or (set fs i r) j no_figures) (sym z)
        ∙ get_or-set_same fs i r no_figures b in
        let old : get_or fs n no_figures ≡ get_or fs i no_figures = ap (λ (j : ℕ). get_or fs j no_figures) (sym z) in
        rw (new, old) (omega (arith, column-out n (omega arith)))
    | no z ↦ rw (get_or-set_other fs i n r no_figures (λ y. z (sym y))) (omega (arith, column-in n (omega arith) b))
  ]

module _ (fs : List Figures) (p : ℕ) (lo : 1 ≤ p) (hi : p ≤ 64) (size : length fs ≡ 64) (r : Figures) where
  pub total-set : (f : Figures → ℕ) → column_total f (set_row fs p r) 64 + f (page_row fs p) ≡ column_total f fs 64 + f r
  total-set f = column-in f fs (p - 1) r 64 (omega arith) (omega arith)

  pub records-set : (total_of (set_row fs p r) 64).records + (page_row fs p).records ≡ (total_of fs 64).records + r.records
  records-set = omega (arith, total-records (set_row fs p r) 64, total-records fs 64, total-set (λ (x : Figures). x.records))

  pub notes-set : (total_of (set_row fs p r) 64).notes + (page_row fs p).notes ≡ (total_of fs 64).notes + r.notes
  notes-set = omega (arith, total-notes (set_row fs p r) 64, total-notes fs 64, total-set (λ (x : Figures). x.notes))

-- ---- the records are the log

-- of the first m changes: those of the first n pages
unfoldable changes_up_to : List Logged → ℕ → ℕ → ℕ
changes_up_to l m zero = 0
changes_up_to l m (suc n) = changes_up_to l m n + count_at (suc n) l m

module _ (l : List Logged) where
  up_to-none : (n : ℕ) → changes_up_to l 0 n ≡ 0
  unfolding changes_up_to
  up_to-none zero = refl
  up_to-none (suc n) = omega (arith, up_to-none n, count-zero (suc n) l)

  up_to-miss : (m n : ℕ) → n < (at l m).page → changes_up_to l (suc m) n ≡ changes_up_to l m n
  unfolding changes_up_to
  up_to-miss m zero h = refl
  up_to-miss m (suc n) h = omega (arith, count-miss (suc n) l m (λ z. omega arith), up_to-miss m n (omega arith))

  up_to-hit : (m n : ℕ) → 1 ≤ (at l m).page → (at l m).page ≤ n → changes_up_to l (suc m) n ≡ suc (changes_up_to l m n)
  unfolding changes_up_to
  up_to-hit m zero lo hi = absurd (omega arith)
  up_to-hit m (suc n) lo hi = elim (ℕ_discrete (at l m).page (suc n)) [
    | yes z ↦ omega (arith, count-hit (suc n) l m z, up_to-miss m n (omega arith))
    | no z ↦ omega (arith, count-miss (suc n) l m z, up_to-hit m n lo (omega arith))
  ]

  up_to-all : (m : ℕ) → ((i : ℕ) → i < m → (1 ≤ (at l i).page) × ((at l i).page ≤ 64)) → changes_up_to l m 64 ≡ m
  up_to-all zero h = up_to-none 64
  up_to-all (suc m) h = omega (arith, up_to-hit m 64 (h m (omega arith)).0 (h m (omega arith)).1, up_to-all m (λ i b. h i (omega arith)))

records-up_to : (fs : List Figures) (k : List Logged) → Rows fs k → (n : ℕ) → n ≤ 64
    → column_total (λ (r : Figures). r.records) fs n ≡ changes_up_to k (length k) n
unfolding column_total changes_up_to
records-up_to fs k x zero b = refl
records-up_to fs k x (suc n) b =
    let e : suc n - 1 ≡ n = omega arith in
    let one : (get_or fs n no_figures).records ≡ count_of (suc n) k = rw e at (x.records (suc n) (omega arith) b) in
    omega (arith, records-up_to fs k x n (omega arith))

pub records-total : (fs : List Figures) (k : List Logged) → Rows fs k → ((i : ℕ) → i < length k → (1 ≤ (at k i).page) × ((at k i).page ≤ 64))
    → (total_of fs 64).records ≡ length k
records-total fs k x inside = omega (arith, total-records fs 64, records-up_to fs k x 64 (omega arith), up_to-all k (length k) inside)

-- ---- growth

-- what holds of a row and itself, and of page p's row and another, holds of all rows and those with the other one for page p
pub set-each : (R : Figures → Figures → Type 0) (fs : List Figures) (p : ℕ) (r : Figures) → ((x : Figures) → R x x) → R (page_row fs p) r
    → (q : ℕ) → R (page_row fs q) (page_row (set_row fs p r) q)
set-each R fs p r same new q = elim (ℕ_discrete (q - 1) (p - 1)) [
  | yes z ↦ elim (dec_lt (p - 1) (length fs)) [
    | yes l ↦ rw (z, get_or-set_same fs (p - 1) r no_figures l) new
    | no n ↦ rw (set_out fs (p - 1) r (omega arith)) (same (page_row fs q))
  ]
  | no z ↦ rw (get_or-set_other fs (p - 1) (q - 1) r no_figures z) (same (page_row fs q))
]

pub record Grows (a b : List Figures) : Type 0 where
  pub size : length b ≡ length a
  pub records : (p : ℕ) → (page_row a p).records ≤ (page_row b p).records
  pub notes : (p : ℕ) → (page_row a p).notes ≤ (page_row b p).notes
  pub backups : (p : ℕ) → (page_row a p).backups ≤ (page_row b p).backups

pub grows-refl : (a : List Figures) → Grows a a
grows-refl a = record { size = refl; records = λ p. omega arith; notes = λ p. omega arith; backups = λ p. omega arith }

pub grows-trans : {a b c : List Figures} → Grows a b → Grows b c → Grows a c
grows-trans x y =
    record {
      size = y.size ∙ x.size;
      records = λ p. omega (arith, x.records p, y.records p);
      notes = λ p. omega (arith, x.notes p, y.notes p);
      backups = λ p. omega (arith, x.backups p, y.backups p);
    }

-- a row with more
pub grows-set : (fs : List Figures) (p : ℕ) (r : Figures) → (page_row fs p).records ≤ r.records → (page_row fs p).notes ≤ r.notes
    → (page_row fs p).backups ≤ r.backups → Grows fs (set_row fs p r)
grows-set fs p r a b c =
    record {
      size = length-set fs (p - 1) r;
      records = set-each (λ (x y : Figures). x.records ≤ y.records) fs p r (λ x. omega arith) a;
      notes = set-each (λ (x y : Figures). x.notes ≤ y.notes) fs p r (λ x. omega arith) b;
      backups = set-each (λ (x y : Figures). x.backups ≤ y.backups) fs p r (λ x. omega arith) c;
    }

-- ---- what grows in total

pub column-grows : (f : Figures → ℕ) (a b : List Figures) → ((p : ℕ) → f (page_row a p) ≤ f (page_row b p)) → (n : ℕ)
    → column_total f a n ≤ column_total f b n
unfolding column_total
column-grows f a b h zero = omega arith
column-grows f a b h (suc n) =
    let e : suc n - 1 ≡ n = omega arith in
    let one : f (get_or a n no_figures) ≤ f (get_or b n no_figures) = rw e at (h (suc n)) in
    omega (arith, column-grows f a b h n)

module _ {a b : List Figures} (g : Grows a b) (n : ℕ) where
  pub records-grow : (total_of a n).records ≤ (total_of b n).records
  records-grow = omega (arith, total-records a n, total-records b n, column-grows (λ (r : Figures). r.records) a b g.records n)

  pub notes-grow : (total_of a n).notes ≤ (total_of b n).notes
  notes-grow = omega (arith, total-notes a n, total-notes b n, column-grows (λ (r : Figures). r.notes) a b g.notes n)

some_more : (a b : ℕ) → a ≤ b → cond (eqb a 0) 0 1 ≤ cond (eqb b 0) 0 1
some_more a b h = by_cases (eqb a 0) (λ t. rw t (omega arith)) (λ t. rw (t, ne_eqb b 0 (λ z. eqb-false a 0 t (omega arith))) (omega arith))

pub backed-grows : {a b : List Figures} → Grows a b → (n : ℕ) → backed_up a n ≤ backed_up b n
unfolding backed_up
backed-grows {a} {b} g zero = omega arith
backed-grows {a} {b} g (suc n) =
    omega (arith, backed-grows g n, some_more (page_row a (suc n)).backups (page_row b (suc n)).backups (g.backups (suc n)))

pub backed-low : (fs : List Figures) (n : ℕ) → backed_up fs n ≤ n
unfolding backed_up
backed-low fs zero = omega arith
backed-low fs (suc n) =
    let ih : backed_up fs n ≤ n = backed-low fs n in
    by_cases (eqb (page_row fs (suc n)).backups 0) (λ t. rw t (omega arith)) (λ t. rw t (omega arith))

-- ---- the model grows

pub record-grows : (fs : List Figures) (p : ℕ) → Grows fs (set_row fs p (with_record (page_row fs p)))
record-grows fs p = grows-set fs p (with_record (page_row fs p)) (omega arith) (omega arith) (omega arith)

module _ (t : Settings) where
  pub evicted-grows : (mo : Rehearsal) (f : ℕ) → Grows mo.pages (evicted t mo f)
  unfolding evicted
  evicted-grows mo f =
      let p = (use_row mo.frames f).page in
      by_cases (victim_written t.victim && (use_row mo.frames f).dirty)
      (λ z. rw z (grows-set mo.pages p (with_image (page_row mo.pages p)) (omega arith) (omega arith) (omega arith)))
      (λ z. rw z (grows-refl mo.pages))

  pub brought-grows : (fs : List Figures) (p : ℕ) → Grows fs (brought_in t fs p)
  unfolding brought_in
  brought-grows fs p = by_cases (eqb (page_row fs p).records 0)
      (λ z. rw z (grows-refl fs))
      (λ z. rw z (grows-set fs p (with_load (page_row fs p) (replayed_by t (page_row fs p).records)) (omega arith)
      (omega arith) (omega arith)))

  pub touched-grows : (i : ℕ) (mo : Rehearsal) (p : ℕ) (c : Bool) → Grows mo.pages (touched t i mo p c).pages
  unfolding touched
  touched-grows i mo p c = by_cases (ltb 0 (holding mo.frames p t.frames))
      (λ z. rw z (grows-refl mo.pages))
      (λ z. let f = least_used mo.frames t.frames in rw z (grows-trans (evicted-grows mo f) (brought-grows (evicted t mo f) p)))

  pub change-grows : (fs : List Figures) (p : ℕ) → Grows fs (set_row fs p (with_change t.every (page_row fs p)))
  unfolding with_change
  change-grows fs p = by_cases (eqb ((with_record (page_row fs p)).records % t.every) 0)
      (λ z. rw z (grows-set fs p (with_backup (with_record (page_row fs p))) (omega arith) (omega arith) (omega arith)))
      (λ z. rw z (record-grows fs p))

  pub changed-grows : (mo : Rehearsal) (p : ℕ) → Grows mo.pages (changed t mo p).pages
  unfolding changed
  changed-grows mo p = change-grows mo.pages p

  pub step-grows : (i : ℕ) (mo : Rehearsal) (a : Access) → Grows mo.pages (step_on t i mo a).pages
  unfolding step_on
  step-grows i mo (Read p) =
      by_cases (eqb (page_row mo.pages p).records 0) (λ z. rw z (grows-refl mo.pages)) (λ z. rw z (touched-grows i mo p false))
  step-grows i mo (Change p) = grows-trans (touched-grows i mo p true) (changed-grows (touched t i mo p true) p)

  pub play-grows : (i : ℕ) (mo : Rehearsal) (es : List ℕ) → Grows mo.pages (play_from t i mo es).pages
  unfolding play_from
  play-grows i mo [] = grows-refl mo.pages
  play-grows i mo (e ∷ es) = grows-trans (step-grows (suc i) mo (access_of e)) (play-grows (suc i) (step_on t (suc i) mo (access_of e)) es)

-- The archive of a volume that restarts and whose record 1 is there: as long as was told, taken by the reader, and cut into the same
-- segments. The proof of `ArchiveClaim`.
use mathlib.Core.Path.{◌≡◌, refl, sym, ap, ◌∙◌, subst}
use mathlib.Core.Bool.{Bool, true, false, cond, not}
use mathlib.Core.List.{List, [], ◌∷◌, ◌++◌, append-nil}
use Prim.Native.Nat.{ℕ, zero, suc, ◌+◌, ◌-◌, ◌*◌, ◌≤◌, ◌<◌}
use native.Mathlib.Omega.{arith}
use native.Mathlib.Decide.{ℕ_discrete}
use lib.Dec.{eqb, eqb-zero-suc, eqb-suc-zero, eqb-suc-suc}
use lib.ListN.{length, get_or, length-append}
use borrow.Author.Tests.{eqb-true, eq-eqb, lt-ltb, not-false}
use Rattle.laws.proofs.Tables.{Numbered, by_cases, none-at, and_left, and_right, and_both, when_true, when_false}
use Rattle.laws.proofs.Tabulated.{tabulate-length}
use Rattle.laws.proofs.Places.{valid-facts, item-length}
use Rattle.laws.proofs.Ring.{slot-in}
use Rattle.laws.proofs.Scanned.{Fit, newest, down, first_lsn, held_low, whole-start, whole_run, whole-few, whole-fits}
use Rattle.reports_laws.proofs.ArchiveSegments.{pages-one, valid-cut, counted-cut, Laid, segment-length}
use Rattle.reports_laws.proofs.ArchiveSegments.{parted-back, valid-back, only}
use Rattle.model.specs.Tables.{Row, first_of, tabulate}
use Rattle.model.specs.Geometry.{geometry_of, valid_volume, record_at, slot_of, item, log_slot}
use Rattle.model.specs.Item.{record_of}
use Rattle.model.specs.Scan.{log_record, durable_count, first_held, gone, linked, valid_log, valid_notes}
use Rattle.reports.specs.Reading.{whole_rows, page_records, held_records}
use Rattle.reports.specs.Archive.{segment_bytes, archive_bytes, segments_of, archive_length, archive_rows, filled_by}
use Rattle.reports.specs.Archive.{archive_of, in_segment, valid_segment, valid_from, parted_from, last_number_in}
use Rattle.reports.specs.Archive.{valid_segments, ArchiveClaim}
use Rattle.model.specs.declared.{geometry.Geometry.Geometry, answer.Answer.TheVariants.Done}

-- ---- one segment

-- a segment with one record more
valid-snoc : (p last : ℕ) (xs : List (List ℕ)) (r : List ℕ) → valid_segment p last xs ≡ true → in_segment p (last_number_in last xs) r ≡ true
    → valid_segment p last (xs ++ (r ∷ [])) ≡ true
unfolding valid_segment last_number_in
valid-snoc p last [] r h k = and_both k refl
valid-snoc p last (x ∷ xs) r h k =
    and_both (and_left (in_segment p last x) (valid_segment p (record_of x).lsn xs) h)
    (valid-snoc p (record_of x).lsn xs r (and_right (in_segment p last x) (valid_segment p (record_of x).lsn xs) h) k)

pub last_snoc : (last : ℕ) (xs : List (List ℕ)) (r : List ℕ) → last_number_in last (xs ++ (r ∷ [])) ≡ (record_of r).lsn
unfolding last_number_in
last_snoc last [] r = refl
last_snoc last (x ∷ xs) r = last_snoc (record_of x).lsn xs r

size-snoc : (xs : List (List ℕ)) (r : List ℕ) → ((i : ℕ) → i < length xs → length (get_or xs i []) ≡ 64) → length r ≡ 64
    → (i : ℕ) → i < length (xs ++ (r ∷ [])) → length (get_or (xs ++ (r ∷ [])) i []) ≡ 64
size-snoc [] r h e zero l = e
size-snoc [] r h e (suc i) l = absurd (omega (arith, l))
size-snoc (x ∷ xs) r h e zero l = h 0 (omega arith)
size-snoc (x ∷ xs) r h e (suc i) l = size-snoc xs r (λ j m. h (suc j) (omega (arith, m))) e i (omega (arith, l))

-- what page p's records among 1 to c are
pub record Segment (g : Geometry) (v : List ℕ) (p c : ℕ) : Type 0 where
  pub valid : valid_segment p 0 (page_records g v p 1 c) ≡ true
  pub last : last_number_in 0 (page_records g v p 1 c) ≡ first_lsn (down g v p 1 c)
  pub size : (i : ℕ) → i < length (page_records g v p 1 c) → length (get_or (page_records g v p 1 c) i []) ≡ 64
  pub few : length (page_records g v p 1 c) ≤ c

-- a volume that restarts and whose record 1 is there
pub record Whole (v : List ℕ) : Type 0 where
  pub volume : valid_volume v ≡ true
  pub log : valid_log (geometry_of v) v ≡ true
  pub notes : valid_notes (geometry_of v) v ≡ true
  pub here : gone (geometry_of v) v ≡ false

module _ (v : List ℕ) (h : Whole v) where
  abbrev g : Geometry
  g = geometry_of v

  abbrev n : ℕ
  n = durable_count (geometry_of v) v

  ok : (i : ℕ) → i < n → Fit g v 1 i
  ok = whole-fits g v h.here h.log

  long : (i : ℕ) → length (item g v (log_slot g (1 + i))) ≡ 64
  long i =
      let s : 1 + i ≡ suc i = omega arith in
      let b = slot-in g.records i (valid-facts v h.volume).l-low in
      rw s (item-length g v (valid-facts v h.volume).size (record_at (slot_of g.records (suc i))) b)

  pub held-is : (p : ℕ) → held_records v p ≡ page_records g v p 1 n
  unfolding page_records
  held-is p = elim (ℕ_discrete n 0) [
    | yes z ↦
        let e : suc n - first_held g v n ≡ 0 = omega (arith, held_low g v n) in
        rw (e, z)
    | no z ↦ rw (whole_run g v h.here, whole-start g v h.here (omega arith))
  ]

  module _ (p : ℕ) (low : 1 ≤ p) where
    -- record c + 1, of page p, may follow
    follows : (c : ℕ) → c < n → (log_record g v (1 + c)).page ≡ p
        → in_segment p (first_lsn (down g v p 1 c)) (item g v (log_slot g (1 + c))) ≡ true
    follows c b q =
        let f = ok c b in
        let e = log_record g v (1 + c) in
        let w = newest g v 1 (omega arith) (valid-facts v h.volume).p-high n ok c p (omega (arith, b)) low in
        let l : linked 1 (first_lsn (down g v p 1 c)) e ≡ true = rw (q, w.last-is) at f.links in
        let rises : first_lsn (down g v p 1 c) < e.lsn = omega (arith, w.high, w.last-is, f.lsn-is) in
        and_both f.sealed-is
        (and_both f.layout (and_both (eq-eqb e.page p q) (and_both l (lt-ltb (first_lsn (down g v p 1 c)) e.lsn rises))))

    segment : (c : ℕ) → c ≤ n → Segment g v p c
    unfolding page_records down first_lsn last_number_in valid_segment
    segment zero b = record { valid = refl; last = refl; size = λ i l. absurd (omega (arith, l)); few = omega arith }
    segment (suc c) b =
        let r : List ℕ = item g v (log_slot g (1 + c)) in
        let xs : List (List ℕ) = page_records g v p 1 c in
        let ds : List (List ℕ) = down g v p 1 c in
        let k = segment c (omega (arith, b)) in
        by_cases (eqb (log_record g v (1 + c)).page p)
        (λ t.
        let e : xs ++ cond (eqb (log_record g v (1 + c)).page p) (r ∷ []) [] ≡ xs ++ (r ∷ []) =
        ap (λ (l : List (List ℕ)). xs ++ l) (when_true (r ∷ []) [] t) in
        let d : cond (eqb (log_record g v (1 + c)).page p) (r ∷ ds) ds ≡ r ∷ ds = when_true (r ∷ ds) ds t in
        let in_place : in_segment p (last_number_in 0 xs) r ≡ true =
        subst (λ (i : ℕ). in_segment p i r ≡ true) (sym k.last) (follows c b (eqb-true _ p t)) in
        record {
          valid = ap (λ (l : List (List ℕ)). valid_segment p 0 l) e ∙ valid-snoc p 0 xs r k.valid in_place;
          last = ap (λ (l : List (List ℕ)). last_number_in 0 l) e ∙ last_snoc 0 xs r ∙ sym (ap first_lsn d);
          size = subst (λ (l : List (List ℕ)). (i : ℕ) → i < length l → length (get_or l i []) ≡ 64) (sym e)
              (size-snoc xs r k.size (long c));
          few = subst (λ (l : List (List ℕ)). length l ≤ suc c) (sym e)
              (subst (λ (i : ℕ). i ≤ suc c) (sym (length-append xs (r ∷ []))) (omega (arith, k.few)));
        })
        (λ t.
        let e : xs ++ cond (eqb (log_record g v (1 + c)).page p) (r ∷ []) [] ≡ xs =
        ap (λ (l : List (List ℕ)). xs ++ l) (when_false (r ∷ []) [] t) ∙ append-nil xs in
        let d : cond (eqb (log_record g v (1 + c)).page p) (r ∷ ds) ds ≡ ds = when_false (r ∷ ds) ds t in
        record {
          valid = ap (λ (l : List (List ℕ)). valid_segment p 0 l) e ∙ k.valid;
          last = ap (λ (l : List (List ℕ)). last_number_in 0 l) e ∙ k.last ∙ sym (ap first_lsn d);
          size = subst (λ (l : List (List ℕ)). (i : ℕ) → i < length l → length (get_or l i []) ≡ 64) (sym e) k.size;
          few = subst (λ (l : List (List ℕ)). length l ≤ suc c) (sym e) (omega (arith, k.few));
        })

    -- of the whole log
    laid : Laid (held_records v p)
    laid =
        let k = segment n (omega arith) in
        rw (held-is p) (record { size = k.size; few = omega (arith, k.few, whole-few g v h.here, (valid-facts v h.volume).l-high) })

    in_order : valid_segment p 0 (held_records v p) ≡ true
    in_order = rw (held-is p) (segment n (omega arith)).valid

-- ---- all segments

tabulate-laid : (n : ℕ) (f : ℕ → List (List ℕ)) → ((i : ℕ) → Laid (f i)) → (i : ℕ) → i < length (tabulate n f)
    → Laid (get_or (tabulate n f) i [])
unfolding tabulate
tabulate-laid zero f h i l = absurd (omega (arith, l))
tabulate-laid (suc n) f h zero l = h 0
tabulate-laid (suc n) f h (suc i) l = tabulate-laid n (λ j. f (suc j)) (λ j. h (suc j)) i (omega (arith, l))

tabulate-valid : (n p : ℕ) (f : ℕ → List (List ℕ)) → ((i : ℕ) → valid_segment (p + i) 0 (f i) ≡ true) → valid_segments p (tabulate n f) ≡ true
unfolding tabulate valid_segments
tabulate-valid zero p f h = refl
tabulate-valid (suc n) p f h =
    let z : p + 0 ≡ p = omega arith in
    and_both (subst (λ (i : ℕ). valid_segment i 0 (f 0) ≡ true) z (h 0))
    (tabulate-valid n (suc p) (λ i. f (suc i))
    (λ i. let e : p + suc i ≡ suc p + i = omega arith in subst (λ (j : ℕ). valid_segment j 0 (f (suc i)) ≡ true) e (h (suc i))))

pub written_back : (v : List ℕ) → Whole v
    → (valid_from (geometry_of v).pages 1 (archive_bytes (segments_of v)) ≡ true)
    × (parted_from (geometry_of v).pages (archive_bytes (segments_of v)) ≡ segments_of v)
written_back v h =
    let f : ℕ → List (List ℕ) = λ i. held_records v (suc i) in
    let k = tabulate-laid (geometry_of v).pages f (λ i. laid v h (suc i) (omega arith)) in
    let s = tabulate-valid (geometry_of v).pages 1 f
    (λ i. let e : suc i ≡ 1 + i = omega arith in subst (λ (j : ℕ). valid_segment j 0 (f i) ≡ true) e (in_order v h (suc i) (omega arith))) in
    let n = tabulate-length (geometry_of v).pages f in
    (rw n at (valid-back 1 (segments_of v) k s), rw n at (parted-back (segments_of v) k))

-- ---- the length: each record is in one segment

-- the sum of f below n
sum : ℕ → (ℕ → ℕ) → ℕ
sum zero f = 0
sum (suc n) f = f 0 + sum n (λ i. f (suc i))

sum_same : (n : ℕ) (f k : ℕ → ℕ) → ((i : ℕ) → f i ≡ k i) → sum n f ≡ sum n k
unfolding sum
sum_same zero f k h = refl
sum_same (suc n) f k h = let e = h 0 in let r = sum_same n (λ i. f (suc i)) (λ i. k (suc i)) (λ i. h (suc i)) in omega (arith, e, r)

sum-zero : (n : ℕ) → sum n (λ i. 0) ≡ 0
unfolding sum
sum-zero zero = refl
sum-zero (suc n) = let r = sum-zero n in omega (arith, r)

-- one more at one place
one : ℕ → ℕ → ℕ
one q i = cond (eqb q i) 1 0

sum_one : (n q : ℕ) (f : ℕ → ℕ) → q < n → sum n (λ i. f i + one q i) ≡ suc (sum n f)
unfolding sum one
sum_one zero q f l = absurd (omega (arith, l))
sum_one (suc n) zero f l =
    let a : sum n (λ i. f (suc i) + one 0 (suc i)) ≡ sum n (λ i. f (suc i)) =
    sum_same n (λ i. f (suc i) + one 0 (suc i)) (λ i. f (suc i))
    (λ i. let z : ◌≡◌ {A = ℕ} (cond (eqb 0 (suc i)) 1 0) 0 = when_false 1 0 (eqb-zero-suc i) in omega (arith, z)) in
    omega (arith, a)
sum_one (suc n) (suc q) f l =
    let z : ◌≡◌ {A = ℕ} (cond (eqb (suc q) 0) 1 0) 0 = when_false 1 0 (eqb-suc-zero q) in
    let a : sum n (λ i. f (suc i) + one (suc q) (suc i)) ≡ sum n (λ i. f (suc i) + one q i) =
    sum_same n (λ i. f (suc i) + one (suc q) (suc i)) (λ i. f (suc i) + one q i)
    (λ i. ap (λ (b : Bool). f (suc i) + cond b 1 0) (eqb-suc-suc q i)) in
    let b = sum_one n q (λ i. f (suc i)) (omega (arith, l)) in
    omega (arith, z, a, b)

cond-length : (t : Bool) (xs : List (List ℕ)) (r : List ℕ) → length (xs ++ cond t (r ∷ []) []) ≡ length xs + cond t 1 0
cond-length true xs r = length-append xs (r ∷ [])
cond-length false xs r = ap length (append-nil xs) ∙ omega arith

-- the records of all pages are as many as the records
counted : (v : List ℕ) (h : Whole v) (c : ℕ) → c ≤ durable_count (geometry_of v) v
    → sum (geometry_of v).pages (λ i. length (page_records (geometry_of v) v (suc i) 1 c)) ≡ c
unfolding page_records one
counted v h zero b = sum-zero (geometry_of v).pages
counted v h (suc c) b =
    let g = geometry_of v in
    let f = ok v h c b in
    let q = (log_record g v (1 + c)).page in
    let m : suc (q - 1) ≡ q = omega (arith, f.low) in
    let ih = counted v h c (omega (arith, b)) in
    sum_same g.pages (λ i. length (page_records g v (suc i) 1 (suc c))) (λ i. length (page_records g v (suc i) 1 c) + one (q - 1) i)
    (λ i.
    cond-length (eqb q (suc i)) (page_records g v (suc i) 1 c) (item g v (log_slot g (1 + c)))
    ∙ ap (λ (t : Bool). length (page_records g v (suc i) 1 c) + cond t 1 0) (ap (λ (k : ℕ). eqb k (suc i)) (sym m) ∙ eqb-suc-suc (q - 1) i))
    ∙ sum_one g.pages (q - 1) (λ i. length (page_records g v (suc i) 1 c)) (omega (arith, f.high, f.low)) ∙ ap suc ih

archive-long : (n : ℕ) (f : ℕ → List (List ℕ)) → ((i : ℕ) → Laid (f i))
    → length (archive_bytes (tabulate n f)) ≡ 4 * n + 64 * sum n (λ i. length (f i))
unfolding archive_bytes tabulate sum
archive-long zero f h = refl
archive-long (suc n) f h =
    let a = segment-length (f 0) (h 0) [] in
    let b = archive-long n (λ i. f (suc i)) (λ i. h (suc i)) in
    length-append (segment_bytes (f 0)) (archive_bytes (tabulate n (λ i. f (suc i)))) ∙ omega (arith, a, b)

pub long-as-told : (v : List ℕ) → Whole v → length (archive_bytes (segments_of v)) ≡ archive_length v
long-as-told v h =
    let g = geometry_of v in
    let n = durable_count g v in
    archive-long g.pages (λ i. held_records v (suc i)) (λ i. laid v h (suc i) (omega arith))
    ∙ ap (λ (k : ℕ). 4 * g.pages + 64 * k)
    (sum_same g.pages (λ i. length (held_records v (suc i))) (λ i. length (page_records g v (suc i) 1 n))
    (λ i. ap length (held-is v h (suc i))) ∙ counted v h n (omega arith))

-- ---- the calls

-- a call that fills a buffer and is not refused
module _ (rows : List Row) (numbered : Numbered rows) (buffer done : List ℕ) where
  pub filled-done : (filled_by rows buffer done).answer ≡ Done → (first_of rows ≡ 0) × ((filled_by rows buffer done).buffer ≡ done)
  filled-done = by_cases (eqb (first_of rows) 0)
      (λ t. rw t (λ e. (eqb-true _ _ t, refl)))
      (λ t. rw t (λ e. let z : ◌≡◌ {A = ℕ} 0 1 = cc in absurd (omega arith)))

-- a writer that is not refused: record 1 is there, and the buffer holds the archive
pub wrote : (v x : List ℕ) → (archive_of v x).answer ≡ Done → Whole v × ((archive_of v x).buffer ≡ archive_bytes (segments_of v))
unfolding archive_of archive_rows
wrote v x h =
    let rows = whole_rows v ((not (eqb (length x) (archive_length v)), 21) ∷ []) in
    let d = filled-done rows (omega arith) x (archive_bytes (segments_of v)) h in
    let none = none-at rows (omega arith) d.0 in
    (record { volume = not-false _ (none 0); log = not-false _ (none 1); notes = not-false _ (none 2); here = none 3 }, d.1)

pub archive : ArchiveClaim
archive =
    record {
      back = λ v x e.
          let w = wrote v x e in
          let b = written_back v w.0 in
          rw w.1 (refl, long-as-told v w.0, b.0, b.1);
      only = λ k a o h. only k 1 a o h;
      pages = λ j k a. pages-one j k 1 a;
      cut = counted-cut;
      told = λ k a low high h. (counted-cut k a low high).1 (valid-cut k 1 a h);
    }

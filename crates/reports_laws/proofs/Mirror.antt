-- Two logs held against each other, on any volumes: what is common, that the volumes have equal parts in it, and that up to there the
-- records are the same, the previous numbers too. The proof of `MirrorClaim`.
use mathlib.Core.Path.{◌≡◌, refl, sym, ap, ◌∙◌}
use mathlib.Core.Logic.{◌≢◌, ⊎_elim, ◌↔◌}
use mathlib.Core.Bool.{Bool, true, false, ◌&&◌, ◌||◌, not, and_comm, or_comm}
use mathlib.Core.List.{List, [], ◌∷◌}
use Prim.Native.Nat.{ℕ, zero, suc, ◌+◌, ◌-◌, ◌≤◌, ◌<◌}
use native.Mathlib.Omega.{arith}
use native.Mathlib.Decide.{dec_lt, ℕ_discrete}
use lib.Dec.{eqb, leb}
use lib.ListN.{get_or}
use borrow.Author.Tests.{eqb-true, eqb-false, ne_eqb, leb-true, leb-false, not-false}
use Rattle.laws.proofs.Tables.{by_cases, and_left, and_right, or-neither, none-at, every-at, every-all, not-true, true-not-false}
use Rattle.laws.proofs.Parts.{part_at, part-part, same_bytes, bytes_same}
use Rattle.laws.proofs.Fields.{field-part}
use Rattle.laws.proofs.Tabulated.{tabulate-at}
use Rattle.laws.proofs.Scanned.{Fit, link-cases, whole-fits}
use Rattle.model.specs.Tables.{Row, first_of, every, smaller}
use Rattle.model.specs.Bytes.{field, byte_at, part, equal_bytes}
use Rattle.model.specs.Geometry.{geometry_of, valid_volume}
use Rattle.model.specs.Item.{record_of, payload_of}
use Rattle.model.specs.Index.{entry_of}
use Rattle.model.specs.Scan.{enter_record, linked, log_record, log_index, valid_log, valid_notes, gone}
use Rattle.reports.specs.Mirror.{same_change, record_in, durable_in, common_from, common_of, touched_in, mirror_rows}
use Rattle.reports.specs.Mirror.{comparison, mirror_of, mirror_refusal, exchanged, listed, CommonRecords, MirrorClaim}
use Rattle.model.specs.declared.{item.LogRecord.LogRecord, state.Entry.Entry}

-- ---- bytes

bytes-swap : (xs ys : List ℕ) → equal_bytes xs ys ≡ equal_bytes ys xs
bytes-swap xs ys = by_cases (equal_bytes xs ys)
    (λ t. let e = same_bytes xs ys t in rw e)
    (λ t. by_cases (equal_bytes ys xs) (λ u. absurd (let e = same_bytes ys xs u in true-not-false (rw e (bytes_same xs)) t)) (λ u. t ∙ sym u))

-- ---- the common beginning

smaller-facts : (a b : ℕ) → (smaller a b ≤ a) × (smaller a b ≤ b) × ((k : ℕ) → k < a → k < b → k < smaller a b)
smaller-facts a b = by_cases (leb a b)
    (λ t. let l : a ≤ b = leb-true a b t in rw t (omega arith, l, λ k x y. x))
    (λ t. let l : b < a = leb-false a b t in rw t (omega arith, omega arith, λ k x y. y))

smaller-swap : (a b : ℕ) → smaller a b ≡ smaller b a
smaller-swap a b =
    let f = smaller-facts a b in
    let g = smaller-facts b a in
    go (smaller a b) (smaller b a) f.0 f.1 g.0 g.1 f.2 g.2
  where
    go : (x y : ℕ) → x ≤ a → x ≤ b → y ≤ b → y ≤ a → ((k : ℕ) → k < a → k < b → k < x) → ((k : ℕ) → k < b → k < a → k < y) → x ≡ y
    go x y xa xb yb ya f g = elim (dec_lt x y) [
      | yes l ↦ absurd (let z = f x (omega arith) (omega arith) in omega arith)
      | no l ↦ elim (dec_lt y x) [ yes m ↦ absurd (let z = g y (omega arith) (omega arith) in omega arith) | no m ↦ omega arith ]
    ]

record Run (v w : List ℕ) (most k c : ℕ) : Type 0 where
  low : k ≤ c
  high : c ≤ k + most
  same : (n : ℕ) → k < n → n ≤ c → same_change (record_in v n) (record_in w n) ≡ true
  next : c < k + most → same_change (record_in v (suc c)) (record_in w (suc c)) ≡ false

run_of : (most : ℕ) (v w : List ℕ) (k : ℕ) → Run v w most k (common_from most v w k)
unfolding common_from
run_of zero v w k = record { low = omega arith; high = omega arith; same = λ n a b. absurd (omega arith); next = λ a. absurd (omega arith) }
run_of (suc most) v w k =
    let i = run_of most v w (suc k) in
    by_cases (same_change (record_in v (suc k)) (record_in w (suc k)))
    (λ t. rw t (record {
      low = omega (arith, i.low);
      high = omega (arith, i.high);
      same = λ n a b. elim (ℕ_discrete n (suc k)) [ yes e ↦ rw e t | no z ↦ i.same n (omega arith) b ];
      next = λ a. i.next (omega (arith, a));
    }))
    (λ t. rw t (record { low = omega arith; high = omega arith; same = λ n a b. absurd (omega arith); next = λ a. t }))

pub common : (v w : List ℕ) → CommonRecords v w (common_of v w)
common v w =
    let f = smaller-facts (durable_in v) (durable_in w) in
    let r = run_of (smaller (durable_in v) (durable_in w)) v w 0 in
    record {
      few = (omega (arith, f.0, r.high), omega (arith, f.1, r.high));
      same = λ n a b. r.same n a b;
      next = λ a b. let s = f.2 (common_of v w) a b in r.next (omega (arith, s));
    }

common-swap : (most : ℕ) (v w : List ℕ) (k : ℕ) → common_from most w v k ≡ common_from most v w k
unfolding common_from
common-swap zero v w k = refl
common-swap (suc most) v w k =
    rw (bytes-swap (part (record_in w (suc k)) 8 52) (part (record_in v (suc k)) 8 52), common-swap most v w (suc k))

common-same : (v w : List ℕ) → common_of w v ≡ common_of v w
common-same v w = rw (smaller-swap (durable_in w) (durable_in v)) (common-swap (smaller (durable_in v) (durable_in w)) v w 0)

-- ---- the answer

-- a comparison that is none of a refusal
compared : (k n m : ℕ) → mirror_refusal (comparison k n m) ≡ 0
unfolding comparison
compared k n m = by_cases (eqb k n)
    (λ t. rw t (by_cases (eqb k m) (λ u. rw u) (λ u. rw u)))
    (λ t. rw t (by_cases (eqb k m) (λ u. rw u) (λ u. rw u)))

comparison-swap : (k n m : ℕ) → comparison k m n ≡ exchanged (comparison k n m)
unfolding comparison
comparison-swap k n m = by_cases (eqb k n)
    (λ t. rw t (by_cases (eqb k m) (λ u. rw u) (λ u. rw u)))
    (λ t. rw t (by_cases (eqb k m) (λ u. rw u) (λ u. rw u)))

module _ (v w : List ℕ) where
  rows-swap : first_of (mirror_rows w v) ≡ first_of (mirror_rows v w)
  unfolding mirror_rows
  rows-swap =
      rw (
        and_comm (valid_volume w) (valid_volume v),
        and_comm (valid_log (geometry_of w) w) (valid_log (geometry_of v) v),
        and_comm (valid_notes (geometry_of w) w) (valid_notes (geometry_of v) v),
        or_comm (gone (geometry_of w) w) (gone (geometry_of v) v),
      )

  touched-swap : ◌≡◌ {A = ℕ → Bool} (λ i. touched_in (geometry_of w) w (durable_in w) (common_of v w) (suc i)
      || touched_in (geometry_of v) v (durable_in v) (common_of v w) (suc i))
      (λ i. touched_in (geometry_of v) v (durable_in v) (common_of v w) (suc i)
      || touched_in (geometry_of w) w (durable_in w) (common_of v w) (suc i))
  touched-swap = λ k. λ i. or_comm (touched_in (geometry_of w) w (durable_in w) (common_of v w) (suc i))
      (touched_in (geometry_of v) v (durable_in v) (common_of v w) (suc i)) k

  pub symmetry : ((mirror_of w v).answer ≡ exchanged (mirror_of v w).answer) × ((mirror_of w v).touched ≡ (mirror_of v w).touched)
  unfolding mirror_of
  symmetry = rw (rows-swap, common-same v w) (by_cases (eqb (first_of (mirror_rows v w)) 0)
      (λ t. rw t (comparison-swap (common_of v w) (durable_in v) (durable_in w), rw touched-swap))
      (λ t. rw t (refl, refl)))

  pub number_is : mirror_refusal (mirror_of v w).answer ≡ first_of (mirror_rows v w)
  unfolding mirror_of
  number_is = by_cases (eqb (first_of (mirror_rows v w)) 0)
      (λ t. let e : first_of (mirror_rows v w) ≡ 0 = eqb-true _ _ t in rw t (compared (common_of v w) (durable_in v) (durable_in w) ∙ sym e))
      (λ t. rw t)

  pub answer-is : mirror_refusal (mirror_of v w).answer ≡ 0 → (mirror_of v w).answer ≡ comparison (common_of v w) (durable_in v) (durable_in w)
  unfolding mirror_of
  answer-is z = let e : first_of (mirror_rows v w) ≡ 0 = sym number_is ∙ z in rw e

  pub listed-is : mirror_refusal (mirror_of v w).answer ≡ 0 → (p : ℕ) → 1 ≤ p → p ≤ 64
      → listed v w p ≡ (touched_in (geometry_of v) v (durable_in v) (common_of v w) p
      || touched_in (geometry_of w) w (durable_in w) (common_of v w) p)
  unfolding mirror_of
  listed-is z p lo hi =
      let e : first_of (mirror_rows v w) ≡ 0 = sym number_is ∙ z in
      let m : suc (p - 1) ≡ p = omega arith in
      rw (
        e,
        tabulate-at 64 (p - 1) (λ i. touched_in (geometry_of v) v (durable_in v) (common_of v w) (suc i)
            || touched_in (geometry_of w) w (durable_in w) (common_of v w) (suc i)) false (omega arith),
        m,
      )

  -- both restart, and record 1 is in both
  pub record Both : Type 0 where
    pub volumes : (valid_volume v ≡ true) × (valid_volume w ≡ true)
    pub logs : (valid_log (geometry_of v) v ≡ true) × (valid_log (geometry_of w) w ≡ true)
    pub here : (gone (geometry_of v) v ≡ false) × (gone (geometry_of w) w ≡ false)

  pub both : mirror_refusal (mirror_of v w).answer ≡ 0 → Both
  unfolding mirror_rows
  both z =
      let rows : List Row = (not (valid_volume v && valid_volume w), 1) ∷ (not (valid_log (geometry_of v) v && valid_log (geometry_of w) w), 17)
      ∷ (not (valid_notes (geometry_of v) v && valid_notes (geometry_of w) w), 18)
      ∷ (gone (geometry_of v) v || gone (geometry_of w) w, 24) ∷ [] in
      let none = none-at rows (omega arith) (sym number_is ∙ z) in
      let a = not-false _ (none 0) in
      let b = not-false _ (none 1) in
      record {
        volumes = (and_left (valid_volume v) (valid_volume w) a, and_right (valid_volume v) (valid_volume w) a);
        logs = (
          and_left (valid_log (geometry_of v) v) (valid_log (geometry_of w) w) b,
          and_right (valid_log (geometry_of v) v) (valid_log (geometry_of w) w) b,
        );
        here = or-neither (gone (geometry_of v) v) (gone (geometry_of w) w) (none 3);
      }

-- a page that no record behind number k is of
untouched : (v : List ℕ) (k p : ℕ)
    → (touched_in (geometry_of v) v (durable_in v) k p ≡ false) ↔ ((n : ℕ) → k < n → n ≤ durable_in v → (log_record (geometry_of v) v n).page ≢ p)
unfolding touched_in
untouched v k p = (
  λ t n a b e.
      let all : every (durable_in v - k) (λ i. not (eqb (log_record (geometry_of v) v (k + suc i)).page p)) ≡ true = not-false _ t in
      let m : k + suc (n - suc k) ≡ n = omega arith in
      let z = every-at (λ i. not (eqb (log_record (geometry_of v) v (k + suc i)).page p)) (durable_in v - k) all (n - suc k) (omega arith) in
      let y : not (eqb (log_record (geometry_of v) v n).page p) ≡ true = rw m at z in
      eqb-false (log_record (geometry_of v) v n).page p (not-true _ y) e,
  λ h. rw (every-all (λ i. not (eqb (log_record (geometry_of v) v (k + suc i)).page p)) (durable_in v - k)
      (λ i b. rw (ne_eqb (log_record (geometry_of v) v (k + suc i)).page p (h (k + suc i) (omega arith) (omega arith))))),
)

pub listed-exact : (v w : List ℕ) (p : ℕ) → mirror_refusal (mirror_of v w).answer ≡ 0 → 1 ≤ p → p ≤ 64
    → (listed v w p ≡ false)
    ↔ ((n : ℕ) → common_of v w < n
    → (n ≤ durable_in v → (log_record (geometry_of v) v n).page ≢ p) × (n ≤ durable_in w → (log_record (geometry_of w) w n).page ≢ p))
listed-exact v w p z lo hi =
    let k = common_of v w in
    let e = listed-is v w z p lo hi in (
      λ t n a.
          let o = or-neither (touched_in (geometry_of v) v (durable_in v) k p) (touched_in (geometry_of w) w (durable_in w) k p) (sym e ∙ t) in
          ((untouched v k p).0 o.0 n a, (untouched w k p).0 o.1 n a),
      λ h. e ∙ rw ((untouched v k p).1 (λ n a. (h n a).0), (untouched w k p).1 (λ n a. (h n a).1)),
    )

-- ---- the records up to there

-- the fields and the payload that a change's 52 bytes hold
module _ (r t : List ℕ) (h : part r 8 52 ≡ part t 8 52) where
  pub field-same : (k j : ℕ) → j + k ≤ 52 → field k (8 + j) r ≡ field k (8 + j) t
  field-same k j l = sym (field-part k j 52 8 r l) ∙ ap (λ (x : List ℕ). field k j x) h ∙ field-part k j 52 8 t l

  pub byte-same : (j : ℕ) → j < 52 → byte_at r (8 + j) ≡ byte_at t (8 + j)
  byte-same j l = sym (part_at r 8 52 j l) ∙ ap (λ (x : List ℕ). get_or x j 0) h ∙ part_at t 8 52 j l

  pub payload_same : payload_of r ≡ payload_of t
  payload_same = sym (part-part r 8 52 8 44 (omega arith)) ∙ ap (λ (x : List ℕ). part x 8 44) h ∙ part-part t 8 52 8 44 (omega arith)

  -- with number and previous number the same, the record is
  pub record_same : (record_of r).lsn ≡ (record_of t).lsn → (record_of r).prev ≡ (record_of t).prev → record_of r ≡ record_of t
  unfolding record_of
  record_same a b =
      λ i. record {
        lsn = a i;
        prev = b i;
        page = field-same 2 0 (omega arith) i;
        kind = byte-same 2 (omega arith) i;
        length = byte-same 3 (omega arith) i;
        offset = field-same 2 4 (omega arith) i;
        fill = byte-same 6 (omega arith) i;
      }

-- in a run from 1 on, the previous number is the last one
linked-one : (last : ℕ) (e : LogRecord) → linked 1 last e ≡ true → e.prev ≡ last
linked-one last e h = ⊎_elim (λ q. q) (λ q. absurd (omega (arith, q.1, q.2))) (link-cases 1 last e h)

module _ (v w : List ℕ) (z : mirror_refusal (mirror_of v w).answer ≡ 0) where
  fit-v : (i : ℕ) → i < durable_in v → Fit (geometry_of v) v 1 i
  fit-v = let b = both v w z in whole-fits (geometry_of v) v b.here.0 b.logs.0

  fit-w : (i : ℕ) → i < durable_in w → Fit (geometry_of w) w 1 i
  fit-w = let b = both v w z in whole-fits (geometry_of w) w b.here.1 b.logs.1

  change-same : (n : ℕ) → 1 ≤ n → n ≤ common_of v w → part (record_in v n) 8 52 ≡ part (record_in w n) 8 52
  change-same n l m = same_bytes (part (record_in v n) 8 52) (part (record_in w n) 8 52) ((common v w).same n l m)

  page-same : (n : ℕ) → 1 ≤ n → n ≤ common_of v w → (log_record (geometry_of v) v n).page ≡ (log_record (geometry_of w) w n).page
  unfolding record_of
  page-same n l m = field-same (record_in v n) (record_in w n) (change-same n l m) 2 0 (omega arith)

  -- equal pages so far: an equal index
  index_same : (c : ℕ) → c ≤ common_of v w → log_index (geometry_of v) v 1 c ≡ log_index (geometry_of w) w 1 c
  unfolding log_index
  index_same zero m = refl
  index_same (suc c) m =
      ap (λ (x : List Entry). enter_record x (log_record (geometry_of v) v (1 + c)).page (1 + c)) (index_same c (omega arith))
      ∙ ap (λ (p : ℕ). enter_record (log_index (geometry_of w) w 1 c) p (1 + c)) (page-same (1 + c) (omega arith) (omega arith))

  -- so an equal previous number
  prev-same : (c : ℕ) → suc c ≤ common_of v w → (log_record (geometry_of v) v (1 + c)).prev ≡ (log_record (geometry_of w) w (1 + c)).prev
  prev-same c m =
      let f = (common v w).few in
      linked-one _ (log_record (geometry_of v) v (1 + c)) (fit-v c (omega (arith, f.0))).links
      ∙ (ap (λ (x : List Entry). (entry_of x (log_record (geometry_of v) v (1 + c)).page).last) (index_same c (omega arith))
      ∙ (ap (λ (p : ℕ). (entry_of (log_index (geometry_of w) w 1 c) p).last) (page-same (1 + c) (omega arith) (omega arith))
      ∙ sym (linked-one _ (log_record (geometry_of w) w (1 + c)) (fit-w c (omega (arith, f.1))).links)))

  lsn-same : (c : ℕ) → suc c ≤ common_of v w → (log_record (geometry_of v) v (1 + c)).lsn ≡ (log_record (geometry_of w) w (1 + c)).lsn
  lsn-same c m = let f = (common v w).few in (fit-v c (omega (arith, f.0))).lsn-is ∙ sym (fit-w c (omega (arith, f.1))).lsn-is

  pub whole : (n : ℕ) → 1 ≤ n → n ≤ common_of v w
      → (record_of (record_in v n) ≡ record_of (record_in w n)) × (payload_of (record_in v n) ≡ payload_of (record_in w n))
  whole zero l m = absurd (omega arith)
  whole (suc c) l m =
      let s : 1 + c ≡ suc c = omega arith in
      let e = change-same (suc c) l m in (
        record_same (record_in v (suc c)) (record_in w (suc c)) e (rw s at (lsn-same c m)) (rw s at (prev-same c m)),
        payload_same (record_in v (suc c)) (record_in w (suc c)) e,
      )

pub mirror : MirrorClaim
mirror = record { symmetry = symmetry; common = common; listed = listed-exact; whole = whole }

-- The scan of a volume that holds a list of changes: the count and the run of the log that it gives back, and the index that the run says.
use mathlib.Core.Path.{◌≡◌, refl, sym, ap, ◌∙◌}
use mathlib.Core.Logic.{⊎_elim}
use mathlib.Core.Bool.{Bool, true, false, cond, ◌&&◌, ◌||◌}
use mathlib.Core.List.{List}
use Prim.Native.Nat.{ℕ, zero, suc, ◌+◌, ◌-◌, ◌*◌, ◌≤◌, ◌<◌}
use native.Mathlib.Omega.{arith}
use native.Mathlib.Decide.{dec_lt, ℕ_discrete}
use lib.ListN.{length}
use lib.Dec.{eqb, leb, ltb}
use borrow.Author.Tests.{eq-eqb, le-leb, lt-ltb, ltb-true, ltb-false, leb-true}
use Rattle.laws.proofs.Tables.{by_cases, and_both, and_right, or_left, or_right, every-all, within-holds}
use Rattle.laws.proofs.Ring.{Start}
use Rattle.laws.proofs.Places.{item-length}
use Rattle.laws.proofs.Zeros.{zero_is, zero-fails}
use Rattle.model.specs.Tables.{within}
use Rattle.model.specs.Bytes.{field, part, all_zero}
use Rattle.model.specs.Checksum.{sealed}
use Rattle.model.specs.Change.{kind_of}
use Rattle.model.specs.Geometry.{tag_of, record_at, start, item, ring, log_slot}
use Rattle.model.specs.Item.{record_of, record_for}
use Rattle.model.specs.Index.{entry_of}
use Rattle.model.specs.Scan.{log_record, durable_count, first_held, log_index, record_fits, valid_log, gone, indexed_run, count_in, first_in}
use Rattle.model.specs.AbstractLog.{Logged}
use Rattle.model.specs.declared.{geometry.Geometry.Geometry, geometry.Heading.TheVariants.Second, item.Note.Note}
use Rattle.model.specs.declared.{item.LogRecord.LogRecord, state.Entry.Entry}
use Rattle.history.proofs.Logs.{at, last_at, last-hit, last-miss, last-le, last-zero}
use Rattle.history.proofs.Marks.{no_mark}
use Rattle.history.proofs.Entries.{entry_from, Tabled, tabled_start, tabled-set}
use Rattle.history.proofs.Leaf.{RecordIs}
use Rattle.history.proofs.Records.{rec_of, rec_of-is}
use Rattle.history.proofs.Sections.{Sized, volume-sized, volume-size, most-high, most-plain}
use Rattle.history.proofs.Runs.{section-start, section-count, section-ends}
use Rattle.history.proofs.Disk.{Stands, Spare, Holds, Noted}

-- the items of a section are parts at equal distances
record-part : (g : Geometry) (v : List ℕ) (i : ℕ) → part v (start g (record_at 1) + (60 + 4) * i) (60 + 4) ≡ item g v (record_at (suc i))
unfolding item
record-part g v i =
    let e : start g (record_at 1) + (60 + 4) * i ≡ start g (record_at (suc i)) = omega arith in
    ap (λ (k : ℕ). part v k 64) e

-- a zero item fails its check
pub fails-zero : (c n : ℕ) (xs : List ℕ) → length xs ≡ n → c ≤ n → all_zero xs ≡ true → sealed c xs ≡ false
fails-zero c n xs e h z = rw (zero_is xs z) (zero-fails c (length xs) (omega arith))

-- a number of a run that starts at suc f; 0 for one below it
abbrev pub in_run : ℕ → ℕ → ℕ
in_run f n = cond (ltb f n) n 0

pub run-yes : (f n : ℕ) → f < n → in_run f n ≡ n
run-yes f n h = rw (lt-ltb f n h)

pub run-no : (f n : ℕ) → n ≤ f → in_run f n ≡ 0
run-no f n h = by_cases (ltb f n) (λ t. absurd (let l : f < n = ltb-true f n t in omega arith)) (λ t. rw t)

record-number : (r : List ℕ) → field 4 0 r ≡ (record_of r).lsn
unfolding record_of
record-number r = refl

pub add-suc : (f c : ℕ) → f + suc c ≡ suc (f + c)
add-suc f c = omega arith

pub suc-add : (f c : ℕ) → suc f + c ≡ suc (f + c)
suc-add f c = omega arith

-- slots are written in order of number, so a ring of one slot holds its last item
ring-two : (g : Geometry) → ring g ≡ true → 2 ≤ g.records
ring-two g t = leb-true 2 g.records (and_right (eqb g.tag (tag_of Second)) (leb 2 g.records) t)

module _ {C : Type 0} (g : Geometry) (v : List ℕ) (l : List Logged) (h : Holds g v l) (ns : List Note) (o : Noted C g v l ns) where
  sz : Sized g
  sz = volume-sized g v h.vol

  pub rec-at : (i : ℕ) → i < length l
      → RecordIs (rec_of l i) (suc i) (last_at (at l i).page l i) (at l i).page (at l i).change (at l i).bytes
  rec-at i b = rec_of-is g.pages l i sz.p-high (omega (arith, h.room, most-high g sz)) (h.fair i b)

  log-room : ring g ≡ false → length l ≤ g.records
  log-room t = omega (arith, h.room, most-plain g sz t)

  log-start : (f : ℕ) × (first_held g v (length l) ≡ suc f) × Start g.records (length l) f (Stands g v l) (Spare l ns)
  unfolding first_held first_in
  log-start =
      section-start g v record_at 60 g.records (length l) (ring g) (rec_of l) (Spare l ns) o.run
      (λ i b. (rec-at i b).sealed-is) log-room (λ a. sz.l-low)

  -- the run starts at number suc first
  pub first : ℕ
  first = log-start.0

  pub first-is : first_held g v (length l) ≡ suc first
  unfolding first
  first-is = log-start.1

  pub started : Start g.records (length l) first (Stands g v l) (Spare l ns)
  unfolding first
  started = log-start.2

  log-top : 1 ≤ length l → item g v (log_slot g (suc (length l - 1))) ≡ rec_of l (length l - 1)
  log-top a = elim (dec_lt (length l) (length l - 1 + g.records)) [
    | yes y ↦ o.run.held (length l - 1) (omega arith) y
    | no z ↦ ⊎_elim (λ w. w) (λ t. absurd (omega (arith, ring-two g t.0, sz.l-low)))
        (o.run.oldest (length l - 1) (omega arith) (omega (arith, sz.l-low)))
  ]

  log-number : (i : ℕ) → i < length l → field 4 0 (rec_of l i) ≡ suc i
  log-number i b = record-number (rec_of l i) ∙ ap (λ (y : LogRecord). y.lsn) (rec-at i b).fields

  log-zeros : (i : ℕ) → 1 ≤ i → i ≤ g.records → all_zero (item g v (record_at i)) ≡ true → sealed 60 (item g v (record_at i)) ≡ false
  log-zeros i a b z =
      fails-zero 60 64 (item g v (record_at i)) (item-length g v (volume-size g v h.vol) (record_at i) (a, b)) (omega arith) z

  pub durable-count : durable_count g v ≡ length l
  unfolding durable_count count_in
  durable-count =
      section-count g v record_at 60 g.records (length l) (ring g) (rec_of l) (Spare l ns) o.run
      (λ i b. (rec-at i b).sealed-is) log-room (λ a. sz.l-low)
      log-number log-top h.tail log-zeros (start g (record_at 1)) (record-part g v)

  -- record i + 1 as it is read
  pub record-read : (i : ℕ) → i < length l → first ≤ i
      → log_record g v (suc i) ≡ record_for (suc i) (last_at (at l i).page l i) (at l i).page (at l i).change
  record-read i b f = rw (started.held i b f) (rec-at i b).fields

  -- what the log's run says of a page after c of its records
  abbrev pub log_entry : ℕ → ℕ → Entry
  log_entry n p = entry_from (in_run first (last_at p l n)) (in_run first (last_at p l n)) no_mark

  log-index : (c : ℕ) → first + c ≤ length l → Tabled (log_index g v (suc first) c) (log_entry (first + c))
  unfolding log_index
  log-index zero b = tabled_start (log_entry (first + zero))
      (λ p. rw (run-no first (last_at p l (first + zero)) (omega (arith, last-le p l (first + zero)))))
  log-index (suc c) b =
      let i = first + c in
      let b' : first + c < length l = omega arith in
      let f = h.fair i b' in
      let q = (at l i).page in
      let x = log-index c (omega arith) in
      rw (suc-add first c, add-suc first c, record-read i b' (omega arith))
      (tabled-set (log_index g v (suc first) c) (log_entry i) (log_entry (suc i)) x q _ f.low (omega (arith, f.high, sz.p-high))
      (rw (x.entry q f.low (omega (arith, f.high, sz.p-high)), last-hit q l i refl, run-yes first (suc i) (omega arith)))
      (λ p ne. rw (last-miss p l i (λ e. ne (sym e)))))

  linked_to : (f prev : ℕ) → (eqb prev (in_run f prev) || (eqb (in_run f prev) 0 && within (suc f - 1) prev)) ≡ true
  linked_to f prev = elim (dec_lt f prev) [
    | yes y ↦ rw (run-yes f prev y, eq-eqb prev prev refl)
    | no z ↦ rw (run-no f prev (omega arith)) (elim (ℕ_discrete prev 0) [
      | yes e ↦ or_left _ (eq-eqb prev 0 e)
      | no e ↦ or_right (eqb prev 0) (and_both (eq-eqb 0 0 refl) (within-holds (suc f - 1) prev (omega arith) (omega arith)))
    ])
  ]

  record-fits : (i : ℕ) → first + i < length l → record_fits g v (suc first) (log_index g v (suc first) i) (suc first + i) ≡ true
  unfolding record_fits
  record-fits i b =
      let j = first + i in
      let f = h.fair j b in
      let q = (at l j).page in
      let e : (entry_of (log_index g v (suc first) i) q).last ≡ in_run first (last_at q l j) =
      ap (λ (y : Entry). y.last) ((log-index i (omega arith)).entry q f.low (omega (arith, f.high, sz.p-high))) in
      rw (suc-add first i, started.held j b (omega arith), (rec-at j b).fields)
      (and_both (rec-at j b).sealed-is (and_both (rec-at j b).layout (and_both (eq-eqb (suc j) (suc j) refl)
      (and_both (within-holds g.pages q f.low f.high)
      (rw e (and_both (linked_to first (last_at q l j)) (format-first (last_at q l j) (eqb (kind_of (at l j).change) 1) f.first)))))))
    where
      format-first : (n : ℕ) (t : Bool) → (n ≡ 0 → t ≡ true) → (t || leb 1 n) ≡ true
      format-first zero t k = or_left (leb 1 0) (k refl)
      format-first (suc n) t k = or_right t (le-leb 1 (suc n) (omega arith))

  pub valid-log : valid_log g v ≡ true
  unfolding valid_log
  valid-log =
      rw (durable-count, first-is) (and_both
      (every-all (λ i. record_fits g v (suc first) (log_index g v (suc first) i) (suc first + i)) (suc (length l) - suc first)
      (λ i b. record-fits i (omega arith)))
      (section-ends g v record_at 60 g.records (length l) (ring g) (rec_of l) (Spare l ns) o.run
      (λ i b. (rec-at i b).sealed-is) log-room (λ a. sz.l-low)
      log-number log-top h.tail log-zeros (start g (record_at 1)) (record-part g v) first started.ends))

  pub run_index : Tabled (indexed_run g v) (log_entry (length l))
  unfolding log_index
  run_index = rw (durable-count, first-is) (elim (ℕ_discrete (length l) 0) [
    | yes z ↦
        let e : suc (length l) - suc first ≡ 0 = omega arith in
        rw e (empty-run z)
    | no z ↦
        let i : first ≤ length l = started.inside (omega arith) in
        let e : suc (length l) - suc first ≡ length l - first = omega arith in
        let q : first + (length l - first) ≡ length l = omega arith in
        rw e (rw q at (log-index (length l - first) (omega arith)))
  ])
    where
      empty-run : length l ≡ 0 → Tabled (log_index g v (suc first) 0) (log_entry (length l))
      empty-run z = tabled_start (log_entry (length l)) (λ p. rw (z, last-zero p l, run-no first 0 (omega arith)))

  -- where record 1 has not left, the run starts at it or is empty
  pub not-gone : gone g v ≡ false → 1 ≤ length l → first ≡ 0
  unfolding gone
  not-gone t a =
      let q : (ltb 0 (length l) && ltb 1 (suc first)) ≡ false = rw (durable-count, first-is) at t in
      let r : ltb 1 (suc first) ≡ false = rw (lt-ltb 0 (length l) a) at q in
      let b : suc first ≤ 1 = ltb-false 1 (suc first) r in
      omega arith

-- What a log that restarts holds, on any bytes: each record of the run as the restart rule has it, a page's records, and what the index
-- says of them.
use mathlib.Core.Path.{◌≡◌, refl, sym, ap, ◌∙◌}
use mathlib.Core.Logic.{◌≢◌, ◌⊎◌, inl, inr, ⊎_elim}
use mathlib.Core.Bool.{true, false, cond, ◌&&◌, ◌||◌}
use mathlib.Core.List.{List, [], ◌∷◌}
use Prim.Native.Nat.{ℕ, zero, suc, ◌+◌, ◌-◌, ◌≤◌, ◌<◌}
use native.Mathlib.Omega.{arith}
use native.Mathlib.Decide.{ℕ_discrete}
use lib.Dec.{eqb, ltb}
use lib.ListN.{length, length-set, length-replicate}
use lib.Seq.{get_or-set_same, get_or-set_other}
use borrow.Author.Tests.{eqb-true, eq-eqb, ne_eqb, ltb-false, lt-ltb}
use Rattle.laws.proofs.Tables.{by_cases, all-at, and_left, and_right, or_cases, every-at, within-bounds, when_true, when_false}
use Rattle.laws.proofs.Tabulated.{replicate-at}
use Rattle.laws.proofs.Checksums.{run-most}
use Rattle.model.specs.Tables.{within}
use Rattle.model.specs.Checksum.{sealed}
use Rattle.model.specs.Geometry.{record_at, start, item, slot_of, log_slot, ring}
use Rattle.model.specs.Item.{record_of, record_layout, first_is_format}
use Rattle.model.specs.Index.{empty_entry, empty_index, entry_of}
use Rattle.model.specs.Scan.{Section, count_in, first_in, log_slots, log_record, durable_count, first_held, log_index, linked}
use Rattle.model.specs.Scan.{record_fits, valid_log, gone}
use Rattle.model.specs.declared.{geometry.Geometry.Geometry, item.LogRecord.LogRecord, state.Entry.Entry}

-- ---- the records of a run from number f on

pub record Fit (g : Geometry) (v : List ℕ) (f i : ℕ) : Type 0 where
  pub sealed-is : sealed 60 (item g v (log_slot g (f + i))) ≡ true
  pub layout : record_layout (item g v (log_slot g (f + i))) ≡ true
  pub lsn-is : (log_record g v (f + i)).lsn ≡ f + i
  pub low : 1 ≤ (log_record g v (f + i)).page
  pub high : (log_record g v (f + i)).page ≤ g.pages
  pub links : linked f (entry_of (log_index g v f i) (log_record g v (f + i)).page).last (log_record g v (f + i)) ≡ true

fit : (g : Geometry) (v : List ℕ) (f i : ℕ) → record_fits g v f (log_index g v f i) (f + i) ≡ true → Fit g v f i
unfolding record_fits
fit g v f i h =
    let e = log_record g v (f + i) in
    let tests = sealed 60 (item g v (log_slot g (f + i))) ∷ record_layout (item g v (log_slot g (f + i))) ∷ eqb e.lsn (f + i)
    ∷ within g.pages e.page ∷ linked f (entry_of (log_index g v f i) e.page).last e ∷ [] in
    let w = within-bounds g.pages e.page (all-at tests 3 h) in
    record {
      sealed-is = all-at tests 0 h;
      layout = all-at tests 1 h;
      lsn-is = eqb-true _ _ (all-at tests 2 h);
      low = w.0;
      high = w.1;
      links = all-at tests 4 h;
    }

-- what a record's previous number is, of its page's last earlier record in a run from f on
abbrev pub Linked : ℕ → ℕ → ℕ → Type 0
Linked f last prev = (prev ≡ last) ⊎ ((last ≡ 0) × (1 ≤ prev) × (prev ≤ f - 1))

pub link-cases : (f last : ℕ) (e : LogRecord) → linked f last e ≡ true → Linked f last e.prev
link-cases f last e h =
    let other = eqb last 0 && within (f - 1) e.prev in
    ⊎_elim (λ t. inl (eqb-true _ _ t))
    (λ t.
    let w = within-bounds (f - 1) e.prev (and_right (eqb last 0) (within (f - 1) e.prev) t) in
    inr (eqb-true _ _ (and_left (eqb last 0) (within (f - 1) e.prev) t), w.0, w.1))
    (or_cases (eqb e.prev last) other (and_left (eqb e.prev last || other) (first_is_format e) h))

pub link-first : (f last : ℕ) (e : LogRecord) → linked f last e ≡ true → first_is_format e ≡ true
link-first f last e h = and_right (eqb e.prev last || (eqb last 0 && within (f - 1) e.prev)) (first_is_format e) h

-- of a valid log
pub log-fits : (g : Geometry) (v : List ℕ) → valid_log g v ≡ true → (i : ℕ) → i < suc (durable_count g v) - first_held g v (durable_count g v)
    → Fit g v (first_held g v (durable_count g v)) i
unfolding valid_log
log-fits g v h i b =
    let n = durable_count g v in
    let f = first_held g v n in
    fit g v f i (every-at (λ i. record_fits g v f (log_index g v f i) (f + i)) (suc n - f) (and_left _ _ h) i b)

-- ---- a page's records, the newest first

unfoldable pub down : Geometry → List ℕ → ℕ → ℕ → ℕ → List (List ℕ)
down g v p f zero = []
down g v p f (suc c) = cond (eqb (log_record g v (f + c)).page p) (item g v (log_slot g (f + c)) ∷ down g v p f c) (down g v p f c)

unfoldable pub first_lsn : List (List ℕ) → ℕ
first_lsn [] = 0
first_lsn (r ∷ rs) = (record_of r).lsn

pub index-length : (g : Geometry) (v : List ℕ) (f c : ℕ) → length (log_index g v f c) ≡ 64
unfolding log_index empty_index
index-length g v f zero = length-replicate {A = Entry} 64 empty_entry
index-length g v f (suc c) = length-set (log_index g v f c) ((log_record g v (f + c)).page - 1) _ ∙ index-length g v f c

-- what the index says of page p after c records of the run
pub record Newest (g : Geometry) (v : List ℕ) (f c p : ℕ) (e : Entry) : Type 0 where
  pub last-is : e.last ≡ first_lsn (down g v p f c)
  pub same : e.durable ≡ e.last
  pub low : e.last ≢ 0 → f ≤ e.last
  pub high : e.last < f + c
  pub page : e.last ≢ 0 → (log_record g v e.last).page ≡ p
  pub unmarked : (e.written ≡ 0) × (e.slot ≡ 0) × (e.backup ≡ 0)

module _ (g : Geometry) (v : List ℕ) (f : ℕ) (some : 1 ≤ f) (few : g.pages ≤ 64) (most : ℕ) (ok : (i : ℕ) → i < most → Fit g v f i) where
  pub newest : (c p : ℕ) → c ≤ most → 1 ≤ p → Newest g v f c p (entry_of (log_index g v f c) p)
  unfolding log_index empty_index down first_lsn
  newest zero p h l =
      rw (replicate-at 64 (p - 1) empty_entry)
      (record {
        last-is = refl;
        same = refl;
        low = λ z. absurd (z refl);
        high = omega arith;
        page = λ z. absurd (z refl);
        unmarked = (refl, refl, refl);
      })
  newest (suc c) p h l =
      let fi = ok c h in
      let q = (log_record g v (f + c)).page in
      let i = index-length g v f c in
      let k = newest c p (omega arith) l in
      elim (ℕ_discrete p q) [
        | yes y ↦
            let r : p - 1 < length (log_index g v f c) = omega (arith, fi.high, i) in
            let t : eqb q p ≡ true = eq-eqb q p (sym y) in
            let s = k.unmarked in
            rw (← y, get_or-set_same (log_index g v f c) (p - 1) _ empty_entry r)
            (record {
              last-is = sym (ap first_lsn (when_true (item g v (log_slot g (f + c)) ∷ down g v p f c) (down g v p f c) t) ∙ fi.lsn-is);
              same = refl;
              low = λ z. omega arith;
              high = omega arith;
              page = λ z. sym y;
              unmarked = s;
            })
        | no z ↦
            let ne : p - 1 ≢ q - 1 = λ e. z (omega (arith, fi.low)) in
            let t : eqb q p ≡ false = ne_eqb q p (λ e. z (sym e)) in
            rw (get_or-set_other (log_index g v f c) (q - 1) (p - 1) _ empty_entry ne)
            (record {
              last-is = k.last-is ∙ sym (ap first_lsn (when_false (item g v (log_slot g (f + c)) ∷ down g v p f c) (down g v p f c) t));
              same = k.same;
              low = k.low;
              high = omega (arith, k.high);
              page = k.page;
              unmarked = k.unmarked;
            })
      ]

-- ---- a log whose record 1 is there

-- a section's run starts at 1 or later
pub first-low : (s : Section) (n : ℕ) → 1 ≤ first_in s n
unfolding first_in
first-low s n =
    by_cases s.ring
    (λ t. rw t (by_cases (sealed s.size (s.slot (slot_of s.slots (suc (n - s.slots))))) (λ u. rw u (omega arith))
    (λ u. rw u (omega arith))))
    (λ t. rw t (omega arith))

pub held_low : (g : Geometry) (v : List ℕ) (n : ℕ) → 1 ≤ first_held g v n
unfolding first_held
held_low g v n = first-low (log_slots g v) n

module _ (g : Geometry) (v : List ℕ) (here : gone g v ≡ false) where
  pub whole-start : 1 ≤ durable_count g v → first_held g v (durable_count g v) ≡ 1
  unfolding gone
  whole-start a =
      let q : ltb 1 (first_held g v (durable_count g v)) ≡ false = rw (lt-ltb 0 (durable_count g v) a) at here in
      let b : first_held g v (durable_count g v) ≤ 1 = ltb-false 1 (first_held g v (durable_count g v)) q in
      omega (arith, held_low g v (durable_count g v))

  -- its records are as many as the run, and no more than the slots
  pub whole_run : suc (durable_count g v) - first_held g v (durable_count g v) ≡ durable_count g v
  whole_run = elim (ℕ_discrete (durable_count g v) 0) [
    | yes z ↦ omega (arith, held_low g v (durable_count g v))
    | no z ↦ omega (arith, whole-start (omega arith))
  ]

  ring-few : ring g ≡ true → 1 ≤ durable_count g v → durable_count g v ≤ g.records
  unfolding first_held first_in
  ring-few t a =
      let n = durable_count g v in
      let s = sealed 60 (item g v (log_slot g (suc (n - g.records)))) in
      let e : cond s (suc (n - g.records)) (suc (suc (n - g.records))) ≡ 1 = rw t at (whole-start a) in
      by_cases s (λ u. let q : suc (n - g.records) ≡ 1 = rw u at e in omega arith)
      (λ u. let q : suc (suc (n - g.records)) ≡ 1 = rw u at e in absurd (omega arith))

  plain-few : ring g ≡ false → durable_count g v ≤ g.records
  unfolding durable_count count_in
  plain-few t = rw t (run-most 60 v g.records (start g (record_at 1)))

  pub whole-few : durable_count g v ≤ g.records
  whole-few = by_cases (ring g)
      (λ t. elim (ℕ_discrete (durable_count g v) 0) [ yes z ↦ omega arith | no z ↦ ring-few t (omega arith) ])
      plain-few

  pub whole-fits : valid_log g v ≡ true → (i : ℕ) → i < durable_count g v → Fit g v 1 i
  whole-fits ok i b =
      let e : first_held g v (durable_count g v) ≡ 1 = whole-start (omega arith) in
      rw e at (log-fits g v ok i (omega (arith, whole_run)))

-- The figures of the forecast are those of inspection, on any volume: the proof of `ForecastClaim`. What is seen of an image is shown in
-- `Scans`.
use mathlib.Core.Path.{◌≡◌, refl, sym, ◌∙◌}
use mathlib.Core.Logic.{◌⊎◌, ⊎_elim, ◌≢◌}
use mathlib.Core.Bool.{Bool, true, false, cond, not}
use mathlib.Core.List.{List}
use Prim.Native.Nat.{ℕ, zero, suc, ◌-◌, ◌≤◌, ◌<◌}
use native.Mathlib.Omega.{arith}
use native.Mathlib.Decide.{dec_lt}
use lib.Dec.{eqb}
use lib.ListN.{length}
use borrow.Author.Tests.{eqb-true, eq-eqb, lt-ltb, le-ltb, not-false}
use Rattle.laws.proofs.Tables.{by_cases, none-at, within-bounds}
use Rattle.laws.proofs.Places.{valid-facts}
use Rattle.laws.proofs.Tabulated.{tabulate-at, tabulate-past, replicate-at}
use Rattle.reports_laws.proofs.Scans.{page-judged, slot-judged}
use Rattle.model.specs.Tables.{first_of, within}
use Rattle.model.specs.Geometry.{geometry_of, valid_volume}
use Rattle.model.specs.Scan.{valid_log, valid_notes}
use Rattle.model.specs.Repair.{walk_from, walk_of, own_start, backup_start, repair_of, is_below}
use Rattle.model.specs.Refusals.{inspect_rows}
use Rattle.reports.specs.Reading.{scan_rows, Restarts, page_view}
use Rattle.model.specs.Restart.{inspect_of}
use Rattle.reports.specs.Forecast.{figure_of, counted, forecast_at, forecast_of, forecast_row, figure_in, Asked, ForecastClaim}
use Rattle.model.specs.declared.answer.Answer.TheVariants.{Refused, Repaired}

-- ---- figures

-- a walk of no steps
pub no_steps : (d : ℕ) (log : ℕ → List ℕ) (first p own b : ℕ) → d ≡ 0 → figure_of (walk_from d log first p own b d) ≡ counted 0
unfolding walk_from
no_steps zero log first p own b e = refl
no_steps (suc d) log first p own b e = absurd (omega arith)

-- ---- rows

-- a volume that restarts
pub record Scanned (v : List ℕ) : Type 0 where
  pub volume : valid_volume v ≡ true
  pub log : valid_log (geometry_of v) v ≡ true
  pub notes : valid_notes (geometry_of v) v ≡ true

pub scanned : (v : List ℕ) → Restarts v → Scanned v
scanned v h =
    let none = none-at (scan_rows v) (omega arith) h in
    record { volume = not-false _ (none 0); log = not-false _ (none 1); notes = not-false _ (none 2) }

pub row_is : (v : List ℕ) → Restarts v → (p : ℕ) → within (geometry_of v).pages p ≡ true
    → forecast_row v p ≡ figure_of (walk_of (geometry_of v) p (page_view v p))
unfolding forecast_of
row_is v h p t =
    let b = within-bounds (geometry_of v).pages p t in
    let high : (geometry_of v).pages ≤ 64 = (valid-facts v (scanned v h).volume).p-high in
    let e : suc (p - 1) ≡ p = omega (arith, b.0) in
    rw (
      h,
      tabulate-at 64 (p - 1) (λ i. forecast_at v i) (counted 0) (omega (arith, b.0, b.1)),
      lt-ltb (p - 1) (geometry_of v).pages (omega (arith, b.0, b.1)),
      e,
    )

pub past : (v : List ℕ) (p : ℕ) → (geometry_of v).pages < p → forecast_row v p ≡ counted 0
unfolding forecast_of
past v p l = by_cases (eqb (first_of (scan_rows v)) 0)
    (λ t. rw t (elim (dec_lt (p - 1) 64) [
      | yes y ↦ rw (tabulate-at 64 (p - 1) (λ i. forecast_at v i) (counted 0) y, le-ltb (p - 1) (geometry_of v).pages (omega arith))
      | no z ↦ tabulate-past 64 (p - 1) (λ i. forecast_at v i) (counted 0) (omega arith)
    ]))
    (λ t. rw t (replicate-at 64 (p - 1) (counted 0)))

-- ---- inspection

module _ (v : List ℕ) (p : ℕ) where
  abbrev pub number : List ℕ → ℕ
  number buffer = first_of (inspect_rows v p (length buffer))

  pub answer-is : (buffer : List ℕ) → (inspect_of v p buffer).answer
      ≡ cond (eqb (number buffer) 0) (Repaired (repair_of (geometry_of v) p (page_view v p))) (Refused (number buffer))
  unfolding inspect_of
  answer-is buffer = by_cases (eqb (number buffer) 0) (λ t. rw t) (λ t. rw t)

  refused-is : (buffer : List ℕ) (n : ℕ) → (inspect_of v p buffer).answer ≡ Refused n → number buffer ≡ n
  refused-is buffer n e = by (eqb (number buffer) 0) (sym (answer-is buffer) ∙ e)
    where
      by : (t : Bool) → cond t (Repaired (repair_of (geometry_of v) p (page_view v p))) (Refused (number buffer)) ≡ Refused n
          → number buffer ≡ n
      by true q = let z : ◌≡◌ {A = ℕ} 0 1 = cc in absurd (omega arith)
      by false q = cc

-- a number that is none of the first five rows'
reach : (a b c d e : Bool) (rest n : ℕ) → cond a 1 (cond b 2 (cond c 3 (cond d 17 (cond e 18 rest)))) ≡ n
    → n ≢ 1 → n ≢ 2 → n ≢ 3 → n ≢ 17 → n ≢ 18 → (a ≡ false) × (b ≡ false) × (c ≡ false) × (d ≡ false) × (e ≡ false) × (rest ≡ n)
reach true b c d e rest n h n1 n2 n3 n17 n18 = absurd (n1 (sym h))
reach false true c d e rest n h n1 n2 n3 n17 n18 = absurd (n2 (sym h))
reach false false true d e rest n h n1 n2 n3 n17 n18 = absurd (n3 (sym h))
reach false false false true e rest n h n1 n2 n3 n17 n18 = absurd (n17 (sym h))
reach false false false false true rest n h n1 n2 n3 n17 n18 = absurd (n18 (sym h))
reach false false false false false rest n h n1 n2 n3 n17 n18 = (refl, refl, refl, refl, refl, h)

-- of the rows that a scan gives, the same
scan-number : (a b c d e : Bool) (rest n : ℕ) → cond a 1 (cond b 2 (cond c 3 (cond d 17 (cond e 18 rest)))) ≡ n
    → rest ≢ 1 → rest ≢ 17 → rest ≢ 18
    → (n ≡ 1) ⊎ ((n ≡ 17) ⊎ (n ≡ 18)) → cond a 1 (cond d 17 (cond e 18 0)) ≡ n
scan-number true b c d e rest n h r1 r17 r18 k = h
scan-number false true c d e rest n h r1 r17 r18 k = absurd (⊎_elim (λ x. omega arith) (⊎_elim (λ x. omega arith) (λ x. omega arith)) k)
scan-number false false true d e rest n h r1 r17 r18 k = absurd (⊎_elim (λ x. omega arith) (⊎_elim (λ x. omega arith) (λ x. omega arith)) k)
scan-number false false false true e rest n h r1 r17 r18 k = h
scan-number false false false false true rest n h r1 r17 r18 k = h
scan-number false false false false false rest n h r1 r17 r18 k =
    absurd (⊎_elim (λ x. r1 (h ∙ x)) (⊎_elim (λ x. r17 (h ∙ x)) (λ x. r18 (h ∙ x))) k)

module _ (v : List ℕ) (p : ℕ) (buffer : List ℕ) where
  -- the last two rows
  abbrev tail : ℕ
  tail = cond (eqb (page_view v p).durable 0) 7 (cond (is_below (walk_of (geometry_of v) p (page_view v p)).stop) 23 0)

  -- an inspection that reaches them
  pub reached : (n : ℕ) → number v p buffer ≡ n → n ≢ 1 → n ≢ 2 → n ≢ 3 → n ≢ 17 → n ≢ 18 → Asked v p buffer × (tail ≡ n)
  unfolding inspect_rows
  reached n e n1 n2 n3 n17 n18 =
      let g = geometry_of v in
      let q = reach (not (valid_volume v)) (not (eqb (length buffer) 256)) (not (within g.pages p)) (not (valid_log g v))
      (not (valid_notes g v)) tail n e n1 n2 n3 n17 n18 in (
        record { restarts = rw (q.0, q.3, q.4); page = not-false _ q.2; size = eqb-true _ _ (not-false _ q.1) },
        q.5,
      )

  -- and the other way round
  pub asked : Asked v p buffer → number v p buffer ≡ tail
  unfolding inspect_rows
  asked a =
      let s = scanned v a.restarts in
      rw (s.volume, eq-eqb (length buffer) 256 a.size, a.page, s.log, s.notes)

  -- inspection tells what its walk comes to
  pub walk-told : Asked v p buffer → figure_in (inspect_of v p buffer).answer ≡ figure_of (walk_of (geometry_of v) p (page_view v p))
  unfolding repair_of walk_of
  walk-told a =
      let w = page_view v p in
      let k = walk_of (geometry_of v) p w in
      rw (answer-is v p buffer, asked a) (by_cases (eqb w.durable 0)
      (λ t. rw t (sym (no_steps w.durable w.log w.first p (own_start (geometry_of v) p w) (backup_start (geometry_of v) p w)
      (eqb-true w.durable 0 t))))
      (λ t. rw t (by_cases (is_below k.stop) (λ u. rw u) (λ u. rw u))))

  pub exact : Asked v p buffer → forecast_row v p ≡ figure_in (inspect_of v p buffer).answer
  exact a = row_is v a.restarts p a.page ∙ sym (walk-told a)

  tail-not : (k : ℕ) → k ≢ 7 → k ≢ 23 → k ≢ 0 → tail ≢ k
  tail-not k n7 n23 n0 e = by_cases (eqb (page_view v p).durable 0)
      (λ t. n7 (sym e ∙ rw t))
      (λ t. by_cases (is_below (walk_of (geometry_of v) p (page_view v p)).stop) (λ u. n23 (sym e ∙ rw (t, u))) (λ u. n0 (sym e ∙ rw (t, u))))

  pub alike : (n : ℕ) → (inspect_of v p buffer).answer ≡ Refused n → (n ≡ 1) ⊎ ((n ≡ 17) ⊎ (n ≡ 18)) → first_of (scan_rows v) ≡ n
  unfolding inspect_rows
  alike n e k =
      let g = geometry_of v in
      scan-number (not (valid_volume v)) (not (eqb (length buffer) 256)) (not (within g.pages p)) (not (valid_log g v))
      (not (valid_notes g v)) tail n (refused-is v p buffer n e)
      (tail-not 1 (λ x. omega arith) (λ x. omega arith) (λ x. omega arith))
      (tail-not 17 (λ x. omega arith) (λ x. omega arith) (λ x. omega arith))
      (tail-not 18 (λ x. omega arith) (λ x. omega arith) (λ x. omega arith)) k

-- ---- the number

number-told : (v : List ℕ) → (forecast_of v).refusal ≡ first_of (scan_rows v)
unfolding forecast_of
number-told v = by_cases (eqb (first_of (scan_rows v)) 0) (λ t. rw t (sym (eqb-true (first_of (scan_rows v)) 0 t))) (λ t. rw t)

pub forecast : ForecastClaim
forecast =
    record {
      exact = exact;
      alike = λ v p buffer n e k. number-told v ∙ alike v p buffer n e k;
      past = past;
      page = page-judged;
      slot = slot-judged;
    }

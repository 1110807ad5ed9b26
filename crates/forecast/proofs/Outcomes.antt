-- What the definition of the forecast says in each of its cases.
use mathlib.Core.Path.{◌≡◌, refl, sym, ap, ◌∙◌, subst}
use mathlib.Core.Bool.{Bool, false, cond, not}
use mathlib.Core.List.{List}
use Prim.Native.Nat.{ℕ, suc, ◌+◌, ◌-◌, ◌<◌}
use native.Mathlib.Omega.{arith}
use lib.Dec.{eqb}
use lib.ListN.{length, replicate}
use borrow.Author.Tests.{eq-eqb, ne_eqb, eqb-true}
use Rattle.laws.proofs.Tables.{by_cases}
use Rattle.volume.proofs.Readings.{unknown-read}
use Rattle.reports_laws.proofs.Forecast.{scanned}
use Rattle.repair.proofs.Scanned.{scanned-ready}
use Rattle.repair.proofs.Unbroken.{scanned-whole}
use Rattle.model.specs.Tables.{first_of, tabulate}
use Rattle.model.specs.Geometry.{known_magic, geometry_of, valid_volume}
use Rattle.model.specs.Index.{entry_row, entry_of}
use Rattle.model.specs.Repair.{view_of, walk_of}
use Rattle.reports.specs.Reading.{Restarts}
use Rattle.reports.specs.Reading as model
use Rattle.reports.specs.Forecast.{counted, figure_of, forecast_of, figure_numbers, tell_rows, tell_forecast}
use Rattle.model.specs.declared.{geometry.Geometry.Geometry, state.Entry.Entry}
use Rattle.reports.specs.declared.reading.Figure.{Figure}
use Rattle.reports.specs.declared.reading.Forecast.{Forecast}
use Rattle.index.specs.Scanned.{scan_rows, scan_refusal, scanned_of}
use Rattle.index.specs.declared.Scanned.{Scanned}
use Rattle.volume.specs.declared.Volume.{Volume}
use Rattle.repair.specs.Walked.{Ready, Whole, walked_of}
use Rattle.repair.specs.declared.walk.Walked.{Walked}
use Rattle.forecast.specs.Figures.{Indexed, figure_as, figure_for, figure_in}

-- row i of the index is page i + 1's
next : (index : List Entry) (i : ℕ) → entry_of index (i + 1) ≡ entry_row index i
next index i = let e : i + 1 - 1 ≡ i = omega arith in ap (entry_row index) e

pub page-ready : (v : List ℕ) (g : Geometry) (first : ℕ) (index : List Entry) → Indexed v g first index → (i : ℕ) → i < g.pages
    → Ready g first (entry_row index i) (i + 1)
page-ready v g first index x i l =
    subst (λ (e : Entry). Ready g first e (i + 1)) (next index i) (x.ready (i + 1) (omega arith) (omega arith))

pub page-whole : (v : List ℕ) (g : Geometry) (first : ℕ) (index : List Entry) → Indexed v g first index → (i : ℕ)
    → Whole g (i + 1) (view_of g v first (entry_row index i) (i + 1))
page-whole v g first index x i =
    subst (λ (e : Entry). Whole g (i + 1) (view_of g v first e (i + 1))) (next index i) (x.whole (i + 1) (omega arith))

-- a walk's figure is that of its two numbers
pub page-figured : (g : Geometry) (v : List ℕ) (first : ℕ) (index : List Entry) (i : ℕ) (w : Walked) (f : Figure)
    → w ≡ walked_of g (i + 1) (view_of g v first (entry_row index i) (i + 1)) → f ≡ figure_as w → f ≡ figure_for g v first index (suc i)
unfolding walked_of
page-figured g v first index i w f ew ef =
    let e : i + 1 ≡ suc i = omega arith in
    ef ∙ ap figure_as ew
    ∙ ap (λ (x : Entry). figure_of (walk_of g (i + 1) (view_of g v first x (i + 1)))) (sym (next index i))
    ∙ ap (λ (p : ℕ). figure_for g v first index p) e

module _ (v : List ℕ) where
  -- a scan that refuses is the call's refusal, and its number is not 0
  pub refused : (n : ℕ) → n ≡ scan_refusal v → (n ≡ 0 → ⊥)
      → ◌≡◌ {A = Forecast} (record { refusal = n; pages = replicate 64 (counted 0) }) (forecast_of v)
  unfolding forecast_of scan_rows
  refused n e ne = rw (← e, ne_eqb n 0 ne)

  pub restarts : scan_refusal v ≡ 0 → Restarts v
  unfolding scan_rows
  restarts h = h

  module _ (u : Volume) (u-is : u.bytes.now ≡ v) (s : Scanned) (clean : 0 ≡ scan_refusal v) (s-is : s ≡ scanned_of v) where
    geometry-is : u.geometry ≡ geometry_of v
    geometry-is = u.read ∙ ap geometry_of u-is

    -- a clean scan's index is one by which each page's walk may be made
    pub indexed : Indexed u.bytes.now u.geometry s.first s.index
    indexed =
        let c = scanned v (restarts (sym clean)) in
        rw (geometry-is, u-is, s-is)
        (record {
          ready = λ p low high. scanned-ready v (geometry_of v) c.volume refl c.log p c.notes low high;
          whole = λ p low. scanned-whole v (geometry_of v) p c.volume refl c.log c.notes low;
        })

    -- and gives the rows
    pub done : (rows : List Figure) → rows ≡ tabulate 64 (λ i. figure_in u.geometry u.bytes.now s.first s.index i)
        → ◌≡◌ {A = Forecast} (record { refusal = 0; pages = rows }) (forecast_of v)
    unfolding forecast_of
    done rows e =
        let no : first_of (model.scan_rows v) ≡ 0 = restarts (sym clean) in
        rw no (ap (λ (r : List Figure). record { refusal = 0; pages = r })
        (e ∙ ap (λ (k : Geometry). tabulate 64 (λ i. figure_in k u.bytes.now s.first s.index i)) geometry-is
        ∙ ap (λ (x : List ℕ). tabulate 64 (λ i. figure_in (geometry_of v) x s.first s.index i)) u-is
        ∙ ap (λ (x : Scanned). tabulate 64 (λ i. figure_in (geometry_of v) v x.first x.index i)) s-is))

  -- ---- for C

  -- a heading that is not known: row 1, whatever follows it
  pub unknown : (xs : List ℕ) (b : Bool) → b ≡ known_magic v → b ≡ false
      → (1 ≡ (tell_forecast v xs).refusal) × (xs ≡ (tell_forecast v xs).figures)
  unfolding tell_forecast
  unknown xs b eb t = rw (unknown-read v (sym eb ∙ t)) (refl, refl)

  -- an array of another length
  pub unlike : (xs : List ℕ) → (length xs ≡ 128 → ⊥) → (n : ℕ) → n ≡ cond (not (valid_volume v)) 1 2
      → (n ≡ (tell_forecast v xs).refusal) × (xs ≡ (tell_forecast v xs).figures)
  unfolding tell_forecast
  unlike xs f n e = rw (ne_eqb (length xs) 128 f) (by_cases (valid_volume v) (λ t. rw t (rw t at e, refl)) (λ t. rw t (rw t at e, refl)))

  module _ (xs : List ℕ) (size : length xs ≡ 128) (b : Forecast) (eb : b ≡ forecast_of v) where
    number : b.refusal ≡ first_of (tell_rows v (length xs))
    unfolding forecast_of
    number =
        rw (eb, eq-eqb (length xs) 128 size)
        (by_cases (eqb (first_of (model.scan_rows v)) 0) (λ t. rw t (sym (eqb-true (first_of (model.scan_rows v)) 0 t))) (λ t. rw t))

    pub turned_down : (b.refusal ≡ 0 → ⊥) → (b.refusal ≡ (tell_forecast v xs).refusal) × (xs ≡ (tell_forecast v xs).figures)
    unfolding tell_forecast
    turned_down ne = rw (← number, ne_eqb b.refusal 0 ne) (refl, refl)

    pub told : (ys : List ℕ) → b.refusal ≡ 0 → ys ≡ figure_numbers b.pages
        → (0 ≡ (tell_forecast v xs).refusal) × (ys ≡ (tell_forecast v xs).figures)
    unfolding tell_forecast
    told ys z ey = rw (← number, eq-eqb b.refusal 0 z) (refl, ey ∙ ap (λ (x : Forecast). figure_numbers x.pages) eb)

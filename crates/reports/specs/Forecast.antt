-- The repair forecast, exact. States document 02, §12: "Let it test the own image and the backup too, still without
-- building a page. One figure then replaces the two: the count that inspection would report, and still 0 for a blank
-- page. For a page where §7's walk would fail the figure is that refusal, and the other pages' stand." It replaces §1's
-- two figures, which were from the log and notes alone.
use Rattle.std.specs.Prelude.{ℕ, suc, ◌-◌, ◌<◌, ◌≡◌, ◌⊎◌, true, cond, not, List, [], ◌∷◌, eqb, ltb, length, get_or, replicate}
use Rattle.model.specs.Tables.{Row, first_of, within, tabulate}
use Rattle.model.specs.Geometry.{page_at, slot_at, geometry_of, valid_volume, item, store}
use Rattle.model.specs.Item.{valid_image, image_lsn}
use Rattle.model.specs.Repair.{Walk, walk_of, is_below}
use Rattle.model.specs.Refusals.{log_rows}
use Rattle.reports.specs.Reading.{scan_rows, Restarts, page_view}
use Rattle.model.specs.Restart.{inspect_of}
use Rattle.model.specs.declared.answer.Answer.{Answer}
use Rattle.model.specs.declared.answer.Answer.TheVariants.{Refused, Nothing, Done, Repaired}
use Rattle.reports.specs.declared.reading.Figure.{Figure}
use Rattle.reports.specs.declared.reading.Forecast.{Forecast}

-- ---- the figures

abbrev pub counted : ℕ → Figure
counted n = record { refusal = 0; count = n }

abbrev pub below : Figure
below = record { refusal = 23; count = 0 }

-- what a walk comes to. A blank page's walk has no steps and gives 0
abbrev pub figure_of : Walk → Figure
figure_of k = cond (is_below k.stop) below (counted (length k.chain))

-- ---- the call

-- the row of page i + 1; zeros past the last page
abbrev pub forecast_at : List ℕ → ℕ → Figure
forecast_at v i =
    let g = geometry_of v in
    cond (ltb i g.pages) (figure_of (walk_of g (suc i) (page_view v (suc i)))) (counted 0)

unfoldable pub forecast_of : List ℕ → Forecast
forecast_of v =
    let no = first_of (scan_rows v) in
    cond (eqb no 0) (record { refusal = 0; pages = tabulate 64 (λ i. forecast_at v i) })
    (record { refusal = no; pages = replicate 64 (counted 0) })

-- ---- the answer as numbers, for C

-- page by page, the refusal and the count
abbrev pub figure_numbers : List Figure → List ℕ
figure_numbers [] = []
figure_numbers (f ∷ fs) = f.refusal ∷ f.count ∷ figure_numbers fs

-- what the call leaves where a lent array of 128 numbers is asked for
pub record Told : Type 0 where
  pub refusal : ℕ
  pub figures : List ℕ

-- an array of another length is refused as a buffer of another length is
abbrev pub tell_rows : List ℕ → ℕ → List Row
tell_rows v size = (not (valid_volume v), 1) ∷ (not (eqb size 128), 2) ∷ log_rows v []

unfoldable pub tell_forecast : List ℕ → List ℕ → Told
tell_forecast v figures =
    let no = first_of (tell_rows v (length figures)) in
    cond (eqb no 0) (record { refusal = 0; figures = figure_numbers (forecast_of v).pages })
    (record { refusal = no; figures = figures })

-- ---- the claims

-- page p's row of the answer
abbrev pub forecast_row : List ℕ → ℕ → Figure
forecast_row v p = get_or (forecast_of v).pages (p - 1) (counted 0)

-- what an inspection tells of its walk: the count, or 23; 0 for a page that is blank
abbrev pub figure_in : Answer → Figure
figure_in (Refused n) = cond (eqb n 23) below (counted 0)
figure_in Nothing = counted 0
figure_in Done = counted 0
figure_in (Repaired r) = counted r.count

-- an inspection that restarts and has its page and buffer in range
pub record Asked (v : List ℕ) (p : ℕ) (buffer : List ℕ) : Type 0 where
  pub restarts : Restarts v
  pub page : within (geometry_of v).pages p ≡ true
  pub size : length buffer ≡ 256

-- two images that are judged alike: valid as the same pages', with the same number
pub record JudgedAlike (v x y : List ℕ) : Type 0 where
  pub valid : (p : ℕ) → valid_image (geometry_of v) p x ≡ valid_image (geometry_of v) p y
  pub number : image_lsn x ≡ image_lsn y

-- (by which table it is refused: `ReadingClaim`)
pub record ForecastClaim : Type 0 where
  -- "the count that inspection would report", 0 where it gives 7, and 23 where it does
  pub exact : (v : List ℕ) (p : ℕ) (buffer : List ℕ) → Asked v p buffer
      → forecast_row v p ≡ figure_in (inspect_of v p buffer).answer
  -- an inspection that is refused 1, 17 or 18: so is the call
  pub alike : (v : List ℕ) (p : ℕ) (buffer : List ℕ) (n : ℕ) → (inspect_of v p buffer).answer ≡ Refused n
      → (n ≡ 1) ⊎ ((n ≡ 17) ⊎ (n ≡ 18)) → (forecast_of v).refusal ≡ n
  pub past : (v : List ℕ) (p : ℕ) → (geometry_of v).pages < p → forecast_row v p ≡ counted 0
  -- "without building a page": of an image nothing counts but what it is valid as and its number
  pub page : (v x : List ℕ) (p : ℕ) → valid_volume v ≡ true → within (geometry_of v).pages p ≡ true → length x ≡ 256
      → JudgedAlike v x (item (geometry_of v) v (page_at p))
      → forecast_of (store (geometry_of v) v (page_at p) x) ≡ forecast_of v
  pub slot : (v x : List ℕ) (b : ℕ) → valid_volume v ≡ true → within (geometry_of v).slots b ≡ true → length x ≡ 256
      → JudgedAlike v x (item (geometry_of v) v (slot_at b))
      → forecast_of (store (geometry_of v) v (slot_at b) x) ≡ forecast_of v

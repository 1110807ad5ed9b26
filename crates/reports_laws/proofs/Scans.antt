-- Of an image the forecast sees what it is valid as and its number alone.
use mathlib.Core.Path.{◌≡◌, refl, sym, ap, ◌∙◌}
use mathlib.Core.Logic.{◌⊎◌, inl, inr}
use mathlib.Core.Bool.{true, cond, ◌&&◌}
use mathlib.Core.List.{List}
use Prim.Native.Nat.{ℕ, suc, ◌+◌, ◌≤◌, ◌<◌}
use native.Mathlib.Omega.{arith}
use native.Mathlib.Decide.{dec_lt, ℕ_discrete}
use lib.Dec.{eqb, ltb}
use lib.ListN.{length, drop}
use borrow.Author.Tests.{ltb-true}
use Rattle.laws.proofs.Tables.{by_cases, cond_same, within-bounds}
use Rattle.laws.proofs.Parts.{drop-from, drop_past}
use Rattle.laws.proofs.Places.{In, valid-facts, place-fits, part_apart, item-store-same, geometry-store, valid-store}
use Rattle.model.specs.Tables.{first_of, within}
use Rattle.model.specs.Bytes.{splice}
use Rattle.model.specs.Geometry.{Place, page_at, slot_at, record_at, start, width, item, store, geometry_of, valid_volume}
use Rattle.model.specs.Item.{valid_image, image_lsn}
use Rattle.model.specs.Index.{entry_of}
use Rattle.model.specs.Scan.{durable_count, index_of}
use Rattle.model.specs.Repair.{Walk, walk_from, walk_of, own_start, backup_start}
use Rattle.reports.specs.Reading.{scan_rows, page_view}
use Rattle.reports.specs.Forecast.{counted, figure_of, forecast_at, forecast_of, JudgedAlike}
use Rattle.model.specs.declared.geometry.Geometry.{Geometry}
use Rattle.reports.specs.declared.reading.Figure.{Figure}
use Rattle.laws.proofs.Scans.{count_same, held_same, index-of-same, log_is, log-same, valid-notes-same}

-- ---- the forecast

module _ (v w : List ℕ) (same : geometry_of w ≡ geometry_of v) (ok : valid_volume v ≡ true) (ok' : valid_volume w ≡ true)
    (e : drop (start (geometry_of v) (record_at 1)) w ≡ drop (start (geometry_of v) (record_at 1)) v) where
  pub entry-same : (p : ℕ) → entry_of (index_of (geometry_of w) w) p ≡ entry_of (index_of (geometry_of v) v) p
  entry-same p = rw (same, index-of-same (geometry_of v) v w e)

  from : List ℕ → ℕ → ℕ → ℕ → Walk
  from u p own b = walk_from (page_view u p).durable (page_view u p).log (page_view u p).first p own b (page_view u p).durable

  from-same : (p own b : ℕ) → from w p own b ≡ from v p own b
  unfolding from
  from-same p own b =
      let g = geometry_of v in
      rw (same, count_same g v w e, held_same g v w e (durable_count g v), index-of-same g v w e, log_is g v w e)

  -- the same starts, the same walk
  walk-alike : (p : ℕ) → own_start (geometry_of w) p (page_view w p) ≡ own_start (geometry_of v) p (page_view v p)
      → backup_start (geometry_of w) p (page_view w p) ≡ backup_start (geometry_of v) p (page_view v p)
      → walk_of (geometry_of w) p (page_view w p) ≡ walk_of (geometry_of v) p (page_view v p)
  unfolding walk_of from
  walk-alike p own back =
      ap (λ (o : ℕ). from w p o (backup_start (geometry_of w) p (page_view w p))) own
      ∙ ap (λ (b : ℕ). from w p (own_start (geometry_of v) p (page_view v p)) b) back
      ∙ from-same p (own_start (geometry_of v) p (page_view v p)) (backup_start (geometry_of v) p (page_view v p))

  rows_same : first_of (scan_rows w) ≡ first_of (scan_rows v)
  rows_same = rw (same, ok, ok', log-same (geometry_of v) v w e, valid-notes-same (geometry_of v) v w e)

  module _ (own : (p : ℕ) → 1 ≤ p → p ≤ (geometry_of v).pages
      → own_start (geometry_of w) p (page_view w p) ≡ own_start (geometry_of v) p (page_view v p))
      (back : (p : ℕ) → backup_start (geometry_of w) p (page_view w p) ≡ backup_start (geometry_of v) p (page_view v p)) where
    figure-at : ℕ → Walk → ℕ → Figure
    figure-at pages k i = cond (ltb i pages) (figure_of k) (counted 0)

    row_same : (i : ℕ) → forecast_at w i ≡ forecast_at v i
    unfolding figure-at
    row_same i =
        ap (λ (q : ℕ). figure-at q (walk_of (geometry_of w) (suc i) (page_view w (suc i))) i) (ap (λ (x : Geometry). x.pages) same)
        ∙ by_cases (ltb i (geometry_of v).pages)
        (λ t. let l : i < (geometry_of v).pages = ltb-true i (geometry_of v).pages t in
        ap (λ (k : Walk). figure-at (geometry_of v).pages k i)
        (walk-alike (suc i) (own (suc i) (omega arith) (omega arith)) (back (suc i))))
        (λ t. rw t)

    at_same : ◌≡◌ {A = ℕ → Figure} (λ i. forecast_at w i) (λ i. forecast_at v i)
    at_same = λ k. λ i. row_same i k

    pub forecast-same : forecast_of w ≡ forecast_of v
    unfolding forecast_of
    forecast-same = rw (rows_same, at_same)

-- what a start is made of
own-alike : (g : Geometry) (p : ℕ) (x y : List ℕ) → valid_image g p x ≡ valid_image g p y → image_lsn x ≡ image_lsn y
    → cond (valid_image g p x) (image_lsn x) 0 ≡ cond (valid_image g p y) (image_lsn y) 0
own-alike g p x y a b = rw (a, b)

back-alike : (g : Geometry) (p b : ℕ) (x y : List ℕ) → valid_image g p x ≡ valid_image g p y → image_lsn x ≡ image_lsn y
    → cond (valid_image g p x && eqb (image_lsn x) b) b 0 ≡ cond (valid_image g p y && eqb (image_lsn y) b) b 0
back-alike g p b x y a c = rw (a, c)

-- an image stored in its place, in a valid volume
module _ (v x : List ℕ) (ok : valid_volume v ≡ true) (size : length x ≡ 256) (at : Place) (wide : width at ≡ 256) (h : In (geometry_of v) at)
    (l : start (geometry_of v) at + 256 ≤ start (geometry_of v) (record_at 1)) (j : JudgedAlike v x (item (geometry_of v) v at)) where
  abbrev g : Geometry
  g = geometry_of v

  abbrev w : List ℕ
  w = store (geometry_of v) v at x

  fits : start g at + 256 ≤ length v
  fits = let f = place-fits g v (valid-facts v ok).size at h in omega (arith, f, wide)

  same : geometry_of w ≡ g
  same = geometry-store v ok at x h (size ∙ sym wide)

  ok' : valid_volume w ≡ true
  ok' = valid-store v ok at x h (size ∙ sym wide)

  tail : drop (start g (record_at 1)) w ≡ drop (start g (record_at 1)) v
  unfolding store
  tail = drop-from (start g at + length x) (start g (record_at 1)) (splice v (start g at) x) v (omega (arith, l, size))
      (drop_past v (start g at) x (omega (arith, fits, size)))

  -- the image there is judged as it was; one that lies apart is the same
  stored : item g w at ≡ x
  stored = item-store-same g v (valid-facts v ok).size at x h (size ∙ sym wide)

  apart-same : (q : Place) → width q ≡ 256 → (start g q + 256 ≤ start g at) ⊎ (start g at + 256 ≤ start g q) → item g w q ≡ item g v q
  unfolding item store
  apart-same q e d = rw e (part_apart v (start g at) x (start g q) 256 256 size fits d)

  judged : (p : ℕ) (q : Place) → width q ≡ 256 → (q ≡ at) ⊎ ((start g q + 256 ≤ start g at) ⊎ (start g at + 256 ≤ start g q))
      → (valid_image g p (item g w q) ≡ valid_image g p (item g v q)) × (image_lsn (item g w q) ≡ image_lsn (item g v q))
  judged p q e (inl z) = rw (z, stored) (j.valid p, j.number)
  judged p q e (inr d) = rw (apart-same q e d) (refl, refl)

  own-start : (p : ℕ) → (page_at p ≡ at) ⊎ ((start g (page_at p) + 256 ≤ start g at) ⊎ (start g at + 256 ≤ start g (page_at p)))
      → own_start (geometry_of w) p (page_view w p) ≡ own_start g p (page_view v p)
  own-start p d = let r = judged p (page_at p) refl d in rw same (own-alike g p (item g w (page_at p)) (item g v (page_at p)) r.0 r.1)

  back_start : (p : ℕ) → let s = (entry_of (index_of g v) p).slot in
      (s ≡ 0) ⊎ ((slot_at s ≡ at) ⊎ ((start g (slot_at s) + 256 ≤ start g at) ⊎ (start g at + 256 ≤ start g (slot_at s))))
      → backup_start (geometry_of w) p (page_view w p) ≡ backup_start g p (page_view v p)
  back_start p (inl z) =
      let q = entry-same v w same ok ok' tail p in
      rw (q, z) (cond_same
      (valid_image (geometry_of w) p (item (geometry_of w) w (slot_at 0)) && eqb (image_lsn (item (geometry_of w) w (slot_at 0))) 0) 0
      ∙ sym (cond_same (valid_image g p (item g v (slot_at 0)) && eqb (image_lsn (item g v (slot_at 0))) 0) 0))
  back_start p (inr d) =
      let en = entry_of (index_of g v) p in
      let r = judged p (slot_at en.slot) refl d in
      rw (entry-same v w same ok ok' tail p, same) (back-alike g p (cond (eqb en.slot 0) 0 en.backup) (item g w (slot_at en.slot))
      (item g v (slot_at en.slot)) r.0 r.1)

pub page-judged : (v x : List ℕ) (p : ℕ) → valid_volume v ≡ true → within (geometry_of v).pages p ≡ true → length x ≡ 256
    → JudgedAlike v x (item (geometry_of v) v (page_at p)) → forecast_of (store (geometry_of v) v (page_at p) x) ≡ forecast_of v
page-judged v x p ok t size j =
    let g = geometry_of v in
    let b = within-bounds g.pages p t in
    let l : start g (page_at p) + 256 ≤ start g (record_at 1) = omega (arith, b.1) in
    forecast-same v (store g v (page_at p) x) (same v x ok size (page_at p) refl b l j) ok (ok' v x ok size (page_at p) refl b l j)
    (tail v x ok size (page_at p) refl b l j)
    (λ q lo hi. own-start v x ok size (page_at p) refl b l j q (elim (ℕ_discrete q p) [
      | yes e ↦ inl (ap page_at e)
      | no ne ↦ inr (elim (dec_lt q p) [ yes y ↦ inl (omega arith) | no z ↦ inr (omega arith) ])
    ]))
    (λ q. back_start v x ok size (page_at p) refl b l j q (inr (inr (inr (omega (arith, b.1))))))

pub slot-judged : (v x : List ℕ) (b : ℕ) → valid_volume v ≡ true → within (geometry_of v).slots b ≡ true → length x ≡ 256
    → JudgedAlike v x (item (geometry_of v) v (slot_at b)) → forecast_of (store (geometry_of v) v (slot_at b) x) ≡ forecast_of v
slot-judged v x b ok t size j =
    let g = geometry_of v in
    let k = within-bounds g.slots b t in
    let l : start g (slot_at b) + 256 ≤ start g (record_at 1) = omega (arith, k.0, k.1) in
    forecast-same v (store g v (slot_at b) x) (same v x ok size (slot_at b) refl k l j) ok (ok' v x ok size (slot_at b) refl k l j)
    (tail v x ok size (slot_at b) refl k l j)
    (λ q lo hi. own-start v x ok size (slot_at b) refl k l j q (inr (inl (omega (arith, lo, hi, k.0)))))
    (λ q.
    let s = (entry_of (index_of g v) q).slot in
    back_start v x ok size (slot_at b) refl k l j q (elim (ℕ_discrete s 0) [
      | yes z ↦ inl z
      | no nz ↦ inr (elim (ℕ_discrete s b) [
        | yes e ↦ inl (ap slot_at e)
        | no ne ↦ inr (elim (dec_lt s b) [ yes y ↦ inl (omega (arith, k.0)) | no z ↦ inr (omega (arith, k.0)) ])
      ])
    ]))

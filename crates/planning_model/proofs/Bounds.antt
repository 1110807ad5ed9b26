-- How much a step can add to a figure: at most 256.
use Prim.Native.Nat.{ℕ, zero, suc, ◌+◌, ◌*◌, ◌-◌, ◌%◌, ◌≤◌, ◌<◌}
use mathlib.Core.Path.{◌≡◌}
use mathlib.Core.Bool.{Bool, true, false, ◌&&◌}
use mathlib.Core.List.{List}
use native.Mathlib.Omega.{arith}
use native.Mathlib.Decide.{dec_lt, ℕ_discrete}
use native.Mathlib.Nat.{mod-lt}
use lib.Dec.{eqb, ltb}
use lib.ListN.{length, get_or, set, replicate}
use lib.Seq.{get_or-set_same, get_or-set_other, set_out}
use Rattle.laws.proofs.Tables.{by_cases}
use Rattle.planning.specs.Rehearsal.{no_figures, page_row, with_load, with_image, with_record, with_change, victim_written}
use Rattle.planning.specs.Rehearsal.{replayed_by, use_row, evicted, brought_in, holding, least_used, touched, changed}
use Rattle.planning.specs.Rehearsal.{step_on, idle}
use Rattle.planning.specs.declared.rehearsal.Settings.{Settings}
use Rattle.planning.specs.declared.rehearsal.Figures.{Figures}
use Rattle.planning.specs.declared.rehearsal.Rehearsal.{Rehearsal}
use Rattle.planning.specs.declared.rehearsal.Totals.{Totals}
use Rattle.planning.specs.declared.rehearsal.Access.{Access}
use Rattle.planning.specs.declared.rehearsal.Access.TheVariants.{Read, Change}
use Rattle.planning_model.specs.Bounds.{Small, Bounded, Sums}

pub small-more : (b c : ℕ) (r : Figures) → b ≤ c → Small b r → Small c r
small-more b c r h s = omega arith

pub bounded-more : (b c : ℕ) (pages : List Figures) → b ≤ c → Bounded b pages → Bounded c pages
bounded-more b c pages h f i = small-more b c (get_or pages i no_figures) h (f i)

pub bounded-set : (b : ℕ) (pages : List Figures) (j : ℕ) (r : Figures) → Bounded b pages → Small b r → Bounded b (set pages j r)
bounded-set b pages j r f s i = elim (ℕ_discrete i j) [
  | yes e ↦ elim (dec_lt j (length pages)) [
    | yes l ↦ rw (e, get_or-set_same pages j r no_figures l) s
    | no z ↦ rw (set_out pages j r (omega arith)) (f i)
  ]
  | no e ↦ rw (get_or-set_other pages j i r no_figures e) (f i)
]

pub bounded-none : (n b : ℕ) → Bounded b (replicate n no_figures)
bounded-none n b i = go n i
  where
    go : (n i : ℕ) → Small b (get_or (replicate n no_figures) i no_figures)
    go zero i = omega arith
    go (suc n) zero = omega arith
    go (suc n) (suc i) = go n i

evicted-bounded : (t : Settings) (m : Rehearsal) (f b : ℕ) → Bounded b m.pages → Bounded (b + 1) (evicted t m f)
unfolding evicted
evicted-bounded t m f b h =
    let x = use_row m.frames f in
    let s : Small b (page_row m.pages x.page) = h (x.page - 1) in
    by_cases (victim_written t.victim && x.dirty)
    (λ e. rw e (bounded-set (b + 1) m.pages (x.page - 1) (with_image (page_row m.pages x.page))
    (bounded-more b (b + 1) m.pages (omega arith) h) (omega arith)))
    (λ e. rw e (bounded-more b (b + 1) m.pages (omega arith) h))

pub evicted-more : (t : Settings) (m : Rehearsal) (f : ℕ) → Bounded 900000 m.pages → Bounded 900300 (evicted t m f)
evicted-more t m f h = bounded-more (900000 + 1) 900300 (evicted t m f) (omega arith) (evicted-bounded t m f 900000 h)

module _ (t : Settings) (low : 1 ≤ t.every) (high : t.every ≤ 255) where
  replayed-small : (n : ℕ) → replayed_by t n ≤ 254
  replayed-small n =
      let l : n % t.every < t.every = mod-lt n low in
      by_cases (victim_written t.victim) (λ e. rw e (omega arith)) (λ e. rw e (omega arith))

  brought-bounded : (pages : List Figures) (p b : ℕ) → Bounded b pages → Bounded (b + 254) (brought_in t pages p)
  unfolding brought_in
  brought-bounded pages p b h =
      let r = page_row pages p in
      let s : Small b (page_row pages p) = h (p - 1) in
      let n : replayed_by t (page_row pages p).records ≤ 254 = replayed-small (page_row pages p).records in
      by_cases (eqb r.records 0)
      (λ e. rw e (bounded-more b (b + 254) pages (omega arith) h))
      (λ e. rw e (bounded-set (b + 254) pages (p - 1) (with_load r (replayed_by t r.records))
      (bounded-more b (b + 254) pages (omega arith) h) (omega arith)))

  pub touched-bounded : (i : ℕ) (m : Rehearsal) (p : ℕ) (c : Bool) (b : ℕ) → Bounded b m.pages
      → Bounded (b + 255) (touched t i m p c).pages
  unfolding touched
  touched-bounded i m p c b h =
      let l = least_used m.frames t.frames in
      by_cases (ltb 0 (holding m.frames p t.frames))
      (λ e. rw e (bounded-more b (b + 255) m.pages (omega arith) h))
      (λ e. rw e (bounded-more (b + 1 + 254) (b + 255) (brought_in t (evicted t m l) p) (omega arith)
      (brought-bounded (evicted t m l) p (b + 1) (evicted-bounded t m l b h))))

  change-small : (r : Figures) (b : ℕ) → Small b r → Small (b + 1) (with_change t.every r)
  unfolding with_change
  change-small r b s = by_cases (eqb ((with_record r).records % t.every) 0) (λ e. rw e (omega arith)) (λ e. rw e (omega arith))

  changed-bounded : (m : Rehearsal) (p b : ℕ) → Bounded b m.pages → Bounded (b + 1) (changed t m p).pages
  unfolding changed
  changed-bounded m p b h =
      bounded-set (b + 1) m.pages (p - 1) (with_change t.every (page_row m.pages p))
      (bounded-more b (b + 1) m.pages (omega arith) h)
      (change-small (page_row m.pages p) b (h (p - 1)))

  pub step-bounded : (i : ℕ) (m : Rehearsal) (a : Access) (b : ℕ) → Bounded b m.pages → Bounded (b + 256) (step_on t i m a).pages
  unfolding step_on
  step-bounded i m (Read p) b h =
      by_cases (eqb (page_row m.pages p).records 0)
      (λ e. rw e (bounded-more b (b + 256) m.pages (omega arith) h))
      (λ e. rw e (bounded-more (b + 255) (b + 256) (touched t i m p false).pages (omega arith) (touched-bounded i m p false b h)))
  step-bounded i m (Change p) b h =
      let x = touched t i m p true in
      bounded-more (b + 255 + 1) (b + 256) (changed t x p).pages (omega arith)
      (changed-bounded x p (b + 255) (touched-bounded i m p true b h))

  pub touched-more : (i : ℕ) (m x : Rehearsal) (p : ℕ) (c : Bool) → Bounded 900000 m.pages → x ≡ touched t i m p c
      → Bounded 900600 x.pages
  touched-more i m x p c h e =
      rw e (bounded-more (900000 + 255) 900600 (touched t i m p c).pages (omega arith) (touched-bounded i m p c 900000 h))

-- the events so far bound every figure
pub played-room : (i n : ℕ) (pages : List Figures) → i < n → n ≤ 1024 → Bounded (256 * i) pages → Bounded 900000 pages
played-room i n pages l h f = bounded-more (256 * i) 900000 pages (omega arith) f

pub played-more : (t : Settings) → 1 ≤ t.every → t.every ≤ 255 → (i : ℕ) (m x : Rehearsal) (a : Access) → Bounded (256 * i) m.pages
    → x ≡ step_on t (i + 1) m a
    → Bounded (256 * (i + 1)) x.pages
played-more t low high i m x a f e =
    rw e (bounded-more (256 * i + 256) (256 * (i + 1)) (step_on t (i + 1) m a).pages (omega arith)
    (step-bounded t low high (i + 1) m a (256 * i) f))

pub idle-bounded : (x : Rehearsal) → x ≡ idle → Bounded (256 * 0) x.pages
unfolding idle
idle-bounded x e = rw e (bounded-none 64 (256 * 0))

-- ---- totals

pub sums-room : (n : ℕ) (a : Totals) → n < 64 → Sums n a → Sums 63 a
sums-room n a l s = omega arith

module _ (a : Totals) (l r i b n p : ℕ) where
  pub plus-sums : l ≤ 4294967295 → r ≤ 4294967295 → i ≤ 4294967295 → b ≤ 4294967295 → n ≤ 4294967295 → p ≤ 4294967295 → (k : ℕ) → Sums k a
      → Sums (suc k) (record {
        loads = a.loads + l;
        records = a.records + r;
        images = a.images + i;
        backups = a.backups + b;
        notes = a.notes + n;
        replayed = a.replayed + p;
      })
  plus-sums el er ei eb en ep k s = omega arith

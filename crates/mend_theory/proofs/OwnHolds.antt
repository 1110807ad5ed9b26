-- ME4 (b): from the walk that mending makes to the invariant, and the claim.
use mathlib.Core.Path.{◌≡◌, refl, sym, ap, ◌∙◌, subst}
use mathlib.Core.Logic.{◌≢◌, ◌⊎◌, inl, inr, ⊎_elim}
use mathlib.Core.Bool.{true, false, cond, ◌&&◌, ◌||◌}
use mathlib.Core.List.{List}
use Prim.Native.Nat.{ℕ, zero, suc, ◌+◌, ◌-◌, ◌/◌, ◌≤◌, ◌<◌}
use native.Mathlib.Omega.{arith}
use native.Mathlib.Decide.{ℕ_discrete}
use lib.ListN.{length}
use lib.Dec.{eqb, leb}
use borrow.Author.Tests.{eqb-true, not-true, leb-true, leb-false}
use Rattle.laws.proofs.Tables.{by_cases, and_right, or_cases, true-not-false}
use Rattle.model.specs.Tables.{larger}
use Rattle.model.specs.Geometry.{geometry_of, item, page_at, log_slot, top_number}
use Rattle.model.specs.Item.{image_lsn, valid_image}
use Rattle.model.specs.Change.{kind_of}
use Rattle.model.specs.Index.{entry_of}
use Rattle.model.specs.Scan.{durable_count, first_held, index_of}
use Rattle.model.specs.Repair.{Walk, walk_from, is_below, scanned_view}
use Rattle.model.specs.AbstractLog.{Logged, AbstractLog, empty_log}
use Rattle.model.specs.History.{Machine, all_allowed, run, log_after}
use Rattle.model.specs.Claim.{History, Legal, fresh, reached, log_of, durable_of, inspection}
use Rattle.model.specs.RingClaim.{run_start, Unrepairable}
use Rattle.model.specs.declared.{geometry.Geometry.Geometry, item.Note.Note, state.Entry.Entry}
use Rattle.history.proofs.Logs.{at, last_at, last_of, last-le, last-page, last-ge}
use Rattle.history.proofs.Sections.{volume-sized, most-high}
use Rattle.history.proofs.NoteIndex.{index_is}
use Rattle.history.proofs.LogScan.{first, first-is, started, durable-count}
use Rattle.history.proofs.Disk.{Holds, Noted}
use Rattle.history.proofs.Walk.{Law, walk-says}
use Rattle.history.proofs.Reached.{Undamaged, present, tied}
use Rattle.history.proofs.Theorem.{demand2}
use Rattle.history.proofs.Rings.{rings}
use Rattle.upkeep_policy.specs.UpkeepClaim.{extended}
use Rattle.upkeep_theory.proofs.Text.{run-append, log-append}
use Rattle.mend_policy.specs.Mend.{stands, reaches_from, reaches, margin}
use Rattle.mend_policy.specs.MendClaim.{whole_on, NotLost, OwnHolds}
use Rattle.mend_theory.proofs.Less.{less}
use Rattle.mend_theory.proofs.Two.{allowed-append}
use Rattle.mend_theory.proofs.Own.{Reach, reach-nearer, repairable}
use Rattle.mend_theory.proofs.OwnSteps.{all_near}

-- ---- the start: a walk that takes no backup, and does not go below F

module _ {C : Type 0} (g : Geometry) (v : List ℕ) (k : List Logged) (h : Holds g v k) (ns : List Note) (o : Noted C g v k ns) (p : ℕ)
    (f : ℕ) (from : first g v k h ns o ≤ f) where
  abbrev own : List ℕ
  own = item g v (page_at p)

  abbrev number : ℕ
  number = cond (valid_image g p (item g v (page_at p))) (image_lsn (item g v (page_at p))) 0

  abbrev OwnTo : ℕ → Type 0
  OwnTo m = (valid_image g p own ≡ true) × ((j : ℕ) → j ≤ m → (at k j).page ≡ p → image_lsn own ≤ j → suc f ≤ suc j)

  abbrev FormatTo : ℕ → Type 0
  FormatTo m = (j : ℕ) × (j ≤ m) × ((at k j).page ≡ p) × (eqb (kind_of (at k j).change) 1 ≡ true) × (suc f ≤ suc j)

  abbrev Says : ℕ → Walk → Type 0
  Says m w = is_below w.stop ≡ false → OwnTo m ⊎ FormatTo m

  few : length k ≤ top_number
  few = omega (arith, h.room, most-high g (volume-sized g v h.vol))

  at_own : (m : ℕ) → number ≡ suc m → OwnTo m
  at_own m q = by_cases (valid_image g p own)
      (λ t. let e : image_lsn own ≡ suc m = rw t at q in (t, (λ j a b c. absurd (omega (arith, a, c, e)))))
      (λ t. absurd (let e : 0 ≡ suc m = rw t at q in omega arith))

  up : (m n : ℕ) → last_at p k m ≡ suc n → f ≤ m → OwnTo n ⊎ FormatTo n → OwnTo m ⊎ FormatTo m
  up m n q a (inl y) = inl (
    y.0,
    (λ j b e c. elim (ℕ_discrete j m) [
      | yes z ↦ omega (arith, a, z)
      | no z ↦ y.1 j (omega (arith, last-ge p k m j (omega (arith, b, z)) e, q)) e c
    ]),
  )
  up m n q a (inr (j, b, e, t, c)) = inr (j, omega (arith, b, q, last-le p k m), e, t, c)

  law : Law g.pages (volume-sized g v h.vol).p-high k h.fair few p (λ n. item g v (log_slot g n)) (suc f) f refl
      (λ i a b. (started g v k h ns o).held i a (omega (arith, from, b))) number 0 (λ m. Unit {0}) Says
  law = record {
    at_own = λ m u q e. inl (at_own m q);
    at-backup = λ m u q e. absurd (omega (arith, q));
    below = λ m x u a e. absurd (true-not-false refl e);
    format = λ m x u a t e. inr (m, omega arith, x.page-is, t, omega (arith, a));
    before = λ m n x u a t q. (tt, λ w s e. up m n q a (s e));
  }

  pub reach-start : (m : ℕ) → last_of p k ≡ suc m
      → is_below (walk_from (suc m) (λ n. item g v (log_slot g n)) (suc f) p number 0 (suc m)).stop ≡ false → Reach g p (suc f) k own
  reach-start m e t =
      let b : m < length k = omega (arith, e, last-le p k (length k)) in
      go (walk-says g.pages (volume-sized g v h.vol).p-high k h.fair few p (λ n. item g v (log_slot g n)) (suc f) f refl
      (λ i a b. (started g v k h ns o).held i a (omega (arith, from, b))) number 0 (λ m. Unit {0}) Says law
      (suc m) m (omega arith) b (last-page p k (length k) m e) tt t)
    where
      go : OwnTo m ⊎ FormatTo m → Reach g p (suc f) k own
      go (inl y) = inr (inl (y.0, (λ j c q r. y.1 j (omega (arith, last-ge p k (length k) j c q, e)) q r)))
      go (inr (j, c, q, r, s)) = inr (inr (j, omega (arith, c, e, last-le p k (length k)), q, r, s))

-- ---- numbers

pub larger-left : (a b : ℕ) → a ≤ larger a b
larger-left a b = by_cases (leb a b) (λ t. rw t (leb-true a b t)) (λ t. rw t (omega arith))

pub larger-right : (a b : ℕ) → b ≤ larger a b
larger-right a b = by_cases (leb a b) (λ t. rw t (omega arith)) (λ t. rw t (omega (arith, leb-false a b t)))

pub larger-most : (a b c : ℕ) → a ≤ c → b ≤ c → larger a b ≤ c
larger-most a b c x y = by_cases (leb a b) (λ t. rw t y) (λ t. rw t x)

quarter : (d L : ℕ) → suc (d + L / 4) - L ≤ suc d
quarter d L = omega arith

-- ---- whole at h

module _ (h : History) (legal : Legal h) (p : ℕ) (lo : 1 ≤ p) (hi : p ≤ h.pages) where
  abbrev g : Geometry
  g = present h

  abbrev v : List ℕ
  v = (reached h).volume

  abbrev k : List Logged
  k = durable_of h

  geo : geometry_of (reached h).volume ≡ present h
  geo = (tied h legal).holds.vol.geo

  pub count : durable_count (present h) (reached h).volume ≡ length (durable_of h)
  count = durable-count g v k (tied h legal).holds (tied h legal).ns (tied h legal).noted

  pub newest : (entry_of (index_of (present h) (reached h).volume) p).durable ≡ last_of p (durable_of h)
  newest = ap (λ (e : Entry). e.durable) ((index_is g v k (tied h legal).holds (tied h legal).ns (tied h legal).noted).entry p lo
      (omega (arith, hi, (volume-sized g v (tied h legal).holds.vol).p-high)))

  pub held : first_held (present h) (reached h).volume (durable_count (present h) (reached h).volume)
      ≡ suc (first (present h) (reached h).volume (durable_of h) (tied h legal).holds (tied h legal).ns (tied h legal).noted)
  held = rw count (first-is g v k (tied h legal).holds (tied h legal).ns (tied h legal).noted)

  abbrev bound : ℕ
  bound = suc (durable_count (present h) (reached h).volume + h.records / 4) - h.records

  abbrev later : ℕ
  later = larger (first_held (present h) (reached h).volume (durable_count (present h) (reached h).volume)) bound

  whole-reach : whole_on (reached h).volume p ≡ true
      → Reach (present h) p (larger 1 bound) (durable_of h) (item (present h) (reached h).volume (page_at p))
  unfolding reaches_from
  whole-reach t = go (last_of p k) refl
    where
      go : (n : ℕ) → last_of p (durable_of h) ≡ n
          → Reach (present h) p (larger 1 bound) (durable_of h) (item (present h) (reached h).volume (page_at p))
      go zero e = inl e
      go (suc m) e =
          let i = tied h legal in
          let en = entry_of (index_of g v) p in
          let w = scanned_view g v p in
          let far = reaches g w (durable_count g v) p (margin g) in
          let t₁ : (eqb en.durable 0 || (stands g v en p && far)) ≡ true = rw geo at t in
          let d : en.durable ≡ suc m = newest ∙ e in
          let t₂ : (stands g v en p && far) ≡ true = ⊎_elim (λ z. absurd (let q = eqb-true en.durable 0 z in omega (arith, q, d)))
          (λ z. z) (or_cases (eqb en.durable 0) (stands g v en p && far) t₁) in
          let t₃ : far ≡ true = and_right (stands g v en p) far t₂ in
          let lf = larger-left (first_held g v (durable_count g v)) bound in
          let fi : suc (later - 1) ≡ later = omega (arith, lf, held) in
          let t₄ : is_below (walk_from en.durable (λ n. item g v (log_slot g n)) later p
          (cond (valid_image g p (item g v (page_at p))) (image_lsn (item g v (page_at p))) 0) 0 en.durable).stop ≡ false =
          not-true _ t₃ in
          let t₅ : is_below (walk_from (suc m) (λ n. item g v (log_slot g n)) (suc (later - 1)) p
          (cond (valid_image g p (item g v (page_at p))) (image_lsn (item g v (page_at p))) 0) 0 (suc m)).stop ≡ false =
          rw fi (subst (λ (n : ℕ). is_below (walk_from n (λ n. item g v (log_slot g n)) later p
          (cond (valid_image g p (item g v (page_at p))) (image_lsn (item g v (page_at p))) 0) 0 n).stop ≡ false) d t₄) in
          reach-nearer g p (suc (later - 1)) (larger 1 bound) k (item g v (page_at p))
          (rw fi (larger-most 1 bound later (omega (arith, lf, held)) (larger-right (first_held g v (durable_count g v)) bound)))
          (reach-start g v k i.holds i.ns i.noted p (later - 1) (omega (arith, lf, held)) m e t₅)

  few-records : larger 1 bound ≤ suc (length (durable_of h))
  few-records = larger-most 1 bound (suc (length k)) (omega arith)
      (rw count (quarter (length k) h.records))

-- ---- the claim

-- a page that can be rebuilt is not lost
pub rebuilt-not-lost : (h : History) → Legal h → (p : ℕ) → 1 ≤ p → p ≤ h.pages → ((n : ℕ) → Unrepairable h p n → ⊥) → NotLost h p
rebuilt-not-lost h legal p lo hi never =
    let seen : (buffer : List ℕ) → length buffer ≡ 256 → inspection h p buffer ≢ 23 =
    λ buffer size z. let u = (rings.inspects h legal p lo hi buffer size).0 z in never u.0 u.1 in
    record {
      inspected = seen;
      loaded = λ m s e f z. let u = (rings.loads h legal m s e p f).0 z in never u.0 u.1;
      shown = λ some buffer size. ⊎_elim (λ y. y) (λ z. absurd (seen buffer size z))
          ((demand2.inspects h legal p lo hi buffer size).durable some);
    }

pub own-holds : OwnHolds
unfolding reached log_of
own-holds h legal p lo hi turns quiet wh es legal' plain spares near =
    let g = present h in
    let w = reached h in
    let i = tied h legal in
    let e₀ : geometry_of w.volume ≡ g = i.holds.vol.geo in
    let i0 = less (Undamaged h) g w.volume w.past w.power (log_of h) i in
    let a : all_allowed w es ≡ true = allowed-append (fresh h) h.events es legal'.events in
    let F = larger 1 (bound h legal p lo hi) in
    let y = all_near g p F lo hi (rw e₀ at turns) es w (log_of h) i0 a plain spares
    (few-records h legal p lo hi, whole-reach h legal p lo hi wh) in
    let k = extended h es in
    let e : reached k ≡ run w es = run-append (fresh h) h.events es in
    let l : log_of k ≡ log_after w (log_of h) es = log-append (fresh h) empty_log h.events es in
    let same : present k ≡ g = sym (tied k legal').holds.vol.geo ∙ (ap (λ (u : Machine). geometry_of u.volume) e ∙ y.1.holds.vol.geo) in
    let far : Reach (present k) p F (durable_of k) (item (present k) (reached k).volume (page_at p)) =
    subst (λ (u : Geometry). Reach u p F (durable_of k) (item u (reached k).volume (page_at p))) (sym same)
    (subst (λ (u : Machine). Reach g p F (durable_of k) (item g u.volume (page_at p))) (sym e)
    (subst (λ (b : AbstractLog). Reach g p F b.durable (item g (run w es).volume (page_at p))) (sym l) y.0.1)) in
    let n : run_start (reached k).volume ≤ F = rw e₀ at near in
    rebuilt-not-lost k legal' p lo hi (repairable k legal' p F n far)

-- ME4 (b): while a page's own image is spared, and the run starts no later than number F, the page is not lost. An invariant over the list of
-- changes: the page has none; or its own image is valid and every change of the page after it is numbered F or above; or a format of the page
-- is.
use mathlib.Core.Path.{◌≡◌, sym, ap, ◌∙◌}
use mathlib.Core.Logic.{◌⊎◌, inl, inr}
use mathlib.Core.Bool.{true, false}
use mathlib.Core.List.{List, [], ◌∷◌, ◌++◌}
use Prim.Native.Nat.{ℕ, zero, suc, ◌-◌, ◌≤◌, ◌<◌}
use native.Mathlib.Omega.{arith}
use native.Mathlib.Decide.{ℕ_discrete, dec_lt}
use lib.ListN.{length, take, get_or-append}
use lib.Seq.{take_all}
use lib.Dec.{eqb}
use Rattle.laws.proofs.Tables.{true-not-false}
use Rattle.model.specs.Geometry.{geometry_of, item, page_at}
use Rattle.model.specs.Item.{image_lsn, valid_image, is_format}
use Rattle.model.specs.Change.{kind_of}
use Rattle.model.specs.Scan.{durable_count, log_record}
use Rattle.model.specs.AbstractLog.{Logged, last_place}
use Rattle.model.specs.Claim.{History, Legal, reached, durable_of}
use Rattle.model.specs.RingClaim.{run_start, Unrepairable}
use Rattle.model.specs.declared.{geometry.Geometry.Geometry, item.LogRecord.LogRecord}
use Rattle.history.proofs.Logs.{no_logged, at, last_at, last_of, last-le, last-page, last-ge, last-take, last-is, len_a, at_a, last_n, number-miss}
use Rattle.history.proofs.Records.{Fair}
use Rattle.history.proofs.LogScan.{first, durable-count, record-read}
use Rattle.history.proofs.Lost.{run-start-is}
use Rattle.history.proofs.Reached.{present, tied}

-- ---- reach, over the list of changes

module _ (g : Geometry) (p F : ℕ) where
  abbrev pub OwnFar : List Logged → List ℕ → Type 0
  OwnFar k x = (valid_image g p x ≡ true) × ((j : ℕ) → j < length k → (at k j).page ≡ p → image_lsn x ≤ j → F ≤ suc j)

  abbrev pub FormatFar : List Logged → Type 0
  FormatFar k = (j : ℕ) × (j < length k) × ((at k j).page ≡ p) × (eqb (kind_of (at k j).change) 1 ≡ true) × (F ≤ suc j)

  abbrev pub Reach : List Logged → List ℕ → Type 0
  Reach k x = (last_of p k ≡ 0) ⊎ (OwnFar k x ⊎ FormatFar k)

  -- one more change
  pub reach-more : (P : ℕ) (k : List Logged) (c : Logged) (x : List ℕ) → Fair P (k ++ (c ∷ [])) (length k) → F ≤ suc (length k)
      → Reach k x → Reach (k ++ (c ∷ [])) x
  reach-more P k c x fair le (inl z) = elim (ℕ_discrete p c.page) [
    | yes e ↦
        let q : (at (k ++ (c ∷ [])) (length k)).page ≡ c.page = ap (λ (y : Logged). y.page) (at_a k c) in
        let l : last_at (at (k ++ (c ∷ [])) (length k)).page (k ++ (c ∷ [])) (length k) ≡ 0 =
        ap (λ (n : ℕ). last_at n (k ++ (c ∷ [])) (length k)) (q ∙ sym e) ∙ (last_n k c p ∙ z) in
        inr (inr (length k, rw (len_a k c) (omega arith), q ∙ sym e, fair.first l, le))
    | no n ↦ inl (number-miss k c p n ∙ z)
  ]
  reach-more P k c x fair le (inr (inl o)) = inr (inl (
    o.0,
    (λ j b e f. elim (dec_lt j (length k)) [
      | yes y ↦ o.1 j y (ap (λ (z : Logged). z.page) (sym (get_or-append k (c ∷ []) no_logged j y)) ∙ e) f
      | no n ↦ omega (arith, len_a k c, b, le)
    ]),
  ))
  reach-more P k c x fair le (inr (inr (j, b, e, t, f))) =
      let q : at (k ++ (c ∷ [])) j ≡ at k j = get_or-append k (c ∷ []) no_logged j b in
      inr (inr (j, rw (len_a k c) (omega (arith, b)), ap (λ (z : Logged). z.page) q ∙ e, ap (λ (z : Logged). eqb (kind_of z.change) 1) q ∙ t, f))

  -- an image that has the newest number
  pub reach-new : (k : List Logged) (x : List ℕ) → valid_image g p x ≡ true → last_of p k ≤ image_lsn x → Reach k x
  reach-new k x t le = inr (inl (t, (λ j b e f. absurd (omega (arith, last-ge p k (length k) j b e)))))

-- a nearer number is as good
pub reach-nearer : (g : Geometry) (p F F' : ℕ) (k : List Logged) (x : List ℕ) → F' ≤ F → Reach g p F k x → Reach g p F' k x
reach-nearer g p F F' k x le (inl z) = inl z
reach-nearer g p F F' k x le (inr (inl o)) = inr (inl (o.0, (λ j b e f. let q = o.1 j b e f in omega (arith, q, le))))
reach-nearer g p F F' k x le (inr (inr (j, b, e, t, f))) = inr (inr (j, b, e, t, omega (arith, f, le)))

-- ---- the end: such a page can be rebuilt

last-of : (p : ℕ) (k : List Logged) (r z : ℕ) → last_place p (take r k) ≡ suc z → ((at k z).page ≡ p) × (z < length k) × (suc z ≤ r)
last-of p k r z e = elim (dec_lt r (length k)) [
  | yes y ↦
      let a : last_at p k r ≡ suc z = sym (last-take p k r (omega arith)) ∙ e in
      let l = last-le p k r in
      (last-page p k r z a, omega (arith, a, l), omega (arith, a, l))
  | no y ↦
      let a : last_at p k (length k) ≡ suc z = sym (last-is p k) ∙ (ap (last_place p) (sym (take_all r k (omega arith))) ∙ e) in
      let l = last-le p k (length k) in
      (last-page p k (length k) z a, omega (arith, a, l), omega (arith, a, l))
]

module _ (h : History) (legal : Legal h) (p F : ℕ) (near : run_start (reached h).volume ≤ F)
    (far : Reach (present h) p F (durable_of h) (item (present h) (reached h).volume (page_at p))) where
  pub repairable : (n : ℕ) → Unrepairable h p n → ⊥
  repairable zero u = omega (arith, u.some)
  repairable (suc z) u =
      let k = durable_of h in
      let v = (reached h).volume in
      let i = tied h legal in
      let geo : geometry_of v ≡ present h = i.holds.vol.geo in
      let s : run_start v ≡ suc (first (present h) v k i.holds i.ns i.noted) =
      run-start-is (present h) v k i.holds i.ns i.noted in
      let l = last-of p k (run_start v - 1) z u.lost in
      go geo s l.0 l.1 l.2 far
    where
      go : geometry_of (reached h).volume ≡ present h
          → run_start (reached h).volume
          ≡ suc (first (present h) (reached h).volume (durable_of h) (tied h legal).holds (tied h legal).ns (tied h legal).noted)
          → (at (durable_of h) z).page ≡ p → z < length (durable_of h) → suc z ≤ run_start (reached h).volume - 1
          → Reach (present h) p F (durable_of h) (item (present h) (reached h).volume (page_at p)) → ⊥
      go geo s e b c (inl q) = omega (arith, last-ge p (durable_of h) (length (durable_of h)) z b e, q)
      go geo s e b c (inr (inl o)) =
          let w : image_lsn (item (present h) (reached h).volume (page_at p)) < suc z = (rw geo at u.own) o.0 in
          let y = o.1 z b e (omega (arith, w)) in
          omega (arith, y, near, c, s)
      go geo s e b c (inr (inr (j, bj, ej, t, f))) =
          let i = tied h legal in
          let from : run_start (reached h).volume ≤ suc j = omega (arith, near, f) in
          let r = record-read (present h) (reached h).volume (durable_of h) i.holds i.ns i.noted j bj (omega (arith, s, near, f)) in
          let d : durable_count (present h) (reached h).volume ≡ length (durable_of h) =
          durable-count (present h) (reached h).volume (durable_of h) i.holds i.ns i.noted in
          let pg : (log_record (present h) (reached h).volume (suc j)).page ≡ p = ap (λ (y : LogRecord). y.page) r ∙ ej in
          let no : is_format (log_record (present h) (reached h).volume (suc j)) ≡ false =
          (rw geo at u.format) (suc j) (rw geo at from) (omega (arith, d, bj)) pg in
          true-not-false (ap is_format r ∙ t) no

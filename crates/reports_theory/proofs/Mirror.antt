-- Two histories whose logs are held against each other: the records that are the same change are the same kept changes,
-- and a page that is not listed has the same replay in both.
use mathlib.Core.Path.{◌≡◌, refl, sym, ap, ◌∙◌}
use mathlib.Core.Logic.{◌≢◌, ◌⊎◌, inl, inr}
use mathlib.Core.Bool.{true, false}
use mathlib.Core.List.{List, [], ◌∷◌}
use Prim.Native.Nat.{ℕ, zero, suc, ◌+◌, ◌-◌, ◌≤◌, ◌<◌}
use native.Mathlib.Omega.{arith}
use native.Mathlib.Decide.{dec_lt, ℕ_discrete}
use lib.ListN.{length, take, drop, length-append, get_or-append, take-append-drop}
use lib.Seq.{length-take-le}
use lib.Dec.{eqb}
use borrow.Author.Tests.{eqb-true}
use Rattle.laws.proofs.Tables.{by_cases, true-not-false}
use Rattle.reports_laws.proofs.Mirror.{common, Both, both, answer-is, listed-exact}
use Rattle.model.specs.Geometry.{top_number, geometry_of}
use Rattle.model.specs.Scan.{log_record, gone}
use Rattle.model.specs.AbstractLog.{Logged, last_place, replay}
use Rattle.model.specs.Claim.{History, Legal, reached, durable_of, inspection, ShowsReplay, Agree, Begins}
use Rattle.reports.specs.Mirror.{same_change, record_in, durable_in, common_of, comparison, mirror_of, mirror_refusal, listed}
use Rattle.reports.specs.Mirror.{LongestCommon, MirrorHistory}
use Rattle.reports.specs.declared.reading.Comparison.{Comparison}
use Rattle.history.proofs.Logs.{no_logged, at, last_at, last_of, replay_at, body_of, last-agree, replay-agree, last-miss}
use Rattle.history.proofs.Logs.{replay-miss, last-is, replay-is}
use Rattle.history.proofs.Records.{Fair, rec_of}
use Rattle.history.proofs.Sections.{volume-sized, most-high}
use Rattle.history.proofs.LogScan.{durable-count}
use Rattle.reports_theory.proofs.Archive.{stands, page-read}
use Rattle.history.proofs.Reached.{present, tied}
use Rattle.history.proofs.Theorem.{demand2}
use Rattle.reports_theory.proofs.SameChange.{logged-same, change-same}

-- ---- lists

take_same : (n : ℕ) (xs ys : List Logged) → n ≤ length xs → n ≤ length ys → ((i : ℕ) → i < n → at xs i ≡ at ys i) → take n xs ≡ take n ys
take_same zero xs ys a b h = refl
take_same (suc n) [] ys a b h = absurd (omega arith)
take_same (suc n) (x ∷ xs) [] a b h = absurd (omega arith)
take_same (suc n) (x ∷ xs) (y ∷ ys) a b h =
    let e : x ≡ y = h 0 (omega arith) in
    rw (e, take_same n xs ys (omega arith) (omega arith) (λ i c. h (suc i) (omega arith)))

begins-at : (l xs : List Logged) → Begins l xs → (i : ℕ) → i < length l → (at xs i ≡ at l i) × (length l ≤ length xs)
begins-at l xs b i c = (rw (← b.1) (get_or-append l b.0 no_logged i c), rw (← b.1) (rw (length-append l b.0) (omega arith)))

-- a page without a change behind the first k
module _ (p : ℕ) (l : List Logged) (k : ℕ) (none : (i : ℕ) → k ≤ i → i < length l → (at l i).page ≢ p) where
  last-there : (d : ℕ) → k + d ≤ length l → (last_at p l (k + d) ≡ last_at p l k) × (replay_at p l (k + d) ≡ replay_at p l k)
  last-there zero b = let e : k + 0 ≡ k = omega arith in rw e (refl, refl)
  last-there (suc d) b =
      let e : k + suc d ≡ suc (k + d) = omega arith in
      let ne = none (k + d) (omega arith) (omega arith) in
      let i = last-there d (omega arith) in
      rw e (last-miss p l (k + d) ne ∙ i.0, replay-miss p l (k + d) ne ∙ i.1)

  pub last-same : k ≤ length l → (last_of p l ≡ last_at p l k) × (body_of p l ≡ replay_at p l k)
  last-same a = let e : k + (length l - k) ≡ length l = omega arith in rw e at (last-there (length l - k) (omega arith))

-- ---- one history: its log is its kept changes

module _ (h : History) (legal : Legal h) (here : gone (geometry_of (reached h).volume) (reached h).volume ≡ false) where
  heading : geometry_of (reached h).volume ≡ present h
  heading = (tied h legal).holds.vol.geo

  here' : gone (present h) (reached h).volume ≡ false
  here' = rw heading at here

  pub count-is : durable_in (reached h).volume ≡ length (durable_of h)
  count-is = let i = tied h legal in rw heading (durable-count (present h) (reached h).volume (durable_of h) i.holds i.ns i.noted)

  pub record_is : (c : ℕ) → c < length (durable_of h) → record_in (reached h).volume (suc c) ≡ rec_of (durable_of h) c
  record_is c b = let i = tied h legal in
      rw heading (stands (present h) (reached h).volume (durable_of h) i.holds i.ns i.noted here' c b)

  pub page-is : (c : ℕ) → c < length (durable_of h)
      → (log_record (geometry_of (reached h).volume) (reached h).volume (suc c)).page ≡ (at (durable_of h) c).page
  page-is c b = let i = tied h legal in
      rw heading (page-read (present h) (reached h).volume (durable_of h) i.holds i.ns i.noted here' c b)

  pub pages-few : h.pages ≤ 64
  pages-few = let i = tied h legal in (volume-sized (present h) (reached h).volume i.holds.vol).p-high

  pub number-low : (c : ℕ) → c < length (durable_of h) → c < top_number
  number-low c b =
      let i = tied h legal in
      omega (arith, i.holds.room, most-high (present h) (volume-sized (present h) (reached h).volume i.holds.vol))

  pub fair-at : (c : ℕ) → c < length (durable_of h) → Fair h.pages (durable_of h) c
  fair-at c b = (tied h legal).holds.fair c b

  -- inspection of a page in range: 7 and blank, or its replay
  pub shows : (p : ℕ) → 1 ≤ p → p ≤ h.pages → (x : List ℕ) → length x ≡ 256
      → ((last_place p (durable_of h) ≡ 0) × (inspection h p x ≡ 7)) ⊎ ((last_place p (durable_of h) ≢ 0) × ShowsReplay h p x)
  shows p lo hi x e =
      let i = demand2.inspects h legal p lo hi x e in
      elim (ℕ_discrete (last_place p (durable_of h)) 0) [
        | yes z ↦ inl (z, i.blank.1 z)
        | no z ↦ inr (z, i.granted z (λ g. absurd (true-not-false g here)))
      ]

-- ---- two histories

module _ (h k : History) (lh : Legal h) (lk : Legal k)
    (z : mirror_refusal (mirror_of (reached h).volume (reached k).volume).answer ≡ 0) where
  abbrev v : List ℕ
  v = (reached h).volume

  abbrev w : List ℕ
  w = (reached k).volume

  b : Both (reached h).volume (reached k).volume
  b = both (reached h).volume (reached k).volume z

  abbrev n : ℕ
  n = common_of (reached h).volume (reached k).volume

  few : (n ≤ length (durable_of h)) × (n ≤ length (durable_of k))
  few =
      let f = (common v w).few in
      (omega (arith, f.0, count-is h lh b.here.0), omega (arith, f.1, count-is k lk b.here.1))

  -- the same change at the same number
  alike : (i : ℕ) → i < length (durable_of h) → i < length (durable_of k)
      → (same_change (record_in v (suc i)) (record_in w (suc i)) ≡ true → at (durable_of h) i ≡ at (durable_of k) i)
      × (at (durable_of h) i ≡ at (durable_of k) i → same_change (record_in v (suc i)) (record_in w (suc i)) ≡ true)
  alike i x y =
      let fh = fair-at h lh b.here.0 i x in
      let fk = fair-at k lk b.here.1 i y in
      let low = number-low h lh b.here.0 i x in
      rw (record_is h lh b.here.0 i x, record_is k lk b.here.1 i y) (
        logged-same h.pages k.pages (pages-few h lh b.here.0) (pages-few k lk b.here.1) (durable_of h)
            (durable_of k) i low fh fk,
        change-same h.pages k.pages (pages-few h lh b.here.0) (pages-few k lk b.here.1) (durable_of h)
            (durable_of k) i low fh fk,
      )

  same_at : (i : ℕ) → i < n → at (durable_of h) i ≡ at (durable_of k) i
  same_at i c = (alike i (omega (arith, few.0)) (omega (arith, few.1))).0 ((common v w).same (suc i) (omega arith) c)

  pub longest-common : LongestCommon n (durable_of h) (durable_of k)
  longest-common =
      record {
        front = take n (durable_of h);
        size = length-take-le n (durable_of h) few.0;
        first = (drop n (durable_of h), take-append-drop n (durable_of h));
        second = (
          drop n (durable_of k),
          rw (take_same n (durable_of h) (durable_of k) few.0 few.1 same_at) (take-append-drop n (durable_of k)),
        );
        longest = λ l bh bk. elim (dec_lt n (length l)) [
          | yes y ↦
              let p = begins-at l (durable_of h) bh n y in
              let q = begins-at l (durable_of k) bk n y in
              let t = (alike n (omega (arith, p.1)) (omega (arith, q.1))).1 (p.0 ∙ sym q.0) in
              absurd (true-not-false t
              ((common v w).next (omega (arith, p.1, count-is h lh b.here.0)) (omega (arith, q.1, count-is k lk b.here.1))))
          | no y ↦ omega arith
        ];
      }

  module _ (p : ℕ) (lo : 1 ≤ p) (hi : p ≤ h.pages) (ki : p ≤ k.pages) (unlisted : listed v w p ≡ false) where
    beyond : (m : ℕ) → n < m → (m ≤ durable_in v → (log_record (geometry_of v) v m).page ≢ p)
        × (m ≤ durable_in w → (log_record (geometry_of w) w m).page ≢ p)
    beyond = (listed-exact v w p z lo (omega (arith, hi, pages-few h lh b.here.0))).0 unlisted

    none-h : (i : ℕ) → n ≤ i → i < length (durable_of h) → (at (durable_of h) i).page ≢ p
    none-h i a c e = (beyond (suc i) (omega arith)).0 (omega (arith, count-is h lh b.here.0)) (page-is h lh b.here.0 i c ∙ e)

    none-k : (i : ℕ) → n ≤ i → i < length (durable_of k) → (at (durable_of k) i).page ≢ p
    none-k i a c e = (beyond (suc i) (omega arith)).1 (omega (arith, count-is k lk b.here.1)) (page-is k lk b.here.1 i c ∙ e)

    same-page : (last_place p (durable_of h) ≡ last_place p (durable_of k)) × (replay p (durable_of h) ≡ replay p (durable_of k))
    same-page =
        let a = last-same p (durable_of h) n none-h few.0 in
        let c = last-same p (durable_of k) n none-k few.1 in (
          last-is p (durable_of h) ∙ a.0 ∙ last-agree p (durable_of h) (durable_of k) n same_at ∙ sym c.0 ∙ sym (last-is p (durable_of k)),
          replay-is p (durable_of h) ∙ a.1 ∙ replay-agree p (durable_of h) (durable_of k) n same_at ∙ sym c.1
              ∙ sym (replay-is p (durable_of k)),
        )

    pub agrees : (x y : List ℕ) → length x ≡ 256 → length y ≡ 256 → Agree h k x y p
    agrees x y sx sy = go (shows h lh b.here.0 p lo hi x sx) (shows k lk b.here.1 p lo ki y sy)
      where
        go : ((last_place p (durable_of h) ≡ 0) × (inspection h p x ≡ 7)) ⊎ ((last_place p (durable_of h) ≢ 0) × ShowsReplay h p x)
            → ((last_place p (durable_of k) ≡ 0) × (inspection k p y ≡ 7))
            ⊎ ((last_place p (durable_of k) ≢ 0) × ShowsReplay k p y) → Agree h k x y p
        go (inl a) (inl c) = inl (a.1, c.1)
        go (inl a) (inr c) = absurd (c.0 (sym same-page.0 ∙ a.0))
        go (inr a) (inl c) = absurd (a.0 (same-page.0 ∙ c.0))
        go (inr a) (inr c) = inr (a.1.0, c.1.0, a.1.1 ∙ rw (same-page.0, same-page.1) (sym c.1.1))

-- ---- logs that agree

agree-counts : (k n m : ℕ) → comparison k n m ≡ Comparison.Agree → (k ≡ n) × (k ≡ m)
unfolding comparison
agree-counts k n m =
    by_cases (eqb k n)
    (λ t. rw t (by_cases (eqb k m) (λ u. rw u (λ e. (eqb-true k n t, eqb-true k m u)))
    (λ u. rw u (λ e. let z : ◌≡◌ {A = ℕ} 0 1 = cc in absurd (omega arith)))))
    (λ t. rw t (by_cases (eqb k m) (λ u. rw u (λ e. let z : ◌≡◌ {A = ℕ} 0 1 = cc in absurd (omega arith)))
    (λ u. rw u (λ e. let z : ◌≡◌ {A = ℕ} 0 1 = cc in absurd (omega arith)))))

module _ (h k : History) (lh : Legal h) (lk : Legal k)
    (e : (mirror_of (reached h).volume (reached k).volume).answer ≡ Comparison.Agree) where
  taken : mirror_refusal (mirror_of (reached h).volume (reached k).volume).answer ≡ 0
  taken = ap mirror_refusal e

  unlisted : (p : ℕ) → 1 ≤ p → p ≤ 64 → listed (reached h).volume (reached k).volume p ≡ false
  unlisted p lo hi =
      let v = (reached h).volume in
      let w = (reached k).volume in
      let q = agree-counts (common_of v w) (durable_in v) (durable_in w) (sym (answer-is v w taken) ∙ e) in
      (listed-exact v w p taken lo hi).1 (λ m a. (λ c. absurd (omega (arith, q.0)), λ c. absurd (omega (arith, q.1))))

  pub agreed : (p : ℕ) → 1 ≤ p → p ≤ h.pages → p ≤ k.pages → (x y : List ℕ) → length x ≡ 256 → length y ≡ 256 → Agree h k x y p
  agreed p lo hi ki =
      agrees h k lh lk taken p lo hi ki
      (unlisted p lo (omega (arith, hi, pages-few h lh (both (reached h).volume (reached k).volume taken).here.0)))

pub mirror : MirrorHistory
mirror =
    record {
      durable = λ h k lh lk z.
          let b = both (reached h).volume (reached k).volume z in
          (longest-common h k lh lk z, count-is h lh b.here.0, count-is k lk b.here.1);
      same = agrees;
      agreed = agreed;
    }

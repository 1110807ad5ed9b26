-- The chain walk over a log whose run holds a list of changes from a number on, by where it stops: it never breaks, what it replays is the
-- page's replay unless it goes below the run, and it does not go there where a start at or above the page's last lost record stands.
use mathlib.Core.Path.{◌≡◌, refl, sym, ap, ◌∙◌, subst}
use mathlib.Core.Logic.{◌≢◌, ◌⊎◌, ⊎_elim}
use mathlib.Core.Bool.{Bool, true, false, cond, ◌&&◌, ◌||◌}
use mathlib.Core.List.{List, [], ◌∷◌}
use Prim.Native.Nat.{ℕ, zero, suc, ◌≤◌, ◌<◌}
use native.Mathlib.Omega.{arith}
use lib.ListN.{length}
use lib.Dec.{eqb, leb, ltb}
use borrow.Author.Tests.{eq-eqb, eqb-true, eqb-false, lt-ltb, ltb-true, ltb-false, le-leb}
use Rattle.laws.proofs.Tables.{by_cases, and_left, and_right, or_right, or_left, true-not-false}
use Rattle.model.specs.declared.{geometry.Geometry.Geometry, answer.Stop.TheVariants.Below}
use Rattle.model.specs.declared.answer.Stop.TheVariants.{Own, Backup, Format}
use Rattle.model.specs.Geometry.{top_number}
use Rattle.model.specs.Change.{kind_of, zero_body, apply_change}
use Rattle.model.specs.Item.{image_lsn, image_body, valid_image, record_of, is_format}
use Rattle.model.specs.Repair.{View, Walk, stop_at, behind, chain_record, walk_from, walk_of, replay_chain, start_body}
use Rattle.model.specs.Repair.{is_broken, is_below, own_start, backup_start, rebuilt_body}
use Rattle.model.specs.AbstractLog.{Logged}
use Rattle.history.proofs.Logs.{at, last_at, replay_at, last-le, last-page, last-ge, last-mono, replay-hit, replay-last}
use Rattle.history.proofs.Leaf.{format-apply, RecordIs}
use Rattle.history.proofs.Records.{AllFair, rec_of, rec_of-is, Faithful}

-- a number that is 0 or a change of the page, and not above place m, is not above the page's last change before m
pub last-reaches : (p : ℕ) (l : List Logged) (m x : ℕ) → ((j : ℕ) → x ≡ suc j → (at l j).page ≡ p) → x ≤ m → x ≤ last_at p l m
last-reaches p l m x page-of h = go x refl
  where
    go : (n : ℕ) → x ≡ n → n ≤ last_at p l m
    go zero e = omega arith
    go (suc j) e = last-ge p l m j (omega arith) (page-of j e)

-- ---- the walk for page p, which may stop at two numbers, over a log that holds the changes from number suc f on

module _ (P : ℕ) (P64 : P ≤ 64) (l : List Logged) (fair : AllFair P l) (few : length l ≤ top_number) (p : ℕ) (log : ℕ → List ℕ)
    (from f : ℕ) (from_is : from ≡ suc f) (held : (i : ℕ) → i < length l → f ≤ i → log (suc i) ≡ rec_of l i) (own backup : ℕ) where
  -- the record at place m, as the walk reads it
  module _ (m : ℕ) (b : m < length l) (e : (at l m).page ≡ p) where
    pub rec : RecordIs (rec_of l m) (suc m) (last_at (at l m).page l m) (at l m).page (at l m).change (at l m).bytes
    rec = rec_of-is P l m P64 (omega arith) (fair m b)

    read : chain_record p (suc m) (rec_of l m) ≡ true
    unfolding chain_record
    read = rw rec.fields (simp (
      rec.sealed-is,
      rec.layout,
      eq-eqb (suc m) (suc m) refl,
      eq-eqb (at l m).page p e,
      lt-ltb (last_at (at l m).page l m) (suc m) (omega (arith, last-le (at l m).page l m)),
    ) (first (last_at (at l m).page l m) (eqb (kind_of (at l m).change) 1) (fair m b).first))
      where
        first : (n : ℕ) (t : Bool) → (n ≡ 0 → t ≡ true) → (t || leb 1 n) ≡ true
        first zero t k = or_left (leb 1 0) (k refl)
        first (suc n) t k = or_right t (le-leb 1 (suc n) (omega arith))

  -- place m is a change of the page at which the walk does not stop for a start
  pub record Passed (m : ℕ) : Type 0 where
    pub inside : m < length l
    pub page-is : (at l m).page ≡ p
    pub no_own : own ≢ suc m
    pub no-backup : backup ≢ suc m

  -- a law of these walks, by where they stop: asked of the places that May names, it Says something of the walk from there
  pub record Law (May : ℕ → Type 0) (Says : ℕ → Walk → Type 0) : Type 0 where
    pub at_own : (m : ℕ) → May m → own ≡ suc m → Says m (stop_at Own [])
    pub at-backup : (m : ℕ) → May m → backup ≡ suc m → Says m (stop_at Backup [])
    pub below : (m : ℕ) → Passed m → May m → m < f → Says m (stop_at Below [])
    pub format : (m : ℕ) → Passed m → May m → f ≤ m → eqb (kind_of (at l m).change) 1 ≡ true → Says m (stop_at Format (suc m ∷ []))
    pub before : (m k : ℕ) → Passed m → May m → f ≤ m → eqb (kind_of (at l m).change) 1 ≡ false → last_at p l m ≡ suc k
        → May k × ((w : Walk) → Says k w → Says m (behind (suc m ∷ []) w))

  module _ (May : ℕ → Type 0) (Says : ℕ → Walk → Type 0) (law : Law May Says) where
    abbrev walk : ℕ → ℕ → Walk
    walk steps n = walk_from steps log from p own backup n

    -- a record that is read, given the walks from lower numbers
    chained : (steps m : ℕ) → Passed m → May m → f ≤ m
        → ((k : ℕ) → k < m → (at l k).page ≡ p → May k → Says k (walk steps (suc k)))
        → Says m (cond (is_format (record_of (rec_of l m))) (stop_at Format (suc m ∷ []))
        (behind (suc m ∷ []) (walk steps (record_of (rec_of l m)).prev)))
    chained steps m x h a ih =
        rw ((rec m x.inside x.page-is).fields, x.page-is) (by_cases (eqb (kind_of (at l m).change) 1)
        (λ t. rw t (law.format m x h a t)) (λ t. rw t (go t (last_at p l m) refl)))
      where
        go : eqb (kind_of (at l m).change) 1 ≡ false → (n : ℕ) → last_at p l m ≡ n
            → Says m (behind (suc m ∷ []) (walk steps (last_at p l m)))
        go t zero q =
            let z : last_at (at l m).page l m ≡ 0 = rw x.page-is q in
            absurd (true-not-false ((fair m x.inside).first z) t)
        go t (suc k) q =
            let n = law.before m k x h a t q in
            rw q (n.1 (walk steps (suc k)) (ih k (omega (arith, q, last-le p l m)) (last-page p l m k q) n.0))

    pub walk-says : (steps m : ℕ) → m < steps → m < length l → (at l m).page ≡ p → May m → Says m (walk steps (suc m))
    unfolding walk_from
    walk-says zero m a b e h = absurd (omega arith)
    walk-says (suc steps) m a b e h =
        by_cases (eqb own (suc m)) (λ t. rw t (law.at_own m h (eqb-true own (suc m) t)))
        (λ t. rw t (by_cases (eqb backup (suc m)) (λ u. rw u (law.at-backup m h (eqb-true backup (suc m) u)))
        (λ u.
        let x : Passed m = record { inside = b; page-is = e; no_own = eqb-false own (suc m) t; no-backup = eqb-false backup (suc m) u } in
        rw u (by_cases (ltb (suc m) from)
        (λ z. let lt : suc m < from = ltb-true (suc m) from z in rw z (law.below m x h (omega arith)))
        (λ z.
        let le : from ≤ suc m = ltb-false (suc m) from z in
        rw z (rw (held m b (omega arith), read m b e)
        (chained steps m x h (omega arith) (λ k d q y. walk-says steps k (omega arith) (omega arith) q y))))))))

-- ---- a page's walk over its view

-- a walk that serves: unbroken, and its replay is page p's at number n unless it goes below the run
pub record Serves (w : View) (p : ℕ) (l : List Logged) (n : ℕ) (k : Walk) : Type 0 where
  pub unbroken : is_broken k.stop ≡ false
  pub body_is : is_below k.stop ≡ false → replay_chain w.log k.chain (start_body k.stop w) ≡ replay_at p l n

module _ (g : Geometry) (P : ℕ) (P64 : P ≤ 64) (l : List Logged) (fair : AllFair P l) (few : length l ≤ top_number) (p : ℕ) (w : View)
    (f : ℕ) (first-is : w.first ≡ suc f) (held : (i : ℕ) → i < length l → f ≤ i → w.log (suc i) ≡ rec_of l i)
    (own : Faithful g p l w.own) (copy : w.backup ≢ 0 → Faithful g p l w.copy) where
  -- where the walk stops at the own image, that is the replay
  own-serves : (n : ℕ) → own_start g p w ≡ suc n → image_body w.own ≡ replay_at p l (suc n)
  own-serves n e = by_cases (valid_image g p w.own)
      (λ t.
      let f = own t in
      let q : image_lsn w.own ≡ suc n = rw t at e in
      let s : suc f.place ≡ suc n = sym f.lsn-is ∙ q in
      f.body_is ∙ ap (replay_at p l) s)
      (λ t. absurd (let z : 0 ≡ suc n = rw t at e in omega arith))

  copy-serves : (n : ℕ) → backup_start g p w ≡ suc n → image_body w.copy ≡ replay_at p l (suc n)
  copy-serves n e = by_cases (valid_image g p w.copy && eqb (image_lsn w.copy) w.backup)
      (λ t.
      let q : w.backup ≡ suc n = rw t at e in
      let f = copy (λ z. omega arith) (and_left (valid_image g p w.copy) (eqb (image_lsn w.copy) w.backup) t) in
      let q' : image_lsn w.copy ≡ w.backup =
      eqb-true (image_lsn w.copy) w.backup (and_right (valid_image g p w.copy) (eqb (image_lsn w.copy) w.backup) t) in
      let s : suc f.place ≡ suc n = sym f.lsn-is ∙ (q' ∙ q) in
      f.body_is ∙ ap (replay_at p l) s)
      (λ t. absurd (let z : 0 ≡ suc n = rw t at e in omega arith))

  abbrev Walks : (ℕ → Type 0) → (ℕ → Walk → Type 0) → Type 0
  Walks = Law P P64 l fair few p w.log w.first f first-is held (own_start g p w) (backup_start g p w)

  abbrev record-at : (m : ℕ) → m < length l → (at l m).page ≡ p
      → RecordIs (rec_of l m) (suc m) (last_at (at l m).page l m) (at l m).page (at l m).change (at l m).bytes
  record-at = rec P P64 l fair few p w.log w.first f first-is held (own_start g p w) (backup_start g p w)

  serves : Walks (λ m. Unit {0}) (λ m k. Serves w p l (suc m) k)
  unfolding replay_chain
  serves = record {
    at_own = λ m h q. record { unbroken = refl; body_is = λ z. own-serves m q };
    at-backup = λ m h q. record { unbroken = refl; body_is = λ z. copy-serves m q };
    below = λ m x h a. record { unbroken = refl; body_is = λ q. absurd (true-not-false refl q) };
    format = λ m x h a t.
        let b = x.inside in
        let e = x.page-is in
        record {
          unbroken = refl;
          body_is = λ z. rw (held m b a, (record-at m b e).applied zero_body, replay-hit p l m e)
              (format-apply (at l m).change (at l m).bytes zero_body (replay_at p l m) t);
        };
    before = λ m k x h a t q.
        let b = x.inside in
        let e = x.page-is in (
          tt,
          λ y s. record {
            unbroken = s.unbroken;
            body_is = λ z. rw (held m b a, s.body_is z, (record-at m b e).applied (replay_at p l (suc k)), replay-hit p l m e)
                (ap (apply_change (at l m).change (at l m).bytes) (sym (replay-last p l m ∙ ap (replay_at p l) q)));
          },
        );
  }

  -- the key lemma: x is 0 or a start that stands at a change of the page, and no lost record of the page is above it
  module _ (x : ℕ) (hit : x ≢ 0 → (own_start g p w ≡ x) ⊎ (backup_start g p w ≡ x)) (page-of : (j : ℕ) → x ≡ suc j → (at l j).page ≡ p)
      (lost : (i : ℕ) → i < length l → i < f → (at l i).page ≡ p → suc i ≤ x) where
    misses : (m : ℕ) → own_start g p w ≢ suc m → backup_start g p w ≢ suc m → x ≢ suc m
    misses m t u e = ⊎_elim (λ q. t (q ∙ e)) (λ q. u (q ∙ e)) (hit (λ z. omega arith))

    granted : Walks (λ m. x ≤ suc m) (λ m k. is_below k.stop ≡ false)
    granted = record {
      at_own = λ m h q. refl;
      at-backup = λ m h q. refl;
      below = λ m y h a. absurd (misses m y.no_own y.no-backup (omega (arith, h, lost m y.inside a y.page-is)));
      format = λ m y h a t. refl;
      before = λ m k y h a t q.
          let ne = misses m y.no_own y.no-backup in
          (omega (arith, q, last-reaches p l m x page-of (omega (arith, ne, h))), λ v z. z);
    }

  -- a format in the run stops the walk there, or earlier
  module _ (i₀ : ℕ) (in-run : f ≤ i₀) (of-page : (at l i₀).page ≡ p) (formats : eqb (kind_of (at l i₀).change) 1 ≡ true) where
    stopped : Walks (λ m. i₀ ≤ m) (λ m k. is_below k.stop ≡ false)
    stopped = record {
      at_own = λ m h q. refl;
      at-backup = λ m h q. refl;
      below = λ m y h a. absurd (omega (arith, h, a, in-run));
      format = λ m y h a t. refl;
      before = λ m k y h a t q.
          let ne : m ≢ i₀ = λ z. true-not-false formats (rw z at t) in
          (omega (arith, q, last-ge p l m i₀ (omega (arith, ne, h)) of-page), λ v z. z);
    }

  -- the exact form: the page has a lost record, suc z the last; no start at or above it stands, and the run holds no format of the page
  module _ (z : ℕ) (last-lost : last_at p l f ≡ suc z) (own-low : own_start g p w ≤ z) (no_copy : backup_start g p w ≡ 0)
      (plain : (i : ℕ) → f ≤ i → i < length l → (at l i).page ≡ p → eqb (kind_of (at l i).change) 1 ≡ false) where
    goes-below : Walks (λ m. z ≤ m) (λ m k. is_below k.stop ≡ true)
    goes-below = record {
      at_own = λ m h q. absurd (omega (arith, own-low, q, h));
      at-backup = λ m h q. absurd (omega (arith, no_copy, q));
      below = λ m y h a. refl;
      format = λ m y h a t. absurd (true-not-false t (plain m a y.inside y.page-is));
      before = λ m k y h a t q. (omega (arith, last-mono p l m f a, last-lost, q), λ v e. e);
    }

  -- the whole repair of a page whose newest durable change stands at place m
  module _ (m : ℕ) (b : m < length l) (e : (at l m).page ≡ p) (d : w.durable ≡ suc m) where
    walked : (May : ℕ → Type 0) (Says : ℕ → Walk → Type 0) → Walks May Says → May m → Says m (walk_of g p w)
    unfolding walk_of
    walked May Says law h =
        subst (λ (n : ℕ). Says m (walk_from n w.log w.first p (own_start g p w) (backup_start g p w) n)) (sym d)
        (walk-says P P64 l fair few p w.log w.first f first-is held (own_start g p w) (backup_start g p w) May Says law (suc m) m
        (omega arith) b e h)

    pub walk-unbroken : is_broken (walk_of g p w).stop ≡ false
    walk-unbroken = (walked _ _ serves tt).unbroken

    pub rebuilt-is : is_below (walk_of g p w).stop ≡ false → rebuilt_body g p w ≡ replay_at p l (suc m)
    unfolding rebuilt_body
    rebuilt-is z = (walked _ _ serves tt).body_is z

    pub walk-stands : (x : ℕ) → (x ≢ 0 → (own_start g p w ≡ x) ⊎ (backup_start g p w ≡ x)) → ((j : ℕ) → x ≡ suc j → (at l j).page ≡ p)
        → ((i : ℕ) → i < length l → i < f → (at l i).page ≡ p → suc i ≤ x) → x ≤ suc m → is_below (walk_of g p w).stop ≡ false
    walk-stands x hit page-of lost h = walked _ _ (granted x hit page-of lost) h

    pub walk-stopped : (i : ℕ) → f ≤ i → (at l i).page ≡ p → eqb (kind_of (at l i).change) 1 ≡ true → i ≤ m
        → is_below (walk_of g p w).stop ≡ false
    walk-stopped i a c t h = walked _ _ (stopped i a c t) h

    pub walk-lost : (z : ℕ) → last_at p l f ≡ suc z → own_start g p w ≤ z → backup_start g p w ≡ 0
        → ((i : ℕ) → f ≤ i → i < length l → (at l i).page ≡ p → eqb (kind_of (at l i).change) 1 ≡ false) → z ≤ m
        → is_below (walk_of g p w).stop ≡ true
    walk-lost z y o c t h = walked _ _ (goes-below z y o c t) h

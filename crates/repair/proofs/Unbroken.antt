-- Refusal 19 never comes after a clean scan: where log and notes keep the restart rule, the walk for a page from the index meets only
-- records that it may read, or goes below the run. It holds for any bytes, whatever the images are.
use Prim.Native.Nat.{ℕ, zero, suc, ◌+◌, ◌-◌, ◌≤◌, ◌<◌}
use mathlib.Core.Path.{◌≡◌, refl, sym, ap, ◌∙◌, subst}
use mathlib.Core.Logic.{◌⊎◌, inl, inr, ⊎_elim}
use mathlib.Core.Bool.{true, false}
use mathlib.Core.List.{List, [], ◌∷◌}
use native.Mathlib.Omega.{arith}
use lib.Dec.{eqb, ltb}
use borrow.Author.Tests.{eq-eqb, lt-ltb, ltb-false}
use Rattle.laws.proofs.Tables.{by_cases, all-holds}
use Rattle.laws.proofs.Scanned.{Linked, link-cases, link-first, Fit, Newest, newest, held_low, log-fits}
use Rattle.model.specs.Checksum.{sealed}
use Rattle.model.specs.Geometry.{geometry_of, valid_volume, log_slot, item}
use Rattle.model.specs.Item.{record_layout, is_format, first_is_format}
use Rattle.model.specs.Index.{entry_of}
use Rattle.model.specs.Scan.{log_record, durable_count, first_held, log_index, valid_log, valid_notes, index_of}
use Rattle.model.specs.Repair.{chain_record, walk_from, walk_of, is_broken, scanned_view}
use Rattle.model.specs.declared.geometry.Geometry.{Geometry}
use Rattle.repair.specs.Walked.{Whole, log_of}
use Rattle.repair.proofs.Links.{link, link-back}
use Rattle.repair.proofs.Scanned.{scanned-row}
use Rattle.repair.proofs.Starts.{sized}

module _ (g : Geometry) (v : List ℕ) (few : g.pages ≤ 64)
    (ok : let n = durable_count g v in (i : ℕ) → i < suc n - first_held g v n → Fit g v (first_held g v n) i) (p : ℕ) (low : 1 ≤ p) where
  first : ℕ
  first = first_held g v (durable_count g v)

  some : 1 ≤ first
  unfolding first
  some = held_low g v (durable_count g v)

  -- a number at which a walk for the page may be: one below the run, or one of the page's records in it
  abbrev Stands : ℕ → Type 0
  Stands n = (n ≤ durable_count g v) × ((n < first) ⊎ ((log_record g v n).page ≡ p))

  -- the record of page p at place i of the run
  module _ (i : ℕ) (b : i < suc (durable_count g v) - first) (page-is : (log_record g v (first + i)).page ≡ p) where
    before : Newest g v first i p (entry_of (log_index g v first i) p)
    unfolding first
    before = newest g v first some few (suc (durable_count g v) - first) ok i p (omega arith) low

    here : Fit g v first i
    unfolding first
    here = ok i b

    prev-is : Linked first (entry_of (log_index g v first i) p).last (log_record g v (first + i)).prev
    prev-is =
        subst (λ (q : ℕ). Linked first (entry_of (log_index g v first i) q).last (log_record g v (first + i)).prev) page-is
        (link-cases first (entry_of (log_index g v first i) (log_record g v (first + i)).page).last
        (log_record g v (first + i)) here.links)

    -- its previous number is lower
    falls : (log_record g v (first + i)).prev < first + i
    falls = ⊎_elim (λ e. omega (arith, before.high)) (λ e. omega (arith, some, e.2)) prev-is

    -- and, where there is one, the walk may be there
    stands : 1 ≤ (log_record g v (first + i)).prev → Stands (log_record g v (first + i)).prev
    unfolding first
    stands h = (
      omega (arith, falls, b),
      ⊎_elim
          (λ e. inr (ap (λ (n : ℕ). (log_record g v n).page) e ∙ before.page (λ q. omega (arith, e))))
          (λ e. inl (omega (arith, some, e.2))) prev-is,
    )

    readable : chain_record p (first + i) (item g v (log_slot g (first + i))) ≡ true
    unfolding chain_record
    readable =
        let e = log_record g v (first + i) in
        let is-first = link-first first (entry_of (log_index g v first i) e.page).last e here.links in
        all-holds
        (sealed 60 (item g v (log_slot g (first + i))) ∷ eqb e.lsn (first + i) ∷ eqb e.page p
        ∷ record_layout (item g v (log_slot g (first + i))) ∷ ltb e.prev (first + i) ∷ first_is_format e ∷ [])
        (here.sealed-is, (eq-eqb _ _ here.lsn-is, (eq-eqb _ _ page-is, (here.layout, (lt-ltb _ _ falls, (is-first, tt))))))

  -- a number in the run, by its place
  record At (n : ℕ) : Type 0 where
    readable-is : chain_record p n (item g v (log_slot g n)) ≡ true
    stands-next : 1 ≤ (log_record g v n).prev → Stands (log_record g v n).prev

  at : (n : ℕ) → first ≤ n → Stands n → At n
  at n l s =
      let e : first + (n - first) ≡ n = omega (arith, l) in
      let b : n - first < suc (durable_count g v) - first = omega (arith, l, s.0) in
      let r : (log_record g v n).page ≡ p = ⊎_elim (λ x. absurd (omega (arith, x, l))) (λ x. x) s.1 in
      let q : (log_record g v (first + (n - first))).page ≡ p = ap (λ (k : ℕ). (log_record g v k).page) e ∙ r in
      subst At e (record { readable-is = readable (n - first) b q; stands-next = stands (n - first) b q })

  -- the walk from a number at which it may be
  unbroken-from : (own backup steps n : ℕ) → n ≤ steps → 1 ≤ n → Stands n
      → is_broken (walk_from steps (log_of g v) first p own backup n).stop ≡ false
  unfolding walk_from first
  unbroken-from own backup zero n h l s = absurd (omega arith)
  unbroken-from own backup (suc steps) n h l s =
      by_cases (eqb own n) (λ t. rw t refl)
      (λ t. rw t (by_cases (eqb backup n) (λ u. rw u refl)
      (λ u. rw u (by_cases (ltb n first) (λ w. rw w refl)
      (λ w. rw (w, (at n (ltb-false n first w) s).readable-is)
      (by_cases (is_format (log_record g v n)) (λ m. rw m refl) (λ m. rw m (go w m (λ q. unbroken-from own backup steps q)))))))))
    where
      go : ltb n first ≡ false → is_format (log_record g v n) ≡ false
          → ((q : ℕ) → q ≤ steps → 1 ≤ q → Stands q → is_broken (walk_from steps (log_of g v) first p own backup q).stop ≡ false)
          → is_broken (walk_from steps (log_of g v) first p own backup (log_record g v n).prev).stop ≡ false
      go w m ih =
          let a = at n (ltb-false n first w) s in
          let k = link p n (item g v (log_slot g n)) a.readable-is in
          let l : 1 ≤ (log_record g v n).prev = link-back p n (item g v (log_slot g n)) k m in
          ih (log_record g v n).prev (omega (arith, k.falls)) l (a.stands-next l)

pub unbroken : (v : List ℕ) (g : Geometry) (p : ℕ) → valid_volume v ≡ true → g ≡ geometry_of v → valid_log g v ≡ true
    → valid_notes g v ≡ true → 1 ≤ p
    → ((entry_of (index_of g v) p).durable ≡ 0 → ⊥)
    → is_broken (walk_of g p (scanned_view g v p)).stop ≡ false
unfolding walk_of first
unbroken v g p valid g-is log notes low some =
    let e = entry_of (index_of g v) p in
    let r = scanned-row v g valid g-is log p notes low in
    let few = (sized v g valid g-is).pages in
    let s : Stands g v few (log-fits g v log) p low e.durable =
    subst (Stands g v few (log-fits g v log) p low) (sym r.same) (r.high, r.names (λ z. some (r.same ∙ z))) in
    unbroken-from g v few (log-fits g v log) p low _ _ e.durable e.durable (omega arith) (omega (arith, some)) s

-- so its walk may be followed untested
pub scanned-whole : (v : List ℕ) (g : Geometry) (p : ℕ) → valid_volume v ≡ true → g ≡ geometry_of v → valid_log g v ≡ true
    → valid_notes g v ≡ true → 1 ≤ p
    → Whole g p (scanned_view g v p)
scanned-whole v g p valid g-is log notes low some = unbroken v g p valid g-is log notes low (λ z. omega (arith, some, z))

-- A page's repair from a volume that holds a list of changes and notes: the walk is unbroken, its body is the page's replay unless it goes
-- below the run, and it does not go there where record 1 has not left or the proviso holds.
use mathlib.Core.Path.{◌≡◌, refl, ◌∙◌}
use mathlib.Core.Logic.{◌≢◌, ◌⊎◌, inl, inr, ⊎_elim}
use mathlib.Core.Bool.{Bool, true, false, cond, not, ◌&&◌, ◌||◌}
use mathlib.Core.List.{List}
use Prim.Native.Nat.{ℕ, zero, suc, ◌≤◌, ◌<◌}
use native.Mathlib.Omega.{arith}
use lib.ListN.{length}
use lib.Dec.{eqb, leb}
use borrow.Author.Tests.{eqb-true, eqb-false, eq-eqb, leb-true, leb-false}
use Rattle.laws.proofs.Tables.{by_cases, and_left, and_right, or_cases, not-true, true-not-false}
use Rattle.model.specs.Geometry.{top_number, page_at, slot_at, item}
use Rattle.model.specs.Change.{kind_of}
use Rattle.model.specs.declared.{state.Entry.Entry, geometry.Geometry.Geometry, item.Note.Note}
use Rattle.model.specs.Item.{image_lsn, valid_image, is_written}
use Rattle.model.specs.Scan.{first_held, gone}
use Rattle.model.specs.Repair.{View, view_of, walk_of, is_broken, is_below, own_start, backup_start, rebuilt_body}
use Rattle.model.specs.Claim.{start_stands}
use Rattle.model.specs.AbstractLog.{Logged}
use Rattle.history.proofs.Logs.{at, last_at, last_of, last-ge, last-mono, replay_at}
use Rattle.history.proofs.Marks.{note, Mark, mark_at, last_by, by-is, by_le, mark-by}
use Rattle.history.proofs.Entries.{entry_from}
use Rattle.history.proofs.Records.{Faithful}
use Rattle.history.proofs.Walk.{walk-unbroken, rebuilt-is, walk-stands, walk-stopped, walk-lost}
use Rattle.history.proofs.Sections.{Sized, volume-sized, most-high}
use Rattle.history.proofs.Disk.{Holds, Noted}
use Rattle.history.proofs.LogScan.{first, first-is, started, not-gone}

-- the exact condition of 23, for a run that starts at number suc f: the page has a lost record, suc z the last; its noted backup does not
-- stand; its own image does not stand at or above that record; and the run holds no format of it
abbrev pub Unserved : Geometry → List ℕ → List Logged → Entry → ℕ → ℕ → Type 0
Unserved g v k e p f =
    (z : ℕ) × (last_at p k f ≡ suc z)
    × ((not (eqb e.slot 0)
    && (valid_image g p (item g v (slot_at e.slot)) && eqb (image_lsn (item g v (slot_at e.slot))) e.backup)) ≡ false)
    × ((valid_image g p (item g v (page_at p)) && leb (suc z) (image_lsn (item g v (page_at p)))) ≡ false)
    × ((i : ℕ) → f ≤ i → i < length k → (at k i).page ≡ p → eqb (kind_of (at k i).change) 1 ≡ false)

module _ {C : Type 0} (g : Geometry) (v : List ℕ) (k : List Logged) (h : Holds g v k) (ns : List Note) (o : Noted C g v k ns) (a j p : ℕ)
    (lo : 1 ≤ p) (hi : p ≤ g.pages)
    (b : j < length k) (e : (at k j).page ≡ p) where
  abbrev mark : Mark
  mark = mark_at p ns (length ns)

  view : View
  view = view_of g v (first_held g v (length k)) (entry_from a (suc j) (mark_at p ns (length ns))) p

  sz : Sized g
  sz = volume-sized g v h.vol

  few : length k ≤ top_number
  few = omega (arith, h.room, most-high g sz)

  f : ℕ
  f = first g v k h ns o

  starts : view.first ≡ suc f
  unfolding view f
  starts = first-is g v k h ns o

  -- the noted backup
  copy-ok : view.backup ≢ 0 → Faithful g p k view.copy
  unfolding view
  copy-ok ne = by_cases (eqb (mark_at p ns (length ns)).slot 0)
      (λ t. absurd (ne (rw t)))
      (λ t. o.backups p lo hi (eqb-false (mark_at p ns (length ns)).slot 0 t))

  pub view-unbroken : is_broken
      (walk_of g p (view_of g v (first_held g v (length k)) (entry_from a (suc j) (mark_at p ns (length ns))) p)).stop ≡ false
  unfolding view f
  view-unbroken =
      walk-unbroken g g.pages sz.p-high k h.fair few p view f starts (λ i c d. (started g v k h ns o).held i c d)
      (h.images p lo hi) copy-ok j b e refl

  pub view-body : is_below
      (walk_of g p (view_of g v (first_held g v (length k)) (entry_from a (suc j) (mark_at p ns (length ns))) p)).stop ≡ false
      → rebuilt_body g p (view_of g v (first_held g v (length k)) (entry_from a (suc j) (mark_at p ns (length ns))) p) ≡ replay_at p k (suc j)
  unfolding view f
  view-body z =
      rebuilt-is g g.pages sz.p-high k h.fair few p view f starts (λ i c d. (started g v k h ns o).held i c d)
      (h.images p lo hi) copy-ok j b e refl z

  -- a start at x
  stands : (x : ℕ) → (x ≢ 0 → (own_start g p view ≡ x) ⊎ (backup_start g p view ≡ x)) → ((i : ℕ) → x ≡ suc i → (at k i).page ≡ p)
      → ((i : ℕ) → i < length k → i < f → (at k i).page ≡ p → suc i ≤ x) → x ≤ suc j
      → is_below (walk_of g p (view_of g v (first_held g v (length k)) (entry_from a (suc j) (mark_at p ns (length ns))) p)).stop ≡ false
  unfolding view f
  stands x hit page-of lost le =
      walk-stands g g.pages sz.p-high k h.fair few p view f starts (λ i c d. (started g v k h ns o).held i c d)
      (h.images p lo hi) copy-ok j b e refl x hit page-of lost le

  -- record 1 has not left: nothing is below the run
  pub view-whole : gone g v ≡ false
      → is_below (walk_of g p (view_of g v (first_held g v (length k)) (entry_from a (suc j) (mark_at p ns (length ns))) p)).stop ≡ false
  unfolding f
  view-whole t =
      let z : first g v k h ns o ≡ 0 = not-gone g v k h ns o t (omega arith) in
      stands 0 (λ n. absurd (n refl)) (λ i q. absurd (omega arith)) (λ i c d q. absurd (omega arith)) (omega arith)

  -- a lost record of the page is not above its noted backup
  lost-below : (i : ℕ) → i < length k → i < f → (at k i).page ≡ p → suc i ≤ (mark_at p ns (length ns)).backup
  unfolding f
  lost-below i c d q = rw q at ((started g v k h ns o).lost i c d)

  -- no slot, no backup
  pub no-backup : (mark_at p ns (length ns)).slot ≡ 0 → (mark_at p ns (length ns)).backup ≡ 0
  no-backup z = go (last_by false p ns (length ns)) refl
    where
      go : (n : ℕ) → last_by false p ns (length ns) ≡ n → (mark_at p ns (length ns)).backup ≡ 0
      go zero q = rw (mark-by p ns (length ns), q)
      go (suc i) q =
          let is = by-is p ns false (length ns) i q in
          let low : i < length ns = omega (arith, by_le p ns false (length ns)) in
          let s : (note ns i).slot ≡ 0 = rw (mark-by p ns (length ns), q) at z in
          absurd (omega (arith, ((o.fit i low).backed (not-true (is_written (note ns i)) is.1)).low))

  -- an image that is valid as the page's at number x
  image-at : (y : List ℕ) → Faithful g p k y → valid_image g p y ≡ true → last_of p k ≡ suc j
      → ((i : ℕ) → image_lsn y ≡ suc i → (at k i).page ≡ p) × (image_lsn y ≤ suc j)
  image-at y fy t last =
      let r = fy t in (
        λ i q. let s : i ≡ r.place = omega (arith, r.lsn-is) in rw s r.page-is,
        let ge : suc r.place ≤ last_of p k = last-ge p k (length k) r.place r.below r.page-is in omega (arith, r.lsn-is),
      )

  -- the walk does not go below the run
  abbrev pub Served : Type 0
  Served = is_below (walk_of g p (view_of g v (first_held g v (length k)) (entry_from a (suc j) (mark_at p ns (length ns))) p)).stop ≡ false

  abbrev copy : List ℕ
  copy = item g v (slot_at (mark_at p ns (length ns)).slot)

  abbrev own : List ℕ
  own = item g v (page_at p)

  no_slot : eqb (mark_at p ns (length ns)).slot 0 ≡ true → Served
  no_slot z =
      let q : (mark_at p ns (length ns)).backup ≡ 0 = no-backup (eqb-true (mark_at p ns (length ns)).slot 0 z) in
      stands 0 (λ n. absurd (n refl)) (λ i q. absurd (omega arith)) (λ i c d u. omega (arith, lost-below i c d u)) (omega arith)

  by_copy : eqb (mark_at p ns (length ns)).slot 0 ≡ false → last_of p k ≡ suc j → valid_image g p copy ≡ true
      → image_lsn copy ≡ (mark_at p ns (length ns)).backup → Served
  unfolding view
  by_copy z last t q =
      let im = image-at copy (o.backups p lo hi (eqb-false (mark_at p ns (length ns)).slot 0 z)) t last in
      stands (mark_at p ns (length ns)).backup (λ n. inr (rw (z, t, eq-eqb (image_lsn copy) (mark_at p ns (length ns)).backup q)))
      (λ i u. im.0 i (q ∙ u))
      lost-below (omega (arith, im.1))

  by-own : last_of p k ≡ suc j → valid_image g p own ≡ true → (mark_at p ns (length ns)).backup ≤ image_lsn own → Served
  unfolding view
  by-own last t q =
      let im = image-at own (h.images p lo hi) t last in
      stands (image_lsn own) (λ n. inl (rw t)) im.0 (λ i c d u. omega (arith, lost-below i c d u)) im.1

  -- the proviso
  pub view-granted : start_stands g v (entry_from a (suc j) (mark_at p ns (length ns))) p ≡ true → last_of p k ≡ suc j → Served
  view-granted t last = by_cases (eqb (mark_at p ns (length ns)).slot 0) no_slot
      (λ z.
      let A = valid_image g p copy && eqb (image_lsn copy) (mark_at p ns (length ns)).backup in
      let B = valid_image g p own && leb (mark_at p ns (length ns)).backup (image_lsn own) in
      let t' : (A || B) ≡ true = rw z at t in
      ⊎_elim
      (λ y. by_copy z last (and_left (valid_image g p copy) (eqb (image_lsn copy) (mark_at p ns (length ns)).backup) y)
      (eqb-true (image_lsn copy) (mark_at p ns (length ns)).backup
      (and_right (valid_image g p copy) (eqb (image_lsn copy) (mark_at p ns (length ns)).backup) y)))
      (λ y. by-own last (and_left (valid_image g p own) (leb (mark_at p ns (length ns)).backup (image_lsn own)) y)
      (leb-true (mark_at p ns (length ns)).backup (image_lsn own)
      (and_right (valid_image g p own) (leb (mark_at p ns (length ns)).backup (image_lsn own)) y)))
      (or_cases A B t'))

  -- ---- the exact form of 23

  abbrev pub Unrepaired : Type 0
  Unrepaired = is_below (walk_of g p (view_of g v (first_held g v (length k)) (entry_from a (suc j) (mark_at p ns (length ns))) p)).stop ≡ true

  copy-fails : (not (eqb (mark_at p ns (length ns)).slot 0)
      && (valid_image g p copy && eqb (image_lsn copy) (mark_at p ns (length ns)).backup)) ≡ false → backup_start g p view ≡ 0
  unfolding view
  copy-fails t = by_cases (eqb (mark_at p ns (length ns)).slot 0)
      (λ z. rw z (same (valid_image g p copy && eqb (image_lsn copy) 0)))
      (λ z. let u : (valid_image g p copy && eqb (image_lsn copy) (mark_at p ns (length ns)).backup) ≡ false = rw z at t in rw (z, u))
    where
      same : (b : Bool) → ◌≡◌ {A = ℕ} (cond b 0 0) 0
      same true = refl
      same false = refl

  own-fails : (z : ℕ) → (valid_image g p own && leb (suc z) (image_lsn own)) ≡ false → own_start g p view ≤ z
  unfolding view
  own-fails z t = by_cases (valid_image g p own)
      (λ y. let u : leb (suc z) (image_lsn own) ≡ false = rw y at t in
      rw y (let lt : image_lsn own < suc z = leb-false (suc z) (image_lsn own) u in omega arith))
      (λ y. rw y (omega arith))

  pub exact_below : last_of p k ≡ suc j → Unserved g v k (entry_from a (suc j) (mark_at p ns (length ns))) p (first g v k h ns o) → Unrepaired
  unfolding view f
  exact_below last u =
      let st = started g v k h ns o in
      let le : last_at p k (first g v k h ns o) ≤ last_of p k = last-mono p k (length k) (first g v k h ns o) (st.inside (omega arith)) in
      walk-lost g g.pages sz.p-high k h.fair few p view f starts (λ i c d. st.held i c d)
      (h.images p lo hi) copy-ok j b e refl u.0 u.1
      (own-fails u.0 u.3) (copy-fails u.2) u.4 (omega (arith, u.1))

  pub below-exact : last_of p k ≡ suc j → Unrepaired → Unserved g v k (entry_from a (suc j) (mark_at p ns (length ns))) p (first g v k h ns o)
  unfolding view f
  below-exact last t = go (last_at p k f) refl
    where
      never : Served → ⊥
      never s = true-not-false t s

      go : (n : ℕ) → last_at p k f ≡ n → Unserved g v k (entry_from a (suc j) (mark_at p ns (length ns))) p (first g v k h ns o)
      go zero q = absurd (never
          (stands 0 (λ n. absurd (n refl)) (λ i y. absurd (omega arith)) (λ i c d y. omega (arith, last-ge p k f i d y)) (omega arith)))
      go (suc z) q = (
        z,
        q,
        by_cases (not (eqb (mark_at p ns (length ns)).slot 0)
            && (valid_image g p copy && eqb (image_lsn copy) (mark_at p ns (length ns)).backup))
            (λ y.
            let y₁ = not-true (eqb (mark_at p ns (length ns)).slot 0) (and_left (not (eqb (mark_at p ns (length ns)).slot 0))
            (valid_image g p copy && eqb (image_lsn copy) (mark_at p ns (length ns)).backup) y) in
            let y₂ = and_right (not (eqb (mark_at p ns (length ns)).slot 0))
            (valid_image g p copy && eqb (image_lsn copy) (mark_at p ns (length ns)).backup) y in
            absurd (never (by_copy y₁ last (and_left (valid_image g p copy) (eqb (image_lsn copy) (mark_at p ns (length ns)).backup) y₂)
            (eqb-true (image_lsn copy) (mark_at p ns (length ns)).backup
            (and_right (valid_image g p copy) (eqb (image_lsn copy) (mark_at p ns (length ns)).backup) y₂)))))
            (λ y. y),
        by_cases (valid_image g p own && leb (suc z) (image_lsn own))
            (λ y.
            let y₁ = and_left (valid_image g p own) (leb (suc z) (image_lsn own)) y in
            let up : suc z ≤ image_lsn own =
            leb-true (suc z) (image_lsn own) (and_right (valid_image g p own) (leb (suc z) (image_lsn own)) y) in
            let im = image-at own (h.images p lo hi) y₁ last in
            absurd (never (stands (image_lsn own) (λ n. inl (rw y₁)) im.0 (λ i c d u. omega (arith, last-ge p k f i d u)) im.1)))
            (λ y. y),
        λ i c d u. by_cases (eqb (kind_of (at k i).change) 1)
            (λ y. absurd (never (walk-stopped g g.pages sz.p-high k h.fair few p view f starts
            (λ i c d. (started g v k h ns o).held i c d) (h.images p lo hi) copy-ok j b e refl
            i c u y (omega (arith, last-ge p k (length k) i d u)))))
            (λ y. y),
      )

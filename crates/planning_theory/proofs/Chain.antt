-- The length of the walk's chain: the page's changes after the start, where its own image is not valid.
use mathlib.Core.Path.{◌≡◌, refl, ap}
use mathlib.Core.Bool.{true, false, ◌&&◌}
use mathlib.Core.List.{List, [], ◌++◌, append-nil}
use Prim.Native.Nat.{ℕ, zero, suc, ◌+◌, ◌≤◌, ◌<◌}
use native.Mathlib.Omega.{arith}
use lib.ListN.{length}
use lib.Dec.{eqb}
use borrow.Author.Tests.{eq-eqb, eqb-true, eqb-false}
use Rattle.laws.proofs.Tables.{by_cases, and_both, cond_same, true-not-false}
use Rattle.model.specs.Geometry.{top_number, page_at, slot_at, item}
use Rattle.model.specs.Change.{kind_of}
use Rattle.model.specs.Item.{image_lsn, valid_image}
use Rattle.model.specs.Scan.{first_held}
use Rattle.model.specs.Repair.{view_of, Walk, walk_from, walk_of, is_below, backup_start}
use Rattle.model.specs.Outcome.{StoredItem}
use Rattle.model.specs.AbstractLog.{Logged}
use Rattle.model.specs.declared.{geometry.Geometry.Geometry, state.State.State}
use Rattle.history.proofs.Logs.{at, last_at, last_of, last-le, last-page}
use Rattle.history.proofs.Walk.{Law, walk-says, last-reaches}
use Rattle.history.proofs.Records.{AllFair, rec_of}
use Rattle.history.proofs.Marks.{Mark, mark_at, mark-ok}
use Rattle.history.proofs.Entries.{entry_from}
use Rattle.history.proofs.Views.{no-backup}
use Rattle.history.proofs.LogScan.{first, first-is, started}
use Rattle.history.proofs.Context.{Ctx, sized, few}
use Rattle.planning_theory.proofs.Counts.{count_at, count-zero, count-hit, count-last, none-count}

-- only a page's first change is a format
abbrev pub Begun : List Logged → Type 0
Begun l = (i : ℕ) → i < length l → eqb (kind_of (at l i).change) 1 ≡ true → last_at (at l i).page l i ≡ 0

module _ (P : ℕ) (P64 : P ≤ 64) (l : List Logged) (fr : AllFair P l) (fw : length l ≤ top_number) (begun : Begun l) (p : ℕ)
    (log : ℕ → List ℕ) (from f : ℕ) (from_is : from ≡ suc f)
    (held : (i : ℕ) → i < length l → f ≤ i → log (suc i) ≡ rec_of l i) (x : ℕ) (page-of : (j : ℕ) → x ≡ suc j → (at l j).page ≡ p) where
  -- the walk's chain has the page's changes after number x
  abbrev Tells : ℕ → Walk → Type 0
  Tells m k = is_below k.stop ≡ false → length k.chain + count_at p l x ≡ count_at p l (suc m)

  tells : Law P P64 l fr fw p log from f from_is held 0 x (λ m. x ≤ suc m) Tells
  tells = record {
    at_own = λ m h q. absurd (omega (arith, q));
    at-backup = λ m h q z. omega (arith, ap (count_at p l) q);
    below = λ m y h a z. absurd (true-not-false refl z);
    format = λ m y h a t z.
        let e = y.page-is in
        let ne = y.no-backup in
        let n : last_at p l m ≡ 0 = rw e at (begun m y.inside t) in
        let x0 : x ≡ 0 = omega (arith, last-reaches p l m x page-of (omega (arith, h, ne))) in
        omega (arith, count-hit p l m e, none-count p l m n, ap (count_at p l) x0, count-zero p l);
    before = λ m k y h a t q.
        let e = y.page-is in
        let ne = y.no-backup in (
          omega (arith, q, last-reaches p l m x page-of (omega (arith, h, ne))),
          λ w s z. omega (arith, s z, count-hit p l m e, count-last p l m, ap (count_at p l) q),
        );
  }

  walk-tells : (steps m : ℕ) → m < steps → m < length l → (at l m).page ≡ p → x ≤ suc m → Tells m (walk_from steps log from p 0 x (suc m))
  walk-tells = walk-says P P64 l fr fw p log from f from_is held 0 x (λ m. x ≤ suc m) Tells tells

-- ---- a page in a machine that is on, with no record pending

module _ {C : Type 0} {g : Geometry} {v m : List ℕ} {past : List StoredItem} {s : State} {k : List Logged} (x : Ctx C g v m past s k [])
    (ok : C) (begun : Begun k)
    (p : ℕ) (lo : 1 ≤ p) (hi : p ≤ g.pages) where
  abbrev mark : Mark
  mark = mark_at p x.ns (length x.ns)

  -- a noted backup stands: it is the start where the index has one
  start_is : (a j : ℕ) → j < length k → (at k j).page ≡ p → (f : ℕ)
      → backup_start g p (view_of g v f (entry_from a (suc j) (mark_at p x.ns (length x.ns))) p) ≡ (mark_at p x.ns
      (length x.ns)).backup
  start_is a j b e f = by_cases (eqb mark.slot 0)
      (λ t.
      let z : mark.backup ≡ 0 = no-backup g v k x.hs x.ns x.no a j p lo hi b e (eqb-true mark.slot 0 t) in
      rw (t, z) (cond_same (valid_image g p (item g v (slot_at mark.slot)) && eqb (image_lsn (item g v (slot_at mark.slot))) 0) 0))
      (λ t.
      let c = x.no.copies ok p lo hi (eqb-false mark.slot 0 t) in
      rw (t, and_both c.0 (eq-eqb (image_lsn (item g v (slot_at mark.slot))) mark.backup c.1)))

  -- and at a change of the page
  mark-page : (j : ℕ) → (mark_at p x.ns (length x.ns)).backup ≡ suc j → (at k j).page ≡ p
  mark-page j q = by_cases (eqb mark.slot 0)
      (λ t. absurd (omega (arith, zero-backup (eqb-true mark.slot 0 t))))
      (λ t.
      let nz = eqb-false mark.slot 0 t in
      let c = x.no.copies ok p lo hi nz in
      let r = x.no.backups p lo hi nz c.0 in
      let i : j ≡ r.place = omega (arith, c.1, r.lsn-is) in
      rw i r.page-is)
    where
      zero-backup : mark.slot ≡ 0 → mark.backup ≡ 0
      zero-backup z = go (last_of p k) refl
        where
          bound : mark.backup ≤ last_of p k
          bound = (mark-ok g.pages g.slots k x.ns x.no.fit p (length x.ns) (omega arith)).backs

          go : (n : ℕ) → last_of p k ≡ n → mark.backup ≡ 0
          go zero e = omega (arith, bound)
          go (suc n) e =
              no-backup g v k x.hs x.ns x.no 0 n p lo hi (omega (arith, last-le p k (length k))) (last-page p k (length k) n e) z

  pub view_tells : (a j : ℕ) → j < length k → (at k j).page ≡ p → last_of p k ≡ suc j → valid_image g p (item g v (page_at p)) ≡ false
      → is_below (walk_of g p
      (view_of g v (first_held g v (length k)) (entry_from a (suc j) (mark_at p x.ns (length x.ns))) p)).stop ≡ false
      → length (walk_of g p (view_of g v (first_held g v (length k)) (entry_from a (suc j) (mark_at p x.ns (length x.ns))) p)).chain
      + count_at p k (mark_at p x.ns (length x.ns)).backup ≡ count_at p k (suc j)
  unfolding walk_of
  view_tells a j b e last bad =
      rw (bad, start_is a j b e (first_held g v (length k)))
      (walk-tells g.pages (sized x).p-high k x.hs.fair (omega (arith, few-k)) begun p _ (first_held g v (length k))
      (first g v k x.hs x.ns x.no)
      (first-is g v k x.hs x.ns x.no) (λ i c d. (started g v k x.hs x.ns x.no).held i c d) mark.backup mark-page
      (suc j) j (omega arith) b e
      (omega (arith, (mark-ok g.pages g.slots k x.ns x.no.fit p (length x.ns) (omega arith)).backs)))
    where
      few-k : length k ≤ top_number
      few-k = omega (arith, few x, ap length x.al.log.split, length-nil)
        where
          length-nil : length (k ++ []) ≡ length k
          length-nil = ap length (append-nil k)

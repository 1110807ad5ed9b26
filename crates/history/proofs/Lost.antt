-- The log's ring in the definitions' words: every record below the run is spare, and every record that a pending one will displace is
-- durable and spare. And when the proviso of demand 3 holds by itself: on a volume that is no ring, and, theorem C, after a history without
-- damage in which no Restamp of a noted backup was left torn.
use mathlib.Core.Path.{◌≡◌, sym, ap, ◌∙◌, subst}
use mathlib.Core.Bool.{true, false, ◌&&◌}
use mathlib.Core.List.{List, ◌++◌}
use Prim.Native.Nat.{ℕ, suc, ◌+◌, ◌-◌, ◌≤◌, ◌<◌}
use native.Mathlib.Omega.{arith}
use lib.ListN.{length, get_or-append}
use lib.Dec.{eqb, ltb}
use borrow.Author.Tests.{le-ltb, eqb-false, eq-eqb}
use Rattle.laws.proofs.Tables.{by_cases, and_right, and_both, or_left, or_right, true-not-false}
use Rattle.model.specs.Geometry.{ring, geometry_of, slot_at, item}
use Rattle.model.specs.Item.{image_lsn}
use Rattle.model.specs.Index.{entry_of}
use Rattle.model.specs.Scan.{durable_count, first_held, index_of, gone, first_in}
use Rattle.model.specs.AbstractLog.{Logged}
use Rattle.model.specs.History.{on}
use Rattle.model.specs.Carry.{starts_in}
use Rattle.model.specs.Claim.{History, Legal, reached, log_of, durable_of, Gone, Safe}
use Rattle.model.specs.RingClaim.{ChangeOf, SpareRecord, run_start}
use Rattle.model.specs.declared.{geometry.Geometry.Geometry, item.Note.Note, state.Entry.Entry, state.State.State}
use Rattle.history.specs.Facts.{volume_of, heading_of}
use Rattle.history.proofs.Logs.{no_logged, at, last_of, last-page, last-take}
use Rattle.history.proofs.Marks.{mark_at}
use Rattle.history.proofs.Entries.{entry_from}
use Rattle.history.proofs.Sections.{volume-sized}
use Rattle.history.proofs.NoteIndex.{index_is}
use Rattle.history.proofs.LogScan.{first, first-is, started, durable-count}
use Rattle.history.proofs.Views.{no-backup}
use Rattle.history.proofs.Disk.{Holds, Noted, Spare}
use Rattle.history.proofs.Inv.{Inv}
use Rattle.history.proofs.Reached.{Undamaged, made_with, present, tied, uncarried, live}

-- ---- spare records

-- the page of change n
pub page-at : (l : List Logged) (n p : ℕ) → ChangeOf l n p → (at l (n - 1)).page ≡ p
page-at l n p c =
    let e : suc (n - 1) ≡ n = omega (arith, c.low) in
    last-page p l n (n - 1) (sym (last-take p l n c.high) ∙ (c.last ∙ sym e))

-- a change that is spare by the list of notes is so by the index that the volume gives
module _ {C : Type 0} (g : Geometry) (v : List ℕ) (k : List Logged) (h : Holds g v k) (ns : List Note) (o : Noted C g v k ns) where
  pub spare-record : (j p : ℕ) → j < length k → (at k j).page ≡ p → Spare k ns j → SpareRecord v p (suc j)
  spare-record j p b e sp =
      let f = h.fair j b in
      let lo : 1 ≤ p = rw e at f.low in
      let hi : p ≤ g.pages = rw e at f.high in
      let up : suc j ≤ (mark_at p ns (length ns)).backup = rw e at sp in
      let en : entry_of (index_of (geometry_of v) v) p ≡ entry_from (last_of p k) (last_of p k) (mark_at p ns (length ns)) =
      rw h.vol.geo ((index_is g v k h ns o).entry p lo (omega (arith, (volume-sized g v h.vol).p-high))) in
      record {
        noted = λ z.
            let q : (mark_at p ns (length ns)).slot ≡ 0 = sym (ap (λ (y : Entry). y.slot) en) ∙ z in
            omega (arith, no-backup g v k h ns o 0 j p lo hi b e q);
        above = rw en up;
      }

  pub run-start-is : run_start v ≡ suc (first g v k h ns o)
  run-start-is = rw (h.vol.geo, durable-count g v k h ns o) (first-is g v k h ns o)

  pub lost-record : (n p : ℕ) → ChangeOf k n p → n < run_start v → SpareRecord v p n
  lost-record n p c b =
      let e : suc (n - 1) ≡ n = omega (arith, c.low) in
      let l : n - 1 < length k = omega (arith, c.high, c.low) in
      subst (λ (m : ℕ). SpareRecord v p m) e
      (spare-record (n - 1) p l (page-at k n p c)
      ((started g v k h ns o).lost (n - 1) l (omega (arith, run-start-is, c.low))))

-- ---- a legal history

module _ (h : History) (legal : Legal h) where
  abbrev i : Inv (Undamaged h) (present h) (volume_of h) (reached h).past (reached h).power (log_of h)
  i = tied h legal

  heading : heading_of h ≡ present h
  heading = (tied h legal).holds.vol.geo

  -- LOST
  pub lost-spare : (n p : ℕ) → ChangeOf (durable_of h) n p → n < run_start (volume_of h) → SpareRecord (volume_of h) p n
  lost-spare = lost-record (present h) (volume_of h) (durable_of h) i.holds i.ns i.noted

  -- DISPLACED
  pub displaced-spare : (m : List ℕ) (s : State) → (reached h).power ≡ on m s
      → (n p : ℕ) → ChangeOf (durable_of h ++ (log_of h).pending) n p → n + h.records ≤ length (durable_of h ++ (log_of h).pending)
      → (n ≤ length (durable_of h)) × SpareRecord (volume_of h) p n
  displaced-spare m s e n p c b =
      let x = live h legal m s e in
      let k = durable_of h in
      let w = (log_of h).pending in
      let q = x.al.displaced (n - 1) (rw x.al.log.split (omega (arith, b, c.low))) in
      let pg : (at k (n - 1)).page ≡ p = rw (get_or-append k w no_logged (n - 1) q.0) at (page-at (k ++ w) n p c) in
      let e₁ : suc (n - 1) ≡ n = omega (arith, c.low) in (
        omega (arith, q.0),
        subst (λ (j : ℕ). SpareRecord (volume_of h) p j) e₁
            (spare-record (present h) (volume_of h) k x.hs x.ns x.no (n - 1) p q.0 pg q.1),
      )

  -- ---- no ring

  pub not-gone : ring (present h) ≡ false → Gone h → ⊥
  unfolding gone first_held first_in
  not-gone t z =
      let y : (ltb 0 (durable_count (present h) (volume_of h)) && ltb 1 1) ≡ true = rw (heading, t) at z in
      true-not-false (and_right (ltb 0 (durable_count (present h) (volume_of h))) (ltb 1 1) y) (le-ltb 1 1 (omega arith))

  pub plain-safe : ring (present h) ≡ false → Safe h
  plain-safe t z = absurd (not-gone t z)

  -- as Make made it, and not carried over
  pub made-safe : ring (made_with h) ≡ false → starts_in h.events ≡ false → Safe h
  made-safe t u = plain-safe (subst (λ (g : Geometry). ring g ≡ false) (sym (uncarried h legal u)) t)

  -- ---- theorem C: no damage

  pub undamaged-safe : Undamaged h → Safe h
  undamaged-safe c z p lo hi =
      let g = present h in
      let v = volume_of h in
      let ns = i.ns in
      let e : entry_of (index_of g v) p ≡ entry_from (last_of p (durable_of h)) (last_of p (durable_of h)) (mark_at p ns (length ns)) =
      (index_is g v (durable_of h) i.holds ns i.noted).entry p lo (omega (arith, (volume-sized g v i.holds.vol).p-high)) in
      rw (heading, e) (by_cases (eqb (mark_at p ns (length ns)).slot 0)
      (λ t. or_left _ t)
      (λ t.
      let k = i.noted.copies c p lo hi (eqb-false (mark_at p ns (length ns)).slot 0 t) in
      or_right (eqb (mark_at p ns (length ns)).slot 0) (or_left _ (and_both k.0
      (eq-eqb (image_lsn (item g v (slot_at (mark_at p ns (length ns)).slot))) (mark_at p ns (length ns)).backup k.1)))))

-- ME2: a page that mending has written is whole, and stays in reach of mending's walk for L - G records. From the invariant
-- of ME4 (b) back to the walk that takes no backup.
use mathlib.Core.Path.{◌≡◌, refl, sym, ap, ◌∙◌, subst}
use mathlib.Core.Logic.{◌≢◌, ◌⊎◌, inl, inr}
use mathlib.Core.Bool.{Bool, true, false, cond}
use mathlib.Core.List.{List, ◌∷◌}
use Prim.Native.Nat.{ℕ, zero, suc, ◌+◌, ◌-◌, ◌/◌, ◌≤◌, ◌<◌}
use native.Mathlib.Omega.{arith}
use native.Mathlib.Decide.{ℕ_discrete}
use lib.ListN.{length}
use lib.Dec.{eqb}
use borrow.Author.Tests.{eq-eqb}
use Rattle.laws.proofs.Tables.{and_both, or_left, or_right, true-not-false}
use Rattle.model.specs.Tables.{first_of, larger}
use Rattle.model.specs.Checksum.{seal_image}
use Rattle.model.specs.Geometry.{geometry_of, item, page_at, log_slot, ring, top_number}
use Rattle.model.specs.Item.{image_lsn, valid_image}
use Rattle.model.specs.Change.{kind_of}
use Rattle.model.specs.Index.{entry_of}
use Rattle.model.specs.Scan.{durable_count, first_held, index_of}
use Rattle.model.specs.State.{frame_bytes, holder}
use Rattle.model.specs.Refusals.{page_dirty, write_rows}
use Rattle.model.specs.Repair.{Walk, walk_from, is_below, scanned_view}
use Rattle.model.specs.Outcome.{StoredItem, volume_after, decided}
use Rattle.model.specs.Effects.{write_outcome}
use Rattle.model.specs.Calls.{Call, outcome_of, rows_of, no_payload}
use Rattle.model.specs.AbstractLog.{Logged, AbstractLog, empty_log}
use Rattle.model.specs.History.{Power, Machine, perform, call_in, allowed, step, step_log, all_allowed, run, log_after}
use Rattle.model.specs.Claim.{History, Legal, fresh, reached, log_of, durable_of}
use Rattle.model.specs.declared.{geometry.Geometry.Geometry, item.Note.Note, state.State.State}
use Rattle.model.specs.declared.command.Command.TheVariants.{Write}
use Rattle.history.proofs.Logs.{at, last_at, last_of, last-le, last-page, last-ge}
use Rattle.history.proofs.Sections.{volume-sized, most-high, store_same}
use Rattle.history.proofs.LogScan.{first, started}
use Rattle.history.proofs.Disk.{Holds, Noted}
use Rattle.history.proofs.Images.{sealed-valid, sealed-lsn, sealed-size, lsn-is, settled}
use Rattle.history.proofs.Persists.{writes as asked}
use Rattle.history.proofs.Context.{Ctx, geo, durable-last}
use Rattle.history.proofs.Walk.{Law, walk-says}
use Rattle.history.proofs.Reached.{Undamaged, present, tied, live}
use Rattle.history.proofs.Refusals.{call-refusal}
use Rattle.upkeep_policy.specs.UpkeepClaim.{extended}
use Rattle.upkeep_theory.proofs.Idle.{idle-closed}
use Rattle.upkeep_theory.proofs.Along.{renewal-plain}
use Rattle.upkeep_theory.proofs.Shape.{Renewal, loads, backs, writes, puts}
use Rattle.upkeep_theory.proofs.Text.{run-append, log-append}
use Rattle.mend_policy.specs.Mend.{stands, reaches_from}
use Rattle.mend_policy.specs.MendClaim.{stands_on, whole_on, none_owed, writes_page, start_next, WriteMends}
use Rattle.mend_theory.proofs.Less.{less}
use Rattle.mend_theory.proofs.Two.{one-inv, no-starts, allowed-append, backup-holds, both}
use Rattle.mend_theory.proofs.Own.{Reach, reach-new, reach-nearer}
use Rattle.mend_theory.proofs.OwnSteps.{Near, all_near}
use Rattle.mend_theory.proofs.OwnHolds.{larger-left, newest, held}
use Rattle.mend_theory.proofs.Named.{named, mend-is-done}
use Rattle.mend_theory.proofs.Risks.{durable-stays, stood_on}

-- ---- a page in reach: the walk that takes no backup does not go below the run

module _ {C : Type 0} (g : Geometry) (v : List ℕ) (k : List Logged) (h : Holds g v k) (ns : List Note) (o : Noted C g v k ns) (p : ℕ)
    (lo : 1 ≤ p) (hi : p ≤ g.pages) (f : ℕ) (from : first g v k h ns o ≤ f) where
  abbrev number : ℕ
  number = cond (valid_image g p (item g v (page_at p))) (image_lsn (item g v (page_at p))) 0

  -- the own image is of a change at m or before, and every later one up to m is f or above
  abbrev OwnBy : ℕ → Type 0
  OwnBy m = (i : ℕ) × (number ≡ suc i) × ((at k i).page ≡ p) × (i ≤ m)
      × ((j : ℕ) → j ≤ m → (at k j).page ≡ p → i < j → f ≤ j)

  abbrev FormatBy : ℕ → Type 0
  FormatBy m = (j : ℕ) × (j ≤ m) × ((at k j).page ≡ p) × (eqb (kind_of (at k j).change) 1 ≡ true) × (f ≤ j)

  abbrev May : ℕ → Type 0
  May m = OwnBy m ⊎ FormatBy m

  few : length k ≤ top_number
  few = omega (arith, h.room, most-high g (volume-sized g v h.vol))

  not-below : (m : ℕ) → number ≢ suc m → (at k m).page ≡ p → May m → m < f → ⊥
  not-below m ne pg (inl (i, e, q, a, b)) c = elim (ℕ_discrete i m) [
    | yes z ↦ ne (rw z at e)
    | no z ↦ let y = b m (omega arith) pg (omega (arith, a, z)) in omega (arith, y, c)
  ]
  not-below m ne pg (inr (j, a, q, t, b)) c = omega (arith, a, b, c)

  -- the page's change before m
  before : (m n : ℕ) → number ≢ suc m → eqb (kind_of (at k m).change) 1 ≡ false → last_at p k m ≡ suc n → May m → May n
  before m n ne t q (inl (i, e, pg, a, b)) =
      let l : i < m = elim (ℕ_discrete i m) [ yes z ↦ absurd (ne (rw z at e)) | no z ↦ omega (arith, a, z) ] in
      let up = last-le p k m in
      inl (i, e, pg, omega (arith, last-ge p k m i l pg, q), (λ j c d. b j (omega (arith, c, q, up)) d))
  before m n ne t q (inr (j, a, pg, y, b)) =
      let l : j < m = elim (ℕ_discrete j m) [
        | yes z ↦ absurd (true-not-false (rw z at y) t)
        | no z ↦ omega (arith, a, z)
      ] in
      inr (j, omega (arith, last-ge p k m j l pg, q), pg, y, b)

  abbrev Says : ℕ → Walk → Type 0
  Says m w = is_below w.stop ≡ false

  law : Law g.pages (volume-sized g v h.vol).p-high k h.fair few p (λ n. item g v (log_slot g n)) (suc f) f refl
      (λ i a b. (started g v k h ns o).held i a (omega (arith, from, b))) number 0 May Says
  law = record {
    at_own = λ m u q. refl;
    at-backup = λ m u q. absurd (omega (arith, q));
    below = λ m x u a. absurd (not-below m x.no_own x.page-is u a);
    format = λ m x u a t. refl;
    before = λ m n x u a t q. (before m n x.no_own t q u, λ w s. s);
  }

  may-start : (m : ℕ) → last_of p k ≡ suc m → Reach g p (suc f) k (item g v (page_at p)) → May m
  may-start m e (inl z) = absurd (omega (arith, e, z))
  may-start m e (inr (inl y)) =
      let i = h.images p lo hi y.0 in
      let n : number ≡ suc i.place = rw y.0 i.lsn-is in
      inl (
        i.place,
        n,
        i.page-is,
        omega (arith, e, last-ge p k (length k) i.place i.below i.page-is),
        (λ j a b c. let z = y.1 j (omega (arith, a, e, last-le p k (length k))) b (omega (arith, c, i.lsn-is)) in omega (arith, z)),
      )
  may-start m e (inr (inr (j, a, pg, t, b))) = inr (j, omega (arith, e, last-ge p k (length k) j a pg), pg, t, omega (arith, b))

  pub reach-walk : (m : ℕ) → last_of p k ≡ suc m → Reach g p (suc f) k (item g v (page_at p))
      → is_below (walk_from (suc m) (λ n. item g v (log_slot g n)) (suc f) p number 0 (suc m)).stop ≡ false
  reach-walk m e y =
      let b : m < length k = omega (arith, e, last-le p k (length k)) in
      walk-says g.pages (volume-sized g v h.vol).p-high k h.fair few p (λ n. item g v (log_slot g n)) (suc f) f refl
      (λ i a b. (started g v k h ns o).held i a (omega (arith, from, b))) number 0 May Says law
      (suc m) m (omega arith) b (last-page p k (length k) m e) (may-start m e y)

-- ---- whole, by the volume

module _ (h : History) (legal : Legal h) (p : ℕ) (lo : 1 ≤ p) (hi : p ≤ h.pages) (F : ℕ)
    (far : Reach (present h) p F (durable_of h) (item (present h) (reached h).volume (page_at p)))
    (near : start_next (reached h).volume ≤ F) (st : stands_on (reached h).volume p ≡ true) where
  abbrev g : Geometry
  g = present h

  abbrev v : List ℕ
  v = (reached h).volume

  is : geometry_of (reached h).volume ≡ present h
  is = (tied h legal).holds.vol.geo

  abbrev next : ℕ
  next = larger (first_held (present h) (reached h).volume (durable_count (present h) (reached h).volume))
      (suc (durable_count (present h) (reached h).volume + h.records / 4) - h.records)

  pub reach-whole : whole_on (reached h).volume p ≡ true
  unfolding reaches_from
  reach-whole = go (last_of p (durable_of h)) refl
    where
      go : (n : ℕ) → last_of p (durable_of h) ≡ n → whole_on (reached h).volume p ≡ true
      go zero e =
          let d : (entry_of (index_of (present h) (reached h).volume) p).durable ≡ 0 = newest h legal p lo hi ∙ e in
          rw is (or_left _ (eq-eqb (entry_of (index_of (present h) (reached h).volume) p).durable 0 d))
      go (suc m) e =
          let i = tied h legal in
          let en = entry_of (index_of g v) p in
          let w = scanned_view g v p in
          let d : en.durable ≡ suc m = newest h legal p lo hi ∙ e in
          let hl = held h legal p lo hi in
          let lf = larger-left (first_held g v (durable_count g v)) (suc (durable_count g v + h.records / 4) - h.records) in
          let fi : suc (next - 1) ≡ next = omega (arith, lf, hl) in
          let near' : next ≤ F = rw is at near in
          let y : Reach g p (suc (next - 1)) (durable_of h) (item g v (page_at p)) =
          reach-nearer g p F (suc (next - 1)) (durable_of h) (item g v (page_at p)) (rw fi near') far in
          let t : is_below (walk_from (suc m) (λ n. item g v (log_slot g n)) (suc (next - 1)) p
          (cond (valid_image g p (item g v (page_at p))) (image_lsn (item g v (page_at p))) 0) 0 (suc m)).stop ≡ false =
          reach-walk g v (durable_of h) i.holds i.ns i.noted p lo hi (next - 1) (omega (arith, lf, hl)) m e y in
          let t₁ : is_below (walk_from en.durable (λ n. item g v (log_slot g n)) next p
          (cond (valid_image g p (item g v (page_at p))) (image_lsn (item g v (page_at p))) 0) 0 en.durable).stop ≡ false =
          subst (λ (n : ℕ). is_below (walk_from n (λ n. item g v (log_slot g n)) next p
          (cond (valid_image g p (item g v (page_at p))) (image_lsn (item g v (page_at p))) 0) 0 n).stop ≡ false) (sym d) (rw fi at t) in
          let s' : stands g v en p ≡ true = rw is at st in
          rw is (or_right (eqb en.durable 0) (and_both s' (rw t₁)))

-- ---- the Write

module _ {C : Type 0} {g : Geometry} {v m : List ℕ} {past : List StoredItem} {s : State} {k w : List Logged}
    (x : Ctx C g v m past s k w) (p : ℕ) (lo : 1 ≤ p) (hi : p ≤ g.pages) (F : ℕ) (le : F ≤ suc (length k)) where
  written-near : first_of (write_rows v m s p) ≡ 0 → page_dirty s p ≡ true
      → Near g p F lo hi k (volume_after v (outcome_of (Write p, no_payload) v m s).stored)
  unfolding decided write_outcome volume_after
  written-near e d =
      let y = asked x p e in let fo = y.frame-of in let rd = y.ready d in
      let xs = seal_image g (frame_bytes m (holder s p)) in
      let num : last_of p k ≤ image_lsn xs =
      let a = sealed-lsn x p fo rd.2 in let b = lsn-is x p fo rd.2 in let c = settled x p fo rd.2 in
      let f = durable-last x p lo hi in omega (arith, a, b, c, f) in
      rw (e, d, geo x) (
        le,
        rw (store_same g v x.hs.vol (page_at p) xs (lo, hi) (sealed-size x p fo rd.2))
            (reach-new g p F k xs (sealed-valid x p fo rd.2) num),
      )

  mended-near : (r : ℕ) (written : Bool) (c : Call) → Renewal v m s r p written c → writes_page p c.0 ≡ true
      → first_of (rows_of c v m s) ≡ 0 → Near g p F lo hi k (volume_after v (outcome_of c v m s).stored)
  mended-near r written c (loads h n e) t z = absurd (true-not-false (rw e at t) refl)
  mended-near r written c (backs h u b n e) t z = absurd (true-not-false (rw e at t) refl)
  mended-near r written c (writes h u d n e) t z = rw e (written-near (rw e at z) d)
  mended-near r written c (puts h u d n e) t z = absurd (true-not-false (rw e at t) refl)

is-written : (v m : List ℕ) (s : State) (r p : ℕ) (written : Bool) (c : Call) → Renewal v m s r p written c
    → writes_page p c.0 ≡ true → written ≡ true
is-written v m s r p written c (loads h n e) t = absurd (true-not-false (rw e at t) refl)
is-written v m s r p written c (backs h u b n e) t = absurd (true-not-false (rw e at t) refl)
is-written v m s r p written c (writes h u d n e) t = u
is-written v m s r p written c (puts h u d n e) t = u

pub write-mends : WriteMends
unfolding reached log_of run log_after all_allowed step
write-mends h legal m s on-is r fr rests p lo hi c n wr es legal' plain backup own near =
    let g = present h in
    let w = reached h in
    let x = live h legal m s on-is in
    let a = named w.volume m s r p c n in
    let rows : first_of (rows_of c w.volume m s) ≡ 0 =
    sym (call-refusal c w.volume m s) ∙ (mend-is-done h legal m s on-is r fr rests p lo hi c n).done in
    let pl = renewal-plain w.volume m s r p a.written c a.is-renewal in
    let i0 = less (Undamaged h) g w.volume w.past w.power (log_of h) (tied h legal) in
    let all : all_allowed w (perform c ∷ es) ≡ true =
    allowed-append (fresh h) h.events (perform c ∷ es) legal'.events in
    let q = both (allowed w (perform c)) (all_allowed (step w (perform c)) es) all in
    let turns : ring g ≡ true = rw (geo x) at a.turns in
    let i1 = one-inv g turns w (log_of h) i0 (perform c) q.0 (no-starts (perform c) (rw pl)) in
    let F = suc (length (durable_of h)) in
    let n0 : Near g p F lo hi (durable_of h) (volume_after w.volume (outcome_of c w.volume m s).stored) =
    mended-near x p lo hi F (omega arith) r a.written c a.is-renewal wr rows in
    let dur : (step_log w (log_of h) (perform c)).durable ≡ durable_of h =
    durable-stays w.volume m s r p a.written c a.is-renewal w (log_of h) (perform c) refl in
    let vol : (step w (perform c)).volume ≡ volume_after w.volume (outcome_of c w.volume m s).stored =
    ap (λ (y : Power). (call_in y w.volume c w.past).volume) on-is in
    let n1 : Near g p F lo hi (step_log w (log_of h) (perform c)).durable (step w (perform c)).volume =
    subst (λ (l : List Logged). Near g p F lo hi l (step w (perform c)).volume) (sym dur)
    (subst (λ (u : List ℕ). Near g p F lo hi (durable_of h) u) (sym vol) n0) in
    let y = all_near g p F lo hi turns es (step w (perform c)) (step_log w (log_of h) (perform c)) i1 q.1 plain own n1 in
    let k = extended h (perform c ∷ es) in
    let e : reached k ≡ run w (perform c ∷ es) = run-append (fresh h) h.events (perform c ∷ es) in
    let l : log_of k ≡ log_after w (log_of h) (perform c ∷ es) = log-append (fresh h) empty_log h.events (perform c ∷ es) in
    let same : present k ≡ g = sym (tied k legal').holds.vol.geo
    ∙ (ap (λ (u : Machine). geometry_of u.volume) e ∙ y.1.holds.vol.geo) in
    let far : Reach (present k) p F (durable_of k) (item (present k) (reached k).volume (page_at p)) =
    subst (λ (u : Geometry). Reach u p F (durable_of k) (item u (reached k).volume (page_at p))) (sym same)
    (subst (λ (u : Machine). Reach g p F (durable_of k) (item g u.volume (page_at p))) (sym e)
    (subst (λ (b : AbstractLog). Reach g p F b.durable (item g (run w (perform c ∷ es)).volume (page_at p))) (sym l) y.0.1)) in
    let quiet : none_owed w.power ≡ true = rw (on-is, (idle-closed w.volume m s r rests).0) in
    let stood = stood_on h legal m s on-is p lo hi
    (a.stood (is-written w.volume m s r p a.written c a.is-renewal wr)) in
    let st = (backup-holds h legal p lo hi a.turns quiet stood (perform c ∷ es) legal' (rw pl plain) backup).0 in
    reach-whole k legal' p lo hi F far near st

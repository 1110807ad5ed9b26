-- ME5: a call that mending names, done or cut, loses no page.
use mathlib.Core.Path.{◌≡◌, refl, sym, ap, ◌∙◌, subst}
use mathlib.Core.Logic.{◌≢◌}
use mathlib.Core.Bool.{Bool, true, false, not, ◌&&◌, ◌||◌}
use mathlib.Core.List.{List, [], ◌∷◌}
use Prim.Native.Nat.{ℕ, ◌-◌, ◌≤◌, ◌<◌}
use native.Mathlib.Omega.{arith}
use native.Mathlib.Decide.{ℕ_discrete}
use lib.ListN.{length, take, drop}
use Rattle.laws.proofs.Tables.{by_cases, and_left, true-not-false}
use Rattle.laws.proofs.Scans.{record_same, count_same, held_same, index-of-same}
use Rattle.model.specs.Geometry.{page_at, slot_at, record_at, geometry_of, item, slot_of, start}
use Rattle.model.specs.Item.{image_lsn, valid_image, is_format}
use Rattle.model.specs.Index.{entry_of, slot_used}
use Rattle.model.specs.Scan.{log_record, durable_count, first_held, index_of}
use Rattle.model.specs.Outcome.{StoredItem}
use Rattle.model.specs.Calls.{Call, outcome_of, is_call}
use Rattle.model.specs.AbstractLog.{Logged, AbstractLog, last_place, Left, new, left_new, step_call, step_cut}
use Rattle.model.specs.History.{Power, on, Machine, Event, restart, perform, crash, crash_in, damage, left_volume, torn_fits, refused_in}
use Rattle.model.specs.History.{payload_fits, start_fits, allowed, step, step_log, all_allowed, run}
use Rattle.model.specs.Claim.{History, Legal, fresh, reached, log_of, durable_of}
use Rattle.model.specs.RingClaim.{Unrepairable}
use Rattle.model.specs.declared.{geometry.Geometry.Geometry, state.State.State}
use Rattle.history.proofs.Context.{Ctx, geo, sized}
use Rattle.history.proofs.Entries.{slot-spare}
use Rattle.history.proofs.Facts.{facts}
use Rattle.history.proofs.Reached.{present, live}
use Rattle.history.proofs.Rings.{rings}
use Rattle.history.proofs.Sections.{store_other}
use Rattle.history.proofs.Stores.{slot-high}
use Rattle.upkeep_policy.specs.UpkeepClaim.{extended}
use Rattle.upkeep_theory.proofs.Shape.{Renewal, loads, backs, writes, puts}
use Rattle.upkeep_theory.proofs.Text.{run-append, log-more}
use Rattle.mend_policy.specs.Mend.{stands}
use Rattle.mend_policy.specs.MendClaim.{stands_on, NotLost, DoneOrCut, MendRisksNothing}
use Rattle.mend_theory.proofs.Backups.{slot_is}
use Rattle.mend_theory.proofs.Named.{named}
use Rattle.mend_theory.proofs.OwnHolds.{rebuilt-not-lost}
use Rattle.mend_theory.proofs.Stored.{Leaves, same, slot, page, renewal-stored, stored-leaves, leaves-log, leaves-geo, leaves-index}
use Rattle.mend_theory.proofs.Two.{allowed-append, stands-kept, kept-stands, stands-not-lost, both}

-- ---- a page that cannot be rebuilt, by the volume and the changes

pub record Bare (g : Geometry) (v : List ℕ) (k : List Logged) (p n : ℕ) : Type 0 where
  pub some : 1 ≤ n
  pub lost : last_place p (take (first_held g v (durable_count g v) - 1) k) ≡ n
  pub copy : (entry_of (index_of g v) p).slot ≢ 0
      → valid_image g p (item g v (slot_at (entry_of (index_of g v) p).slot)) ≡ true
      → image_lsn (item g v (slot_at (entry_of (index_of g v) p).slot)) ≢ (entry_of (index_of g v) p).backup
  pub own : valid_image g p (item g v (page_at p)) ≡ true → image_lsn (item g v (page_at p)) < n
  pub format : (i : ℕ) → first_held g v (durable_count g v) ≤ i → i ≤ durable_count g v → (log_record g v i).page ≡ p
      → is_format (log_record g v i) ≡ false

module _ (h : History) (g : Geometry) (is : geometry_of (reached h).volume ≡ g) (p n : ℕ) where
  to-bare : Unrepairable h p n → Bare g (reached h).volume (durable_of h) p n
  to-bare u =
      record {
        some = u.some;
        lost = rw is at u.lost;
        copy = rw is at u.copy;
        own = rw is at u.own;
        format = rw is at u.format;
      }

  from-bare : Bare g (reached h).volume (durable_of h) p n → Unrepairable h p n
  from-bare b =
      record { some = b.some; lost = rw is b.lost; copy = rw is b.copy; own = rw is b.own; format = rw is b.format }

-- back over a store that leaves the log, the page's noted slot and its own image
bare-back : (g : Geometry) (v v' : List ℕ) (k : List Logged) (p n : ℕ)
    → drop (start g (record_at 1)) v' ≡ drop (start g (record_at 1)) v
    → ((entry_of (index_of g v) p).slot ≢ 0
    → item g v' (slot_at (entry_of (index_of g v) p).slot) ≡ item g v (slot_at (entry_of (index_of g v) p).slot))
    → item g v' (page_at p) ≡ item g v (page_at p) → Bare g v' k p n → Bare g v k p n
bare-back g v v' k p n e sl ow b =
    let c = count_same g v v' e in
    let f = held_same g v v' e (durable_count g v) in
    let l : (i : ℕ) → log_record g v' i ≡ log_record g v i = λ i. rw (record_same g v v' e (slot_of g.records i)) in
    record {
      some = b.some;
      lost = rw (c, f) at b.lost;
      copy = λ z. rw (sl z) at ((rw (index-of-same g v v' e) at b.copy) z);
      own = rw ow at b.own;
      format = λ i lo hi q. sym (ap is_format (l i))
          ∙ b.format i (rw (c, f) lo) (rw c hi) (rw (l i) q);
    }

-- ---- the volume after mending's call

module _ {C : Type 0} {g : Geometry} {v m : List ℕ} {past : List StoredItem} {s : State} {k w : List Logged}
    (x : Ctx C g v m past s k w) (q : ℕ) (lo : 1 ≤ q) (hi : q ≤ g.pages) where
  abbrev its : ℕ
  its = (entry_of (index_of g v) q).slot

  slot-fits : its ≤ g.slots
  slot-fits = omega (
    arith,
    slot_is g q lo hi v k x.hs x.ns x.no,
    slot-high g v k x.hs x.ns x.no q,
  )

  -- no page's noted slot is free
  slot_apart : (b : ℕ) → slot_used b s.index ≡ false → its ≢ b
  slot_apart b u z =
      slot-spare s.index x.all (length x.all) (length k) x.ns (length x.ns) x.al.index b u q lo
      (omega (arith, hi, (sized x).p-high)) (sym (slot_is g q lo hi v k x.hs x.ns x.no) ∙ z)

  -- its noted slot reads as before
  leaves-slot : (p : ℕ) (written : Bool) (v' : List ℕ) → Leaves g v s p written v' → its ≢ 0
      → item g v' (slot_at its) ≡ item g v (slot_at its)
  leaves-slot p written v' (same e) z = rw e
  leaves-slot p written v' (slot b xs bl bh u five e) z =
      rw e (store_other g v x.hs.vol (slot_at b) xs (bl, bh) five (slot_at its) (omega arith, slot-fits)
      (λ y. slot_apart b u (omega (arith, bl, z, y))))
  leaves-slot p written v' (page y xs pl ph five e) z =
      rw e (store_other g v x.hs.vol (page_at p) xs (pl, ph) five (slot_at its) (omega arith, slot-fits)
      (omega (arith, pl, ph, z)))

  -- and so does its own image, unless mending writes it
  leaves-own : (p : ℕ) (written : Bool) (v' : List ℕ) → Leaves g v s p written v' → (written ≡ true → q ≢ p)
      → item g v' (page_at q) ≡ item g v (page_at q)
  leaves-own p written v' (same e) f = rw e
  leaves-own p written v' (slot b xs bl bh u five e) f =
      rw e (store_other g v x.hs.vol (slot_at b) xs (bl, bh) five (page_at q) (lo, hi) (omega (arith, bl, bh, lo, hi)))
  leaves-own p written v' (page y xs pl ph five e) f =
      let ne = f y in
      rw e (store_other g v x.hs.vol (page_at p) xs (pl, ph) five (page_at q) (lo, hi) (λ z. ne (omega (arith, z, pl, lo))))

  -- so a page that stood stands
  leaves-stands : (p : ℕ) (written : Bool) (v' : List ℕ) → Leaves g v s p written v' → geometry_of v' ≡ g
      → stands_on v q ≡ true → stands_on v' q ≡ true
  leaves-stands p written v' left is t =
      let kept = stands-kept g q v (geo x) t in
      kept-stands g q v' is (rw (leaves-index g v x.hs.vol s p written v' left)
      (λ z. rw (leaves-slot p written v' left z) (kept z)))

-- ---- the event

pub after_one : (h : History) (e : Event) → reached (extended h (e ∷ [])) ≡ step (reached h) e
unfolding reached run
after_one h e = run-append (fresh h) h.events (e ∷ [])

pub may-event : (h : History) (e : Event) → Legal (extended h (e ∷ [])) → allowed (reached h) e ≡ true
unfolding reached all_allowed
may-event h e legal =
    (both (allowed (reached h) e) (all_allowed (step (reached h) e) []) (allowed-append (fresh h) h.events (e ∷ []) legal.events)).0

-- what the call leaves of its item
module _ (v : List ℕ) (past : List StoredItem) (m : List ℕ) (s : State) (c : Call) where
  abbrev LeftBy : List ℕ → Type 0
  LeftBy v' = (l : Left) × (v' ≡ left_volume v (outcome_of c v m s).stored l)
      × (torn_fits (geometry_of v) (outcome_of c v m s).stored l ≡ true)

  left-on : (e : Event) → DoneOrCut c e → allowed (record { volume = v; power = on m s; past = past }) e ≡ true
      → LeftBy (step (record { volume = v; power = on m s; past = past }) e).volume
  unfolding step allowed
  left-on (restart m') f t = absurd f
  left-on (perform a) f t = (new, rw f, refl)
  left-on crash f t = absurd f
  left-on (crash_in a l) f t = (
    l,
    rw f,
    rw f at (and_left (torn_fits (geometry_of v) (outcome_of a v m s).stored l)
        (payload_fits a && (not (left_new l) || start_fits (on m s) v a)) t),
  )
  left-on (damage at xs) f t = absurd f

  left_by : (y : Power) → y ≡ on m s → (e : Event) → DoneOrCut c e
      → allowed (record { volume = v; power = y; past = past }) e ≡ true
      → LeftBy (step (record { volume = v; power = y; past = past }) e).volume
  left_by y on-is =
      subst (λ (z : Power). (e : Event) → DoneOrCut c e → allowed (record { volume = v; power = z; past = past }) e ≡ true
      → LeftBy (step (record { volume = v; power = z; past = past }) e).volume) (sym on-is) left-on

-- no durable change comes or goes
module _ (v m : List ℕ) (s : State) (r p : ℕ) (written : Bool) where
  renewal-durable : (c : Call) → Renewal v m s r p written c → (b : AbstractLog) → (step_call b c).durable ≡ b.durable
  unfolding step_call
  renewal-durable c (loads h n e) b = rw e
  renewal-durable c (backs h t f n e) b = rw e
  renewal-durable c (writes h t d n e) b = rw e
  renewal-durable c (puts h t d n e) b = rw e

  pub durable-stays : (c : Call) → Renewal v m s r p written c → (w : Machine) (b : AbstractLog) (e : Event) → DoneOrCut c e
      → (step_log w b e).durable ≡ b.durable
  unfolding step_log step_cut
  durable-stays c n w b (restart m') f = absurd f
  durable-stays c n w b (perform a) f =
      by_cases (refused_in w.power w.volume a) (λ t. rw t) (λ t. rw t (rw f (renewal-durable c n b)))
  durable-stays c n w b crash f = absurd f
  durable-stays c n w b (crash_in a l) f = by_cases (refused_in w.power w.volume a) (λ t. rw t)
      (λ t. rw t (by_cases (is_call 6 a && not (left_new l)) (λ u. rw u) (λ u. rw u (rw f (renewal-durable c n b)))))
  durable-stays c n w b (damage at xs) f = absurd f

-- ---- the claim

-- the state's entry is the volume's
pub stood_on : (h : History) → Legal h → (m : List ℕ) (s : State) → (reached h).power ≡ on m s → (p : ℕ) → 1 ≤ p → p ≤ h.pages
    → stands (geometry_of (reached h).volume) (reached h).volume (entry_of s.index p) p ≡ true
    → stands_on (reached h).volume p ≡ true
stood_on h legal m s e p lo hi t = let y = facts.entries h legal m s e p lo hi in rw (← y.slot, ← y.backup) t

pub mend-risks-nothing : MendRisksNothing
mend-risks-nothing h legal m s on-is r p c n e f legal' =
    let v = (reached h).volume in
    let x = live h legal m s on-is in
    let g = present h in
    let a = named v m s r p c n in
    let k = extended h (e ∷ []) in
    let l = left_by v (reached h).past m s c (reached h).power on-is e f (may-event h e legal') in
    let v' : List ℕ = (reached k).volume in
    let is : v' ≡ left_volume v (outcome_of c v m s).stored l.0 = ap (λ (u : Machine). u.volume) (after_one h e) ∙ l.1 in
    let left : Leaves g v s p a.written (reached k).volume =
    subst (λ (u : List ℕ). Leaves g v s p a.written u) (sym is)
    (stored-leaves g v (geo x) s p a.written _ (renewal-stored x r p a.written c a.is-renewal) l.0 l.2) in
    let same-list : durable_of k ≡ durable_of h = ap (λ (b : AbstractLog). b.durable) (log-more h e)
    ∙ durable-stays v m s r p a.written c a.is-renewal (reached h) (log_of h) e f in
    let geo' : geometry_of v' ≡ g = leaves-geo g v x.hs.vol s p a.written v' left in (
      same-list,
      λ q lo hi buffer size fine.
          let rest : (a.written ≡ true → q ≢ p) → NotLost k q = λ apart. rebuilt-not-lost k legal' q lo hi (λ i u.
          let b : Bare g v' (durable_of h) q i =
          subst (λ (z : List Logged). Bare g v' z q i) same-list (to-bare k g geo' q i u) in
          let b' = bare-back g v v' (durable_of h) q i (leaves-log g v x.hs.vol s p a.written v' left)
          (leaves-slot x q lo hi p a.written v' left) (leaves-own x q lo hi p a.written v' left apart) b in
          fine ((rings.inspects h legal q lo hi buffer size).1 (i, from-bare h g (geo x) q i b'))) in
          by_cases a.written
          (λ t. elim (ℕ_discrete q p) [
            | yes y ↦ stands-not-lost k legal' q lo hi (leaves-stands x q lo hi p a.written v' left geo'
                (stood_on h legal m s on-is q lo hi (rw (← y) at (a.stood t))))
            | no z ↦ rest (λ u. z)
          ])
          (λ t. rest (λ u. absurd (true-not-false u t))),
    )

-- ME1: a disciplined history stays one over the call that mending names where upkeep is idle; so upkeep comes to rest
-- again after it.
use mathlib.Core.Path.{◌≡◌, refl, sym, subst}
use mathlib.Core.Logic.{⊎_elim}
use mathlib.Core.Bool.{Bool, true, false, not, ◌&&◌, ◌||◌}
use mathlib.Core.List.{List, [], ◌∷◌, ◌++◌}
use Prim.Native.Nat.{ℕ, zero, suc, ◌≤◌}
use native.Mathlib.Omega.{arith}
use lib.ListN.{length}
use lib.Dec.{eqb, ltb}
use borrow.Author.Tests.{eqb-true, eqb-false, le-leb, lt-ltb}
use Rattle.laws.proofs.Tables.{by_cases, and_right, and_both, or_right, or_cases, or-neither, true-not-false}
use Rattle.model.specs.Tables.{first_of, within}
use Rattle.model.specs.Geometry.{geometry_of}
use Rattle.model.specs.Item.{is_written}
use Rattle.model.specs.Index.{entry_row}
use Rattle.model.specs.State.{frame_count}
use Rattle.model.specs.Refusals.{load_rows, change_rows, write_rows, backup_rows}
use Rattle.model.specs.Outcome.{StoredItem, volume_after, decided}
use Rattle.model.specs.Effects.{backup_done, change_done, load_done, write_outcome}
use Rattle.model.specs.Calls.{Call, outcome_of}
use Rattle.model.specs.AbstractLog.{Logged, new}
use Rattle.model.specs.History.{Power, on, Machine, Event, restart, perform, crash, crash_in, damage, is_start_carry, allowed, step, all_allowed, run}
use Rattle.model.specs.Carry.{starts_in}
use Rattle.model.specs.Claim.{History, Legal, fresh, reached, log_of}
use Rattle.model.specs.declared.{change.Change.TheVariants.Put, geometry.Geometry.Geometry, item.Note.Note}
use Rattle.model.specs.declared.{state.State.State}
use Rattle.history.proofs.Logs.{last_at, last-le, last-page}
use Rattle.history.proofs.Marks.{mark_at, mark-ok}
use Rattle.history.proofs.Disk.{Holds, Noted}
use Rattle.history.proofs.Context.{Ctx, geo}
use Rattle.history.proofs.Reached.{present, tied, live}
use Rattle.upkeep_policy.specs.Upkeep.{idle, free_slot, upkeep_of, follows, advice_of, cuts_after, written_pages, pending_written, ever_written, in_bounds, disciplined}
use Rattle.upkeep_theory.proofs.Shape.{Renewal, loads, backs, writes, puts}
use Rattle.upkeep_theory.proofs.Along.{renewal-plain}
use Rattle.upkeep_theory.proofs.Comes.{renewal-fits, may-come}
use Rattle.upkeep_theory.proofs.Counting.{count-le, count-below}
use Rattle.upkeep_theory.proofs.Followed.{Bounded, bounded, both}
use Rattle.upkeep_theory.proofs.Live.{noting-ok}
use Rattle.upkeep_theory.proofs.Near.{wrote_in, written-pages}
use Rattle.upkeep_theory.proofs.Run.{load-size, put-size}
use Rattle.upkeep_theory.proofs.Written.{entry-written}
use Rattle.mend_policy.specs.MendClaim.{MendFollows, WrittenAtMost}
use Rattle.mend_theory.proofs.Named.{named}
use Rattle.mend_theory.proofs.Stored.{Leaves, renewal-stored, stored-leaves, leaves-geo, leaves-index}
use Rattle.model.specs.Types.{PendingNote, None, Some}

-- ---- more events

module _ (r W C : ℕ) (fs : List Event) where
  -- the count of cuts between is not known, so the rest is asked with every one
  pub disciplined-more : (es : List Event) (w : Machine) (cuts : ℕ) → disciplined r W C w cuts es ≡ true
      → ((n : ℕ) → in_bounds r W C (run w es) n ≡ true → disciplined r W C (run w es) n fs ≡ true)
      → disciplined r W C w cuts (es ++ fs) ≡ true
  unfolding disciplined run
  disciplined-more [] w cuts h f = f cuts h
  disciplined-more (a ∷ es) w cuts h f =
      let q = both (in_bounds r W C w cuts && follows (advice_of r w) a)
      (disciplined r W C (step w a) (cuts_after r w cuts a) es) h in
      rw q.0 (disciplined-more es (step w a) (cuts_after r w cuts a) q.1 f)

pub allowed-more : (e : Event) (es : List Event) (w : Machine) → all_allowed w es ≡ true → allowed (run w es) e ≡ true
    → all_allowed w (es ++ (e ∷ [])) ≡ true
unfolding all_allowed run
allowed-more e [] w h f = rw f
allowed-more e (a ∷ es) w h f =
    let q = both (allowed w a) (all_allowed (step w a) es) h in
    rw q.0 (allowed-more e es (step w a) q.1 f)

pub starts_more : (fs es : List Event) → starts_in es ≡ false → starts_in fs ≡ false → starts_in (es ++ fs) ≡ false
starts_more fs [] h f = f
starts_more fs (restart m ∷ es) h f = starts_more fs es h f
starts_more fs (perform c ∷ es) h f =
    let q = or-neither (is_start_carry c) (starts_in es) h in rw q.0 (starts_more fs es q.1 f)
starts_more fs (crash ∷ es) h f = starts_more fs es h f
starts_more fs (crash_in c l ∷ es) h f =
    let q = or-neither (is_start_carry c) (starts_in es) h in rw q.0 (starts_more fs es q.1 f)
starts_more fs (damage at xs ∷ es) h f = starts_more fs es h f

-- ---- mending's call

module _ {C' : Type 0} {g : Geometry} {v m : List ℕ} {past : List StoredItem} {s : State} {k w : List Logged}
    (x : Ctx C' g v m past s k w) (r p : ℕ) (written : Bool) where
  pub memory-stays : (c : Call) → Renewal v m s r p written c → length (outcome_of c v m s).memory ≡ length m
  unfolding decided load_done change_done write_outcome backup_done
  memory-stays c (loads h n e) = rw e (by_cases (eqb (first_of (load_rows v m s p r)) 0)
      (λ t. load-size x p r (eqb-true _ 0 t)) (λ t. rw t))
  memory-stays c (backs h t b n e) =
      rw e (by_cases (eqb (first_of (backup_rows v m s p (free_slot (geometry_of v) s))) 0) (λ t. rw t) (λ t. rw t))
  memory-stays c (writes h t d n e) =
      rw e (by_cases (eqb (first_of (write_rows v m s p)) 0) (λ u. rw (u, d)) (λ u. rw u))
  memory-stays c (puts h t d n e) = rw e (by_cases (eqb (first_of (change_rows v m s p (Put 0 1))) 0)
      (λ u. put-size x p (eqb-true _ 0 u)) (λ u. rw u))

module _ {C' : Type 0} {g : Geometry} {v m : List ℕ} {past : List StoredItem} {s : State} {k w : List Logged}
    (x : Ctx C' g v m past s k w) (r p : ℕ) (written : Bool) (c : Call) (n : Renewal v m s r p written c) where
  pub call-leaves : Leaves g v s p written (volume_after v (outcome_of c v m s).stored)
  call-leaves = stored-leaves g v (geo x) s p written _ (renewal-stored x r p written c n) new refl

  pub pages-stay : written_pages (volume_after v (outcome_of c v m s).stored) ≡ written_pages v
  unfolding written_pages
  pages-stay =
      rw (leaves-geo g v x.hs.vol s p written _ call-leaves, geo x, leaves-index g v x.hs.vol s p written _ call-leaves)

  abbrev here : Machine
  here = record { volume = v; power = on m s; past = past }

  module _ (W C : ℕ) where
    bounds-stay : (cuts : ℕ) → in_bounds r W C here cuts ≡ true → in_bounds r W C (step here (perform c)) 0 ≡ true
    unfolding in_bounds step
    bounds-stay cuts b =
        let y : Bounded r W C here cuts = bounded r W C here cuts b in
        let f : within (frame_count (length m)) r ≡ true = y.frame in
        rw (memory-stays x r p written c n, pages-stay) (and_both f (and_both (le-leb (written_pages v) W y.written)
        (or_right (eqb (written_pages v) 0) (le-leb 0 C (omega arith)))))

    pub call-disciplined : upkeep_of v m s r ≡ idle → (cuts : ℕ) → in_bounds r W C here cuts ≡ true
        → disciplined r W C here cuts (perform c ∷ []) ≡ true
    unfolding disciplined
    call-disciplined rests cuts b = rw (b, rests, renewal-plain v m s r p written c n) (bounds-stay cuts b)

-- the same of a machine whose power is known to be on
module _ (v : List ℕ) (y : Power) (past : List StoredItem) (m : List ℕ) (s : State) (e : y ≡ on m s) where
  abbrev At : Power → Machine
  At z = record { volume = v; power = z; past = past }

  pub by-power : (F : Machine → Type 0) → F (At (on m s)) → F (At y)
  by-power F f = subst (λ (z : Power). F (At z)) (sym e) f

pub mend-follows : MendFollows
unfolding reached
mend-follows h legal r W C test m s e rests p lo hi c n =
    let x = live h legal m s e in
    let w = reached h in
    let a = named w.volume m s r p c n in
    let fits = renewal-fits w.volume m s r p a.written c a.is-renewal in
    let may = may-come w.volume m w.past s c fits.0 fits.1 in
    record {
      legal = record {
        make = legal.make;
        events = allowed-more (perform c) h.events (fresh h) legal.events
            (by-power w.volume w.power w.past m s e (λ (u : Machine). allowed u (perform c) ≡ true) may.0);
      };
      uncarried = λ z. starts_more (perform c ∷ []) h.events z may.1;
      disciplined = disciplined-more r W C (perform c ∷ []) h.events (fresh h) 0 test
          (by-power w.volume w.power w.past m s e
          (λ (u : Machine). (i : ℕ) → in_bounds r W C u i ≡ true → disciplined r W C u i (perform c ∷ []) ≡ true)
          (call-disciplined x r p a.written c a.is-renewal W C rests));
    }

-- ---- at most P pages are ever written

module _ {C : Type 0} (g : Geometry) (v : List ℕ) (k : List Logged) (h : Holds g v k) (ns : List Note) (o : Noted C g v k ns) where
  -- a page with a written note is one of the store's
  pub wrote-page : (i : ℕ) → wrote_in ns i ≡ true → suc i ≤ g.pages
  wrote-page i t = go (last_at (suc i) k (length k)) refl
    where
      go : (n : ℕ) → last_at (suc i) k (length k) ≡ n → suc i ≤ g.pages
      go zero e =
          let q = (mark-ok g.pages g.slots k ns o.fit (suc i) (length ns) (omega arith)).wrote in
          absurd (eqb-false (mark_at (suc i) ns (length ns)).written 0
          (by_cases (eqb (mark_at (suc i) ns (length ns)).written 0) (λ z. absurd (true-not-false t (rw z))) (λ z. z))
          (omega (arith, q, e)))
      go (suc j) e =
          let l = last-le (suc i) k (length k) in
          rw (last-page (suc i) k (length k) j e) at (h.fair j (omega (arith, l, e))).high

owed-page : {C : Type 0} {g : Geometry} {v m : List ℕ} {past : List StoredItem} {s : State} {k w : List Logged}
    (x : Ctx C g v m past s k w) (i : ℕ) (y : PendingNote) → s.note ≡ y → pending_written y (suc i) ≡ true → suc i ≤ g.pages
owed-page x i None e t = absurd (true-not-false t refl)
owed-page x i (Some n) e t =
    let q = eqb-true n.page (suc i) (and_right (is_written n) (eqb n.page (suc i)) t) in
    omega (arith, q, (noting-ok x n e).high)

state-few : (h : History) → Legal h → (m : List ℕ) (s : State) → (reached h).power ≡ on m s → ever_written s ≤ h.pages
unfolding ever_written
state-few h legal m s e =
    let x = live h legal m s e in
    let c = count-le 64 (λ i. not (eqb (entry_row s.index i).written 0) || pending_written s.note (suc i))
    (λ j. ltb j h.pages) (λ i b t. lt-ltb i h.pages (⊎_elim
    (λ u. wrote-page (present h) (reached h).volume (log_of h).durable x.hs x.ns x.no i (rw (entry-written x i b) at u))
    (λ u. owed-page x i s.note refl u)
    (or_cases (not (eqb (entry_row s.index i).written 0)) (pending_written s.note (suc i)) t))) in
    omega (arith, c, count-below 64 h.pages)

pub written-at-most : WrittenAtMost
written-at-most h legal =
    let i = tied h legal in
    let g = present h in
    let v = (reached h).volume in
    let below : (j : ℕ) → wrote_in i.ns j ≡ true → ltb j h.pages ≡ true =
    λ j t. lt-ltb j h.pages (wrote-page g v (log_of h).durable i.holds i.ns i.noted j t) in (
      (let c = count-le 64 (wrote_in i.ns) (λ j. ltb j h.pages) (λ j b t. below j t) in
          let e = written-pages g v (log_of h).durable i.holds i.ns i.noted i.holds.vol.geo in
          omega (arith, c, e, count-below 64 h.pages)),
      (λ m s e. state-few h legal m s e),
    )

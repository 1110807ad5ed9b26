-- ME4 (a), of histories: one event, all events, and the claim.
use mathlib.Core.Path.{◌≡◌, refl, sym, ◌∙◌, subst}
use mathlib.Core.Logic.{◌≢◌, ⊎_elim}
use mathlib.Core.Bool.{Bool, true, false, cond, not, ◌&&◌, ◌||◌}
use mathlib.Core.List.{List, [], ◌∷◌, ◌++◌}
use Prim.Native.Nat.{ℕ, ◌≤◌}
use native.Mathlib.Omega.{arith}
use lib.ListN.{length}
use lib.Dec.{eqb, leb}
use borrow.Author.Tests.{eqb-true, eqb-false, eq-eqb, ne_eqb, not-true}
use Rattle.laws.proofs.Tables.{by_cases, and_left, and_right, and_both, or_left, or_right, or_cases, or-neither}
use Rattle.laws.proofs.Tables.{true-not-false, within-bounds}
use Rattle.model.specs.Tables.{first_of}
use Rattle.model.specs.Geometry.{Place, page_at, slot_at, record_at, note_at, ring, carry_tag, with_tag, geometry_of, item, store}
use Rattle.model.specs.Item.{image_lsn, valid_image, is_written}
use Rattle.model.specs.Index.{entry_of}
use Rattle.model.specs.Scan.{index_of}
use Rattle.model.specs.Passes.{is_image, passes_at}
use Rattle.model.specs.State.{note_pending}
use Rattle.model.specs.Refusals.{restart_rows}
use Rattle.model.specs.Outcome.{StoredItem, decided}
use Rattle.model.specs.Calls.{Call, outcome_of, is_call}
use Rattle.model.specs.Restart.{restart_state, restart_of}
use Rattle.model.specs.AbstractLog.{Logged, AbstractLog, Left, old, new, torn}
use Rattle.model.specs.History.{Power, off, on, Machine, Event, restart, perform, crash, crash_in, damage, lent, restarted, left_volume}
use Rattle.model.specs.History.{torn_fits, stored_before, is_start_carry, allowed, step, step_log, all_allowed, run, log_after}
use Rattle.model.specs.Carry.{carries, starts_in}
use Rattle.model.specs.Claim.{History, Legal, fresh, reached, log_of, Proviso}
use Rattle.model.specs.declared.{geometry.Geometry.Geometry, item.Note.Note, state.State.State}
use Rattle.history.proofs.Inv.{Inv, PendingOk, PowerInv}
use Rattle.history.proofs.Stores.{slot-high}
use Rattle.history.proofs.Sections.{store_other}
use Rattle.history.proofs.Steps.{context, all-steps}
use Rattle.history.proofs.Reached.{Undamaged, present, tied}
use Rattle.history.proofs.Theorem.{demand2}
use Rattle.upkeep_policy.specs.UpkeepClaim.{extended}
use Rattle.upkeep_theory.proofs.Text.{run-append}
use Rattle.mend_policy.specs.MendClaim.{entry_on, stands_on, none_owed, carries_in, owed_slot, owed_in, is_backup, hits_backup, spares_backup}
use Rattle.mend_policy.specs.MendClaim.{NotLost, BackupHolds}
use Rattle.mend_theory.proofs.Less.{less}
use Rattle.mend_theory.proofs.Stored.{index_stays}
use Rattle.mend_theory.proofs.Backups.{Kept, Owed, OwedIn, slot_is, call-safe, torn-safe}
use Rattle.model.specs.Types.{PendingNote, None, Some}

-- ---- on a ring, without a carrying

module _ (g : Geometry) (turns : ring g ≡ true) where
  not_carried : g.tag ≢ carry_tag
  not_carried z = let y : g.tag ≡ 0x32 = eqb-true g.tag 0x32 (and_left (eqb g.tag 0x32) (leb 2 g.records) turns) in
      eqb-false 0x32 carry_tag refl (sym y ∙ z)

  pub one-inv : (w : Machine) (b : AbstractLog) → Inv ⊥ g w.volume w.past w.power b → (e : Event) → allowed w e ≡ true
      → starts_in (e ∷ []) ≡ false → Inv ⊥ g (step w e).volume (step w e).past (step w e).power (step_log w b e)
  unfolding all_allowed run log_after
  one-inv w b i e a z =
      let q = all-steps ⊥ (e ∷ []) g w b i (λ c. absurd c) (rw a) in
      subst (λ (t : ℕ). Inv ⊥ (with_tag g t) (step w e).volume (step w e).past (step w e).power (step_log w b e))
      (q.1 z not_carried) q.2

pub no_start : (c : Call) → carries c ≡ false → is_start_carry c ≡ false
no_start c o = (or-neither (is_call 18 c) (is_call 19 c || is_call 20 c) o).0

pub apart : (e : Event) (es : List Event) → carries_in (e ∷ es) ≡ false → (carries_in (e ∷ []) ≡ false) × (carries_in es ≡ false)
apart (restart m) es z = (refl, z)
apart (perform c) es z = let q = or-neither (carries c) (carries_in es) z in (rw q.0 refl, q.1)
apart crash es z = (refl, z)
apart (crash_in c l) es z = let q = or-neither (carries c) (carries_in es) z in (rw q.0 refl, q.1)
apart (damage at xs) es z = (refl, z)

pub no-starts : (e : Event) → carries_in (e ∷ []) ≡ false → starts_in (e ∷ []) ≡ false
no-starts (restart m) z = refl
no-starts (perform c) z = rw (no_start c (or-neither (carries c) false z).0) refl
no-starts crash z = refl
no-starts (crash_in c l) z = rw (no_start c (or-neither (carries c) false z).0) refl
no-starts (damage at xs) z = refl

pub both : (p q : Bool) → cond p q false ≡ true → (p ≡ true) × (q ≡ true)
both true q h = (refl, h)
both false q h = absurd (true-not-false h refl)

-- ---- damage

module _ (g : Geometry) (p : ℕ) (lo : 1 ≤ p) (hi : p ≤ g.pages) where
  -- an owed note, as a slot's image is stored
  owed-apart : (v v' : List ℕ) (b : ℕ) → ((i : ℕ) → 1 ≤ i → i ≤ g.slots → i ≢ b → item g v' (slot_at i) ≡ item g v (slot_at i))
      → (C : Type 0) (k : List Logged) (ns : List Note) (y : PendingNote) → PendingOk C g v k ns y → owed_slot y p b ≡ false
      → Owed g p v y → Owed g p v' y
  owed-apart v v' b e C k ns None t n f = tt
  owed-apart v v' b e C k ns (Some y) t n f = λ z q.
      let bk = t.0.backed z in
      let ne : y.slot ≢ b = λ a. true-not-false (rw (z, eq-eqb y.page p q, eq-eqb y.slot b a) refl) n in
      rw (e y.slot bk.low bk.high ne) (f z q)

  power-apart : (v v' : List ℕ) (b : ℕ) → ((i : ℕ) → 1 ≤ i → i ≤ g.slots → i ≢ b → item g v' (slot_at i) ≡ item g v (slot_at i))
      → (C : Type 0) (a : AbstractLog) (ns : List Note) (x : Power) → PowerInv C g v x a ns → owed_in x p b ≡ false
      → OwedIn g p v x → OwedIn g p v' x
  power-apart v v' b e C a ns off t n f = tt
  power-apart v v' b e C a ns (on m s) t n f = owed-apart v v' b e C a.durable ns s.note t.1.note-ok n f

  abbrev Safe : List ℕ → Power → Type 0
  Safe v x = Kept g p v × OwedIn g p v x

  hurt : (v : List ℕ) (past : List StoredItem) (x : Power) (b : AbstractLog) (i : Inv ⊥ g v past x b) (at : Place) (xs : List ℕ)
      → is_image g at ≡ true → length xs ≡ 256
      → is_backup (record { volume = v; power = x; past = past }) p at ≡ false → Safe v x → Safe (store g v at xs) x
  hurt v past x b i (page_at q) xs r five n f =
      let w = within-bounds g.pages q r in
      let e : (j : ℕ) → 1 ≤ j → j ≤ g.slots → item g (store g v (page_at q) xs) (slot_at j) ≡ item g v (slot_at j) =
      λ j a c. store_other g v i.holds.vol (page_at q) xs w five (slot_at j) (a, c) (omega (arith, w.0, w.1)) in
      let sl = slot_is g p lo hi v b.durable i.holds i.ns i.noted in
      let up = slot-high g v b.durable i.holds i.ns i.noted p in (
        rw (index_stays g v i.holds.vol (page_at q) xs five (omega (arith, w.0, w.1)))
            (λ z. rw (e (entry_of (index_of g v) p).slot (omega arith) (omega (arith, sl, up))) (f.0 z)),
        power-apart v (store g v (page_at q) xs) 0 (λ j a c z. e j a c) ⊥ b i.ns x i.live (no_zero x i.live) f.1,
      )
    where
      and_no : (t : Bool) → (t && false) ≡ false
      and_no true = refl
      and_no false = refl

      zero-slot : (y : PendingNote) → PendingOk ⊥ g v b.durable i.ns y → owed_slot y p 0 ≡ false
      zero-slot None t = refl
      zero-slot (Some y) t = by_cases (is_written y) (λ z. rw z refl) (λ z.
          let bk = t.0.backed z in
          rw (z, ne_eqb y.slot 0 (λ a. omega (arith, bk.low))) (and_no (eqb y.page p)))

      no_zero : (x : Power) → PowerInv ⊥ g v x b i.ns → owed_in x p 0 ≡ false
      no_zero off t = refl
      no_zero (on m s) t = zero-slot s.note t.1.note-ok
  hurt v past x b i (slot_at n) xs r five z f =
      let w = within-bounds g.slots n r in
      let e : (j : ℕ) → 1 ≤ j → j ≤ g.slots → j ≢ n → item g (store g v (slot_at n) xs) (slot_at j) ≡ item g v (slot_at j) =
      λ j a c ne. store_other g v i.holds.vol (slot_at n) xs w five (slot_at j) (a, c) (λ q. ne (omega (arith, w.0))) in
      let y : (eqb (entry_of (index_of g v) p).slot n || owed_in x p n) ≡ false = rw i.holds.vol.geo at z in
      let q = or-neither (eqb (entry_of (index_of g v) p).slot n) (owed_in x p n) y in
      let ne : (entry_of (index_of g v) p).slot ≢ n = eqb-false (entry_of (index_of g v) p).slot n q.0 in
      let sl = slot_is g p lo hi v b.durable i.holds i.ns i.noted in
      let up = slot-high g v b.durable i.holds i.ns i.noted p in (
        rw (index_stays g v i.holds.vol (slot_at n) xs five (omega (arith, w.0, w.1)))
            (λ a. rw (e (entry_of (index_of g v) p).slot (omega arith) (omega (arith, sl, up)) ne) (f.0 a)),
        power-apart v (store g v (slot_at n) xs) n e ⊥ b i.ns x i.live q.1 f.1,
      )
  hurt v past x b i (record_at n) xs r five z f = absurd (true-not-false r refl)
  hurt v past x b i (note_at n) xs r five z f = absurd (true-not-false r refl)

  -- ---- one event

  cut-safe : (v m : List ℕ) (past : List StoredItem) (s : State) (b : AbstractLog) → Inv ⊥ g v past (on m s) b → (c : Call) → carries c ≡ false
      → (l : Left) → torn_fits (geometry_of v) (outcome_of c v m s).stored l ≡ true → Safe v (on m s)
      → Kept g p (left_volume v (outcome_of c v m s).stored l)
  cut-safe v m past s b i c o old t f = f.0
  cut-safe v m past s b i c o new t f = (call-safe g p lo hi (context g v m past s b i) c o f.0 f.1).0
  cut-safe v m past s b i c o (torn xs) t f = torn-safe g p lo hi (context g v m past s b i) c o xs f.0 t

  restart-owed : (v m : List ℕ) → OwedIn g p v (restarted v m)
  unfolding restart_of decided restart_state
  restart-owed v m = by_cases (eqb (first_of (restart_rows v m)) 0) (λ t. rw t tt) (λ t. rw t tt)

  one-safe : (v : List ℕ) (past : List StoredItem) (x : Power) (b : AbstractLog) → Inv ⊥ g v past x b → (e : Event)
      → allowed (record { volume = v; power = x; past = past }) e ≡ true → carries_in (e ∷ []) ≡ false
      → hits_backup p (record { volume = v; power = x; past = past }) e ≡ false → Safe v x
      → Safe (step (record { volume = v; power = x; past = past }) e).volume (step (record { volume = v; power = x; past = past }) e).power
  unfolding step allowed
  one-safe v past x b i (restart m) t c n f = (f.0, restart-owed v (lent x m))
  one-safe v past off b i (perform c) t o n f = absurd (true-not-false t refl)
  one-safe v past (on m s) b i (perform c) t o n f =
      call-safe g p lo hi (context g v m past s b i) c (or-neither (carries c) false o).0 f.0 f.1
  one-safe v past x b i crash t c n f = (f.0, tt)
  one-safe v past off b i (crash_in c l) t o n f = absurd (true-not-false t refl)
  one-safe v past (on m s) b i (crash_in c l) t o n f =
      (cut-safe v m past s b i c (or-neither (carries c) false o).0 l (and_left (torn_fits (geometry_of v) (outcome_of c v m s).stored l) _ t) f, tt)
  one-safe v past x b i (damage at xs) t o n f =
      let e = i.holds.vol.geo in
      let t₁ : (is_image g at && (eqb (length xs) 256 && (not (passes_at g (index_of g v) at xs) || stored_before at xs past))) ≡ true =
      rw e at t in
      let t₂ = and_right (is_image g at) (eqb (length xs) 256 && (not (passes_at g (index_of g v) at xs) || stored_before at xs past)) t₁ in
      rw e (hurt v past x b i at xs (and_left (is_image g at) _ t₁) (eqb-true (length xs) 256 (and_left (eqb (length xs) 256) _ t₂)) n f)

  -- ---- all events

  pub all-safe : ring g ≡ true → (es : List Event) (w : Machine) (b : AbstractLog) → Inv ⊥ g w.volume w.past w.power b
      → all_allowed w es ≡ true → carries_in es ≡ false → spares_backup p w es ≡ true → Safe w.volume w.power
      → Safe (run w es).volume (run w es).power × Inv ⊥ g (run w es).volume (run w es).past (run w es).power (log_after w b es)
  unfolding all_allowed run log_after spares_backup
  all-safe turns [] w b i a z n f = (f, i)
  all-safe turns (e ∷ es) w b i a z n f =
      let q = both (allowed w e) (all_allowed (step w e) es) a in
      let c = apart e es z in
      all-safe turns es (step w e) (step_log w b e) (one-inv g turns w b i e q.0 (no-starts e c.0)) q.1 c.1
      (and_right (not (hits_backup p w e)) (spares_backup p (step w e) es) n)
      (one-safe w.volume w.past w.power b i e q.0 c.0
      (not-true (hits_backup p w e) (and_left (not (hits_backup p w e)) (spares_backup p (step w e) es) n)) f)

-- ---- the claim

pub allowed-append : (w : Machine) (es fs : List Event) → all_allowed w (es ++ fs) ≡ true → all_allowed (run w es) fs ≡ true
unfolding all_allowed run
allowed-append w [] fs a = a
allowed-append w (e ∷ es) fs a = allowed-append (step w e) es fs (both (allowed w e) (all_allowed (step w e) (es ++ fs)) a).1

-- a page whose backup stands is not lost
pub stands-not-lost : (h : History) → Legal h → (p : ℕ) → 1 ≤ p → p ≤ h.pages → stands_on (reached h).volume p ≡ true → NotLost h p
stands-not-lost h legal p lo hi t =
    let v = (reached h).volume in
    let e = entry_on v p in
    let copy = valid_image (geometry_of v) p (item (geometry_of v) v (slot_at e.slot))
    && eqb (image_lsn (item (geometry_of v) v (slot_at e.slot))) e.backup in
    let pr : Proviso h p = ⊎_elim (λ z. or_left _ z) (λ z. or_right (eqb e.slot 0) (or_left _ z)) (or_cases (eqb e.slot 0) copy t) in
    record {
      inspected = λ buffer size z. ((demand2.inspects h legal p lo hi buffer size).below z).1 pr;
      loaded = λ m s on f z. ((demand2.loads h legal m s on p f).below z).1 pr;
      shown = λ some buffer size. (demand2.inspects h legal p lo hi buffer size).granted some (λ z. pr);
    }

pub stands-kept : (g : Geometry) (p : ℕ) (v : List ℕ) → geometry_of v ≡ g → stands_on v p ≡ true → Kept g p v
stands-kept g p v geo t z =
    let e = entry_of (index_of g v) p in
    let a = valid_image g p (item g v (slot_at e.slot)) in
    let b = eqb (image_lsn (item g v (slot_at e.slot))) e.backup in
    let t' : (eqb e.slot 0 || (a && b)) ≡ true = rw geo at t in
    let y : (a && b) ≡ true = ⊎_elim (λ q. absurd (z (eqb-true e.slot 0 q))) (λ q. q) (or_cases (eqb e.slot 0) (a && b) t') in
    (and_left a b y, eqb-true _ _ (and_right a b y))

pub kept-stands : (g : Geometry) (p : ℕ) (v : List ℕ) → geometry_of v ≡ g → Kept g p v → stands_on v p ≡ true
kept-stands g p v geo f =
    let e = entry_of (index_of g v) p in
    rw geo (by_cases (eqb e.slot 0) (λ t. or_left _ t)
    (λ t. let y = f (eqb-false e.slot 0 t) in
    or_right (eqb e.slot 0) (and_both y.0 (eq-eqb (image_lsn (item g v (slot_at e.slot))) e.backup y.1))))

none-owed : (g : Geometry) (p : ℕ) (v : List ℕ) (x : Power) → none_owed x ≡ true → OwedIn g p v x
none-owed g p v off t = tt
none-owed g p v (on m s) t = go s.note t
  where
    go : (y : PendingNote) → not (note_pending y) ≡ true → Owed g p v y
    go None t = tt
    go (Some n) t = absurd (true-not-false t refl)

pub backup-holds : BackupHolds
unfolding reached
backup-holds h legal p lo hi turns quiet st es legal' plain spares =
    let g = present h in
    let w = reached h in
    let i = tied h legal in
    let geo : geometry_of w.volume ≡ g = i.holds.vol.geo in
    let i0 = less (Undamaged h) g w.volume w.past w.power (log_of h) i in
    let a : all_allowed w es ≡ true = allowed-append (fresh h) h.events es legal'.events in
    let y = all-safe g p lo hi (rw geo at turns) es w (log_of h) i0 a plain spares
    (stands-kept g p w.volume geo st, none-owed g p w.volume w.power quiet) in
    let e : reached (extended h es) ≡ run w es = run-append (fresh h) h.events es in
    let z : stands_on (reached (extended h es)).volume p ≡ true =
    subst (λ (u : Machine). stands_on u.volume p ≡ true) (sym e) (kept-stands g p (run w es).volume y.1.holds.vol.geo y.0.0) in
    (z, stands-not-lost (extended h es) legal' p lo hi z)

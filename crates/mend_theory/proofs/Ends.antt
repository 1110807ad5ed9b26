-- ME2: mending of a page ends, after at most four calls of its own: the tree of its calls.
use mathlib.Core.Path.{◌≡◌, refl, ◌∙◌}
use mathlib.Core.Logic.{◌⊎◌, inl, inr, ⊎_elim}
use mathlib.Core.Bool.{Bool, true, false, ◌||◌}
use mathlib.Core.List.{List}
use Prim.Native.Nat.{ℕ, suc, ◌+◌, ◌*◌, ◌≤◌}
use native.Mathlib.Omega.{arith}
use borrow.Author.Tests.{eq-eqb}
use Rattle.laws.proofs.Tables.{or_cases, true-not-false}
use Rattle.model.specs.State.{held}
use Rattle.model.specs.Refusals.{page_dirty}
use Rattle.model.specs.Calls.{Call, is_call}
use Rattle.model.specs.Claim.{History, reached, log_of}
use Rattle.model.specs.declared.state.State.{State}
use Rattle.history.proofs.Reached.{made_with, tied, uncarried}
use Rattle.upkeep_policy.specs.UpkeepClaim.{bound}
use Rattle.upkeep_theory.proofs.Shape.{Renewal, loads, backs, writes, puts}
use Rattle.mend_policy.specs.Mend.{call, mend_of}
use Rattle.mend_policy.specs.MendClaim.{stands_on, writes_page, MendEnds}
use Rattle.mend_theory.proofs.Named.{named}
use Rattle.mend_theory.proofs.Risks.{stood_on}
use Rattle.mend_theory.proofs.Clean.{mended-clean}
use Rattle.mend_theory.proofs.Onward.{Told}
use Rattle.mend_theory.proofs.Turns.{Done, EndsIn, ends_now}
use Rattle.mend_theory.proofs.Seats.{Seat, look, next, round, still-stands, turn}
use Rattle.mend_theory.proofs.Second.{second_call, ctx, taken, stands_here, no-put}
use Rattle.mend_theory.proofs.Paths.{Cleanly, keeps-clean, later, by-write, goes, at_once}

more-calls : (r W C p K j i i' : ℕ) (h : History) → i ≤ i' → EndsIn r W C p K j i h → EndsIn r W C p K j i' h
more-calls r W C p K j i i' h le y = record { done = y.done; few = omega (arith, y.few, le) }

no-backup : {A : Type 0} (v m : List ℕ) (s : State) (r p : ℕ) (c : Call) → Renewal v m s r p true c → is_call 8 c ≡ true → A
no-backup v m s r p c (loads h n e) is = absurd (true-not-false (rw e at is) refl)
no-backup v m s r p c (backs h u b n e) is = absurd (true-not-false refl u)
no-backup v m s r p c (writes h u d n e) is = absurd (true-not-false (rw e at is) refl)
no-backup v m s r p c (puts h u d n e) is = absurd (true-not-false (rw e at is) refl)

-- ---- a page that stands, with its next call

module _ (r W C p n : ℕ) (h : History) (m : List ℕ) (s : State) (t : Seat r W C p n h m s) (st : stands_on (reached h).volume p ≡ true)
    (c : Call) (names : mend_of (reached h).volume m s r p ≡ call c) where
  -- mending's Load or put leaves it clean only where it is newest on disk
  abbrev Brought : Type 0
  Brought = (held s p ≡ false) ⊎ (page_dirty s p ≡ false)

  turn-clean : Renewal (reached h).volume m s r p true c → Brought → (a : ℕ) → a + suc (bound W h.pages) ≤ n
      → Done r W C p (next r W C p n h m s t c names)
      ⊎ ((m' : List ℕ) × (s' : State) × Seat r W C p a (next r W C p n h m s t c names) m' s'
      × Cleanly r W C p n h m s t (log_of (next r W C p n h m s t c names)) (reached (next r W C p n h m s t c names)).volume s')
  turn-clean re b a le = turn r W C p n h m s t c names (Cleanly r W C p n h m s t) (keeps-clean r W C p n h m s t)
      (mended-clean (made_with h) p t.low t.high (ctx r W C p n h m s t) r true c re (taken r W C p n h m s t c names)
      (λ hp o. absurd (⊎_elim (λ z. true-not-false hp z)
      (λ z. ⊎_elim (λ y. true-not-false y z) (λ y. true-not-false refl y) o) b))) a le

  -- it is brought, and written
  load-write : Renewal (reached h).volume m s r p true c → held s p ≡ false → is_call 4 c ≡ true → (j : ℕ)
      → 2 * suc (bound W h.pages) ≤ n → EndsIn r W C p (bound W h.pages) (suc (suc j)) (2 + bound W h.pages) h
  load-write re away is j le =
      let then = next r W C p n h m s t c names in
      let K = bound W h.pages in
      more-calls r W C p K (suc (suc j)) (suc (suc K + 0)) (2 + K) h (omega arith)
      (at_once r W C p n h m s t c names is (suc j) (suc K + 0)
      (⊎_elim (λ d. ends_now r W C p K (suc j) (suc K + 0) then d)
      (λ y.
      let m' = y.0 in let s' = y.1 in let u = y.2 in
      ⊎_elim (λ d. ends_now r W C p K (suc j) (suc K + 0) then d)
      (λ z.
      let c' = z.0 in
      let g = goes r W C p n h m s t c names is m' s' u.is-on in
      let g' : (is_call 8 c' || writes_page p c'.0) ≡ true = rw z.1 at g in
      ⊎_elim
      (λ i. no-backup (reached then).volume m' s' r p c' (second_call (reached then).volume m' s' r p c' z.1
      (stands_here r W C p (suc K) then m' s' u (still-stands r W C p n h m s t c names st))).is-renewal i)
      (λ wr. by-write r W C p (suc K) then m' s' u c' z.1 j (omega arith) wr)
      (or_cases (is_call 8 c') (writes_page p c'.0) g'))
      (look r W C p (suc K) then m' s' u))
      (turn-clean re (inl away) (suc K) (omega (arith, le)))))

-- ---- a page that stands, and is clean only where it is newest on disk

ready : (r W C p n : ℕ) (h : History) (m : List ℕ) (s : State) (t : Seat r W C p n h m s) → stands_on (reached h).volume p ≡ true
    → Cleanly r W C p n h m s t (log_of h) (reached h).volume s → (j : ℕ) → 2 * suc (bound W h.pages) ≤ n
    → EndsIn r W C p (bound W h.pages) (suc (suc j)) (2 + bound W h.pages) h
ready r W C p n h m s t st cl j le = ⊎_elim (λ d. ends_now r W C p (bound W h.pages) (suc (suc j)) (2 + bound W h.pages) h d)
    (λ y.
    let sc = second_call (reached h).volume m s r p y.0 y.1 (stands_here r W C p n h m s t st) in
    go y.0 y.1 sc.is-renewal)
    (look r W C p n h m s t)
  where
    go : (c : Call) → mend_of (reached h).volume m s r p ≡ call c → Renewal (reached h).volume m s r p true c
        → EndsIn r W C p (bound W h.pages) (suc (suc j)) (2 + bound W h.pages) h
    go c names (loads a b e) = load-write r W C p n h m s t st c names (loads a b e) a (rw e refl) j le
    go c names (backs a u b x e) = absurd (true-not-false refl u)
    go c names (writes a u d x e) =
        more-calls r W C p (bound W h.pages) (suc (suc j)) _ _ h (omega arith)
        (by-write r W C p n h m s t c names (suc j) (omega (arith, le)) (rw e (eq-eqb p p refl)))
    go c names (puts a u d x e) =
        no-put r W C p n h m s t c (second_call (reached h).volume m s r p c names (stands_here r W C p n h m s t st)) cl a d

-- ---- a page that stands

stood : (r W C p n : ℕ) (h : History) (m : List ℕ) (s : State) (t : Seat r W C p n h m s) → stands_on (reached h).volume p ≡ true
    → 3 * suc (bound W h.pages) ≤ n → EndsIn r W C p (bound W h.pages) 3 (3 + 2 * bound W h.pages) h
stood r W C p n h m s t st le = ⊎_elim (λ d. ends_now r W C p (bound W h.pages) 3 (3 + 2 * bound W h.pages) h d)
    (λ y.
    let sc = second_call (reached h).volume m s r p y.0 y.1 (stands_here r W C p n h m s t st) in
    go y.0 y.1 sc.is-renewal)
    (look r W C p n h m s t)
  where
    go : (c : Call) → mend_of (reached h).volume m s r p ≡ call c → Renewal (reached h).volume m s r p true c
        → EndsIn r W C p (bound W h.pages) 3 (3 + 2 * bound W h.pages) h
    go c names (loads a b e) =
        more-calls r W C p (bound W h.pages) 3 _ _ h (omega arith)
        (load-write r W C p n h m s t st c names (loads a b e) a (rw e refl) 1 (omega (arith, le)))
    go c names (backs a u b x e) = absurd (true-not-false refl u)
    go c names (writes a u d x e) =
        more-calls r W C p (bound W h.pages) 3 _ _ h (omega arith)
        (by-write r W C p n h m s t c names 2 (omega (arith, le)) (rw e (eq-eqb p p refl)))
    go c names (puts a u d x e) =
        let then = next r W C p n h m s t c names in
        let K = bound W h.pages in
        more-calls r W C p K 3 (suc K + (2 + K)) _ h (omega arith)
        (later r W C p n h m s t c names 2 (2 + K)
        (⊎_elim (λ z. ends_now r W C p K 2 (2 + K) then z)
        (λ y. ready r W C p (2 * suc K) then y.0 y.1 y.2 (still-stands r W C p n h m s t c names st) y.3 0 (omega arith))
        (turn-clean r W C p n h m s t st c names (puts a u d x e) (inr d) (2 * suc K) (omega (arith, le)))))

-- ---- any page

-- the Backup of a page that was just brought
backed-up : (r W C p n : ℕ) (h : History) (m : List ℕ) (s : State) (t : Seat r W C p n h m s) → 3 * suc (bound W h.pages) ≤ n
    → (c : Call) (names : mend_of (reached h).volume m s r p ≡ call c) → is_call 8 c ≡ true
    → Cleanly r W C p n h m s t (log_of h) (reached h).volume s
    → EndsIn r W C p (bound W h.pages) 3 (3 + 2 * bound W h.pages) h
backed-up r W C p n h m s t le c names is cl =
    let then = next r W C p n h m s t c names in
    let K = bound W h.pages in
    let a = named (reached h).volume m s r p c names in
    more-calls r W C p K 3 (suc K + (2 + K)) _ h (omega arith)
    (later r W C p n h m s t c names 2 (2 + K)
    (⊎_elim (λ z. ends_now r W C p K 2 (2 + K) then z)
    (λ y. ready r W C p (2 * suc K) then y.0 y.1 y.2 ((round r W C p n h m s t c names).backed is) y.3 0 (omega arith))
    (turn r W C p n h m s t c names (Cleanly r W C p n h m s t) (keeps-clean r W C p n h m s t)
    (mended-clean (made_with h) p t.low t.high (ctx r W C p n h m s t) r a.written c a.is-renewal
    (taken r W C p n h m s t c names) (λ hp o. cl)) (2 * suc K) (omega (arith, le)))))

module _ (r W C p n : ℕ) (h : History) (m : List ℕ) (s : State) (t : Seat r W C p n h m s)
    (le : 4 * suc (bound W h.pages) ≤ n) (c : Call) (names : mend_of (reached h).volume m s r p ≡ call c) (written : Bool)
    (stood-at : written ≡ true → stands_on (reached h).volume p ≡ true) where
  -- its Load: then Backup and so on, or Write
  by-load : Renewal (reached h).volume m s r p written c → held s p ≡ false → is_call 4 c ≡ true
      → EndsIn r W C p (bound W h.pages) 4 (4 + 3 * bound W h.pages) h
  by-load re away is =
      let then = next r W C p n h m s t c names in
      let K = bound W h.pages in
      more-calls r W C p K 4 (suc (3 + 2 * K)) _ h (omega arith)
      (at_once r W C p n h m s t c names is 3 (3 + 2 * K)
      (⊎_elim (λ d. ends_now r W C p K 3 (3 + 2 * K) then d)
      (λ y.
      let m' = y.0 in let s' = y.1 in let u = y.2 in
      ⊎_elim (λ d. ends_now r W C p K 3 (3 + 2 * K) then d)
      (λ z.
      let c' = z.0 in
      let g = goes r W C p n h m s t c names is m' s' u.is-on in
      let g' : (is_call 8 c' || writes_page p c'.0) ≡ true = rw z.1 at g in
      ⊎_elim
      (λ i. backed-up r W C p (3 * suc K) then m' s' u (omega arith) c' z.1 i y.3)
      (λ wr. more-calls r W C p K 3 (suc K + 0) (3 + 2 * K) then (omega arith)
      (by-write r W C p (3 * suc K) then m' s' u c' z.1 2 (omega arith) wr))
      (or_cases (is_call 8 c') (writes_page p c'.0) g'))
      (look r W C p (3 * suc K) then m' s' u))
      (turn r W C p n h m s t c names (Cleanly r W C p n h m s t) (keeps-clean r W C p n h m s t)
      (mended-clean (made_with h) p t.low t.high (ctx r W C p n h m s t) r written c re (taken r W C p n h m s t c names)
      (λ hp o. absurd (true-not-false hp away))) (3 * suc K) (omega (arith, le)))))

  abbrev Anyhow : Told
  Anyhow b v u = Unit {0}

  by_call : Renewal (reached h).volume m s r p written c → EndsIn r W C p (bound W h.pages) 4 (4 + 3 * bound W h.pages) h
  by_call (loads a b e) = by-load (loads a b e) a (rw e refl)
  by_call (backs a u b x e) =
      let then = next r W C p n h m s t c names in
      let K = bound W h.pages in
      more-calls r W C p K 4 (suc K + (3 + 2 * K)) _ h (omega arith)
      (later r W C p n h m s t c names 3 (3 + 2 * K)
      (⊎_elim (λ z. ends_now r W C p K 3 (3 + 2 * K) then z)
      (λ y. stood r W C p (3 * suc K) then y.0 y.1 y.2 ((round r W C p n h m s t c names).backed (rw e refl)) (omega arith))
      (turn r W C p n h m s t c names Anyhow (λ v' m' past s' b' x' c' d q. tt) tt (3 * suc K) (omega (arith, le)))))
  by_call (writes a u d x e) =
      more-calls r W C p (bound W h.pages) 4 _ _ h (omega arith)
      (by-write r W C p n h m s t c names 3 (omega (arith, le)) (rw e (eq-eqb p p refl)))
  by_call (puts a u d x e) =
      let then = next r W C p n h m s t c names in
      let K = bound W h.pages in
      let st = stood-at u in
      let re : Renewal (reached h).volume m s r p true c = puts a refl d x e in
      more-calls r W C p K 4 (suc K + (2 + K)) _ h (omega arith)
      (later r W C p n h m s t c names 3 (2 + K)
      (⊎_elim (λ z. ends_now r W C p K 3 (2 + K) then z)
      (λ y. ready r W C p (2 * suc K) then y.0 y.1 y.2 (still-stands r W C p n h m s t c names st) y.3 1 (omega arith))
      (turn-clean r W C p n h m s t st c names re (inr d) (2 * suc K) (omega (arith, le)))))

pub mend-ends : MendEnds
mend-ends h legal r W C roomy more z test m s e rests nums big p lo hi =
    let K = bound W h.pages in
    let n = 4 * K + 4 in
    let geo = (tied h legal).holds.vol.geo ∙ uncarried h legal z in
    let t : Seat r W C p n h m s = record {
      legal = legal;
      roomy = roomy;
      more = λ y. more (rw geo y);
      uncarried = z;
      test = test;
      is-on = e;
      rests = rests;
      numbers = nums;
      big = big;
      low = lo;
      high = hi;
    } in
    let y : EndsIn r W C p K 4 (4 + 3 * K) h = ⊎_elim (λ d. ends_now r W C p K 4 (4 + 3 * K) h d)
    (λ c.
    let a = named (reached h).volume m s r p c.0 c.1 in
    by_call r W C p n h m s t (omega arith) c.0 c.1 a.written
    (λ u. stood_on h legal m s e p lo hi (a.stood u)) a.is-renewal)
    (look r W C p n h m s t) in
    record {
      legal = y.done.legal;
      uncarried = y.done.uncarried;
      disciplined = y.done.disciplined;
      few = omega (arith, y.few);
      ended = y.done.ended;
    }

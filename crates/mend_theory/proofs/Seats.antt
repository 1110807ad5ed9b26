-- ME2: a rest from which mending goes on, what mending says there, and the rest after its next call.
use mathlib.Core.Path.{◌≡◌, refl, sym, ap, ◌∙◌, subst}
use mathlib.Core.Logic.{◌≢◌, ◌⊎◌, inl, inr}
use mathlib.Core.Bool.{Bool, true, false, not, ◌||◌}
use mathlib.Core.List.{List, [], ◌∷◌}
use Prim.Native.Nat.{ℕ, suc, ◌+◌, ◌-◌, ◌*◌, ◌/◌, ◌≤◌}
use native.Mathlib.Omega.{arith}
use lib.Dec.{eqb}
use Rattle.laws.proofs.Tables.{by_cases, true-not-false}
use Rattle.model.specs.Geometry.{ring, geometry_of}
use Rattle.model.specs.Index.{entry_of}
use Rattle.model.specs.State.{held}
use Rattle.model.specs.Repair.{state_view, class_in}
use Rattle.model.specs.Calls.{Call}
use Rattle.model.specs.AbstractLog.{empty_log}
use Rattle.model.specs.History.{Power, on, Machine, Event, perform, run, step_log, log_after, all_allowed}
use Rattle.model.specs.Carry.{starts_in}
use Rattle.model.specs.Claim.{History, Legal, fresh, reached, log_of}
use Rattle.model.specs.declared.{state.State.State}
use Rattle.history.proofs.Reached.{made_with, tied, uncarried, live}
use Rattle.upkeep_policy.specs.Upkeep.{Advice, idle, stuck, make, renew, advice_in, upkeep_of, disciplined, upkeep_events}
use Rattle.upkeep_policy.specs.UpkeepClaim.{extended, Rests, Roomy, NumbersLeft, bound}
use Rattle.upkeep_theory.proofs.Along.{renewal-plain}
use Rattle.upkeep_theory.proofs.Fresh.{turns}
use Rattle.upkeep_theory.proofs.Idle.{idle-closed}
use Rattle.upkeep_theory.proofs.Text.{log-append, log-more}
use Rattle.mend_policy.specs.Mend.{stands, reaches, margin, may_write, is_ahead, is_stale, twofold, mending}
use Rattle.mend_policy.specs.Mend.{Mending, whole, single, lost, ahead, full, call, mend_of}
use Rattle.mend_policy.specs.MendClaim.{EndsWith, EndedIn, NumbersFor, Round, stands_on, none_owed, spares_backup}
use Rattle.mend_theory.proofs.Two.{backup-holds}
use Rattle.mend_theory.proofs.Named.{named, mend-has-room}
use Rattle.mend_theory.proofs.Follows.{mend-follows}
use Rattle.mend_theory.proofs.Short.{weight, step-grows, events-grow}
use Rattle.mend_theory.proofs.Risks.{after_one, may-event}
use Rattle.mend_theory.proofs.Round.{upkeep-plain, joined, after, round-mends, never-ahead}
use Rattle.mend_theory.proofs.Onward.{Told, Keeps, Next, Stays, onward}
use Rattle.mend_theory.proofs.Counts.{notes_in, step-notes, upkeep-notes, rest-same}
use Rattle.mend_theory.proofs.Turns.{Done}

-- a rest with n numbers left beside upkeep's own
pub record Seat (r W C p n : ℕ) (h : History) (m : List ℕ) (s : State) : Type 0 where
  pub legal : Legal h
  pub roomy : Roomy h W C
  pub more : twofold (made_with h) ≡ true → h.pages ≤ W
  pub uncarried : starts_in h.events ≡ false
  pub test : disciplined r W C (fresh h) 0 h.events ≡ true
  pub is-on : (reached h).power ≡ on m s
  pub rests : upkeep_of (reached h).volume m s r ≡ idle
  pub numbers : NumbersFor h s W n
  pub big : bound W h.pages + 3 ≤ 4 * (h.records - h.records / 4)
  pub low : 1 ≤ p
  pub high : p ≤ h.pages

-- ---- what mending says

renewal-single : (t : Bool) (a : Advice) → mending t a ≢ single
renewal-single t idle e = let z : ◌≡◌ {A = ℕ} 0 1 = cc in omega arith
renewal-single true (stuck p) e = let z : ◌≡◌ {A = ℕ} 0 1 = cc in omega arith
renewal-single false (stuck p) e = let z : ◌≡◌ {A = ℕ} 0 1 = cc in omega arith
renewal-single t (make c) e = let z : ◌≡◌ {A = ℕ} 0 1 = cc in omega arith

whole-single : {A : Type 0} → whole ≡ single → A
whole-single e = let z : ◌≡◌ {A = ℕ} 0 1 = cc in absurd (omega arith)

ahead-single : {A : Type 0} → ahead ≡ single → A
ahead-single e = let z : ◌≡◌ {A = ℕ} 0 1 = cc in absurd (omega arith)

-- single is said only of a page that may not be written
single-small : (v m : List ℕ) (s : State) (r p : ℕ) → mend_of v m s r p ≡ single
    → may_write (geometry_of v) (entry_of s.index p) ≡ false
unfolding mend_of
single-small v m s r p e =
    let g = geometry_of v in
    let n = entry_of s.index p in
    let w = state_view g v s p in
    let far = reaches g w s.durable p (margin g) in
    by_cases (not (ring g) || eqb n.durable 0)
    (λ t. whole-single (rw t at e))
    (λ t. by_cases (is_ahead (class_in g p w))
    (λ a. ahead-single (rw (t, a) at e))
    (λ a. by_cases (not (stands g v n p))
    (λ b. absurd (renewal-single (held s p) (renew v m s r p false) (rw (t, a, b) at e)))
    (λ b. by_cases (may_write g n)
    (λ y. by_cases (not far || is_stale (class_in g p w))
    (λ d. absurd (renewal-single (held s p) (renew v m s r p true) (rw (t, a, b, y, d) at e)))
    (λ d. by_cases far (λ f. whole-single (rw (t, a, b, y, d, f) at e)) (λ f. absurd (true-not-false (rw f refl) d))))
    (λ y. y))))

module _ (r W C p n : ℕ) (h : History) (m : List ℕ) (s : State) (t : Seat r W C p n h m s) where
  abbrev answer : Mending
  answer = mend_of (reached h).volume m s r p

  ends-here : EndsWith (may_write (geometry_of (reached h).volume) (entry_of s.index p)) (mend_of (reached h).volume m s r p)
      → Done r W C p h
  ends-here q =
      record {
        legal = t.legal;
        uncarried = t.uncarried;
        disciplined = t.test;
        ended = inl (subst (λ (y : Power). EndedIn r p y (reached h).volume) (sym t.is-on) (t.rests, q));
      }

  -- it ends, or names a call
  pub look : Done r W C p h ⊎ ((c : Call) × (mend_of (reached h).volume m s r p ≡ call c))
  look = go answer refl
    where
      go : (a : Mending) → mend_of (reached h).volume m s r p ≡ a
          → Done r W C p h ⊎ ((c : Call) × (mend_of (reached h).volume m s r p ≡ call c))
      go whole e = inl (ends-here (rw e tt))
      go single e = inl (ends-here (rw e (single-small (reached h).volume m s r p e)))
      go lost e = inl (ends-here (rw e tt))
      go ahead e = absurd (never-ahead h t.legal m s t.is-on r p t.low t.high e)
      go full e =
          let q = t.numbers in let o = t.roomy in
          absurd (mend-has-room h t.legal m s t.is-on r t.rests (omega (arith, o.slots)) (omega (arith, o.notes))
          (omega (arith, q.durable)) (omega (arith, q.notes)) p e)
      go (call c) e = inr (c, e)

  pub ends-whole : mend_of (reached h).volume m s r p ≡ whole → Done r W C p h
  ends-whole e = ends-here (rw e tt)

  pub geometry : geometry_of (reached h).volume ≡ made_with h
  geometry = (tied h t.legal).holds.vol.geo ∙ uncarried h t.legal t.uncarried

  pub ringed : ring (made_with h) ≡ true
  ringed = turns h t.legal t.roomy.second t.roomy.turns (omega (arith, t.roomy.notes))

  -- ---- the next rest

  module _ (c : Call) (names : mend_of (reached h).volume m s r p ≡ call c) where
    abbrev K : ℕ
    K = bound W h.pages

    abbrev first : History
    first = extended h (perform c ∷ [])

    abbrev calls : List Event
    calls = upkeep_events r (bound W h.pages) (reached (extended h (perform c ∷ [])))

    abbrev pub next : History
    next = extended (extended h (perform c ∷ []))
        (upkeep_events r (bound W h.pages) (reached (extended h (perform c ∷ []))))

    pub round : Round h r W C p c next
    unfolding reached
    round =
        let nums : NumbersLeft h s W =
        record { durable = omega (arith, t.numbers.durable); notes = omega (arith, t.numbers.notes) } in
        let y = round-mends h t.legal r W C t.roomy (λ z. t.more (rw geometry at z)) t.uncarried t.test m s
        t.is-on t.rests nums p t.low t.high c names in
        let q : Rests r (run (reached first) (upkeep_events r y.0 (reached first))) =
        subst (λ (u : Machine). Rests r u) (after first (upkeep_events r y.0 (reached first))) y.2.rests in
        subst (λ (es : List Event). Round h r W C p c (extended first es)) (sym (rest-same r y.0 K (reached first) y.1 q)) y.2

    follows : Legal (extended h (perform c ∷ [])) × (starts_in (extended h (perform c ∷ [])).events ≡ false)
    follows =
        let f = mend-follows h t.legal r W C t.test m s t.is-on t.rests p t.low t.high c names in
        (f.legal, f.uncarried t.uncarried)

    -- it takes at most as many numbers as calls
    grows : (m' : List ℕ) (s' : State) → (reached next).power ≡ on m' s'
        → (s'.durable ≤ s.durable + suc K) × (s'.notes ≤ s.notes + suc K)
    unfolding log_of reached
    grows m' s' e =
        let x = live h t.legal m s t.is-on in
        let x' = live next round.legal m' s' e in
        let l1 : log_of first ≡ step_log (reached h) (log_of h) (perform c) = log-more h (perform c) in
        let l2 : log_of next ≡ log_after (reached first) (log_of first) calls = log-append (fresh first) empty_log first.events calls in
        let g1 : weight (log_of first) ≤ suc (weight (log_of h)) = rw l1 (step-grows (reached h) (log_of h) c) in
        let g2 : weight (log_of next) ≤ weight (log_of first) + K = rw l2 (events-grow r K (reached first) (log_of first)) in
        let none = (idle-closed (reached h).volume m s r t.rests).1 in
        let n0 : notes_in (reached h).power ≡ s.notes = rw t.is-on refl in
        let n1 : notes_in (reached first).power ≤ suc (notes_in (reached h).power) =
        rw (after_one h (perform c)) (step-notes (reached h) c) in
        let n2 : notes_in (reached next).power ≤ notes_in (reached first).power + K =
        rw (after first calls) (upkeep-notes r K (reached first)) in
        let n3 : notes_in (reached next).power ≡ s'.notes = rw e refl in (
          omega (arith, g1, g2, none, x.al.log.pending-is, x.al.log.durable-is, x'.al.log.durable-is),
          omega (arith, n0, n1, n2, n3),
        )

    -- where the page stands it still stands
    pub still-stands : stands_on (reached h).volume p ≡ true → stands_on (reached next).volume p ≡ true
    unfolding all_allowed spares_backup run
    still-stands st =
        let w1 = after_one h (perform c) in
        let calm = upkeep-plain r p K (reached first) in
        let a = named (reached h).volume m s r p c names in
        let plain = renewal-plain (reached h).volume m s r p a.written c a.is-renewal in
        let may : all_allowed (reached h) (perform c ∷ calls) ≡ true =
        rw (may-event h (perform c) follows.0) (subst (λ (u : Machine). all_allowed u calls ≡ true) w1 calm.may) in
        let same : reached (extended h (perform c ∷ calls)) ≡ reached next =
        after h (perform c ∷ calls) ∙ (sym (ap (λ (u : Machine). run u calls) w1) ∙ sym (after first calls)) in
        let quiet : none_owed (reached h).power ≡ true = rw (t.is-on, (idle-closed (reached h).volume m s r t.rests).0) in
        let y = (backup-holds h t.legal p t.low t.high a.turns quiet st (perform c ∷ calls)
        (joined h (perform c ∷ calls) t.legal may) (rw plain calm.plain)
        (subst (λ (u : Machine). spares_backup p u calls ≡ true) w1 calm.backup)).0 in
        subst (λ (u : Machine). stands_on u.volume p ≡ true) same y

    -- mending has ended there, or goes on from there
    pub turn : (Q : Told) → Keeps (made_with h) r Q → Next Q h m s c → (a : ℕ) → a + suc K ≤ n
        → Done r W C p next
        ⊎ ((m' : List ℕ) × (s' : State) × Seat r W C p a next m' s' × Q (log_of next) (reached next).volume s')
    turn Q keeps q a le = go round.rests
      where
        st : Stays Q next
        st = onward Q h ringed r keeps m s t.is-on c q follows.0 follows.1 K

        go : Rests r (reached next)
            → Done r W C p next
            ⊎ ((m' : List ℕ) × (s' : State) × Seat r W C p a next m' s' × Q (log_of next) (reached next).volume s')
        go (inr (z, e, l)) = inl (record {
          legal = round.legal;
          uncarried = round.uncarried;
          disciplined = round.disciplined;
          ended = inr (z, e, l);
        })
        go (inl e) =
            let i : advice_in r (on st.memory st.state) (reached next).volume ≡ idle =
            subst (λ (y : Power). advice_in r y (reached next).volume ≡ idle) st.is-on e in
            let o = t.roomy in
            let gr = grows st.memory st.state st.is-on in
            inr (
              st.memory,
              st.state,
              record {
                legal = round.legal;
                roomy = record { second = o.second; turns = o.turns; slots = o.slots; notes = o.notes; reserve = o.reserve };
                more = t.more;
                uncarried = round.uncarried;
                test = round.disciplined;
                is-on = st.is-on;
                rests = i;
                numbers = record {
                  durable = omega (arith, gr.0, t.numbers.durable, le);
                  notes = omega (arith, gr.1, t.numbers.notes, le);
                };
                big = t.big;
                low = t.low;
                high = t.high;
              },
              st.holds,
            )

-- ME2, one round: upkeep's calls to rest after mending's Backup leave a page that stands, after its Write one that is whole.
-- And what mending says of a whole page; AHEAD is no answer of a legal history.
use mathlib.Core.Path.{◌≡◌, refl, sym, ap, ◌∙◌, subst}
use mathlib.Core.Logic.{◌≢◌, inl, inr, ⊎_elim}
use mathlib.Core.Bool.{Bool, true, false, not, ◌&&◌, ◌||◌}
use mathlib.Core.List.{List, [], ◌∷◌, ◌++◌, append_assoc}
use Prim.Native.Nat.{ℕ, zero, suc, ◌+◌, ◌*◌, ◌≤◌}
use native.Mathlib.Omega.{arith}
use lib.Dec.{eqb, ltb}
use borrow.Author.Tests.{le-ltb}
use Rattle.laws.proofs.Tables.{by_cases, or-neither, or_cases, and_left, and_right, and-fails, true-not-false}
use Rattle.model.specs.Geometry.{ring, geometry_of}
use Rattle.model.specs.Outcome.{StoredItem}
use Rattle.model.specs.Calls.{Call, no_payload}
use Rattle.model.specs.History.{Power, off, on, Machine, Event, perform, allowed, step, all_allowed, run, restart, crash, crash_in, damage, log_after}
use Rattle.model.specs.Carry.{carries, starts_in}
use Rattle.model.specs.Claim.{History, Legal, fresh, reached, log_of, durable_of}
use Rattle.model.specs.declared.{geometry.Geometry.Geometry}
use Rattle.model.specs.declared.command.Command.TheVariants.{Note as NoteCall}
use Rattle.upkeep_policy.specs.Upkeep.{Advice, idle, stuck, make, advice_of, then_call, upkeep_events, advice_in, follows, cuts_in, disciplined}
use Rattle.upkeep_policy.specs.UpkeepClaim.{extended, Rests, bound}
use Rattle.upkeep_theory.proofs.Along.{advised-plain, renewal-plain}
use Rattle.upkeep_theory.proofs.Comes.{advised-fits, may-come}
use Rattle.upkeep_theory.proofs.Shape.{advised}
use Rattle.upkeep_theory.proofs.Text.{run-append, log-append}
use Rattle.model.specs.declared.geometry.Heading.TheVariants.{Second}
use Rattle.model.specs.Index.{entry_of}
use Rattle.model.specs.Item.{image_lsn, valid_image}
use Rattle.model.specs.State.{held}
use Rattle.model.specs.Repair.{class_of, state_view, class_in}
use Rattle.history.proofs.Facts.{facts}
use Rattle.history.proofs.Reached.{made_with, tied, uncarried, live, present}
use Rattle.history.proofs.Refusals.{call-refusal}
use Rattle.upkeep_policy.specs.Upkeep.{renew}
use Rattle.upkeep_theory.proofs.Caps.{note-first}
use Rattle.upkeep_theory.proofs.Fresh.{turns}
use Rattle.model.specs.AbstractLog.{AbstractLog, empty_log}
use Rattle.model.specs.declared.state.Entry.{Entry}
use Rattle.history.proofs.Logs.{last_of, last-le}
use Rattle.history.proofs.Context.{entry-is, durable-last}
use lib.ListN.{length}
use Rattle.model.specs.Scan.{durable_count}
use Rattle.history.proofs.LogScan.{durable-count}
use Rattle.model.specs.declared.state.State.{State}
use Rattle.mend_policy.specs.Mend.{stands, reaches, margin, may_write, is_ahead, is_stale, whole, single, ahead, mending, mend_of, reaches_from}
use Rattle.mend_policy.specs.MendClaim.{carries_in, spares_backup, spares_own, stands_on, whole_on, RoundMends, NeverAhead, WholeIsSaid}
use Rattle.mend_theory.proofs.Two.{both, backup-holds, no_start}
use Rattle.mend_theory.proofs.Named.{named, mend-is-done}
use Rattle.mend_theory.proofs.Follows.{starts_more, mend-follows, disciplined-more}
use Rattle.mend_theory.proofs.Rests.{ends, called}
use Rattle.mend_theory.proofs.Short.{short-next}
use Rattle.mend_theory.proofs.Again.{kept_more, round-ends}
use Rattle.mend_theory.proofs.Risks.{after_one, may-event}
use Rattle.mend_theory.proofs.Written.{write-mends}
use Rattle.mend_theory.proofs.Backed.{renewal-owes, backup-mends}

-- ---- upkeep's calls, as events

-- they may come, do not carry, and damage nothing
pub record Plain (p : ℕ) (w : Machine) (es : List Event) : Type 0 where
  pub may : all_allowed w es ≡ true
  pub plain : carries_in es ≡ false
  pub backup : spares_backup p w es ≡ true
  pub own : spares_own p es ≡ true

no-events : (p : ℕ) (w : Machine) → Plain p w []
unfolding all_allowed spares_backup
no-events p w = record { may = refl; plain = refl; backup = refl; own = refl }

one-event : (p : ℕ) (w : Machine) (c : Call) (es : List Event) → allowed w (perform c) ≡ true → carries c ≡ false
    → Plain p (step w (perform c)) es → Plain p w (perform c ∷ es)
unfolding all_allowed spares_backup
one-event p w c es t o y =
    record { may = rw t y.may; plain = rw o y.plain; backup = y.backup; own = y.own }

module _ (r p : ℕ) where
  upkeep-at : (n : ℕ) → ((w : Machine) → Plain p w (upkeep_events r n w)) → (v : List ℕ) (y : Power) (past : List StoredItem)
      → (a : Advice) → advice_of r (record { volume = v; power = y; past = past }) ≡ a
      → Plain p (record { volume = v; power = y; past = past })
      (then_call a (λ c. upkeep_events r n (step (record { volume = v; power = y; past = past }) (perform c))))
  upkeep-at n ih v y past idle e = no-events p _
  upkeep-at n ih v y past (stuck q) e = no-events p _
  upkeep-at n ih v off past (make c) e = absurd (let z : ◌≡◌ {A = ℕ} 0 1 = cc in omega arith)
  upkeep-at n ih v (on m s) past (make c) e =
      let a = advised v m s r c e in
      let f = advised-fits v m s r c a in
      one-event p _ c _ (may-come v m past s c f.0 f.1).0 (advised-plain v m s r c a) (ih _)

  pub upkeep-plain : (n : ℕ) (w : Machine) → Plain p w (upkeep_events r n w)
  unfolding upkeep_events
  upkeep-plain zero w = no-events p w
  upkeep-plain (suc n) w = upkeep-at n (upkeep-plain n) w.volume w.power w.past (advice_of r w) refl

pub allowed-join : (w : Machine) (es fs : List Event) → all_allowed w es ≡ true → all_allowed (run w es) fs ≡ true
    → all_allowed w (es ++ fs) ≡ true
unfolding all_allowed run
allowed-join w [] fs a b = b
allowed-join w (e ∷ es) fs a b =
    let q = both (allowed w e) (all_allowed (step w e) es) a in rw q.0 (allowed-join (step w e) es fs q.1 b)

pub joined : (h : History) (es : List Event) → Legal h → all_allowed (reached h) es ≡ true → Legal (extended h es)
unfolding reached
joined h es legal t = record { make = legal.make; events = allowed-join (fresh h) h.events es legal.events t }

pub after : (h : History) (es : List Event) → reached (extended h es) ≡ run (reached h) es
unfolding reached
after h es = run-append (fresh h) h.events es

-- ---- one round

module _ (h : History) (legal : Legal h) (second : h.heading ≡ Second) (l2 : 2 ≤ h.records) (n2 : 2 ≤ h.notes)
    (z : starts_in h.events ≡ false) where
  -- a ring it stays
  still-ring : ring (geometry_of (reached h).volume) ≡ true
  still-ring =
      let e : geometry_of (reached h).volume ≡ made_with h = (tied h legal).holds.vol.geo ∙ uncarried h legal z in
      subst (λ (g : Geometry). ring g ≡ true) (sym e) (turns h legal second l2 n2)

-- upkeep's first call is the note that is owed
notes-first : (r n : ℕ) (w : Machine) → advice_of r w ≡ make (NoteCall, no_payload) → Rests r (run w (upkeep_events r n w))
    → (i : ℕ) × (upkeep_events r n w ≡ perform (NoteCall, no_payload) ∷ upkeep_events r i (step w (perform (NoteCall, no_payload))))
unfolding run upkeep_events
notes-first r zero w e (inl y) = absurd (let q : ◌≡◌ {A = ℕ} 0 1 = cc in omega arith)
notes-first r zero w e (inr (q, y, f)) = absurd (let q : ◌≡◌ {A = ℕ} 0 1 = cc in omega arith)
notes-first r (suc n) w e y = (n, rw e refl)

starts_none : (es : List Event) → carries_in es ≡ false → starts_in es ≡ false
starts_none [] t = refl
starts_none (restart m ∷ es) t = starts_none es t
starts_none (perform c ∷ es) t =
    let q = or-neither (carries c) (carries_in es) t in rw (no_start c q.0) (starts_none es q.1)
starts_none (crash ∷ es) t = starts_none es t
starts_none (crash_in c l ∷ es) t =
    let q = or-neither (carries c) (carries_in es) t in rw (no_start c q.0) (starts_none es q.1)
starts_none (damage at xs ∷ es) t = starts_none es t

pub round-mends : RoundMends
unfolding reached run spares_backup all_allowed log_of
round-mends h legal r W C roomy more z test m s e rests nums p lo hi c n =
    let v = (reached h).volume in
    let k = extended h (perform c ∷ []) in
    let y = round-ends h legal r W C roomy more z test m s e rests nums p lo hi c n in
    let f = mend-follows h legal r W C test m s e rests p lo hi c n in
    let fr = (ends h r W C test m s e).frame in
    let a = named v m s r p c n in
    let es = upkeep_events r y.calls (reached k) in
    let w1 = after_one h (perform c) in
    let calm = upkeep-plain r p y.calls (reached k) in
    let quiet : Rests r (reached (extended k es)) = subst (λ (u : Machine). Rests r u) (sym (after k es)) y.rests in
    let plain = renewal-plain v m s r p a.written c a.is-renewal in
    let go : follows (advice_in r (reached h).power v) (perform c) ≡ true = rw (e, rests, plain) in
    let none : (i : ℕ) → cuts_in r (reached h).power v i (perform c) ≡ 0 = λ i. rw (e, rests) refl in
    let kept : disciplined r W C (fresh h) 0 (h.events ++ (perform c ∷ es)) ≡ true =
    disciplined-more r W C (perform c ∷ es) h.events (fresh h) 0 test
    (λ i b. kept_more r W C (reached h) i (perform c) es b go (none i)
    (subst (λ (u : Machine). disciplined r W C u 0 es ≡ true) w1 y.kept)) in (
      y.calls,
      y.few,
      record {
        legal = joined k es f.legal calm.may;
        rests = quiet;
        uncarried = starts_more es k.events (f.uncarried z) (starts_none es calm.plain);
        disciplined = subst (λ (fs : List Event). disciplined r W C (fresh h) 0 fs ≡ true)
            (sym (append_assoc h.events (perform c ∷ []) es)) kept;
        backed = λ is.
            let b = backup-mends h legal m s e r fr rests p lo hi c n is in
            let k2 = extended k (perform (NoteCall, no_payload) ∷ []) in
            let rows = sym (call-refusal c v m s) ∙ (mend-is-done h legal m s e r fr rests p lo hi c n).done in
            let o = renewal-owes (live h legal m s e) p r a.written c a.is-renewal is rows in
            let e1 = called h m s e c in
            let x1 = live k f.legal _ _ e1 in
            let adv : advice_of r (reached k) ≡ make (NoteCall, no_payload) = rw e1 (note-first x1 o.note o.is-owed r) in
            let q = notes-first r y.calls (reached k) adv y.rests in
            let w2 : reached k2 ≡ step (reached k) (perform (NoteCall, no_payload)) = after_one k (perform (NoteCall, no_payload)) in
            let fs = upkeep_events r q.0 (reached k2) in
            let calm2 = upkeep-plain r p q.0 (reached k2) in
            let ring2 = still-ring k2 b.0 roomy.second roomy.turns (omega (arith, roomy.notes))
            (starts_more (perform (NoteCall, no_payload) ∷ []) k.events (f.uncarried z) refl) in
            let st = (backup-holds k2 b.0 p lo hi ring2 b.1 b.2 fs (joined k2 fs b.0 calm2.may) calm2.plain
            calm2.backup).0 in
            let same : reached (extended k2 fs) ≡ reached (extended k es) =
            after k2 fs ∙ (ap (λ (u : Machine). run u (upkeep_events r q.0 u)) w2
            ∙ (sym (ap (λ (gs : List Event). run (reached k) gs) q.1) ∙ sym (after k es))) in
            subst (λ (u : Machine). stands_on u.volume p ≡ true) same st;
        written = λ is near.
            let l' : all_allowed (reached h) (perform c ∷ es) ≡ true =
            rw (may-event h (perform c) f.legal) (subst (λ (u : Machine). all_allowed u es ≡ true) w1 calm.may) in
            let same : reached (extended h (perform c ∷ es)) ≡ reached (extended k es) =
            after h (perform c ∷ es) ∙ (sym (ap (λ (u : Machine). run u es) w1) ∙ sym (after k es)) in
            let t = write-mends h legal m s e r fr rests p lo hi c n is es (joined h (perform c ∷ es) legal l') calm.plain
            (subst (λ (u : Machine). spares_backup p u es ≡ true) w1 calm.backup) calm.own (rw same near) in
            subst (λ (u : Machine). whole_on u.volume p ≡ true) same t;
        short = λ wr big.
            let x = live h legal m s e in
            let l2 : log_of (extended k es) ≡ log_after (reached k) (log_of k) es = log-append (fresh k) empty_log k.events es in
            let g1 : 4 * length (log_after (reached k) (log_of k) es).durable + 1 ≤ 4 * s.durable + 3 + y.calls =
            rw wr at y.stored in
            let g2 : 4 * length (durable_of (extended k es)) + 1 ≤ 4 * s.durable + 3 + y.calls =
            subst (λ (b : AbstractLog). 4 * length b.durable + 1 ≤ 4 * s.durable + 3 + y.calls) (sym l2) g1 in
            let d : (entry_of s.index p).durable ≡ last_of p (durable_of h) =
            ap (λ (q : Entry). q.durable) (entry-is x p lo hi) ∙ durable-last x p lo hi in
            let some = a.some in
            let low = last-le p (durable_of h) (length (durable_of h)) in
            short-next (extended k es) (joined k es f.legal calm.may) (length (durable_of h)) (bound W h.pages)
            (omega (arith, g2, x.al.log.durable-is, y.few)) big (omega (arith, some, d, low));
      },
    )

-- ---- AHEAD

not-ahead : (valid : Bool) (n d w : ℕ) → (valid ≡ true → n ≤ d) → is_ahead (class_of valid n d w) ≡ false
unfolding class_of
not-ahead false n d w f = refl
not-ahead true n d w f = by_cases (eqb n d) (λ t. rw t)
    (λ t. rw (t, le-ltb d n (f refl)) (by_cases (ltb n w) (λ u. rw u) (λ u. rw u)))

renewal-ahead : (t : Bool) (a : Advice) → mending t a ≢ ahead
renewal-ahead t idle e = let z : ◌≡◌ {A = ℕ} 0 1 = cc in omega arith
renewal-ahead true (stuck p) e = let z : ◌≡◌ {A = ℕ} 0 1 = cc in omega arith
renewal-ahead false (stuck p) e = let z : ◌≡◌ {A = ℕ} 0 1 = cc in omega arith
renewal-ahead t (make c) e = let z : ◌≡◌ {A = ℕ} 0 1 = cc in omega arith

whole-ahead : whole ≢ ahead
whole-ahead e = let z : ◌≡◌ {A = ℕ} 0 1 = cc in omega arith

single-ahead : single ≢ ahead
single-ahead e = let z : ◌≡◌ {A = ℕ} 0 1 = cc in omega arith

class-not-ahead : (h : History) → Legal h → (m : List ℕ) (s : State) → (reached h).power ≡ on m s → (p : ℕ) → 1 ≤ p → p ≤ h.pages
    → is_ahead (class_in (geometry_of (reached h).volume) p (state_view (geometry_of (reached h).volume) (reached h).volume s p)) ≡ false
class-not-ahead h legal m s e p lo hi =
    let v = (reached h).volume in
    let g = geometry_of v in
    let w = state_view g v s p in
    let y = facts.entries h legal m s e p lo hi in
    let o = facts.own h legal p lo hi in
    not-ahead (valid_image g p w.own) (image_lsn w.own) w.durable w.written
    (λ u. let q = o.not-above u in omega (arith, q, y.durable))

pub whole-is-said : WholeIsSaid
unfolding mend_of reaches_from
whole-is-said h legal m s e r p lo hi wh fresh-own =
    let v = (reached h).volume in
    let g = geometry_of v in
    let n = entry_of s.index p in
    let w = state_view g v s p in
    let i = tied h legal in
    let y = facts.entries h legal m s e p lo hi in
    let c : durable_count g v ≡ s.durable =
    rw i.holds.vol.geo (durable-count (present h) v (durable_of h) i.holds i.ns i.noted)
    ∙ sym (facts.counts h legal m s e).durable in
    let far = reaches g w s.durable p (margin g) in
    let wh' : (eqb n.durable 0 || (stands g v n p && far)) ≡ true = rw (← y.durable, ← y.slot, ← y.backup, c) at wh in
    let never = class-not-ahead h legal m s e p lo hi in
    by_cases (not (ring g) || eqb n.durable 0) (λ t. rw t refl)
    (λ t.
    let z = (or-neither (not (ring g)) (eqb n.durable 0) t).1 in
    let u : (stands g v n p && far) ≡ true = ⊎_elim (λ q. absurd (true-not-false q z)) (λ q. q)
    (or_cases (eqb n.durable 0) (stands g v n p && far) wh') in
    let st : stands g v n p ≡ true = and_left (stands g v n p) far u in
    let fa : far ≡ true = and_right (stands g v n p) far u in
    let b : not (stands g v n p) ≡ false = rw st in
    let d : (may_write g n && (not far || is_stale (class_in g p w))) ≡ false = and-fails (may_write g n) (rw (fa, fresh-own)) in
    rw (t, never, b, d, fa) refl)

pub never-ahead : NeverAhead
unfolding mend_of
never-ahead h legal m s e r p lo hi t =
    let v = (reached h).volume in
    let g = geometry_of v in
    let n = entry_of s.index p in
    let w = state_view g v s p in
    let far = reaches g w s.durable p (margin g) in
    let never = class-not-ahead h legal m s e p lo hi in
    by_cases (not (ring g) || eqb n.durable 0)
    (λ a. whole-ahead (rw a at t))
    (λ a. by_cases (not (stands g v n p))
    (λ b. renewal-ahead (held s p) (renew v m s r p false) (rw (a, never, b) at t))
    (λ b. by_cases (may_write g n && (not far || is_stale (class_in g p w)))
    (λ d. renewal-ahead (held s p) (renew v m s r p true) (rw (a, never, b, d) at t))
    (λ d. by_cases far (λ f. whole-ahead (rw (a, never, b, d, f) at t)) (λ f. single-ahead (rw (a, never, b, d, f) at t)))))

-- ME1 and ME3: the call that mending names is one of a renewal of upkeep's, so that it is done, and changes no text and no other frame.
use mathlib.Core.Path.{◌≡◌, refl, sym, ap, ◌∙◌, subst}
use mathlib.Core.Logic.{◌≢◌, ⊎_elim}
use mathlib.Core.Bool.{Bool, true, false, cond, not, ◌&&◌, ◌||◌}
use mathlib.Core.List.{List, [], ◌∷◌, ◌++◌}
use Prim.Native.Nat.{ℕ}
use native.Mathlib.Omega.{arith}
use lib.ListN.{length}
use lib.Dec.{eqb}
use borrow.Author.Tests.{eqb-false, le-ltb, not-false}
use Rattle.laws.proofs.Tables.{by_cases, and_left, or-neither, or_left, or_right, or_cases, true-not-false}
use Rattle.model.specs.Tables.{first_of}
use Rattle.model.specs.Geometry.{ring, geometry_of, item, slot_at}
use Rattle.model.specs.Item.{image_lsn, valid_image}
use Rattle.model.specs.Index.{entry_of}
use Rattle.model.specs.State.{frame_count, held, log_full, notes_full}
use Rattle.model.specs.Refusals.{page_dirty, load_rows}
use Rattle.model.specs.Repair.{state_view, class_in}
use Rattle.model.specs.Calls.{Call}
use Rattle.model.specs.AbstractLog.{AbstractLog, step_call}
use Rattle.model.specs.History.{on, perform, refused_in, step_log}
use Rattle.model.specs.Claim.{reached, log_of}
use Rattle.model.specs.declared.{state.Entry.Entry, state.State.State}
use Rattle.history.proofs.Logs.{last_of, replay-is, last-is}
use Rattle.history.proofs.Context.{geo, sized, entry-is, durable-last}
use Rattle.history.proofs.WellFormed.{state-ok}
use Rattle.history.proofs.Reached.{live}
use Rattle.upkeep_policy.specs.Upkeep.{Advice, idle, stuck, make, no_slot, free_slot, renew, same_call}
use Rattle.upkeep_policy.specs.UpkeepClaim.{extended, all_of}
use Rattle.upkeep_theory.proofs.Shape.{Renewal, renewal}
use Rattle.upkeep_theory.proofs.Followed.{same-call as same_sent}
use Rattle.upkeep_theory.proofs.Idle.{idle-rests, idle-opens}
use Rattle.upkeep_theory.proofs.Slots.{slot-left}
use Rattle.upkeep_theory.proofs.Pages.{Known}
use Rattle.upkeep_theory.proofs.Done.{renewal-done}
use Rattle.upkeep_theory.proofs.Along.{renewal-plain}
use Rattle.upkeep_theory.proofs.Text.{SameOf, log-more, renewal-text}
use Rattle.upkeep_theory.proofs.Frames.{renewal-stays}
use Rattle.mend_policy.specs.Mend.{stands, reaches, margin, may_write, is_ahead, is_stale, Mending, whole, single, lost, ahead, full, call, mending, mend_of}
use Rattle.mend_policy.specs.MendClaim.{entry_on, MendIsDone, MendHasRoom, StandsIsSafe, MendKeepsText, MendKeepsFrames}

-- ---- what names a call

pub no_whole : {A : Type 0} (c : Call) → whole ≡ call c → A
no_whole c e = let z : ◌≡◌ {A = ℕ} 0 1 = cc in absurd (omega arith)

pub no-single : {A : Type 0} (c : Call) → single ≡ call c → A
no-single c e = let z : ◌≡◌ {A = ℕ} 0 1 = cc in absurd (omega arith)

no-lost : {A : Type 0} (c : Call) → lost ≡ call c → A
no-lost c e = let z : ◌≡◌ {A = ℕ} 0 1 = cc in absurd (omega arith)

pub no-ahead : {A : Type 0} (c : Call) → ahead ≡ call c → A
no-ahead c e = let z : ◌≡◌ {A = ℕ} 0 1 = cc in absurd (omega arith)

no-full : {A : Type 0} (c : Call) → full ≡ call c → A
no-full c e = let z : ◌≡◌ {A = ℕ} 0 1 = cc in absurd (omega arith)

same-call : (a c : Call) → call a ≡ call c → a ≡ c
same-call a c e = cc

pub by-renewal : (t : Bool) (a : Advice) (c : Call) → mending t a ≡ call c → a ≡ make c
by-renewal t idle c e = no_whole c e
by-renewal true (stuck p) c e = no-full c e
by-renewal false (stuck p) c e = no-lost c e
by-renewal t (make a) c e = ap make (same-call a c e)

-- a call that is named, by a test
abbrev pub names : Mending → Call → Bool
names whole c = false
names single c = false
names lost c = false
names ahead c = false
names full c = false
names (call a) c = same_call a c

pub names-call : (x : Mending) (c : Call) → names x c ≡ true → x ≡ call c
names-call whole c t = absurd (true-not-false t refl)
names-call single c t = absurd (true-not-false t refl)
names-call lost c t = absurd (true-not-false t refl)
names-call ahead c t = absurd (true-not-false t refl)
names-call full c t = absurd (true-not-false t refl)
names-call (call a) c t = ap call (same_sent a c t)

-- on a ring, of a page with a durable change: M1's call, or M2's, which is of a page that stands and may be written
pub record Named (v m : List ℕ) (s : State) (r p : ℕ) (c : Call) : Type 0 where
  pub written : Bool
  pub turns : ring (geometry_of v) ≡ true
  pub some : (entry_of s.index p).durable ≢ 0
  pub stood : written ≡ true → stands (geometry_of v) v (entry_of s.index p) p ≡ true
  pub may : written ≡ true → may_write (geometry_of v) (entry_of s.index p) ≡ true
  pub is-renewal : Renewal v m s r p written c

pub named : (v m : List ℕ) (s : State) (r p : ℕ) (c : Call) → mend_of v m s r p ≡ call c → Named v m s r p c
unfolding mend_of
named v m s r p c e =
    let g = geometry_of v in
    let n = entry_of s.index p in
    let w = state_view g v s p in
    let far = reaches g w s.durable p (margin g) in
    by_cases (not (ring g) || eqb n.durable 0)
    (λ t. no_whole c (rw t at e))
    (λ t. by_cases (is_ahead (class_in g p w))
    (λ a. no-ahead c (rw (t, a) at e))
    (λ a.
    let q = or-neither (not (ring g)) (eqb n.durable 0) t in
    let turns : ring g ≡ true = by_cases (ring g) (λ y. y) (λ y. absurd (true-not-false (rw y refl) q.0)) in
    let some : n.durable ≢ 0 = eqb-false n.durable 0 q.1 in
    by_cases (not (stands g v n p))
    (λ b. record {
      written = false;
      turns = turns;
      some = some;
      stood = λ z. absurd (true-not-false z refl);
      may = λ z. absurd (true-not-false z refl);
      is-renewal = renewal v m s r p false c (by-renewal (held s p) (renew v m s r p false) c (rw (t, a, b) at e));
    })
    (λ b. by_cases (may_write g n && (not far || is_stale (class_in g p w)))
    (λ d. record {
      written = true;
      turns = turns;
      some = some;
      stood = λ z. not-false (stands g v n p) b;
      may = λ z. and_left (may_write g n) (not far || is_stale (class_in g p w)) d;
      is-renewal = renewal v m s r p true c (by-renewal (held s p) (renew v m s r p true) c (rw (t, a, b, d) at e));
    })
    (λ d. by_cases far (λ f. no_whole c (rw (t, a, b, d, f) at e)) (λ f. no-single c (rw (t, a, b, d, f) at e))))))

-- ---- ME1

pub mend-is-done : MendIsDone
mend-is-done h legal m s e r f rests p lo hi c n =
    let x = live h legal m s e in
    let y = named (reached h).volume m s r p c n in
    let rest = idle-rests (reached h).volume m s r y.turns rests in
    let some = y.some in
    let d : (entry_of s.index p).durable ≡ last_of p (log_of h).durable =
    ap (λ (z : Entry). z.durable) (entry-is x p lo hi) ∙ durable-last x p lo hi in
    let known : Known h.pages (log_of h).durable p = record { low = lo; high = hi; some = omega (arith, some, d) } in
    let z = renewal-done x rest.noting rest.pending p known r y.written c f y.is-renewal in
    record {
      plain = renewal-plain (reached h).volume m s r p y.written c y.is-renewal;
      done = z.taken;
      busy = z.busy;
    }

-- ---- ME3

pub mend-keeps-text : MendKeepsText
unfolding step_log
mend-keeps-text h legal m s e r p c n q lo hi =
    let x = live h legal m s e in
    let a = named (reached h).volume m s r p c n in
    let y = renewal-text x r p a.written c a.is-renewal q in
    let k = extended h (perform c ∷ []) in
    let l : log_of k ≡ cond (refused_in (reached h).power (reached h).volume c) (log_of h) (step_call (log_of h) c) =
    log-more h (perform c) in
    let l' : log_of k ≡ cond (refused_in (on m s) (reached h).volume c) (log_of h) (step_call (log_of h) c) = rw e at l in
    let z : SameOf q (all_of h) (all_of k) =
    subst (λ (b : AbstractLog). SameOf q (all_of h) (b.durable ++ b.pending)) (sym l') y in
    record {
      body = rw (replay-is q (all_of k), replay-is q (all_of h)) z.body;
      blank = rw (last-is q (all_of k), last-is q (all_of h)) z.blank;
    }

pub mend-keeps-frames : MendKeepsFrames
mend-keeps-frames h legal m s e r p c n f lo hi ne =
    let a = named (reached h).volume m s r p c n in
    renewal-stays (live h legal m s e) f lo hi r p a.written c ne a.is-renewal

-- ---- ME1: there is room

call-full : {A : Type 0} (c : Call) → call c ≡ full → A
call-full c e = let z : ◌≡◌ {A = ℕ} 0 1 = cc in absurd (omega arith)

whole-full : {A : Type 0} → whole ≡ full → A
whole-full e = let z : ◌≡◌ {A = ℕ} 0 1 = cc in absurd (omega arith)

single-full : {A : Type 0} → single ≡ full → A
single-full e = let z : ◌≡◌ {A = ℕ} 0 1 = cc in absurd (omega arith)

lost-full : {A : Type 0} → lost ≡ full → A
lost-full e = let z : ◌≡◌ {A = ℕ} 0 1 = cc in absurd (omega arith)

ahead-full : {A : Type 0} → ahead ≡ full → A
ahead-full e = let z : ◌≡◌ {A = ℕ} 0 1 = cc in absurd (omega arith)

module _ (v m : List ℕ) (s : State) (r p : ℕ) (slot : no_slot (geometry_of v) s ≡ false) (log : log_full (geometry_of v) v s ≡ false)
    (notes : notes_full (geometry_of v) v s ≡ false) where
  -- a renewal is stuck only at a page in no frame
  renewal-room : (written : Bool) → mending (held s p) (renew v m s r p written) ≢ full
  unfolding renew
  renewal-room written e = by_cases (held s p)
      (λ h. by_cases written
      (λ t. by_cases (page_dirty s p) (λ d. call-full _ (rw (h, t, d, notes) at e)) (λ d. call-full _ (rw (h, t, d, log) at e)))
      (λ t. call-full _ (rw (h, t, slot, notes) at e)))
      (λ h. by_cases (eqb (first_of (load_rows v m s p r)) 23) (λ d. lost-full (rw (h, d) at e)) (λ d. call-full _ (rw (h, d) at e)))

  mend-room : mend_of v m s r p ≢ full
  unfolding mend_of
  mend-room e =
      let g = geometry_of v in
      let n = entry_of s.index p in
      let w = state_view g v s p in
      let far = reaches g w s.durable p (margin g) in
      by_cases (not (ring g) || eqb n.durable 0)
      (λ t. whole-full (rw t at e))
      (λ t. by_cases (is_ahead (class_in g p w))
      (λ a. ahead-full (rw (t, a) at e))
      (λ a. by_cases (not (stands g v n p))
      (λ b. renewal-room false (rw (t, a, b) at e))
      (λ b. by_cases (may_write g n && (not far || is_stale (class_in g p w)))
      (λ d. renewal-room true (rw (t, a, b, d) at e))
      (λ d. by_cases far (λ f. whole-full (rw (t, a, b, d, f) at e)) (λ f. single-full (rw (t, a, b, d, f) at e))))))

plain-room : (v m : List ℕ) (s : State) (r p : ℕ) → ring (geometry_of v) ≡ false → mend_of v m s r p ≢ full
unfolding mend_of
plain-room v m s r p t e = whole-full (rw t at e)

pub mend-has-room : MendHasRoom
mend-has-room h legal m s e r rests more two d n p f =
    let v = (reached h).volume in
    let x = live h legal m s e in
    by_cases (ring (geometry_of v))
    (λ t.
    let o = idle-opens v m s r t (rw (geo x) two) d n rests in
    let q = slot-left v (frame_count (length m)) s (state-ok x) (rw (geo x) (sized x).p-high) x.al.index.size (rw (geo x) more) in
    mend-room v m s r p (le-ltb (geometry_of v).slots (free_slot (geometry_of v) s) q.1) o.log o.notes f)
    (λ t. plain-room v m s r p t f)

-- ---- ME6

pub stands-is-safe : StandsIsSafe
stands-is-safe h legal f z p lo hi =
    let v = (reached h).volume in
    let e = entry_on v p in
    let copy = valid_image (geometry_of v) p (item (geometry_of v) v (slot_at e.slot))
    && eqb (image_lsn (item (geometry_of v) v (slot_at e.slot))) e.backup in
    ⊎_elim (λ y. or_left _ y) (λ y. or_right (eqb e.slot 0) (or_left _ y)) (or_cases (eqb e.slot 0) copy (f p lo hi))

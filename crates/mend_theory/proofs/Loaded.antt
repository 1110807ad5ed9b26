-- ME2: after mending's Load upkeep is still idle, since its tests see no frame; and mending goes on with the page in a
-- frame. Where it is to be written its class is not Good, so that the Load has left the frame dirty.
use mathlib.Core.Path.{◌≡◌, refl, sym, ap, ◌∙◌}
use mathlib.Core.Logic.{◌≢◌}
use mathlib.Core.Bool.{Bool, true, false, cond, not, ◌&&◌, ◌||◌}
use mathlib.Core.List.{List, [], ◌∷◌}
use Prim.Native.Nat.{ℕ, zero, suc, ◌+◌, ◌-◌, ◌<◌}
use native.Mathlib.Nat.{le_of_suc-le-suc}
use native.Mathlib.Omega.{arith}
use lib.Dec.{eqb, leb, ltb}
use lib.ListN.{length, set, get_or}
use lib.Seq.{get_or-set_same}
use borrow.Author.Tests.{eqb-true, eqb-false, eq-eqb, ltb-false, le-ltb}
use Rattle.laws.proofs.Tables.{by_cases, and_right, or-neither, true-not-false}
use Rattle.model.specs.Tables.{first_of}
use Rattle.model.specs.Geometry.{ring, geometry_of}
use Rattle.model.specs.Item.{image_lsn, valid_image}
use Rattle.model.specs.Index.{entry_of}
use Rattle.model.specs.State.{empty_frame, record_needed, notes_full, holder_from, holder, held}
use Rattle.model.specs.Refusals.{page_dirty, load_rows}
use Rattle.model.specs.Repair.{class_of, state_view, class_in, walk_from, is_below}
use Rattle.model.specs.Outcome.{StoredItem, volume_after, decided}
use Rattle.model.specs.Effects.{is_good, load_done}
use Rattle.model.specs.Calls.{Call, outcome_of, rows_of, no_payload, is_call}
use Rattle.model.specs.AbstractLog.{Logged}
use Rattle.model.specs.History.{on, perform}
use Rattle.model.specs.Claim.{reached}
use Rattle.model.specs.declared.{geometry.Geometry.Geometry, state.Frame.Frame, state.State.State, answer.Class.Class}
use Rattle.model.specs.declared.answer.Class.TheVariants.{Good, Behind, Stale, Failed, Ahead}
use Rattle.model.specs.declared.command.Command.TheVariants.{Load}
use Rattle.history.proofs.Context.{Ctx}
use Rattle.history.proofs.Loads.{loads as loaded}
use Rattle.history.proofs.Reached.{live}
use Rattle.history.proofs.Refusals.{call-refusal}
use Rattle.upkeep_policy.specs.Upkeep.{idle, note_ahead, log_ahead, reserve, first_needed_note, first_needed_log, no_slot, renew, upkeep_of}
use Rattle.upkeep_policy.specs.UpkeepClaim.{extended}
use Rattle.upkeep_theory.proofs.Idle.{renew-busy, idle-closed}
use Rattle.upkeep_theory.proofs.Load.{moved, moved-held}
use Rattle.upkeep_theory.proofs.Shape.{Renewal, loads, backs, writes, puts}
use Rattle.mend_policy.specs.Mend.{stands, reaches_from, reaches, margin, may_write, is_ahead, is_stale, call, mending, mend_of}
use Rattle.mend_policy.specs.MendClaim.{still_goes_on, LoadGoesOn}
use Rattle.mend_theory.proofs.Named.{no_whole, no-single, no-ahead, named, mend-is-done}
use Rattle.mend_theory.proofs.Backed.{call-volume}
use Rattle.mend_theory.proofs.Rests.{called}

-- ---- upkeep's tests see no frame

module _ (v m : List ℕ) (s : State) (r p : ℕ) (d : Bool) where
  note-same : first_needed_note (geometry_of v) v (moved s p r d) ≡ first_needed_note (geometry_of v) v s
  unfolding first_needed_note note_ahead
  note-same = refl

  log-same : first_needed_log (geometry_of v) v (moved s p r d) ≡ first_needed_log (geometry_of v) v s
  unfolding first_needed_log log_ahead record_needed
  log-same = refl

  idle-stays : upkeep_of v m s r ≡ idle → (m' : List ℕ) → upkeep_of v m' (moved s p r d) r ≡ idle
  unfolding upkeep_of
  idle-stays e m' =
      let g = geometry_of v in
      let c = idle-closed v m s r e in
      let b : ltb 0 s.pending ≡ false = le-ltb 0 s.pending (omega (arith, c.1)) in
      by_cases (ring g)
      (λ o. by_cases (leb (first_needed_note g v s) 2)
      (λ t. absurd (renew-busy v m s r _ _ (rw (c.0, b, o, t) at e)))
      (λ t. by_cases (leb (first_needed_log g v s) (reserve g))
      (λ u. absurd (renew-busy v m s r _ _ (rw (c.0, b, o, t, u) at e)))
      (λ u. rw (c.0, b, o, note-same, t, log-same, u) refl)))
      (λ o. rw (c.0, b, o) refl)

-- ---- the frame

-- a page that no frame holds is found where it is put
holder-there : (i p j : ℕ) (fs : List Frame) (d : Bool) → holder_from i p fs ≡ 0 → j < length fs
    → holder_from i p (set fs j (record { page = p; dirty = d })) ≡ suc (i + j)
unfolding holder_from
holder-there i p j [] d z b = absurd (omega arith)
holder-there i p zero (f ∷ fs) d z b = rw (eq-eqb p p refl) (omega arith)
holder-there i p (suc j) (f ∷ fs) d z b = by_cases (eqb f.page p)
    (λ t. absurd (let y : suc i ≡ 0 = rw t at z in omega arith))
    (λ t. rw t (holder-there (suc i) p j fs d (rw t at z) (le_of_suc-le-suc b) ∙ omega arith))

module _ {C : Type 0} {g : Geometry} {v m : List ℕ} {past : List StoredItem} {s : State} {k w : List Logged}
    (x : Ctx C g v m past s k w) (p r : ℕ) (e : first_of (load_rows v m s p r) ≡ 0) (away : held s p ≡ false) where
  moved-dirty : (d : Bool) → page_dirty (moved s p r d) p ≡ d
  moved-dirty d =
      let l = loaded x p r e in
      let b : r - 1 < length s.frames =
      omega (arith, l.frame-low, l.frame-high, x.al.memory.high, x.al.frames.size) in
      let z : holder s p ≡ 0 = omega (arith, ltb-false 0 (holder s p) away) in
      let h : holder (moved s p r d) p - 1 ≡ r - 1 = omega (arith, holder-there 0 p (r - 1) s.frames d z b) in
      ap (λ (j : ℕ). (get_or (moved s p r d).frames j empty_frame).dirty) h
      ∙ ap (λ (f : Frame). f.dirty) (get_or-set_same s.frames (r - 1) (record { page = p; dirty = d }) empty_frame b)

  load-state : ((outcome_of (Load p r, no_payload) v m s).state
      ≡ moved s p r (not (is_good (class_in (geometry_of v) p (state_view (geometry_of v) v s p)))))
      × (volume_after v (outcome_of (Load p r, no_payload) v m s).stored ≡ v)
  unfolding decided load_done volume_after
  load-state = rw e (refl, refl)

-- ---- a Good page is in reach, and is not Stale

own-stops : (d : ℕ) (log : ℕ → List ℕ) (f p own : ℕ) → d ≢ 0 → own ≡ d → is_below (walk_from d log f p own 0 d).stop ≡ false
unfolding walk_from
own-stops zero log f p own ne e = absurd (ne refl)
own-stops (suc n) log f p own ne e = rw (eq-eqb own (suc n) e) refl

pub good-not-stale : (c : Class) → is_good c ≡ true → is_stale c ≡ false
good-not-stale Good t = refl
good-not-stale Behind t = refl
good-not-stale Stale t = absurd (true-not-false t refl)
good-not-stale Failed t = refl
good-not-stale Ahead t = refl

pub good-is : (valid : Bool) (n d w : ℕ) → is_good (class_of valid n d w) ≡ true → (valid ≡ true) × (n ≡ d)
unfolding class_of
good-is false n d w t = absurd (true-not-false t refl)
good-is true n d w t = by_cases (eqb n d) (λ u. (refl, eqb-true n d u))
    (λ u. absurd (by_cases (ltb d n) (λ y. true-not-false (rw (u, y) at t) refl)
    (λ y. by_cases (ltb n w) (λ q. true-not-false (rw (u, y, q) at t) refl) (λ q. true-not-false (rw (u, y, q) at t) refl))))

module _ (g : Geometry) (v : List ℕ) (s : State) (p : ℕ) (some : (entry_of s.index p).durable ≢ 0)
    (t : is_good (class_in g p (state_view g v s p)) ≡ true) where
  pub good-reaches : (i : ℕ) → reaches g (state_view g v s p) s.durable p i ≡ true
  unfolding reaches_from
  good-reaches i =
      let w = state_view g v s p in
      let y = good-is (valid_image g p w.own) (image_lsn w.own) w.durable w.written t in
      let o : cond (valid_image g p w.own) (image_lsn w.own) 0 ≡ w.durable = rw y.0 y.1 in
      rw (own-stops w.durable w.log _ p _ some o) refl

-- ---- mending goes on

module _ (v m' : List ℕ) (s' : State) (r p : ℕ) (framed : held s' p ≡ true) where
  backs-on : still_goes_on p (mending (held s' p) (renew v m' s' r p false)) ≡ true
  unfolding renew
  backs-on = rw framed (by_cases (no_slot (geometry_of v) s' || notes_full (geometry_of v) v s') (λ f. rw f) (λ f. rw f))

  writes-on : page_dirty s' p ≡ true → still_goes_on p (mending (held s' p) (renew v m' s' r p true)) ≡ true
  unfolding renew
  writes-on d = rw (framed, d) (by_cases (notes_full (geometry_of v) v s') (λ f. rw f) (λ f. rw f (eq-eqb p p refl)))

module _ (v m m' : List ℕ) (s : State) (r p : ℕ) (c : Call) (e : mend_of v m s r p ≡ call c) where
  abbrev left : Bool
  left = not (is_good (class_in (geometry_of v) p (state_view (geometry_of v) v s p)))

  goes_on : held (moved s p r left) p ≡ true → page_dirty (moved s p r left) p ≡ left
      → still_goes_on p (mend_of v m' (moved s p r left) r p) ≡ true
  unfolding mend_of
  goes_on framed dirty =
      let g = geometry_of v in
      let n = entry_of s.index p in
      let w = state_view g v s p in
      let far = reaches g w s.durable p (margin g) in
      by_cases (not (ring g) || eqb n.durable 0)
      (λ t. no_whole c (rw t at e))
      (λ t. by_cases (is_ahead (class_in g p w))
      (λ a. no-ahead c (rw (t, a) at e))
      (λ a. by_cases (not (stands g v n p))
      (λ b. rw (t, a, b) (backs-on v m' (moved s p r left) r p framed))
      (λ b. by_cases (may_write g n && (not far || is_stale (class_in g p w)))
      (λ d. rw (t, a, b, d) (writes-on v m' (moved s p r left) r p framed (dirty ∙ is-dirty t d)))
      (λ d. by_cases far (λ f. no_whole c (rw (t, a, b, d, f) at e)) (λ f. no-single c (rw (t, a, b, d, f) at e))))))
    where
      is-dirty : (not (ring (geometry_of v)) || eqb (entry_of s.index p).durable 0) ≡ false
          → (may_write (geometry_of v) (entry_of s.index p)
          && (not (reaches (geometry_of v) (state_view (geometry_of v) v s p) s.durable p (margin (geometry_of v)))
          || is_stale (class_in (geometry_of v) p (state_view (geometry_of v) v s p)))) ≡ true
          → left ≡ true
      is-dirty t d = by_cases (is_good (class_in (geometry_of v) p (state_view (geometry_of v) v s p)))
          (λ u.
          let some = eqb-false (entry_of s.index p).durable 0 (or-neither (not (ring (geometry_of v))) _ t).1 in
          let y = and_right (may_write (geometry_of v) (entry_of s.index p)) _ d in
          absurd (true-not-false y (rw (good-reaches (geometry_of v) v s p some u (margin (geometry_of v)), good-not-stale _ u))))
          (λ u. rw u)

on-memory : (m m' : List ℕ) (s s' : State) → on m s ≡ on m' s' → m ≡ m'
on-memory m m' s s' e = cc

on-state : (m m' : List ℕ) (s s' : State) → on m s ≡ on m' s' → s ≡ s'
on-state m m' s s' e = cc

-- a Load is named only of a page in no frame
record Brings (s : State) (r p : ℕ) (c : Call) : Type 0 where
  away : held s p ≡ false
  is : c ≡ (Load p r, no_payload)

brings : (v m : List ℕ) (s : State) (r p : ℕ) (written : Bool) (c : Call) → Renewal v m s r p written c → is_call 4 c ≡ true
    → Brings s r p c
brings v m s r p written c (loads h n e) t = record { away = h; is = e }
brings v m s r p written c (backs h u b n e) t = absurd (true-not-false (rw e at t) refl)
brings v m s r p written c (writes h u d n e) t = absurd (true-not-false (rw e at t) refl)
brings v m s r p written c (puts h u d n e) t = absurd (true-not-false (rw e at t) refl)

pub load-goes-on : LoadGoesOn
load-goes-on h legal m s e r fr rests p lo hi c n is m' s' e' =
    let v = (reached h).volume in
    let x = live h legal m s e in
    let a = named v m s r p c n in
    let b = brings v m s r p a.written c a.is-renewal is in
    let rows : first_of (rows_of c v m s) ≡ 0 =
    sym (call-refusal c v m s) ∙ (mend-is-done h legal m s e r fr rests p lo hi c n).done in
    let z : first_of (load_rows v m s p r) ≡ 0 = rw b.is at rows in
    let y = load-state x p r z b.away in
    let d = not (is_good (class_in (geometry_of v) p (state_view (geometry_of v) v s p))) in
    let k = extended h (perform c ∷ []) in
    let st : moved s p r d ≡ s' = sym y.0 ∙ (ap (λ (q : Call). (outcome_of q v m s).state) (sym b.is)
    ∙ on-state _ m' _ s' (sym (called h m s e c) ∙ e')) in
    let vo : (reached k).volume ≡ v = call-volume h m s e c
    ∙ (ap (λ (q : Call). volume_after v (outcome_of q v m s).stored) b.is ∙ y.1) in
    rw (vo, ← st) (
      idle-stays v m s r p d rests m',
      goes_on v m m' s r p c n (moved-held x p r d z) (moved-dirty x p r z b.away d),
    )

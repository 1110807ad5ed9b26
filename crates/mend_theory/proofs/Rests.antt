-- ME1: mending never locks. After its call T2 of upkeep applies: no more than W pages are written, and the numbers left
-- are the same.
use mathlib.Core.Path.{◌≡◌, refl, sym, ap, ◌∙◌, subst}
use mathlib.Core.Logic.{◌⊎◌, inl, inr, ⊎_elim}
use mathlib.Core.Bool.{Bool, true, false, not, ◌&&◌, ◌||◌}
use mathlib.Core.List.{List, [], ◌∷◌}
use Prim.Native.Nat.{ℕ, suc, ◌≤◌}
use native.Mathlib.Omega.{arith}
use lib.ListN.{length}
use lib.Dec.{eqb}
use Rattle.laws.proofs.Tables.{or_cases, true-not-false}
use Rattle.model.specs.Tables.{first_of, within}
use Rattle.model.specs.Geometry.{geometry_of}
use Rattle.model.specs.Item.{is_written}
use Rattle.model.specs.Index.{entry_row, entry_of}
use Rattle.model.specs.State.{frame_count, note_pending, holder}
use Rattle.model.specs.Outcome.{StoredItem}
use Rattle.model.specs.Effects.{with_frame}
use Rattle.model.specs.Calls.{Call, outcome_of, rows_of}
use Rattle.model.specs.AbstractLog.{Logged}
use Rattle.model.specs.History.{Power, on, Machine, Event, perform, call_in, step, run}
use Rattle.model.specs.Claim.{History, Legal, fresh, reached}
use Rattle.model.specs.declared.{geometry.Geometry.Geometry}
use Rattle.model.specs.declared.{state.State.State}
use Rattle.history.proofs.Context.{Ctx, geo}
use Rattle.history.proofs.Reached.{live}
use Rattle.history.proofs.Refusals.{call-refusal}
use Rattle.upkeep_policy.specs.Upkeep.{idle, upkeep_of, free_slot, follows, advice_of, cuts_after, written_pages, pending_written}
use Rattle.upkeep_policy.specs.Upkeep.{ever_written, in_bounds, disciplined}
use Rattle.upkeep_policy.specs.UpkeepClaim.{extended, Roomy}
use Rattle.upkeep_theory.proofs.Counting.{count-le}
use Rattle.upkeep_theory.proofs.Fewer.{few-load, few-put, few-backup, few-write}
use Rattle.upkeep_theory.proofs.Followed.{Bounded, bounded, FrameIn, both}
use Rattle.upkeep_theory.proofs.Idle.{idle-closed}
use Rattle.upkeep_theory.proofs.IdleComes.{idle-comes}
use Rattle.upkeep_theory.proofs.Near.{wrote_in, written-pages}
use Rattle.upkeep_theory.proofs.Outcomes.{load-out, put-out, write-out, backup-out}
use Rattle.upkeep_theory.proofs.Shape.{Renewal, loads, backs, writes, puts}
use Rattle.upkeep_theory.proofs.StateCounts.{appended-counts}
use Rattle.upkeep_theory.proofs.Text.{run-append}
use Rattle.upkeep_theory.proofs.Written.{entry-written}
use Rattle.mend_policy.specs.Mend.{twofold, call, mend_of}
use Rattle.mend_policy.specs.MendClaim.{MendRests}
use Rattle.mend_theory.proofs.Named.{named, mend-is-done}
use Rattle.mend_theory.proofs.Follows.{mend-follows, written-at-most}
use Rattle.model.specs.Types.{PendingNote, None, Some}

-- ---- at the end of a disciplined history

pub disciplined-end : (r W C : ℕ) (es : List Event) (w : Machine) (cuts : ℕ) → disciplined r W C w cuts es ≡ true
    → (n : ℕ) × (in_bounds r W C (run w es) n ≡ true)
unfolding disciplined run
disciplined-end r W C [] w cuts h = (cuts, h)
disciplined-end r W C (a ∷ es) w cuts h =
    let q = both (in_bounds r W C w cuts && follows (advice_of r w) a)
    (disciplined r W C (step w a) (cuts_after r w cuts a) es) h in
    disciplined-end r W C es (step w a) (cuts_after r w cuts a) q.1

pub record Ends (h : History) (r W : ℕ) (m : List ℕ) : Type 0 where
  pub frame : within (frame_count (length m)) r ≡ true
  pub written : written_pages (reached h).volume ≤ W

pub ends : (h : History) (r W C : ℕ) → disciplined r W C (fresh h) 0 h.events ≡ true
    → (m : List ℕ) (s : State) → (reached h).power ≡ on m s → Ends h r W m
unfolding reached
ends h r W C test m s e =
    let q = disciplined-end r W C h.events (fresh h) 0 test in
    let b : Bounded r W C (reached h) q.0 = bounded r W C (reached h) q.0 q.1 in
    record { frame = subst (λ (y : Power). FrameIn r y) e b.frame; written = b.written }

-- ---- the state after mending's call

pub record After (s s' : State) (W : ℕ) : Type 0 where
  pub few : ever_written s' ≤ W
  pub durable : s'.durable ≡ s.durable
  pub notes : s'.notes ≡ s.notes

module _ {C : Type 0} {g : Geometry} {v m : List ℕ} {past : List StoredItem} {s : State} {k w : List Logged}
    (x : Ctx C g v m past s k w) where
  -- where no note is owed the state counts what the volume does
  pub rest-few : note_pending s.note ≡ false → ever_written s ≤ written_pages v
  unfolding ever_written
  rest-few quiet =
      let c = count-le 64 (λ i. not (eqb (entry_row s.index i).written 0) || pending_written s.note (suc i))
      (wrote_in x.ns) (λ i b t. ⊎_elim (λ u. rw (entry-written x i b) at u) (λ u. absurd (none s.note quiet i u))
      (or_cases (not (eqb (entry_row s.index i).written 0)) (pending_written s.note (suc i)) t)) in
      omega (arith, c, written-pages g v k x.hs x.ns x.no (geo x))
    where
      none : (y : PendingNote) → note_pending y ≡ false → (i : ℕ) → pending_written y (suc i) ≡ true → ⊥
      none None q i t = true-not-false t refl
      none (Some n) q i t = true-not-false refl q

  module _ (l2 : 2 ≤ g.records) (n2 : 2 ≤ g.notes) (r p : ℕ) (written : Bool) (W : ℕ) (few : ever_written s ≤ W) where
    renewal-after : (c : Call) → Renewal v m s r p written c → first_of (rows_of c v m s) ≡ 0
        → (written ≡ true → (not (eqb (entry_of s.index p).written 0) ≡ true) ⊎ (ever_written (outcome_of c v m s).state ≤ W))
        → After s (outcome_of c v m s).state W
    renewal-after c (loads h n e) z f =
        let o = load-out x l2 n2 p r (rw e at z) in
        rw (e, o.0.1) (record { few = omega (arith, few-load s (with_frame s r p o.0.0), few); durable = refl; notes = refl })
    renewal-after c (backs h t b n e) z f =
        let o = backup-out x l2 n2 p (free_slot (geometry_of v) s) (rw e at z) in
        let u : is_written o.noting ≡ false = rw o.kind-is in
        rw (e, o.state-is) (record { few = omega (arith, few-backup s o.frames o.noting u, few); durable = refl; notes = refl })
    renewal-after c (writes h t d n e) z f =
        let o = write-out x l2 n2 p (rw e at z) d in
        record {
          few = ⊎_elim
              (λ (u : not (eqb (entry_of s.index p).written 0) ≡ true).
              rw (e, o.state-is) (omega (arith, few-write s o.frames o.noting (rw o.page-is u), few)))
              (λ u. u) (f t);
          durable = rw (e, o.state-is);
          notes = rw (e, o.state-is);
        }
    renewal-after c (puts h t d n e) z f =
        let o = put-out x l2 n2 p (rw e at z) in
        let q = appended-counts s p (holder s p) in
        rw (e, o.0) (record { few = omega (arith, few-put s p (holder s p), few); durable = q.1; notes = q.0 })

-- ---- the claim

-- the machine after a call
pub called : (h : History) (m : List ℕ) (s : State) → (reached h).power ≡ on m s → (c : Call)
    → (reached (extended h (perform c ∷ []))).power
    ≡ on (outcome_of c (reached h).volume m s).memory (outcome_of c (reached h).volume m s).state
unfolding reached run step
called h m s e c =
    ap (λ (u : Machine). u.power) (run-append (fresh h) h.events (perform c ∷ []))
    ∙ ap (λ (y : Power). (call_in y (reached h).volume c (reached h).past).power) e

-- the state after mending's call is one that T2 takes
pub mended-after : (h : History) → Legal h → (r W C : ℕ) → Roomy h W C
    → (twofold (geometry_of (reached h).volume) ≡ true → h.pages ≤ W)
    → disciplined r W C (fresh h) 0 h.events ≡ true
    → (m : List ℕ) (s : State) → (reached h).power ≡ on m s → upkeep_of (reached h).volume m s r ≡ idle
    → (p : ℕ) → 1 ≤ p → p ≤ h.pages → (c : Call) → mend_of (reached h).volume m s r p ≡ call c
    → After s (outcome_of c (reached h).volume m s).state W
mended-after h legal r W C roomy more test m s e rests p lo hi c n =
    let v = (reached h).volume in
    let x = live h legal m s e in
    let a = named v m s r p c n in
    let at = ends h r W C test m s e in
    let y = mend-follows h legal r W C test m s e rests p lo hi c n in
    let done = (mend-is-done h legal m s e r at.frame rests p lo hi c n).done in
    let few : ever_written s ≤ W = omega (arith, rest-few x (idle-closed v m s r rests).0, at.written) in
    let k = extended h (perform c ∷ []) in
    renewal-after x roomy.turns (omega (arith, roomy.notes)) r p a.written W few c a.is-renewal
    (sym (call-refusal c v m s) ∙ done)
    (λ u. ⊎_elim (λ q. inl q)
    (λ q. inr (omega (arith, more q, (written-at-most k y.legal).1 _ _ (called h m s e c))))
    (or_cases (not (eqb (entry_of s.index p).written 0)) (twofold (geometry_of v)) (a.may u)))

pub mend-rests : MendRests
mend-rests h legal r W C roomy more z test m s e rests nums p lo hi c n =
    let y = mend-follows h legal r W C test m s e rests p lo hi c n in
    let t = mended-after h legal r W C roomy more test m s e rests p lo hi c n in
    idle-comes (extended h (perform c ∷ [])) y.legal r W C
    (record {
      second = roomy.second;
      turns = roomy.turns;
      slots = roomy.slots;
      notes = roomy.notes;
      reserve = roomy.reserve;
    })
    (y.uncarried z) y.disciplined _ _ (called h m s e c) t.few
    (record { durable = rw t.durable nums.durable; notes = rw t.notes nums.notes })

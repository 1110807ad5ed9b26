-- T2's invariant along a history whose user keeps the discipline: it holds in every machine that is reached.
use mathlib.Core.Path.{◌≡◌, refl, sym, ◌∙◌, subst}
use mathlib.Core.Logic.{◌≢◌, ◌⊎◌}
use mathlib.Core.Bool.{Bool, true, false, cond}
use mathlib.Core.List.{List, [], ◌∷◌}
use Prim.Native.Nat.{ℕ, ◌+◌, ◌≤◌}
use native.Mathlib.Nat.{add-zero}
use native.Mathlib.Numerals.{add-one}
use native.Mathlib.Omega.{arith}
use lib.Dec.{eqb, leb}
use borrow.Author.Tests.{eqb-true, eqb-false, leb-true}
use Rattle.laws.proofs.Tables.{by_cases, or-neither, and_left, and_right, true-not-false}
use Rattle.model.specs.Tables.{first_of}
use Rattle.model.specs.Geometry.{carry_tag, with_tag, ring, geometry_of, store}
use Rattle.model.specs.Outcome.{StoredItem, volume_after, decided}
use Rattle.model.specs.Calls.{outcome_of, Call, no_payload}
use Rattle.model.specs.Restart.{restart_state, restart_of}
use Rattle.model.specs.declared.command.Command.TheVariants.{Note}
use Rattle.model.specs.Carry.{carries, starts_in}
use Rattle.model.specs.AbstractLog.{AbstractLog, Left, old, new, torn}
use Rattle.model.specs.History.{Power, off, on, Machine, Event, restart, perform, crash, crash_in, damage, restarted}
use Rattle.model.specs.History.{left_volume, payload_fits, torn_fits, allowed, step, all_allowed, run, log_after, step_log}
use Rattle.model.specs.History.{is_start_carry}
use Rattle.model.specs.Refusals.{restart_rows}
use Rattle.model.specs.declared.{geometry.Geometry.Geometry, state.State.State}
use Rattle.history.proofs.Context.{Ctx, geo}
use Rattle.history.proofs.Inv.{Inv}
use Rattle.history.proofs.Steps.{context, all-steps}
use Rattle.upkeep_policy.specs.Upkeep.{Advice, idle, stuck, make, reserve, written_pages, upkeep_of, is_idle, advice_in}
use Rattle.upkeep_policy.specs.Upkeep.{cuts_in, cuts_after}
use Rattle.upkeep_theory.proofs.Followed.{Follows, FollowsIn, Bounded, Followed, both}
use Rattle.upkeep_theory.proofs.Shape.{Renewal, loads, backs as backing, writes as writing, puts, Advised, notes}
use Rattle.upkeep_theory.proofs.Shape.{forces, by_note, by_log, advised}
use Rattle.upkeep_theory.proofs.Cut.{cut-here, cut-torn}
use Rattle.history.proofs.Calls.{inv-call}
use Rattle.upkeep_theory.proofs.Step.{user-step, idle-reset}
use Rattle.upkeep_theory.proofs.Advise.{advise-step}
use Rattle.upkeep_theory.proofs.Near.{written-pages}
use Rattle.upkeep_theory.proofs.Tidy.{Tidy}
use Rattle.upkeep_theory.proofs.Damage.{TidyAt, hurt}
use Rattle.upkeep_theory.proofs.Caps.{cap-of, note-pages, note-first}

-- what holds in a machine that a kept history reaches
pub record FollowedAt (g : Geometry) (r W cap : ℕ) (w : Machine) (b : AbstractLog) : Type 0 where
  pub cuts : ℕ
  pub bounded : Bounded r W cap w cuts
  pub inv : Inv ⊥ g w.volume w.past w.power b
  pub tidy : TidyAt g w.power w.volume cuts

-- no advised call carries
pub renewal-plain : (v m : List ℕ) (s : State) (r p : ℕ) (written : Bool) (c : Call) → Renewal v m s r p written c
    → carries c ≡ false
renewal-plain v m s r p written c (loads h n e) = rw e
renewal-plain v m s r p written c (backing h t b n e) = rw e
renewal-plain v m s r p written c (writing h t d n e) = rw e
renewal-plain v m s r p written c (puts h t d n e) = rw e

pub advised-plain : (v m : List ℕ) (s : State) (r : ℕ) (c : Call) → Advised v m s r c → carries c ≡ false
advised-plain v m s r c (notes a e) = rw e
advised-plain v m s r c (forces a b e) = rw e
advised-plain v m s r c (by_note a q o i lo hi y n) = renewal-plain v m s r _ _ c n
advised-plain v m s r c (by_log a q o n1 n2 i lo hi y fi n) = renewal-plain v m s r _ _ c n

module _ (g : Geometry) (turns : ring g ≡ true) (n2 : 2 ≤ g.notes) (r W cap : ℕ) (room : g.pages + W + 2 ≤ g.notes)
    (reserves : (W ≡ 0) ⊎ (W + cap ≤ reserve g)) where
  -- a call, by the advice
  call-tidy : (v m : List ℕ) (past : List StoredItem) (s : State) (b : AbstractLog)
      (i : Inv ⊥ g v past (on m s) b) (cuts : ℕ)
      → Tidy g v s cuts → written_pages v ≤ W → (written_pages v ≢ 0 → cuts ≤ cap) → (c : Call)
      → written_pages (volume_after v (outcome_of c v m s).stored) ≤ W
      → (a : Advice) → upkeep_of v m s r ≡ a → Follows a c
      → Tidy g (volume_after v (outcome_of c v m s).stored) (outcome_of c v m s).state (cond (is_idle a) 0 cuts)
  call-tidy v m past s b i cuts t few h c next (idle) e f = user-step (context g v m past s b i) turns n2 r e 0 c f
  call-tidy v m past s b i cuts t few h c next (stuck p) e f = absurd f
  call-tidy v m past s b i cuts t few h c next (make a) e f =
      let x = context g v m past s b i in
      let wp = written-pages g v b.durable x.hs x.ns x.no (geo x) in
      (advise-step x turns n2 W room (omega (arith, wp)) (λ n q.
      let y : c ≡ (Note, no_payload) = let z = note-first x n q r in cc in
      let u : written_pages (volume_after v (outcome_of (Note, no_payload) v m s).stored) ≤ W = rw y at next in
      omega (arith, note-pages x n q)) cuts t (cap-of x W (reserve g) cap cuts reserves few h) r c
      (advised v m s r c (rw f e))).0

  abbrev At : Power → List ℕ → ℕ → Type 0
  At x v cuts = TidyAt g x v cuts

  l2 : 2 ≤ g.records
  l2 = leb-true 2 g.records (and_right (eqb g.tag 0x32) (leb 2 g.records) turns)

  -- what a Restart gives, refused or not
  restart-at : (v m : List ℕ) (cuts : ℕ) → Tidy g v (restart_state v) cuts → At (restarted v m) v cuts
  unfolding restart_of decided
  restart-at v m cuts t = by_cases (eqb (first_of (restart_rows v m)) 0) (λ e. rw e t) (λ e. rw e t)

  module _ (v m : List ℕ) (past : List StoredItem) (s : State) (b : AbstractLog)
      (i : Inv ⊥ g v past (on m s) b) (cuts : ℕ)
      (t : Tidy g v s cuts) (few : written_pages v ≤ W) (h : written_pages v ≢ 0 → cuts ≤ cap) where
    x : Ctx ⊥ g v m past s b.durable b.pending
    x = context g v m past s b i

    -- the count starts again where upkeep is idle
    base : (a : Advice) → upkeep_of v m s r ≡ a → Tidy g v s (cond (is_idle a) 0 cuts)
    base idle e = (idle-reset x turns n2 r e 0).tidy
    base (stuck p) e = t
    base (make c) e = t

    abbrev since : ℕ
    since = cond (is_idle (upkeep_of v m s r)) 0 cuts

    cut-now : Tidy g v (restart_state v) (since + 1)
    cut-now =
        subst (λ (n : ℕ). Tidy g v (restart_state v) n) (sym (add-one since))
        (cut-here x turns n2 since (base (upkeep_of v m s r) refl))

    plain : (c : Call) (a : Advice) → upkeep_of v m s r ≡ a → Follows a c → carries c ≡ false
    plain c idle e f = f
    plain c (stuck p) e f = absurd f
    plain c (make a) e f = rw f (advised-plain v m s r a (advised v m s r a e))

    call-cut : (c : Call) (l : Left) → Follows (upkeep_of v m s r) c → payload_fits c ≡ true
        → torn_fits (geometry_of v) (outcome_of c v m s).stored l ≡ true
        → written_pages (left_volume v (outcome_of c v m s).stored l) ≤ W
        → Tidy g (left_volume v (outcome_of c v m s).stored l)
        (restart_state (left_volume v (outcome_of c v m s).stored l)) (since + 1)
    call-cut c old f p u next = cut-now
    call-cut c new f p u next =
        let o = plain c (upkeep_of v m s r) refl f in
        let y = call-tidy v m past s b i cuts t few h c next (upkeep_of v m s r) refl f in
        let i' = inv-call x c o p in
        let x' = context g _ _ _ _ _ i' in
        subst (λ (n : ℕ). Tidy g (volume_after v (outcome_of c v m s).stored)
        (restart_state (volume_after v (outcome_of c v m s).stored)) n)
        (sym (add-one since)) (cut-here x' turns n2 since y)
    call-cut c (torn xs) f p u next =
        let o = plain c (upkeep_of v m s r) refl f in
        subst (λ (n : ℕ). Tidy g (left_volume v (outcome_of c v m s).stored (torn xs))
        (restart_state (left_volume v (outcome_of c v m s).stored (torn xs))) n)
        (sym (add-one since)) (cut-torn x turns n2 since (base (upkeep_of v m s r) refl) c o xs u)

  -- one event
  event-at : (v : List ℕ) (y : Power) (past : List StoredItem) (b : AbstractLog) → Inv ⊥ g v past y b → (cuts : ℕ)
      → At y v cuts
      → written_pages v ≤ W → (written_pages v ≢ 0 → cuts ≤ cap) → (e : Event)
      → allowed (record { volume = v; power = y; past = past }) e ≡ true → FollowsIn (advice_in r y v) e
      → written_pages (step (record { volume = v; power = y; past = past }) e).volume ≤ W
      → At (step (record { volume = v; power = y; past = past }) e).power
      (step (record { volume = v; power = y; past = past }) e).volume
      (cuts_in r y v cuts e)
  unfolding step allowed
  event-at v off past b i cuts t few h (restart m) a f next = restart-at v m cuts t
  event-at v (on m' s) past b i cuts t few h (restart m) a f next =
      restart-at v m' _ (cut-now v m' past s b i cuts t few h)
  event-at v off past b i cuts t few h (perform c) a f next = absurd (true-not-false a refl)
  event-at v (on m s) past b i cuts t few h (perform c) a f next =
      subst (λ (n : ℕ). Tidy g (volume_after v (outcome_of c v m s).stored) (outcome_of c v m s).state n)
      (sym (add-zero (cond (is_idle (upkeep_of v m s r)) 0 cuts)))
      (call-tidy v m past s b i cuts t few h c next (upkeep_of v m s r) refl f)
  event-at v off past b i cuts t few h crash a f next = t
  event-at v (on m s) past b i cuts t few h crash a f next = cut-now v m past s b i cuts t few h
  event-at v off past b i cuts t few h (crash_in c l) a f next = absurd (true-not-false a refl)
  event-at v (on m s) past b i cuts t few h (crash_in c l) a f next =
      let fits = torn_fits (geometry_of v) (outcome_of c v m s).stored l in
      let a2 = and_right fits _ a in
      call-cut v m past s b i cuts t few h c l f (and_left (payload_fits c) _ a2) (and_left fits _ a) next
  event-at v off past b i cuts t few h (damage at xs) a f next = hurt g l2 n2 v off past b i cuts t at xs a
  event-at v (on m s) past b i cuts t few h (damage at xs) a f next =
      subst (λ (n : ℕ). At (on m s) (store (geometry_of v) v at xs) n)
      (sym (add-zero (cond (is_idle (upkeep_of v m s r)) 0 cuts)))
      (hurt g l2 n2 v (on m s) past b i _ (base v m past s b i cuts t few h (upkeep_of v m s r) refl) at xs a)

  -- ---- all events

  followed-here : (w : Machine) (cuts : ℕ) (es : List Event) → Followed r W cap w cuts es → Bounded r W cap w cuts
  unfolding Followed
  followed-here w cuts [] k = k
  followed-here w cuts (e ∷ es) k = k.0

  not_carried : g.tag ≢ carry_tag
  not_carried z = let y : g.tag ≡ 0x32 =
      eqb-true g.tag 0x32 (and_left (eqb g.tag 0x32) (leb 2 g.records) turns) in
      eqb-false 0x32 carry_tag refl (sym y ∙ z)

  pub one-inv : (w : Machine) (b : AbstractLog) → Inv ⊥ g w.volume w.past w.power b → (e : Event)
      → allowed w e ≡ true
      → starts_in (e ∷ []) ≡ false
      → Inv ⊥ g (step w e).volume (step w e).past (step w e).power (step_log w b e)
  unfolding all_allowed run log_after
  one-inv w b i e a z =
      let q = all-steps ⊥ (e ∷ []) g w b i (λ c. absurd c) (rw a) in
      subst (λ (t : ℕ). Inv ⊥ (with_tag g t) (step w e).volume (step w e).past (step w e).power (step_log w b e))
      (q.1 z not_carried) q.2

  apart : (e : Event) (es : List Event) → starts_in (e ∷ es) ≡ false
      → (starts_in (e ∷ []) ≡ false) × (starts_in es ≡ false)
  apart (restart m) es z = (refl, z)
  apart (perform c) es z = let q = or-neither (is_start_carry c) (starts_in es) z in (rw q.0 refl, q.1)
  apart crash es z = (refl, z)
  apart (crash_in c l) es z = let q = or-neither (is_start_carry c) (starts_in es) z in (rw q.0 refl, q.1)
  apart (damage at xs) es z = (refl, z)

  pub along : (es : List Event) (w : Machine) (b : AbstractLog) (cuts : ℕ) → Inv ⊥ g w.volume w.past w.power b
      → TidyAt g w.power w.volume cuts → all_allowed w es ≡ true → starts_in es ≡ false → Followed r W cap w cuts es
      → FollowedAt g r W cap (run w es) (log_after w b es)
  unfolding all_allowed run log_after Followed
  along [] w b cuts i t a z k = record { cuts = cuts; bounded = k; inv = i; tidy = t }
  along (e ∷ es) w b cuts i t a z k =
      let q = both (allowed w e) (all_allowed (step w e) es) a in
      let s = apart e es z in
      let td = k.0 in
      let next = followed-here (step w e) (cuts_after r w cuts e) es k.2 in
      along es (step w e) (step_log w b e) (cuts_after r w cuts e) (one-inv w b i e q.0 s.0)
      (event-at w.volume w.power w.past b i cuts t td.written td.few e q.0 k.1 next.written)
      q.1 s.1 k.2

-- ME2: mending's Write ends it; its Load leaves upkeep idle.
use mathlib.Core.Path.{◌≡◌, sym, ap, ◌∙◌, subst}
use mathlib.Core.Logic.{⊎_elim}
use mathlib.Core.Bool.{true, false}
use mathlib.Core.List.{List, [], ◌∷◌}
use Prim.Native.Nat.{ℕ, suc, ◌+◌, ◌≤◌}
use native.Mathlib.Omega.{arith}
use lib.ListN.{length}
use Rattle.model.specs.Geometry.{geometry_of}
use Rattle.model.specs.Repair.{state_view, class_in}
use Rattle.model.specs.Calls.{Call, is_call}
use Rattle.model.specs.History.{on, Machine, perform, run}
use Rattle.model.specs.Claim.{History, reached}
use Rattle.model.specs.declared.state.State.{State}
use Rattle.history.proofs.Reached.{made_with}
use Rattle.upkeep_policy.specs.Upkeep.{upkeep_events}
use Rattle.upkeep_policy.specs.UpkeepClaim.{extended, bound}
use Rattle.mend_policy.specs.Mend.{is_stale, call, mend_of}
use Rattle.mend_policy.specs.MendClaim.{writes_page, still_goes_on}
use Rattle.mend_theory.proofs.Named.{named}
use Rattle.mend_theory.proofs.Rests.{called}
use Rattle.mend_theory.proofs.Loaded.{load-goes-on}
use Rattle.mend_theory.proofs.Round.{after, whole-is-said}
use Rattle.mend_theory.proofs.Clean.{Clean, advised-clean}
use Rattle.mend_theory.proofs.Fresh.{Fresh, not-stale, advised-fresh, mended-fresh}
use Rattle.mend_theory.proofs.Onward.{Told, Keeps}
use Rattle.mend_theory.proofs.Counts.{upkeep-few, idle-none}
use Rattle.mend_theory.proofs.Turns.{EndsIn, ends_now, ends-later}
use Rattle.mend_theory.proofs.Seats.{Seat, ends-whole, geometry, next, round, turn}
use Rattle.mend_theory.proofs.Second.{ctx, frame-in, taken}

module _ (r W C p n : ℕ) (h : History) (m : List ℕ) (s : State) (t : Seat r W C p n h m s) where
  abbrev K : ℕ
  K = bound W h.pages

  abbrev pub Cleanly : Told
  Cleanly b v u = Clean (made_with h) p t.low t.high b v u

  abbrev Freshly : Told
  Freshly b v u = Fresh (made_with h) p t.low t.high v u

  pub keeps-clean : Keeps (made_with h) r Cleanly
  keeps-clean v u past a b x c d q = advised-clean (made_with h) p t.low t.high x r c d q

  keeps-fresh : Keeps (made_with h) r Freshly
  keeps-fresh v u past a b x c d q = advised-fresh (made_with h) p t.low t.high x r c d q

  abbrev Ends : ℕ → ℕ → Type 0
  Ends j i = EndsIn r W C p (bound W h.pages) j i h

  module _ (c : Call) (names : mend_of (reached h).volume m s r p ≡ call c) where
    abbrev then : History
    then = next r W C p n h m s t c names

    -- one call more at the front
    pub later : (j i : ℕ) → EndsIn r W C p (bound W h.pages) j i (next r W C p n h m s t c names) → Ends (suc j) (suc (bound W h.pages) + i)
    later j i y = ends-later r W C p K h m s t.is-on t.rests c names j i (suc K + i) y
        (omega (arith, upkeep-few r K (reached (extended h (perform c ∷ [])))))

    -- after mending's Write the page is whole at the next rest
    pub by-write : (j : ℕ) → suc (bound W h.pages) ≤ n → writes_page p c.0 ≡ true → Ends (suc j) (suc (bound W h.pages) + 0)
    by-write j le wr =
        let a = named (reached h).volume m s r p c names in
        later j 0 (⊎_elim (λ d. ends_now r W C p K j 0 then d)
        (λ y.
        let m' = y.0 in let s' = y.1 in let u = y.2 in
        let wh = (round r W C p n h m s t c names).written wr ((round r W C p n h m s t c names).short wr t.big) in
        let st : is_stale (class_in (geometry_of (reached then).volume) p
        (state_view (geometry_of (reached then).volume) (reached then).volume s' p)) ≡ false =
        rw (geometry r W C p 0 then m' s' u) (not-stale _ _ _ _ y.3.0) in
        ends_now r W C p K j 0 then (ends-whole r W C p 0 then m' s' u
        (whole-is-said then u.legal m' s' u.is-on r p t.low t.high wh st)))
        (turn r W C p n h m s t c names Freshly keeps-fresh
        (mended-fresh (made_with h) p t.low t.high (ctx r W C p n h m s t) r a.written c a.is-renewal wr
        (taken r W C p n h m s t c names)) 0 (omega (arith, le))))

    -- ---- after mending's Load

    module _ (is : is_call 4 c ≡ true) where
      -- upkeep is idle at once
      none : upkeep_events r (bound W h.pages) (reached (extended h (perform c ∷ []))) ≡ []
      none =
          let e = called h m s t.is-on c in
          let y = load-goes-on h t.legal m s t.is-on r (frame-in r W C p n h m s t) t.rests p t.low t.high c names is
          _ _ e in
          idle-none r K (reached (extended h (perform c ∷ []))) (rw e y.0)

      same : reached (next r W C p n h m s t c names) ≡ reached (extended h (perform c ∷ []))
      unfolding run
      same =
          let k = extended h (perform c ∷ []) in
          after k (upkeep_events r K (reached k)) ∙ ap (run (reached k)) none

      pub goes : (m' : List ℕ) (s' : State) → (reached (next r W C p n h m s t c names)).power ≡ on m' s'
          → still_goes_on p (mend_of (reached (next r W C p n h m s t c names)).volume m' s' r p) ≡ true
      goes m' s' e =
          let k = extended h (perform c ∷ []) in
          let e' : (reached k).power ≡ on m' s' = ap (λ (u : Machine). u.power) (sym same) ∙ e in
          let y = load-goes-on h t.legal m s t.is-on r (frame-in r W C p n h m s t) t.rests p t.low t.high c names is
          m' s' e' in
          subst (λ (u : Machine). still_goes_on p (mend_of u.volume m' s' r p) ≡ true) (sym same) y.1

      pub at_once : (j i : ℕ) → EndsIn r W C p (bound W h.pages) j i (next r W C p n h m s t c names) → Ends (suc j) (suc i)
      at_once j i y = ends-later r W C p K h m s t.is-on t.rests c names j i (suc i) y
          (omega (arith, ap length none))

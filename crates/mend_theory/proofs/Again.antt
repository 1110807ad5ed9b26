-- ME1 over a whole round: upkeep's own calls, made to rest after mending's call, keep the discipline too. T2's recursion
-- (upkeep_theory, Comes), with the discipline told beside it. No cut comes, so that the count of cuts stays 0.
use mathlib.Core.Path.{◌≡◌, refl, sym, ◌∙◌, subst}
use mathlib.Core.Logic.{◌⊎◌, inr, ⊎_elim}
use mathlib.Core.Bool.{true, false, cond}
use mathlib.Core.List.{List, [], ◌∷◌}
use Prim.Native.Nat.{ℕ, zero, suc, ◌+◌, ◌-◌, ◌*◌, ◌≤◌, ◌<◌}
use native.Mathlib.Omega.{arith}
use lib.ListN.{length}
use lib.Dec.{eqb}
use borrow.Author.Tests.{le-leb}
use Rattle.laws.proofs.Tables.{and_both, or_right}
use Rattle.laws.proofs.Parts.{bytes_same}
use Rattle.model.specs.Tables.{within}
use Rattle.model.specs.Geometry.{ring, top_number, geometry_of}
use Rattle.model.specs.State.{frame_count}
use Rattle.model.specs.Outcome.{StoredItem, volume_after}
use Rattle.model.specs.Calls.{Call, code_of, outcome_of}
use Rattle.model.specs.AbstractLog.{Logged, AbstractLog}
use Rattle.model.specs.Carry.{starts_in}
use Rattle.model.specs.Claim.{History, Legal, fresh, reached, log_of}
use Rattle.model.specs.History.{Power, on, Machine, Event, perform, step, step_log, run, log_after}
use Rattle.model.specs.declared.{geometry.Geometry.Geometry, state.State.State}
use Rattle.history.proofs.Context.{Ctx, geo}
use Rattle.history.proofs.Inv.{Inv}
use Rattle.history.proofs.Reached.{made_with}
use Rattle.history.proofs.Refusals.{call-refusal}
use Rattle.history.proofs.Steps.{context}
use Rattle.upkeep_policy.specs.Upkeep.{idle, make, reserve, follows_call, follows, advice_of, cuts_after, upkeep_of, ever_written, written_pages, in_bounds, disciplined, upkeep_events}
use Rattle.upkeep_policy.specs.UpkeepClaim.{extended, Roomy, NumbersLeft, Rests, bound}
use Rattle.upkeep_theory.proofs.Advise.{advise-step}
use Rattle.upkeep_theory.proofs.Along.{renewal-plain, one-inv}
use Rattle.upkeep_theory.proofs.Comes.{renewal-fits, advised-fits, may-come, decide}
use Rattle.upkeep_theory.proofs.Followed.{followed}
use Rattle.upkeep_theory.proofs.Fresh.{turns, followed-tidy}
use Rattle.upkeep_theory.proofs.Step.{user-step}
use Rattle.upkeep_theory.proofs.Idle.{idle-closed}
use Rattle.upkeep_theory.proofs.IdleComes.{begin-phase}
use Rattle.upkeep_theory.proofs.Near.{written-pages}
use Rattle.upkeep_theory.proofs.Phases.{Phase}
use Rattle.upkeep_theory.proofs.Shape.{advised}
use Rattle.upkeep_theory.proofs.Text.{log-more}
use Rattle.upkeep_theory.proofs.Tidy.{Tidy}
use Rattle.upkeep_theory.proofs.Written.{few-live, few-next}
use Rattle.mend_policy.specs.Mend.{twofold, call, mend_of}
use Rattle.mend_policy.specs.MendClaim.{writes_page}
use Rattle.mend_theory.proofs.Beats.{Beat, beat-least, beat-on, first-beat}
use Rattle.mend_theory.proofs.Named.{named, mend-is-done}
use Rattle.mend_theory.proofs.Follows.{memory-stays, by-power}
use Rattle.mend_theory.proofs.Rests.{ends, mended-after}
use Rattle.mend_theory.proofs.Risks.{after_one}

-- within N calls of upkeep's a rest, all of them disciplined; a record takes four of them
pub record EndOn (r W C N n : ℕ) (w : Machine) (b : AbstractLog) : Type 0 where
  pub calls : ℕ
  pub few : calls ≤ N
  pub rests : Rests r (run w (upkeep_events r calls w))
  pub kept : disciplined r W C w 0 (upkeep_events r calls w) ≡ true
  pub stored : 4 * length (log_after w b (upkeep_events r calls w)).durable + 1 ≤ n + calls

end-now : (r W C N n : ℕ) (w : Machine) (b : AbstractLog) → in_bounds r W C w 0 ≡ true → Rests r w
    → 4 * length b.durable + 1 ≤ n → EndOn r W C N n w b
unfolding run log_after upkeep_events disciplined
end-now r W C N n w b i f le = record { calls = 0; few = omega arith; rests = f; kept = i; stored = omega (arith, le) }

-- one disciplined event more at the front, which is no cut
pub kept_more : (r W C : ℕ) (w : Machine) (n : ℕ) (e : Event) (es : List Event) → in_bounds r W C w n ≡ true
    → follows (advice_of r w) e ≡ true → cuts_after r w n e ≡ 0 → disciplined r W C (step w e) 0 es ≡ true
    → disciplined r W C w n (e ∷ es) ≡ true
unfolding disciplined
kept_more r W C w n e es b f c y = rw (b, f, c) y

end_later : (r W C N n : ℕ) (v m : List ℕ) (past : List StoredItem) (s : State) (a : AbstractLog) (c : Call)
    → upkeep_of v m s r ≡ make c → in_bounds r W C (record { volume = v; power = on m s; past = past }) 0 ≡ true
    → EndOn r W C N (suc n) (step (record { volume = v; power = on m s; past = past }) (perform c))
    (step_log (record { volume = v; power = on m s; past = past }) a (perform c))
    → EndOn r W C (suc N) n (record { volume = v; power = on m s; past = past }) a
unfolding run log_after upkeep_events
end_later r W C N n v m past s a c e b y =
    let w : Machine = record { volume = v; power = on m s; past = past } in
    let f : follows_call (upkeep_of v m s r) c ≡ true = rw e (and_both (bytes_same (code_of c.0)) (bytes_same c.1)) in
    let z : cuts_after r w 0 (perform c) ≡ 0 = rw e refl in
    let l : upkeep_events r (suc y.calls) w ≡ perform c ∷ upkeep_events r y.calls (step w (perform c)) = rw e refl in
    record {
      calls = suc y.calls;
      few = omega (arith, y.few);
      rests = rw e y.rests;
      kept = subst (λ (es : List Event). disciplined r W C w 0 es ≡ true) (sym l)
          (kept_more r W C w 0 (perform c) _ b f z y.kept);
      stored = rw e (omega (arith, y.stored));
    }

module _ (g : Geometry) (turns : ring g ≡ true) (l2 : 2 ≤ g.records) (n2 : 2 ≤ g.notes) (r W C : ℕ) (room : g.pages + W + 2 ≤ g.notes)
    (reserves : (W ≡ 0) ⊎ (W + C ≤ reserve g)) (slots : g.pages < g.slots) where
  here-bounds : {D : Type 0} {v m : List ℕ} {past : List StoredItem} {s : State} {k w : List Logged}
      (x : Ctx D g v m past s k w) → ever_written s ≤ W → within (frame_count (length m)) r ≡ true
      → in_bounds r W C (record { volume = v; power = on m s; past = past }) 0 ≡ true
  unfolding in_bounds
  here-bounds {D} {v} {m} {past} {s} {k} {w} x few fr =
      let l : written_pages v ≤ W =
      omega (arith, written-pages g v k x.hs x.ns x.no (geo x), few-live x W few) in
      and_both fr (and_both (le-leb (written_pages v) W l) (or_right (eqb (written_pages v) 0) (le-leb 0 C (omega arith))))

  cap : W + 0 ≤ reserve g
  cap = ⊎_elim (λ e. omega (arith, e)) (λ e. omega (arith, e)) reserves

  comes-on : (N : ℕ) (v m : List ℕ) (past : List StoredItem) (s : State) (b : AbstractLog) → Inv ⊥ g v past (on m s) b
      → (t : Tidy g v s 0) → t.z.k0 + g.pages + W < top_number → ever_written s ≤ W
      → within (frame_count (length m)) r ≡ true
      → Phase g W t.z.k0 v m s r N → (n : ℕ) → Beat g v s n
      → EndOn r W C N n (record { volume = v; power = on m s; past = past }) b
  unfolding step step_log
  comes-on zero v m past s b i t kb few fr ph n bt =
      let x = context g v m past s b i in
      let low : 4 * length b.durable + 1 ≤ n = omega (arith, beat-least g v s n bt, x.al.log.durable-is) in
      ⊎_elim (λ f. end-now r W C zero n _ b (here-bounds x few fr) f low) (λ y. absurd (omega (arith, y.0)))
      (decide x turns n2 W room few 0 t cap r fr slots kb zero ph)
  comes-on (suc N) v m past s b i t kb few fr ph n bt =
      let x = context g v m past s b i in
      let low : 4 * length b.durable + 1 ≤ n = omega (arith, beat-least g v s n bt, x.al.log.durable-is) in
      ⊎_elim (λ f. end-now r W C (suc N) n _ b (here-bounds x few fr) f low)
      (λ y.
      let c = y.1.0 in
      let e = y.1.1 in
      let nx = y.1.2 in
      let less : suc N - 1 ≡ N = omega arith in
      let ph' =
      subst (λ (l : ℕ). Phase g W t.z.k0 (volume_after v (outcome_of c v m s).stored)
      (outcome_of c v m s).memory (outcome_of c v m s).state r l)
      less nx.phase in
      let adv = advised v m s r c e in
      let fits = advised-fits v m s r c adv in
      let may = may-come v m past s c fits.0 fits.1 in
      let i' = one-inv g turns n2 r W C room reserves (record { volume = v; power = on m s; past = past }) b i
      (perform c) may.0 may.1 in
      let t' = advise-step x turns n2 W room (few-live x W few) (λ n q. few-next x W few n q) 0 t
      (inr cap) r c adv in
      let bt' = beat-on x turns l2 n2 W room few t r n fr c e bt in
      end_later r W C N n v m past s b c e (here-bounds x few fr)
      (comes-on N _ _ _ _ _ i' t'.0 (subst (λ (k : ℕ). k + g.pages + W < top_number) (sym t'.1) kb) nx.fewer
      (subst (λ (l : ℕ). within (frame_count l) r ≡ true) (sym nx.size) fr)
      (subst (λ (k : ℕ). Phase g W k (volume_after v (outcome_of c v m s).stored) (outcome_of c v m s).memory
      (outcome_of c v m s).state r N) (sym t'.1) ph') (suc n) bt'))
      (decide x turns n2 W room few 0 t cap r fr slots kb (suc N) ph)

  -- from a tidy machine, within T2's bound
  pub comes-again : (v m : List ℕ) (past : List StoredItem) (s : State) (b : AbstractLog) → Inv ⊥ g v past (on m s) b
      → Tidy g v s 0 → ever_written s ≤ W → within (frame_count (length m)) r ≡ true
      → s.durable + W + 2 ≤ top_number → s.notes + g.pages + W + 2 ≤ top_number
      → (n : ℕ) → Beat g v s n → EndOn r W C (bound W g.pages) n (record { volume = v; power = on m s; past = past }) b
  comes-again v m past s b i t few fr nd nk n bt =
      comes-on (bound W g.pages) v m past s b i t (omega (arith, t.notes.low)) few fr
      (begin-phase g W 0 v m s r t nd s.note refl) n bt

-- ---- after mending's call

pub round-ends : (h : History) → Legal h → (r W C : ℕ) → Roomy h W C
    → (twofold (geometry_of (reached h).volume) ≡ true → h.pages ≤ W)
    → starts_in h.events ≡ false → disciplined r W C (fresh h) 0 h.events ≡ true
    → (m : List ℕ) (s : State) → (reached h).power ≡ on m s → upkeep_of (reached h).volume m s r ≡ idle → NumbersLeft h s W
    → (p : ℕ) → 1 ≤ p → p ≤ h.pages → (c : Call) → mend_of (reached h).volume m s r p ≡ call c
    → EndOn r W C (bound W h.pages) (4 * s.durable + cond (writes_page p c.0) 3 6) (reached (extended h (perform c ∷ [])))
    (log_of (extended h (perform c ∷ [])))
unfolding step step_log
round-ends h legal r W C roomy more z test m s e rests nums p lo hi c n =
    let g = made_with h in
    let v = (reached h).volume in
    let past = (reached h).past in
    let n2 : 2 ≤ h.notes = omega (arith, roomy.notes) in
    let ts = turns h legal roomy.second roomy.turns n2 in
    let ka = followed-tidy h legal roomy.second roomy.turns n2 r W C roomy.notes roomy.reserve z
    (followed r W C (fresh h) 0 h.events test) in
    let inv : Inv ⊥ g v past (on m s) (log_of h) = subst (λ (y : Power). Inv ⊥ g v past y (log_of h)) e ka.inv in
    let x = context g v m past s (log_of h) inv in
    let a = named v m s r p c n in
    let pl = renewal-plain v m s r p a.written c a.is-renewal in
    let fits = renewal-fits v m s r p a.written c a.is-renewal in
    let may = may-come v m past s c fits.0 fits.1 in
    let t = user-step x ts n2 r rests 0 c pl in
    let i' = one-inv g ts n2 r W C roomy.notes roomy.reserve (record { volume = v; power = on m s; past = past }) (log_of h) inv
    (perform c) may.0 may.1 in
    let af = mended-after h legal r W C roomy more test m s e rests p lo hi c n in
    let fr = subst (λ (l : ℕ). within (frame_count l) r ≡ true) (sym (memory-stays x r p a.written c a.is-renewal))
    (ends h r W C test m s e).frame in
    let rows = sym (call-refusal c v m s) ∙ (mend-is-done h legal m s e r (ends h r W C test m s e).frame rests p lo hi c n).done in
    let bt = first-beat x roomy.turns n2 (idle-closed v m s r rests).1 r p a.written c a.is-renewal rows in
    let q = 4 * s.durable + cond (writes_page p c.0) 3 6 in
    let y = comes-again g ts roomy.turns n2 r W C roomy.notes roomy.reserve (omega (arith, roomy.slots)) _ _ _ _ _ i' t af.few fr
    (rw af.durable nums.durable) (rw af.notes nums.notes) q bt in
    subst (λ (b : AbstractLog). EndOn r W C (bound W h.pages) q (reached (extended h (perform c ∷ []))) b) (sym (log-more h (perform c)))
    (subst (λ (u : Machine). EndOn r W C (bound W h.pages) q u (step_log (reached h) (log_of h) (perform c))) (sym (after_one h (perform c)))
    (by-power v (reached h).power past m s e
    (λ (u : Machine). EndOn r W C (bound W h.pages) q (step u (perform c)) (step_log u (log_of h) (perform c))) y))

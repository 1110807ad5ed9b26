-- T2: upkeep's own calls come to an end: it is idle, or a page is lost.
use mathlib.Core.Path.{◌≡◌, refl, sym, subst}
use mathlib.Core.Logic.{◌⊎◌, inl, inr, ⊎_elim}
use mathlib.Core.Bool.{Bool, true, false}
use mathlib.Core.List.{List, [], ◌∷◌}
use Prim.Native.Nat.{ℕ, zero, suc, ◌+◌, ◌-◌, ◌≤◌, ◌<◌}
use native.Mathlib.Omega.{arith}
use lib.ListN.{length}
use borrow.Author.Tests.{lt-ltb}
use Rattle.model.specs.Tables.{within}
use Rattle.model.specs.Geometry.{ring, top_number}
use Rattle.model.specs.State.{frame_count, note_pending}
use Rattle.model.specs.Outcome.{StoredItem, volume_after}
use Rattle.model.specs.Calls.{Call, outcome_of, no_payload}
use Rattle.model.specs.declared.{command.Command.TheVariants.Force, geometry.Geometry.Geometry, state.State.State}
use Rattle.model.specs.declared.command.Command.TheVariants.{Note}
use Rattle.model.specs.Carry.{count_of, starts_in}
use Rattle.model.specs.AbstractLog.{Logged, AbstractLog}
use Rattle.model.specs.History.{on, Machine, perform, payload_fits, is_start_carry, allowed, step, run}
use Rattle.history.proofs.Context.{Ctx}
use Rattle.history.proofs.Inv.{Inv}
use Rattle.history.proofs.Steps.{context}
use Rattle.upkeep_policy.specs.Upkeep.{Advice, idle, stuck, make, reserve, upkeep_of, ever_written, upkeep_events}
use Rattle.upkeep_policy.specs.UpkeepClaim.{Rests}
use Rattle.upkeep_theory.proofs.Shape.{Renewal, loads, backs as backing, writes as writing, puts, Advised, notes}
use Rattle.upkeep_theory.proofs.Shape.{forces, by_note, by_log, advised}
use Rattle.upkeep_theory.proofs.NotesTidy.{NotesTidy}
use Rattle.upkeep_theory.proofs.Near.{wrote_in, since-few}
use Rattle.upkeep_theory.proofs.Tidy.{Tidy, since_written}
use Rattle.upkeep_theory.proofs.Step.{place2}
use Rattle.upkeep_theory.proofs.Written.{few-live, few-next}
use Rattle.upkeep_theory.proofs.Advise.{advise-step}
use Rattle.upkeep_theory.proofs.Caps.{note-first}
use Rattle.upkeep_theory.proofs.Along.{one-inv}
use Rattle.upkeep_theory.proofs.Stuck.{stuck-lost, fewer}
use Rattle.upkeep_theory.proofs.Load.{Least}
use Rattle.upkeep_theory.proofs.Halfway.{halfway-write}
use Rattle.upkeep_theory.proofs.Phases.{rest_at, left_at, Phase, quiet, half, unforced, putting, storing, Next}
use Rattle.upkeep_theory.proofs.NextForce.{unforced-next, put_next}
use Rattle.upkeep_theory.proofs.NextRenewal.{quiet_next}
use Rattle.upkeep_theory.proofs.NextNote.{note-next}

force-first : (v m : List ℕ) (s : State) (r : ℕ) → note_pending s.note ≡ false → 1 ≤ s.pending
    → upkeep_of v m s r ≡ make (Force, no_payload)
unfolding upkeep_of
force-first v m s r o b = rw (o, lt-ltb 0 s.pending b)

d-under : (d l T : ℕ) → d + l < T → d < T
d-under d l T h = omega arith

d-quiet : (d l T a : ℕ) → d + l < T → d + l < T + (a - 2)
d-quiet d l T a h = omega arith

d-half : (d l T : ℕ) → d + l ≤ T → d + l < T + 1
d-half d l T h = omega arith

d-some : (d A W T : ℕ) → suc A ≤ W → d + (W - A) ≤ T → d < T
d-some d A W T f h = omega arith

module _ {C : Type 0} {g : Geometry} {v m : List ℕ} {past : List StoredItem} {s : State} {k w : List Logged}
    (x : Ctx C g v m past s k w) (turns : ring g ≡ true) (n2 : 2 ≤ g.notes) (W : ℕ)
    (room : g.pages + W + 2 ≤ g.notes)
    (few : ever_written s ≤ W) (cuts : ℕ) (t : Tidy g v s cuts) (cap : W + cuts ≤ reserve g) (r : ℕ)
    (fr : within (frame_count (length m)) r ≡ true) (slots : g.pages < g.slots)
    (kb : t.z.k0 + g.pages + W < top_number) where
  abbrev here : Machine
  here = record { volume = v; power = on m s; past = past }

  fl : count_of 64 (wrote_in x.ns) ≤ W
  fl = few-live x W few

  kn : s.notes < top_number
  kn =
      let e = x.al.notes-is in
      let nt : NotesTidy g v (length x.ns) t.z.k0 s.note = rw e at t.notes in
      let c = since-few g v k x.hs x.ns x.no t.z.k0 nt (omega (arith, t.near)) W fl in
      omega arith

  abbrev Decided : ℕ → Type 0
  Decided N = Rests r (record { volume = v; power = on m s; past = past })
      ⊎ ((1 ≤ N) × ((c : Call) × (upkeep_of v m s r ≡ make c) × Next g W t.z.k0 v m s r (N - 1) c))

  by-quiet : note_pending s.note ≡ false → s.pending ≡ 0 → (N a : ℕ) → a ≤ 3 → rest_at g W t.z.k0 v s ≤ N + a
      → s.durable + left_at g W t.z.k0 v s < top_number + (a - 2) → s.durable < top_number → Least a v m s r
      → (y : Advice) → upkeep_of v m s r ≡ y → Decided N
  by-quiet noting silent N a a3 h b dn ll idle e = inl (inl e)
  by-quiet noting silent N a a3 h b dn ll (stuck p) e =
      inl (inr (p, e, stuck-lost x turns n2 cuts t W fl (inr cap) slots dn kn r p e))
  by-quiet noting silent N a a3 h b dn ll (make c) e =
      let y = quiet_next x turns n2 W room few cuts t cap r fr noting silent N a a3 h b c
      (advised v m s r c e) (ll c e) in
      inr (y.0, (c, e, y.1))

  pub decide : (N : ℕ) → Phase g W t.z.k0 v m s r N → Decided N
  decide N (quiet a a1 noting silent h b ll) =
      by-quiet noting silent N a (omega arith) h (d-quiet s.durable (left_at g W t.z.k0 v s) top_number a b)
      (d-under s.durable (left_at g W t.z.k0 v s) top_number b) ll (upkeep_of v m s r) refl
  decide N (half noting silent y h b) =
      let e : y.place ≡ place2 x turns n2 = omega (arith, y.second) in
      let f = fewer x turns n2 cuts t W fl (omega (arith, y.second)) (rw e at y.needed) (rw e at y.written) in
      by-quiet noting silent N 3 (omega arith) h (d-half s.durable (left_at g W t.z.k0 v s) top_number b)
      (d-some s.durable (since_written g v s.notes t.z.k0) W top_number f b)
      (halfway-write x turns n2 cuts t noting silent y r) (upkeep_of v m s r) refl
  decide N (unforced p h b) =
      let e = force-first v m s r (rw (t.both p)) p in
      let y = unforced-next x turns n2 W room few cuts t cap r fr N (advised v m s r (Force, no_payload) e) p h b in
      inr (y.0, ((Force, no_payload), e, y.1))
  decide N (putting p z h b) =
      let e = force-first v m s r (rw (t.both p)) p in
      let y = put_next x turns n2 W room few cuts t cap r fr N (advised v m s r (Force, no_payload) e) p z h b in
      inr (y.0, ((Force, no_payload), e, y.1))
  decide N (storing n q h b) =
      let e = note-first x n q r in
      let y = note-next x turns n2 W room few cuts t cap r fr n q N (advised v m s r (Note, no_payload) e) h b in
      inr (y.0, ((Note, no_payload), e, y.1))

-- an advised call may come
pub renewal-fits : (v m : List ℕ) (s : State) (r p : ℕ) (written : Bool) (c : Call) → Renewal v m s r p written c
    → (payload_fits c ≡ true) × (is_start_carry c ≡ false)
renewal-fits v m s r p written c (loads h n e) = rw e (refl, refl)
renewal-fits v m s r p written c (backing h t b n e) = rw e (refl, refl)
renewal-fits v m s r p written c (writing h t d n e) = rw e (refl, refl)
renewal-fits v m s r p written c (puts h t d n e) = rw e (refl, refl)

pub advised-fits : (v m : List ℕ) (s : State) (r : ℕ) (c : Call) → Advised v m s r c
    → (payload_fits c ≡ true) × (is_start_carry c ≡ false)
advised-fits v m s r c (notes a e) = rw e (refl, refl)
advised-fits v m s r c (forces a b e) = rw e (refl, refl)
advised-fits v m s r c (by_note a q o i lo hi y n) = renewal-fits v m s r _ _ c n
advised-fits v m s r c (by_log a q o n1 n2 i lo hi y fi n) = renewal-fits v m s r _ _ c n

pub may-come : (v m : List ℕ) (past : List StoredItem) (s : State) (c : Call) → payload_fits c ≡ true
    → is_start_carry c ≡ false
    → (allowed (record { volume = v; power = on m s; past = past }) (perform c) ≡ true)
    × (starts_in (perform c ∷ []) ≡ false)
unfolding allowed
may-come v m past s c p q = (rw (p, q), rw q)

-- ---- the recursion

abbrev pub End : ℕ → ℕ → Machine → Type 0
End r N w = (n : ℕ) × (n ≤ N) × Rests r (run w (upkeep_events r n w))

end-now : (r N : ℕ) (w : Machine) → Rests r w → End r N w
unfolding run upkeep_events
end-now r N w f = (0, omega arith, f)

end_later : (r N : ℕ) (v m : List ℕ) (past : List StoredItem) (s : State) (c : Call) → upkeep_of v m s r ≡ make c
    → End r N (step (record { volume = v; power = on m s; past = past }) (perform c))
    → End r (suc N) (record { volume = v; power = on m s; past = past })
unfolding run upkeep_events
end_later r N v m past s c e y = (suc y.0, omega (arith, y.1), rw e y.2)

module _ (g : Geometry) (turns : ring g ≡ true) (n2 : 2 ≤ g.notes) (r W most : ℕ) (room : g.pages + W + 2 ≤ g.notes)
    (reserves : (W ≡ 0) ⊎ (W + most ≤ reserve g)) (slots : g.pages < g.slots) (cuts : ℕ)
    (cap : W + cuts ≤ reserve g) where
  pub comes : (N : ℕ) (v m : List ℕ) (past : List StoredItem) (s : State) (b : AbstractLog) → Inv ⊥ g v past (on m s) b
      → (t : Tidy g v s cuts) → t.z.k0 + g.pages + W < top_number → ever_written s ≤ W
      → within (frame_count (length m)) r ≡ true
      → Phase g W t.z.k0 v m s r N → End r N (record { volume = v; power = on m s; past = past })
  unfolding step
  comes zero v m past s b i t kb few fr ph =
      let x = context g v m past s b i in
      ⊎_elim (λ f. end-now r zero _ f) (λ y. absurd (omega (arith, y.0)))
      (decide x turns n2 W room few cuts t cap r fr slots kb zero ph)
  comes (suc N) v m past s b i t kb few fr ph =
      let x = context g v m past s b i in
      ⊎_elim (λ f. end-now r (suc N) _ f)
      (λ y.
      let c = y.1.0 in
      let e = y.1.1 in
      let nx = y.1.2 in
      let less : suc N - 1 ≡ N = omega arith in
      let ph' =
      subst (λ (l : ℕ). Phase g W t.z.k0 (volume_after v (outcome_of c v m s).stored)
      (outcome_of c v m s).memory (outcome_of c v m s).state r l)
      less nx.phase in
      let adv = advised v m s r c e in
      let fits = advised-fits v m s r c adv in
      let may = may-come v m past s c fits.0 fits.1 in
      let i' = one-inv g turns n2 r W most room reserves (record { volume = v; power = on m s; past = past }) b i
      (perform c) may.0 may.1 in
      let t' = advise-step x turns n2 W room (few-live x W few) (λ n q. few-next x W few n q) cuts t
      (inr cap) r c adv in
      end_later r N v m past s c e
      (comes N _ _ _ _ _ i' t'.0 (subst (λ (k : ℕ). k + g.pages + W < top_number) (sym t'.1) kb) nx.fewer
      (subst (λ (l : ℕ). within (frame_count l) r ≡ true) (sym nx.size) fr)
      (subst (λ (k : ℕ). Phase g W k (volume_after v (outcome_of c v m s).stored) (outcome_of c v m s).memory
      (outcome_of c v m s).state r N) (sym t'.1) ph')))
      (decide x turns n2 W room few cuts t cap r fr slots kb (suc N) ph)

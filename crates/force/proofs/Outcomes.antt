-- What the definition of Force says in each of its cases, and the bounds that its code needs once it stores.
use mathlib.Core.Path.{◌≡◌, refl, ap, ◌∙◌}
use mathlib.Core.List.{List, []}
use Prim.Native.Nat.{ℕ, ◌+◌, ◌-◌, ◌≤◌, ◌<◌}
use native.Mathlib.Omega.{arith}
use lib.ListN.{length, take, drop}
use borrow.Author.Tests.{eq-eqb, ne_eqb}
use Rattle.laws.proofs.Parts.{part-lent, lent_length}
use Rattle.laws.proofs.Gives.{Gives, refused}
use Rattle.laws.proofs.Places.{valid-facts}
use Rattle.laws.proofs.WellFormed.{ready, pending-fits}
use Rattle.state.proofs.Slots.{records-some, most-high, record-fits}
use Rattle.model.specs.Tables.{first_of}
use Rattle.model.specs.Bytes.{field, part, splice}
use Rattle.model.specs.Geometry.{log_slot, start, store, geometry_of}
use Rattle.model.specs.State.{pending_at, pending_bytes}
use Rattle.model.specs.Refusals.{state_rows, force_rows}
use Rattle.model.specs.Outcome.{volume_after, decided}
use Rattle.model.specs.Effects.{forced_state, force_done}
use Rattle.model.specs.Calls.{force_of}
use Rattle.model.specs.declared.{geometry.Geometry.Geometry, state.State.State}
use Rattle.model.specs.declared.answer.Answer.TheVariants.{Refused, Nothing, Done}

module _ (v m : List ℕ) (s : State) where
  pub force-refused : (n : ℕ) → n ≡ first_of (state_rows v m s []) → (n ≡ 0 → ⊥) → Gives v (Refused n) s v (force_of v m s)
  unfolding decided force_done force_rows
  force-refused n = refused v m s (state_rows v m s []) _ n

  pub force-idle : first_of (state_rows v m s []) ≡ 0 → s.pending ≡ 0 → Gives v Nothing s v (force_of v m s)
  unfolding decided force_done force_rows volume_after
  force-idle e z = rw (eq-eqb (first_of (state_rows v m s [])) 0 e, eq-eqb s.pending 0 z) (refl, refl)

  -- what the code needs to know once it stores
  pub record Room (g : Geometry) : Type 0 where
    pub pages : g.pages ≤ 64
    pub records : 1 ≤ g.records
    pub durable : s.durable < 4294967295
    pub pending : 0 < s.pending
    pub place : start g (log_slot g (s.durable + 1)) + 64 ≤ length v
    pub memory : pending_at (s.durable + 1) + 64 ≤ length m

  pub room : (g : Geometry) → g ≡ geometry_of v → first_of (state_rows v m s []) ≡ 0 → (s.pending ≡ 0 → ⊥) → Room g
  room g eg e ne =
      let r = ready v m s [] e in
      let f = valid-facts v r.volume in
      let w = r.state in
      record {
        pages = rw eg f.p-high;
        records = records-some v g r.volume eg;
        durable = omega (arith, w.room, most-high v (geometry_of v) r.volume refl);
        pending = omega arith;
        place = record-fits v g r.volume eg (s.durable + 1);
        memory = omega (arith, pending-fits m r.memory (s.durable + 1), r.memory.low, r.memory.size);
      }

  done : (g : Geometry) (x : List ℕ) (page : ℕ) (t : State) → g ≡ geometry_of v → first_of (state_rows v m s []) ≡ 0 → (s.pending ≡ 0 → ⊥)
      → x ≡ pending_bytes m (s.durable + 1) → page ≡ field 2 8 x → t ≡ forced_state s g.pages page
      → Gives v Done t (splice v (start g (log_slot g (s.durable + 1))) x) (force_of v m s)
  unfolding decided force_done force_rows volume_after store
  done g x page t eg e ne ex ep et =
      let p : page ≡ field 2 8 (pending_bytes m (s.durable + 1)) = ep ∙ ap (λ (l : List ℕ). field 2 8 l) ex in
      rw (eq-eqb (first_of (state_rows v m s [])) 0 e, ne_eqb s.pending 0 ne) (
        ap (λ (q : State). record { answer = Done; state = q })
            (et ∙ ap (λ (h : Geometry). forced_state s h.pages page) eg ∙ ap (forced_state s (geometry_of v).pages) p),
        ap (λ (h : Geometry). splice v (start h (log_slot h (s.durable + 1))) x) eg ∙ ap
            (splice v (start (geometry_of v) (log_slot (geometry_of v) (s.durable + 1)))) ex,
      )

  -- the record as the code lends it
  abbrev pub lent : ℕ → List ℕ
  lent from = take (from + 64 - from) (drop from m)

  lent_is : (from : ℕ) → from ≡ pending_at (s.durable + 1) → lent from ≡ pending_bytes m (s.durable + 1)
  lent_is from e = part-lent m from 64 (from + 64) refl ∙ ap (λ (k : ℕ). part m k 64) e

  pub lent_fits : (g : Geometry) (from at : ℕ) → Room g → from ≡ pending_at (s.durable + 1) → at ≡ start g (log_slot g (s.durable + 1))
      → at + length (lent from) ≤ length v
  lent_fits g from at r ef ea =
      omega (arith, r.place, lent_length m from 64 (omega (arith, r.memory)))

  pub finish : (g : Geometry) (from at page : ℕ) (t : State) (w : List ℕ) → g ≡ geometry_of v → first_of (state_rows v m s []) ≡ 0 →
      (s.pending ≡ 0 → ⊥)
      → from ≡ pending_at (s.durable + 1) → at ≡ start g (log_slot g (s.durable + 1)) → page ≡ field 2 8 (lent from)
      → t ≡ forced_state s g.pages page → w ≡ splice v at (lent from)
      → Gives v Done t w (force_of v m s)
  finish g from at page t w eg e ne ef ea ep et ew =
      let d = done g (lent from) page t eg e ne (lent_is from ef) ep et in
      (d.0, ew ∙ ap (λ (k : ℕ). splice v k (lent from)) ea ∙ d.1)

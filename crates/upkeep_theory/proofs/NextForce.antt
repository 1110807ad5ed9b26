-- T2: the Force that upkeep advises leads to the next phase, after the user's record and after a refreshing put.
use mathlib.Core.Path.{◌≡◌, ap}
use mathlib.Core.Bool.{true, false}
use mathlib.Core.List.{List}
use Prim.Native.Nat.{ℕ, suc, ◌+◌, ◌-◌, ◌≤◌, ◌<◌}
use native.Mathlib.Omega.{arith}
use lib.ListN.{length}
use Rattle.model.specs.Tables.{within}
use Rattle.model.specs.Geometry.{ring, top_number, store, log_slot}
use Rattle.model.specs.State.{frame_count, pending_bytes, note_pending}
use Rattle.model.specs.Outcome.{StoredItem}
use Rattle.model.specs.Effects.{forced_state}
use Rattle.model.specs.Calls.{no_payload}
use Rattle.model.specs.declared.{command.Command.TheVariants.Force, geometry.Geometry.Geometry, state.State.State}
use Rattle.model.specs.AbstractLog.{Logged}
use Rattle.history.proofs.Context.{Ctx}
use Rattle.upkeep_policy.specs.Upkeep.{reserve, ever_written}
use Rattle.upkeep_theory.proofs.Shape.{Advised}
use Rattle.upkeep_theory.proofs.Tidy.{Tidy, since_written}
use Rattle.upkeep_theory.proofs.Step.{l2, place2}
use Rattle.upkeep_theory.proofs.Written.{few-live}
use Rattle.upkeep_theory.proofs.Measure.{five-left}
use Rattle.upkeep_theory.proofs.Run.{few-forced}
use Rattle.upkeep_theory.proofs.Halfway.{Halfway, halfway-force}
use Rattle.upkeep_theory.proofs.Outcomes.{since-same, force-out, bytes-size, force-notes}
use Rattle.upkeep_theory.proofs.NextSums.{rest_eq, left-eq, n-step, n-wait, n-some, n-one, d-wait, d-put}
use Rattle.upkeep_theory.proofs.StateCounts.{forced-counts}
use Rattle.upkeep_theory.proofs.Phases.{rest_at, Phase, quiet, half, rest, left, Leads}
use Rattle.upkeep_theory.proofs.Done.{no_row}

module _ {C : Type 0} {g : Geometry} {v m : List ℕ} {past : List StoredItem} {s : State} {k w : List Logged}
    (x : Ctx C g v m past s k w) (turns : ring g ≡ true) (n2 : 2 ≤ g.notes) (W : ℕ)
    (room : g.pages + W + 2 ≤ g.notes)
    (few : ever_written s ≤ W) (cuts : ℕ) (t : Tidy g v s cuts) (cap : W + cuts ≤ reserve g) (r : ℕ)
    (fr : within (frame_count (length m)) r ≡ true) where
  force-counts : (p : ℕ) → since_written g (store g v (log_slot g (suc s.durable)) (pending_bytes m (suc s.durable)))
      (forced_state s g.pages p).notes t.z.k0
      ≡ since_written g v s.notes t.z.k0
  force-counts p =
      rw (forced-counts s g.pages p).2 (since-same g v _ (force-notes x (l2 x turns n2) n2) s.notes t.z.k0)

  forced-few : (s' : State) (p : ℕ) → s' ≡ forced_state s g.pages p → ever_written s' ≤ W
  forced-few s' p e = rw e (omega (arith, few-forced x g.pages p))

  no-noting : 1 ≤ s.pending → note_pending s.note ≡ false
  no-noting b = rw (t.both b)

  after-wait : (N p : ℕ) (v' m' : List ℕ) (s' : State) → s' ≡ forced_state s g.pages p
      → v' ≡ store g v (log_slot g (suc s.durable)) (pending_bytes m (suc s.durable))
      → 1 ≤ s.pending → rest t W + 1 ≤ N → s.durable + s.pending + left t W < top_number
      → Phase g W t.z.k0 v' m' s' r (N - 1)
  after-wait N p v' m' s' e f b h d =
      let q = forced-counts s g.pages p in
      let o : note_pending (forced_state s g.pages p).note ≡ false = rw q.3 (no-noting b) in
      rw (e, f) (quiet 0 (omega arith) o (omega (arith, q.1, t.sums.pending-one))
      (n-wait (rest t W) _ N (rest_eq W g.pages t.z.k0 _ _ _ _ (force-counts p) q.2) h)
      (d-wait s.durable s.pending (left t W) _ _ top_number q.0 b (left-eq W _ _ (force-counts p)) d)
      (λ c z. omega arith))

  after-put : (N p : ℕ) (v' m' : List ℕ) (s' : State) → s' ≡ forced_state s g.pages p
      → v' ≡ store g v (log_slot g (suc s.durable)) (pending_bytes m (suc s.durable))
      → 1 ≤ s.pending → Halfway g v s → 1 ≤ N → rest t W ≤ N + 2 → s.durable + s.pending + left t W ≤ top_number
      → Phase g W t.z.k0 v' m' s' r (N - 1)
  after-put N p v' m' s' e f b y one h d =
      let q = forced-counts s g.pages p in
      let o : note_pending (forced_state s g.pages p).note ≡ false = rw q.3 (no-noting b) in
      rw (e, f) (half o (omega (arith, q.1, t.sums.pending-one))
      (halfway-force x turns n2 (l2 x turns n2) y _ (bytes-size x (l2 x turns n2) n2) g.pages p)
      (n-step (rest t W) _ N 2 (rest_eq W g.pages t.z.k0 _ _ _ _ (force-counts p) q.2) one h)
      (d-put s.durable s.pending (left t W) _ _ top_number q.0 b (left-eq W _ _ (force-counts p)) d))

  pub unforced-next : (N : ℕ) → Advised v m s r (Force, no_payload) → 1 ≤ s.pending → rest t W + 1 ≤ N
      → s.durable + s.pending + left t W < top_number → Leads t W m r N (Force, no_payload)
  unforced-next N a b h d =
      let o = force-out x (l2 x turns n2) n2 b (no_row x n2 r fr (Force, no_payload) a) in (
        n-some (rest t W) N h,
        record {
          fewer = forced-few _ _ o.0;
          size = ap length o.2;
          phase = after-wait N _ _ _ _ o.0 o.1 b h d;
        },
      )

  -- a renewal that is halfway has its five calls left
  pub half-left : Halfway g v s → 5 ≤ rest_at g W t.z.k0 v s
  half-left y =
      let e : y.place ≡ place2 x turns n2 = omega (arith, y.second) in
      five-left x turns n2 cuts t W (few-live x W few) (omega (arith, y.second)) (rw e at y.needed)
      (rw e at y.written)

  pub put_next : (N : ℕ) → Advised v m s r (Force, no_payload) → 1 ≤ s.pending → Halfway g v s → rest t W ≤ N + 2
      → s.durable + s.pending + left t W ≤ top_number
      → Leads t W m r N (Force, no_payload)
  put_next N a b y h d =
      let o = force-out x (l2 x turns n2) n2 b (no_row x n2 r fr (Force, no_payload) a) in
      let one : 1 ≤ N = n-one (rest t W) N 2 5 (half-left y) (omega arith) h in (
        one,
        record {
          fewer = forced-few _ _ o.0;
          size = ap length o.2;
          phase = after-put N _ _ _ _ o.0 o.1 b y one h d;
        },
      )

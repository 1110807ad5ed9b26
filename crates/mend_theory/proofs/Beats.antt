-- ME2: each record that upkeep stores on its way to rest takes four of its calls: the put, Force, Write and Note. So it
-- stores few.
use mathlib.Core.Path.{◌≡◌, refl, ◌∙◌}
use mathlib.Core.Bool.{Bool, true, false, cond}
use mathlib.Core.List.{List}
use Prim.Native.Nat.{ℕ, suc, ◌+◌, ◌-◌, ◌*◌, ◌≤◌}
use native.Mathlib.Omega.{arith}
use lib.ListN.{length}
use borrow.Author.Tests.{eq-eqb}
use Rattle.laws.proofs.Tables.{true-not-false}
use Rattle.model.specs.Tables.{first_of, within}
use Rattle.model.specs.Geometry.{ring, geometry_of, store, log_slot}
use Rattle.model.specs.Bytes.{field}
use Rattle.model.specs.Item.{is_written}
use Rattle.model.specs.Scan.{note_record}
use Rattle.model.specs.State.{frame_count, note_pending, note_needed, pending_bytes, holder}
use Rattle.model.specs.Refusals.{change_rows}
use Rattle.model.specs.Outcome.{StoredItem, volume_after}
use Rattle.model.specs.Effects.{forced_state}
use Rattle.model.specs.Calls.{Call, rows_of, outcome_of, no_payload}
use Rattle.model.specs.AbstractLog.{Logged}
use Rattle.model.specs.declared.{change.Change.TheVariants.Put, geometry.Geometry.Geometry, item.Note.Note}
use Rattle.model.specs.declared.command.Command.TheVariants.{Force}
use Rattle.model.specs.declared.command.Command.TheVariants.{Note as NoteCall}
use Rattle.model.specs.declared.{state.State.State}
use Rattle.history.proofs.Context.{Ctx, geo}
use Rattle.upkeep_policy.specs.Upkeep.{make, note_position, free_slot, upkeep_of, ever_written}
use Rattle.upkeep_theory.proofs.Halfway.{Halfway, halfway-force, halfway-write, halfway-put}
use Rattle.upkeep_theory.proofs.Outcomes.{load-out, put-out, force-out, bytes-size, write-out, backup-out, note-out}
use Rattle.upkeep_theory.proofs.Done.{no_row}
use Rattle.upkeep_theory.proofs.Load.{weight}
use Rattle.upkeep_theory.proofs.Shape.{Renewal, loads, backs, writes, puts, Advised, notes, forces, by_note, by_log, advised}
use Rattle.upkeep_theory.proofs.StateCounts.{noted-counts, appended-counts, forced-counts}
use Rattle.upkeep_theory.proofs.Step.{place2, needs-second}
use Rattle.upkeep_theory.proofs.Tidy.{Tidy}
use Rattle.upkeep_theory.proofs.Written.{few-live, few-next}
use Rattle.mend_policy.specs.MendClaim.{writes_page}
use Rattle.model.specs.Types.{PendingNote, None, Some}

-- where in the four calls a state is, with four for each durable change, and one for each call
pub data Beat (g : Geometry) (v : List ℕ) (s : State) (n : ℕ) : Type 0 where
  calm : s.pending ≡ 0 → 4 * s.durable + 3 ≤ n → Beat g v s n
  -- a record that no renewal of upkeep's waits for
  loose : s.pending ≡ 1 → 4 * s.durable + 6 ≤ n → Beat g v s n
  putting : s.pending ≡ 1 → note_pending s.note ≡ false → Halfway g v s → 4 * s.durable + 4 ≤ n → Beat g v s n
  forced : s.pending ≡ 0 → note_pending s.note ≡ false → Halfway g v s → 4 * s.durable + 1 ≤ n → Beat g v s n
  owing : s.pending ≡ 0 → note_pending s.note ≡ true → 4 * s.durable + 2 ≤ n → Beat g v s n

pub beat-least : (g : Geometry) (v : List ℕ) (s : State) (n : ℕ) → Beat g v s n → 4 * s.durable + 1 ≤ n
beat-least g v s n (calm z le) = omega (arith, le)
beat-least g v s n (loose z le) = omega (arith, le)
beat-least g v s n (putting z q y le) = omega (arith, le)
beat-least g v s n (forced z q y le) = le
beat-least g v s n (owing z q le) = omega (arith, le)

is-owed : (y : PendingNote) → note_pending y ≡ true → (n : Note) × (y ≡ Some n)
is-owed None t = absurd (true-not-false t refl)
is-owed (Some n) t = (n, refl)

module _ {C : Type 0} {g : Geometry} {v m : List ℕ} {past : List StoredItem} {s : State} {k w : List Logged}
    (x : Ctx C g v m past s k w) (turns : ring g ≡ true) (l2 : 2 ≤ g.records) (n2 : 2 ≤ g.notes) (W : ℕ)
    (room : g.pages + W + 2 ≤ g.notes) (few : ever_written s ≤ W) (t : Tidy g v s 0) (r n : ℕ) where
  abbrev After : Call → Type 0
  After c = Beat g (volume_after v (outcome_of c v m s).stored) (outcome_of c v m s).state (suc n)

  -- Note
  by-note : (c : Call) → note_pending s.note ≡ true → c ≡ (NoteCall, no_payload) → first_of (rows_of c v m s) ≡ 0 → Beat g v s n → After c
  by-note c a e z b =
      let y = is-owed s.note a in
      let o = note-out x l2 n2 y.0 y.1 (rw e at z) in
      let q = noted-counts s y.0 in
      let d : (outcome_of c v m s).state.durable ≡ s.durable = rw (e, o.0) q.1 in
      let u : (outcome_of c v m s).state.pending ≡ s.pending = rw (e, o.0) q.2 in
      go d u b
    where
      go : (outcome_of c v m s).state.durable ≡ s.durable → (outcome_of c v m s).state.pending ≡ s.pending → Beat g v s n → After c
      go d u (calm z le) = calm (u ∙ z) (rw d (omega (arith, le)))
      go d u (loose z le) = loose (u ∙ z) (rw d (omega (arith, le)))
      go d u (putting z q y le) = absurd (true-not-false a q)
      go d u (forced z q y le) = absurd (true-not-false a q)
      go d u (owing z q le) = calm (u ∙ z) (rw d (omega (arith, le)))

  -- Force
  by-force : (c : Call) → note_pending s.note ≡ false → 1 ≤ s.pending → c ≡ (Force, no_payload) → first_of (rows_of c v m s) ≡ 0
      → Beat g v s n → After c
  by-force c a one e z b =
      let o = force-out x l2 n2 one (rw e at z) in
      let xs = pending_bytes m (suc s.durable) in
      let q = forced-counts s g.pages (field 2 8 xs) in
      rw (e, o.0, o.1) (go q b)
    where
      go : ((forced_state s g.pages (field 2 8 (pending_bytes m (suc s.durable)))).durable ≡ suc s.durable)
          × ((forced_state s g.pages (field 2 8 (pending_bytes m (suc s.durable)))).pending ≡ s.pending - 1)
          × ((forced_state s g.pages (field 2 8 (pending_bytes m (suc s.durable)))).notes ≡ s.notes)
          × ((forced_state s g.pages (field 2 8 (pending_bytes m (suc s.durable)))).note ≡ s.note)
          × ((forced_state s g.pages (field 2 8 (pending_bytes m (suc s.durable)))).frames ≡ s.frames)
          → Beat g v s n
          → Beat g (store g v (log_slot g (suc s.durable)) (pending_bytes m (suc s.durable)))
          (forced_state s g.pages (field 2 8 (pending_bytes m (suc s.durable)))) (suc n)
      go q (calm z le) = absurd (omega (arith, one, z))
      go q (loose z le) = calm (omega (arith, q.1, z)) (omega (arith, q.0, le))
      go q (putting z u y le) =
          forced (omega (arith, q.1, z)) (rw q.3 u) (halfway-force x turns n2 l2 y _ (bytes-size x l2 n2) g.pages _)
          (omega (arith, q.0, le))
      go q (forced z u y le) = absurd (omega (arith, one, z))
      go q (owing z u le) = absurd (omega (arith, one, z))

  -- a renewal's call
  module _ (silent : s.pending ≡ 0) (noting : note_pending s.note ≡ false) (q : ℕ) (written : Bool) (c : Call)
      (z : first_of (rows_of c v m s) ≡ 0) (heavy : Halfway g v s → 3 ≤ weight c)
      (second : written ≡ true → (place2 x turns n2 + g.notes ≡ suc s.notes)
      × (note_needed g v s.notes (suc (place2 x turns n2)) ≡ true)
      × (is_written (note_record g v (suc (place2 x turns n2))) ≡ true) × (q ≡ (note_record g v (suc (place2 x turns n2))).page)) where
    by-renewal : Renewal v m s r q written c → Beat g v s n → After c
    by-renewal re (loose y le) = absurd (omega (arith, silent, y))
    by-renewal re (putting y u f le) = absurd (omega (arith, silent, y))
    by-renewal re (owing y u le) = absurd (true-not-false u noting)
    by-renewal (loads h a e) (calm y le) =
        let o = load-out x l2 n2 q r (rw e at z) in
        rw (e, o.0.1, o.1) (calm y (omega (arith, le)))
    by-renewal (backs h u b a e) (calm y le) =
        let o = backup-out x l2 n2 q (free_slot (geometry_of v) s) (rw e at z) in
        rw (e, o.state-is) (calm y (omega (arith, le)))
    by-renewal (writes h u d a e) (calm y le) =
        let o = write-out x l2 n2 q (rw e at z) d in
        rw (e, o.state-is) (calm y (omega (arith, le)))
    by-renewal (puts h u d a e) (calm y le) =
        let p2 = second u in
        let z' : first_of (change_rows v m s q (Put 0 1)) ≡ 0 = rw e at z in
        let o = put-out x l2 n2 q z' in
        let f = appended-counts s q (holder s q) in
        let half = halfway-put x turns n2 W room (few-live x W few) (few-next x W few) 0 t noting silent p2.0 p2.1 p2.2 q
        p2.3 z' in
        rw (e, o.0, o.1) (putting (omega (arith, f.2, y)) (rw f.3 noting) half (omega (arith, f.1, le)))
    by-renewal (loads h a e) (forced y u f le) = absurd (let l = heavy f in let l' : 3 ≤ 0 = rw e at l in omega arith)
    by-renewal (backs h u' b a e) (forced y u f le) = absurd (let l = heavy f in let l' : 3 ≤ 1 = rw e at l in omega arith)
    by-renewal (puts h u' d a e) (forced y u f le) = absurd (let l = heavy f in let l' : 3 ≤ 1 = rw e at l in omega arith)
    by-renewal (writes h u' d a e) (forced y u f le) =
        let o = write-out x l2 n2 q (rw e at z) d in
        rw (e, o.state-is) (owing y refl (omega (arith, le)))

  pub beat-on : (fr : within (frame_count (length m)) r ≡ true) (c : Call) → upkeep_of v m s r ≡ make c → Beat g v s n → After c
  beat-on fr c e b = go (advised v m s r c e) b
    where
      heavy : note_pending s.note ≡ false → s.pending ≡ 0 → Halfway g v s → 3 ≤ weight c
      heavy a q y = halfway-write x turns n2 0 t a q y r c e

      go : Advised v m s r c → Beat g v s n → After c
      go (notes a i) b = by-note c a i (no_row x n2 r fr c (notes a i)) b
      go (forces a one i) b = by-force c a one i (no_row x n2 r fr c (forces a one i)) b
      go (by_note a q o i lo hi h u) b =
          let f = needs-second x turns n2 0 t i lo hi (rw (geo x) at h) in
          let at2 : note_position (geometry_of v) s i ≡ suc (place2 x turns n2) = rw (geo x) f.3 in
          by-renewal q a _ _ c (no_row x n2 r fr c (by_note a q o i lo hi h u)) (heavy a q)
          (λ wr. (f.1, f.2, rw (geo x, f.3) at wr, rw (geo x, f.3) refl)) u b
      go (by_log a q o n1 z2 i lo hi h fi u) b =
          by-renewal q a _ false c (no_row x n2 r fr c (by_log a q o n1 z2 i lo hi h fi u)) (heavy a q)
          (λ wr. absurd (true-not-false wr refl)) u b

-- after mending's call, made at rest
pub first-beat : {C : Type 0} {g : Geometry} {v m : List ℕ} {past : List StoredItem} {s : State} {k w : List Logged}
    (x : Ctx C g v m past s k w) (l2 : 2 ≤ g.records) (n2 : 2 ≤ g.notes) → s.pending ≡ 0 → (r p : ℕ) (written : Bool) (c : Call)
    → Renewal v m s r p written c → first_of (rows_of c v m s) ≡ 0
    → Beat g (volume_after v (outcome_of c v m s).stored) (outcome_of c v m s).state (4 * s.durable + cond (writes_page p c.0) 3 6)
first-beat {v = v} {s = s} x l2 n2 y r p written c (loads h a e) z =
    let o = load-out x l2 n2 p r (rw e at z) in rw (e, o.0.1, o.1) (calm y (omega arith))
first-beat {v = v} {s = s} x l2 n2 y r p written c (backs h u b a e) z =
    let o = backup-out x l2 n2 p (free_slot (geometry_of v) s) (rw e at z) in rw (e, o.state-is) (calm y (omega arith))
first-beat {v = v} {s = s} x l2 n2 y r p written c (writes h u d a e) z =
    let o = write-out x l2 n2 p (rw e at z) d in rw (e, o.state-is, eq-eqb p p refl) (calm y (omega arith))
first-beat {v = v} {s = s} x l2 n2 y r p written c (puts h u d a e) z =
    let o = put-out x l2 n2 p (rw e at z) in
    let f = appended-counts s p (holder s p) in
    rw (e, o.0, o.1) (loose (omega (arith, f.2, y)) (omega (arith, f.1)))

-- What upkeep advises in a machine that a history reached is done: the call is not refused, and does not answer
-- Nothing.
use Rattle.history.proofs.Refusals.{call-refusal, own_rows, rows_are}
use mathlib.Core.Path.{sym, ◌≡◌, refl, ◌∙◌}
use mathlib.Core.Logic.{◌≢◌}
use mathlib.Core.Bool.{Bool, true, false, cond, not}
use mathlib.Core.List.{List}
use Prim.Native.Nat.{ℕ, ◌≤◌}
use native.Mathlib.Omega.{arith}
use lib.ListN.{length}
use borrow.Author.Tests.{ne_eqb, not-true}
use Rattle.laws.proofs.Tables.{within-holds, true-not-false}
use Rattle.laws.proofs.Search.{first-from}
use Rattle.model.specs.Tables.{first_of, within}
use Rattle.model.specs.Geometry.{geometry_of}
use Rattle.model.specs.Change.{change_fits}
use Rattle.model.specs.Index.{entry_of, slot_used}
use Rattle.model.specs.State.{frame_count, log_full, notes_full, note_pending, held, blank}
use Rattle.model.specs.Refusals.{page_dirty, load_rows, change_rows, write_rows}
use Rattle.laws.proofs.Conditions.{not_durable, chain_broken, chain_below}
use Rattle.model.specs.Refusals.{backup_rows}
use Rattle.model.specs.Outcome.{StoredItem, refusal_of, decided}
use Rattle.model.specs.Effects.{note_stored, backup_done, change_done, force_done, load_done, write_outcome}
use Rattle.model.specs.Calls.{Call, outcome_of, rows_of, no_payload}
use Rattle.model.specs.declared.{change.Change.TheVariants.Put, answer.Answer.Answer, answer.Repair.Repair}
use Rattle.model.specs.declared.{geometry.Geometry.Geometry, state.State.State}
use Rattle.model.specs.declared.command.Command.TheVariants.{Load, Force, Write}
use Rattle.model.specs.declared.answer.Answer.TheVariants.{Nothing, Done, Repaired}
use Rattle.model.specs.declared.command.Command.TheVariants.{Backup, Note}
use Rattle.model.specs.AbstractLog.{Logged}
use Rattle.history.proofs.Logs.{last-mono}
use Rattle.history.proofs.Context.{Ctx, geo, len, last_entry, durable-last}
use Rattle.history.proofs.Loads.{never-broken}
use Rattle.history.proofs.Reached.{live}
use Rattle.upkeep_policy.specs.Upkeep.{free_slot, refresh}
use Rattle.upkeep_policy.specs.UpkeepClaim.{AdviceIsDone}
use Rattle.upkeep_theory.proofs.Quiet.{never-blocked, never-early}
use Rattle.upkeep_theory.proofs.Pages.{Known, note-known, record-known}
use Rattle.upkeep_theory.proofs.Shape.{Renewal, loads, backs, writes, puts, Advised, notes, forces, by_note}
use Rattle.upkeep_theory.proofs.Shape.{by_log, advised}
use Rattle.model.specs.Types.{PendingNote, None, Some}

-- a call that is done
pub record IsDone (a : Answer) : Type 0 where
  pub taken : refusal_of a ≡ 0
  pub busy : a ≢ Nothing

is-done : IsDone Done
is-done = record { taken = refl; busy = λ e. let z : ◌≡◌ {A = ℕ} 0 1 = cc in omega arith }

is-repaired : (r : Repair) → IsDone (Repaired r)
is-repaired r = record { taken = refl; busy = λ e. let z : ◌≡◌ {A = ℕ} 0 1 = cc in omega arith }

-- the two rows of a walk that neither breaks nor goes below the run
abbrev walk_rows : Bool → Bool → ℕ
walk_rows a b = cond a 19 (cond b 23 0)

walk_ends : (a b : Bool) → walk_rows a b ≢ 19 → walk_rows a b ≢ 23 → walk_rows a b ≡ 0
walk_ends true b p q = absurd (p refl)
walk_ends false true p q = absurd (q refl)
walk_ends false false p q = refl

module _ {C : Type 0} {g : Geometry} {v m : List ℕ} {past : List StoredItem} {s : State} {k w : List Logged}
    (x : Ctx C g v m past s k w) where
  -- ---- the two that close what is open

  note-done : note_pending s.note ≡ true → IsDone (outcome_of (Note, no_payload) v m s).answer
  unfolding decided own_rows
  note-done t = rw (rows_are x (Note, no_payload)) (go s.note t)
    where
      go : (y : PendingNote) → note_pending y ≡ true → IsDone (note_stored v m s y).answer
      go None t = absurd (true-not-false t refl)
      go (Some n) t = is-done

  force-done : 1 ≤ s.pending → IsDone (outcome_of (Force, no_payload) v m s).answer
  unfolding decided force_done own_rows
  force-done b = rw (rows_are x (Force, no_payload), ne_eqb s.pending 0 (λ z. omega arith)) is-done

  -- ---- a renewal of page p, while nothing is owed or pending

  module _ (noting : note_pending s.note ≡ false) (quiet : s.pending ≡ 0) (p : ℕ)
      (known : Known g.pages k p) where
    in-store : within (geometry_of v).pages p ≡ true
    in-store = rw (geo x) (within-holds g.pages p known.low known.high)

    not-blank : blank s p ≡ false
    not-blank =
        let le = last-mono p x.all (length x.all) (length k) (omega (arith, len x)) in
        ne_eqb (entry_of s.index p).last 0 (λ z. omega (
          arith,
          known.some,
          last_entry x p known.low known.high,
          durable-last x p known.low known.high,
        ))

    load-done : (r : ℕ) → within (frame_count (length m)) r ≡ true → held s p ≡ false → first_of (load_rows v m s p r) ≢ 23
        → IsDone (outcome_of (Load p r, no_payload) v m s).answer
    unfolding decided load_done own_rows
    load-done r f h n =
        let a : first_of (load_rows v m s p r) ≡ walk_rows (chain_broken (geometry_of v) v s p)
        (chain_below (geometry_of v) v s p) =
        rows_are x (Load p r, no_payload) ∙ rw (in-store, f, not-blank, h, never-blocked x quiet r) in
        let z : first_of (load_rows v m s p r) ≡ 0 =
        a ∙ walk_ends (chain_broken (geometry_of v) v s p) (chain_below (geometry_of v) v s p)
        (λ e. never-broken x p r (a ∙ e)) (λ e. n (a ∙ e)) in
        rw z (is-repaired _)

    early : held s p ≡ true → not_durable m s p ≡ false
    early h = never-early x quiet p known.low (rw h)

    backup-done : held s p ≡ true → free_slot (geometry_of v) s ≤ (geometry_of v).slots
        → notes_full (geometry_of v) v s ≡ false
        → IsDone (outcome_of (Backup p (free_slot (geometry_of v) s), no_payload) v m s).answer
    unfolding decided backup_done own_rows free_slot
    backup-done h b n =
        let q = first-from (λ (b : ℕ). not (slot_used b s.index)) (geometry_of v).slots 1 in
        let u : slot_used (free_slot (geometry_of v) s) s.index ≡ false = not-true _ (q.hit (omega arith)) in
        let i : within (geometry_of v).slots (free_slot (geometry_of v) s) ≡ true = within-holds _ _ q.low b in
        let z : first_of (backup_rows v m s p (free_slot (geometry_of v) s)) ≡ 0 =
        rows_are x (Backup p (free_slot (geometry_of v) s), no_payload) ∙ rw (in-store, i, h, noting, n, early h, u) in
        rw z is-done

    write_done : held s p ≡ true → page_dirty s p ≡ true → notes_full (geometry_of v) v s ≡ false
        → IsDone (outcome_of (Write p, no_payload) v m s).answer
    unfolding decided write_outcome own_rows
    write_done h d n =
        let z : first_of (write_rows v m s p) ≡ 0 = rows_are x (Write p, no_payload) ∙ rw (in-store, h, d, noting, n, early h) in
        rw (z, d) is-done

    put-done : held s p ≡ true → log_full (geometry_of v) v s ≡ false → IsDone (outcome_of (refresh m s p) v m s).answer
    unfolding decided change_done own_rows change_fits
    put-done h f =
        let z : first_of (change_rows v m s p (Put 0 1)) ≡ 0 =
        rows_are x (refresh m s p) ∙ rw (in-store, h, ne_eqb s.pending 16 (λ e. omega arith), f) in
        rw z is-done

    pub renewal-done : (r : ℕ) (written : Bool) (c : Call) → within (frame_count (length m)) r ≡ true
        → Renewal v m s r p written c
        → IsDone (outcome_of c v m s).answer
    renewal-done r written c f (loads h n e) = rw e (load-done r f h n)
    renewal-done r written c f (backs h t b n e) = rw e (backup-done h b n)
    renewal-done r written c f (writes h t d n e) = rw e (write_done h d n)
    renewal-done r written c f (puts h t d n e) = rw e (put-done h n)

  pub advice-done : 2 ≤ g.notes → (r : ℕ) → within (frame_count (length m)) r ≡ true → (c : Call) → Advised v m s r c
      → IsDone (outcome_of c v m s).answer
  advice-done two r f c (notes a e) = rw e (note-done a)
  advice-done two r f c (forces a b e) = rw e (force-done b)
  advice-done two r f c (by_note a q o i lo hi t n) =
      renewal-done a q _ (rw (geo x) (note-known x two i lo hi (rw (geo x) at t))) r _ c f n
  advice-done two r f c (by_log a q o n1 n2 i lo hi t fi n) =
      renewal-done a q _ (rw (geo x) (record-known x i lo (rw (geo x) at hi) (rw (geo x) at t))) r false c f n

  -- so no row of its table holds
  pub no_row : (two : 2 ≤ g.notes) (r : ℕ) → within (frame_count (length m)) r ≡ true → (c : Call) → Advised v m s r c
      → first_of (rows_of c v m s) ≡ 0
  no_row two r f c a = sym (call-refusal c v m s) ∙ (advice-done two r f c a).taken

pub advice-is-done : AdviceIsDone
advice-is-done h legal m s e two r f c a =
    let x = live h legal m s e in
    let d = advice-done x (rw (geo x) at two) r f c (advised _ m s r c a) in
    (d.taken, d.busy)

-- A machine that a history reached, and in which nothing is pending: no frame is blocked, and every frame's number is
-- durable. So upkeep's
-- idle excludes 10 and 15.
use mathlib.Core.Path.{◌≡◌, refl, ap}
use mathlib.Core.Bool.{false, ◌&&◌, not}
use mathlib.Core.List.{List, [], ◌∷◌}
use Prim.Native.Nat.{ℕ, ◌-◌, ◌≤◌}
use native.Mathlib.Omega.{arith}
use native.Mathlib.Decide.{dec_lt, ℕ_discrete}
use lib.Dec.{eqb}
use lib.ListN.{length, get_or-eq_default}
use borrow.Author.Tests.{le-ltb, eq-eqb, ne_eqb}
use Rattle.laws.proofs.Tables.{and_right, true-not-false}
use Rattle.model.specs.Tables.{Row, first_of, within}
use Rattle.model.specs.Geometry.{top_number, geometry_of}
use Rattle.model.specs.Item.{image_lsn}
use Rattle.model.specs.Index.{entry_of, slot_used}
use Rattle.model.specs.State.{frame_count, frame_bytes, frame_of, holder, held, blank, log_full, notes_full, note_pending}
use Rattle.model.specs.State.{empty_frame}
use Rattle.model.specs.Refusals.{page_pending, frame_blocked, page_dirty}
use Rattle.laws.proofs.Conditions.{not_durable, chain_broken, chain_below}
use Rattle.model.specs.Outcome.{StoredItem, refusal_of}
use Rattle.model.specs.Calls.{Call, outcome_of, no_payload}
use Rattle.model.specs.declared.{geometry.Geometry.Geometry, state.Entry.Entry, state.Frame.Frame, state.State.State}
use Rattle.model.specs.declared.command.Command.TheVariants.{Begin, Load, Force, Write, Release, StartCarry, Restamp, FinishCarry}
use Rattle.model.specs.declared.command.Command.TheVariants.{Change, Backup, Note}
use Rattle.model.specs.AbstractLog.{Logged}
use Rattle.model.specs.Carry.{carries}
use Rattle.history.proofs.Logs.{last_at, last_of, body_of, last-le}
use Rattle.history.proofs.Leaf.{frame-lsn}
use Rattle.history.proofs.Context.{Ctx, in-range, sized, len, few, body-size, entry-is, found-frame}
use Rattle.history.proofs.Loads.{Others, none_other, until}
use Rattle.history.proofs.Refusals.{call-refusal, own_rows, rows_are}
use Rattle.history.proofs.Reached.{live}
use Rattle.upkeep_policy.specs.UpkeepClaim.{NotBlocked, IdleIsFree}
use Rattle.upkeep_theory.proofs.Idle.{idle-closed}

by_rows : (ts : List Row) → Others 10 ts → Others 15 ts → NotBlocked (first_of ts)
by_rows ts a b = record {
  not-blocked = none_other 10 (λ z. omega arith) ts a;
  not-early =
      none_other 15 (λ z. omega arith) ts b;
}

module _ {C : Type 0} {g : Geometry} {v m : List ℕ} {past : List StoredItem} {s : State} {k w : List Logged}
    (x : Ctx C g v m past s k w) (quiet : s.pending ≡ 0) where
  -- all changes are durable
  pub all-durable : length x.all ≡ length k
  all-durable = omega (arith, len x, x.al.log.pending-is)

  pub page-quiet : (p : ℕ) → 1 ≤ p → p ≤ g.pages → page_pending s p ≡ false
  page-quiet p lo hi =
      let e = entry-is x p lo hi in
      let a : (entry_of s.index p).last ≡ last_at p x.all (length x.all) = ap (λ (y : Entry). y.last) e in
      let d : (entry_of s.index p).durable ≡ last_at p x.all (length k) = ap (λ (y : Entry). y.durable) e in
      let q : last_at p x.all (length x.all) ≡ last_at p x.all (length k) = ap (last_at p x.all) all-durable in
      le-ltb (entry_of s.index p).durable (entry_of s.index p).last (omega arith)

  -- 10
  pub never-blocked : (f : ℕ) → frame_blocked s f ≡ false
  never-blocked f = elim (ℕ_discrete (frame_of s f).page 0) [
    | yes z ↦ rw (eq-eqb (frame_of s f).page 0 z)
    | no nz ↦ elim (dec_lt (f - 1) 16) [
      | yes b ↦
          let i = x.al.frames.inside (f - 1) b nz in
          let fr = x.al.frames.each (f - 1) i nz in
          rw (ne_eqb (frame_of s f).page 0 nz, page-quiet (frame_of s f).page fr.low fr.high)
      | no b ↦ absurd (nz
          (ap (λ (y : Frame). y.page)
          (get_or-eq_default s.frames empty_frame {n = f - 1} (omega (arith, x.al.frames.size)))))
    ]
  ]

  -- 15
  pub never-early : (p : ℕ) → 1 ≤ p → not (held s p) ≡ false → not_durable m s p ≡ false
  never-early p lo t =
      let f = found-frame x p lo t in
      let pg : p ≤ 64 = omega (arith, f.framed.high, (sized x).p-high) in
      let nm : last_of p x.all ≤ top_number = omega (arith, few x, last-le p x.all (length x.all)) in
      let e : image_lsn (frame_bytes m (holder s p)) ≡ last_of p x.all =
      rw f.framed.frame_is (frame-lsn g p (last_of p x.all) (body_of p x.all) pg nm (body-size x p)) in
      le-ltb s.durable (image_lsn (frame_bytes m (holder s p)))
      (omega (arith, last-le p x.all (length x.all), all-durable, x.al.log.durable-is))

  -- ---- no call is refused 10 or 15

  own-free : (c : Call) → carries c ≡ false → NotBlocked (first_of (own_rows x c))
  unfolding own_rows
  own-free (Begin p f fill, _) o =
      rw (never-blocked f)
      (by_rows ((not (within (geometry_of v).pages p), 3) ∷ (not (within (frame_count (length m)) f), 4)
      ∷ (not (blank s p), 9)
      ∷ (eqb s.pending 16, 11) ∷ (log_full (geometry_of v) v s, 12) ∷ []) (omega arith) (omega arith))
  own-free (Load p f, _) o =
      rw (never-blocked f)
      (by_rows ((not (within (geometry_of v).pages p), 3) ∷ (not (within (frame_count (length m)) f), 4) ∷ (blank s p, 7)
      ∷ (held s p, 9)
      ∷ (chain_broken (geometry_of v) v s p, 19) ∷ (chain_below (geometry_of v) v s p, 23) ∷ []) (omega arith)
      (omega arith))
  own-free (Change p c, payload) o =
      by_rows (own_rows x (Change p c, payload)) (omega arith) (omega arith)
  own-free (Force, _) o = by_rows [] tt tt
  own-free (Write p, _) o =
      let ts = own_rows x (Write p, no_payload) in
      record {
        not-blocked = none_other 10 (λ z. omega arith) ts (omega arith);
        not-early = λ e.
            let u = until 15
            ((not (within (geometry_of v).pages p), 3) ∷ (not (held s p), 8) ∷ (
              page_dirty s p && note_pending
                  s.note,
              13,
            )
            ∷ (page_dirty s p && notes_full (geometry_of v) v s, 14) ∷ []) (page_dirty s p && not_durable m s p) []
            (omega arith) tt (λ z. omega arith) e in
            let r = in-range (geometry_of v).pages p u.0.0 in
            true-not-false (and_right (page_dirty s p) (not_durable m s p) u.1) (never-early p r.0 u.0.1.0);
      }
  own-free (Backup p b, _) o =
      let ts = own_rows x (Backup p b, no_payload) in
      record {
        not-blocked = none_other 10 (λ z. omega arith) ts (omega arith);
        not-early = λ e.
            let u = until 15
            ((not (within (geometry_of v).pages p), 3) ∷ (not (within (geometry_of v).slots b), 5) ∷ (not (held s p), 8)
            ∷ (note_pending s.note, 13) ∷ (notes_full (geometry_of v) v s, 14) ∷ []) (not_durable m s p)
            ((slot_used b s.index, 16) ∷ [])
            (omega arith) (omega arith) (λ z. omega arith) e in
            let r = in-range (geometry_of v).pages p u.0.0 in
            true-not-false u.1 (never-early p r.0 u.0.1.1.0);
      }
  own-free (Release p, _) o =
      rw (never-blocked (holder s p))
      (by_rows ((not (within (geometry_of v).pages p), 3) ∷ (not (held s p), 8) ∷ []) (omega arith) (omega arith))
  own-free (Note, _) o = by_rows [] tt tt
  own-free (StartCarry, _) o = absurd (true-not-false refl o)
  own-free (Restamp, _) o = absurd (true-not-false refl o)
  own-free (FinishCarry, _) o = absurd (true-not-false refl o)

  pub never-waits : (c : Call) → carries c ≡ false → NotBlocked (refusal_of (outcome_of c v m s).answer)
  never-waits c o = rw (call-refusal c v m s, rows_are x c) (own-free c o)

pub idle-is-free : IdleIsFree
idle-is-free h legal m s e r a c o = never-waits (live h legal m s e) (idle-closed _ m s r a).1 c o

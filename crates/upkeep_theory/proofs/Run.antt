-- T2, one call of upkeep's: what holds before it holds after it.
use mathlib.Core.Path.{◌≡◌, sym, ◌∙◌}
use mathlib.Core.Bool.{not}
use mathlib.Core.List.{List}
use Prim.Native.Nat.{ℕ, ◌+◌, ◌≤◌}
use native.Mathlib.Omega.{arith}
use lib.Dec.{eqb}
use lib.ListN.{length, replicate}
use Rattle.laws.proofs.Tables.{or_right}
use Rattle.laws.proofs.Items.{frame_image-length}
use Rattle.model.specs.Tables.{first_of}
use Rattle.model.specs.Geometry.{top_number}
use Rattle.model.specs.Index.{entry_row, entry_of}
use Rattle.model.specs.State.{frame_bytes, holder, last_number}
use Rattle.model.specs.Refusals.{load_rows, change_rows}
use Rattle.model.specs.Outcome.{StoredItem, decided}
use Rattle.model.specs.Effects.{forced_state, appended_memory, change_done, load_done}
use Rattle.model.specs.Calls.{outcome_of, no_payload}
use Rattle.model.specs.declared.{command.Command.TheVariants.Load, change.Change.TheVariants.Put}
use Rattle.model.specs.declared.{geometry.Geometry.Geometry, state.State.State}
use Rattle.model.specs.AbstractLog.{Logged}
use Rattle.history.proofs.Logs.{last_of, body_of, last-le}
use Rattle.history.proofs.Leaf.{frame-size}
use Rattle.history.proofs.Memory.{pending-memory, frame-memory}
use Rattle.history.proofs.Context.{Ctx, sized, geo, few, body-size}
use Rattle.history.proofs.Loads.{loads-above, load-image, loads as loaded}
use Rattle.upkeep_policy.specs.Upkeep.{ever_written, refresh}
use Rattle.upkeep_theory.proofs.Frames.{refreshed, put-length}
use Rattle.upkeep_theory.proofs.Text.{put-found}
use Rattle.upkeep_theory.proofs.Same.{few-same, written-forced}
use Rattle.upkeep_theory.proofs.StateCounts.{forced-counts}

module _ {C : Type 0} {g : Geometry} {v m : List ℕ} {past : List StoredItem} {s : State} {k w : List Logged}
    (x : Ctx C g v m past s k w) where
  -- ---- the memory keeps its size

  pub load-size : (p r : ℕ) → first_of (load_rows v m s p r) ≡ 0 → length (outcome_of (Load p r, no_payload) v m s).memory ≡ length m
  unfolding decided load_done
  load-size p r e =
      let l = loaded x p r e in
      let im = load-image x p l.low l.high l.settled l.some (loads-above x p r e) in
      let sz = frame-size g p (last_of p x.all) (body_of p x.all) (omega (arith, l.high, (sized x).p-high))
      (omega (arith, few x, last-le p x.all (length x.all))) (body-size x p) in
      rw (e, geo x, im) ((frame-memory x.al.F m x.al.memory r _ l.frame-low l.frame-high sz).size
      ∙ sym x.al.memory.size)

  pub put-size : (p : ℕ) → first_of (change_rows v m s p (Put 0 1)) ≡ 0
      → length (outcome_of (refresh m s p) v m s).memory ≡ length m
  unfolding decided change_done appended_memory
  put-size p e =
      let d = put-found x p e in
      let a : p ≤ 64 = omega (arith, d.framed.high, (sized x).p-high) in
      let b : last_of p x.all ≤ top_number = omega (arith, few x, last-le p x.all (length x.all)) in
      let fi = refreshed g p (last_of p x.all) (last_number s + 1) (body_of p x.all) (frame_bytes m (holder s p))
      (replicate 43 0) a b
      (body-size x p) d.framed.frame_is in
      let mem₁ =
      pending-memory x.al.F m x.al.memory (last_number s + 1) _
      (put-length (last_number s + 1) (entry_of s.index p).last p _) in
      rw (e, fi) ((frame-memory x.al.F _ mem₁ (holder s p) _ (omega (arith, d.holder-is))
      (omega (arith, d.holder-is, d.in_table))
      (frame_image-length p (last_number s + 1) (body_of p x.all) (body-size x p))).size ∙ sym x.al.memory.size)

  -- ---- no more pages are written

  pub few-forced : (pages p : ℕ) → ever_written (forced_state s pages p) ≤ ever_written s
  few-forced pages p = few-same s (forced_state s pages p) (written-forced s pages p)
      (λ i u. or_right (not (eqb (entry_row s.index i).written 0)) (rw (forced-counts s pages p).3 at u))

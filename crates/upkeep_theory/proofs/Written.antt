-- At most W pages have a written note: counted over the notes that stand, and with the one that is pending.
use mathlib.Core.Path.{◌≡◌, ap, ◌∙◌}
use mathlib.Core.Bool.{true, ◌||◌, not}
use mathlib.Core.List.{List, [], ◌∷◌, ◌++◌}
use Prim.Native.Nat.{ℕ, suc, ◌-◌, ◌≤◌, ◌<◌}
use native.Mathlib.Omega.{arith}
use native.Mathlib.Decide.{ℕ_discrete}
use lib.Dec.{eqb}
use lib.ListN.{length}
use borrow.Author.Tests.{eq-eqb}
use Rattle.laws.proofs.Tables.{by_cases, or_left, or_right}
use Rattle.model.specs.Item.{is_written}
use Rattle.model.specs.Index.{entry_row}
use Rattle.model.specs.Outcome.{StoredItem}
use Rattle.model.specs.Carry.{count_of}
use Rattle.model.specs.AbstractLog.{Logged}
use Rattle.model.specs.declared.{geometry.Geometry.Geometry, item.Note.Note, state.Entry.Entry}
use Rattle.model.specs.declared.{state.State.State}
use Rattle.history.proofs.Marks.{mark_at, Mark, mark-hit, mark-miss, mark-append, note_n, len_n}
use Rattle.history.proofs.Context.{Ctx}
use Rattle.upkeep_policy.specs.Upkeep.{ever_written, pending_written}
use Rattle.upkeep_theory.proofs.Near.{wrote_in}
use Rattle.upkeep_theory.proofs.Counting.{count-le}
use Rattle.model.specs.Types.{Some}

module _ {C : Type 0} {g : Geometry} {v m : List ℕ} {past : List StoredItem} {s : State} {k w : List Logged}
    (x : Ctx C g v m past s k w) where
  pub entry-written : (i : ℕ) → i < 64
      → (entry_row s.index i).written ≡ (mark_at (suc i) x.ns (length x.ns)).written
  entry-written i b =
      let z : suc i - 1 ≡ i = omega arith in
      rw z at (ap (λ (y : Entry). y.written) (x.al.index.entry (suc i) (omega arith) b))

  module _ (W : ℕ) (few : ever_written s ≤ W) where
    pub few-live : count_of 64 (wrote_in x.ns) ≤ W
    unfolding ever_written
    few-live =
        let c : count_of 64 (wrote_in x.ns) ≤ ever_written s = count-le 64 (wrote_in x.ns) _
        (λ i b t. let h : not (eqb (entry_row s.index i).written 0) ≡ true = rw (entry-written i b) t in
        or_left (pending_written s.note (suc i)) h) in
        omega arith

    -- with the owed note
    pub few-next : (n : Note) → s.note ≡ Some n → count_of 64 (wrote_in (x.ns ++ (n ∷ []))) ≤ W
    unfolding ever_written
    few-next n noting =
        let c : count_of 64 (wrote_in (x.ns ++ (n ∷ []))) ≤ ever_written s =
        count-le 64 (wrote_in (x.ns ++ (n ∷ []))) _ each in
        omega arith
      where
        each : (i : ℕ) → i < 64 → wrote_in (x.ns ++ (n ∷ [])) i ≡ true
            → (not (eqb (entry_row s.index i).written 0) || pending_written s.note (suc i)) ≡ true
        each i b t =
            let ns = x.ns in
            let e = len_n ns n in
            let old : mark_at (suc i) (ns ++ (n ∷ [])) (length ns) ≡ mark_at (suc i) ns (length ns) =
            mark-append (suc i) ns (n ∷ []) (length ns) (omega arith) in
            elim (ℕ_discrete n.page (suc i)) [
              | yes q ↦ by_cases (is_written n)
                  (λ u. let y : pending_written s.note (suc i) ≡ true = rw (noting, u, eq-eqb n.page (suc i) q) in
                  or_right (not (eqb (entry_row s.index i).written 0)) y)
                  (λ u.
                  let h : (mark_at (suc i) (ns ++ (n ∷ [])) (suc (length ns))).written ≡ (mark_at (suc i) ns
                  (length ns)).written =
                  ap (λ (y : Mark). y.written) (mark-hit (suc i) (ns ++ (n ∷ [])) (length ns) (rw (note_n ns n) q))
                  ∙ rw (note_n ns n, u, old) in
                  let y : not (eqb (entry_row s.index i).written 0) ≡ true =
                  rw (entry-written i b) (rw (e, h) at t) in
                  or_left (pending_written s.note (suc i)) y)
              | no q ↦
                  let h : (mark_at (suc i) (ns ++ (n ∷ [])) (suc (length ns))).written ≡ (mark_at (suc i) ns
                  (length ns)).written =
                  ap (λ (y : Mark). y.written) (mark-miss (suc i) (ns ++ (n ∷ [])) (length ns) (rw (note_n ns n) q))
                  ∙ rw old in
                  let y : not (eqb (entry_row s.index i).written 0) ≡ true =
                  rw (entry-written i b) (rw (e, h) at t) in
                  or_left (pending_written s.note (suc i)) y
            ]

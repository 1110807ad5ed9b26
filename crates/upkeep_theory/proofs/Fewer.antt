-- T2: over an advised call no more pages are written, owed notes counted (one lemma each).
use mathlib.Core.Path.{◌≡◌, refl, sym, ap, ◌∙◌}
use mathlib.Core.Logic.{◌≢◌, ⊎_elim}
use mathlib.Core.Bool.{true, false, ◌||◌, not}
use mathlib.Core.List.{List}
use Prim.Native.Nat.{ℕ, suc, ◌+◌, ◌-◌, ◌≤◌, ◌<◌}
use native.Mathlib.Omega.{arith}
use native.Mathlib.Decide.{ℕ_discrete}
use lib.Dec.{eqb}
use lib.ListN.{length, set}
use lib.Seq.{get_or-set_same, get_or-set_other}
use borrow.Author.Tests.{eqb-true, eq-eqb}
use Rattle.laws.proofs.Tables.{by_cases, or_left, or_right, or_cases, and_left, and_right, true-not-false}
use Rattle.model.specs.Geometry.{ring}
use Rattle.model.specs.Item.{is_written}
use Rattle.model.specs.Index.{empty_entry, entry_row, entry_of, enter_note, with_note}
use Rattle.model.specs.Scan.{note_record}
use Rattle.model.specs.Outcome.{StoredItem}
use Rattle.model.specs.Effects.{with_frames, appended_state, noted_state}
use Rattle.model.specs.AbstractLog.{Logged}
use Rattle.model.specs.declared.{geometry.Geometry.Geometry, item.Note.Note, state.Entry.Entry, state.Frame.Frame}
use Rattle.model.specs.declared.state.State.{State}
use Rattle.history.proofs.Marks.{note as note', mark_at}
use Rattle.history.proofs.Context.{Ctx, sized}
use Rattle.upkeep_policy.specs.Upkeep.{ever_written, pending_written}
use Rattle.upkeep_theory.proofs.Near.{wrote_in, wrote-note, stands-whole}
use Rattle.upkeep_theory.proofs.Counting.{count-le}
use Rattle.upkeep_theory.proofs.Written.{entry-written}
use Rattle.upkeep_theory.proofs.Live.{noting-ok}
use Rattle.upkeep_theory.proofs.Step.{place2}
use Rattle.upkeep_theory.proofs.Same.{few-same, written-appended}
use Rattle.upkeep_theory.proofs.StateCounts.{appended-counts}
use Rattle.model.specs.Types.{None, Some}

-- Load: frames alone
pub few-load : (s : State) (fs : List Frame) → ever_written (with_frames s fs s.note) ≤ ever_written s
few-load s fs =
    few-same s (with_frames s fs s.note) (λ i. refl)
    (λ i u. or_right (not (eqb (entry_row s.index i).written 0)) u)

-- the put
pub few-put : (s : State) (p f : ℕ) → ever_written (appended_state s p f) ≤ ever_written s
few-put s p f = few-same s (appended_state s p f) (written-appended s p f)
    (λ i u. or_right (not (eqb (entry_row s.index i).written 0)) (rw (appended-counts s p f).3 at u))

-- Backup: its note is no written one
pub few-backup : (s : State) (fs : List Frame) (n : Note) → is_written n ≡ false
    → ever_written (with_frames s fs (Some n)) ≤ ever_written s
few-backup s fs n b = few-same s (with_frames s fs (Some n)) (λ i. refl)
    (λ i u. absurd (true-not-false (and_left (is_written n) (eqb n.page (suc i)) u) b))

-- Write: of a page that has a written number
pub few-write : (s : State) (fs : List Frame) (n : Note)
    → not (eqb (entry_row s.index (n.page - 1)).written 0) ≡ true
    → ever_written (with_frames s fs (Some n)) ≤ ever_written s
few-write s fs n h = few-same s (with_frames s fs (Some n)) (λ i. refl)
    (λ i u.
    let e : n.page - 1 ≡ i =
    omega (arith, eqb-true n.page (suc i) (and_right (is_written n) (eqb n.page (suc i)) u)) in
    or_left (pending_written s.note (suc i)) (rw e at h))

module _ {C : Type 0} {g : Geometry} {v m : List ℕ} {past : List StoredItem} {s : State} {k w : List Logged}
    (x : Ctx C g v m past s k w) where
  -- the page of a written note at position 2 has a written number
  pub second-wrote : (turns : ring g ≡ true) (n2 : 2 ≤ g.notes) → place2 x turns n2 + g.notes ≡ suc s.notes
      → is_written (note_record g v (suc (place2 x turns n2))) ≡ true
      → not (eqb (entry_row s.index ((note_record g v (suc (place2 x turns n2))).page - 1)).written 0) ≡ true
  second-wrote turns n2 at2 wr =
      let a = place2 x turns n2 in
      let ab : a < length x.ns = omega (arith, x.al.notes-is) in
      let is : note_record g v (suc a) ≡ note' x.ns a =
      (stands-whole g v k x.hs x.ns x.no a ab (omega (arith, x.al.notes-is))).0 in
      let f = x.no.fit a ab in
      let y : wrote_in x.ns ((note' x.ns a).page - 1) ≡ true =
      wrote-note g v k x.hs x.ns x.no a ab (rw is at wr) in
      let q : (entry_row s.index ((note' x.ns a).page - 1)).written ≡ (mark_at (suc ((note' x.ns a).page - 1))
      x.ns (length x.ns)).written =
      entry-written x ((note' x.ns a).page - 1) (omega (arith, f.low, f.high, (sized x).p-high)) in
      rw (is, q) y

  -- Note: the owed note's page was counted
  pub few-noted : (n : Note) → s.note ≡ Some n → ever_written (noted_state s n) ≤ ever_written s
  unfolding ever_written noted_state enter_note
  few-noted n noting = count-le 64 _ _ each
    where
      each : (i : ℕ) → i < 64
          → (not (eqb (entry_row (enter_note s.index n) i).written 0) || pending_written None (suc i)) ≡ true
          → (not (eqb (entry_row s.index i).written 0) || pending_written s.note (suc i)) ≡ true
      each i b t = elim (ℕ_discrete n.page (suc i)) [
        | yes e ↦ by_cases (is_written n)
            (λ u. let y : pending_written s.note (suc i) ≡ true = rw (noting, u, eq-eqb n.page (suc i) e) in
            or_right (not (eqb (entry_row s.index i).written 0)) y)
            (λ u.
            let q : n.page - 1 ≡ i = omega arith in
            let h : (entry_row (enter_note s.index n) i).written ≡ (entry_row s.index i).written = same_here i b q u in
            old i (rw h at t))
        | no e ↦
            let h : (entry_row (enter_note s.index n) i).written ≡ (entry_row s.index i).written = same-there i e in
            old i (rw h at t)
      ]
        where
          same_here : (i : ℕ) → i < 64 → n.page - 1 ≡ i → is_written n ≡ false
              → (entry_row (enter_note s.index n) i).written ≡ (entry_row s.index i).written
          same_here i b q u =
              let z : (entry_row (set s.index (n.page - 1) (with_note (entry_of s.index n.page) n))
              (n.page - 1)).written ≡ (entry_row s.index (n.page - 1)).written =
              ap (λ (y : Entry). y.written)
              (get_or-set_same s.index (n.page - 1) (with_note (entry_of s.index n.page) n) empty_entry
              (omega (arith, x.al.index.size))) ∙ rw u in
              ap (λ (j : ℕ). (entry_row (enter_note s.index n) j).written) (sym q)
              ∙ (z ∙ ap (λ (j : ℕ). (entry_row s.index j).written) q)

          same-there : (i : ℕ) → n.page ≢ suc i
              → (entry_row (enter_note s.index n) i).written ≡ (entry_row s.index i).written
          same-there i e =
              ap (λ (y : Entry). y.written)
              (get_or-set_other s.index (n.page - 1) i (with_note (entry_of s.index n.page) n) empty_entry
              (λ z. e (omega (arith, (noting-ok x n noting).low))))

          old : (i : ℕ) → (not (eqb (entry_row s.index i).written 0) || false) ≡ true
              → (not (eqb (entry_row s.index i).written 0) || pending_written s.note (suc i)) ≡ true
          old i t = or_left (pending_written s.note (suc i))
              (⊎_elim (λ u. u) (λ u. absurd (true-not-false u refl))
              (or_cases (not (eqb (entry_row s.index i).written 0)) false t))

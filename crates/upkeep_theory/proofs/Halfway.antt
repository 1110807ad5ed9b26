-- T2: a put leaves the renewal of the written note at position 2 halfway: its page is in a frame and dirty. Force keeps
-- that, and the
-- advice is then Write.
use mathlib.Core.Path.{◌≡◌, sym, ap, ◌∙◌, subst}
use mathlib.Core.Bool.{true, false}
use mathlib.Core.List.{List, [], ◌∷◌, ◌++◌}
use Prim.Native.Nat.{ℕ, suc, ◌+◌, ◌≤◌}
use native.Mathlib.Omega.{arith}
use lib.ListN.{length}
use Rattle.laws.proofs.Tables.{true-not-false}
use Rattle.laws.proofs.Ring.{slot-in}
use Rattle.model.specs.Tables.{first_of}
use Rattle.model.specs.Geometry.{ring, note_at, item, store, slot_of, log_slot}
use Rattle.model.specs.Item.{is_written, note_of}
use Rattle.model.specs.Scan.{note_record}
use Rattle.model.specs.State.{holder, held, note_pending, note_needed}
use Rattle.model.specs.Refusals.{page_dirty, change_rows}
use Rattle.model.specs.Outcome.{StoredItem}
use Rattle.model.specs.Effects.{appended_state, forced_state}
use Rattle.model.specs.Calls.{Call}
use Rattle.model.specs.Carry.{count_of}
use Rattle.model.specs.AbstractLog.{Logged}
use Rattle.model.specs.declared.{change.Change.TheVariants.Put, geometry.Geometry.Geometry, item.Note.Note}
use Rattle.model.specs.declared.{state.State.State}
use Rattle.history.proofs.Context.{Ctx, geo}
use Rattle.upkeep_policy.specs.Upkeep.{note_ahead, note_position}
use Rattle.upkeep_theory.proofs.Shape.{Renewal, loads, backs as backing, writes as writing, puts, Advised, notes}
use Rattle.upkeep_theory.proofs.Shape.{forces, by_note, by_log, advised}
use Rattle.upkeep_theory.proofs.Shift.{note-same, log-notes}
use Rattle.upkeep_theory.proofs.Text.{put-found}
use Rattle.upkeep_theory.proofs.NotesTidy.{ahead-is}
use Rattle.upkeep_theory.proofs.Near.{wrote_in}
use Rattle.upkeep_theory.proofs.Tidy.{Tidy}
use Rattle.upkeep_theory.proofs.Step.{place2, needs-second}
use Rattle.upkeep_theory.proofs.Renewals.{dirty-now}
use Rattle.upkeep_theory.proofs.Load.{weight, Least}
use Rattle.upkeep_theory.proofs.StateCounts.{appended-counts, forced-counts}
use Rattle.model.specs.Types.{Some}

pub record Halfway (g : Geometry) (v : List ℕ) (s : State) : Type 0 where
  pub place : ℕ
  pub second : place + g.notes ≡ suc s.notes
  pub needed : note_needed g v s.notes (suc place) ≡ true
  pub written : is_written (note_record g v (suc place)) ≡ true
  pub framed : held s (note_record g v (suc place)).page ≡ true
  pub dirty : page_dirty s (note_record g v (suc place)).page ≡ true

module _ {C : Type 0} {g : Geometry} {v m : List ℕ} {past : List StoredItem} {s : State} {k w : List Logged}
    (x : Ctx C g v m past s k w) (turns : ring g ≡ true) (n2 : 2 ≤ g.notes) where
  -- over Force
  pub halfway-force : (l2 : 2 ≤ g.records) → Halfway g v s → (xs : List ℕ) → length xs ≡ 64 → (pages p : ℕ)
      → Halfway g (store g v (log_slot g (suc s.durable)) xs) (forced_state s pages p)
  halfway-force l2 y xs size pages p =
      let v' = store g v (log_slot g (suc s.durable)) xs in
      let sn : (j : ℕ) → 1 ≤ j → j ≤ g.notes → item g v' (note_at j) ≡ item g v (note_at j) =
      log-notes g v x.hs.vol (omega arith) s.durable xs size in
      let re : note_record g v' (suc y.place) ≡ note_record g v (suc y.place) =
      ap note_of (let q = slot-in g.notes y.place (omega arith) in
      sn (slot_of g.notes (suc y.place)) q.0 q.1) in
      let f = forced-counts s pages p in
      record {
        place = y.place;
        second = omega (arith, y.second, f.2);
        needed =
            rw f.2 (note-same g v x.hs.vol (omega arith) v' s.notes y.place (omega (arith, y.second)) sn
            ∙ y.needed);
        written = rw re y.written;
        framed = rw (re, f.4) y.framed;
        dirty = rw (re, f.4) y.dirty;
      }

  -- then the advice is Write
  module _ (cuts : ℕ) (t : Tidy g v s cuts) (noting : note_pending s.note ≡ false) (silent : s.pending ≡ 0)
      (y : Halfway g v s) where
    same_place : y.place ≡ place2 x turns n2
    same_place = omega (arith, y.second)

    by-renewal : (r : ℕ) (c : Call)
        → Renewal v m s r (note_record g v (suc y.place)).page (is_written (note_record g v (suc y.place))) c
        → 3 ≤ weight c
    by-renewal r c (loads h b e) = absurd (true-not-false y.framed h)
    by-renewal r c (backing h u b f e) = absurd (true-not-false y.written u)
    by-renewal r c (writing h u d f e) = rw e (omega arith)
    by-renewal r c (puts h u d f e) = absurd (true-not-false y.dirty d)

    by-advice : (r : ℕ) (c : Call) → Advised v m s r c → 3 ≤ weight c
    by-advice r c (notes a e) = absurd (true-not-false a noting)
    by-advice r c (forces a b e) = absurd (omega arith)
    by-advice r c (by_note a q o i lo hi h n) =
        let f = needs-second x turns n2 cuts t i lo hi (rw (geo x) at h) in
        let e : note_position g s i ≡ suc y.place = f.3 ∙ ap suc (sym same_place) in
        by-renewal r c (subst (λ (j : ℕ). Renewal v m s r (note_record g v j).page (is_written (note_record g v j)) c) e
        (rw (geo x) at n))
    by-advice r c (by_log a q o n1 z2 i lo hi h fi n) =
        let z : note_ahead g v s 2 ≡ false = rw (geo x) at z2 in
        absurd (true-not-false (ahead-is g v s 2 y.place (omega (arith, y.second)) (omega (arith, y.second))
        ∙ y.needed) z)

    pub halfway-write : (r : ℕ) → Least 3 v m s r
    halfway-write r c e = by-advice r c (advised v m s r c e)

  -- after the put
  module _ (W : ℕ) (room : g.pages + W + 2 ≤ g.notes)
      (fl : count_of 64 (wrote_in x.ns) ≤ W) (fn : (n : Note) → s.note ≡ Some n
      → count_of 64 (wrote_in (x.ns ++ (n ∷ []))) ≤ W)
      (cuts : ℕ) (t : Tidy g v s cuts) (noting : note_pending s.note ≡ false) (silent : s.pending ≡ 0) where
    pub halfway-put : place2 x turns n2 + g.notes ≡ suc s.notes
        → note_needed g v s.notes (suc (place2 x turns n2)) ≡ true
        → is_written (note_record g v (suc (place2 x turns n2))) ≡ true → (p : ℕ)
        → p ≡ (note_record g v (suc (place2 x turns n2))).page
        → first_of (change_rows v m s p (Put 0 1)) ≡ 0 → Halfway g v (appended_state s p (holder s p))
    halfway-put at2 need wr p pe e =
        let d = dirty-now x turns n2 cuts t noting silent p (put-found x p e) in
        let q = (appended-counts s p (holder s p)).0 in
        record {
          place = place2 x turns n2;
          second = omega arith;
          needed = rw q need;
          written = wr;
          framed = rw (← pe) d.0;
          dirty = rw (← pe) d.1;
        }

-- T2: the Note that upkeep advises leads to the next phase.
use mathlib.Core.Path.{◌≡◌, refl, ap, ◌∙◌, subst}
use mathlib.Core.Logic.{inr}
use mathlib.Core.Bool.{true, false, cond}
use mathlib.Core.List.{List}
use Prim.Native.Nat.{ℕ, suc, ◌+◌, ◌-◌, ◌≤◌, ◌<◌}
use native.Mathlib.Omega.{arith}
use Rattle.history.proofs.Steps.{context}
use Rattle.history.proofs.Calls.{inv-call}
use Rattle.upkeep_theory.proofs.Shift.{note-read-new, note-read-old}
use Rattle.upkeep_theory.proofs.Live.{noting-back}
use Rattle.upkeep_theory.proofs.Counting.{count-both}
use lib.ListN.{length}
use Rattle.laws.proofs.Notes.{note-length}
use Rattle.model.specs.Tables.{within}
use Rattle.model.specs.Geometry.{ring, top_number, store, note_slot}
use Rattle.model.specs.Item.{is_written, note_bytes}
use Rattle.model.specs.Scan.{note_record}
use Rattle.model.specs.State.{frame_count, note_pending}
use Rattle.model.specs.Outcome.{StoredItem, volume_after}
use Rattle.model.specs.Effects.{noted_state}
use Rattle.model.specs.Calls.{outcome_of, no_payload}
use Rattle.model.specs.AbstractLog.{Logged}
use Rattle.model.specs.declared.{geometry.Geometry.Geometry, item.Note.Note}
use Rattle.model.specs.declared.state.State.{State}
use Rattle.history.proofs.Context.{Ctx}
use Rattle.upkeep_policy.specs.Upkeep.{reserve, ever_written}
use Rattle.upkeep_theory.proofs.Shape.{Advised}
use Rattle.upkeep_theory.proofs.Tidy.{Tidy, since_written, settled}
use Rattle.upkeep_theory.proofs.TidyStores.{counted}
use Rattle.upkeep_theory.proofs.Step.{l2}
use Rattle.upkeep_theory.proofs.Written.{few-live, few-next}
use Rattle.upkeep_theory.proofs.Advise.{advise-step}
use Rattle.upkeep_theory.proofs.Measure.{written-bound, backup-bound}
use Rattle.upkeep_theory.proofs.Fewer.{few-noted}
use Rattle.upkeep_theory.proofs.Outcomes.{note-out}
use Rattle.upkeep_theory.proofs.NextSums.{note-sum, note-low}
use Rattle.upkeep_theory.proofs.StateCounts.{noted-counts}
use Rattle.upkeep_theory.proofs.Phases.{Phase, quiet, rest, left, Leads}
use Rattle.upkeep_theory.proofs.Done.{no_row}
use Rattle.model.specs.declared.command.Command.TheVariants.{Note as NoteCall}
use Rattle.model.specs.Types.{Some}

module _ {C : Type 0} {g : Geometry} {v m : List ℕ} {past : List StoredItem} {s : State} {k w : List Logged}
    (x : Ctx C g v m past s k w) (turns : ring g ≡ true) (n2 : 2 ≤ g.notes) (W : ℕ)
    (room : g.pages + W + 2 ≤ g.notes)
    (few : ever_written s ≤ W) (cuts : ℕ) (t : Tidy g v s cuts) (cap : W + cuts ≤ reserve g) (r : ℕ)
    (fr : within (frame_count (length m)) r ≡ true) where
  module _ (n : Note) (noting : s.note ≡ Some n) where
    abbrev noted : List ℕ
    noted = store g v (note_slot g (suc s.notes)) (note_bytes n)

    note-count : since_written g (store g v (note_slot g (suc s.notes)) (note_bytes n))
        (noted_state s n).notes t.z.k0
        ≡ since_written g v s.notes t.z.k0 + cond (is_written n) 1 0
    note-count =
        let q = noted-counts s n in
        let six = note-length n in
        ap (λ (k : ℕ). since_written g (store g v (note_slot g (suc s.notes)) (note_bytes n)) k t.z.k0) q.0
        ∙ counted g v x.hs.vol s (l2 x turns n2) n2 cuts t (noted_state s n) q.1 (q.2 ∙ settled t n noting)
        q.3 (store g v (note_slot g (suc s.notes)) (note_bytes n)) n
        (λ a b c. note-read-old g v x.hs.vol (omega arith) s.notes (note_bytes n) six a c
        (omega (arith, t.near)))
        (note-read-new g v x.hs.vol (omega arith) s.notes n six (noting-back x n noting))

    written-part : since_written g v s.notes t.z.k0 ≤ s.notes - t.z.k0
    written-part =
        omega (arith, count-both (s.notes - t.z.k0) (λ i. is_written (note_record g v (suc (t.z.k0 + i)))))

    noted-phase : (N : ℕ) (m' : List ℕ)
        → since_written g (store g v (note_slot g (suc s.notes)) (note_bytes n)) (noted_state s n).notes t.z.k0 ≤ W
        → (noted_state s n).notes - t.z.k0 - since_written g (store g v (note_slot g (suc s.notes)) (note_bytes n))
        (noted_state s n).notes t.z.k0 ≤ g.pages
        → rest t W ≤ N + cond (is_written n) 4 2 → s.durable + left t W < top_number + cond (is_written n) 1 0
        → (1 ≤ N) × Phase g W t.z.k0 (store g v (note_slot g (suc s.notes)) (note_bytes n)) m'
        (noted_state s n) r (N - 1)
    noted-phase N m' wb bb h b =
        let q = noted-counts s n in
        let y = note-sum W g.pages (since_written g v s.notes t.z.k0) _ s.notes (noted_state s n).notes
        t.z.k0 N (is_written n)
        t.notes.low written-part note-count q.0 wb bb h in
        let o : note_pending (noted_state s n).note ≡ false = rw q.3 in (
          y.0,
          quiet 0 (omega arith) o (q.2 ∙ settled t n noting) y.1
              (note-low s.durable _ W (since_written g v s.notes t.z.k0) _ top_number (is_written n) q.1
              note-count wb b) (λ c z. omega arith),
        )

    note-phase : (N : ℕ) (v' m' : List ℕ) (s' : State) → s' ≡ noted_state s n
        → v' ≡ store g v (note_slot g (suc s.notes)) (note_bytes n)
        → since_written g v' s'.notes t.z.k0 ≤ W
        → s'.notes - t.z.k0 - since_written g v' s'.notes t.z.k0 ≤ g.pages
        → rest t W ≤ N + cond (is_written n) 4 2 → s.durable + left t W < top_number + cond (is_written n) 1 0
        → (1 ≤ N) × Phase g W t.z.k0 v' m' s' r (N - 1)
    note-phase N v' m' s' e f = rw (e, f) (noted-phase N m')

    note-few : (s' : State) → s' ≡ noted_state s n → ever_written s' ≤ W
    note-few s' e = rw e (omega (arith, few-noted x n noting))

    pub note-next : (N : ℕ) → Advised v m s r (NoteCall, no_payload) → rest t W ≤ N + cond (is_written n) 4 2
        → s.durable + left t W < top_number + cond (is_written n) 1 0
        → Leads t W m r N (NoteCall, no_payload)
    note-next N a h b =
        let o = note-out x (l2 x turns n2) n2 n noting (no_row x n2 r fr (NoteCall, no_payload) a) in
        let fw : ever_written (outcome_of (NoteCall, no_payload) v m s).state ≤ W = note-few _ o.0 in
        let x' = context g _ _ _ _ _ (inv-call x (NoteCall, no_payload) refl refl) in
        let t' = advise-step x turns n2 W room (few-live x W few) (few-next x W few) cuts t (inr cap) r (NoteCall, no_payload) a in
        let wb =
        subst (λ (k : ℕ). since_written g (volume_after v (outcome_of (NoteCall, no_payload) v m s).stored)
        (outcome_of (NoteCall, no_payload) v m s).state.notes k ≤ W) t'.1
        (written-bound x' turns n2 cuts t'.0 W (few-live x' W fw)) in
        let bb = subst (λ (k : ℕ). (outcome_of (NoteCall, no_payload) v m s).state.notes - k
        - since_written g (volume_after v (outcome_of (NoteCall, no_payload) v m s).stored)
        (outcome_of (NoteCall, no_payload) v m s).state.notes k
        ≤ g.pages) t'.1
        (backup-bound x' turns n2 cuts t'.0 W (few-live x' W fw)) in
        let y = note-phase N _ (outcome_of (NoteCall, no_payload) v m s).memory _ o.0 o.1 wb bb h b in
        (y.0, record { fewer = fw; size = ap length o.2; phase = y.1 })

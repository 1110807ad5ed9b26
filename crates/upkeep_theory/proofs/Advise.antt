-- T2's invariant is kept by the call that upkeep advises.
use mathlib.Core.Path.{◌≡◌, refl, sym, ◌∙◌, subst}
use mathlib.Core.Logic.{◌⊎◌, ⊎_elim}
use mathlib.Core.Bool.{true, false}
use mathlib.Core.List.{List, [], ◌∷◌, ◌++◌}
use Prim.Native.Nat.{ℕ, suc, ◌+◌, ◌-◌, ◌≤◌}
use native.Mathlib.Numerals.{add-one}
use native.Mathlib.Omega.{arith}
use native.Mathlib.Decide.{ℕ_discrete}
use lib.Dec.{ltb}
use lib.ListN.{length}
use borrow.Author.Tests.{ltb-true, ne_eqb}
use Rattle.laws.proofs.Tables.{by_cases, and_left, and_right, true-not-false}
use Rattle.laws.proofs.Notes.{note-length}
use Rattle.laws.proofs.WellFormed.{memory-facts, pending-length}
use Rattle.model.specs.Bytes.{field}
use Rattle.model.specs.Geometry.{ring, store, log_slot, note_slot}
use Rattle.model.specs.Item.{is_written, note_bytes}
use Rattle.model.specs.Index.{entry_of}
use Rattle.model.specs.Scan.{log_record, note_record}
use Rattle.model.specs.State.{pending_bytes, note_pending, note_needed, record_needed}
use Rattle.model.specs.Refusals.{force_rows, note_rows}
use Rattle.model.specs.Outcome.{StoredItem, volume_after, decided}
use Rattle.model.specs.Effects.{note_stored, noted_state, forced_state, force_done}
use Rattle.model.specs.Calls.{Call, outcome_of, no_payload}
use Rattle.model.specs.declared.{command.Command.TheVariants.Force, geometry.Geometry.Geometry, item.Note.Note}
use Rattle.model.specs.declared.{state.State.State}
use Rattle.model.specs.Carry.{count_of}
use Rattle.model.specs.AbstractLog.{Logged}
use Rattle.history.proofs.Marks.{len_n}
use Rattle.history.proofs.Persists.{note-store}
use Rattle.history.proofs.Context.{Ctx, geo}
use Rattle.history.proofs.WellFormed.{memory-ok}
use Rattle.upkeep_policy.specs.Upkeep.{reserve, note_ahead, log_ahead, note_position, log_position}
use Rattle.upkeep_theory.proofs.Shape.{Renewal, loads, backs as backing, writes as writing, puts, Advised, notes}
use Rattle.upkeep_theory.proofs.Shape.{forces, by_note, by_log}
use Rattle.upkeep_theory.proofs.Shift.{alike}
use Rattle.upkeep_theory.proofs.NotesTidy.{NotesTidy, alike-parts, tidy-leave, tidy-note, ahead-is}
use Rattle.upkeep_theory.proofs.Near.{wrote_in, since-few}
use Rattle.upkeep_theory.proofs.Tidy.{Tidy, From, settled}
use Rattle.upkeep_theory.proofs.TidyStores.{force-tidy, note-tidy}
use Rattle.upkeep_theory.proofs.Live.{marks-forced, noting-number, noting-back, noted-slot, noted-backup}
use Rattle.upkeep_theory.proofs.Live.{noted_more, noted-wrote}
use Rattle.upkeep_theory.proofs.Step.{l2, place2, needs-second, no_record, not-busy}
use Rattle.upkeep_theory.proofs.StateCounts.{noted-counts, forced-counts}
use Rattle.upkeep_theory.proofs.Renewals.{Then, by_rows, load_step, backup-step, came, second-backup, write_step}
use Rattle.upkeep_theory.proofs.Renewals.{put_step}
use Rattle.upkeep_theory.proofs.Measure.{written-bound}
use Rattle.model.specs.declared.command.Command.TheVariants.{Note as NoteCall}
use Rattle.model.specs.Types.{PendingNote, None, Some}

module _ {C : Type 0} {g : Geometry} {v m : List ℕ} {past : List StoredItem} {s : State} {k w : List Logged}
    (x : Ctx C g v m past s k w) (turns : ring g ≡ true) (n2 : 2 ≤ g.notes) (W : ℕ)
    (room : g.pages + W + 2 ≤ g.notes)
    (fl : count_of 64 (wrote_in x.ns) ≤ W) (fn : (n : Note) → s.note ≡ Some n
    → count_of 64 (wrote_in (x.ns ++ (n ∷ []))) ≤ W) where
  module _ (cuts : ℕ) (t : Tidy g v s cuts) where
    -- ---- U1

    -- counted in the next state, they are not too many
    not-many : (n : Note) → s.note ≡ Some n → suc s.notes + 2 ≤ t.z.k0 + g.notes
    not-many n q =
        let st = note-store x n (rw q at x.al.note-ok) in
        let a1 : s.notes + 1 ≡ suc s.notes = add-one s.notes in
        let v' = store g v (note_slot g (suc s.notes)) (note_bytes n) in
        let nt : NotesTidy g v' (suc s.notes) t.z.k0 None =
        tidy-note g v n (rw q at t.notes) n2 x.hs.vol t.near (note-length n) (noting-back x n q)
        (noting-number x n q) in
        let kk : suc s.notes ≡ length (x.ns ++ (n ∷ [])) = omega (arith, len_n x.ns n, x.al.notes-is) in
        let cnt = since-few g v' k (rw a1 at st.holds') (x.ns ++ (n ∷ [])) (rw a1 at st.noted') t.z.k0
        (subst (λ (y : ℕ). NotesTidy g v' y t.z.k0 None) kk nt) (omega (arith, t.near)) W (fn n q) in
        omega arith

    note-stored : (n : Note) → s.note ≡ Some n
        → From g (store g v (note_slot g (suc s.notes)) (note_bytes n)) (noted_state s n) cuts t.z.k0
    note-stored n q =
        let f = noted-counts s n in
        let six = note-length n in
        let back = noting-back x n q in
        let num = noting-number x n q in
        note-tidy g v x.hs.vol s (l2 x turns n2) n2 cuts t (noted_state s n) f.1 (f.2 ∙ settled t n q) f.3 n q
        six back num
        f.0 (not-many n q) (noted_more x n q) (noted-wrote x n q) (noted-slot x n q) (noted-backup x n q)

    note-one : (y : PendingNote) → s.note ≡ y → note_pending y ≡ true → Then t (note_stored v m s y)
    unfolding volume_after
    note-one None q p = absurd (true-not-false p refl)
    note-one (Some n) q p =
        let a1 : s.notes + 1 ≡ suc s.notes = add-one s.notes in
        rw (geo x) (subst (λ (y : ℕ). From g (store g v (note_slot g y) (note_bytes n)) (noted_state s n) cuts t.z.k0)
        (sym a1) (note-stored n q))

    note_step : note_pending s.note ≡ true → Then t (outcome_of (NoteCall, no_payload) v m s)
    unfolding decided
    note_step p = by_rows t m (note_rows v m s) (note_stored v m s s.note) (λ e. note-one s.note refl p)

    -- ---- U2

    force-step : 1 ≤ s.pending → Then t (outcome_of (Force, no_payload) v m s)
    unfolding decided force_done volume_after
    force-step p = by_rows t m (force_rows v m s) _ (λ e.
        let a1 : s.durable + 1 ≡ suc s.durable = add-one s.durable in
        rw (ne_eqb s.pending 0 (λ z. omega arith), geo x, a1) (go (field 2 8 (pending_bytes m (suc s.durable)))))
      where
        go : (q : ℕ)
            → From g (store g v (log_slot g (suc s.durable)) (pending_bytes m (suc s.durable)))
            (forced_state s g.pages q) cuts t.z.k0
        go q =
            let f = forced-counts s g.pages q in
            force-tidy g v x.hs.vol s (l2 x turns n2) n2 cuts t (pending_bytes m (suc s.durable))
            (pending-length m (memory-facts m (memory-ok x)) (suc s.durable)) (forced_state s g.pages q)
            (marks-forced g s g.pages q) f.2
            (omega (arith, f.1, t.sums.pending-one)) (f.3 ∙ t.both p) (omega (arith, t.sums.pending-one))
            f.0 f.4

    -- ---- U3, U4: a renewal, while nothing is owed or pending

    module _ (noting : note_pending s.note ≡ false) (silent : s.pending ≡ 0) where
      by-note : (i : ℕ) → 1 ≤ i → i ≤ 2 → note_ahead g v s i ≡ true → (r : ℕ) (c : Call)
          → Renewal v m s r (note_record g v (note_position g s i)).page
          (is_written (note_record g v (note_position g s i))) c
          → Then t (outcome_of c v m s)
      by-note i lo hi y r c n =
          let q = needs-second x turns n2 cuts t i lo hi y in
          go q.1 q.2 (subst (λ (j : ℕ). Renewal v m s r (note_record g v j).page (is_written (note_record g v j)) c)
          q.3 n)
        where
          go : (at2 : place2 x turns n2 + g.notes ≡ suc s.notes)
              (need : note_needed g v s.notes (suc (place2 x turns n2)) ≡ true)
              → Renewal v m s r (note_record g v (suc (place2 x turns n2))).page
              (is_written (note_record g v (suc (place2 x turns n2)))) c
              → Then t (outcome_of c v m s)
          go at2 need (loads h b e) =
              rw e (load_step x turns n2 cuts t noting silent _ r
              (not-busy x turns n2 cuts t (λ q1 q2 q3 l. true-not-false l.0 h) noting))
          go at2 need (backing h u b f e) =
              rw e (backup-step x turns n2 cuts t noting silent _ _
              (not-busy x turns n2 cuts t (λ q1 q2 q3 l. true-not-false q3 u) noting)
              (second-backup x turns n2 cuts t noting silent at2 need u)
              (λ j a b y. no_record x turns n2 cuts t (came x turns n2 cuts t noting silent at2 need) j a b y))
          go at2 need (writing h u d f e) = rw e (write_step x turns n2 cuts t noting silent at2 need u _ refl)
          go at2 need (puts h u d f e) = rw e (put_step x turns n2 cuts t noting silent at2 need u _ refl d)

      -- U4: the records since d0 are few, so that the needed one is no later than d0 + u
      by-log : s.durable ≤ t.z.d0 + t.z.u + reserve g → note_ahead g v s 2 ≡ false
          → (i : ℕ) → 1 ≤ i → i ≤ reserve g → log_ahead g v s i ≡ true → (r : ℕ) (c : Call)
          → Renewal v m s r (log_record g v (log_position g s i)).page false c → Then t (outcome_of c v m s)
      unfolding log_ahead
      by-log near none i lo hi y r c n =
          let b =
          ltb-true g.records (s.durable + i)
          (and_left (ltb g.records (s.durable + i)) (record_needed g v s (log_position g s i)) y) in
          let need : record_needed g v s (log_position g s i) ≡ true =
          and_right (ltb g.records (s.durable + i)) (record_needed g v s (log_position g s i)) y in
          let j = s.durable + i - g.records - 1 in
          let p : log_position g s i ≡ suc j = omega arith in
          go j (omega arith) (subst (λ (q : ℕ). record_needed g v s q ≡ true) p need)
          (subst (λ (q : ℕ). Renewal v m s r (log_record g v q).page false c) p n)
        where
          spare2 : place2 x turns n2 + g.notes ≡ suc s.notes
              → note_needed g v s.notes (suc (place2 x turns n2)) ≡ true → ⊥
          spare2 at2 need = true-not-false (ahead-is g v s 2 (place2 x turns n2) (omega arith) (omega arith)
              ∙ need) none

          b0 : t.b ≡ 0
          b0 = not-busy x turns n2 cuts t (λ q1 q2 q3 l. spare2 q1 q2) noting

          go : (j : ℕ) → suc j + g.records ≡ s.durable + i → record_needed g v s (suc j) ≡ true
              → Renewal v m s r (log_record g v (suc j)).page false c → Then t (outcome_of c v m s)
          go j e need (loads h b q) = rw q (load_step x turns n2 cuts t noting silent _ r b0)
          go j e need (backing h u b f q) =
              rw q (backup-step x turns n2 cuts t noting silent (log_record g v (suc j)).page _ b0
              (λ n np nk. tidy-leave g v t.notes n
              (λ a at2 y. let z : a ≡ place2 x turns n2 = omega arith in absurd (spare2 (omega arith) (rw z at y)))
              (λ a x1 x2. by_cases (alike (note_record g v (suc a)) n)
              (λ y.
              let al = alike-parts (note_record g v (suc a)) n y in
              let nw : is_written (note_record g v (suc a)) ≡ false = rw (sym al.1 ∙ nk) in
              absurd (true-not-false need (t.log.backed a x1 x2 nw j (omega arith) (omega arith) (omega arith)
              (sym np ∙ al.0))))
              (λ y. y)))
              (λ j' a e' y. ⊎_elim
              (λ f. elim (ℕ_discrete j' j) [
                | yes z ↦ rw z
                | no z ↦ absurd (true-not-false need
                    (t.log.spare j (omega arith) (omega (arith, f.1, t.sums.u-one))))
              ])
              (λ f. absurd (true-not-false y (f j' a (omega arith)))) t.log.next))
          go j e need (writing h u d f q) = absurd (true-not-false u refl)
          go j e need (puts h u d f q) = absurd (true-not-false u refl)

    -- ---- all of them

    -- where no page was ever written, or the cuts are few: the records since d0 are at most the reserve
    few-records : ((p : ℕ) → 1 ≤ p → p ≤ g.pages → (entry_of s.index p).written ≡ 0) ⊎ (W + cuts ≤ reserve g)
        → t.b ≡ 0 → s.durable ≤ t.z.d0 + t.z.u + reserve g
    few-records cap b0 =
        ⊎_elim (λ h. omega (arith, t.none h))
        (λ h. omega (arith, t.sums.puts, written-bound x turns n2 cuts t W fl)) cap

    pub advise-step : ((p : ℕ) → 1 ≤ p → p ≤ g.pages → (entry_of s.index p).written ≡ 0) ⊎ (W + cuts ≤ reserve g)
        → (r : ℕ) (c : Call) → Advised v m s r c → Then t (outcome_of c v m s)
    advise-step cap r c (notes a e) = rw e (note_step a)
    advise-step cap r c (forces a b e) = rw e (force-step b)
    advise-step cap r c (by_note a q o i lo hi y n) = by-note a q i lo hi (rw (geo x) at y) r c (rw (geo x) at n)
    advise-step cap r c (by_log a q o n1 n2' i lo hi y fi n) =
        let none : note_ahead g v s 2 ≡ false = rw (geo x) at n2' in
        let b0 : t.b ≡ 0 = not-busy x turns n2 cuts t
        (λ q1 q2 q3 l. true-not-false (ahead-is g v s 2 (place2 x turns n2) (omega arith) (omega arith) ∙ q2) none) a in
        by-log a q (few-records cap b0) none i lo (rw (geo x) at hi) (rw (geo x) at y) r c (rw (geo x) at n)

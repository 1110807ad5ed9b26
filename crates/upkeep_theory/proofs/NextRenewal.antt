-- T2: a call of a renewal leads to the next phase.
use mathlib.Core.Path.{◌≡◌, refl, sym, ap, ◌∙◌, subst}
use mathlib.Core.Bool.{Bool, true, false, cond}
use mathlib.Core.List.{List}
use Prim.Native.Nat.{ℕ, suc, ◌+◌, ◌-◌, ◌≤◌, ◌<◌}
use native.Mathlib.Omega.{arith}
use lib.Dec.{ltb}
use lib.ListN.{length}
use borrow.Author.Tests.{ltb-true}
use Rattle.laws.proofs.Tables.{by_cases, and_left, and_right, true-not-false}
use Rattle.model.specs.Tables.{within}
use Rattle.model.specs.Geometry.{ring, top_number}
use Rattle.model.specs.Item.{is_written}
use Rattle.model.specs.Scan.{log_record, note_record}
use Rattle.model.specs.State.{frame_count, holder, note_pending, note_needed, record_needed}
use Rattle.model.specs.Refusals.{page_dirty}
use Rattle.model.specs.Outcome.{StoredItem}
use Rattle.model.specs.Effects.{with_frame, with_frames, appended_state}
use Rattle.model.specs.Calls.{Call, no_payload}
use Rattle.model.specs.declared.{geometry.Geometry.Geometry, item.Note.Note, state.Frame.Frame}
use Rattle.model.specs.declared.{state.State.State}
use Rattle.model.specs.declared.command.Command.TheVariants.{Load, Write}
use Rattle.model.specs.declared.command.Command.TheVariants.{Backup}
use Rattle.model.specs.AbstractLog.{Logged}
use Rattle.history.proofs.Context.{Ctx, geo}
use Rattle.upkeep_policy.specs.Upkeep.{reserve, note_ahead, log_ahead, log_position, refresh, ever_written}
use Rattle.upkeep_theory.proofs.Shape.{Renewal, loads, backs as backing, writes as writing, puts, Advised, notes}
use Rattle.upkeep_theory.proofs.Shape.{forces, by_note, by_log}
use Rattle.upkeep_theory.proofs.Pages.{record-known}
use Rattle.upkeep_theory.proofs.NotesTidy.{ahead-is}
use Rattle.upkeep_theory.proofs.Tidy.{Tidy, since_written}
use Rattle.upkeep_theory.proofs.Step.{l2, place2, needs-second, not-busy}
use Rattle.upkeep_theory.proofs.Written.{few-live, few-next}
use Rattle.upkeep_theory.proofs.Measure.{five-left, three-left, written-bound}
use Rattle.upkeep_theory.proofs.Second.{three-second}
use Rattle.upkeep_theory.proofs.Run.{load-size, put-size}
use Rattle.upkeep_theory.proofs.Fewer.{few-load, few-put, few-backup, few-write, second-wrote}
use Rattle.upkeep_theory.proofs.Load.{weight, Least, moved, after-load}
use Rattle.upkeep_theory.proofs.Halfway.{Halfway, halfway-put}
use Rattle.upkeep_theory.proofs.Outcomes.{SameNotes, since-same, load-out, put-out, write-out, backup-out}
use Rattle.upkeep_theory.proofs.NextSums.{rest_eq, left-eq, n-step, n-one, n-low, d-app, d-low, d-high, d-zero}
use Rattle.upkeep_theory.proofs.NextSums.{d-leave, n-leave, five-three}
use Rattle.upkeep_theory.proofs.StateCounts.{appended-counts}
use Rattle.upkeep_theory.proofs.Phases.{rest_at, left_at, Phase, quiet, putting, storing, rest, left, Leads}
use Rattle.upkeep_theory.proofs.Done.{no_row}
use Rattle.model.specs.Types.{Some}

module _ {C : Type 0} {g : Geometry} {v m : List ℕ} {past : List StoredItem} {s : State} {k w : List Logged}
    (x : Ctx C g v m past s k w) (turns : ring g ≡ true) (n2 : 2 ≤ g.notes) (W : ℕ)
    (room : g.pages + W + 2 ≤ g.notes)
    (few : ever_written s ≤ W) (cuts : ℕ) (t : Tidy g v s cuts) (cap : W + cuts ≤ reserve g) (r : ℕ)
    (fr : within (frame_count (length m)) r ≡ true) where
  module _ (noting : note_pending s.note ≡ false) (silent : s.pending ≡ 0) where
    loaded-few : (s' : State) (p : ℕ) (d : Bool) → s' ≡ moved s p r d → ever_written s' ≤ W
    loaded-few s' p d e = rw e (omega (arith, few-load s (with_frame s r p d)))

    after-loaded : (N p : ℕ) (d : Bool) (v' m' : List ℕ) (s' : State) → s' ≡ moved s p r d → v' ≡ v
        → Least 1 v m' (moved s p r d) r
        → 1 ≤ N → rest t W ≤ N + 0 → s.durable + left t W < top_number → Phase g W t.z.k0 v' m' s' r (N - 1)
    after-loaded N p d v' m' s' e f ll one h b =
        rw (e, f) (quiet 1 (omega arith) noting silent (n-step (rest t W) (rest t W) N 0 refl one h) b ll)

    load-next : (N p : ℕ) → Advised v m s r (Load p r, no_payload) → 3 ≤ rest_at g W t.z.k0 v s → rest t W ≤ N + 0
        → s.durable + left t W < top_number
        → Leads t W m r N (Load p r, no_payload)
    load-next N p a three h b =
        let z = no_row x n2 r fr (Load p r, no_payload) a in
        let o = load-out x (l2 x turns n2) n2 p r z in
        let one : 1 ≤ N = n-one (rest t W) N 0 3 three (omega arith) h in (
          one,
          record {
            fewer = loaded-few _ p o.0.0 o.0.1;
            size = load-size x p r z;
            phase =
                after-loaded N p o.0.0 _ _ _ o.0.1 o.1
                (after-load x turns n2 cuts t noting silent p r o.0.0 _ z a) one h b;
          },
        )

    put-few : (s' : State) (p : ℕ) → s' ≡ appended_state s p (holder s p) → ever_written s' ≤ W
    put-few s' p e = rw e (omega (arith, few-put s p (holder s p)))

    after-refresh : (N p : ℕ) (v' m' : List ℕ) (s' : State) → s' ≡ appended_state s p (holder s p) → v' ≡ v
        → Halfway g v (appended_state s p (holder s p)) → 1 ≤ N → rest t W ≤ N + 1
        → s.durable + left t W < top_number
        → Phase g W t.z.k0 v' m' s' r (N - 1)
    after-refresh N p v' m' s' e f y one h b =
        let q = appended-counts s p (holder s p) in
        let c : since_written g v (appended_state s p (holder s p)).notes t.z.k0 ≡ since_written g v s.notes
        t.z.k0 =
        ap (λ (k : ℕ). since_written g v k t.z.k0) q.0 in
        rw (e, f)
        (putting (omega (arith, q.2)) y
        (n-step (rest t W) _ N 1 (rest_eq W g.pages t.z.k0 _ _ _ _ c q.0) one h)
        (d-app s.durable s.pending (left t W) _ _ _ top_number q.1 q.2 silent (left-eq W _ _ c) b))

    refresh-next : (N p : ℕ) → Advised v m s r (refresh m s p)
        → place2 x turns n2 + g.notes ≡ suc s.notes → note_needed g v s.notes (suc (place2 x turns n2)) ≡ true
        → is_written (note_record g v (suc (place2 x turns n2))) ≡ true
        → p ≡ (note_record g v (suc (place2 x turns n2))).page
        → rest t W ≤ N + 1 → s.durable + left t W < top_number → Leads t W m r N (refresh m s p)
    refresh-next N p a at2 need wr pe h b =
        let z = no_row x n2 r fr (refresh m s p) a in
        let o = put-out x (l2 x turns n2) n2 p z in
        let one : 1 ≤ N = n-one (rest t W) N 1 5 (five-left x turns n2 cuts t W (few-live x W few) at2 need wr)
        (omega arith) h in (
          one,
          record {
            fewer = put-few _ p o.0;
            size = put-size x p z;
            phase =
                after-refresh N p _ _ _ o.0 o.1 (halfway-put x turns n2 W room (few-live x W few)
                (few-next x W few) cuts t noting silent at2 need wr p pe z) one h b;
          },
        )

    after-noting : (N : ℕ) (u : Bool) (n : Note) (fs : List Frame) (v' m' : List ℕ) (s' : State)
        → s' ≡ with_frames s fs (Some n)
        → SameNotes g v v' → is_written n ≡ u → 1 ≤ N → rest t W ≤ N + cond u 3 1
        → s.durable + left t W < top_number + cond u 1 0
        → Phase g W t.z.k0 v' m' s' r (N - 1)
    after-noting N u n fs v' m' s' e sn iu one h b =
        let c : since_written g v' s.notes t.z.k0 ≡ since_written g v s.notes t.z.k0 =
        since-same g v v' sn s.notes t.z.k0 in
        let h1 : rest_at g W t.z.k0 v' s ≤ N - 1 + cond (is_written n) 4 2 =
        subst (λ (b : Bool). rest_at g W t.z.k0 v' s ≤ N - 1 + cond b 4 2) (sym iu)
        (n-leave (rest t W) _ N u (rest_eq W g.pages t.z.k0 _ _ s.notes s.notes c refl) one h) in
        let h2 : s.durable + left_at g W t.z.k0 v' s < top_number + cond (is_written n) 1 0 =
        subst (λ (b : Bool). s.durable + left_at g W t.z.k0 v' s < top_number + cond b 1 0) (sym iu)
        (d-leave s.durable (left t W) _ top_number (cond u 1 0) (left-eq W _ _ c) b) in
        rw e (storing n refl h1 h2)

    write-few : (s' : State) (fs : List Frame) (n : Note) → s' ≡ with_frames s fs (Some n)
        → place2 x turns n2 + g.notes ≡ suc s.notes → is_written (note_record g v (suc (place2 x turns n2))) ≡ true
        → n.page ≡ (note_record g v (suc (place2 x turns n2))).page → ever_written s' ≤ W
    write-few s' fs n e at2 wr pe = rw e (omega (arith, few-write s fs n (rw pe (second-wrote x turns n2 at2 wr))))

    write-next : (N p : ℕ) → Advised v m s r (Write p, no_payload) → page_dirty s p ≡ true
        → place2 x turns n2 + g.notes ≡ suc s.notes → note_needed g v s.notes (suc (place2 x turns n2)) ≡ true
        → is_written (note_record g v (suc (place2 x turns n2))) ≡ true
        → p ≡ (note_record g v (suc (place2 x turns n2))).page
        → rest t W ≤ N + 3 → s.durable + left t W < top_number + 1 → Leads t W m r N (Write p, no_payload)
    write-next N p a dirty at2 need wr pe h b =
        let o = write-out x (l2 x turns n2) n2 p (no_row x n2 r fr (Write p, no_payload) a) dirty in
        let one : 1 ≤ N = n-one (rest t W) N 3 5 (five-left x turns n2 cuts t W (few-live x W few) at2 need wr)
        (omega arith) h in
        let iu : is_written o.noting ≡ true = rw o.kind-is in (
          one,
          record {
            fewer = write-few _ o.frames o.noting o.state-is at2 wr (o.page-is ∙ pe);
            size = ap length o.memory-is;
            phase = after-noting N true o.noting o.frames _ _ _ o.state-is o.same iu one h b;
          },
        )

    backup-few : (s' : State) (fs : List Frame) (n : Note) → s' ≡ with_frames s fs (Some n) → is_written n ≡ false
        → ever_written s' ≤ W
    backup-few s' fs n e u = rw e (omega (arith, few-backup s fs n u))

    backup-next : (N p b : ℕ) → Advised v m s r (Backup p b, no_payload) → 3 ≤ rest_at g W t.z.k0 v s → rest t W ≤ N + 1
        → s.durable + left t W < top_number
        → Leads t W m r N (Backup p b, no_payload)
    backup-next N p b a three h d =
        let o = backup-out x (l2 x turns n2) n2 p b (no_row x n2 r fr (Backup p b, no_payload) a) in
        let one : 1 ≤ N = n-one (rest t W) N 1 3 three (omega arith) h in
        let iu : is_written o.noting ≡ false = rw o.kind-is in (
          one,
          record {
            fewer = backup-few _ o.frames o.noting o.state-is iu;
            size = ap length o.memory-is;
            phase = after-noting N false o.noting o.frames _ _ _ o.state-is o.same iu one h
                (d-zero s.durable (left t W) top_number d);
          },
        )

    record-left : note_ahead g v s 2 ≡ false → (i : ℕ) → 1 ≤ i → i ≤ reserve g → log_ahead g v s i ≡ true
        → 3 ≤ rest_at g W t.z.k0 v s
    unfolding log_ahead
    record-left none i lo hi y =
        let b0 : t.b ≡ 0 = not-busy x turns n2 cuts t
        (λ q1 q2 q3 l. true-not-false (ahead-is g v s 2 (place2 x turns n2) (omega arith) (omega arith) ∙ q2) none)
        noting in
        let near : s.durable ≤ t.z.d0 + t.z.u + reserve g =
        omega (arith, t.sums.puts, written-bound x turns n2 cuts t W (few-live x W few)) in
        let l =
        ltb-true g.records (s.durable + i)
        (and_left (ltb g.records (s.durable + i)) (record_needed g v s (log_position g s i)) y) in
        let need : record_needed g v s (log_position g s i) ≡ true =
        and_right (ltb g.records (s.durable + i)) (record_needed g v s (log_position g s i)) y in
        let kn = record-known x i lo hi y in
        let j = s.durable + i - g.records - 1 in
        let p : log_position g s i ≡ suc (s.durable + i - g.records - 1) = omega arith in
        three-left x turns n2 cuts t W (few-live x W few) near i lo hi j (omega arith)
        (subst (λ (q : ℕ). record_needed g v s q ≡ true) p need)
        (subst (λ (q : ℕ). 1 ≤ (log_record g v q).page) p kn.low) (subst (λ (q : ℕ). (log_record g v q).page ≤ g.pages)
        p kn.high)

    module _ (N a : ℕ) (a3 : a ≤ 3) (h : rest t W ≤ N + a) (b : s.durable + left t W < top_number + (a - 2))
        (c : Call) (adv : Advised v m s r c)
        (aw : a ≤ weight c) where
      here : (y : Call) → c ≡ y → (Advised v m s r y → a ≤ weight y → Leads t W m r N y) → Leads t W m r N c
      here y e f = subst (λ (z : Call). Leads t W m r N z) (sym e)
          (f (subst (λ (z : Call). Advised v m s r z) e adv) (subst (λ (z : Call). a ≤ weight z) e aw))

      by-second : (at2 : place2 x turns n2 + g.notes ≡ suc s.notes)
          (need : note_needed g v s.notes (suc (place2 x turns n2)) ≡ true)
          → Renewal v m s r (note_record g v (suc (place2 x turns n2))).page
          (is_written (note_record g v (suc (place2 x turns n2)))) c → Leads t W m r N c
      by-second at2 need (loads f l e) =
          here (Load _ r, no_payload) e (λ ad o. load-next N _ ad three (n-low (rest t W) N a 0 h o)
          (d-low s.durable (left t W) top_number a (omega arith) b))
        where
          three : 3 ≤ rest_at g W t.z.k0 v s
          three = by_cases (is_written (note_record g v (suc (place2 x turns n2))))
              (λ u. five-three (rest t W) (five-left x turns n2 cuts t W (few-live x W few) at2 need u))
              (λ u. three-second x turns n2 cuts t W (few-live x W few) at2 need u)
      by-second at2 need (backing f u l q e) =
          here (Backup _ _, no_payload) e
          (λ ad o. backup-next N _ _ ad (three-second x turns n2 cuts t W (few-live x W few) at2 need u)
          (n-low (rest t W) N a 1 h o)
          (d-low s.durable (left t W) top_number a o b))
      by-second at2 need (writing f u d q e) =
          here (Write _, no_payload) e (λ ad o. write-next N _ ad d at2 need u refl (n-low (rest t W) N a 3 h o)
          (d-high s.durable (left t W) top_number a o b))
      by-second at2 need (puts f u d q e) =
          here (refresh m s _) e (λ ad o. refresh-next N _ ad at2 need u refl (n-low (rest t W) N a 1 h o)
          (d-low s.durable (left t W) top_number a o b))

      by-record : (p : ℕ) → 3 ≤ rest_at g W t.z.k0 v s → Renewal v m s r p false c → Leads t W m r N c
      by-record p three (loads f l e) =
          here (Load _ r, no_payload) e (λ ad o. load-next N _ ad three (n-low (rest t W) N a 0 h o)
          (d-low s.durable (left t W) top_number a (omega arith) b))
      by-record p three (backing f u l q e) =
          here (Backup _ _, no_payload) e (λ ad o. backup-next N _ _ ad three (n-low (rest t W) N a 1 h o)
          (d-low s.durable (left t W) top_number a o b))
      by-record p three (writing f u d q e) = absurd (true-not-false u refl)
      by-record p three (puts f u d q e) = absurd (true-not-false u refl)

      by-advice : Advised v m s r c → Leads t W m r N c
      by-advice (notes y e) = absurd (true-not-false y noting)
      by-advice (forces y l e) = absurd (omega arith)
      by-advice (by_note y q o i lo hi f n) =
          let z = needs-second x turns n2 cuts t i lo hi (rw (geo x) at f) in
          by-second z.1 z.2
          (subst (λ (j : ℕ). Renewal v m s r (note_record g v j).page (is_written (note_record g v j)) c) z.3
          (rw (geo x) at n))
      by-advice (by_log y q o n1 z2 i lo hi f fi n) =
          by-record _ (record-left (rw (geo x) at z2) i lo (rw (geo x) at hi) (rw (geo x) at f)) n

      pub quiet_next : Leads t W m r N c
      quiet_next = by-advice adv

-- T2: after Load the advice goes on with the same renewal, and is no Load.
use mathlib.Core.Path.{◌≡◌, sym, ◌∙◌, ap}
use mathlib.Core.Bool.{Bool, true, false, cond, ◌||◌}
use mathlib.Core.List.{List}
use Prim.Native.Nat.{ℕ, ◌-◌, ◌≤◌}
use native.Mathlib.Omega.{arith}
use lib.ListN.{get_or}
use borrow.Author.Tests.{lt-ltb}
use Rattle.laws.proofs.Tables.{true-not-false}
use Rattle.model.specs.Tables.{first_of}
use Rattle.model.specs.Geometry.{ring, geometry_of}
use Rattle.model.specs.Scan.{log_record, note_record}
use Rattle.model.specs.State.{holder, held, note_pending, record_needed}
use Rattle.model.specs.Refusals.{load_rows}
use Rattle.model.specs.Outcome.{StoredItem}
use Rattle.model.specs.Effects.{with_frame, with_frames}
use Rattle.model.specs.Calls.{Call, code_of, number_of, is_call, no_payload}
use Rattle.model.specs.declared.{command.Command.TheVariants.Load, geometry.Geometry.Geometry, state.State.State}
use Rattle.model.specs.AbstractLog.{Logged}
use Rattle.history.proofs.Context.{Ctx, geo}
use Rattle.upkeep_policy.specs.Upkeep.{make, note_ahead, log_ahead, first_needed_log, note_position, log_position, upkeep_of}
use Rattle.upkeep_theory.proofs.Shape.{Renewal, loads, backs as backing, writes as writing, puts, Advised, notes}
use Rattle.upkeep_theory.proofs.Shape.{forces, by_note, by_log, advised}
use Rattle.upkeep_theory.proofs.Tidy.{Tidy}
use Rattle.upkeep_theory.proofs.Step.{needs-second}
use Rattle.upkeep_theory.proofs.Same.{holder-put}
use Rattle.history.proofs.Loads.{loads as loaded}

-- how much of its renewal a call has behind it
abbrev pub weight : Call → ℕ
weight c = cond (is_call 7 c) 3 (cond (is_call 5 c || is_call 8 c) 1 0)

-- the advice, if it is a call, is one of at least that weight
abbrev pub Least : ℕ → List ℕ → List ℕ → State → ℕ → Type 0
Least a v m s r = (c : Call) → upkeep_of v m s r ≡ make c → a ≤ weight c

heavy : (v m : List ℕ) (s : State) (r p : ℕ) (written : Bool) (c : Call) → held s p ≡ true → Renewal v m s r p written c
    → 1 ≤ weight c
heavy v m s r p written c hp (loads h b e) = absurd (true-not-false hp h)
heavy v m s r p written c hp (backing h t b n e) = rw e (omega arith)
heavy v m s r p written c hp (writing h t d n e) = rw e (omega arith)
heavy v m s r p written c hp (puts h t d n e) = rw e (omega arith)

abbrev numbered : Call → ℕ
numbered c = number_of c.0

page-of : (v m : List ℕ) (s : State) (r q p : ℕ) (written : Bool) → Renewal v m s r q written (Load p r, no_payload) → q ≡ p
page-of v m s r q p written (loads h b e) = sym (ap (λ (c : Call). get_or (code_of c.0) 1 0) e)
page-of v m s r q p written (backing h t b n e) = let z : ◌≡◌ {A = ℕ} 4 8 = ap numbered e in absurd (omega arith)
page-of v m s r q p written (writing h t d n e) = let z : ◌≡◌ {A = ℕ} 4 7 = ap numbered e in absurd (omega arith)
page-of v m s r q p written (puts h t d n e) = let z : ◌≡◌ {A = ℕ} 4 5 = ap numbered e in absurd (omega arith)

-- the state after Load
abbrev pub moved : State → ℕ → ℕ → Bool → State
moved s p r d = with_frames s (with_frame s r p d) s.note

module _ {C : Type 0} {g : Geometry} {v m : List ℕ} {past : List StoredItem} {s : State} {k w : List Logged}
    (x : Ctx C g v m past s k w) where
  pub moved-held : (p r : ℕ) (d : Bool) → first_of (load_rows v m s p r) ≡ 0 → held (moved s p r d) p ≡ true
  moved-held p r d e =
      let l = loaded x p r e in
      lt-ltb 0 (holder (moved s p r d) p) (holder-put 0 p (r - 1) s.frames d
      (omega (arith, l.frame-low, l.frame-high, x.al.memory.high, x.al.frames.size)))

  module _ (turns : ring g ≡ true) (n2 : 2 ≤ g.notes) (cuts : ℕ) (t : Tidy g v s cuts)
      (noting : note_pending s.note ≡ false)
      (silent : s.pending ≡ 0) where
    same-page : (i1 i : ℕ) → 1 ≤ i1 → i1 ≤ 2 → note_ahead (geometry_of v) v s i1 ≡ true → 1 ≤ i → i ≤ 2
        → note_ahead (geometry_of v) v s i ≡ true
        → i1 ≡ i
    same-page i1 i a1 b1 y1 a b y =
        (needs-second x turns n2 cuts t i1 a1 b1 (rw (geo x) at y1)).0
        ∙ sym (needs-second x turns n2 cuts t i a b (rw (geo x) at y)).0

    not-both : {A : Type 0} (i : ℕ) → 1 ≤ i → i ≤ 2 → note_ahead (geometry_of v) v s i ≡ true
        → note_ahead (geometry_of v) v s 2 ≡ false → A
    not-both i a b y z =
        let e : i ≡ 2 = (needs-second x turns n2 cuts t i a b (rw (geo x) at y)).0 in
        absurd (true-not-false (rw e at y) z)

    moved-heavy : (p r : ℕ) (d : Bool) (m' : List ℕ) → held (moved s p r d) p ≡ true
        → Advised v m s r (Load p r, no_payload) → (c : Call) → Advised v m' (moved s p r d) r c → 1 ≤ weight c
    unfolding note_ahead log_ahead first_needed_log record_needed
    moved-heavy p r d m' hp (notes y e) c b = absurd (true-not-false y noting)
    moved-heavy p r d m' hp (forces y b' e) c b = absurd (omega arith)
    moved-heavy p r d m' hp (by_note a1 q1 o1 i1 lo1 hi1 y1 n1) c (notes y e) = absurd (true-not-false y noting)
    moved-heavy p r d m' hp (by_note a1 q1 o1 i1 lo1 hi1 y1 n1) c (forces y b e) = absurd (omega arith)
    moved-heavy p r d m' hp (by_note a1 q1 o1 i1 lo1 hi1 y1 n1) c (by_note a q o i lo hi y n) =
        let e : i1 ≡ i = same-page i1 i lo1 hi1 y1 lo hi y in
        let pe = page-of v m s r _ p _ n1 in
        let pe' : (note_record (geometry_of v) v (note_position (geometry_of v) s i)).page ≡ p = rw e at pe in
        heavy v m' (moved s p r d) r _ _ c (rw pe' hp) n
    moved-heavy p r d m' hp (by_note a1 q1 o1 i1 lo1 hi1 y1 n1) c (by_log a q o z1 z2 i lo hi y fi n) =
        not-both i1 lo1 hi1 y1 z2
    moved-heavy p r d m' hp (by_log a1 q1 o1 z1 z2 i1 lo1 hi1 y1 f1 n1) c (notes y e) = absurd (true-not-false y noting)
    moved-heavy p r d m' hp (by_log a1 q1 o1 z1 z2 i1 lo1 hi1 y1 f1 n1) c (forces y b e) = absurd (omega arith)
    moved-heavy p r d m' hp (by_log a1 q1 o1 z1 z2 i1 lo1 hi1 y1 f1 n1) c (by_note a q o i lo hi y n) =
        not-both i lo hi y z2
    moved-heavy p r d m' hp (by_log a1 q1 o1 y1 y2 i1 lo1 hi1 w1 f1 n1) c (by_log a q o z1 z2 i lo hi y fi n) =
        let e : i1 ≡ i = f1 ∙ sym fi in
        let pe = page-of v m s r _ p _ n1 in
        let pe' : (log_record (geometry_of v) v (log_position (geometry_of v) s i)).page ≡ p = rw e at pe in
        heavy v m' (moved s p r d) r _ _ c (rw pe' hp) n

    pub after-load : (p r : ℕ) (d : Bool) (m' : List ℕ) → first_of (load_rows v m s p r) ≡ 0 → Advised v m s r (Load p r, no_payload)
        → Least 1 v m' (moved s p r d) r
    after-load p r d m' e a c f = moved-heavy p r d m' (moved-held p r d e) a c (advised v m' (moved s p r d) r c f)

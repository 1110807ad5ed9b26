-- The advice, case by case: what the code answers is the policy's.
use mathlib.Core.Path.{◌≡◌, refl, sym, ap, ◌∙◌}
use mathlib.Core.Bool.{Bool, true, false, cond, not}
use mathlib.Core.List.{List, [], ◌∷◌}
use Prim.Native.Nat.{ℕ, ◌+◌, ◌/◌, ◌≤◌, ◌<◌}
use native.Mathlib.Omega.{arith}
use lib.Dec.{eqb, leb, ltb}
use lib.ListN.{length, replicate}
use borrow.Author.Tests.{eq-eqb, ne_eqb, le-leb, lt-leb, lt-ltb, le-ltb}
use Rattle.laws.proofs.Tables.{when_true, when_false}
use Rattle.laws.proofs.Parts.{part_at}
use Rattle.laws.proofs.WellFormed.{ready}
use Rattle.state.proofs.Fits.{refusal-first, refusal-last}
use Rattle.laws.proofs.Refused.{refusal-some}
use Rattle.model.specs.Tables.{Row, first_of, within}
use Rattle.model.specs.Refused.{refusal_number}
use Rattle.model.specs.Bytes.{byte_at}
use Rattle.model.specs.Geometry.{ring, geometry_of, valid_volume}
use Rattle.model.specs.Scan.{log_record, note_record}
use Rattle.model.specs.State.{frame_count, frame_at, frame_bytes, frame_of, log_full, note_pending, holder, held}
use Rattle.model.specs.Refusals.{state_rows, load_rows}
use Rattle.model.specs.Calls.{no_payload}
use Rattle.upkeep_policy.specs.Upkeep.{Advice, make, note_position, log_position, first_needed_note, first_needed_log}
use Rattle.upkeep_policy.specs.Upkeep.{bring_in, back_up, write_out, renew, upkeep_of, advised_by, advise_rows, advise_of}
use Rattle.model.specs.declared.{change.Change.TheVariants.Put, geometry.Geometry.Geometry, state.Frame.Frame}
use Rattle.model.specs.declared.{answer.Refusal.Refusal, state.State.State}
use Rattle.model.specs.declared.command.Command.TheVariants.{Load, Force}
use Rattle.model.specs.declared.command.Command.TheVariants.{Change, Note}
use Rattle.upkeep_policy.specs.declared.upkeep.Advised.{Advised}
use Rattle.upkeep_policy.specs.declared.upkeep.Upkeep.{Upkeep}
use Rattle.upkeep_policy.specs.declared.upkeep.Upkeep.TheVariants.{Refused, Idle, Stuck, Make}
use Rattle.upkeep.specs.Parts.{ring_advice}
use Rattle.model.specs.declared.item.Note.{Note as NoteFields}

-- an answer without payload
abbrev pub bare : Upkeep → Advised
bare u = record { upkeep = u; payload = no_payload }

-- by the test that the code made
chosen : (t : Bool) (a b : Advice) (x : Advised) → t ≡ true → x ≡ advised_by a → x ≡ advised_by (cond t a b)
chosen t a b x h e = e ∙ sym (ap advised_by (when_true a b h))

other : (t : Bool) (a b : Advice) (x : Advised) → t ≡ false → x ≡ advised_by b → x ≡ advised_by (cond t a b)
other t a b x h e = e ∙ sym (ap advised_by (when_false a b h))

-- R1
module _ (v m : List ℕ) (s : State) (r p : ℕ) (x : Advised) (n : ℕ) (en : n ≡ first_of (load_rows v m s p r)) where
  pub bring-stuck : n ≡ 23 → x ≡ bare (Stuck p) → x ≡ advised_by (bring_in v m s r p)
  bring-stuck h e = chosen _ _ _ x (eq-eqb _ 23 (sym en ∙ h)) e

  pub bring-load : (n ≡ 23 → ⊥) → x ≡ bare (Make (Load p r)) → x ≡ advised_by (bring_in v m s r p)
  bring-load h e = other _ _ _ x (ne_eqb _ 23 (λ z. h (en ∙ z))) e

-- R3 and R4
module _ (v m : List ℕ) (s : State) (p : ℕ) (x : Advised) (g : Geometry) (eg : g ≡ geometry_of v) (f : ℕ) (row : Frame)
    (eh : f ≡ holder s p) (er : row ≡ frame_of s f) (full : Bool) where
  dirty : row.dirty ≡ (frame_of s (holder s p)).dirty
  dirty = ap (λ (w : Frame). w.dirty) (er ∙ ap (frame_of s) eh)

  module _ (d : row.dirty ≡ false) (ef : full ≡ log_full g v s) where
    log : full ≡ log_full (geometry_of v) v s
    log = ef ∙ ap (λ (k : Geometry). log_full k v s) eg

    pub put-makes : (at b : ℕ) → full ≡ false → at ≡ frame_at f → b ≡ byte_at m (at + 8)
        → x ≡ record { upkeep = Make (Change p (Put 0 1)); payload = b ∷ replicate 43 0 }
        → x ≡ advised_by (write_out v m s p)
    put-makes at b h ea eb e =
        let k : at ≡ frame_at (holder s p) = ea ∙ ap frame_at eh in
        let y : b ≡ byte_at (frame_bytes m (holder s p)) 8 =
        eb ∙ ap (λ (i : ℕ). byte_at m (i + 8)) k ∙ sym (part_at m (frame_at (holder s p)) 256 8 (omega arith)) in
        other _ _ _ x (sym dirty ∙ d) (other _ _ _ x (sym log ∙ h)
        (e ∙ ap (λ (c : ℕ). record { upkeep = Make (Change p (Put 0 1)); payload = c ∷ replicate 43 0 }) y))

-- the renewal
module _ (v m : List ℕ) (s : State) (r p : ℕ) (w : Bool) (x : Advised) (h : Bool) (eh : h ≡ held s p) where
  pub renew-load : h ≡ false → x ≡ advised_by (bring_in v m s r p) → x ≡ advised_by (renew v m s r p w)
  unfolding renew
  renew-load n e = other (held s p) _ _ x (sym eh ∙ n) e

  pub renew-write : h ≡ true → w ≡ true → x ≡ advised_by (write_out v m s p) → x ≡ advised_by (renew v m s r p w)
  unfolding renew
  renew-write y t e = chosen (held s p) _ _ x (sym eh ∙ y) (chosen w _ _ x t e)

  pub renew-back : h ≡ true → w ≡ false → x ≡ advised_by (back_up v s p) → x ≡ advised_by (renew v m s r p w)
  unfolding renew
  renew-back y t e = chosen (held s p) _ _ x (sym eh ∙ y) (other w _ _ x t e)

-- U3 to U5
module _ (v m : List ℕ) (s : State) (r : ℕ) (x : Advised) (g : Geometry) (eg : g ≡ geometry_of v) (i : ℕ)
    (ei : i ≡ first_needed_note g v s) where
  first-note : i ≡ first_needed_note (geometry_of v) v s
  first-note = ei ∙ rw eg

  pub ring-note : (n : NoteFields) → i ≤ 2 → n ≡ note_record g v (note_position g s i)
      → x ≡ advised_by (renew v m s r n.page (eqb n.kind 1)) → x ≡ advised_by (ring_advice v m s r)
  unfolding ring_advice
  ring-note n h en e =
      chosen (leb (first_needed_note (geometry_of v) v s) 2) _ _ x (rw (← first-note) (le-leb i 2 h))
      (rw (← first-note, ← eg, ← en) e)

  module _ (past : 2 < i) (j : ℕ) (ej : j ≡ first_needed_log g v s) where
    first-log : j ≡ first_needed_log (geometry_of v) v s
    first-log = ej ∙ rw eg

    pub ring-log : (p : ℕ) → j ≤ g.records / 2 → p ≡ (log_record g v (log_position g s j)).page
        → x ≡ advised_by (renew v m s r p false)
        → x ≡ advised_by (ring_advice v m s r)
    unfolding ring_advice
    ring-log p h ep e =
        other (leb (first_needed_note (geometry_of v) v s) 2) _ _ x (rw (← first-note) (lt-leb i 2 past))
        (chosen (leb (first_needed_log (geometry_of v) v s) ((geometry_of v).records / 2)) _ _ x
        (rw (← first-log, ← eg) (le-leb j (g.records / 2) h))
        (rw (← first-log, ← eg, ← ep) e))

    pub ring-idle : g.records / 2 < j → x ≡ bare Idle → x ≡ advised_by (ring_advice v m s r)
    unfolding ring_advice
    ring-idle h e =
        other (leb (first_needed_note (geometry_of v) v s) 2) _ _ x (rw (← first-note) (lt-leb i 2 past))
        (other (leb (first_needed_log (geometry_of v) v s) ((geometry_of v).records / 2)) _ _ x
        (rw (← first-log, ← eg) (lt-leb j (g.records / 2) h)) e)

-- U1 and U2
module _ (v m : List ℕ) (s : State) (r : ℕ) (x : Advised) where
  pub policy-note : note_pending s.note ≡ true → x ≡ bare (Make Note) → x ≡ advised_by (upkeep_of v m s r)
  unfolding upkeep_of
  policy-note h e = chosen (note_pending s.note) (make (Note, no_payload)) _ x h e

  module _ (none : note_pending s.note ≡ false) where
    pub policy-force : 0 < s.pending → x ≡ bare (Make Force) → x ≡ advised_by (upkeep_of v m s r)
    unfolding upkeep_of
    policy-force h e =
        other (note_pending s.note) (make (Note, no_payload)) _ x none
        (chosen (ltb 0 s.pending) (make (Force, no_payload)) _ x (lt-ltb 0 s.pending h) e)

    module _ (z : s.pending ≤ 0) (g : Geometry) (eg : g ≡ geometry_of v) (o : Bool) (eo : o ≡ ring g) where
      turns : o ≡ ring (geometry_of v)
      turns = eo ∙ rw eg

      pub policy-flat : o ≡ false → x ≡ bare Idle → x ≡ advised_by (upkeep_of v m s r)
      unfolding upkeep_of
      policy-flat h e =
          other (note_pending s.note) (make (Note, no_payload)) _ x none
          (other (ltb 0 s.pending) (make (Force, no_payload)) _ x (le-ltb 0 s.pending z)
          (other (ring (geometry_of v)) _ _ x (sym turns ∙ h) e))

      pub policy-ring : o ≡ true → x ≡ advised_by (ring_advice v m s r) → x ≡ advised_by (upkeep_of v m s r)
      unfolding upkeep_of ring_advice
      policy-ring h e =
          other (note_pending s.note) (make (Note, no_payload)) _ x none
          (other (ltb 0 s.pending) (make (Force, no_payload)) _ x (le-ltb 0 s.pending z)
          (chosen (ring (geometry_of v)) _ _ x (sym turns ∙ h) e))

-- ---- the rows

module _ (v m : List ℕ) (s : State) (r : ℕ) where
  abbrev own : List Row
  own = (not (within (frame_count (length m)) r), 4) ∷ []

  pub rows-first : (k : Refusal) → refusal_number k ≡ first_of (state_rows v m s []) → refusal_number k ≡ first_of (advise_rows v m s r)
  unfolding advise_rows
  rows-first k e = refusal-first v m s own _ e (refusal-some k)

  pub rows-last : (count : ℕ) → 0 ≡ first_of (state_rows v m s []) → count ≡ frame_count (length m)
      → cond (not (within count r)) 4 0 ≡ first_of (advise_rows v m s r)
  unfolding advise_rows
  rows-last count e ec = refusal-last v m s own 0 _ e refl (rw ec)

module _ (v m : List ℕ) (s : State) (r k : ℕ) (en : k ≡ first_of (advise_rows v m s r)) (x : Advised) where
  pub advise-refused : (k ≡ 0 → ⊥) → x ≡ bare (Refused k) → x ≡ advise_of v m s r
  unfolding advise_of
  advise-refused h e =
      rw (ne_eqb (first_of (advise_rows v m s r)) 0 (λ z. h (en ∙ z))) (e ∙ ap (λ (n : ℕ). bare (Refused n)) en)

  pub advise-open : k ≡ 0 → x ≡ advised_by (upkeep_of v m s r) → x ≡ advise_of v m s r
  unfolding advise_of
  advise-open h e = rw (eq-eqb (first_of (advise_rows v m s r)) 0 (sym en ∙ h)) e

-- where the rows refuse nothing the volume is valid
pub advise-valid : (v m : List ℕ) (s : State) (r : ℕ) → first_of (advise_rows v m s r) ≡ 0 → valid_volume v ≡ true
unfolding advise_rows
advise-valid v m s r h = (ready v m s ((not (within (frame_count (length m)) r), 4) ∷ []) h).volume

-- The policy, case by case: what the code answers is what the definition says.
use mathlib.Core.Path.{◌≡◌, refl, sym, ap, ◌∙◌}
use mathlib.Core.Bool.{Bool, true, false, cond, ◌&&◌, ◌||◌, not}
use mathlib.Core.List.{List, [], ◌∷◌}
use Prim.Native.Nat.{ℕ, ◌≤◌}
use lib.Dec.{eqb}
use lib.ListN.{length}
use borrow.Author.Tests.{eq-eqb, ne_eqb}
use denote.Enum.Bare.{sameb}
use Rattle.model.specs.contracts.answer.Class.{the_type}
use Rattle.model.specs.declared.answer.Class.TheVariants as classes
use Rattle.laws.proofs.Tables.{when_true, when_false}
use Rattle.laws.proofs.Places.{valid-facts}
use Rattle.laws.proofs.Frames.{entry-of}
use Rattle.laws.proofs.WellFormed.{ready}
use Rattle.state.proofs.Fits.{refusal-first, refusal-last}
use Rattle.laws.proofs.Refused.{refusal-some}
use Rattle.model.specs.Tables.{Row, first_of, within}
use Rattle.model.specs.Refused.{refusal_number}
use Rattle.model.specs.Geometry.{ring, geometry_of}
use Rattle.model.specs.Index.{entry_of}
use Rattle.model.specs.State.{frame_count, held}
use Rattle.model.specs.Repair.{state_view, own_start, class_in, walk_from, is_below}
use Rattle.model.specs.Refusals.{state_rows}
use Rattle.model.specs.Calls.{no_payload}
use Rattle.model.specs.declared.{geometry.Geometry.Geometry, state.Entry.Entry, state.State.State, answer.Class.Class, answer.Refusal.Refusal}
use Rattle.upkeep_policy.specs.Upkeep.{renew}
use Rattle.repair.specs.Walked.{log_of}
use Rattle.mend_policy.specs.Mend.{stands, reaches_from, reaches, margin, may_write, is_ahead, is_stale}
use Rattle.mend_policy.specs.Mend.{Mending, whole, single, ahead, mending, mend_of, mended_by, mend_rows, mended_of}
use Rattle.mend_policy.specs.declared.mending.Mended.{Mended}
use Rattle.mend_policy.specs.declared.mending.Mend.{Mend}
use Rattle.mend_policy.specs.declared.mending.Mend.TheVariants.{Refused, Whole, Single, Ahead}
use Rattle.mend.specs.Parts.{start_at, standing_part, second_part}

-- an answer without payload
abbrev pub bare : Mend → Mended
bare x = record { mend = x; payload = no_payload }

-- by the test that the code made
chosen : (t : Bool) (a b : Mending) (x : Mended) → t ≡ true → x ≡ mended_by a → x ≡ mended_by (cond t a b)
chosen t a b x h e = e ∙ sym (ap mended_by (when_true a b h))

other : (t : Bool) (a b : Mending) (x : Mended) → t ≡ false → x ≡ mended_by b → x ≡ mended_by (cond t a b)
other t a b x h e = e ∙ sym (ap mended_by (when_false a b h))

-- ---- the code's tests of a class

pub ahead-is : (c : Class) → sameb the_type c classes.Ahead ≡ is_ahead c
ahead-is classes.Good = refl
ahead-is classes.Behind = refl
ahead-is classes.Stale = refl
ahead-is classes.Failed = refl
ahead-is classes.Ahead = refl

pub stale-is : (c : Class) → sameb the_type c classes.Stale ≡ is_stale c
stale-is classes.Good = refl
stale-is classes.Behind = refl
stale-is classes.Stale = refl
stale-is classes.Failed = refl
stale-is classes.Ahead = refl

-- ---- M2, A3, A4

module _ (v m : List ℕ) (s : State) (r p : ℕ) (x : Mended) (g : Geometry) (e : Entry) (eg : g ≡ geometry_of v) (ee : e ≡ entry_of s.index p) (o : ℕ) (c : Class)
    (eo : o ≡ own_start g p (state_view g v s p))
    (ec : c ≡ class_in g p (state_view g v s p))
    (start : ℕ)
    (es : start ≡ start_at g v s.durable)
    (far : Bool)
    (ef : far ≡ not (is_below (walk_from e.durable (log_of g v) start p o 0 e.durable).stop))
    (may stale : Bool)
    (em : may ≡ may_write g e)
    (et : stale ≡ is_stale c) where
  far-is : far ≡ reaches (geometry_of v) (state_view (geometry_of v) v s p) s.durable p (margin (geometry_of v))
  unfolding reaches_from
  far-is = ef ∙ rw (es, eo, ee, eg)

  test : (may && (not far || stale))
      ≡ (may_write (geometry_of v) (entry_of s.index p)
      && (not (reaches (geometry_of v) (state_view (geometry_of v) v s p) s.durable p (margin (geometry_of v)))
      || is_stale (class_in (geometry_of v) p (state_view (geometry_of v) v s p))))
  test = rw (em, far-is, et, ec, ee, eg)

  pub standing-writes : (may && (not far || stale)) ≡ true
      → x ≡ mended_by (mending (held s p) (renew v m s r p true)) → x ≡ mended_by (standing_part v m s r p)
  unfolding standing_part
  standing-writes h ex = chosen _ _ _ x (sym test ∙ h) ex

  module _ (h : (may && (not far || stale)) ≡ false) where
    pub standing-whole : far ≡ true → x ≡ bare Whole → x ≡ mended_by (standing_part v m s r p)
    unfolding standing_part
    standing-whole y ex = other _ _ _ x (sym test ∙ h) (chosen _ whole single x (sym far-is ∙ y) ex)

    pub standing-single : far ≡ false → x ≡ bare Single → x ≡ mended_by (standing_part v m s r p)
    unfolding standing_part
    standing-single y ex = other _ _ _ x (sym test ∙ h) (other _ whole single x (sym far-is ∙ y) ex)

-- ---- A2, M1

module _ (v m : List ℕ) (s : State) (r p : ℕ) (x : Mended) (g : Geometry) (e : Entry) (eg : g ≡ geometry_of v) (ee : e ≡ entry_of s.index p) (c : Class)
    (ec : c ≡ class_in g p (state_view g v s p))
    (up : Bool)
    (eu : up ≡ is_ahead c) where
  above : up ≡ is_ahead (class_in (geometry_of v) p (state_view (geometry_of v) v s p))
  above =
      eu ∙ ap is_ahead ec
      ∙ ap (λ (k : Geometry). is_ahead (class_in k p (state_view k v s p))) eg

  pub second-ahead : up ≡ true → x ≡ bare Ahead → x ≡ mended_by (second_part v m s r p)
  unfolding second_part
  second-ahead h ex = chosen _ ahead _ x (sym above ∙ h) ex

  module _ (h : up ≡ false) (t : Bool) (et : t ≡ stands g v e p) where
    backed : t ≡ stands (geometry_of v) v (entry_of s.index p) p
    backed = et ∙ rw (ee, eg)

    pub second-copies : t ≡ false → x ≡ mended_by (mending (held s p) (renew v m s r p false)) → x ≡ mended_by (second_part v m s r p)
    unfolding second_part
    second-copies y ex = other _ ahead _ x (sym above ∙ h) (chosen _ _ _ x (sym (ap not backed) ∙ ap not y) ex)

    pub second-standing : t ≡ true → x ≡ mended_by (standing_part v m s r p) → x ≡ mended_by (second_part v m s r p)
    unfolding second_part
    second-standing y ex = other _ ahead _ x (sym above ∙ h) (other _ _ _ x (sym (ap not backed) ∙ ap not y) ex)

-- ---- A1

module _ (v m : List ℕ) (s : State) (r p : ℕ) (x : Mended) (g : Geometry) (eg : g ≡ geometry_of v) (e : Entry)
    (ee : e ≡ entry_of s.index p)
    (o : Bool)
    (eo : o ≡ ring g) where
  blank : (not o || eqb e.durable 0) ≡ (not (ring (geometry_of v)) || eqb (entry_of s.index p).durable 0)
  blank = rw (eo, ee, eg)

  pub policy-whole : (not o || eqb e.durable 0) ≡ true → x ≡ bare Whole → x ≡ mended_by (mend_of v m s r p)
  unfolding mend_of
  policy-whole h ex = chosen _ whole _ x (sym blank ∙ h) ex

  pub policy-changed : (not o || eqb e.durable 0) ≡ false → x ≡ mended_by (second_part v m s r p) → x ≡ mended_by (mend_of v m s r p)
  unfolding mend_of second_part standing_part
  policy-changed h ex = other _ whole _ x (sym blank ∙ h) ex

-- ---- the rows

module _ (v m : List ℕ) (s : State) (r p : ℕ) where
  abbrev tail : List Row
  tail = (not (within (geometry_of v).pages p), 3) ∷ (not (within (frame_count (length m)) r), 4) ∷ []

  pub rows-first : (k : Refusal) → refusal_number k ≡ first_of (state_rows v m s []) → refusal_number k ≡ first_of (mend_rows v m s r p)
  unfolding mend_rows
  rows-first k e = refusal-first v m s tail _ e (refusal-some k)

  module _ (e : 0 ≡ first_of (state_rows v m s [])) (g : Geometry) (eg : g ≡ geometry_of v) where
    pub rows-last : (count : ℕ) → count ≡ frame_count (length m)
        → cond (not (within g.pages p)) 3 (cond (not (within count r)) 4 0) ≡ first_of (mend_rows v m s r p)
    unfolding mend_rows
    rows-last count ec = refusal-last v m s tail 0 _ e refl (rw (ec, eg))

    -- where these refuse nothing, and there is such a page
    pub slot-fits : 1 ≤ p → p ≤ g.pages → (entry_of s.index p).slot ≤ g.slots
    slot-fits low high =
        let k = ready v m s [] (sym e) in
        let f = valid-facts v k.volume in
        let top : p ≤ (geometry_of v).pages = rw eg at high in
        rw eg (entry-of (geometry_of v) (frame_count (length m)) s k.state f.p-high p low top).numbers.slot

  module _ (k : ℕ) (en : k ≡ first_of (mend_rows v m s r p)) (x : Mended) where
    pub advise-refused : (k ≡ 0 → ⊥) → x ≡ bare (Refused k) → x ≡ mended_of v m s r p
    unfolding mended_of
    advise-refused h ex =
        rw (ne_eqb (first_of (mend_rows v m s r p)) 0 (λ z. h (en ∙ z))) (ex ∙ ap (λ (n : ℕ). bare (Refused n)) en)

    pub advise-open : k ≡ 0 → x ≡ mended_by (mend_of v m s r p) → x ≡ mended_of v m s r p
    unfolding mended_of
    advise-open h ex = rw (eq-eqb (first_of (mend_rows v m s r p)) 0 (sym en ∙ h)) ex

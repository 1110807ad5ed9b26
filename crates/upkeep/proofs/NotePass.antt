-- The one pass over the notes: what it has seen so far of a note, and what that comes to where it ends.
use mathlib.Core.Path.{◌≡◌, sym, ◌∙◌}
use mathlib.Core.Bool.{Bool, false, ◌&&◌, not, and-true, and_assoc}
use mathlib.Core.List.{List}
use Prim.Native.Nat.{ℕ, suc, ◌+◌, ◌-◌, ◌≤◌, ◌<◌}
use native.Mathlib.Decide.{dec_lt}
use native.Mathlib.Omega.{arith}
use lib.Dec.{eqb}
use Rattle.laws.proofs.Tables.{and_left, and_right, and_both, by_cases, true-not-false, every-at, every-all}
use Rattle.model.specs.Tables.{every}
use Rattle.model.specs.Scan.{note_record}
use Rattle.model.specs.State.{note_whole, note_needed}
use Rattle.model.specs.declared.{geometry.Geometry.Geometry, item.Note.Note}
use Rattle.room.proofs.FullNotes.{later_other}

-- ---- plain laws

-- what fails of fewer numbers fails of more
fails_more : (w : Bool) (p : ℕ → Bool) (i n : ℕ) → i ≤ n → (w && every i p) ≡ false → (w && every n p) ≡ false
fails_more w p i n b h =
    by_cases (w && every n p)
    (λ t. absurd (true-not-false
    (and_both (and_left w (every n p) t)
    (every-all p i (λ a l. every-at p n (and_right w (every n p) t) a (omega arith)))) h))
    (λ f. f)

-- ---- the pass

module _ (g : Geometry) (v : List ℕ) where
  -- note j stands whole, and none of the next i notes spares it
  abbrev pub so_far : ℕ → ℕ → Bool
  so_far j i = note_whole g v j && every i (later_other g v j)

  pub pass-start : (j : ℕ) (w : Bool) → w ≡ note_whole g v j → w ≡ so_far j 0
  unfolding every
  pass-start j w e = e ∙ sym (and-true (note_whole g v j))

  -- note n, the next one
  pub pass_on : (j i i' n : ℕ) (x w t : Bool) (a e : Note) → i' ≡ suc i → n ≡ suc (j + i) → x ≡ so_far j i
      → w ≡ note_whole g v n
      → a ≡ note_record g v j → e ≡ note_record g v n
      → t ≡ (eqb e.page a.page && eqb e.kind a.kind)
      → (x && not (w && t)) ≡ so_far j i'
  unfolding every
  pass_on j i i' n x w t a e ei en ex ew ea ee et =
      rw (ei, ex, et, ew, ea, ee, en) (and_assoc (note_whole g v j) (every i (later_other g v j)) (later_other g v j i))

  -- of k notes, all seen, or the note found to be spare
  pub pass-end : (k j i : ℕ) (x : Bool) → x ≡ so_far j i → i ≤ k - j → (i < k - j → x ≡ false) → x ≡ note_needed g v k j
  unfolding note_needed
  pass-end k j i x ex b h = elim (dec_lt i (k - j)) [
    | yes l ↦ h l ∙ sym (fails_more (note_whole g v j) (later_other g v j) i (k - j) b (sym ex ∙ h l))
    | no z ↦ let q : i ≡ k - j = omega arith in rw q at ex
  ]

-- Release: its refusals come to the rows of its table, and what its definition says in each of its cases.
use mathlib.Core.Path.{◌≡◌, refl, ap, ◌∙◌}
use mathlib.Core.Bool.{false}
use mathlib.Core.List.{List, []}
use Prim.Native.Nat.{ℕ, ◌≤◌}
use native.Mathlib.Omega.{arith}
use lib.ListN.{length, get_or}
use borrow.Author.Tests.{eq-eqb, ne_eqb, eqb-false, not-false}
use Rattle.laws.proofs.Tables.{none-at, within-bounds}
use Rattle.laws.proofs.Places.{valid-facts}
use Rattle.laws.proofs.WellFormed.{ready, holder-low, holder-high}
use Rattle.state.proofs.Fits.{refusal-first, refusal-last}
use Rattle.model.specs.Tables.{first_of}
use Rattle.model.specs.Geometry.{geometry_of}
use Rattle.model.specs.State.{frame_count, holder}
use Rattle.model.specs.Refusals.{state_rows, release_rows, release_tail}
use Rattle.model.specs.Outcome.{reply_of, decided}
use Rattle.model.specs.Effects.{with_frame, with_frames, release_done}
use Rattle.model.specs.Calls.{release_of}
use Rattle.model.specs.declared.{geometry.Geometry.Geometry, state.State.State, answer.Reply.Reply}
use Rattle.model.specs.declared.answer.Answer.TheVariants.{Refused, Done}

module _ (v m : List ℕ) (s : State) (page : ℕ) where
  -- the rows 1 and 2, then those
  pub release-first : (n : ℕ) → n ≡ first_of (state_rows v m s []) → (n ≡ 0 → ⊥) → n ≡ first_of (release_rows v m s page)
  unfolding release_rows
  release-first n e = refusal-first v m s (release_tail (geometry_of v) s page (holder s page)) n e

  pub release-rows : (g : Geometry) (n f r : ℕ) → n ≡ first_of (state_rows v m s []) → n ≡ 0 → g ≡ geometry_of v → f ≡ holder s page
      → r ≡ first_of (release_tail g s page f) → r ≡ first_of (release_rows v m s page)
  unfolding release_rows
  release-rows g n f r e z eg ef er =
      refusal-last v m s (release_tail (geometry_of v) s page (holder s page)) n r e z (er ∙ rw (ef, eg))

  pub release-refused : (n : ℕ) → n ≡ first_of (release_rows v m s page) → (n ≡ 0 → ⊥)
      → ◌≡◌ {A = Reply} (record { answer = Refused n; state = s }) (reply_of (release_of v m s page))
  unfolding decided release_done
  release-refused n e ne =
      rw (ne_eqb (first_of (release_rows v m s page)) 0 (λ z. ne (e ∙ z))) (ap (λ (k : ℕ). record { answer = Refused k; state = s }) e)

  -- where it is not refused a frame holds the page
  pub release-held : length s.frames ≡ 16 → first_of (release_rows v m s page) ≡ 0
      → (page ≤ 64) × (1 ≤ holder s page) × (holder s page ≤ 16)
  unfolding release_rows
  release-held sixteen h =
      let g = geometry_of v in
      let rows = release_tail g s page (holder s page) in
      let k = ready v m s rows h in
      let none : (i : ℕ) → (get_or rows i (false, 0)).0 ≡ false =
      none-at rows (eqb-false 3 0 refl, (eqb-false 8 0 refl, (eqb-false 10 0 refl, tt))) k.rest in
      let w = within-bounds g.pages page (not-false _ (none 0)) in
      let n = frame_count (length m) in (
        omega (arith, w.1, (valid-facts v k.volume).p-high),
        holder-low g n s k.state sixteen page (not-false _ (none 1)),
        holder-high g n s k.state sixteen page (not-false _ (none 1)),
      )

  pub release-done : (f : ℕ) (t : State) → first_of (release_rows v m s page) ≡ 0 → f ≡ holder s page
      → t ≡ with_frames s (with_frame s f 0 false) s.note
      → ◌≡◌ {A = Reply} (record { answer = Done; state = t }) (reply_of (release_of v m s page))
  unfolding decided release_done
  release-done f t z ef et =
      rw (eq-eqb (first_of (release_rows v m s page)) 0 z)
      (ap (λ (x : State). record { answer = Done; state = x }) (et ∙ ap (λ (i : ℕ). with_frames s (with_frame s i 0 false) s.note) ef))

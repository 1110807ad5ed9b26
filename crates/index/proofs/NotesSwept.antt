-- Laws of the notes' sweep: notes that were passed and are closed are the notes' run, and keep the restart rule.
use mathlib.Core.Path.{◌≡◌, sym, ap, ◌∙◌, subst}
use mathlib.Core.Bool.{Bool, true, ◌&&◌, ◌||◌}
use mathlib.Core.List.{List, [], ◌∷◌}
use Prim.Native.Nat.{ℕ, suc, ◌+◌, ◌-◌, ◌%◌, ◌≤◌, ◌<◌}
use native.Mathlib.Omega.{arith}
use native.Mathlib.Decide.{ℕ_discrete}
use lib.Dec.{eqb, ltb}
use borrow.Author.Tests.{eqb-true, ne_eqb}
use Rattle.laws.proofs.Tables.{by_cases, and_both, and-fails, all-at, every-none, every-at, when_true, when_false}
use Rattle.model.specs.Tables.{every, within}
use Rattle.model.specs.Bytes.{field}
use Rattle.model.specs.Checksum.{sealed}
use Rattle.model.specs.Geometry.{ring, note_at, note_slot, item}
use Rattle.model.specs.Item.{note_of, note_layout}
use Rattle.model.specs.Scan.{count_in, first_in, ends_in, note_slots, log_record, note_record, durable_count, first_held}
use Rattle.model.specs.Scan.{note_count, first_note, note_index, note_follows, note_fits}
use Rattle.model.specs.Scan as scan
use Rattle.model.specs.declared.geometry.Geometry.{Geometry}
use Rattle.section.specs.Section.{slot_bytes, slots_in}
use Rattle.section.specs.Sweep.{Guessed, Swept, closed_of, begun_of}
use Rattle.section.specs.declared.guess.Guess.{Guess}
use Rattle.section.proofs.SweepLaws.{Closes, closes, closed_none}
use Rattle.index_rows.specs.declared.columns.Columns.{Columns}
use Rattle.index_rows.specs.Columns.{Noted}
use Rattle.index.specs.NotesPassed.{NotesPassed}
use Rattle.log_scan.specs.LogSection.{Sized}
use Rattle.index.specs.NoteSection.{note_section, noted_index, notes_fit}
use Rattle.index.specs.NotesSwept.{NotesSwept}
use Rattle.index.proofs.Located.{note-slot, note-section, note-placed}

-- the run start of c numbers from f on
begun-some : (t : Bool) (f c : ℕ) → (c ≡ 0 → ⊥) → begun_of t f c ≡ f
begun-some t f c h = when_false 2 f (and-fails t (ne_eqb c 0 h))

begun-none : (t : Bool) (f c : ℕ) → f ≡ 1 → c ≡ 0 → suc (f + c - 1) - begun_of t f c ≡ 0
begun-none t f c e z =
    by_cases (t && eqb c 0) (λ u. rw (when_true 2 f u) (omega arith)) (λ u. rw (when_false 2 f u) (omega arith))

module _ (g : Geometry) (v : List ℕ) (f : ℕ) where
  -- a note that fits is whole and has its number
  module _ (k : ℕ) (h : note_fits g v (note_index g v f k) (f + k) ≡ true) where
    abbrev tests : List Bool
    tests =
        let e = note_record g v (f + k) in
        let n = durable_count g v in
        sealed 12 (item g v (note_slot g (f + k))) ∷ note_layout e ∷ eqb e.number (f + k) ∷ within g.pages e.page ∷ within n e.lsn
        ∷ (ltb e.lsn (first_held g v n) || eqb (log_record g v e.lsn).page e.page) ∷ note_follows g (note_index g v f k) e ∷ []

    fit-whole : sealed 12 (item g v (note_slot g (f + k))) ≡ true
    unfolding note_fits
    fit-whole = all-at tests 0 h

    fit-number : field 4 0 (item g v (note_slot g (f + k))) ≡ f + k
    unfolding note_fits note_of
    fit-number = eqb-true _ _ (all-at tests 2 h)

  module _ (next : ℕ) (c : Columns) (p : NotesPassed g v f next c) where
    fits : (i : ℕ) → i < next - f → note_fits g v (note_index g v f i) (f + i) ≡ true
    fits = every-at (λ j. note_fits g v (note_index g v f j) (f + j)) (next - f) p.held

    seat : (m : ℕ) → slot_bytes v (note_section g) (suc m - 1) ≡ item g v (note_at (suc m))
    seat m = let e : suc m - 1 ≡ m = omega arith in ap (slot_bytes v (note_section g)) e ∙ note-slot g v m

    swept : Swept (slots_in v (note_section g)) f (next - f)
    swept =
        record {
          few = omega (arith, p.order, p.few);
          whole = λ i h. ap (sealed 12) (seat ((f + i - 1) % g.notes)) ∙ fit-whole i (fits i h);
          numbered = λ i h. ap (field 4 0) (seat ((f + i - 1) % g.notes)) ∙ fit-number i (fits i h);
          torn = λ h. let e : f + (next - f) ≡ next = omega (arith, p.order) in
              ap (sealed 12) (seat ((f + (next - f) - 1) % g.notes))
              ∙ ap (λ (k : ℕ). sealed 12 (item g v (note_slot g k))) e ∙ p.torn (omega (arith, p.order));
        }

    -- the run that the section has
    module _ (d : Closes v (note_section g) f (next - f)) (one : next ≡ f → f ≡ 1) where
      abbrev n : ℕ
      n = next - f

      abbrev first : ℕ
      first = begun_of (ring g) f n

      count-is : note_count g v ≡ f + n - 1
      unfolding note_count
      count-is = ap (count_in v) (sym (note-section g v)) ∙ d.count

      first-is : first_note g v (note_count g v) ≡ first
      unfolding first_note
      first-is = ap (λ (k : ℕ). first_in (note_slots g v) k) count-is
          ∙ ap (λ (x : scan.Section). first_in x (f + n - 1)) (sym (note-section g v)) ∙ d.first

      ends_is : ends_in v (note_slots g v) first (f + n - 1) ≡ true
      ends_is = ap (λ (x : scan.Section). ends_in v x first (f + n - 1)) (sym (note-section g v)) ∙ d.ends

      -- what is said of the run from `first` on, of n notes, holds where it holds of the notes that were passed; where
      -- there are none, of a run from anywhere
      run_is : (P : ℕ → ℕ → Type 0) → P f n → ((a b : ℕ) → P a 0 → P b 0) → P first (suc (f + n - 1) - first)
      run_is P h any = elim (ℕ_discrete n 0) [
        | yes z ↦ let o : f ≡ 1 = one (omega (arith, p.order)) in
            subst (λ (k : ℕ). P first k) (sym (begun-none (ring g) f n o z)) (any f first (subst (λ (k : ℕ). P f k) z h))
        | no z ↦ let b : first ≡ f = begun-some (ring g) f n z in
            let e : suc (f + n - 1) - first ≡ n = omega (arith, b, z) in
            subst (λ (k : ℕ). P first k) (sym e) (subst (λ (k : ℕ). P k n) (sym b) h)
      ]

      fit-from : ℕ → ℕ → Bool
      fit-from k s = every (suc k - s) (λ i. note_fits g v (note_index g v s i) (s + i)) && ends_in v (note_slots g v) s k

      fit : notes_fit g v ≡ true
      unfolding notes_fit fit-from
      fit =
          ap (λ (s : ℕ). fit-from (note_count g v) s) first-is ∙ ap (λ (k : ℕ). fit-from k first) count-is
          ∙ and_both (run_is (λ s k. every k (λ i. note_fits g v (note_index g v s i) (s + i)) ≡ true) p.held
          (λ a b h. every-none _)) ends_is

      noted-is : Noted (noted_index g v) c
      unfolding note_index
      noted-is =
          subst (λ (s : ℕ). Noted (note_index g v s (suc (note_count g v) - s)) c) (sym first-is)
          (subst (λ (k : ℕ). Noted (note_index g v first (suc k - first)) c) (sym count-is)
          (run_is (λ s k. Noted (note_index g v s k) c) p.noted (λ a b h. h)))

      notes-swept : 1 ≤ f → NotesSwept g v next c
      notes-swept low = record { fit = fit; count = omega (arith, count-is, p.order); noted = noted-is }

-- notes that were passed from a guess on, and are closed
pub sweeps : (g : Geometry) (v : List ℕ) → Sized g v → (u : Guess) → Guessed (note_section g) u → (next : ℕ) (c : Columns)
    → NotesPassed g v u.first next c → closed_of v (note_section g) u.first (next - u.first) ≡ true
    → NotesSwept g v next c
sweeps g v s u h next c p t =
    let f = u.first in
    let d = closes v (note_section g) f (next - f) (note-placed g v s) h.some h.plain h.none
    (swept g v f next c p) t in
    let one : next ≡ f → f ≡ 1 = λ e. closed_none v (note_section g) f (next - f) h.none t (omega arith) in
    notes-swept g v f next c p d one h.some

-- A pass over the log that is closed found the whole log: its counts, that it keeps the restart rule, and its column.
use mathlib.Core.Path.{◌≡◌, refl, sym, ap, ◌∙◌, subst}
use mathlib.Core.Bool.{Bool, true}
use mathlib.Core.List.{List, [], ◌∷◌}
use Prim.Native.Nat.{ℕ, suc, ◌+◌, ◌-◌, ◌<◌}
use native.Mathlib.Omega.{arith}
use native.Mathlib.Decide.{ℕ_discrete}
use lib.Dec.{eqb}
use lib.ListN.{length}
use borrow.Author.Tests.{ne_eqb, eqb-true}
use Rattle.laws.proofs.Scanned.{held_low}
use Rattle.laws.proofs.Tables.{by_cases, all-at, every-at}
use Rattle.model.specs.Bytes.{field}
use Rattle.model.specs.Checksum.{sealed}
use Rattle.model.specs.Geometry.{ring, log_slot, item}
use Rattle.model.specs.Item.{record_of, record_layout}
use Rattle.model.specs.Index.{entry_of}
use Rattle.model.specs.Scan.{log_slots, log_index, log_record, record_fits, linked, count_in, ends_in, durable_count, first_held}
use Rattle.model.specs.Scan as scan
use Rattle.model.specs.Tables.{within}
use Rattle.model.specs.declared.geometry.Geometry.{Geometry}
use Rattle.section.proofs.SweepLaws.{Closes, closes, closed_none}
use Rattle.section.specs.Section.{slots_in}
use Rattle.section.specs.Sweep.{Guessed, Swept, closed_of, begun_of}
use Rattle.section.specs.declared.guess.Guess.{Guess}
use Rattle.log_scan.specs.LogPassed.{LogPassed}
use Rattle.log_scan.specs.LogSection.{Sized, log_section, log_run}
use Rattle.log_scan.specs.LogSwept.{LogCounts, LogSwept}
use Rattle.log_scan.proofs.RowLaws.{log-none}
use Rattle.log_scan.proofs.Located.{log-section, log-first, log-placed}
use Rattle.log_scan.proofs.LogPass.{Judged, judged-none, log-ends, log-columns}

-- ---- a record that fits is whole, and has its number

module _ (g : Geometry) (v : List ℕ) (f i : ℕ) (h : record_fits g v f (log_index g v f i) (f + i) ≡ true) where
  abbrev tests : List Bool
  tests = let e = log_record g v (f + i) in
      sealed 60 (item g v (log_slot g (f + i))) ∷ record_layout (item g v (log_slot g (f + i))) ∷ eqb e.lsn (f + i)
      ∷ within g.pages e.page ∷ linked f (entry_of (log_index g v f i) e.page).last e ∷ []

  fits_whole : sealed 60 (item g v (log_slot g (f + i))) ≡ true
  unfolding record_fits
  fits_whole = all-at tests 0 h

  fits-number : field 4 0 (item g v (log_slot g (f + i))) ≡ f + i
  unfolding record_fits record_of
  fits-number = eqb-true (field 4 0 (item g v (log_slot g (f + i)))) (f + i) (all-at tests 2 h)

-- ---- the run

module _ (g : Geometry) (v : List ℕ) where
  -- the records passed, as those of the run that the counts give
  run-judged : (f c b n : ℕ) (last : List ℕ) → Judged g v f c last → (c ≡ 0 → suc n - b ≡ 0) → ((c ≡ 0 → ⊥) → b ≡ f)
      → suc n ≡ f + c → Judged g v b (suc n - b) last
  run-judged f c b n last j none some count = elim (ℕ_discrete c 0) [
    | yes z ↦ rw (none z) (judged-none g v b last (rw z at j.same ∙ log-none g v f))
    | no z ↦ let e : suc n - f ≡ c = omega arith in rw (some z, e) j
  ]

  module _ (sized : Sized g v) (u : Guess) (guessed : Guessed (log_section g) u) (next : ℕ) (last : List ℕ)
      (p : LogPassed g v u.first next last) (closed : closed_of v (log_section g) u.first (next - u.first) ≡ true) where
    abbrev f : ℕ
    f = u.first

    abbrev c : ℕ
    c = next - u.first

    fits : (i : ℕ) → i < c → record_fits g v f (log_index g v f i) (f + i) ≡ true
    fits = every-at (λ i. record_fits g v f (log_index g v f i) (f + i)) c p.fit

    swept : Swept (log_slots g v) f c
    swept =
        let e : f + c ≡ next = omega (arith, p.order) in
        record {
          few = omega (arith, p.few);
          whole = λ i h. fits_whole g v f i (fits i h);
          numbered = λ i h. fits-number g v f i (fits i h);
          torn = λ h. ap (λ (n : ℕ). sealed 60 (item g v (log_slot g n))) e ∙ p.torn h;
        }

    -- the section's counts
    all_held : Closes v (log_section g) f c
    all_held =
        closes v (log_section g) f c (log-placed g v sized) guessed.some guessed.plain guessed.none
        (subst (λ (s : scan.Section). Swept s f c) (sym (log-section g v)) swept) closed

    empty : c ≡ 0 → f ≡ 1
    empty = closed_none v (log_section g) f c guessed.none closed

    count : durable_count g v ≡ f + c - 1
    unfolding durable_count
    count = sym (ap (count_in v) (log-section g v)) ∙ all_held.count

    first : first_held g v (durable_count g v) ≡ begun_of (ring g) f c
    first = ap (first_held g v) count ∙ sym (log-first g v (f + c - 1)) ∙ all_held.first

    held : LogCounts g v f next
    held =
        record {
          some = guessed.some;
          order = p.order;
          few = p.few;
          low = omega (arith, p.few, guessed.low, sized.records);
          count = omega (arith, count, p.order, guessed.some);
          first = first;
          empty = λ z. empty (omega arith);
        }

    begun : (c ≡ 0 → ⊥) → first_held g v (durable_count g v) ≡ f
    begun z = first ∙ by_cases (ring g) (λ t. rw (t, ne_eqb c 0 z)) (λ t. rw t)

    judged : length last ≡ 64 → let n = durable_count g v in let b = first_held g v n in Judged g v b (suc n - b) last
    judged long =
        let n = durable_count g v in
        run-judged f c (first_held g v n) n last (record { held = p.fit; same = p.last-is; long = long })
        (λ z. omega (arith, empty z, count, held_low g v n)) begun (omega (arith, count, guessed.some))

    ends : let n = durable_count g v in true ≡ ends_in v (slots_in v (log_section g)) (first_held g v n) n
    ends = rw (first, count) (sym all_held.ends)

    pub log-swept : length last ≡ 64 → LogSwept g v f next last
    log-swept long =
        record {
          held = held;
          valid = sym (log-ends g v (log_run g v) refl _ last (judged long) refl (log_section g) refl true ends);
          last-is = log-columns g v (log_run g v) refl _ last (judged long) refl;
        }

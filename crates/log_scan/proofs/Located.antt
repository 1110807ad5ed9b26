-- A section's counts, starts and ends are those that the scan's definitions ask for, of the log.
use mathlib.Core.Path.{◌≡◌, sym, ap, ◌∙◌, subst}
use mathlib.Core.Bool.{true}
use mathlib.Core.List.{List}
use Prim.Native.Nat.{ℕ, suc, ◌+◌, ◌-◌, ◌*◌, ◌%◌, ◌≤◌, ◌<◌}
use native.Mathlib.Nat.{mod-lt}
use native.Mathlib.Omega.{arith}
use lib.ListN.{length}
use Rattle.laws.proofs.Places.{place-fits, item-length, valid-facts}
use Rattle.laws.proofs.Checksums.{run-sealed}
use Rattle.model.specs.Bytes.{part}
use Rattle.model.specs.Checksum.{sealed}
use Rattle.model.specs.Geometry.{ring, record_at, start, item, log_slot, slot_of, geometry_of, valid_volume}
use Rattle.model.specs.Scan.{count_in, first_in, log_slots, durable_count, first_held}
use Rattle.model.specs.Scan as scan
use Rattle.model.specs.declared.geometry.Geometry.{Geometry}
use Rattle.log_scan.specs.LogSection.{Sized, log_section, log_run}
use Rattle.section.specs.Section.{Placed, slot_bytes, slots_in, front_in, run_in}
use Rattle.section.specs.declared.Extent.{Extent}
use Rattle.section.specs.declared.Run.{Run}

-- the counts and the length of a valid volume
pub sized : (g : Geometry) (v : List ℕ) → valid_volume v ≡ true → g ≡ geometry_of v → Sized g v
sized g v valid read =
    let f = valid-facts v valid in
    subst (λ (k : Geometry). Sized k v) (sym read)
    (record { pages = f.p-high; slots = f.b-high; some = f.l-low; records = f.l-high; notes = f.n-high; size = f.size })

module _ (g : Geometry) (v : List ℕ) where
  pub record-slot : (i : ℕ) → slot_bytes v (log_section g) i ≡ item g v (record_at (suc i))
  unfolding item
  record-slot i = let e : start g (record_at 1) + (60 + 4) * i ≡ start g (record_at (suc i)) = omega arith in ap (λ (k : ℕ). part v k 64) e

  -- the slot of number n, as a run's scan comes to it
  module _ (s : Extent) (n slot : ℕ) (r : List ℕ) (er : r ≡ slot_bytes v s slot) where
    pub record-here : s ≡ log_section g → slot ≡ (n - 1) % g.records → r ≡ item g v (log_slot g n)
    record-here es e = er ∙ ap (λ (x : Extent). slot_bytes v x slot) es ∙ ap (slot_bytes v (log_section g)) e
        ∙ record-slot ((n - 1) % g.records)

  -- the code's section is the definitions'
  pub log-section : slots_in v (log_section g) ≡ log_slots g v
  unfolding item
  log-section = λ i. record {
    ring = ring g;
    size = 60;
    slots = g.records;
    at = start g (record_at 1);
    slot = λ n. let e : start g (record_at 1) + (60 + 4) * (n - 1) ≡ start g (record_at n) = omega arith in part v (e i) 64;
  }

  pub log-first : (n : ℕ) → first_in (slots_in v (log_section g)) n ≡ first_held g v n
  unfolding first_held
  log-first n = ap (λ (x : scan.Section). first_in x n) log-section

  -- the runs as they are found
  run_of : scan.Section → ℕ → Run
  run_of x front = record { first = first_in x (count_in v x); count = count_in v x; front = front }

  pub log-run : (s : Extent) → s ≡ log_section g → (r : Run) → r ≡ run_in v s → r ≡ log_run g v
  unfolding run_of durable_count first_held
  log-run s es r er = er ∙ ap (run_in v) es ∙ ap (λ (x : scan.Section). run_of x (front_in v (log_section g))) log-section

  -- a number's slot at the front is whole
  pub record-known : (n : ℕ) → slot_of g.records n ≤ front_in v (log_section g) → sealed 60 (item g v (log_slot g n)) ≡ true
  record-known n h = ap (sealed 60) (sym (record-slot ((n - 1) % g.records)))
      ∙ run-sealed 60 v g.records (start g (record_at 1)) ((n - 1) % g.records) h

  module _ (s : Sized g v) where
    pub log-placed : Placed v (log_section g)
    log-placed =
        record { room = omega (arith, s.size); short = omega arith; few = s.records; none = λ z. absurd (omega (arith, s.some)) }

    -- a number's slot is in the volume
    pub record-fits : (n : ℕ) → start g (log_slot g n) + 64 ≤ length v
    record-fits n = let m : (n - 1) % g.records < g.records = mod-lt (n - 1) s.some in
        place-fits g v s.size (log_slot g n) (omega arith, omega arith)

    pub record-length : (n : ℕ) → length (item g v (log_slot g n)) ≡ 64
    record-length n = let m : (n - 1) % g.records < g.records = mod-lt (n - 1) s.some in
        item-length g v s.size (log_slot g n) (omega arith, omega arith)

-- What a scan that refuses nothing tells, for any bytes, of a page's entry in the index: its repair may be handed the entry.
use Prim.Native.Nat.{ℕ, ◌+◌, ◌≤◌, ◌<◌}
use mathlib.Core.Path.{◌≡◌}
use mathlib.Core.Bool.{true}
use mathlib.Core.List.{List}
use native.Mathlib.Omega.{arith}
use Rattle.laws.proofs.Checksums.{run-most}
use Rattle.laws.proofs.Chain.{run_room}
use Rattle.laws.proofs.Settled.{Settles, page-settles}
use Rattle.model.specs.Geometry.{geometry_of, valid_volume, record_at, start}
use Rattle.model.specs.Index.{entry_of}
use Rattle.model.specs.Scan.{count_in, durable_count, first_held, valid_log, valid_notes, index_of}
use Rattle.model.specs.declared.geometry.Geometry.{Geometry}
use Rattle.repair.specs.Walked.{Ready}
use Rattle.repair.proofs.Starts.{sized}

-- the run is no longer than the log
count_room : (g : Geometry) (v : List ℕ) → durable_count g v < first_held g v (durable_count g v) + g.records
unfolding durable_count count_in
count_room g v = run_room g v (durable_count g v) (λ t. rw t (run-most 60 v g.records (start g (record_at 1))))

module _ (v : List ℕ) (g : Geometry) (valid : valid_volume v ≡ true) (g-is : g ≡ geometry_of v) (log : valid_log g v ≡ true) where
  pub scanned-row : (p : ℕ) (notes : valid_notes g v ≡ true) → 1 ≤ p
      → Settles g v (sized v g valid g-is).pages log notes p (entry_of (index_of g v) p)
  scanned-row p notes low = page-settles g v (sized v g valid g-is).pages log notes p low

  pub scanned-ready : (p : ℕ) → valid_notes g v ≡ true → 1 ≤ p → p ≤ g.pages
      → Ready g (first_held g v (durable_count g v)) (entry_of (index_of g v) p) p
  scanned-ready p notes low high =
      let r = scanned-row p notes low in
      record {
        low = low;
        high = high;
        durable = omega (arith, r.same, r.high, count_room g v);
        slot = r.slot;
      }

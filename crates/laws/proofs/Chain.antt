-- At most L records are read by a walk, on any volume and any well-formed state: the numbers fall strictly within the run, and the run is
-- no longer than the ring. (The code's array of 1,024 numbers serves.)
use mathlib.Core.Path.{◌≡◌}
use mathlib.Core.Bool.{true, false}
use mathlib.Core.List.{List, [], ◌∷◌}
use Prim.Native.Nat.{ℕ, zero, suc, ◌+◌, ◌-◌, ◌≤◌, ◌<◌}
use native.Mathlib.Omega.{arith}
use lib.Dec.{eqb, ltb}
use lib.ListN.{length}
use borrow.Author.Tests.{ltb-true, ltb-false}
use Rattle.laws.proofs.Tables.{by_cases, all-at}
use Rattle.model.specs.Checksum.{sealed}
use Rattle.model.specs.Geometry.{ring, most, item, log_slot}
use Rattle.model.specs.Item.{record_of, record_layout, is_format, first_is_format}
use Rattle.model.specs.Scan.{first_held, first_in}
use Rattle.model.specs.Repair.{chain_record, walk_from}
use Rattle.model.specs.declared.geometry.Geometry.{Geometry}

-- a record that may be read names a lower number
pub chain-falls : (p n : ℕ) (r : List ℕ) → chain_record p n r ≡ true → (record_of r).prev < n
unfolding chain_record
chain-falls p n r h =
    let e = record_of r in
    ltb-true e.prev n
    (all-at (sealed 60 r ∷ eqb e.lsn n ∷ eqb e.page p ∷ record_layout r ∷ ltb e.prev n ∷ first_is_format e ∷ []) 4 h)

pub chain-few : (steps : ℕ) (log : ℕ → List ℕ) (first p own backup n : ℕ)
    → length (walk_from steps log first p own backup n).chain ≤ suc n - first
unfolding walk_from
chain-few zero log first p own backup n = omega arith
chain-few (suc steps) log first p own backup n =
    let ih : length (walk_from steps log first p own backup (record_of (log n)).prev).chain ≤ suc (record_of (log n)).prev - first =
    chain-few steps log first p own backup (record_of (log n)).prev in
    by_cases (eqb own n) (λ t. rw t (omega arith))
    (λ t. rw t (by_cases (eqb backup n) (λ u. rw u (omega arith))
    (λ u. rw u (by_cases (ltb n first) (λ z. rw z (omega arith))
    (λ z.
    let le : first ≤ n = ltb-false n first z in
    rw z (by_cases (chain_record p n (log n))
    (λ c.
    let lt : (record_of (log n)).prev < n = chain-falls p n (log n) c in
    rw c (by_cases (is_format (record_of (log n))) (λ f. rw f (omega arith)) (λ f. rw f (omega arith))))
    (λ c. rw c (omega arith))))))))

-- a run of n records is no longer than the log
pub run_room : (g : Geometry) (v : List ℕ) (n : ℕ) → (ring g ≡ false → n ≤ g.records) → n < first_held g v n + g.records
unfolding first_held first_in
run_room g v n h = by_cases (ring g)
    (λ t. rw t (by_cases (sealed 60 (item g v (log_slot g (suc (n - g.records))))) (λ u. rw u (omega arith)) (λ u. rw u (omega arith))))
    (λ t. let b : n ≤ g.records = h t in rw t (omega arith))

-- the run that a state of n durable records sees
pub run-few : (g : Geometry) (v : List ℕ) (n : ℕ) → n ≤ most g → suc n - first_held g v n ≤ g.records
run-few g v n h = omega (arith, run_room g v n (λ t. rw t at h))

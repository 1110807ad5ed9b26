-- What room a volume has: the first refused number, and the claims.
use Prim.Native.Nat.{ℕ, suc, ◌+◌, ◌-◌, ◌≤◌, ◌<◌}
use mathlib.Core.Path.{◌≡◌, refl}
use mathlib.Core.Bool.{true, false}
use mathlib.Core.List.{List}
use native.Mathlib.Omega.{arith}
use lib.Dec.{leb}
use borrow.Author.Tests.{eq-eqb, leb-true}
use Rattle.laws.proofs.Tables.{by_cases}
use Rattle.laws.proofs.Search.{first-from}
use Rattle.model.specs.Tables.{first_of}
use Rattle.model.specs.Geometry.{geometry_of, item, log_slot}
use Rattle.model.specs.Item.{record_of}
use Rattle.model.specs.State.{last_number, record_needed, log_full}
use Rattle.model.specs.Restart.{restart_state}
use Rattle.reports.specs.Reading.{scan_rows, Restarts}
use Rattle.reports.specs.Room.{
  after_records,
  log_full_after,
  records_left,
  notes_full_after,
  notes_left,
  room_of,
  Appended,
  RoomClaim,
}
use Rattle.model.specs.declared.state.State.{State}

module _ (v : List ℕ) (h : Restarts v) where
  count-is : (room_of v).log.count ≡ records_left (geometry_of v) v (restart_state v)
  unfolding room_of
  count-is = rw (eq-eqb (first_of (scan_rows v)) 0 h)

  notes-is : (room_of v).notes.count ≡ notes_left (geometry_of v) v (restart_state v)
  unfolding room_of
  notes-is = rw (eq-eqb (first_of (scan_rows v)) 0 h)

-- ---- what the appends leave

module _ (v w : List ℕ) (s : State) (i : ℕ) (few : i < (geometry_of v).records) (a : Appended v i w s) where
  last : last_number s ≡ last_number (after_records (restart_state v) i)
  unfolding restart_state
  last = omega (arith, a.durable, a.pending)

  needed : (j : ℕ) → j ≤ (restart_state v).durable → (restart_state v).durable + i < j + (geometry_of v).records
      → record_needed (geometry_of v) w s j ≡ record_needed (geometry_of v) v (after_records (restart_state v) i) j
  unfolding record_needed
  needed j l m =
      let e = record_of (item (geometry_of v) v (log_slot (geometry_of v) j)) in
      rw (a.stays j l m, a.durable, a.slot e.page, a.backup e.page)

  none : (restart_state v).pending ≡ 0
  unfolding restart_state
  none = refl

  pub appended : log_full (geometry_of v) w s ≡ log_full_after (geometry_of v) v (restart_state v) i
  unfolding log_full
  appended =
      let n = last_number (after_records (restart_state v) i) in
      let l = (geometry_of v).records in
      rw last
      (by_cases (leb l n)
      (λ t. let high : l ≤ n = leb-true l n t in
      rw (needed (suc n - l) (omega (arith, none, high, few)) (omega (arith, none, high, few))))
      (λ t. rw t))

-- ---- the claims

records : (v : List ℕ) (i : ℕ) → Restarts v → i < (room_of v).log.count → log_full_after (geometry_of v) v (restart_state v) i ≡ false
records v i h l = (first-from (log_full_after (geometry_of v) v (restart_state v)) (geometry_of v).records 0).before i
    (omega arith) (rw (count-is v h) at l)

full : (v : List ℕ) → Restarts v → (room_of v).log.count < (geometry_of v).records
    → log_full_after (geometry_of v) v (restart_state v) (room_of v).log.count ≡ true
full v h l =
    rw (count-is v h)
    ((first-from (log_full_after (geometry_of v) v (restart_state v)) (geometry_of v).records 0).hit (omega (arith, l, count-is v h)))

notes : (v : List ℕ) (i : ℕ) → Restarts v → i < (room_of v).notes.count → notes_full_after (geometry_of v) v (restart_state v) i ≡ false
notes v i h l = (first-from (notes_full_after (geometry_of v) v (restart_state v)) (geometry_of v).notes 0).before i
    (omega arith) (rw (notes-is v h) at l)

filled : (v : List ℕ) → Restarts v → (room_of v).notes.count < (geometry_of v).notes
    → notes_full_after (geometry_of v) v (restart_state v) (room_of v).notes.count ≡ true
filled v h l =
    rw (notes-is v h)
    ((first-from (notes_full_after (geometry_of v) v (restart_state v)) (geometry_of v).notes 0).hit (omega (arith, l, notes-is v h)))

pub room : RoomClaim
room =
    record {
      records = records;
      full = full;
      notes = notes;
      filled = filled;
      appended = appended;
    }

-- T2's measure on a volume: what is left to do, that it is at most 5 W + 3 P, that a stored note takes five or three
-- out of it, and that a
-- renewal that begins has its five or three left.
use mathlib.Core.Path.{◌≡◌, sym}
use mathlib.Core.Logic.{◌≢◌}
use mathlib.Core.Bool.{Bool, true, false, cond, not}
use mathlib.Core.List.{List}
use Prim.Native.Nat.{ℕ, suc, ◌+◌, ◌-◌, ◌*◌, ◌≤◌, ◌<◌}
use native.Mathlib.Omega.{arith}
use lib.ListN.{length}
use Rattle.laws.proofs.Tables.{true-not-false}
use Rattle.model.specs.Geometry.{ring}
use Rattle.model.specs.Item.{is_written}
use Rattle.model.specs.Scan.{log_record, note_record}
use Rattle.model.specs.State.{note_needed, record_needed}
use Rattle.model.specs.Outcome.{StoredItem}
use Rattle.model.specs.Carry.{count_of}
use Rattle.model.specs.AbstractLog.{Logged}
use Rattle.model.specs.declared.{geometry.Geometry.Geometry, state.State.State}
use Rattle.history.proofs.Context.{Ctx}
use Rattle.upkeep_policy.specs.Upkeep.{reserve}
use Rattle.upkeep_theory.proofs.Counting.{count-both}
use Rattle.upkeep_theory.proofs.NotesTidy.{NotesTidy}
use Rattle.upkeep_theory.proofs.Near.{wrote_in, since-written, since-backups, since-room-backup}
use Rattle.upkeep_theory.proofs.Tidy.{Tidy, since_written}
use Rattle.upkeep_theory.proofs.Step.{place2}
use Rattle.upkeep_theory.proofs.Stuck.{fewer}

-- five calls for each page that may still get a written note since k0, three for each that may get a backup
abbrev pub rest_of : ℕ → ℕ → ℕ → ℕ → ℕ
rest_of W P written n = 5 * (W - written) + 3 * (P - (n - written))

pub rest-most : (W P written n : ℕ) → rest_of W P written n ≤ 5 * W + 3 * P
rest-most W P written n = omega arith

-- one more note: with it there are at most W written ones and P backups
pub rest-note : (W P written n : ℕ) (t : Bool) → written ≤ n → written + cond t 1 0 ≤ W
    → suc n - (written + cond t 1 0) ≤ P
    → rest_of W P (written + cond t 1 0) (suc n) + cond t 5 3 ≡ rest_of W P written n
rest-note W P written n true a b c = omega arith
rest-note W P written n false a b c = omega arith

module _ {C : Type 0} {g : Geometry} {v m : List ℕ} {past : List StoredItem} {s : State} {k w : List Logged}
    (x : Ctx C g v m past s k w) (turns : ring g ≡ true) (n2 : 2 ≤ g.notes) (cuts : ℕ) (t : Tidy g v s cuts)
    (W : ℕ) (fl : count_of 64 (wrote_in x.ns) ≤ W) where
  abbrev since : ℕ
  since = s.notes - t.z.k0

  tidy-list : NotesTidy g v (length x.ns) t.z.k0 s.note
  tidy-list = rw x.al.notes-is at t.notes

  pub written-bound : since_written g v s.notes t.z.k0 ≤ W
  written-bound =
      rw x.al.notes-is (since-written g v k x.hs x.ns x.no t.z.k0 tidy-list
      (omega (arith, t.near, x.al.notes-is)) W fl)

  pub backup-bound : s.notes - t.z.k0 - since_written g v s.notes t.z.k0 ≤ g.pages
  backup-bound =
      let b : count_of (s.notes - t.z.k0) (λ i. not (is_written (note_record g v (suc (t.z.k0 + i))))) ≤ g.pages =
      rw x.al.notes-is (since-backups g v k x.hs x.ns x.no t.z.k0 tidy-list
      (omega (arith, t.near, x.al.notes-is)) W fl) in
      omega (arith, count-both (s.notes - t.z.k0) (λ i. is_written (note_record g v (suc (t.z.k0 + i)))))

  -- the renewal of a written note at position 2 has five calls left
  pub five-left : place2 x turns n2 + g.notes ≡ suc s.notes
      → note_needed g v s.notes (suc (place2 x turns n2)) ≡ true
      → is_written (note_record g v (suc (place2 x turns n2))) ≡ true
      → 5 ≤ rest_of W g.pages (since_written g v s.notes t.z.k0) (s.notes - t.z.k0)
  five-left at2 need wr = omega (arith, fewer x turns n2 cuts t W fl at2 need wr)

  -- a page without a backup note since k0 has three calls left
  pub three-of : (p : ℕ) → 1 ≤ p → p ≤ g.pages
      → ((a : ℕ) → t.z.k0 ≤ a → a < s.notes → is_written (note_record g v (suc a)) ≡ false
      → (note_record g v (suc a)).page ≢ p)
      → 3 ≤ rest_of W g.pages (since_written g v s.notes t.z.k0) (s.notes - t.z.k0)
  three-of p lo hi new =
      let b : suc (count_of (s.notes - t.z.k0) (λ i. not (is_written (note_record g v (suc (t.z.k0 + i))))))
      ≤ g.pages =
      rw x.al.notes-is (since-room-backup g v k x.hs x.ns x.no t.z.k0 tidy-list
      (omega (arith, t.near, x.al.notes-is)) W fl p lo hi
      (λ i l u. new (t.z.k0 + i) (omega arith) (omega (arith, x.al.notes-is, t.notes.low)) u)) in
      omega (arith, count-both (s.notes - t.z.k0) (λ i. is_written (note_record g v (suc (t.z.k0 + i)))))

  -- U4: the needed record's page, where the records since d0 are few
  pub three-left : s.durable ≤ t.z.d0 + t.z.u + reserve g → (i : ℕ) → 1 ≤ i → i ≤ reserve g → (j : ℕ)
      → suc j + g.records ≡ s.durable + i
      → record_needed g v s (suc j) ≡ true → 1 ≤ (log_record g v (suc j)).page → (log_record g v (suc j)).page ≤ g.pages
      → 3 ≤ rest_of W g.pages (since_written g v s.notes t.z.k0) (s.notes - t.z.k0)
  three-left near i lo hi j e need p1 p2 =
      three-of (log_record g v (suc j)).page p1 p2 (λ a x1 x2 u q.
      true-not-false need (t.log.backed a x1 x2 u j (omega arith) (omega arith) (omega arith) (sym q)))

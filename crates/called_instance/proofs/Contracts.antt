-- From a contract to a history, at the ring that has turned: whatever `pagestore_inspect` answers and leaves by its
-- contract is the replay of page 1's three changes; and whatever `pagestore_force` leaves where record 3 is pending is
-- the machine of the history with one Force more.
use Prim.Native.Nat.{ℕ}
use mathlib.Core.Path.{◌≡◌, refl, ap, ◌∙◌}
use mathlib.Core.List.{List, [], ◌∷◌, ◌++◌}
use native.Mathlib.Omega.{arith}
use lib.Dec.{eqb→eq}
use lib.ListN.{take, length-replicate}
use Rattle.model.specs.Bytes.{bytes_of, part}
use Rattle.model.specs.Outcome.{refusal_of}
use Rattle.model.specs.Restart.{inspect_of}
use Rattle.model.specs.AbstractLog.{last_place, replay}
use Rattle.model.specs.History.{perform}
use Rattle.model.specs.Claim.{Gone, Proviso, reached, durable_of}
use Rattle.face.specs.Face.{faced, face_of}
use Rattle.face.specs.Claim.{Holds, then}
use Rattle.history.proofs.Rings.{rings}
use Rattle.called.specs.Histories.{ShownToC}
use Rattle.called.proofs.Histories.{performs, shows}
use Rattle.cases.specs.Opened.{opened}
use Rattle.cases.specs.Build.{buffer}
use Rattle.cases.specs.Calls.{force}
use Rattle.cases.proofs.Cases.{equal}
use Rattle.called_instance.proofs.Machines.{lent_report, volume_of, memory_of, state_for, numbers_for}
use Rattle.called_instance.proofs.Machines.{waiting, waiting-legal, waiting-on, full, full-legal}

-- ---- an inspection

module _ (r : ℕ) (after : List ℕ) (answer : r ≡ refusal_of (inspect_of (volume_of full) 1 buffer).answer)
    (left : after ≡ (inspect_of (volume_of full) 1 buffer).buffer) where
  pub shown : ShownToC full 1 r after
  shown =
      shows (volume_of full) 1 buffer r after answer left full full-legal refl (omega arith) (omega arith)
      (length-replicate {A = ℕ} 256 0xAA)

  three : last_place 1 (durable_of full) ≡ 3
  unfolding opened
  three = eqb→eq (last_place 1 (durable_of full)) 3 tt

  stands : Gone full → Proviso full 1
  stands g = rings.safe full full-legal refl g 1 (omega arith) (omega arith)

  pub replayed : (r ≡ 0) × (part after 4 248 ≡ bytes_of 4 (last_place 1 (durable_of full)) ++ replay 1 (durable_of full))
  replayed = shown.granted (λ z. omega (arith, z, three)) stands

  -- number 3, then the byte 3 and the format's 7
  pub first-bytes : take 6 (part after 4 248) ≡ 3 ∷ 0 ∷ 0 ∷ 0 ∷ 3 ∷ 7 ∷ []
  unfolding opened
  first-bytes =
      ap (take 6) replayed.1
      ∙ equal (take 6 (bytes_of 4 (last_place 1 (durable_of full)) ++ replay 1 (durable_of full)))
      (3 ∷ 0 ∷ 0 ∷ 0 ∷ 3 ∷ 7 ∷ []) tt

-- ---- a Force

module _ (r : ℕ) (xs report m v : List ℕ)
    (ensured : faced r xs report m v ≡ face_of force (volume_of waiting) (memory_of waiting) (numbers_for waiting) lent_report) where
  pub forced : Holds v m xs (reached (then waiting (perform force)))
  forced =
      (performs force (volume_of waiting) (memory_of waiting) (numbers_for waiting) lent_report r xs report m v ensured waiting
      waiting-legal (record { state = state_for waiting; volume = refl; power = waiting-on; numbers = refl }) refl).holds

-- All that upkeep promises.
use Rattle.upkeep_policy.specs.UpkeepClaim.{UpkeepHolds}
use Rattle.upkeep_theory.proofs.Idle.{idle-is-safe}
use Rattle.upkeep_theory.proofs.Slots.{slot-left, lost-is-lost}
use Rattle.upkeep_theory.proofs.Quiet.{idle-is-free}
use Rattle.upkeep_theory.proofs.Done.{advice-is-done}
use Rattle.upkeep_theory.proofs.IdleComes.{idle-comes}
use Rattle.upkeep_theory.proofs.Text.{text-stays}
use Rattle.upkeep_theory.proofs.Frames.{frames-stay}

pub upkeep-holds : UpkeepHolds
upkeep-holds =
    record {
      idle_is_safe = idle-is-safe;
      slot_left = slot-left;
      idle_is_free = idle-is-free;
      advice_is_done = advice-is-done;
      idle_comes = idle-comes;
      lost_is_lost = lost-is-lost;
      text_stays = text-stays;
      frames_stay = frames-stay;
    }

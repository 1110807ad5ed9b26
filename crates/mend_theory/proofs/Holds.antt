-- All that mending promises here.
use mathlib.Core.Logic.{inl, inr}
use Prim.Native.Nat.{◌≤◌}
use native.Mathlib.Omega.{arith}
use native.Mathlib.Decide.{dec_lt}
use Rattle.laws.proofs.Tables.{by_cases}
use Rattle.model.specs.Claim.{reached}
use Rattle.model.specs.RingClaim.{run_start}
use Rattle.upkeep_policy.specs.UpkeepClaim.{extended}
use Rattle.mend_policy.specs.MendClaim.{spares_backup, spares_own, start_left, TwoFailures, MendHolds}
use Rattle.mend_theory.proofs.Two.{backup-holds}
use Rattle.mend_theory.proofs.OwnHolds.{own-holds}
use Rattle.mend_theory.proofs.Says.{whole-is-whole}
use Rattle.mend_theory.proofs.Follows.{mend-follows, written-at-most}
use Rattle.mend_theory.proofs.Rests.{mend-rests}
use Rattle.mend_theory.proofs.Risks.{mend-risks-nothing}
use Rattle.mend_theory.proofs.Loaded.{load-goes-on}
use Rattle.mend_theory.proofs.Backed.{backup-mends}
use Rattle.mend_theory.proofs.Written.{write-mends}
use Rattle.mend_theory.proofs.Round.{round-mends, whole-is-said, never-ahead}
use Rattle.mend_theory.proofs.Ends.{mend-ends}
use Rattle.mend_theory.proofs.Short.{twofold-is-long}
use Rattle.mend_theory.proofs.Named.{mend-is-done, mend-has-room, stands-is-safe, mend-keeps-text, mend-keeps-frames}

pub two-failures : TwoFailures
two-failures h legal p lo hi turns quiet st wh es legal' plain buffer size lost = (
  by_cases (spares_backup p (reached h) es)
      (λ t. absurd ((backup-holds h legal p lo hi turns quiet st es legal' plain t).1.inspected buffer size lost))
      (λ t. t),
  by_cases (spares_own p es)
      (λ t. elim (dec_lt (start_left (reached h).volume) (run_start (reached (extended h es)).volume)) [
        | yes y ↦ inr y
        | no n ↦
            let near : run_start (reached (extended h es)).volume ≤ start_left (reached h).volume = omega (arith, n) in
            absurd ((own-holds h legal p lo hi turns quiet wh es legal' plain t near).inspected buffer size lost)
      ])
      (λ t. inl t),
)

pub mend-holds : MendHolds
mend-holds =
    record {
      backup_holds = backup-holds;
      own_holds = own-holds;
      two_failures = two-failures;
      mend_is_done = mend-is-done;
      mend_has_room = mend-has-room;
      mend_follows = mend-follows;
      written_at_most = written-at-most;
      mend_rests = mend-rests;
      whole_is_whole = whole-is-whole;
      mend_risks_nothing = mend-risks-nothing;
      load_goes_on = load-goes-on;
      backup_mends = backup-mends;
      write_mends = write-mends;
      round_mends = round-mends;
      whole_is_said = whole-is-said;
      mend_ends = mend-ends;
      twofold_is_long = twofold-is-long;
      never_ahead = never-ahead;
      stands_is_safe = stands-is-safe;
      mend_keeps_text = mend-keeps-text;
      mend_keeps_frames = mend-keeps-frames;
    }

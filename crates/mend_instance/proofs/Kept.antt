-- ME1's call, ME3 and ME6 applied to the same user: the call is done, the page reads as before, frame 1 keeps its page and
-- body, and the proviso holds.
use Prim.Native.Nat.{ℕ, ◌≤◌}
use mathlib.Core.Path.{◌≡◌}
use mathlib.Core.Logic.{◌≢◌}
use mathlib.Core.Bool.{true}
use mathlib.Core.List.{[], ◌∷◌}
use native.Mathlib.Omega.{arith}
use lib.Dec.{leb}
use lib.ListN.{length}
use borrow.Author.Tests.{leb-true}
use Rattle.model.specs.Tables.{within}
use Rattle.model.specs.State.{frame_count}
use Rattle.model.specs.Calls.{outcome_of}
use Rattle.model.specs.History.{perform}
use Rattle.model.specs.Claim.{reached, Safe}
use Rattle.upkeep_policy.specs.UpkeepClaim.{extended, SameText, SameFrame}
use Rattle.mend_policy.specs.MendClaim.{stands_on, Taken}
use Rattle.mend_theory.proofs.Holds.{mend-holds}
use Rattle.cases.specs.Opened.{opened}
use Rattle.cases.specs.Calls.{write}
use Rattle.cases.proofs.Tests.{holds}
use Rattle.mend_instance.proofs.Followed.{user, legal, m, s, is-on, at_rest, named}

frame-fits : within (frame_count (length m)) 2 ≡ true
unfolding opened
frame-fits = holds (within (frame_count (length m)) 2) tt

pub taken : Taken user m s (write 1)
taken = mend-holds.mend_is_done user legal m s is-on 2 frame-fits at_rest 1 (omega arith) (omega arith) (write 1) named

pub same_text : SameText user (extended user (perform (write 1) ∷ [])) 1
same_text = mend-holds.mend_keeps_text user legal m s is-on 2 1 (write 1) named 1 (omega arith) (omega arith)

frames : 1 ≤ frame_count (length m)
unfolding opened
frames = leb-true 1 (frame_count (length m)) (holds (leb 1 (frame_count (length m))) tt)

apart : ◌≢◌ {A = ℕ} 1 2
apart e = omega (arith, e)

pub same-frame : SameFrame m s (outcome_of (write 1) (reached user).volume m s).memory
    (outcome_of (write 1) (reached user).volume m s).state 1
same-frame = mend-holds.mend_keeps_frames user legal m s is-on 2 1 (write 1) named 1 (omega arith) frames apart

backed : stands_on (reached user).volume 1 ≡ true
unfolding opened
backed = holds (stands_on (reached user).volume 1) tt

only-page : (p : ℕ) → 1 ≤ p → p ≤ 1 → p ≡ 1
only-page p lo hi = omega arith

pub safe : Safe user
safe = mend-holds.stands_is_safe user legal (λ p lo hi. let e : p ≡ 1 = only-page p lo hi in rw e backed)

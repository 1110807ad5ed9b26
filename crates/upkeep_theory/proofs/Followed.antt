-- The discipline as a proposition: what the test `disciplined` tells of each event.
use Prim.Native.Nat.{ℕ, ◌≤◌}
use mathlib.Core.Path.{◌≡◌, refl, sym, ap, ◌∙◌}
use mathlib.Core.Logic.{◌≢◌}
use mathlib.Core.Bool.{Bool, true, false, cond, ◌&&◌, ◌||◌}
use mathlib.Core.List.{List, [], ◌∷◌}
use lib.Dec.{eqb, leb}
use lib.ListN.{length, get_or}
use borrow.Author.Tests.{leb-true, ne_eqb}
use Rattle.laws.proofs.Tables.{and_left, and_right, all-at, not-true, true-not-false}
use Rattle.laws.proofs.Changes.{change-back}
use Rattle.laws.proofs.Parts.{same_bytes}
use Rattle.model.specs.Tables.{within}
use Rattle.model.specs.Bytes.{equal_bytes}
use Rattle.model.specs.Change.{change_of}
use Rattle.model.specs.State.{frame_count}
use Rattle.model.specs.Calls.{Call, code_of}
use Rattle.model.specs.declared.command.Command.{Command}
use Rattle.model.specs.declared.command.Command.TheVariants.{Begin, Load, Force, Write, Release, StartCarry, Restamp, FinishCarry}
use Rattle.model.specs.declared.command.Command.TheVariants.{Change, Backup, Note}
use Rattle.model.specs.History.{Power, off, on, Machine, Event, restart, perform, crash, crash_in, damage, step}
use Rattle.model.specs.Carry.{carries}
use Rattle.upkeep_policy.specs.Upkeep.{Advice, idle, stuck, make, same_call, follows_call, follows, advice_of, cuts_after}
use Rattle.upkeep_policy.specs.Upkeep.{written_pages, reserved_fits, in_bounds, disciplined}

-- ---- a command from its code

abbrev decoded : List ℕ → Command
decoded xs =
    let n = get_or xs 0 0 in
    let a = get_or xs 1 0 in
    let b = get_or xs 2 0 in
    cond (eqb n 3) (Begin a b (get_or xs 3 0)) (cond (eqb n 4) (Load a b)
    (cond (eqb n 5) (Change a (change_of b (get_or xs 3 0) (get_or xs 4 0) (get_or xs 5 0)))
    (cond (eqb n 6) Force (cond (eqb n 7) (Write a) (cond (eqb n 8) (Backup a b) (cond (eqb n 9) Note
    (cond (eqb n 17) (Release a) (cond (eqb n 18) StartCarry (cond (eqb n 19) Restamp FinishCarry)))))))))

decoded-is : (c : Command) → decoded (code_of c) ≡ c
decoded-is (Begin page frame fill) = refl
decoded-is (Load page frame) = refl
decoded-is (Change page c) = ap (Change page) (change-back c)
decoded-is Force = refl
decoded-is (Write page) = refl
decoded-is (Backup page slot) = refl
decoded-is (Release page) = refl
decoded-is Note = refl
decoded-is StartCarry = refl
decoded-is Restamp = refl
decoded-is FinishCarry = refl

pub same-call : (c a : Call) → same_call c a ≡ true → c ≡ a
same-call c a h =
    let codes = equal_bytes (code_of c.0) (code_of a.0) in
    let payloads = equal_bytes c.1 a.1 in
    let e : c.0 ≡ a.0 = sym (decoded-is c.0)
    ∙ (ap decoded (same_bytes (code_of c.0) (code_of a.0) (and_left codes payloads h)) ∙ decoded-is a.0) in
    let f : c.1 ≡ a.1 = same_bytes c.1 a.1 (and_right codes payloads h) in
    let g : ◌≡◌ {A = Call} (c.0, c.1) (a.0, c.1) = ap (λ (x : Command). (x, c.1)) e in
    let k : ◌≡◌ {A = Call} (a.0, c.1) (a.0, a.1) = ap (λ (x : List ℕ). (a.0, x)) f in
    g ∙ k

-- ---- the propositions

abbrev pub Follows : Advice → Call → Type 0
Follows idle c = carries c ≡ false
Follows (stuck p) c = ⊥
Follows (make a) c = c ≡ a

abbrev pub FollowsIn : Advice → Event → Type 0
FollowsIn a (restart m) = Unit {0}
FollowsIn a (perform c) = Follows a c
FollowsIn a crash = Unit {0}
FollowsIn a (crash_in c l) = Follows a c
FollowsIn a (damage at xs) = Unit {0}

abbrev pub FrameIn : ℕ → Power → Type 0
FrameIn r off = Unit {0}
FrameIn r (on m s) = within (frame_count (length m)) r ≡ true

pub record Bounded (r W C : ℕ) (w : Machine) (cuts : ℕ) : Type 0 where
  pub frame : FrameIn r w.power
  pub written : written_pages w.volume ≤ W
  pub few : written_pages w.volume ≢ 0 → cuts ≤ C

unfoldable pub Followed : ℕ → ℕ → ℕ → Machine → ℕ → List Event → Type 0
Followed r W C w cuts [] = Bounded r W C w cuts
Followed r W C w cuts (e ∷ es) =
    Bounded r W C w cuts × FollowsIn (advice_of r w) e × Followed r W C (step w e) (cuts_after r w cuts e) es

-- ---- from the tests

follows-call : (a : Advice) (c : Call) → follows_call a c ≡ true → Follows a c
follows-call idle c h = not-true (carries c) h
follows-call (stuck p) c h = absurd (true-not-false h refl)
follows-call (make a) c h = same-call c a h

follows-in : (a : Advice) (e : Event) → follows a e ≡ true → FollowsIn a e
follows-in a (restart m) h = tt
follows-in a (perform c) h = follows-call a c h
follows-in a crash h = tt
follows-in a (crash_in c l) h = follows-call a c h
follows-in a (damage at xs) h = tt

frame-in : (r : ℕ) (y : Power) → reserved_fits r y ≡ true → FrameIn r y
frame-in r off h = tt
frame-in r (on m s) h = h

few-cuts : (n cuts C : ℕ) → (eqb n 0 || leb cuts C) ≡ true → n ≢ 0 → cuts ≤ C
few-cuts n cuts C h z = let y : leb cuts C ≡ true = rw (ne_eqb n 0 z) at h in leb-true cuts C y

pub bounded : (r W C : ℕ) (w : Machine) (cuts : ℕ) → in_bounds r W C w cuts ≡ true → Bounded r W C w cuts
unfolding in_bounds
bounded r W C w cuts h =
    let n = written_pages w.volume in
    let tests = reserved_fits r w.power ∷ leb n W ∷ (eqb n 0 || leb cuts C) ∷ [] in
    record {
      frame = frame-in r w.power (all-at tests 0 h);
      written = leb-true n W (all-at tests 1 h);
      few = few-cuts n cuts C (all-at tests 2 h);
    }

pub both : (p q : Bool) → cond p q false ≡ true → (p ≡ true) × (q ≡ true)
both true q h = (refl, h)
both false q h = absurd (true-not-false h refl)

pub followed : (r W C : ℕ) (w : Machine) (cuts : ℕ) (es : List Event) → disciplined r W C w cuts es ≡ true
    → Followed r W C w cuts es
unfolding disciplined Followed
followed r W C w cuts [] h = bounded r W C w cuts h
followed r W C w cuts (e ∷ es) h =
    let b = in_bounds r W C w cuts in
    let f = follows (advice_of r w) e in
    let q = both (b && f) (disciplined r W C (step w e) (cuts_after r w cuts e) es) h in (
      bounded r W C w cuts (and_left b f q.0),
      follows-in (advice_of r w) e (and_right b f q.0),
      followed r W C (step w e) (cuts_after r w cuts e) es q.1,
    )

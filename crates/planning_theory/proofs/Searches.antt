-- The model's searches beside the store's: the frame that holds a page, and the least recently used.
use mathlib.Core.Path.{◌≡◌, refl, ap}
use mathlib.Core.Logic.{◌≢◌}
use mathlib.Core.List.{List}
use Prim.Native.Nat.{ℕ, zero, suc, ◌≤◌, ◌<◌}
use native.Mathlib.Omega.{arith}
use native.Mathlib.Decide.{ℕ_discrete}
use lib.ListN.{length}
use lib.Dec.{leb, ltb}
use borrow.Author.Tests.{eq-eqb, ne_eqb, ltb-true, ltb-false, le-leb, lt-leb}
use Rattle.laws.proofs.Tables.{by_cases, every-all, every-fails}
use Rattle.laws.proofs.Search.{first-is}
use Rattle.model.specs.Tables.{every}
use Rattle.model.specs.State.{frame_row}
use Rattle.planning.specs.Rehearsal.{use_row, holding, least_used}
use Rattle.planning.specs.RehearsalRun.{last_use, use_of, victim_row}
use Rattle.model.specs.declared.{state.Frame.Frame, state.State.State}
use Rattle.planning.specs.declared.rehearsal.FrameUse.{FrameUse}

-- ---- the frame that holds a page

module _ (fs : List FrameUse) (p : ℕ) where
  pub holding-none : (n : ℕ) → ((j : ℕ) → j < n → (use_row fs j).page ≢ p) → holding fs p n ≡ 0
  unfolding holding
  holding-none zero h = refl
  holding-none (suc n) h = rw (ne_eqb (use_row fs n).page p (h n (omega arith))) (holding-none n (λ j b. h j (omega arith)))

  pub holding-one : (n j : ℕ) → j < n → (use_row fs j).page ≡ p → ((i : ℕ) → i < n → (use_row fs i).page ≡ p → i ≡ j) → holding fs p n ≡ suc j
  unfolding holding
  holding-one zero j b e one = absurd (omega arith)
  holding-one (suc n) j b e one = elim (ℕ_discrete n j) [
    | yes q ↦ rw (eq-eqb (use_row fs n).page p (rw q e)) (ap suc q)
    | no q ↦ rw (ne_eqb (use_row fs n).page p (λ y. q (one n (omega arith) y)))
        (holding-one n j (omega arith) e (λ i c y. one i (omega arith) y))
  ]

-- ---- the least recently used

-- row j of the first n is the first of those that none was used before
pub record Least (fs : List FrameUse) (n j : ℕ) : Type 0 where
  pub below : j < n
  pub least : (i : ℕ) → i < n → (use_row fs j).used ≤ (use_row fs i).used
  pub first : (i : ℕ) → i < j → (use_row fs j).used < (use_row fs i).used

pub least-is : (fs : List FrameUse) (n : ℕ) → Least fs (suc n) (least_used fs (suc n))
unfolding least_used
least-is fs zero =
    by_cases (ltb (use_row fs 0).used (use_row fs 0).used) (λ t. rw t only) (λ t. rw t only)
  where
    only : Least fs 1 0
    only = record {
      below = omega arith;
      least = λ i b. let q : i ≡ 0 = omega arith in rw q (omega arith);
      first = λ i b. absurd (omega arith);
    }
least-is fs (suc n) =
    let j = least_used fs (suc n) in
    let ih : Least fs (suc n) (least_used fs (suc n)) = least-is fs n in
    by_cases (ltb (use_row fs (suc n)).used (use_row fs j).used)
    (λ t.
    let l : (use_row fs (suc n)).used < (use_row fs j).used = ltb-true (use_row fs (suc n)).used (use_row fs j).used t in
    rw t (record {
      below = omega arith;
      least = λ i b. elim (ℕ_discrete i (suc n)) [ yes q ↦ rw q (omega arith) | no q ↦ omega (arith, ih.least i (omega arith)) ];
      first = λ i b. omega (arith, ih.least i b);
    }))
    (λ t.
    let l : (use_row fs j).used ≤ (use_row fs (suc n)).used = ltb-false (use_row fs (suc n)).used (use_row fs j).used t in
    rw t (record {
      below = omega (arith, ih.below);
      least = λ i b. elim (ℕ_discrete i (suc n)) [ yes q ↦ rw q l | no q ↦ ih.least i (omega arith) ];
      first = ih.first;
    }))

-- ---- a frame table of the store and one of the model

-- a frame of the store as the model has it, after these events, the newest first
abbrev pub stamped : List ℕ → Frame → FrameUse
stamped events f = record { page = f.page; used = last_use f.page events; dirty = f.dirty }

-- all rows but one are alike (16: all)
pub record Alike (events : List ℕ) (ms : List FrameUse) (s : State) (skip : ℕ) : Type 0 where
  pub size : length ms ≡ 16
  pub each : (j : ℕ) → j < 16 → j ≢ skip → use_row ms j ≡ stamped events (frame_row s j)

module _ (events : List ℕ) (ms : List FrameUse) (s : State) (a : Alike events ms s 16) where
  same_row : (j : ℕ) → j < 16 → use_row ms j ≡ stamped events (frame_row s j)
  same_row j b = a.each j b (λ q. omega arith)

  same-use : (j : ℕ) → j < 16 → (use_row ms j).used ≡ use_of events s j
  same-use j b = ap (λ (y : FrameUse). y.used) (same_row j b)

  pub victim-is : (n : ℕ) → 1 ≤ n → n ≤ 16 → (victim_row n events s ≡ least_used ms n) × (least_used ms n < n)
  unfolding victim_row
  victim-is zero lo hi = absurd (omega arith)
  victim-is (suc n) lo hi =
      let l = least-is ms n in
      let j = least_used ms (suc n) in
      let b : least_used ms (suc n) < 16 = omega (arith, l.below) in (
        first-is (λ i. every (suc n) (λ k. leb (use_of events s i) (use_of events s k))) (suc n) 0 j (omega arith) (omega (arith, l.below))
            (every-all (λ k. leb (use_of events s j) (use_of events s k)) (suc n)
            (λ k c. le-leb (use_of events s j) (use_of events s k) (omega (arith, l.least k c, same-use j b, same-use k (omega arith)))))
            (λ i z c. every-fails (λ k. leb (use_of events s i) (use_of events s k)) (suc n) j l.below
            (lt-leb (use_of events s i) (use_of events s j) (omega (arith, l.first i c, same-use j b, same-use i (omega arith))))),
        l.below,
      )

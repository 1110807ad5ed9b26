-- A page's inspection depends on its own image, its records, its last written number and its noted backup alone: the proof of
-- `NeighboursClaim`. The walk through the log is told again as a walk over the list of the page's records, the newest first.
use mathlib.Core.Path.{◌≡◌, refl, ap, ◌∙◌}
use mathlib.Core.Logic.{◌⊎◌, inl, inr, ⊎_elim}
use mathlib.Core.Bool.{Bool, true, false, cond}
use mathlib.Core.List.{List, [], ◌∷◌, ◌++◌, reverse, append-nil}
use mathlib.Mathlib.Data.List.Basic.{reverse-concat'}
use Prim.Native.Nat.{ℕ, zero, suc, ◌+◌, ◌≤◌, ◌<◌}
use native.Mathlib.Omega.{arith}
use lib.Dec.{eqb, ltb}
use lib.ListN.{length}
use borrow.Author.Tests.{eqb-true, le-ltb, lt-ltb}
use Rattle.laws.proofs.Tables.{by_cases}
use Rattle.laws.proofs.Chain.{chain-falls}
use Rattle.laws.proofs.Walks.{step, named}
use Rattle.laws.proofs.Scanned.{Fit, newest, link-cases, down, first_lsn}
use Rattle.model.specs.Geometry.{item, log_slot}
use Rattle.model.specs.Item.{record_of, apply_record, is_format}
use Rattle.model.specs.Scan.{log_record, linked}
use Rattle.model.specs.Repair.{Walk, stop_at, behind, chain_record, walk_from, replay_chain}
use Rattle.reports.specs.Reading.{page_records}
use Rattle.model.specs.declared.{geometry.Geometry.Geometry, answer.Stop.TheVariants.Broken}

-- ---- a page's records, the newest first

snoc : (t : Bool) (xs ys : List (List ℕ)) (r : List ℕ) → reverse xs ≡ ys → reverse (xs ++ cond t (r ∷ []) []) ≡ cond t (r ∷ ys) ys
snoc true xs ys r e = reverse-concat' xs r ∙ ap (λ (l : List (List ℕ)). r ∷ l) e
snoc false xs ys r e = ap reverse (append-nil xs) ∙ e

pub down_is : (g : Geometry) (v : List ℕ) (p f c : ℕ) → reverse (page_records g v p f c) ≡ down g v p f c
unfolding page_records down
down_is g v p f zero = refl
down_is g v p f (suc c) =
    snoc (eqb (log_record g v (f + c)).page p) (page_records g v p f c) (down g v p f c) (item g v (log_slot g (f + c))) (down_is g v p f c)

-- the walk over such a list from number n on, and the records that it takes; behind the last record is what lies below the run
pub walk_l : ℕ → ℕ → ℕ → ℕ → List (List ℕ) → Walk
walk_l p own b n [] = step (eqb own n) (eqb b n) true false false n (stop_at Broken [])
walk_l p own b n (r ∷ rs) =
    step (eqb own n) (eqb b n) false (chain_record p n r) (is_format (record_of r)) n (walk_l p own b (record_of r).prev rs)

take_step : Bool → Bool → Bool → Bool → List ℕ → List (List ℕ) → List (List ℕ)
take_step t u c f r rs = cond t [] (cond u [] (cond c (cond f (r ∷ []) (r ∷ rs)) []))

pub taken_l : ℕ → ℕ → ℕ → ℕ → List (List ℕ) → List (List ℕ)
taken_l p own b n [] = []
taken_l p own b n (r ∷ rs) =
    take_step (eqb own n) (eqb b n) (chain_record p n r) (is_format (record_of r)) r (taken_l p own b (record_of r).prev rs)

pub replay_l : List (List ℕ) → List ℕ → List ℕ
replay_l [] body = body
replay_l (r ∷ rs) body = apply_record r (replay_l rs body)

step_same : (t u l c f : Bool) (n : ℕ) (x y : Walk) → (c ≡ true → f ≡ false → x ≡ y) → step t u l c f n x ≡ step t u l c f n y
unfolding step
step_same true u l c f n x y h = refl
step_same false true l c f n x y h = refl
step_same false false true c f n x y h = refl
step_same false false false false f n x y h = refl
step_same false false false true true n x y h = refl
step_same false false false true false n x y h = ap (λ (k : Walk). behind (n ∷ []) k) (h refl refl)

replay-step : (t u c f : Bool) (n : ℕ) (x : Walk) (r : List ℕ) (rs : List (List ℕ)) (log : ℕ → List ℕ) (body : List ℕ) → log n ≡ r
    → (c ≡ true → f ≡ false → replay_chain log x.chain body ≡ replay_l rs body)
    → replay_chain log (step t u false c f n x).chain body ≡ replay_l (take_step t u c f r rs) body
unfolding step take_step replay_chain replay_l
replay-step true u c f n x r rs log body e h = refl
replay-step false true c f n x r rs log body e h = refl
replay-step false false false f n x r rs log body e h = refl
replay-step false false true true n x r rs log body e h = ap (λ (k : List ℕ). apply_record k body) e
replay-step false false true false n x r rs log body e h =
    ap (λ (k : List ℕ). apply_record k (replay_chain log x.chain body)) e ∙ ap (apply_record r) (h refl refl)

none-empty : (t u : Bool) (n : ℕ) → (step t u true false false n (stop_at Broken [])).chain ≡ []
unfolding step
none-empty true u n = refl
none-empty false true n = refl
none-empty false false n = refl

-- ---- the walk through a run from f on

module _ (g : Geometry) (v : List ℕ) (f : ℕ) (some : 1 ≤ f) (few : g.pages ≤ 64) (most : ℕ) (ok : (i : ℕ) → i < most → Fit g v f i)
    (p : ℕ) (low : 1 ≤ p) where
  abbrev pub log : ℕ → List ℕ
  log n = item g v (log_slot g n)

  -- number n stands before the first c records of the run: it is the page's newest, or, where it has none, below the run
  abbrev pub Meets : ℕ → ℕ → Type 0
  Meets c n = ((down g v p f c ≡ []) × (n < f)) ⊎ ((1 ≤ first_lsn (down g v p f c)) × (n ≡ first_lsn (down g v p f c)))

  pub down-none : (c : ℕ) → c ≤ most → first_lsn (down g v p f c) ≡ 0 → down g v p f c ≡ []
  unfolding down first_lsn
  down-none zero h z = refl
  down-none (suc c) h z = by_cases (eqb (log_record g v (f + c)).page p)
      (λ t. absurd (let q : (log_record g v (f + c)).lsn ≡ 0 = rw t at z in omega (arith, q, (ok c h).lsn-is)))
      (λ t. rw t (down-none c (omega arith) (rw t at z)))

  -- the record before one that the walk passes
  meets-prev : (c : ℕ) → c < most → (log_record g v (f + c)).page ≡ p → 1 ≤ (log_record g v (f + c)).prev
      → Meets c (log_record g v (f + c)).prev
  meets-prev c h q one =
      let e = log_record g v (f + c) in
      let w = newest g v f some few most ok c p (omega arith) low in
      let l : linked f (first_lsn (down g v p f c)) e ≡ true = rw (q, w.last-is) at (ok c h).links in
      let n = first_lsn (down g v p f c) in
      ⊎_elim (λ x. inr (omega (arith, x), x)) (λ x. inl (down-none c (omega arith) x.0, omega (arith, x.2))) (link-cases f n e l)

  abbrev pub Listed : ℕ → Type 0
  Listed c = (s own b n : ℕ) → n ≤ s → 1 ≤ n → Meets c n → walk_from s log f p own b n ≡ walk_l p own b n (down g v p f c)

  -- at record f + c of the page
  here : (c : ℕ) → c < most → Listed c → (log_record g v (f + c)).page ≡ p → (s own b : ℕ) → f + c ≤ s
      → walk_from s log f p own b (f + c) ≡ walk_l p own b (f + c) (item g v (log_slot g (f + c)) ∷ down g v p f c)
  unfolding walk_from walk_l step
  here c h ih q zero own b k = absurd (omega arith)
  here c h ih q (suc z) own b k =
      let r : List ℕ = item g v (log_slot g (f + c)) in
      let n : ℕ = f + c in
      let up : ltb (f + c) f ≡ false = le-ltb (f + c) f (omega arith) in
      ap (λ (t : Bool). step (eqb own n) (eqb b n) t (chain_record p n r) (is_format (record_of r)) n
      (walk_from z log f p own b (record_of r).prev)) up
      ∙ step_same (eqb own n) (eqb b n) false (chain_record p n r) (is_format (record_of r)) n (walk_from z log f p own b (record_of r).prev)
      (walk_l p own b (record_of r).prev (down g v p f c))
      (λ x y. let one = named p n r x y in ih z own b (record_of r).prev (omega (arith, chain-falls p n r x)) one (meets-prev c h q one))

  pub walk-list : (c : ℕ) → c ≤ most → Listed c
  unfolding down first_lsn walk_from walk_l step
  walk-list zero h s own b n k one (inl m) = go s k
    where
      go : (s : ℕ) → n ≤ s → walk_from s log f p own b n ≡ walk_l p own b n []
      go zero k = absurd (omega arith)
      go (suc z) k = let t : ltb n f ≡ true = lt-ltb n f m.1 in rw t
  walk-list zero h s own b n k one (inr m) = absurd (omega (arith, m.0))
  walk-list (suc c) h s own b n k one m =
      by_cases (eqb (log_record g v (f + c)).page p)
      (λ t. rw t (hit (walk-list c (omega arith)) t (rw t at m)))
      (λ t. rw t (walk-list c (omega arith) s own b n k one (rw t at m)))
    where
      hit : Listed c → eqb (log_record g v (f + c)).page p ≡ true
          → ((item g v (log_slot g (f + c)) ∷ down g v p f c ≡ []) × (n < f))
          ⊎ ((1 ≤ (log_record g v (f + c)).lsn) × (n ≡ (log_record g v (f + c)).lsn))
          → walk_from s log f p own b n ≡ walk_l p own b n (item g v (log_slot g (f + c)) ∷ down g v p f c)
      hit ih t (inl x) = let y : suc (length (down g v p f c)) ≡ 0 = ap length x.0 in absurd (omega arith)
      hit ih t (inr x) =
          let e : n ≡ f + c = x.1 ∙ (ok c h).lsn-is in
          rw e (here c h ih (eqb-true _ p t) s own b (omega (arith, e)))

  -- and its replay is that of the records taken
  abbrev pub Replays : ℕ → Type 0
  Replays c = (own b n : ℕ) (body : List ℕ) → 1 ≤ n → Meets c n
      → replay_chain log (walk_l p own b n (down g v p f c)).chain body ≡ replay_l (taken_l p own b n (down g v p f c)) body

  pub replay-list : (c : ℕ) → c ≤ most → Replays c
  unfolding down first_lsn walk_l taken_l replay_l replay_chain
  replay-list zero h own b n body one m = rw (none-empty (eqb own n) (eqb b n) n)
  replay-list (suc c) h own b n body one m =
      by_cases (eqb (log_record g v (f + c)).page p)
      (λ t. rw t (hit (replay-list c (omega arith)) t (rw t at m)))
      (λ t. rw t (replay-list c (omega arith) own b n body one (rw t at m)))
    where
      hit : Replays c → eqb (log_record g v (f + c)).page p ≡ true
          → ((item g v (log_slot g (f + c)) ∷ down g v p f c ≡ []) × (n < f))
          ⊎ ((1 ≤ (log_record g v (f + c)).lsn) × (n ≡ (log_record g v (f + c)).lsn))
          → replay_chain log (walk_l p own b n (item g v (log_slot g (f + c)) ∷ down g v p f c)).chain body
          ≡ replay_l (taken_l p own b n (item g v (log_slot g (f + c)) ∷ down g v p f c)) body
      hit ih t (inl x) = let y : suc (length (down g v p f c)) ≡ 0 = ap length x.0 in absurd (omega arith)
      hit ih t (inr x) =
          let r : List ℕ = item g v (log_slot g (f + c)) in
          let e : n ≡ f + c = x.1 ∙ (ok c h).lsn-is in
          replay-step (eqb own n) (eqb b n) (chain_record p n r) (is_format (record_of r)) n
          (walk_l p own b (record_of r).prev (down g v p f c)) r
          (taken_l p own b (record_of r).prev (down g v p f c)) log body (ap log e)
          (λ y z. let one' = named p n r y z in ih own b (record_of r).prev body one' (meets-prev c h (eqb-true _ p t) one'))

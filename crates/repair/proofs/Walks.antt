-- The walk as a loop makes it: the records passed are counted, and what is left is a walk from the next number. And its chain, followed
-- once more from number to number.
use Prim.Native.Nat.{ℕ, zero, suc, ◌+◌, ◌-◌, ◌≤◌, ◌<◌}
use mathlib.Core.Path.{◌≡◌, refl, sym, ap, ◌∙◌}
use mathlib.Core.Bool.{true, false}
use mathlib.Core.List.{List, [], ◌∷◌, ◌++◌, append-nil, append_assoc}
use native.Mathlib.Omega.{arith}
use native.Mathlib.Nat.{add-zero, zero-add}
use native.Mathlib.Numerals.{add-one}
use lib.ListN.{length, take, set, length-set}
use lib.Seq.{take-suc-set, take-length}
use Rattle.laws.proofs.Tables.{true-not-false, by_cases}
use Rattle.model.specs.Item.{record_of, is_format}
use Rattle.model.specs.Repair.{Walk, stop_at, walk_from, is_broken}
use Rattle.model.specs.declared.{answer.Stop.Stop, answer.Stop.TheVariants.Broken}
use Rattle.model.specs.declared.answer.Stop.TheVariants.{Format}
use Rattle.repair.specs.Walked.{counted, step_of, Sound, chain_from}
use Rattle.repair.specs.declared.walk.Traced.{Traced}
use Rattle.std.specs.Prelude.{Result, Ok, Err}
use Rattle.model.specs.declared.item.LogRecord.{LogRecord}
use Rattle.repair.proofs.Links.{follow, walk_none, walk-follows, step-zero, step_falls, step_back, step-reads}

-- a walk behind k records
abbrev pub passed : ℕ → Walk → Traced
passed k w = record { stop = w.stop; count = k + length w.chain }

-- ---- the loop

module _ (log : ℕ → List ℕ) (first p own backup from : ℕ) where
  -- count records are passed, and the walk is at n
  pub record Down (n count : ℕ) : Type 0 where
    pub room : count + n ≤ from
    pub low : n ≡ 0 → from ≡ 0
    pub same : counted (walk_from from log first p own backup from) ≡ passed count (walk_from (from - count) log first p own backup n)

  pub down-start : Down from 0
  down-start =
      record {
        room = omega arith;
        low = λ z. z;
        same = (let z : from - 0 ≡ from = omega arith in rw (z, zero-add));
      }

  module _ (n count : ℕ) (d : Down n count) where
    -- the walk that is left, by its step
    left_is : (s : Result LogRecord Stop) → 1 ≤ n → step_of log first p own backup n ≡ s
        → counted (walk_from from log first p own backup from)
        ≡ passed count (follow s n (λ q. walk_from (from - (count + 1)) log first p own backup q))
    left_is s h e =
        let k : from - count ≡ suc (from - (count + 1)) = omega (arith, d.room) in
        d.same
        ∙ ap (λ (f : ℕ). passed count (walk_from f log first p own backup n)) k
        ∙ ap (passed count) (walk-follows log first p own backup (from - (count + 1)) n h)
        ∙ ap (λ (t : Result LogRecord Stop). passed count (follow t n (λ q. walk_from (from - (count + 1)) log first p own backup q))) e

    -- a walk that is not broken comes to no record that it may not read
    pub down-sound : (1 ≤ from → is_broken (walk_from from log first p own backup from).stop ≡ false) → Sound log first p own backup n
    down-sound whole e = go n refl
      where
        go : (m : ℕ) → n ≡ m → n ≡ 0
        go zero z = z
        go (suc m) z =
            let t = ap (λ (w : Traced). is_broken w.stop) (left_is (Err Broken) (omega arith) e) in
            let f = whole (omega (arith, d.room)) in
            absurd (true-not-false t f)

    -- a record that is read, and the walk goes on
    pub down-on : (e : LogRecord) → step_of log first p own backup n ≡ Ok e → is_format e ≡ false → Down e.prev (count + 1)
    down-on e q t =
        let f : e.prev < n = step_falls log first p own backup n e q in
        let b : 1 ≤ e.prev = step_back log first p own backup n e q t in
        let w = walk_from (from - (count + 1)) log first p own backup e.prev in
        let l : count + suc (length w.chain) ≡ count + 1 + length w.chain = omega arith in
        record {
          room = omega (arith, d.room);
          low = λ z. absurd (omega arith);
          same =
              left_is (Ok e) (omega arith) q
              ∙ rw t (ap {B = Traced} (λ (k : ℕ). record { stop = w.stop; count = k }) l);
        }

    -- a format: the walk's end
    pub down-format : (e : LogRecord) → step_of log first p own backup n ≡ Ok e → is_format e ≡ true
        → ◌≡◌ {A = Traced} (record { stop = Format; count = count + 1 }) (counted (walk_from from log first p own backup from))
    down-format e q t =
        let f : e.prev < n = step_falls log first p own backup n e q in
        sym (left_is (Ok e) (omega arith) q ∙ rw t refl)

    -- the walk halts
    pub down-halt : (s : Stop) → step_of log first p own backup n ≡ Err s
        → ◌≡◌ {A = Traced} (record { stop = s; count = count }) (counted (walk_from from log first p own backup from))
    down-halt s e = ap (λ (k : ℕ). record { stop = s; count = k }) (sym (add-zero count)) ∙ sym (go n refl)
      where
        go : (m : ℕ) → n ≡ m → counted (walk_from from log first p own backup from) ≡ passed count (stop_at s [])
        go zero z =
            let f : from ≡ 0 = d.low z in
            let b : from - count ≡ 0 = omega arith in
            let t : ◌≡◌ {A = Result LogRecord Stop} (Err Broken) (Err s) = sym (step-zero log first p own backup) ∙ ap (step_of log first p own backup) (sym z) ∙ e in
            let q : Broken ≡ s = cc in
            d.same
            ∙ ap (λ (k : ℕ). passed count (walk_from k log first p own backup n)) b
            ∙ ap (passed count) (walk_none log first p own backup n)
            ∙ ap (λ (k : Stop). passed count (stop_at k [])) q
        go (suc m) z = left_is (Err s) (omega arith) e

-- ---- the chain

-- a walk's chain is followed from number to number
pub walk-chain : (log : ℕ → List ℕ) (first p own backup f n : ℕ) → 1 ≤ n
    → (walk_from f log first p own backup n).chain ≡ chain_from (length (walk_from f log first p own backup n).chain) log n
unfolding chain_from
walk-chain log first p own backup zero n h = rw (walk_none log first p own backup n)
walk-chain log first p own backup (suc f) n h =
    rw (walk-follows log first p own backup f n h) (go (λ q. walk-chain log first p own backup f q) (step_of log first p own backup n) refl)
  where
    go : ((q : ℕ) → 1 ≤ q
        → (walk_from f log first p own backup q).chain ≡ chain_from (length (walk_from f log first p own backup q).chain) log q)
        → (s : Result LogRecord Stop) → step_of log first p own backup n ≡ s
        → (follow s n (λ q. walk_from f log first p own backup q)).chain
        ≡ chain_from (length (follow s n (λ q. walk_from f log first p own backup q)).chain) log n
    go ih (Err s) q = refl
    go ih (Ok e) q =
        by_cases (is_format e) (λ t. rw t refl)
        (λ t. rw t (let r = step-reads log first p own backup n e q in
        ap (λ (l : List ℕ). n ∷ l) (ih e.prev (step_back log first p own backup n e q t)
        ∙ ap (λ (k : LogRecord). chain_from (length (walk_from f log first p own backup e.prev).chain) log k.prev) (sym r.read-is))))

-- the numbers of a chain as a loop collects them: i stand in the front of lsns, and the next is n
pub record Collected (log : ℕ → List ℕ) (top : ℕ) (lsns : List ℕ) (n i : ℕ) : Type 0 where
  pub below : i ≤ length lsns
  pub same : take i lsns ++ chain_from (length lsns - i) log n ≡ chain_from (length lsns) log top

module _ (log : ℕ → List ℕ) (top : ℕ) where
  pub collected-none : (lsns : List ℕ) → Collected log top lsns top 0
  collected-none lsns = record { below = omega arith; same = (let z : length lsns - 0 ≡ length lsns = omega arith in rw z) }

  pub collected-on : (lsns : List ℕ) (n i m : ℕ) → Collected log top lsns n i → i < length lsns → m ≡ (record_of (log n)).prev
      → Collected log top (set lsns i n) m (i + 1)
  unfolding chain_from
  collected-on lsns n i m c h em =
      let l : length (set lsns i n) ≡ length lsns = length-set lsns i n in
      let k : length lsns - i ≡ suc (length lsns - (i + 1)) = omega (arith, h) in
      let t : take (i + 1) (set lsns i n) ≡ take i lsns ++ (n ∷ []) = rw (add-one, take-suc-set lsns i n h) in
      record {
        below = omega (arith, l, h);
        same =
            rw l (ap (λ (x : List ℕ). x ++ chain_from (length lsns - (i + 1)) log m) t
            ∙ append_assoc (take i lsns) (n ∷ []) (chain_from (length lsns - (i + 1)) log m)
            ∙ ap (λ (x : ℕ). take i lsns ++ (n ∷ chain_from (length lsns - (i + 1)) log x)) em
            ∙ ap (λ (x : ℕ). take i lsns ++ chain_from x log n) (sym k)
            ∙ c.same);
      }

  pub collected-all : (lsns : List ℕ) (n i : ℕ) → Collected log top lsns n i → length lsns ≤ i → lsns ≡ chain_from (length lsns) log top
  unfolding chain_from
  collected-all lsns n i c h =
      let e : i ≡ length lsns = omega (arith, c.below) in
      let z : length lsns - i ≡ 0 = omega arith in
      sym (take-length lsns) ∙ ap (λ (x : ℕ). take x lsns) (sym e) ∙ sym (append-nil (take i lsns))
      ∙ ap (λ (x : ℕ). take i lsns ++ chain_from x log n) (sym z) ∙ c.same

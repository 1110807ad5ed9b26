-- The records of a walk's chain: what a record that the walk read is known to be, and the walk by its step at each number.
use Prim.Native.Nat.{ℕ, zero, suc, ◌≤◌, ◌<◌}
use mathlib.Core.Path.{◌≡◌, refl, sym, ap, ◌∙◌}
use mathlib.Core.Bool.{Bool, true, false, cond, ◌||◌}
use mathlib.Core.List.{List, [], ◌∷◌}
use native.Mathlib.Omega.{arith}
use lib.Dec.{eqb, ltb, leb}
use lib.ListN.{length, get_or}
use borrow.Author.Tests.{eqb-true, eq-eqb, ne_eqb, ltb-true, lt-ltb, le-ltb, leb-true}
use Rattle.laws.proofs.Tables.{all-at, by_cases, or-other}
use Rattle.model.specs.Checksum.{sealed}
use Rattle.model.specs.Item.{record_of, record_layout, is_format, first_is_format}
use Rattle.model.specs.Repair.{Walk, stop_at, behind, chain_record, walk_from}
use Rattle.model.specs.declared.item.LogRecord.{LogRecord}
use Rattle.model.specs.declared.answer.Stop.TheVariants.{Broken, Below}
use Rattle.model.specs.declared.answer.Stop.TheVariants.{Own, Backup, Format}
use Rattle.repair.specs.Walked.{step_of, Sound}
use Rattle.std.specs.Prelude.{Result, Ok, Err}
use Rattle.model.specs.declared.answer.Stop.{Stop}

-- a record that the walk for page p may read at number n
pub record Link (p n : ℕ) (r : List ℕ) : Type 0 where
  pub layout : record_layout r ≡ true
  pub falls : (record_of r).prev < n
  pub first : (is_format (record_of r) || leb 1 (record_of r).prev) ≡ true

pub link : (p n : ℕ) (r : List ℕ) → chain_record p n r ≡ true → Link p n r
unfolding chain_record
link p n r h =
    let e = record_of r in
    let tests = sealed 60 r ∷ eqb e.lsn n ∷ eqb e.page p ∷ record_layout r ∷ ltb e.prev n ∷ first_is_format e ∷ [] in
    record { layout = all-at tests 3 h; falls = ltb-true _ _ (all-at tests 4 h); first = all-at tests 5 h }

-- one that is no format names an earlier record
pub link-back : (p n : ℕ) (r : List ℕ) → Link p n r → is_format (record_of r) ≡ false → 1 ≤ (record_of r).prev
link-back p n r k e = leb-true _ _ (or-other (is_format (record_of r)) (leb 1 (record_of r).prev) k.first e)

-- what a walk makes of a step at n, where k is the walk of what is left
abbrev pub follow : Result LogRecord Stop → ℕ → (ℕ → Walk) → Walk
follow (Err s) n k = stop_at s []
follow (Ok e) n k = cond (is_format e) (stop_at Format (n ∷ [])) (behind (n ∷ []) (k e.prev))

-- the steps that the tests may come to
abbrev picked : (z a b w o : Bool) → LogRecord → Result LogRecord Stop
picked z a b w o e =
    cond z (Err Broken) (cond a (Err Own) (cond b (Err Backup) (cond w (Err Below) (cond o (Ok e) (Err Broken)))))

pick-read : (z a b w o : Bool) (q e : LogRecord) → picked z a b w o q ≡ Ok e → (o ≡ true) × (q ≡ e)
pick-read true a b w o q e h = (cc, cc)
pick-read false true b w o q e h = (cc, cc)
pick-read false false true w o q e h = (cc, cc)
pick-read false false false true o q e h = (cc, cc)
pick-read false false false false true q e h = (refl, cc)
pick-read false false false false false q e h = (cc, cc)

pick-backup : (z a b w o : Bool) (q : LogRecord) → picked z a b w o q ≡ Err Backup → b ≡ true
pick-backup true a b w o q h = cc
pick-backup false true b w o q h = cc
pick-backup false false true w o q h = refl
pick-backup false false false true o q h = cc
pick-backup false false false false true q h = cc
pick-backup false false false false false q h = cc

module _ (log : ℕ → List ℕ) (p : ℕ) where
  -- every number of a chain is that of a link, and is 1 to top
  abbrev pub Linked : ℕ → List ℕ → Type 0
  Linked top [] = Unit {0}
  Linked top (n ∷ ns) = (chain_record p n (log n) ≡ true) × (1 ≤ n) × (n ≤ top) × Linked top ns

  pub linked-at : (top : ℕ) (l : List ℕ) → Linked top l → (j : ℕ) → j < length l
      → (chain_record p (get_or l j 0) (log (get_or l j 0)) ≡ true) × (1 ≤ get_or l j 0) × (get_or l j 0 ≤ top)
  linked-at top [] k j h = absurd (omega arith)
  linked-at top (n ∷ ns) k zero h = (k.0, k.1, k.2)
  linked-at top (n ∷ ns) k (suc j) h = linked-at top ns k.3 j (omega arith)

module _ (log : ℕ → List ℕ) (first p own backup : ℕ) where
  -- a step that reads, reads a link
  pub record Reads (n : ℕ) (e : LogRecord) : Type 0 where
    pub link-is : chain_record p n (log n) ≡ true
    pub read-is : record_of (log n) ≡ e

  pub step-reads : (n : ℕ) (e : LogRecord) → step_of log first p own backup n ≡ Ok e → Reads n e
  unfolding step_of
  step-reads n e h =
      let k = pick-read (eqb n 0) (eqb own n) (eqb backup n) (ltb n first) (chain_record p n (log n)) (record_of (log n)) e h in
      record { link-is = k.0; read-is = k.1 }

  pub step-zero : step_of log first p own backup 0 ≡ Err Broken
  unfolding step_of
  step-zero = refl

  pub step-none : (n : ℕ) → n ≡ 0 → Err Broken ≡ step_of log first p own backup n
  unfolding step_of
  step-none n e = rw (eq-eqb n 0 e)

  module _ (n : ℕ) (some : n ≡ 0 → ⊥) where
    pub step-own : own ≡ n → Err Own ≡ step_of log first p own backup n
    unfolding step_of
    step-own e = rw (ne_eqb n 0 some, eq-eqb own n e)

    module _ (not_own : own ≡ n → ⊥) where
      pub step-copy : backup ≡ n → Err Backup ≡ step_of log first p own backup n
      unfolding step_of
      step-copy e = rw (ne_eqb n 0 some, ne_eqb own n not_own, eq-eqb backup n e)

      module _ (not-backup : backup ≡ n → ⊥) where
        pub step-below : n < first → Err Below ≡ step_of log first p own backup n
        unfolding step_of
        step-below l = rw (ne_eqb n 0 some, ne_eqb own n not_own, ne_eqb backup n not-backup, lt-ltb n first l)

        module _ (held : first ≤ n) (r : List ℕ) (r-is : r ≡ log n) where
          pub step-broken : chain_record p n r ≡ false → Err Broken ≡ step_of log first p own backup n
          unfolding step_of
          step-broken z = rw (ne_eqb n 0 some, ne_eqb own n not_own, ne_eqb backup n not-backup, le-ltb n first held, ← r-is, z)

          pub step-read : (e : LogRecord) → e ≡ record_of r → chain_record p n r ≡ true → Ok e ≡ step_of log first p own backup n
          unfolding step_of
          step-read e e-is z =
              rw (ne_eqb n 0 some, ne_eqb own n not_own, ne_eqb backup n not-backup, le-ltb n first held, ← r-is, z, ← e-is)

          -- a record that was not tested may be read
          pub sound-read : Sound log first p own backup n → chain_record p n r ≡ true
          sound-read sound =
              by_cases (chain_record p n r) (λ z. z) (λ z. absurd (some (sound (sym (step-broken z)))))

  pub step_falls : (n : ℕ) (e : LogRecord) → step_of log first p own backup n ≡ Ok e → e.prev < n
  step_falls n e h =
      let r = step-reads n e h in
      let k = link p n (log n) r.link-is in
      omega (arith, ap (λ (q : LogRecord). q.prev) r.read-is, k.falls)

  pub step_back : (n : ℕ) (e : LogRecord) → step_of log first p own backup n ≡ Ok e → is_format e ≡ false → 1 ≤ e.prev
  step_back n e h t =
      let r = step-reads n e h in
      let k = link-back p n (log n) (link p n (log n) r.link-is) (ap (λ (q : LogRecord). is_format q) r.read-is ∙ t) in
      omega (arith, ap (λ (q : LogRecord). q.prev) r.read-is, k)

  pub walk_none : (n : ℕ) → walk_from 0 log first p own backup n ≡ stop_at Broken []
  unfolding walk_from
  walk_none n = refl

  -- the walk by its step
  pub walk-follows : (f n : ℕ) → 1 ≤ n
      → walk_from (suc f) log first p own backup n ≡ follow (step_of log first p own backup n) n (λ q. walk_from f log first p own backup q)
  unfolding walk_from step_of
  walk-follows f n h =
      let z : eqb n 0 ≡ false = ne_eqb n 0 (λ e. omega arith) in
      rw z
      (by_cases (eqb own n) (λ a. rw a)
      (λ a. rw a (by_cases (eqb backup n) (λ b. rw b)
      (λ b. rw b (by_cases (ltb n first) (λ w. rw w)
      (λ w. rw w (by_cases (chain_record p n (log n))
      (λ o. rw o)
      (λ o. rw o))))))))

  pub walk-linked : (top f n : ℕ) → 1 ≤ n → n ≤ top → Linked log p top (walk_from f log first p own backup n).chain
  walk-linked top zero n h l = rw (walk_none n) tt
  walk-linked top (suc f) n h l = rw (walk-follows f n h) (go (λ q. walk-linked top f q) (step_of log first p own backup n) refl)
    where
      go : ((q : ℕ) → 1 ≤ q → q ≤ top → Linked log p top (walk_from f log first p own backup q).chain)
          → (s : Result LogRecord Stop) → step_of log first p own backup n ≡ s
          → Linked log p top (follow s n (λ q. walk_from f log first p own backup q)).chain
      go ih (Err s) q = tt
      go ih (Ok e) q =
          by_cases (is_format e) (λ t. rw t ((step-reads n e q).link-is, h, l, tt))
          (λ t. rw t ((step-reads n e q).link-is, h, l, ih e.prev (step_back n e q t) (omega (arith, step_falls n e q))))

  -- where the walk stops at the backup, there is one
  step-backup : (n : ℕ) → step_of log first p own backup n ≡ Err Backup → backup ≡ n
  unfolding step_of
  step-backup n h =
      eqb-true backup n
      (pick-backup (eqb n 0) (eqb own n) (eqb backup n) (ltb n first) (chain_record p n (log n)) (record_of (log n)) h)

  pub walk-backup : (f n : ℕ) → 1 ≤ n → (walk_from f log first p own backup n).stop ≡ Backup → 1 ≤ backup
  walk-backup zero n h e = absurd (let z : Broken ≡ Backup = rw (walk_none n) at e in let q : ◌≡◌ {A = ℕ} 0 1 = cc in omega arith)
  walk-backup (suc f) n h e = go (λ q. walk-backup f q) (step_of log first p own backup n) refl (rw (walk-follows f n h) at e)
    where
      go : ((q : ℕ) → 1 ≤ q → (walk_from f log first p own backup q).stop ≡ Backup → 1 ≤ backup)
          → (s : Result LogRecord Stop) → step_of log first p own backup n ≡ s
          → (follow s n (λ q. walk_from f log first p own backup q)).stop ≡ Backup → 1 ≤ backup
      go ih (Err s) q t =
          let b : backup ≡ n = step-backup n (q ∙ ap {B = Result LogRecord Stop} Err t) in omega arith
      go ih (Ok e) q t =
          by_cases (is_format e)
          (λ f. let z : Format ≡ Backup = rw f at t in let x : ◌≡◌ {A = ℕ} 0 1 = cc in absurd (omega arith))
          (λ f. ih e.prev (step_back n e q f) (rw f at t))

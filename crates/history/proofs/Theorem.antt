-- Demands 2 and 3, proved for every legal history.
use mathlib.Core.Path.{◌≡◌, refl, sym, ap, ◌∙◌}
use mathlib.Core.Logic.{◌≢◌, ◌⊎◌, inl, inr, ⊎_elim, ◌↔◌}
use mathlib.Core.List.{List, ◌++◌}
use Prim.Native.Nat.{ℕ, zero, suc, ◌≤◌}
use native.Mathlib.Omega.{arith}
use native.Mathlib.Decide.{ℕ_discrete}
use lib.ListN.{length}
use lib.Seq.{take-append_seam}
use lib.Dec.{eqb}
use borrow.Author.Tests.{eqb-true}
use Rattle.laws.proofs.Tables.{by_cases}
use Rattle.laws.proofs.Fields.{read_back}
use Rattle.model.specs.Tables.{first_of}
use Rattle.model.specs.Bytes.{le, bytes_of}
use Rattle.model.specs.Geometry.{top_number, geometry_of}
use Rattle.model.specs.Item.{frame_image}
use Rattle.model.specs.State.{frame_bytes}
use Rattle.model.specs.Refusals.{load_rows}
use Rattle.model.specs.Outcome.{StoredItem, refusal_of, decided}
use Rattle.model.specs.Effects.{load_done}
use Rattle.model.specs.Calls.{load_of}
use Rattle.model.specs.Index.{entry_of}
use Rattle.model.specs.Scan.{first_held, index_of}
use Rattle.model.specs.AbstractLog.{Logged, last_place}
use Rattle.model.specs.History.{on}
use Rattle.model.specs.Claim.{History, Legal, reached, log_of, durable_of, inspection, shown, Gone, Proviso, Safe}
use Rattle.model.specs.Claim.{Inspects, Loads, Agree, Begins, Demand2, Demand3}
use Rattle.model.specs.declared.{geometry.Geometry.Geometry, state.State.State}
use Rattle.history.proofs.Logs.{at, last_of, body_of, last-hit, last-le, replay-last, replay-append, replay-is, last-is}
use Rattle.history.proofs.Leaf.{frame-size}
use Rattle.history.proofs.Records.{AllFair}
use Rattle.history.proofs.Sections.{volume-sized, most-high}
use Rattle.history.proofs.Memory.{frame_same}
use Rattle.history.proofs.Context.{Ctx, geo, sized, few, body-size, durable-last}
use Rattle.history.proofs.Loads.{Loaded, loads, loads-above, never-broken, below-only, load-image}
use Rattle.history.proofs.Inspection.{inspect-blank, inspect-durable, inspect-granted, inspect-exact, inspect-below}
use Rattle.history.proofs.LogScan.{first, first-is}
use Rattle.history.proofs.Views.{Unserved}
use Rattle.history.proofs.Reached.{present, tied, live}

-- ---- one history: Inspect

module _ (h : History) (legal : Legal h) (p : ℕ) (lo : 1 ≤ p) (hi : p ≤ h.pages) (buffer : List ℕ) (size : length buffer ≡ 256) where
  -- the volume's geometry is what Make was given
  made-geo : geometry_of (reached h).volume ≡ present h
  made-geo = (tied h legal).holds.vol.geo

  abbrev ShowsOf : Type 0
  ShowsOf = (inspection h p buffer ≡ 0) × (shown h p buffer ≡ bytes_of 4 (last_of p (durable_of h)) ++ body_of p (durable_of h))

  shows-blank : last_of p (durable_of h) ≡ 0 → inspection h p buffer ≡ 7
  shows-blank = let i = tied h legal in
      inspect-blank (present h) (reached h).volume (durable_of h) i.holds i.ns i.noted p lo hi buffer size

  shows-durable : last_of p (durable_of h) ≢ 0 → ShowsOf ⊎ (inspection h p buffer ≡ 23)
  shows-durable = let i = tied h legal in
      inspect-durable (present h) (reached h).volume (durable_of h) i.holds i.ns i.noted p lo hi buffer size

  shows-granted : last_of p (durable_of h) ≢ 0 → (Gone h → Proviso h p) → ShowsOf
  shows-granted nz f = let i = tied h legal in
      inspect-granted (present h) (reached h).volume (durable_of h) i.holds i.ns i.noted p lo hi buffer size nz (rw made-geo at f)

  shows-below : inspection h p buffer ≡ 23 → Gone h × (Proviso h p → ⊥)
  shows-below e = let i = tied h legal in
      rw made-geo (inspect-below (present h) (reached h).volume (durable_of h) i.holds i.ns i.noted p lo hi buffer size e)

  shows-seven : inspection h p buffer ≡ 7 → last_of p (durable_of h) ≡ 0
  shows-seven e = elim (ℕ_discrete (last_of p (durable_of h)) 0) [
    | yes z ↦ z
    | no z ↦ absurd (⊎_elim (λ a. omega (arith, e, a.0)) (λ a. omega (arith, e, a)) (shows-durable z))
  ]

  -- 23, exactly; the run starts at number suc f
  pub shows-exact : last_place p (durable_of h) ≢ 0
      → (f : ℕ) → first_held (geometry_of (reached h).volume) (reached h).volume (length (durable_of h)) ≡ suc f
      → (inspection h p buffer ≡ 23)
      ↔ Unserved (geometry_of (reached h).volume) (reached h).volume (durable_of h)
      (entry_of (index_of (geometry_of (reached h).volume) (reached h).volume) p) p f
  shows-exact nz f e =
      let i = tied h legal in
      let fi : suc f ≡ suc (first (present h) (reached h).volume (durable_of h) i.holds i.ns i.noted) =
      sym (rw made-geo at e) ∙ first-is (present h) (reached h).volume (durable_of h) i.holds i.ns i.noted in
      let q : f ≡ first (present h) (reached h).volume (durable_of h) i.holds i.ns i.noted = omega arith in
      rw (made-geo, q) (inspect-exact (present h) (reached h).volume (durable_of h) i.holds i.ns i.noted p lo hi buffer size
      (λ z. nz (last-is p (durable_of h) ∙ z)))

  inspects : Inspects h p buffer
  inspects =
      record {
        blank = rw (last-is p (durable_of h)) (shows-seven, shows-blank);
        durable = rw (last-is p (durable_of h), replay-is p (durable_of h)) shows-durable;
        granted = rw (last-is p (durable_of h), replay-is p (durable_of h)) shows-granted;
        below = shows-below;
      }

-- ---- one history: Load

module _ {C : Type 0} {g : Geometry} {v m : List ℕ} {past : List StoredItem} {s : State} {k w : List Logged}
    (x : Ctx C g v m past s k w) (p f : ℕ) where
  pub load-refusal : refusal_of (load_of v m s p f).answer ≡ first_of (load_rows v m s p f)
  unfolding decided load_done
  load-refusal = by_cases (eqb (first_of (load_rows v m s p f)) 0) (λ t. rw t (sym (eqb-true (first_of (load_rows v m s p f)) 0 t))) (λ t. rw t)

  -- where no change of the page is pending, its number and its replay are those of its durable changes
  module _ (l : Loaded x p f) where
    same-last : last_of p x.all ≡ last_of p k
    same-last = l.settled ∙ durable-last x p l.low l.high

    same_body : body_of p x.all ≡ body_of p k
    same_body =
        replay-last p x.all (length x.all)
        ∙ (rw (same-last, x.al.log.split) (replay-append p k w (last_of p k) (last-le p k (length k))) ∙ sym (replay-last p k (length k)))

  pub loaded_bytes : first_of (load_rows v m s p f) ≡ 0
      → (last_of p k ≢ 0) × (frame_bytes (load_of v m s p f).memory f ≡ frame_image p (last_of p k) (body_of p k))
      × (last_of p (k ++ w) ≡ last_of p k) × (body_of p (k ++ w) ≡ body_of p k)
  unfolding decided load_done
  loaded_bytes e =
      let l = loads x p f e in
      let im = load-image x p l.low l.high l.settled l.some (loads-above x p f e) in
      let pg : p ≤ 64 = omega (arith, l.high, (sized x).p-high) in
      let nm : last_of p x.all ≤ top_number = omega (arith, few x, last-le p x.all (length x.all)) in
      let sz = frame-size g p (last_of p x.all) (body_of p x.all) pg nm (body-size x p) in (
        λ z. l.some (same-last l ∙ z),
        rw (e, geo x, im) (frame_same x.al.F m x.al.memory f (frame_image p (last_of p x.all) (body_of p x.all))
            l.frame-low l.frame-high sz
            ∙ rw (same-last l, same_body l)),
        rw (← x.al.log.split) (same-last l),
        rw (← x.al.log.split) (same_body l),
      )

loads-is : (h : History) → Legal h → (m : List ℕ) (s : State) → (reached h).power ≡ on m s → (p f : ℕ) → Loads h m s p f
loads-is h legal m s e p f =
    let x = live h legal m s e in
    record {
      unbroken = λ z. never-broken x p f (sym (load-refusal x p f) ∙ z);
      below = λ z. rw (tied h legal).holds.vol.geo (below-only x p f (sym (load-refusal x p f) ∙ z));
      loaded = λ z.
          rw (
            last-is p (durable_of h),
            replay-is p (durable_of h),
            last-is p (durable_of h ++ (log_of h).pending),
            replay-is p (durable_of h ++ (log_of h).pending),
          )
          (loaded_bytes x p f (sym (load-refusal x p f) ∙ z));
    }

pub demand2 : Demand2
demand2 = record { inspects = inspects; loads = loads-is }

-- ---- two histories

same_length : (k l m : List Logged) → Begins k m → Begins l m → length k ≡ length l → k ≡ l
same_length k l m b c e = sym (take-append_seam k b.0) ∙ (rw (b.1, ← c.1, e) (take-append_seam l c.0))

-- a number stands in the four bytes before a body
same-four : (n n' : ℕ) (b b' : List ℕ) → n ≤ top_number → n' ≤ top_number → bytes_of 4 n ++ b ≡ bytes_of 4 n' ++ b' → n ≡ n'
same-four n n' b b' h h' e = sym (read_back 4 n b (omega arith)) ∙ (ap (le 4) e ∙ read_back 4 n' b' (omega arith))

-- a list whose pages all have the numbers of another is no longer
no_longer : (P : ℕ) (k l : List Logged) → AllFair P l → ((p : ℕ) → 1 ≤ p → p ≤ P → last_of p k ≡ last_of p l) → length l ≤ length k
no_longer P k l fair same = go (length l) refl
  where
    go : (n : ℕ) → length l ≡ n → n ≤ length k
    go zero e = omega arith
    go (suc n) e =
        let f = fair n (omega arith) in
        let p = (at l n).page in
        let hit : last_of p l ≡ suc n = rw e (last-hit p l n refl) in
        omega (arith, last-le p k (length k), same p f.low f.high)

module _ (h k : History) (lh : Legal h) (lk : Legal k) (same : h.pages ≡ k.pages) (sh : Safe h) (sk : Safe k) (x y : List ℕ)
    (sx : length x ≡ 256) (sy : length y ≡ 256) where
  -- each page with a durable change is shown
  shows-h : (p : ℕ) → 1 ≤ p → p ≤ h.pages → last_of p (durable_of h) ≢ 0
      → (inspection h p x ≡ 0) × (shown h p x ≡ bytes_of 4 (last_of p (durable_of h)) ++ body_of p (durable_of h))
  shows-h p lo hi nz = shows-granted h lh p lo hi x sx nz (λ g. sh g p lo hi)

  shows-k : (p : ℕ) → 1 ≤ p → p ≤ k.pages → last_of p (durable_of k) ≢ 0
      → (inspection k p y ≡ 0) × (shown k p y ≡ bytes_of 4 (last_of p (durable_of k)) ++ body_of p (durable_of k))
  shows-k p lo hi nz = shows-granted k lk p lo hi y sy nz (λ g. sk g p lo hi)

  -- answers that agree have the same number
  same_number : (p : ℕ) → 1 ≤ p → p ≤ h.pages → Agree h k x y p → last_of p (durable_of h) ≡ last_of p (durable_of k)
  same_number p lo hi (inl a) = shows-seven h lh p lo hi x sx a.0 ∙ sym (shows-seven k lk p lo (omega arith) y sy a.1)
  same_number p lo hi (inr a) =
      let nh : last_of p (durable_of h) ≢ 0 = λ z. omega (arith, shows-blank h lh p lo hi x sx z, a.0) in
      let nk : last_of p (durable_of k) ≢ 0 = λ z. omega (arith, shows-blank k lk p lo (omega arith) y sy z, a.1) in
      same-four (last_of p (durable_of h)) (last_of p (durable_of k)) (body_of p (durable_of h)) (body_of p (durable_of k))
      (number_bound h lh p) (number_bound k lk p)
      (sym (shows-h p lo hi nh).1 ∙ (a.2 ∙ (shows-k p lo (omega arith) nk).1))
    where
      number_bound : (h : History) → Legal h → (p : ℕ) → last_of p (durable_of h) ≤ top_number
      number_bound h l p =
          let i = tied h l in
          omega (
            arith,
            last-le p (durable_of h) (length (durable_of h)),
            i.holds.room,
            most-high (present h) (volume-sized (present h) (reached h).volume i.holds.vol),
          )

  -- equal lists agree
  agree : durable_of h ≡ durable_of k → (p : ℕ) → 1 ≤ p → p ≤ h.pages → Agree h k x y p
  agree e p lo hi = elim (ℕ_discrete (last_of p (durable_of h)) 0) [
    | yes z ↦ inl (shows-blank h lh p lo hi x sx z, shows-blank k lk p lo (omega arith) y sy (rw e at z))
    | no z ↦
        let a = shows-h p lo hi z in
        let b = shows-k p lo (omega arith) (rw e at z) in
        inr (a.0, b.0, a.1 ∙ (rw e (sym b.1)))
  ]

  alike : (l : List Logged) → Begins (durable_of h) l → Begins (durable_of k) l → ((p : ℕ) → 1 ≤ p → p ≤ h.pages → Agree h k x y p)
      ↔ (length (durable_of h) ≡ length (durable_of k))
  alike l b c = (
    λ f.
        let nums : (p : ℕ) → 1 ≤ p → p ≤ h.pages → last_of p (durable_of h) ≡ last_of p (durable_of k) =
        λ p lo hi. same_number p lo hi (f p lo hi) in
        omega (
          arith,
          no_longer h.pages (durable_of h) (durable_of k) (rw same (tied k lk).holds.fair) nums,
          no_longer h.pages (durable_of k) (durable_of h) (tied h lh).holds.fair (λ p lo hi. sym (nums p lo hi)),
        ),
    λ e. agree (same_length (durable_of h) (durable_of k) l b c e),
  )

pub demand3 : Demand3
demand3 h k lh lk same sh sk l b c x y sx sy = alike h k lh lk same sh sk x y sx sy l b c

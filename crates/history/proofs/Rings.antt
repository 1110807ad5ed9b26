-- The rings of every legal history: 23 exactly, demand 3 without damage, and the value of `RingClaim`.
use mathlib.Core.Path.{◌≡◌, refl, sym, ap, ◌∙◌}
use mathlib.Core.Logic.{◌≢◌, ◌↔◌}
use mathlib.Core.Bool.{true, false, not}
use mathlib.Core.List.{List, [], ◌∷◌}
use Prim.Native.Nat.{ℕ, zero, suc, ◌-◌, ◌≤◌, ◌<◌}
use native.Mathlib.Omega.{arith}
use native.Mathlib.Decide.{dec_lt, ℕ_discrete}
use lib.ListN.{length, take}
use lib.Seq.{take_all}
use lib.Dec.{eqb, leb}
use borrow.Author.Tests.{eq-eqb, ne_eqb, leb-true, leb-false}
use Rattle.laws.proofs.Tables.{by_cases, and_left, and_right, and_both, true-not-false}
use Rattle.model.specs.Change.{kind_of}
use Rattle.model.specs.Geometry.{page_at, slot_at, item}
use Rattle.model.specs.Item.{image_lsn, valid_image, is_format}
use Rattle.model.specs.Index.{entry_of}
use Rattle.model.specs.Scan.{log_record, durable_count, first_held, index_of}
use Rattle.model.specs.Outcome.{refusal_of}
use Rattle.model.specs.Calls.{load_of}
use Rattle.model.specs.AbstractLog.{last_place, Left, old, new, torn}
use Rattle.model.specs.History.{Power, off, on, Machine, Event, restart, perform, crash, crash_in, damage, is_restamp, step}
use Rattle.model.specs.Claim.{History, Legal, fresh, reached, durable_of, Safe, inspection}
use Rattle.model.specs.RingClaim.{run_start, Unrepairable, is_torn, harmless, undamaged, RingClaim}
use Rattle.model.specs.declared.{item.LogRecord.LogRecord, state.Entry.Entry, state.State.State}
use Rattle.history.specs.Facts.{volume_of, heading_of}
use Rattle.history.proofs.Logs.{at, last_at, last_of, last-le, last-mono, last-take, last-is}
use Rattle.history.proofs.LogScan.{first, started, durable-count, record-read}
use Rattle.history.proofs.Views.{Unserved}
use Rattle.history.proofs.Steps.{tears_noted, harms, unharmed}
use Rattle.history.proofs.Reached.{present, tied, live}
use Rattle.history.proofs.Loads.{below-unserved, loaded-served}
use Rattle.history.proofs.Theorem.{shows-exact, load-refusal, demand2, demand3}
use Rattle.history.proofs.Lost.{run-start-is, lost-spare, displaced-spare, plain-safe, undamaged-safe}
use Rattle.history.proofs.Overwritten.{record-free, note-free}

-- ---- 23

module _ (h : History) (legal : Legal h) where
  heading : heading_of h ≡ present h
  heading = (tied h legal).holds.vol.geo

  count-is : durable_count (heading_of h) (volume_of h) ≡ length (durable_of h)
  count-is = let i = tied h legal in
      rw heading (durable-count (present h) (volume_of h) (durable_of h) i.holds i.ns i.noted)

  start : ℕ
  start = let i = tied h legal in first (present h) (volume_of h) (durable_of h) i.holds i.ns i.noted

  start_is : run_start (volume_of h) ≡ suc start
  unfolding start
  start_is = let i = tied h legal in run-start-is (present h) (volume_of h) (durable_of h) i.holds i.ns i.noted

  held-is : first_held (heading_of h) (volume_of h) (length (durable_of h)) ≡ suc start
  held-is = rw count-is at start_is

  start-in : 1 ≤ length (durable_of h) → start ≤ length (durable_of h)
  unfolding start
  start-in = let i = tied h legal in (started (present h) (volume_of h) (durable_of h) i.holds i.ns i.noted).inside

  -- record j + 1 of the run, as it is read
  record_is : (j : ℕ) → j < length (durable_of h) → start ≤ j
      → ((log_record (heading_of h) (volume_of h) (suc j)).page ≡ (at (durable_of h) j).page)
      × (is_format (log_record (heading_of h) (volume_of h) (suc j)) ≡ eqb (kind_of (at (durable_of h) j).change) 1)
  unfolding start
  record_is j b f =
      let i = tied h legal in
      let r = record-read (present h) (volume_of h) (durable_of h) i.holds i.ns i.noted j b f in
      rw heading (ap (λ (y : LogRecord). y.page) r, ap is_format r)

  -- the entry of page p and the two images that it and its place name
  module _ (p : ℕ) where
    abbrev entry : Entry
    entry = entry_of (index_of (heading_of h) (volume_of h)) p

    abbrev copy : List ℕ
    copy = item (heading_of h) (volume_of h) (slot_at entry.slot)

    abbrev own : List ℕ
    own = item (heading_of h) (volume_of h) (page_at p)

    abbrev Lost : Type 0
    Lost = Unserved (heading_of h) (volume_of h) (durable_of h) entry p start

    lost-at : 1 ≤ length (durable_of h) → last_place p (take (run_start (volume_of h) - 1) (durable_of h)) ≡ last_at p (durable_of h) start
    lost-at some =
        let e : run_start (volume_of h) - 1 ≡ start = omega (arith, start_is) in
        rw e (last-take p (durable_of h) start (start-in some))

    unrepairable : 1 ≤ length (durable_of h) → Lost → (n : ℕ) × Unrepairable h p n
    unrepairable some u = (
      suc u.0,
      record {
        some = omega arith;
        lost = lost-at some ∙ u.1;
        copy = λ nz t e. true-not-false
            (and_both {a = not (eqb entry.slot 0)} (rw (ne_eqb entry.slot 0 nz) refl)
            (and_both t (eq-eqb (image_lsn copy) entry.backup e))) u.2;
        own = λ t. leb-false (suc u.0) (image_lsn own) (rw t at u.3);
        format = λ i lo hi e. read i lo hi e;
      },
    )
      where
        read : (i : ℕ) → run_start (volume_of h) ≤ i → i ≤ durable_count (heading_of h) (volume_of h)
            → (log_record (heading_of h) (volume_of h) i).page ≡ p → is_format (log_record (heading_of h) (volume_of h) i) ≡ false
        read zero lo hi e = absurd (omega (arith, lo, start_is))
        read (suc j) lo hi e =
            let b : j < length (durable_of h) = omega (arith, hi, count-is) in
            let f : start ≤ j = omega (arith, lo, start_is) in
            let r = record_is j b f in
            r.1 ∙ u.4 j f b (sym r.0 ∙ e)

    unserved : 1 ≤ length (durable_of h) → (n : ℕ) → Unrepairable h p n → Lost
    unserved some zero u = absurd (omega (arith, u.some))
    unserved some (suc z) u = (
      z,
      sym (lost-at some) ∙ u.lost,
      by_cases (eqb entry.slot 0)
          (λ t. rw t)
          (λ t. rw t (by_cases (valid_image (heading_of h) p copy)
          (λ a. rw a (ne_eqb (image_lsn copy) entry.backup (u.copy (λ e. true-not-false (eq-eqb entry.slot 0 e) t) a)))
          (λ a. rw a))),
      by_cases (valid_image (heading_of h) p own)
          (λ a. rw a (by_cases (leb (suc z) (image_lsn own))
          (λ c. absurd (let l : suc z ≤ image_lsn own = leb-true (suc z) (image_lsn own) c in omega (arith, u.own a)))
          (λ c. c)))
          (λ a. rw a),
      λ j f b e.
          let r = record_is j b f in
          sym r.1 ∙ u.format (suc j) (omega (arith, start_is)) (omega (arith, count-is)) (r.0 ∙ e),
    )

    -- a page that cannot be rebuilt has a durable change
    never-blank : (n : ℕ) → Unrepairable h p n → last_place p (durable_of h) ≢ 0
    never-blank n u z = omega (arith, u.some, at_most (run_start (volume_of h) - 1), u.lost)
      where
        at_most : (m : ℕ) → last_place p (take m (durable_of h)) ≤ 0
        at_most m =
            let d = durable_of h in
            let e : last_of p (durable_of h) ≡ 0 = sym (last-is p (durable_of h)) ∙ z in
            elim (dec_lt m (length (durable_of h))) [
              | yes y ↦
                  let a : last_place p (take m (durable_of h)) ≡ last_at p (durable_of h) m = last-take p (durable_of h) m (omega arith) in
                  omega (arith, a, last-mono p (durable_of h) (length (durable_of h)) m (omega arith))
              | no y ↦
                  let a : take m (durable_of h) ≡ durable_of h = take_all m (durable_of h) (omega arith) in
                  rw (a, z) (omega arith)
            ]

    -- a page with a durable change: there is one
    some-change : last_place p (durable_of h) ≢ 0 → 1 ≤ length (durable_of h)
    some-change nz =
        let l : last_place p (durable_of h) ≤ length (durable_of h) =
        rw (last-is p (durable_of h)) (last-le p (durable_of h) (length (durable_of h))) in
        omega arith

    inspects : 1 ≤ p → p ≤ h.pages → (buffer : List ℕ) → length buffer ≡ 256
        → (inspection h p buffer ≡ 23) ↔ ((n : ℕ) × Unrepairable h p n)
    inspects lo hi buffer size = (
      λ e. elim (ℕ_discrete (last_place p (durable_of h)) 0) [
        | yes z ↦ absurd (omega (arith, e, (demand2.inspects h legal p lo hi buffer size).blank.1 z))
        | no nz ↦ unrepairable (some-change nz) ((shows-exact h legal p lo hi buffer size nz start held-is).0 e)
      ],
      λ u.
          let nz = never-blank u.0 u.1 in
          (shows-exact h legal p lo hi buffer size nz start held-is).1 (unserved (some-change nz) u.0 u.1),
    )

    -- of the machine that is on
    module _ (m : List ℕ) (s : State) (e : (reached h).power ≡ on m s) (f : ℕ) where
      live-start : let x = live h legal m s e in
          first (present h) (volume_of h) (durable_of h) x.hs x.ns x.no ≡ start
      live-start =
          let x = live h legal m s e in
          omega (arith, run-start-is (present h) (volume_of h) (durable_of h) x.hs x.ns x.no, start_is)

      loads : (refusal_of (load_of (volume_of h) m s p f).answer ≡ 23 → (n : ℕ) × Unrepairable h p n)
          × ((n : ℕ) → Unrepairable h p n → refusal_of (load_of (volume_of h) m s p f).answer ≢ 0)
      loads =
          let x = live h legal m s e in (
            λ z.
                let u = below-unserved x p f (sym (load-refusal x p f) ∙ z) in
                unrepairable u.0 (rw (heading, ← live-start) u.1),
            λ n u z.
                loaded-served x p f (sym (load-refusal x p f) ∙ z)
                (rw (heading, ← live-start) at (unserved (some-change (never-blank n u)) n u)),
          )

-- ---- without damage

unharmed-is : (w : Machine) (es : List Event) → undamaged es ≡ true → unharmed w es ≡ true
unharmed-is w [] t = refl
unharmed-is w (e ∷ es) t =
    and_both (one e (and_left (harmless e) (undamaged es) t)) (unharmed-is (step w e) es (and_right (harmless e) (undamaged es) t))
  where
    whole : (x : Power) (l : Left) → is_torn l ≡ false → tears_noted x w.volume l ≡ false
    whole off l t = refl
    whole (on m s) old t = refl
    whole (on m s) new t = refl
    whole (on m s) (torn xs) t = absurd (true-not-false refl t)

    one : (e : Event) → harmless e ≡ true → not (harms w e) ≡ true
    one (restart m) t = refl
    one (perform c) t = refl
    one crash t = refl
    one (crash_in c l) t = by_cases (is_restamp c)
        (λ r. rw r (by_cases (is_torn l)
        (λ o. absurd (true-not-false t (rw (r, o) refl)))
        (λ o. rw (whole w.power l o) refl)))
        (λ r. rw r refl)
    one (damage at xs) t = absurd (true-not-false t refl)

safe : (h : History) → Legal h → undamaged h.events ≡ true → Safe h
safe h legal t = undamaged-safe h legal (unharmed-is (fresh h) h.events t)

pub rings : RingClaim
rings =
    record {
      lost = lost-spare;
      displaced = displaced-spare;
      records = λ h legal m s e. record-free (live h legal m s e);
      notes = λ h legal m s e. note-free (live h legal m s e);
      inspects = λ h legal p lo hi buffer size. inspects h legal p lo hi buffer size;
      loads = λ h legal m s e p f. loads h legal p m s e f;
      plain = λ h legal t. plain-safe h legal (rw (tied h legal).holds.vol.geo at t);
      safe = safe;
      demand3 = λ h k lh lk same uh uk. demand3 h k lh lk same (safe h lh uh) (safe k lk uk);
    }

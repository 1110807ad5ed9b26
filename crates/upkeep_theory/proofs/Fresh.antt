-- T2's invariant at Make, and so in every machine that a kept history reaches.
use mathlib.Core.Path.{◌≡◌, refl, subst}
use mathlib.Core.Logic.{◌⊎◌}
use mathlib.Core.Bool.{true, false, ◌&&◌, and-false}
use mathlib.Core.List.{[]}
use Prim.Native.Nat.{ℕ, suc, ◌+◌, ◌-◌, ◌/◌, ◌≤◌}
use native.Mathlib.Omega.{arith}
use lib.Dec.{eqb, ltb}
use lib.ListN.{length, replicate}
use borrow.Author.Tests.{ltb-true, le-ltb, le-leb}
use Rattle.laws.proofs.Tables.{by_cases, and_left, and_both}
use Rattle.laws.proofs.Zeros.{zero-fails}
use Rattle.laws.proofs.EmptyVolume.{empty-item}
use Rattle.laws.proofs.Ring.{slot-in}
use Rattle.model.specs.Geometry.{tag_of, ring, valid_counts, length_for, empty_volume, item, note_at, slot_of, note_slot}
use Rattle.model.specs.Refusals.{make_rows}
use Rattle.model.specs.Restart.{make_of, restart_state}
use Rattle.model.specs.AbstractLog.{empty_log}
use Rattle.model.specs.State.{note_needed}
use Rattle.model.specs.History.{fresh_machine, all_allowed, run, log_after}
use Rattle.model.specs.Carry.{starts_in}
use Rattle.model.specs.Claim.{History, Legal, fresh, reached, log_of}
use Rattle.model.specs.declared.{geometry.Geometry.Geometry, geometry.Heading.TheVariants.Second}
use Rattle.history.proofs.Inv.{Inv}
use Rattle.history.proofs.LogScan.{durable-count}
use Rattle.history.proofs.Reached.{Undamaged, made_with, tied, uncarried}
use Rattle.upkeep_policy.specs.Upkeep.{note_ahead, log_ahead}
use Rattle.upkeep_theory.proofs.Followed.{Followed}
use Rattle.upkeep_theory.proofs.Tidy.{Tidy, idle}
use Rattle.upkeep_theory.proofs.Along.{FollowedAt, along}
use Rattle.model.specs.Types.{None}

-- the history before its events
abbrev begun : History → History
begun h =
    record {
      heading = h.heading;
      found = h.found;
      pages = h.pages;
      slots = h.slots;
      records = h.records;
      notes = h.notes;
      events = [];
    }

module _ (h : History) (legal : Legal h) (second : h.heading ≡ Second) (l2 : 2 ≤ h.records) (n2 : 2 ≤ h.notes) where
  abbrev g : Geometry
  g = made_with h

  legal0 : Legal (begun h)
  unfolding all_allowed
  legal0 = record { make = legal.make; events = refl }

  -- the invariant of the history crate at Make, without its clause on damage
  inv0 : Inv ⊥ g (fresh h).volume (fresh h).past (fresh h).power empty_log
  unfolding reached log_of run log_after fresh_machine
  inv0 =
      let i = tied (begun h) legal0 in
      let e = uncarried (begun h) legal0 refl in
      let i' : Inv (Undamaged (begun h)) g (fresh h).volume (fresh h).past (fresh h).power empty_log =
      subst (λ (y : Geometry). Inv (Undamaged (begun h)) y (fresh h).volume (fresh h).past (fresh h).power empty_log)
      e i in
      record {
        ns = i'.ns;
        holds = i'.holds;
        noted = record {
          few = i'.noted.few;
          run = i'.noted.run;
          notes = i'.noted.notes;
          tail = i'.noted.tail;
          fit = i'.noted.fit;
          backups = i'.noted.backups;
          copies = λ c. absurd c;
        };
        past-ok = i'.past-ok;
        live = tt;
      }

  -- every note slot is zeros
  made-volume : ((fresh h).volume ≡ empty_volume h.heading h.pages h.slots h.records h.notes)
      × (valid_counts h.pages h.slots h.records h.notes ≡ true)
  unfolding make_of make_rows fresh_machine
  made-volume = by_cases (valid_counts h.pages h.slots h.records h.notes
      && eqb (length h.found) (length_for h.pages h.slots h.records h.notes))
      (λ t. (rw t, and_left (valid_counts h.pages h.slots h.records h.notes) _ t))
      (λ t. absurd (let z : 1 ≡ 0 = rw t at legal.make in omega arith))

  no-note-needed : (k j : ℕ) → note_needed g (fresh h).volume k (suc j) ≡ false
  unfolding note_needed
  no-note-needed k j =
      let q = slot-in h.notes j (omega arith) in
      let e : item g (fresh h).volume (note_slot g (suc j)) ≡ replicate 16 0 =
      rw made-volume.0 (empty-item h.heading h.pages h.slots h.records h.notes g refl refl refl refl
      (note_at (slot_of h.notes (suc j))) q) in
      rw (e, zero-fails 12 16 (omega arith))

  none-durable : (restart_state (fresh h).volume).durable ≡ 0
  unfolding restart_state
  none-durable =
      let i = inv0 in
      rw i.holds.vol.geo (durable-count g (fresh h).volume [] i.holds i.ns i.noted)

  rests : ((restart_state (fresh h).volume).note ≡ None) × ((restart_state (fresh h).volume).pending ≡ 0)
  unfolding restart_state
  rests = (refl, refl)

  tidy0 : Tidy g (fresh h).volume (restart_state (fresh h).volume) 0
  unfolding note_ahead log_ahead
  tidy0 =
      let v = (fresh h).volume in
      let s = restart_state v in
      let d : s.durable ≡ 0 = none-durable in
      let na : (i : ℕ) → note_ahead g v s i ≡ false = λ i. by_cases (ltb g.notes (s.notes + i))
      (λ t.
      let q : s.notes + i - g.notes ≡ suc (s.notes + i - g.notes - 1) =
      omega (arith, ltb-true g.notes (s.notes + i) t) in
      rw (q, no-note-needed s.notes (s.notes + i - g.notes - 1)) (and-false (ltb g.notes (s.notes + i))))
      (λ t. rw t) in
      (idle g v s rests.0 rests.1 l2 n2 (na 1) (na 2)
      (λ i a b. rw (le-ltb g.records (s.durable + i) (omega arith))) 0).tidy

  pub turns : ring g ≡ true
  turns = let t : eqb (tag_of h.heading) 0x32 ≡ true = rw second in and_both t (le-leb 2 h.records l2)

  -- in every machine that a kept history reaches
  pub followed-tidy : (r W C : ℕ) → h.pages + W + 2 ≤ h.notes → (W ≡ 0) ⊎ (W + C ≤ h.records / 2)
      → starts_in h.events ≡ false
      → Followed r W C (fresh h) 0 h.events → FollowedAt (made_with h) r W C (reached h) (log_of h)
  unfolding reached log_of fresh_machine
  followed-tidy r W C room reserves z k =
      along g turns n2 r W C room reserves h.events (fresh h) empty_log 0 inv0 tidy0 legal.events z k

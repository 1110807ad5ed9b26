-- Every call but Force and Note keeps a well-formed state well formed.
use mathlib.Core.Path.{◌≡◌, refl}
use mathlib.Core.Logic.{◌≢◌}
use mathlib.Core.Bool.{true, false, ◌&&◌, not}
use mathlib.Core.List.{List, [], ◌∷◌}
use Prim.Native.Nat.{ℕ, ◌-◌, ◌≤◌}
use native.Mathlib.Omega.{arith}
use lib.Dec.{eqb, ltb}
use lib.ListN.{length}
use borrow.Author.Tests.{ltb-false, eqb-true, eqb-false, not-false}
use Rattle.laws.proofs.Tables.{none-at, by_cases, within-bounds, true-not-false}
use Rattle.laws.proofs.Places.{valid-facts}
use Rattle.laws.proofs.WellFormed.{Ready, ready, ready-behind}
use Rattle.laws.proofs.Frames.{not-held, row_fits}
use Rattle.laws.proofs.Decided.{geometry_with, geometry-after, either}
use Rattle.laws.proofs.Headings.{headed-tag, no-ring}
use Rattle.laws.proofs.FormedTags.{formed-tag}
use Rattle.laws.proofs.Demand1.{call-keeps}
use Rattle.laws.proofs.FormedStates.{Good, unblocked, at_low, at-within, at_place, at-page, at-alone}
use Rattle.laws.proofs.FormedStates.{appended-good, framed-good, emptied-good, next_fits, noted-good}
use Rattle.model.specs.Tables.{Row, first_of, within}
use Rattle.model.specs.Geometry.{tag_of, carry_tag, headed, geometry_of}
use Rattle.model.specs.Change.{fits}
use Rattle.model.specs.Item.{image_lsn, note_layout}
use Rattle.model.specs.Index.{entry_of, slot_used}
use Rattle.model.specs.Passes.{image_count, first_old, old_left}
use Rattle.model.specs.State.{frame_count, frame_bytes, holder, held, blank, log_full, notes_full, note_pending, well_formed}
use Rattle.model.specs.Refusals.{frame_blocked, page_dirty, begin_rows, load_rows, change_rows, write_rows, backup_rows}
use Rattle.model.specs.Refusals.{release_rows, start_carry_rows, restamp_rows, finish_carry_rows}
use Rattle.laws.proofs.Conditions.{not_durable, chain_broken, chain_below}
use Rattle.model.specs.Outcome.{new_heading, Outcome, decided}
use Rattle.model.specs.Effects.{backup_done, begin_done, change_done, load_done, release_done, restamp_done, write_outcome}
use Rattle.model.specs.Calls.{begin_of, load_of, change_call, write_of, backup_of, release_of, start_carry_of, restamp_of}
use Rattle.model.specs.Calls.{finish_carry_of, Call, outcome_of}
use Rattle.model.specs.declared.{geometry.Geometry.Geometry, change.Change.Change, state.State.State}
use Rattle.model.specs.declared.command.Command.TheVariants.{Begin, Load, Force, Write, Release, StartCarry, Restamp, FinishCarry}
use Rattle.model.specs.declared.geometry.Heading.TheVariants.{First, Second}
use Rattle.model.specs.declared.command.Command.TheVariants.{Change as ChangeCall, Backup, Note}
use Rattle.model.specs.Demand1.{Arrays}
use Rattle.model.specs.WellFormed.{enters_index, KeepsWellFormed}

-- of an outcome, by the geometry that it leaves
record Stays (g : Geometry) (frames : ℕ) (o : Outcome) : Type 0 where
  good : Good (geometry_with g o.stored) frames o.state

-- a call by its table
stays_by : (g : Geometry) (frames : ℕ) (rows : List Row) (m : List ℕ) (s : State) (done : Outcome) → Good g frames s
    → (first_of rows ≡ 0 → Good (geometry_with g done.stored) frames done.state)
    → Stays g frames (decided rows m s done)
unfolding decided
stays_by g frames rows m s done a b = record { good = by_cases (eqb (first_of rows) 0) (λ t. rw t (b (eqb-true _ _ t))) (λ t. rw t a) }

-- ---- the calls

module _ (v m : List ℕ) (s : State) (a : Arrays s) (ok : well_formed (geometry_of v) (frame_count (length m)) s ≡ true) where
  abbrev StaysHere : Outcome → Type 0
  StaysHere o = Stays (geometry_of v) (frame_count (length m)) o

  same_good : Good (geometry_of v) (frame_count (length m)) s
  same_good = record { arrays = a; state = ok }

  -- the rows of a call after 1 and 2, in which none holds
  begin-stays : (page f fill : ℕ) → StaysHere (begin_of v m s page f fill)
  unfolding decided begin_done begin_rows
  begin-stays page f fill = stays_by (geometry_of v) (frame_count (length m)) (begin_rows v m s page f) m s _ same_good (λ h.
      let gv = geometry_of v in
      let rest : List Row = (not (within gv.pages page), 3) ∷ (not (within (frame_count (length m)) f), 4) ∷ (not (blank s page), 9)
      ∷ (frame_blocked s f, 10) ∷ (eqb s.pending 16, 11) ∷ (log_full gv v s, 12) ∷ [] in
      let r = ready v m s rest h in
      let none = none-at rest (
        eqb-false 3 0 refl,
        (eqb-false 4 0 refl, (eqb-false 9 0 refl, (eqb-false 10 0 refl, (eqb-false 11 0 refl, (eqb-false 12 0 refl, tt))))),
      ) r.rest in
      let w = within-bounds gv.pages page (not-false _ (none 0)) in
      let u = within-bounds (frame_count (length m)) f (not-false _ (none 1)) in
      let z : (entry_of s.index page).last ≡ 0 = eqb-true (entry_of s.index page).last 0 (not-false _ (none 2)) in
      appended-good v m s a rest r page f w.0 w.1 u.0 u.1
      (λ i l ne e. (row_fits gv (frame_count (length m)) s i (r.state.table i l)).some (λ q. omega (arith, w.0)) (rw e z))
      (λ nz ne. unblocked v m s a rest r f u.0 u.1 (none 3) nz) (none 4) (none 5))

  load-stays : (page f : ℕ) → StaysHere (load_of v m s page f)
  unfolding decided load_done load_rows
  load-stays page f = stays_by (geometry_of v) (frame_count (length m)) (load_rows v m s page f) m s _ same_good (λ h.
      let gv = geometry_of v in
      let rest : List Row = (not (within gv.pages page), 3) ∷ (not (within (frame_count (length m)) f), 4)
      ∷ (blank s page, 7) ∷ (held s page, 9)
      ∷ (frame_blocked s f, 10) ∷ (chain_broken gv v s page, 19) ∷ (chain_below gv v s page, 23) ∷ [] in
      let r = ready v m s rest h in
      let none = none-at rest (
        eqb-false 3 0 refl,
        (
          eqb-false 4 0 refl,
          (eqb-false 7 0 refl, (eqb-false 9 0 refl, (eqb-false 10 0 refl, (eqb-false 19 0 refl, (eqb-false 23 0 refl, tt))))),
        ),
      ) r.rest in
      let w = within-bounds gv.pages page (not-false _ (none 0)) in
      let u = within-bounds (frame_count (length m)) f (not-false _ (none 1)) in
      framed-good v m s a rest r page f w.0 w.1 u.0 u.1 (λ i l ne. not-held s page (none 3) i (omega (arith, a.frames)))
      (λ nz ne. unblocked v m s a rest r f u.0 u.1 (none 4) nz) _ s.note (eqb-false _ _ (none 2)) r.state.note)

  change-stays : (page : ℕ) (c : Change) (payload : List ℕ) → StaysHere (change_call v m s page c payload)
  unfolding decided change_done change_rows
  change-stays page c payload = stays_by (geometry_of v) (frame_count (length m)) (change_rows v m s page c) m s _ same_good (λ h.
      let gv = geometry_of v in
      let rest : List Row = (not (within gv.pages page), 3) ∷ (not (fits c), 6) ∷ (not (held s page), 8) ∷ (eqb s.pending 16, 11)
      ∷ (log_full gv v s, 12) ∷ [] in
      let r = ready v m s rest h in
      let none = none-at rest
      (eqb-false 3 0 refl, (eqb-false 6 0 refl, (eqb-false 8 0 refl, (eqb-false 11 0 refl, (eqb-false 12 0 refl, tt))))) r.rest in
      let w = within-bounds gv.pages page (not-false _ (none 0)) in
      let t = not-false (held s page) (none 2) in
      appended-good v m s a rest r page (holder s page) w.0 w.1 (at_low v m s a rest r page w.0 t)
      (at-within v m s a rest r page w.0 t) (at-alone v m s a rest r page w.0 t)
      (λ nz ne. absurd (ne (at-page v m s a rest r page w.0 t))) (none 3) (none 4))

  write-stays : (page : ℕ) → StaysHere (write_of v m s page)
  unfolding decided write_outcome write_rows note_layout
  write-stays page = stays_by (geometry_of v) (frame_count (length m)) (write_rows v m s page) m s _ same_good (λ h.
      let gv = geometry_of v in
      let d = page_dirty s page in
      let rest : List Row = (not (within gv.pages page), 3) ∷ (not (held s page), 8) ∷ (d && note_pending s.note, 13)
      ∷ (d && notes_full gv v s, 14) ∷ (d && not_durable m s page, 15) ∷ [] in
      let r = ready v m s rest h in
      let none = none-at rest
      (eqb-false 3 0 refl, (eqb-false 8 0 refl, (eqb-false 13 0 refl, (eqb-false 14 0 refl, (eqb-false 15 0 refl, tt))))) r.rest in
      let w = within-bounds gv.pages page (not-false _ (none 0)) in
      let t = not-false (held s page) (none 1) in
      let lo = at_low v m s a rest r page w.0 t in
      let pg = at-page v m s a rest r page w.0 t in
      either (page_dirty s page) _ _ (λ o. Good (geometry_with (geometry_of v) o.stored) (frame_count (length m)) o.state)
      (λ y. framed-good v m s a rest r page (holder s page) w.0 w.1 lo (at-within v m s a rest r page w.0 t)
      (at-alone v m s a rest r page w.0 t)
      (λ nz ne. absurd (ne pg)) false _ (some rest r page w.0 t)
      (next_fits v m s a rest r page 1 0 (image_lsn (frame_bytes m (holder s page))) w.0 w.1 (rw y at (none 3))
      (ltb-false _ _ (rw y at (none 4))) refl refl))
      (λ y. same_good))
    where
      some : (rest : List Row) (r : Ready v m s rest) (p : ℕ) (lo : 1 ≤ p) (t : held s p ≡ true) → (entry_of s.index p).last ≢ 0
      some rest r p lo t z =
          let pg = at-page v m s a rest r p lo t in
          (row_fits (geometry_of v) (frame_count (length m)) s (holder s p - 1)
          (r.state.table (holder s p - 1) (at_place v m s a rest r p lo t))).some (λ q. omega arith) (rw pg z)

  backup-stays : (page slot : ℕ) → StaysHere (backup_of v m s page slot)
  unfolding decided backup_done backup_rows note_layout
  backup-stays page slot = stays_by (geometry_of v) (frame_count (length m)) (backup_rows v m s page slot) m s _ same_good (λ h.
      let gv = geometry_of v in
      let rest : List Row = (not (within gv.pages page), 3) ∷ (not (within gv.slots slot), 5) ∷ (not (held s page), 8)
      ∷ (note_pending s.note, 13)
      ∷ (notes_full gv v s, 14) ∷ (not_durable m s page, 15) ∷ (slot_used slot s.index, 16) ∷ [] in
      let r = ready v m s rest h in
      let none = none-at rest (
        eqb-false 3 0 refl,
        (
          eqb-false 5 0 refl,
          (eqb-false 8 0 refl, (eqb-false 13 0 refl, (eqb-false 14 0 refl, (eqb-false 15 0 refl, (eqb-false 16 0 refl, tt))))),
        ),
      ) r.rest in
      let w = within-bounds gv.pages page (not-false _ (none 0)) in
      noted-good v m s a rest r _
      (next_fits v m s a rest r page 2 slot (image_lsn (frame_bytes m (holder s page))) w.0 w.1 (none 4) (ltb-false _ _ (none 5)) refl
      (not-false _ (none 1))))

  release-stays : (page : ℕ) → StaysHere (release_of v m s page)
  unfolding decided release_done release_rows
  release-stays page = stays_by (geometry_of v) (frame_count (length m)) (release_rows v m s page) m s _ same_good (λ h.
      let gv = geometry_of v in
      let rest : List Row = (not (within gv.pages page), 3) ∷ (not (held s page), 8) ∷ (frame_blocked s (holder s page), 10) ∷ [] in
      let r = ready v m s rest h in
      let none = none-at rest (eqb-false 3 0 refl, (eqb-false 8 0 refl, (eqb-false 10 0 refl, tt))) r.rest in
      let w = within-bounds gv.pages page (not-false _ (none 0)) in
      let t = not-false (held s page) (none 1) in
      emptied-good v m s a rest r (holder s page) (at_low v m s a rest r page w.0 t) (at-within v m s a rest r page w.0 t) (none 2))

  -- a heading stored where there is no ring
  headed-good : (old tag : ℕ) (rest : List Row) → eqb old (tag_of Second) ≡ false → headed old v ≡ true → Ready v m s rest
      → Good (geometry_with (geometry_of v) (new_heading tag)) (frame_count (length m)) s
  headed-good old tag rest ne h r =
      let f = valid-facts v r.volume in
      let e : eqb (geometry_of v).tag (tag_of Second) ≡ false = rw (headed-tag old v h) ne in
      record {
        arrays = a;
        state = formed-tag (geometry_of v) (no-ring (geometry_of v) e) f.l-high f.n-high tag (frame_count (length m)) s ok;
      }

  start-stays : StaysHere (start_carry_of v m s)
  unfolding decided start_carry_rows
  start-stays = stays_by (geometry_of v) (frame_count (length m)) (start_carry_rows v m s) m s _ same_good (λ h.
      let r = ready-behind (not (headed (tag_of First) v)) v m s [] h in
      headed-good (tag_of First) carry_tag [] refl (not-false _ r.0) r.1)

  restamp-stays : StaysHere (restamp_of v m s)
  unfolding decided restamp_done
  restamp-stays = stays_by (geometry_of v) (frame_count (length m)) (restamp_rows v m s) m s _ same_good (λ h.
      either (ltb (first_old (geometry_of v) v s.index) (image_count (geometry_of v))) _ _
      (λ o. Good (geometry_with (geometry_of v) o.stored) (frame_count (length m)) o.state)
      (λ y. same_good) (λ y. same_good))

  finish-stays : StaysHere (finish_carry_of v m s)
  unfolding decided finish_carry_rows
  finish-stays = stays_by (geometry_of v) (frame_count (length m)) (finish_carry_rows v m s) m s _ same_good (λ h.
      let rest : List Row = (old_left (geometry_of v) v s.index, 20) ∷ [] in
      let r = ready-behind (not (headed carry_tag v)) v m s rest h in
      headed-good carry_tag (tag_of Second) rest refl (not-false _ r.0) r.1)

  call_stays : (c : Call) → enters_index c ≡ false → StaysHere (outcome_of c v m s)
  call_stays (Begin page f fill, _) n = begin-stays page f fill
  call_stays (Load page f, _) n = load-stays page f
  call_stays (ChangeCall page c, payload) n = change-stays page c payload
  call_stays (Force, _) n = absurd (true-not-false refl n)
  call_stays (Write page, _) n = write-stays page
  call_stays (Backup page slot, _) n = backup-stays page slot
  call_stays (Release page, _) n = release-stays page
  call_stays (Note, _) n = absurd (true-not-false refl n)
  call_stays (StartCarry, _) n = start-stays
  call_stays (Restamp, _) n = restamp-stays
  call_stays (FinishCarry, _) n = finish-stays

pub keeps-well-formed : KeepsWellFormed
keeps-well-formed c n v m s a ok =
    let x = (call_stays v m s a ok c n).good in
    record { arrays = x.arrays; state = rw (geometry-after v (outcome_of c v m s).stored (call-keeps c v m s a).stored) x.state }

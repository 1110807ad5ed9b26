-- T4: where the invariant holds upkeep is stuck for one reason alone: the page to be renewed is in no frame, and its
-- Load is 23.
use mathlib.Core.Path.{◌≡◌, refl, sym, ap, ◌∙◌}
use mathlib.Core.Logic.{◌≢◌, ◌⊎◌, ⊎_elim}
use mathlib.Core.Bool.{Bool, true, false, ◌&&◌, not, and-false}
use mathlib.Core.List.{List}
use Prim.Native.Nat.{ℕ, suc, ◌+◌, ◌-◌, ◌≤◌, ◌<◌}
use native.Mathlib.Omega.{arith}
use lib.Dec.{eqb, leb, ltb}
use lib.ListN.{length}
use borrow.Author.Tests.{eqb-true, leb-true, ltb-false, le-ltb, lt-leb, ne_eqb, not-true, eq-eqb}
use Rattle.laws.proofs.Tables.{by_cases, and_right, every-at, true-not-false}
use Rattle.laws.proofs.Search.{first-from}
use Rattle.model.specs.Tables.{first_of, every}
use Rattle.model.specs.Geometry.{ring, top_number, geometry_of}
use Rattle.model.specs.Item.{is_written}
use Rattle.model.specs.Index.{entry_of}
use Rattle.model.specs.Scan.{note_record}
use Rattle.model.specs.State.{frame_count, log_full, notes_full, note_pending, held, note_needed, note_whole, note_like}
use Rattle.model.specs.State.{record_needed}
use Rattle.model.specs.Refusals.{page_dirty, load_rows}
use Rattle.model.specs.Outcome.{StoredItem, refusal_of}
use Rattle.model.specs.Calls.{Call, load_of, no_payload}
use Rattle.model.specs.declared.{geometry.Geometry.Geometry, item.Note.Note, state.Entry.Entry, state.State.State}
use Rattle.model.specs.declared.command.Command.TheVariants.{Load, Force, Write}
use Rattle.model.specs.declared.command.Command.TheVariants.{Backup, Note as NoteCall}
use Rattle.model.specs.AbstractLog.{Logged}
use Rattle.model.specs.Carry.{count_of}
use Rattle.history.proofs.Marks.{note as note', mark_at}
use Rattle.history.proofs.Context.{Ctx, sized, geo, entry-is}
use Rattle.history.proofs.Refusals.{call-refusal}
use Rattle.history.proofs.WellFormed.{state-ok}
use Rattle.upkeep_policy.specs.Upkeep.{idle, stuck, make, reserve, note_position, note_ahead, first_needed_note}
use Rattle.upkeep_policy.specs.Upkeep.{first_needed_log, no_slot, free_slot, refresh, renew, upkeep_of}
use Rattle.upkeep_theory.proofs.Slots.{slot-left}
use Rattle.upkeep_theory.proofs.NotesTidy.{NotesTidy, alike-holds}
use Rattle.upkeep_theory.proofs.Near.{wrote_in, stands-whole, wrote-note, since-room}
use Rattle.upkeep_theory.proofs.Tidy.{Tidy, since_written}
use Rattle.upkeep_theory.proofs.Step.{place2, needs-second, note-came, not-busy}

-- ---- the advice

no-make : {A : Type 0} (c : Call) (q : ℕ) → make c ≡ stuck q → A
no-make c q e = let z : ◌≡◌ {A = ℕ} 0 1 = cc in absurd (omega arith)

no-idle : {A : Type 0} (q : ℕ) → idle ≡ stuck q → A
no-idle q e = let z : ◌≡◌ {A = ℕ} 0 1 = cc in absurd (omega arith)

the_page : (p q : ℕ) → stuck p ≡ stuck q → q ≡ p
the_page p q e = cc

pub record Lost (v m : List ℕ) (s : State) (r q : ℕ) : Type 0 where
  pub away : held s q ≡ false
  pub below : first_of (load_rows v m s q r) ≡ 23

renew-stuck : (v m : List ℕ) (s : State) (r p : ℕ) (written : Bool) (q : ℕ) → renew v m s r p written ≡ stuck q
    → notes_full (geometry_of v) v s ≡ false → no_slot (geometry_of v) s ≡ false
    → (written ≡ true → held s p ≡ true → page_dirty s p ≡ false → log_full (geometry_of v) v s ≡ false) → Lost v m s r q
unfolding renew
renew-stuck v m s r p written q e nf ns lf =
    let g = geometry_of v in
    by_cases (held s p)
    (λ h. by_cases written
    (λ t. by_cases (page_dirty s p)
    (λ d. no-make (Write p, no_payload) q (rw (h, t, d, nf) at e))
    (λ d. no-make (refresh m s p) q (rw (h, t, d, lf t h d) at e)))
    (λ t. no-make (Backup p (free_slot g s), no_payload) q (rw (h, t, ns, nf) at e)))
    (λ h. by_cases (eqb (first_of (load_rows v m s p r)) 23)
    (λ f. let z : q ≡ p = the_page p q (rw (h, f) at e) in
    rw z (record { away = h; below = eqb-true (first_of (load_rows v m s p r)) 23 f }))
    (λ f. no-make (Load p r, no_payload) q (rw (h, f) at e)))

upkeep-stuck : (v m : List ℕ) (s : State) (r q : ℕ) → upkeep_of v m s r ≡ stuck q
    → (note_pending s.note ≡ false → s.pending ≡ 0 → ring (geometry_of v) ≡ true
    → (notes_full (geometry_of v) v s ≡ false) × (no_slot (geometry_of v) s ≡ false)
    × ((i : ℕ) → 1 ≤ i → i ≤ 2 → note_ahead (geometry_of v) v s i ≡ true
    → is_written (note_record (geometry_of v) v (note_position (geometry_of v) s i)) ≡ true
    → page_dirty s (note_record (geometry_of v) v (note_position (geometry_of v) s i)).page ≡ false
    → log_full (geometry_of v) v s ≡ false))
    → Lost v m s r q
unfolding upkeep_of first_needed_note first_needed_log
upkeep-stuck v m s r q e facts =
    let g = geometry_of v in
    let i = first_needed_note g v s in
    let j = first_needed_log g v s in
    let n = first-from (note_ahead g v s) 2 1 in
    by_cases (note_pending s.note)
    (λ a. no-make (NoteCall, no_payload) q (rw a at e))
    (λ a. by_cases (ltb 0 s.pending)
    (λ b. no-make (Force, no_payload) q (rw (a, b) at e))
    (λ b. by_cases (ring g)
    (λ o. let f = facts a (omega (arith, ltb-false 0 s.pending b)) o in
    by_cases (leb i 2)
    (λ d. let hi = leb-true i 2 d in
    renew-stuck v m s r _ _ q (rw (a, b, o, d) at e) f.0 f.1
    (λ w h c. f.2 i n.low hi (n.hit (omega arith)) w c))
    (λ d. by_cases (leb j (reserve g))
    (λ l. renew-stuck v m s r _ false q (rw (a, b, o, d, l) at e) f.0 f.1 (λ w. absurd (true-not-false w refl)))
    (λ l. no-idle q (rw (a, b, o, d, l) at e))))
    (λ o. no-idle q (rw (a, b, o) at e))))

-- ---- what the invariant opens

module _ {C : Type 0} {g : Geometry} {v m : List ℕ} {past : List StoredItem} {s : State} {k w : List Logged}
    (x : Ctx C g v m past s k w) (turns : ring g ≡ true) (n2 : 2 ≤ g.notes) (cuts : ℕ) (t : Tidy g v s cuts) where
  notes-open : s.notes < top_number → notes_full g v s ≡ false
  unfolding notes_full
  notes-open b =
      rw (turns, ne_eqb g.notes 0 (λ z. omega arith), lt-leb top_number s.notes b)
      (by_cases (leb g.notes s.notes)
      (λ l.
      let le = leb-true g.notes s.notes l in
      let q : suc s.notes - g.notes ≡ suc (s.notes - g.notes) = omega arith in
      rw (q, t.notes.first (s.notes - g.notes) (omega arith)) (and-false (leb g.notes s.notes)))
      (λ l. rw l))

  slots-open : g.pages < g.slots → no_slot g s ≡ false
  slots-open more =
      let f : (1 ≤ free_slot g s) × (free_slot g s ≤ g.slots) =
      rw (geo x) at (slot-left v (frame_count (length m)) s (state-ok x) (rw (geo x) (sized x).p-high)
      x.al.index.size (rw (geo x) more)) in
      le-ltb g.slots (free_slot g s) f.1

  -- a put has room: the written notes since k0 are fewer than W
  module _ (W : ℕ) (fl : count_of 64 (wrote_in x.ns) ≤ W) (at2 : place2 x turns n2 + g.notes ≡ suc s.notes)
      (need : note_needed g v s.notes (suc (place2 x turns n2)) ≡ true)
      (wr : is_written (note_record g v (suc (place2 x turns n2))) ≡ true) where
    abbrev a : ℕ
    a = place2 x turns n2

    ab : a < length x.ns
    ab = omega (arith, x.al.notes-is)

    is-note : note_record g v (suc a) ≡ note' x.ns a
    is-note = (stands-whole g v k x.hs x.ns x.no a ab (omega (arith, x.al.notes-is))).0

    -- no note since k0 is like it
    none-since : (i : ℕ) → i < length x.ns - t.z.k0 → is_written (note_record g v (suc (t.z.k0 + i))) ≡ true
        → (note_record g v (suc (t.z.k0 + i))).page ≢ (note' x.ns a).page
    unfolding note_needed
    none-since i lt u e =
        let b = t.z.k0 + i in
        let kk = x.al.notes-is in
        let wh : note_whole g v (suc b) ≡ true =
        (stands-whole g v k x.hs x.ns x.no b (omega (arith, t.notes.low)) (omega (arith, t.near))).1 in
        let later = and_right (note_whole g v (suc a))
        (every (s.notes - suc a)
        (λ c. not (note_whole g v (suc (suc a + c)) && note_like g v (suc a) (suc (suc a + c))))) need in
        let c = b - suc a in
        let sm : suc a + (b - suc a) ≡ b = omega (arith, t.near) in
        let f : not (note_whole g v (suc (suc a + c)) && note_like g v (suc a) (suc (suc a + c))) ≡ true =
        every-at (λ c. not (note_whole g v (suc (suc a + c)) && note_like g v (suc a) (suc (suc a + c))))
        (s.notes - suc a) later c
        (omega (arith, t.notes.low, t.near)) in
        let f' : not (note_whole g v (suc b) && note_like g v (suc a) (suc b)) ≡ true = rw sm at f in
        let like : note_like g v (suc a) (suc b) ≡ true =
        alike-holds (note_record g v (suc a)) (note_record g v (suc b)) (e ∙ sym (ap (λ (n : Note). n.page) is-note))
        (eqb-true (note_record g v (suc b)).kind 1 u ∙ sym (eqb-true (note_record g v (suc a)).kind 1 wr)) in
        true-not-false like (not-true _ (rw wh at f'))

    -- the renewal of a written note: W is not reached yet
    pub fewer : suc (since_written g v s.notes t.z.k0) ≤ W
    fewer =
        let e = x.al.notes-is in
        let f = x.no.fit a ab in
        let nt : NotesTidy g v (length x.ns) t.z.k0 s.note = rw e at t.notes in
        rw e (since-room g v k x.hs x.ns x.no t.z.k0 nt (omega (arith, t.near)) W fl
        (note' x.ns a).page f.low f.high
        (wrote-note g v k x.hs x.ns x.no a ab (rw is-note at wr)) none-since)

    pub log-open : W + cuts ≤ reserve g → note_pending s.note ≡ false → s.pending ≡ 0
        → page_dirty s (note_record g v (suc (place2 x turns n2))).page ≡ false → s.durable < top_number
        → log_full g v s ≡ false
    unfolding log_full
    log-open cap noting silent clean b =
        let zz : s.durable + s.pending ≡ s.durable = omega arith in
        let b0 : t.b ≡ 0 = not-busy x turns n2 cuts t (λ q1 q2 q3 l. true-not-false l.1 clean) noting in
        let room : s.durable + 1 ≤ t.z.d0 + t.z.u + reserve g = omega (arith, t.sums.puts, fewer) in
        rw (turns, zz, lt-leb top_number s.durable b)
        (by_cases (leb g.records s.durable)
        (λ l.
        let le = leb-true g.records s.durable l in
        let q : suc s.durable - g.records ≡ suc (s.durable - g.records) = omega arith in
        let sp : record_needed g v s (suc (s.durable - g.records)) ≡ false = ⊎_elim
        (λ f. absurd (note-came x turns n2 cuts t at2 need f.0))
        (λ f. f (s.durable - g.records) (omega arith) (omega arith)) t.log.next in
        rw (q, sp) (and-false (leb g.records s.durable)))
        (λ l. rw l))

  -- so upkeep is stuck for a lost page alone
  pub stuck-lost : (W : ℕ) → count_of 64 (wrote_in x.ns) ≤ W
      → ((p : ℕ) → 1 ≤ p → p ≤ g.pages → (entry_of s.index p).written ≡ 0) ⊎ (W + cuts ≤ reserve g)
      → g.pages < g.slots → s.durable < top_number → s.notes < top_number
      → (r q : ℕ) → upkeep_of v m s r ≡ stuck q → (held s q ≡ false) × (refusal_of (load_of v m s q r).answer ≡ 23)
  stuck-lost W fl cap more dn kn r q e =
      let l =
      upkeep-stuck v m s r q e
      (rw (geo x) (λ noting silent o. (notes-open kn, slots-open more, logs noting silent))) in
      (l.away, call-refusal (Load q r, no_payload) v m s ∙ l.below)
    where
      logs : note_pending s.note ≡ false → s.pending ≡ 0 → (i : ℕ) → 1 ≤ i → i ≤ 2 → note_ahead g v s i ≡ true
          → is_written (note_record g v (note_position g s i)) ≡ true
          → page_dirty s (note_record g v (note_position g s i)).page ≡ false
          → log_full g v s ≡ false
      logs noting silent i lo hi y wr clean =
          let f = needs-second x turns n2 cuts t i lo hi y in
          let w2 : is_written (note_record g v (suc (place2 x turns n2))) ≡ true = rw f.3 at wr in
          let c2 : page_dirty s (note_record g v (suc (place2 x turns n2))).page ≡ false = rw f.3 at clean in
          ⊎_elim
          (λ h. absurd (unwritten h f.1 w2))
          (λ h. log-open W fl f.1 f.2 w2 h noting silent c2 dn) cap
        where
          unwritten : ((p : ℕ) → 1 ≤ p → p ≤ g.pages → (entry_of s.index p).written ≡ 0)
              → place2 x turns n2 + g.notes ≡ suc s.notes
              → is_written (note_record g v (suc (place2 x turns n2))) ≡ true → ⊥
          unwritten h at2 w2 =
              let a = place2 x turns n2 in
              let ab : a < length x.ns = omega (arith, x.al.notes-is) in
              let is : note_record g v (suc a) ≡ note' x.ns a =
              (stands-whole g v k x.hs x.ns x.no a ab (omega (arith, x.al.notes-is))).0 in
              let f = x.no.fit a ab in
              let p = (note' x.ns a).page in
              let q : suc ((note' x.ns a).page - 1) ≡ (note' x.ns a).page = omega (arith, f.low) in
              let y : wrote_in x.ns ((note' x.ns a).page - 1) ≡ true =
              wrote-note g v k x.hs x.ns x.no a ab (rw is at w2) in
              let y' : not (eqb (mark_at p x.ns (length x.ns)).written 0) ≡ true = rw q at y in
              let e : (mark_at p x.ns (length x.ns)).written ≡ 0 =
              sym (ap (λ (y : Entry). y.written) (entry-is x p f.low f.high)) ∙ h p f.low f.high in
              true-not-false (rw (eq-eqb (mark_at p x.ns (length x.ns)).written 0 e) at y') refl

-- T2, the log's half of the invariant (docs/UPKEEP.md: M4, M5), and that every event keeps it. Places are counted from
-- 0: record suc j; those in
-- the log are the ones with d ≤ j + L. d0 is the durable count when upkeep was last idle; u is 1 where the user's call
-- since then was a
-- Begin or a Change whose record was not lost; R is the reserve.
use mathlib.Core.Path.{◌≡◌, sym, ap, ◌∙◌}
use mathlib.Core.Logic.{◌≢◌, ◌⊎◌, inl, inr, ⊎_elim}
use mathlib.Core.Bool.{true, false, ◌&&◌}
use mathlib.Core.List.{List}
use Prim.Native.Nat.{ℕ, suc, ◌+◌, ◌-◌, ◌≤◌, ◌<◌}
use native.Mathlib.Omega.{arith}
use native.Mathlib.Decide.{dec_lt}
use lib.Dec.{ltb}
use lib.ListN.{length}
use borrow.Author.Tests.{lt-ltb}
use Rattle.laws.proofs.Tables.{by_cases, true-not-false}
use Rattle.laws.proofs.Ring.{slot-in}
use Rattle.model.specs.Checksum.{sealed}
use Rattle.model.specs.Geometry.{record_at, item, store, slot_of, log_slot}
use Rattle.model.specs.Item.{is_written, record_of}
use Rattle.model.specs.Index.{entry_of}
use Rattle.model.specs.Scan.{log_record, note_record}
use Rattle.model.specs.State.{record_needed}
use Rattle.model.specs.declared.{geometry.Geometry.Geometry, item.Note.Note, state.State.State}
use Rattle.history.proofs.Sections.{Volume}
use Rattle.upkeep_policy.specs.Upkeep.{log_ahead, reserve}
use Rattle.upkeep_theory.proofs.Shift.{MoreMarks, spare-stays, backup-spares, old-record, torn-log}
use Rattle.upkeep_theory.proofs.NotesTidy.{no-present}
use Rattle.model.specs.Types.{None, Some}

-- what the half speaks of: the counts of notes and records, the owed note
pub record Place0 : Type 0 where
  pub k0 : ℕ
  pub d0 : ℕ
  pub u : ℕ

pub record LogTidy (g : Geometry) (v : List ℕ) (s : State) (z : Place0) : Type 0 where
  -- M4: the records that the next ones displace are spare, up to the reserve as it was counted at d0; and up to that
  -- counted behind the
  -- user's record, once a note or a put came
  pub spare : (j : ℕ) → s.durable ≤ j + g.records → suc j + g.records ≤ z.d0 + reserve g
      → record_needed g v s (suc j) ≡ false
  pub next : ((s.notes ≡ z.k0) × (s.durable + s.pending ≡ z.d0 + z.u))
      ⊎ ((j : ℕ) → s.durable ≤ j + g.records → suc j + g.records ≤ z.d0 + z.u + reserve g
      → record_needed g v s (suc j) ≡ false)
  -- M5: a page with a backup note since k0 has no needed record up to d0 + u
  pub backed : (a : ℕ) → z.k0 ≤ a → a < s.notes → is_written (note_record g v (suc a)) ≡ false
      → (j : ℕ) → s.durable ≤ j + g.records → suc j ≤ z.d0 + z.u → suc j ≤ s.durable
      → (log_record g v (suc j)).page ≡ (note_record g v (suc a)).page → record_needed g v s (suc j) ≡ false
  -- an owed backup is at or above every needed record of its page
  pub noting-backs : (n : Note) → s.note ≡ Some n → is_written n ≡ false
      → (j : ℕ) → s.durable ≤ j + g.records → suc j ≤ s.durable → (log_record g v (suc j)).page ≡ n.page
      → record_needed g v s (suc j) ≡ true → (suc j ≤ n.lsn) × (1 ≤ n.page) × (n.page ≤ g.pages)
  -- and it is of the first needed record's page where no note came yet
  pub noting-next : (n : Note) → s.note ≡ Some n → (j : ℕ) → s.durable ≤ j + g.records
      → suc j + g.records ≡ z.d0 + z.u + reserve g → record_needed g v s (suc j) ≡ true
      → (is_written n ≡ false) × ((log_record g v (suc j)).page ≡ n.page)

-- ---- idle

pub log-idle : (g : Geometry) (v : List ℕ) (s : State) → s.note ≡ None → 2 ≤ g.records
    → ((i : ℕ) → 1 ≤ i → i ≤ reserve g → log_ahead g v s i ≡ false)
    → LogTidy g v s (record { k0 = s.notes; d0 = s.durable; u = 0 })
unfolding log_ahead
log-idle g v s none two rest =
    let sp : (j : ℕ) → s.durable ≤ j + g.records → suc j + g.records ≤ s.durable + reserve g
    → record_needed g v s (suc j) ≡ false =
    λ j a b.
    let i = suc j + g.records - s.durable in
    let q : s.durable + i - g.records ≡ suc j = omega arith in
    let h : (ltb g.records (s.durable + i) && record_needed g v s (s.durable + i - g.records)) ≡ false =
    rest i (omega arith) (omega arith) in
    rw (lt-ltb g.records (s.durable + i) (omega arith), q) at h in
    record {
      spare = sp;
      next = inr (λ j a b. sp j a (omega arith));
      backed = λ a x y. absurd (omega arith);
      noting-backs = λ n e. no-present n (sym none ∙ e);
      noting-next = λ n e. no-present n (sym none ∙ e);
    }

-- ---- events that store no record and no note

-- the records are as they were, and the counts, and the marks; what is pending, owed and u may differ
pub record LogSame (g : Geometry) (v : List ℕ) (s : State) (v' : List ℕ) (s' : State) (k0 : ℕ) : Type 0 where
  pub notes : s'.notes ≡ s.notes
  pub durable : s'.durable ≡ s.durable
  pub marks : MoreMarks g.pages s s'
  pub marks-back : MoreMarks g.pages s' s
  pub records : (j : ℕ) → 1 ≤ j → j ≤ g.records → item g v' (record_at j) ≡ item g v (record_at j)
  pub noted : (a : ℕ) → k0 ≤ a → a < s.notes → note_record g v' (suc a) ≡ note_record g v (suc a)

module _ (g : Geometry) (v : List ℕ) (s : State) (two : 2 ≤ g.records) (v' : List ℕ) (s' : State) (z : Place0)
    (w : LogSame g v s v' s' z.k0) where
  at_slot : (j : ℕ) → item g v' (log_slot g (suc j)) ≡ item g v (log_slot g (suc j))
  at_slot j = let q = slot-in g.records j (omega arith) in w.records (slot_of g.records (suc j)) q.0 q.1

  stays : (j : ℕ) → suc j ≤ s.durable → record_needed g v s (suc j) ≡ false → record_needed g v' s' (suc j) ≡ false
  stays j b h = spare-stays g v v' s s' (suc j) b (omega (arith, w.durable)) (at_slot j) w.marks h

  back : (j : ℕ) → suc j ≤ s.durable → record_needed g v' s' (suc j) ≡ true → record_needed g v s (suc j) ≡ true
  back j b h = by_cases (record_needed g v s (suc j)) (λ t. t) (λ t. absurd (true-not-false h (stays j b t)))

  page-is : (j : ℕ) → (log_record g v' (suc j)).page ≡ (log_record g v (suc j)).page
  page-is j = ap (λ (r : List ℕ). (record_of r).page) (at_slot j)

  -- u may fall, and then what was pending is lost
  pub log-same : (u' : ℕ) → LogTidy g v s z → z.d0 ≤ s.durable → z.d0 + z.u ≤ s.durable + 1 → u' ≤ z.u
      → ((s.notes ≡ z.k0) × (s.durable + s.pending ≡ z.d0 + z.u)
      → (u' ≡ 0) ⊎ (s'.durable + s'.pending ≡ z.d0 + u'))
      → ((n : Note) → s'.note ≡ Some n → is_written n ≡ false
      → (j : ℕ) → s.durable ≤ j + g.records → suc j ≤ s.durable → (log_record g v (suc j)).page ≡ n.page
      → record_needed g v s (suc j) ≡ true → (suc j ≤ n.lsn) × (1 ≤ n.page) × (n.page ≤ g.pages))
      → ((n : Note) → s'.note ≡ Some n → (j : ℕ) → s.durable ≤ j + g.records
      → suc j + g.records ≡ z.d0 + u' + reserve g → record_needed g v s (suc j) ≡ true
      → (is_written n ≡ false) × ((log_record g v (suc j)).page ≡ n.page))
      → LogTidy g v' s' (record { k0 = z.k0; d0 = z.d0; u = u' })
  log-same u' t d1 d2 le fresh backs nexts =
      record {
        spare = λ j a b. stays j (omega arith) (t.spare j (omega (arith, w.durable)) b);
        next = ⊎_elim
            (λ f. ⊎_elim
            (λ e. inr (λ j a b. stays j (omega arith) (t.spare j (omega (arith, w.durable)) (omega arith))))
            (λ e. inl (w.notes ∙ f.0, e)) (fresh f))
            (λ f. inr (λ j a b. stays j (omega arith) (f j (omega (arith, w.durable)) (omega arith)))) t.next;
        backed = λ a x y p j b c e q.
            let ra = w.noted a x (omega (arith, w.notes)) in
            stays j (omega (arith, w.durable)) (t.backed a x (omega (arith, w.notes)) (rw ra at p) j
            (omega (arith, w.durable))
            (omega arith) (omega (arith, w.durable)) (sym (page-is j) ∙ (q ∙ ap (λ (n : Note). n.page) ra)));
        noting-backs = λ n e p j b c q y.
            backs n e p j (omega (arith, w.durable)) (omega (arith, w.durable)) (sym (page-is j)
            ∙ q) (back j (omega (arith, w.durable)) y);
        noting-next = λ n e j b q y.
            let r = nexts n e j (omega (arith, w.durable)) q (back j (omega arith) y) in (r.0, page-is j ∙ r.1);
      }

-- ---- the next record is stored, or left torn

module _ (g : Geometry) (v : List ℕ) (vol : Volume g v) (s : State) (two : 2 ≤ g.records) (z : Place0)
    (t : LogTidy g v s z)
    (d1 : z.d0 ≤ s.durable) (d2 : z.d0 + z.u ≤ s.durable + 1) (xs : List ℕ) (size : length xs ≡ 64) where
  one : 1 ≤ g.records
  one = omega arith

  abbrev after : List ℕ
  after = store g v (log_slot g (suc s.durable)) xs

  old : (j : ℕ) → suc j ≤ s.durable → s.durable < j + g.records
      → item g after (log_slot g (suc j)) ≡ item g v (log_slot g (suc j))
  old j a b = old-record g v vol one s.durable xs size j a b

  keeps : (s' : State) → MoreMarks g.pages s s' → (j : ℕ) → suc j ≤ s.durable → suc j ≤ s'.durable
      → s.durable < j + g.records
      → record_needed g v s (suc j) ≡ false → record_needed g after s' (suc j) ≡ false
  keeps s' more j a b c h = spare-stays g v after s s' (suc j) a b (old j a c) more h

  -- Force; the user's record is stored before any note
  pub log-force : (s' : State) → MoreMarks g.pages s s' → s'.notes ≡ s.notes → s'.durable ≡ suc s.durable
      → s'.durable + s'.pending ≡ s.durable + s.pending → s'.note ≡ None
      → ((a : ℕ) → note_record g after (suc a) ≡ note_record g v (suc a))
      → (suc s.durable ≤ z.d0 + z.u → s.notes ≡ z.k0)
      → LogTidy g after s' z
  log-force s' more kk dd sum none rec fresh =
      record {
        spare = λ j a b. keeps s' more j (omega arith) (omega arith) (omega arith) (t.spare j (omega arith) b);
        next = ⊎_elim (λ f. inl (kk ∙ f.0, sum ∙ f.1))
            (λ f. inr (λ j a b. keeps s' more j (omega arith) (omega arith) (omega arith) (f j (omega arith) b)))
            t.next;
        backed = λ a x y p j b c e q. elim (dec_lt j s.durable) [
          | yes l ↦ keeps s' more j l e (omega arith)
              (t.backed a x (omega arith) (rw (rec a) at p) j (omega arith) c l
              (sym (ap (λ (r : List ℕ). (record_of r).page) (old j l (omega arith)))
              ∙ (q ∙ ap (λ (n : Note). n.page) (rec a))))
          | no l ↦ absurd (let f = fresh (omega arith) in omega arith)
        ];
        noting-backs = λ n e. no-present n (sym none ∙ e);
        noting-next = λ n e. no-present n (sym none ∙ e);
      }

  -- torn: the first position is spare; what was pending or owed is lost, with the user's record where it was that
  pub log-torn : sealed 60 xs ≡ false → (s' : State) → MoreMarks g.pages s s' → s'.notes ≡ s.notes
      → s'.durable ≡ s.durable
      → s'.note ≡ None → ((a : ℕ) → note_record g after (suc a) ≡ note_record g v (suc a))
      → (u' : ℕ) → u' ≤ z.u
      → ((s.notes ≡ z.k0) × (s.durable + s.pending ≡ z.d0 + z.u)
      → (u' ≡ 0) ⊎ (s'.durable + s'.pending ≡ z.d0 + u'))
      → LogTidy g after s' (record { k0 = z.k0; d0 = z.d0; u = u' })
  log-torn bad s' more kk dd none rec u' le fresh =
      let each : (j : ℕ) → suc j ≤ s.durable → s.durable ≤ j + g.records → record_needed g v s (suc j) ≡ false
      → record_needed g after s' (suc j) ≡ false = λ j a b h. elim (dec_lt s.durable (j + g.records)) [
        | yes l ↦ keeps s' more j a (omega arith) l h
        | no l ↦ torn-log g v vol one s.durable xs size bad s' j (omega arith) (omega arith)
      ] in
      record {
        spare = λ j a b. each j (omega arith) (omega arith) (t.spare j (omega arith) b);
        next = ⊎_elim
            (λ f. ⊎_elim
            (λ e. inr (λ j a b. each j (omega arith) (omega arith) (t.spare j (omega arith) (omega arith))))
            (λ e. inl (kk ∙ f.0, e)) (fresh f))
            (λ f. inr (λ j a b. each j (omega arith) (omega arith) (f j (omega arith) (omega arith)))) t.next;
        backed = λ a x y p j b c e q. elim (dec_lt s.durable (j + g.records)) [
          | yes l ↦ keeps s' more j (omega arith) e l
              (t.backed a x (omega arith) (rw (rec a) at p) j (omega arith) (omega arith) (omega arith)
              (sym (ap (λ (r : List ℕ). (record_of r).page) (old j (omega arith) l))
              ∙ (q ∙ ap (λ (n : Note). n.page) (rec a))))
          | no l ↦ torn-log g v vol one s.durable xs size bad s' j (omega arith) (omega arith)
        ];
        noting-backs = λ n e. no-present n (sym none ∙ e);
        noting-next = λ n e. no-present n (sym none ∙ e);
      }

-- ---- the owed note is stored

module _ (g : Geometry) (v : List ℕ) (s : State) (two : 2 ≤ g.records) (z : Place0) (t : LogTidy g v s z)
    (u1 : z.u ≤ 1)
    (d1 : z.d0 ≤ s.durable) (d2 : z.d0 + z.u ≤ s.durable) (n : Note) (noting : s.note ≡ Some n)
    (v' : List ℕ) (s' : State) (more : MoreMarks g.pages s s') (kk : s'.notes ≡ suc s.notes)
    (dd : s'.durable ≡ s.durable)
    (none : s'.note ≡ None) (records : (j : ℕ) → 1 ≤ j → j ≤ g.records
    → item g v' (record_at j) ≡ item g v (record_at j))
    (rec : (a : ℕ) → z.k0 ≤ a → a < s.notes → note_record g v' (suc a) ≡ note_record g v (suc a))
    (new : note_record g v' (suc s.notes) ≡ n)
    (slot : is_written n ≡ false → (entry_of s'.index n.page).slot ≢ 0)
    (number : is_written n ≡ false → (entry_of s'.index n.page).backup ≡ n.lsn) where
  at-slot' : (j : ℕ) → item g v' (log_slot g (suc j)) ≡ item g v (log_slot g (suc j))
  at-slot' j = let q = slot-in g.records j (omega arith) in records (slot_of g.records (suc j)) q.0 q.1

  page-same : (j : ℕ) → (log_record g v' (suc j)).page ≡ (log_record g v (suc j)).page
  page-same j = ap (λ (r : List ℕ). (record_of r).page) (at-slot' j)

  remains : (j : ℕ) → suc j ≤ s.durable → record_needed g v s (suc j) ≡ false → record_needed g v' s' (suc j) ≡ false
  remains j b h = spare-stays g v v' s s' (suc j) b (omega arith) (at-slot' j) more h

  -- a record of the page that the note backs up
  of-page : is_written n ≡ false → (j : ℕ) → s.durable ≤ j + g.records → suc j ≤ s.durable
      → (log_record g v (suc j)).page ≡ n.page
      → record_needed g v' s' (suc j) ≡ false
  of-page w j a b p = by_cases (record_needed g v s (suc j))
      (λ y.
      let o = t.noting-backs n noting w j a b p y in
      let q : (log_record g v' (suc j)).page ≡ n.page = page-same j ∙ p in
      backup-spares g v' s' (suc j) (omega arith) (rw q o.1) (rw q o.2) (rw q (slot w)) (rw (q, number w) o.0))
      (λ y. remains j b y)

  pub log-note : LogTidy g v' s' z
  log-note =
      record {
        spare = λ j a b. remains j (omega arith) (t.spare j (omega arith) b);
        next = inr (λ j a b. ⊎_elim
            (λ f. elim (dec_lt (z.d0 + reserve g) (suc j + g.records)) [
              | yes l ↦ by_cases (record_needed g v s (suc j))
                  (λ y. let o = t.noting-next n noting j (omega arith) (omega arith) y in
                  of-page o.0 j (omega arith) (omega arith) o.1)
                  (λ y. remains j (omega arith) y)
              | no l ↦ remains j (omega arith) (t.spare j (omega arith) (omega arith))
            ])
            (λ f. remains j (omega arith) (f j (omega arith) b)) t.next);
        backed = λ a x y p j b c e q. elim (dec_lt a s.notes) [
          | yes l ↦ remains j (omega arith) (t.backed a x l (rw (rec a x l) at p) j (omega arith) c (omega arith)
              (sym (page-same j) ∙ (q ∙ ap (λ (n : Note). n.page) (rec a x l))))
          | no l ↦
              let i : a ≡ s.notes = omega arith in
              let nw : note_record g v' (suc a) ≡ n = rw i new in
              of-page (rw nw at p) j (omega arith) (omega arith) (sym (page-same j)
              ∙ (q ∙ ap (λ (n : Note). n.page) nw))
        ];
        noting-backs = λ y e. no-present y (sym none ∙ e);
        noting-next = λ y e. no-present y (sym none ∙ e);
      }

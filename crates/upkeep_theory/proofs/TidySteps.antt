-- T2's invariant after a step that stores no record and no note. Each lemma is one shape of step: frames only, a record
-- pending, a note owed, a cut.
use mathlib.Core.Path.{◌≡◌, refl, sym, ap, ◌∙◌}
use mathlib.Core.Logic.{◌≢◌, ◌⊎◌, inl, inr}
use mathlib.Core.Bool.{true, false}
use mathlib.Core.List.{List}
use Prim.Native.Nat.{ℕ, suc, ◌+◌, ◌-◌, ◌≤◌}
use native.Mathlib.Omega.{arith}
use native.Mathlib.Decide.{dec_lt}
use Rattle.laws.proofs.Search.{count_same}
use Rattle.laws.proofs.Ring.{slot-in}
use Rattle.model.specs.Geometry.{slot_of}
use Rattle.model.specs.Item.{is_written, note_of}
use Rattle.model.specs.Index.{entry_of}
use Rattle.model.specs.Scan.{log_record, note_record}
use Rattle.model.specs.State.{record_needed}
use Rattle.model.specs.declared.{geometry.Geometry.Geometry, item.Note.Note, state.State.State}
use Rattle.history.proofs.Sections.{Volume}
use Rattle.upkeep_policy.specs.Upkeep.{reserve}
use Rattle.upkeep_theory.proofs.NotesTidy.{NotesTidy, tidy-lost, tidy-same, no-present}
use Rattle.upkeep_theory.proofs.LogTidy.{LogTidy, LogSame, log-same}
use Rattle.upkeep_theory.proofs.Tidy.{Busy, since_written, Sums, Tidy, From}
use Rattle.upkeep_theory.proofs.Apart.{Apart, SameMarks, more-marks, more-back}
use Rattle.model.specs.Types.{None, Some}

module _ (g : Geometry) (v : List ℕ) (vol : Volume g v) (s : State) (l2 : 2 ≤ g.records) (n2 : 2 ≤ g.notes) (cuts : ℕ)
    (t : Tidy g v s cuts)
    (v' : List ℕ) (ap' : Apart g v v') (s' : State) (marks : SameMarks g s s') (kk : s'.notes ≡ s.notes)
    (dd : s'.durable ≡ s.durable) where
  rec : (a : ℕ) → note_record g v' (suc a) ≡ note_record g v (suc a)
  rec a = ap note_of (let q = slot-in g.notes a (omega arith) in ap'.notes (slot_of g.notes (suc a)) q.0 q.1)

  same : LogSame g v s v' s' t.z.k0
  same =
      record {
        notes = kk;
        durable = dd;
        marks = more-marks g s s' marks;
        marks-back = more-back g s s' marks;
        records =
            ap'.records;
        noted = λ a x y. rec a;
      }

  written_same : since_written g v' s'.notes t.z.k0 ≡ since_written g v s.notes t.z.k0
  written_same = rw kk (count_same _ _ (s.notes - t.z.k0) (λ i b. rw (rec (t.z.k0 + i))))

  nothing_written : ((p : ℕ) → 1 ≤ p → p ≤ g.pages → (entry_of s'.index p).written ≡ 0)
      → s.durable + s.pending ≡ t.z.d0 + t.z.u
  nothing_written h = t.none (λ p a b. sym (marks.written p a b) ∙ h p a b)

  notes-same : NotesTidy g v' s'.notes t.z.k0 s.note
  notes-same = rw kk (tidy-same g v t.notes n2 vol t.near v' ap'.notes)

  -- frames alone: what is pending and owed stays. The busy bit may fall, where no renewal is under way
  pub still : s'.pending ≡ s.pending → s'.note ≡ s.note → (b' : ℕ) → b' ≤ 1 → (t.b ≤ b') → (1 ≤ b' → Busy g v' s')
      → From g v' s' cuts t.z.k0
  still pp nn b' b1 up bz = (
    record {
      z = t.z;
      b = b';
      notes = rw nn notes-same;
      near = omega (arith, t.near);
      log = log-same g v s l2 v' s' t.z same t.z.u t.log t.sums.d-low
          (omega (arith, t.sums.sum, t.sums.pending-one))
          (omega arith) (λ f. inr (omega (arith, f.1)))
          (λ n e. t.log.noting-backs n (sym nn ∙ e)) (λ n e. t.log.noting-next n (sym nn ∙ e));
      sums = omega (
        arith,
        t.sums.d-low,
        t.sums.u-one,
        t.sums.sum,
        t.sums.pending-one,
        t.sums.puts,
        written_same,
      );
      busy = bz;
      both = λ h. nn ∙ t.both (omega arith);
      early = λ h e. kk ∙ t.early (omega arith) (omega arith);
      none = λ h. omega (arith, nothing_written h);
    },
    refl,
  )

  -- the user's record, where upkeep was idle
  pub user-record : s.pending ≡ 0 → s'.pending ≡ 1 → s.notes ≡ t.z.k0 → s.durable ≡ t.z.d0 → t.z.u ≡ 0
      → s.note ≡ None → s'.note ≡ None → t.b ≡ 0 → Tidy g v' s' cuts
  user-record q pp k= d= u= na nn b= =
      record {
        z = record { k0 = t.z.k0; d0 = t.z.d0; u = 1 };
        b = 0;
        notes = rw (nn, ← na) notes-same;
        near = omega (arith, t.near);
        log = record {
          spare = lg.spare;
          next = inl (omega arith, omega arith);
          backed = λ a x y. absurd (omega arith);
          noting-backs = λ n e. lg.noting-backs n e;
          noting-next = λ n e. no-present n (sym nn ∙ e);
        };
        sums = omega (arith, t.sums.puts, written_same);
        busy = λ h. absurd (omega arith);
        both = λ h. nn;
        early = λ h e. omega arith;
        none = λ h. omega arith;
      }
    where
      lg : LogTidy g v' s' t.z
      lg = log-same g v s l2 v' s' t.z same t.z.u t.log t.sums.d-low (omega arith)
          (omega arith) (λ f. inl u=)
          (λ n e. no-present n (sym nn ∙ e)) (λ n e. no-present n (sym nn ∙ e))

  -- a refreshing put: a note came since k0, no renewal was under way, and one is now
  pub put_record : s.pending ≡ 0 → s'.pending ≡ 1 → s.notes ≢ t.z.k0 → t.b ≡ 0 → s.note ≡ None
      → s'.note ≡ None
      → Busy g v' s' → (((p : ℕ) → 1 ≤ p → p ≤ g.pages → (entry_of s.index p).written ≡ 0) → ⊥)
      → From g v' s' cuts t.z.k0
  put_record q pp k≠ b= na nn bz some = (
    record {
      z = t.z;
      b = 1;
      notes = rw (nn, ← na) notes-same;
      near = omega (arith, t.near);
      log = log-same g v s l2 v' s' t.z same t.z.u t.log t.sums.d-low (omega (arith, t.sums.sum))
          (omega arith) (λ f. absurd (k≠ f.0))
          (λ n e. no-present n (sym nn ∙ e)) (λ n e. no-present n (sym nn ∙ e));
      sums = omega (arith, t.sums.d-low, t.sums.u-one, t.sums.sum, t.sums.puts, written_same);
      busy = λ h. bz;
      both = λ h. nn;
      early = λ h e. absurd (omega (arith, t.sums.sum));
      none = λ h. absurd (some (λ p x y. sym (marks.written p x y) ∙ h p x y));
    },
    refl,
  )

  -- a note is owed
  pub leave : s.pending ≡ 0 → s'.pending ≡ 0 → (n : Note) → s'.note ≡ Some n
      → NotesTidy g v s.notes t.z.k0 (Some n)
      → (is_written n ≡ false
      → (j : ℕ) → s.durable ≤ j + g.records → suc j ≤ s.durable → (log_record g v (suc j)).page ≡ n.page
      → record_needed g v s (suc j) ≡ true → (suc j ≤ n.lsn) × (1 ≤ n.page) × (n.page ≤ g.pages))
      → ((j : ℕ) → s.durable ≤ j + g.records → suc j + g.records ≡ t.z.d0 + t.z.u + reserve g
      → record_needed g v s (suc j) ≡ true
      → (is_written n ≡ false) × ((log_record g v (suc j)).page ≡ n.page))
      → (b' : ℕ) → b' ≤ 1 → t.b ≤ b' → (1 ≤ b' → Busy g v' s') → From g v' s' cuts t.z.k0
  leave q pp n nn nt backs nexts b' b1 up bz = (
    record {
      z = t.z;
      b = b';
      notes = rw (nn, kk) (tidy-same g v nt n2 vol t.near v' ap'.notes);
      near = omega (arith, t.near);
      log = log-same g v s l2 v' s' t.z same t.z.u t.log t.sums.d-low (omega (arith, t.sums.sum))
          (omega arith) (λ f. inr (omega (arith, f.1)))
          (λ y e. let w : y ≡ n = cc in rw w backs) (λ y e. let w : y ≡ n = cc in rw w nexts);
      sums = omega (arith, t.sums.d-low, t.sums.u-one, t.sums.sum, t.sums.puts, written_same);
      busy = bz;
      both = λ h. absurd (omega arith);
      early = λ h. absurd (omega arith);
      none = λ h. omega (arith, nothing_written h);
    },
    refl,
  )

  -- a cut, with the volume's log and notes as they were: what was pending or owed is lost
  pub cut : s'.pending ≡ 0 → s'.note ≡ None → Tidy g v' s' (suc cuts)
  cut pp nn = elim (dec_lt s.durable (t.z.d0 + t.z.u)) [
    -- the user's record was pending
    | yes y ↦ at 0 (omega arith) (omega (arith, t.sums.d-low)) (λ f. inl refl)
        (omega (
          arith,
          t.sums.d-low,
          t.sums.u-one,
          t.sums.sum,
          t.sums.pending-one,
          t.sums.puts,
          t.sums.b-one,
          written_same,
        ))
        (λ h. omega (arith, nothing_written h, t.sums.d-low, t.sums.u-one, t.sums.sum, t.sums.pending-one))
    | no y ↦ at t.z.u (omega arith) (omega arith) (λ f. inr (omega (arith, f.1)))
        (omega (
          arith,
          t.sums.d-low,
          t.sums.u-one,
          t.sums.sum,
          t.sums.pending-one,
          t.sums.puts,
          t.sums.b-one,
          written_same,
        ))
        (λ h. omega (arith, nothing_written h))
  ]
    where
      at : (u' : ℕ) → u' ≤ t.z.u → t.z.d0 + u' ≤ s.durable
          → ((s.notes ≡ t.z.k0) × (s.durable + s.pending ≡ t.z.d0 + t.z.u)
          → (u' ≡ 0) ⊎ (s'.durable + s'.pending ≡ t.z.d0 + u'))
          → Sums s'.durable s'.pending t.z.d0 u' (since_written g v' s'.notes t.z.k0) (suc cuts) 0
          → (((p : ℕ) → 1 ≤ p → p ≤ g.pages → (entry_of s'.index p).written ≡ 0)
          → s'.durable + s'.pending ≡ t.z.d0 + u')
          → Tidy g v' s' (suc cuts)
      at u' le low fresh sm un =
          record {
            z = record { k0 = t.z.k0; d0 = t.z.d0; u = u' };
            b = 0;
            notes = rw nn (tidy-lost g v' notes-same);
            near = omega (arith, t.near);
            log = log-same g v s l2 v' s' t.z same u' t.log t.sums.d-low
                (omega (arith, t.sums.sum, t.sums.pending-one)) le fresh
                (λ n e. no-present n (sym nn ∙ e)) (λ n e. no-present n (sym nn ∙ e));
            sums = sm;
            busy = λ h. absurd (omega arith);
            both = λ h. absurd (omega arith);
            early = λ h. absurd (omega arith);
            none = un;
          }

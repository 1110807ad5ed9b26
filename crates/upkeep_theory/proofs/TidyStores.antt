-- The invariant across the stores of the log and of the notes: Force and Note, whole or torn.
use mathlib.Core.Path.{◌≡◌, refl, sym, ap, ◌∙◌}
use mathlib.Core.Logic.{◌≢◌, ◌⊎◌, inl, inr, ⊎_elim}
use mathlib.Core.Bool.{true, false, cond}
use mathlib.Core.List.{List}
use Prim.Native.Nat.{ℕ, suc, ◌+◌, ◌-◌, ◌≤◌, ◌<◌}
use native.Mathlib.Omega.{arith}
use native.Mathlib.Decide.{dec_lt, ℕ_discrete}
use lib.ListN.{length}
use Rattle.laws.proofs.Tables.{by_cases, true-not-false}
use Rattle.laws.proofs.Search.{count_same}
use Rattle.laws.proofs.Ring.{slot-in}
use Rattle.model.specs.Checksum.{sealed}
use Rattle.model.specs.Geometry.{note_at, item, store, slot_of, log_slot, note_slot}
use Rattle.model.specs.Item.{is_written, note_of, note_bytes}
use Rattle.model.specs.Index.{entry_of}
use Rattle.model.specs.Scan.{note_record}
use Rattle.model.specs.State.{note_pending}
use Rattle.model.specs.Carry.{count_of}
use Rattle.model.specs.declared.{geometry.Geometry.Geometry, item.Note.Note}
use Rattle.model.specs.declared.state.State.{State}
use Rattle.history.proofs.Sections.{Volume}
use Rattle.upkeep_theory.proofs.Shift.{note-same, MoreMarks, log-notes, note-logs, note-read-new, note-read-old}
use Rattle.upkeep_theory.proofs.NotesTidy.{NotesTidy, alike-parts, tidy-lost, tidy-same, tidy-torn, tidy-note}
use Rattle.upkeep_theory.proofs.LogTidy.{LogSame, log-same, log-force, log-torn, log-note}
use Rattle.upkeep_theory.proofs.Tidy.{since_written, Sums, Tidy, From, settled}
use Rattle.upkeep_theory.proofs.Apart.{SameMarks, more-marks, more-back}
use Rattle.upkeep_theory.proofs.NotesTidy.{no-present}
use Rattle.model.specs.Types.{PendingNote, None, Some}

-- ---- Force, whole or torn

module _ (g : Geometry) (v : List ℕ) (vol : Volume g v) (s : State) (l2 : 2 ≤ g.records) (n2 : 2 ≤ g.notes) (cuts : ℕ)
    (t : Tidy g v s cuts)
    (xs : List ℕ) (size : length xs ≡ 64) (s' : State) (marks : SameMarks g s s') (kk : s'.notes ≡ s.notes)
    (pp : s'.pending ≡ 0)
    (nn : s'.note ≡ None) where
  abbrev forced : List ℕ
  forced = store g v (log_slot g (suc s.durable)) xs

  same-notes : (j : ℕ) → 1 ≤ j → j ≤ g.notes → item g forced (note_at j) ≡ item g v (note_at j)
  same-notes = log-notes g v vol (omega arith) s.durable xs size

  rec-f : (a : ℕ) → note_record g forced (suc a) ≡ note_record g v (suc a)
  rec-f a = ap note_of (let q = slot-in g.notes a (omega arith) in
      same-notes (slot_of g.notes (suc a)) q.0 q.1)

  written-f : since_written g forced s'.notes t.z.k0 ≡ since_written g v s.notes t.z.k0
  written-f = rw kk (count_same _ _ (s.notes - t.z.k0) (λ i b. rw (rec-f (t.z.k0 + i))))

  notes-f : NotesTidy g forced s'.notes t.z.k0 None
  notes-f = rw kk (tidy-lost g forced (tidy-same g v t.notes n2 vol t.near forced same-notes))

  unwritten : ((p : ℕ) → 1 ≤ p → p ≤ g.pages → (entry_of s'.index p).written ≡ 0)
      → s.durable + s.pending ≡ t.z.d0 + t.z.u
  unwritten h = t.none (λ p a b. sym (marks.written p a b) ∙ h p a b)

  pub force-tidy : s.pending ≡ 1 → s'.durable ≡ suc s.durable → s'.frames ≡ s.frames
      → From g forced s' cuts t.z.k0
  force-tidy one dd ff = (
    record {
      z = t.z;
      b = t.b;
      notes = rw nn notes-f;
      near = omega (arith, t.near);
      log = log-force g v vol s l2 t.z t.log t.sums.d-low (omega (arith, t.sums.sum, t.sums.pending-one))
          xs size s'
          (more-marks g s s' marks) kk dd (omega arith) nn rec-f
          (λ h. t.early (omega arith) (omega (arith, t.sums.sum)));
      sums = omega (
        arith,
        t.sums.d-low,
        t.sums.u-one,
        t.sums.sum,
        t.sums.pending-one,
        t.sums.b-one,
        t.sums.puts,
        written-f,
      );
      busy = λ h. let y = t.busy h in record {
        place = y.place;
        second = omega (arith, y.second);
        needed =
            rw kk (note-same g v vol (omega arith) forced s.notes y.place (omega (arith, y.second)) same-notes)
            ∙ y.needed;
        written = rw (rec-f y.place) y.written;
        live = ⊎_elim (λ q. inl (rw (rec-f y.place, ff) q))
            (λ q. absurd (absent s.note q (t.both (omega arith)))) y.live;
      };
      both = λ h. absurd (omega arith);
      early = λ h. absurd (omega arith);
      none = λ h. omega (arith, unwritten h);
    },
    refl,
  )
    where
      absent : (y : PendingNote) → note_pending y ≡ true → y ≡ None → ⊥
      absent None q e = true-not-false q refl
      absent (Some n) q e = let w : ◌≡◌ {A = ℕ} 0 1 = cc in omega arith

  pub torn-tidy : sealed 60 xs ≡ false → s'.durable ≡ s.durable → Tidy g forced s' (suc cuts)
  torn-tidy bad dd = elim (dec_lt s.durable (t.z.d0 + t.z.u)) [
    | yes y ↦ at 0 (omega arith) (λ f. inl refl)
        (omega (
          arith,
          t.sums.d-low,
          t.sums.u-one,
          t.sums.sum,
          t.sums.pending-one,
          t.sums.puts,
          t.sums.b-one,
          written-f,
        ))
        (λ h. omega (arith, unwritten h, t.sums.d-low, t.sums.u-one, t.sums.sum, t.sums.pending-one))
    | no y ↦ at t.z.u (omega arith) (λ f. inr (omega (arith, f.1)))
        (omega (
          arith,
          t.sums.d-low,
          t.sums.u-one,
          t.sums.sum,
          t.sums.pending-one,
          t.sums.puts,
          t.sums.b-one,
          written-f,
        ))
        (λ h. omega (arith, unwritten h))
  ]
    where
      at : (u' : ℕ) → u' ≤ t.z.u
          → ((s.notes ≡ t.z.k0) × (s.durable + s.pending ≡ t.z.d0 + t.z.u)
          → (u' ≡ 0) ⊎ (s'.durable + s'.pending ≡ t.z.d0 + u'))
          → Sums s'.durable s'.pending t.z.d0 u' (since_written g forced s'.notes t.z.k0) (suc cuts) 0
          → (((p : ℕ) → 1 ≤ p → p ≤ g.pages → (entry_of s'.index p).written ≡ 0)
          → s'.durable + s'.pending ≡ t.z.d0 + u')
          → Tidy g forced s' (suc cuts)
      at u' le fresh sm un =
          record {
            z = record { k0 = t.z.k0; d0 = t.z.d0; u = u' };
            b = 0;
            notes = rw nn notes-f;
            near = omega (arith, t.near);
            log = log-torn g v vol s l2 t.z t.log t.sums.d-low
                (omega (arith, t.sums.sum, t.sums.pending-one)) xs size bad s'
                (more-marks g s s' marks) kk dd nn rec-f u' le fresh;
            sums = sm;
            busy = λ h. absurd (omega arith);
            both = λ h. absurd (omega arith);
            early = λ h. absurd (omega arith);
            none = un;
          }

-- ---- Note, whole or torn

module _ (g : Geometry) (v : List ℕ) (vol : Volume g v) (s : State) (l2 : 2 ≤ g.records) (n2 : 2 ≤ g.notes) (cuts : ℕ)
    (t : Tidy g v s cuts)
    (s' : State) (dd : s'.durable ≡ s.durable) (pp : s'.pending ≡ 0) (nn : s'.note ≡ None) where
  pub counted : (v' : List ℕ) (n : Note)
      → ((a : ℕ) → t.z.k0 ≤ a → a < s.notes → note_record g v' (suc a) ≡ note_record g v (suc a))
      → note_record g v' (suc s.notes) ≡ n
      → since_written g v' (suc s.notes) t.z.k0 ≡ since_written g v s.notes t.z.k0 + cond (is_written n) 1 0
  unfolding count_of
  counted v' n rc new =
      let q : suc s.notes - t.z.k0 ≡ suc (s.notes - t.z.k0) = omega (arith, t.notes.low) in
      let q' : t.z.k0 + (s.notes - t.z.k0) ≡ s.notes = omega (arith, t.notes.low) in
      rw (q, q', new)
      (ap (λ (y : ℕ). y + cond (is_written n) 1 0)
      (count_same (λ i. is_written (note_record g v' (suc (t.z.k0 + i))))
      (λ i. is_written (note_record g v (suc (t.z.k0 + i))))
      (s.notes - t.z.k0) (λ i b. rw (rc (t.z.k0 + i) (omega arith) (omega (arith, t.notes.low))))))

  -- stored whole; that there are not too many is counted in the next state
  pub note-tidy : (n : Note) → s.note ≡ Some n → length (note_bytes n) ≡ 16 → note_of (note_bytes n) ≡ n
      → n.number ≡ suc s.notes
      → s'.notes ≡ suc s.notes → suc s.notes + 2 ≤ t.z.k0 + g.notes
      → MoreMarks g.pages s s'
      → ((p : ℕ) → 1 ≤ p → p ≤ g.pages → (entry_of s'.index p).written ≡ 0 → (entry_of s.index p).written ≡ 0)
      → (is_written n ≡ false → (entry_of s'.index n.page).slot ≢ 0)
      → (is_written n ≡ false → (entry_of s'.index n.page).backup ≡ n.lsn)
      → From g (store g v (note_slot g (suc s.notes)) (note_bytes n)) s' cuts t.z.k0
  note-tidy n noting six back num kk near' more wrote slot number =
      let quiet : s.pending ≡ 0 = settled t n noting in
      let v' = store g v (note_slot g (suc s.notes)) (note_bytes n) in
      let nt : NotesTidy g v s.notes t.z.k0 (Some n) = rw noting at t.notes in
      let rc : (a : ℕ) → t.z.k0 ≤ a → a < s.notes → note_record g v' (suc a) ≡ note_record g v (suc a) =
      λ a x y. note-read-old g v vol (omega arith) s.notes (note_bytes n) six a y (omega arith) in
      let new : note_record g v' (suc s.notes) ≡ n = note-read-new g v vol (omega arith) s.notes n six back in
      let cnt : since_written g v' (suc s.notes) t.z.k0 ≡ since_written g v s.notes t.z.k0 + cond
      (is_written n) 1 0 =
      counted v' n rc new in (
        record {
          z = t.z;
          b = 0;
          notes = rw (kk, nn) (tidy-note g v n nt n2 vol t.near six back num);
          near = omega arith;
          log = log-note g v s l2 t.z t.log t.sums.u-one t.sums.d-low (omega (arith, t.sums.sum)) n
              noting v' s' more kk dd nn
              (note-logs g v vol (omega arith) s.notes (note_bytes n) six) rc new slot number;
          sums = rw (kk, cnt) (summed n nt quiet);
          busy = λ h. absurd (omega arith);
          both = λ h. absurd (omega arith);
          early = λ h. absurd (omega arith);
          none = λ h. let y = t.none (λ p a b. wrote p a b (h p a b)) in omega arith;
        },
        refl,
      )
    where
      summed : (n : Note) → NotesTidy g v s.notes t.z.k0 (Some n) → s.pending ≡ 0
          → Sums s'.durable s'.pending t.z.d0 t.z.u
          (since_written g v s.notes t.z.k0 + cond (is_written n) 1 0) cuts 0
      summed n nt quiet = elim (ℕ_discrete t.b 0) [
        | yes q ↦ by_cases (is_written n)
            (λ w. rw w (omega (arith, t.sums.d-low, t.sums.u-one, t.sums.sum, t.sums.puts)))
            (λ w. rw w (omega (arith, t.sums.d-low, t.sums.u-one, t.sums.sum, t.sums.puts)))
        | no q ↦
            let y = t.busy (omega arith) in
            let a = nt.renews n refl y.place y.second y.needed in
            let w : is_written n ≡ true = rw (alike-parts (note_record g v (suc y.place)) n a).1 y.written in
            rw w (omega (arith, t.sums.d-low, t.sums.u-one, t.sums.sum, t.sums.puts, t.sums.b-one))
      ]

  -- left torn
  pub torn-note-tidy : (xs : List ℕ) → length xs ≡ 16 → sealed 12 xs ≡ false → SameMarks g s s' → s'.notes ≡ s.notes
      → (n : Note) → s.note ≡ Some n → Tidy g (store g v (note_slot g (suc s.notes)) xs) s' (suc cuts)
  torn-note-tidy xs six bad marks kk n noting =
      let quiet : s.pending ≡ 0 = settled t n noting in
      let v' = store g v (note_slot g (suc s.notes)) xs in
      let rc : (a : ℕ) → t.z.k0 ≤ a → a < s.notes → note_record g v' (suc a) ≡ note_record g v (suc a) =
      λ a x y. note-read-old g v vol (omega arith) s.notes xs six a y (omega (arith, t.near)) in
      let cnt : since_written g v' s'.notes t.z.k0 ≡ since_written g v s.notes t.z.k0 =
      rw kk (count_same (λ i. is_written (note_record g v' (suc (t.z.k0 + i))))
      (λ i. is_written (note_record g v (suc (t.z.k0 + i))))
      (s.notes - t.z.k0) (λ i b. rw (rc (t.z.k0 + i) (omega arith) (omega (arith, t.notes.low))))) in
      let same : LogSame g v s v' s' t.z.k0 = record {
        notes = kk;
        durable = dd;
        marks = more-marks g s s' marks;
        marks-back = more-back g s s' marks;
        records = note-logs g v vol (omega arith) s.notes xs six;
        noted = rc;
      } in
      record {
        z = t.z;
        b = 0;
        notes = rw (kk, nn) (tidy-torn g v t.notes n2 vol t.near xs six bad);
        near = omega (arith, t.near);
        log = log-same g v s l2 v' s' t.z same t.z.u t.log t.sums.d-low (omega (arith, t.sums.sum))
            (omega arith)
            (λ f. inr (omega (arith, f.1)))
            (λ n e. no-present n (sym nn ∙ e)) (λ n e. no-present n (sym nn ∙ e));
        sums = omega (arith, t.sums.d-low, t.sums.u-one, t.sums.sum, t.sums.puts, t.sums.b-one, cnt);
        busy = λ h. absurd (omega arith);
        both = λ h. absurd (omega arith);
        early = λ h. absurd (omega arith);
        none = λ h. let y = t.none (λ p a b. sym (marks.written p a b) ∙ h p a b) in omega arith;
      }

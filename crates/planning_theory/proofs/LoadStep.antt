-- A Load: with written victims it is Good and replays nothing; with victims let go it is Failed and replays the page's changes since its
-- last noted backup.
use mathlib.Core.Path.{◌≡◌, refl, sym, ap, ◌∙◌}
use mathlib.Core.Logic.{◌≢◌, ◌⊎◌, inl, inr, ⊎_elim}
use mathlib.Core.Bool.{true, false, cond, not}
use mathlib.Core.List.{List, [], ◌∷◌}
use Prim.Native.Nat.{ℕ, zero, suc, ◌+◌, ◌-◌, ◌%◌, ◌≤◌, ◌<◌}
use native.Mathlib.Omega.{arith}
use lib.ListN.{length}
use lib.Seq.{get_or-set_same, get_or-set_other}
use borrow.Author.Tests.{eq-eqb}
use Rattle.model.specs.Tables.{first_of}
use Rattle.model.specs.Bytes.{splice}
use Rattle.model.specs.Geometry.{page_at, item}
use Rattle.model.specs.Item.{image_lsn, valid_image}
use Rattle.model.specs.Index.{entry_of}
use Rattle.model.specs.Repair.{View, walk_from, walk_of, class_of, class_in, repair_of, rebuilt, state_view}
use Rattle.model.specs.State.{empty_frame, frame_at, frame_row}
use Rattle.model.specs.Refusals.{load_rows}
use Rattle.model.specs.Outcome.{StoredItem, nothing, Outcome, volume_after, decided}
use Rattle.model.specs.Effects.{with_frame, with_frames, is_good, load_done}
use Rattle.model.specs.Calls.{load_of, no_payload}
use Rattle.model.specs.declared.{command.Command.TheVariants.Load, geometry.Geometry.Geometry}
use Rattle.model.specs.declared.{answer.Answer.TheVariants.Repaired, state.Frame.Frame}
use Rattle.model.specs.declared.{state.State.State}
use Rattle.model.specs.AbstractLog.{Logged, step_call}
use Rattle.planning.specs.Rehearsal.{page_row, set_row, with_load, victim_written, replayed_by}
use Rattle.planning.specs.RehearsalRun.{play_call}
use Rattle.planning.specs.declared.rehearsal.Victim.{Victim}
use Rattle.planning.specs.declared.rehearsal.Victim.TheVariants.{Written, Released}
use Rattle.planning.specs.declared.rehearsal.Settings.{Settings}
use Rattle.planning.specs.declared.rehearsal.FrameUse.{FrameUse}
use Rattle.planning.specs.declared.rehearsal.Figures.{Figures}
use Rattle.history.proofs.Logs.{last_at, last_of, last-le, last-page}
use Rattle.history.proofs.Context.{Ctx, sized, geo, entry-is, durable-last}
use Rattle.history.proofs.Loads.{Loaded, loads, loads-above}
use Rattle.planning_theory.proofs.Counts.{count_at, count_of, count-last}
use Rattle.planning_theory.proofs.Chain.{Begun, view_tells}
use Rattle.planning_theory.proofs.Play.{Run, Stage, rows_none, run-as, ctx-as}
use Rattle.planning_theory.proofs.Relation.{Current, OnDisk, Mine, Sim, Backups, Arrived, Rows, rows_same, sim-keep, durable-is}
use Rattle.model.specs.Types.{None}

-- a valid own image with the page's last number
module _ (g : Geometry) (p : ℕ) (w : View) (j : ℕ) (d : w.durable ≡ suc j) (t : valid_image g p w.own ≡ true)
    (e : image_lsn w.own ≡ suc j) where
  own-count : (repair_of g p w).count ≡ 0
  unfolding repair_of walk_of walk_from
  own-count = rw (d, t, e, eq-eqb (suc j) (suc j) refl)

  own-good : is_good (class_in g p w) ≡ true
  unfolding class_of
  own-good = rw (d, t, e, eq-eqb (suc j) (suc j) refl)

bad-class : (g : Geometry) (p : ℕ) (w : View) → valid_image g p w.own ≡ false → is_good (class_in g p w) ≡ false
unfolding class_of
bad-class g p w t = rw t

module _ {C : Type 0} {g : Geometry} {v m : List ℕ} {past : List StoredItem} {s : State} {k : List Logged}
    (x : Ctx C g v m past s k []) (ok : C) (t : Settings)
    (events : List ℕ) (ms : List FrameUse) (f p : ℕ) (low : f < t.frames) (few : t.frames ≤ 16) (fs : List Figures)
    (no : (play_call (Run v m past s fs) (Load p (suc f), no_payload)).refused ≡ false) where
  rows0 : first_of (load_rows v m s p (suc f)) ≡ 0
  rows0 = rows_none v m past s fs (Load p (suc f), no_payload) no

  l : Loaded x p (suc f)
  l = loads x p (suc f) rows0

  abbrev view : View
  view = state_view g v s p

  p64 : p ≤ 64
  p64 = omega (arith, l.high, (sized x).p-high)

  -- no row has the page
  away : (j : ℕ) → j < 16 → (frame_row s j).page ≢ p
  away j b e = l.absent j (x.al.frames.inside j b (λ z. omega (arith, l.low))) e

  some : last_of p k ≢ 0
  some z = l.some (l.settled ∙ (durable-last x p l.low l.high ∙ z))

  tells : valid_image g p (item g v (page_at p)) ≡ false
      → (begun : Begun k) → (repair_of g p view).count + count_at p k (entry_of s.index p).backup ≡ count_of p k
  unfolding repair_of
  tells bad begun = go (last_of p k) refl
    where
      go : (n : ℕ) → last_of p k ≡ n → (repair_of g p view).count + count_at p k (entry_of s.index p).backup ≡ count_of p k
      go zero q = absurd (some q)
      go (suc j) q =
          let d : last_at p x.all (length k) ≡ suc j = durable-last x p l.low l.high ∙ q in
          let b : suc j ≤ length k = omega (arith, last-le p k (length k)) in
          let above = rw (x.al.log.durable-is, entry-is x p l.low l.high, d) at (loads-above x p (suc f) rows0) in
          rw (x.al.log.durable-is, entry-is x p l.low l.high, d)
          (view_tells x ok begun p l.low l.high (last_of p x.all) j b (last-page p k (length k) j q) q bad above
          ∙ sym (count-last p k (length k) ∙ ap (count_at p k) q))

  -- the load's class and count, and what is then known of the page
  record Told (w : Victim) : Type 0 where
    pub good : is_good (class_in g p view) ≡ victim_written w
    pub count : (repair_of g p view).count ≡ cond (victim_written w) 0 (count_of p k % t.every)
    pub mine : Mine w g v k p (not (victim_written w))

  told : (w : Victim) → OnDisk w g v s k f 0 → Sim t events ms g v s k f 0 → Backups t g s k → Told w
  told Written h sim bk =
      let cur = ⊎_elim (λ y. absurd (away y.row y.below y.page-is)) (λ y. y)
      (h p l.low l.high (λ z. omega (arith, l.low)) some) in
      go cur (last_of p k) refl
    where
      go : Current g v p (last_of p k) → (n : ℕ) → last_of p k ≡ n → Told Written
      go cur zero q = absurd (some q)
      go cur (suc j) q =
          let d : view.durable ≡ suc j = durable-is x p l.low p64 ∙ q in
          record {
            good = own-good g p view j d cur.0 (cur.1 ∙ q);
            count = own-count g p view j d cur.0 (cur.1 ∙ q);
            mine = inr cur;
          }
  told Released h sim bk =
      let bad = h.0 p l.low l.high in
      record { good = bad-class g p view bad; count = omega (arith, tells bad sim.begun, bk p l.low l.high); mine = refl }

  abbrev done : Outcome
  done =
      record {
        answer = Repaired (repair_of g p view);
        state = with_frames s (with_frame s (suc f) p (not (is_good (class_in g p view)))) s.note;
        memory = splice m (frame_at (suc f)) (rebuilt g p view);
        stored = nothing;
      }

  done-is : load_of v m s p (suc f) ≡ done
  unfolding decided load_done
  done-is = rw (rows0, geo x)

  pub load_step : Sim t events ms g v s k f 0 → Backups t g s k → s.note ≡ None → Rows fs k
      → Stage C g (play_call (Run v m past s fs) (Load p (suc f), no_payload)) (set_row fs p (with_load (page_row fs p) (replayed_by t (count_of p k)))) k []
      (λ v' s'. Arrived t events ms g v' s' k f p (not (victim_written t.victim))
      × Rows (set_row fs p (with_load (page_row fs p) (replayed_by t (count_of p k)))) k)
  unfolding volume_after step_call
  load_step sim bk quiet rows =
      let a = told t.victim sim.disk sim bk in
      let row : suc f - 1 ≡ f = omega arith in
      record {
        volume = v;
        memory = done.memory;
        past = nothing ∷ past;
        state = done.state;
        run_is = run-as v m past s fs (Load p (suc f), no_payload) no refl done done-is ∙ rw a.count;
        ctx = ctx-as v m past s fs (Load p (suc f), no_payload) no x refl refl done done-is k [] refl;
        holds = (
          record {
            sim = sim-keep t events ms g v v s done.state k f 0 p low (λ j b n. rw row (get_or-set_other s.frames f j new empty_frame n))
                (λ q lo hi. refl) (λ q n. pick q) sim;
            backs = bk;
            quiet = quiet;
            row_is = rw (row, get_or-set_same s.frames f new empty_frame (omega (arith, x.al.frames.size)), a.good);
            alone = λ j b n. rw (row, get_or-set_other s.frames f j new empty_frame n) (away j b);
            mine = a.mine;
          },
          rows_same fs p l.low p64 rows.size k (with_load (page_row fs p) (replayed_by t (count_of p k))) refl rows,
        );
      }
    where
      new : Frame
      new = record { page = p; dirty = not (is_good (class_in g p view)) }

      pick : (q : ℕ) → q ≢ 0 ⊎ (q ≡ 0)
      pick zero = inr refl
      pick (suc q) = inl (λ z. omega arith)

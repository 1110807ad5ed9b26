-- After a change: its backup, where it is one in so many; and what the calls that were taken tell of a page and its frame.
use mathlib.Core.Path.{◌≡◌, refl, sym, ap, ◌∙◌, subst}
use mathlib.Core.Logic.{◌≢◌}
use mathlib.Core.Bool.{true, false, cond}
use mathlib.Core.List.{List, [], ◌∷◌}
use Prim.Native.Nat.{ℕ, suc, ◌+◌, ◌%◌, ◌≤◌, ◌<◌}
use native.Mathlib.Omega.{arith}
use native.Mathlib.Numerals.{add-one}
use native.Mathlib.Decide.{ℕ_discrete}
use lib.ListN.{length}
use lib.Dec.{eqb}
use borrow.Author.Tests.{eq-eqb, ne_eqb, eqb-true, eqb-false}
use Rattle.laws.proofs.Tables.{by_cases}
use Rattle.laws.proofs.Frames.{is_held}
use Rattle.model.specs.Tables.{first_of}
use Rattle.model.specs.Geometry.{geometry_of}
use Rattle.model.specs.State.{frame_row, holder, held}
use Rattle.model.specs.Refusals.{begin_rows}
use Rattle.model.specs.Outcome.{StoredItem}
use Rattle.model.specs.Calls.{no_payload}
use Rattle.model.specs.declared.command.Command.TheVariants.{Backup, Note}
use Rattle.model.specs.AbstractLog.{Logged}
use Rattle.planning.specs.Rehearsal.{access_of, page_row, set_row, with_record, with_backup, with_change}
use Rattle.planning.specs.RehearsalRun.{Choice, changes_of, back_up, Played, play_call, play_calls}
use Rattle.model.specs.declared.{geometry.Geometry.Geometry, state.State.State}
use Rattle.planning.specs.declared.rehearsal.Settings.{Settings}
use Rattle.planning.specs.declared.rehearsal.Access.TheVariants.{Read, Change}
use Rattle.planning.specs.declared.rehearsal.FrameUse.{FrameUse}
use Rattle.planning.specs.declared.rehearsal.Figures.{Figures}
use Rattle.history.proofs.Logs.{last_of}
use Rattle.history.proofs.Context.{Ctx, geo, passed, in-range, found-frame}
use Rattle.planning_theory.proofs.Counts.{count_of, count_none}
use Rattle.planning_theory.proofs.Play.{Stage}
use Rattle.planning_theory.proofs.Relation.{Arrived, Rows, row-twice, all-is, one-row}
use Rattle.planning_theory.proofs.ChangeStep.{mod-more, mine-dirty, Changed}
use Rattle.planning_theory.proofs.BackupStep.{backup-step}
use Rattle.planning_theory.proofs.Event.{stage-as}

-- ---- the number of changes

pub changes-read : (e p : ℕ) (events : List ℕ) (q : ℕ) → access_of e ≡ Read p → changes_of q (e ∷ events) ≡ changes_of q events
unfolding changes_of
changes-read e p events q ea = rw ea (omega arith)

pub changes-hit : (e p : ℕ) (events : List ℕ) → access_of e ≡ Change p → changes_of p (e ∷ events) ≡ suc (changes_of p events)
unfolding changes_of
changes-hit e p events ea = rw (ea, eq-eqb p p refl) (omega arith)

pub changes-miss : (e p : ℕ) (events : List ℕ) (q : ℕ) → access_of e ≡ Change p → q ≢ p → changes_of q (e ∷ events) ≡ changes_of q events
unfolding changes_of
changes-miss e p events q ea ne = rw (ea, ne_eqb p q (λ z. ne (sym z))) (omega arith)

-- ---- after a change

-- a page in row f of a machine
pub holder-of : {C : Type 0} {g : Geometry} {v m : List ℕ} {past : List StoredItem} {s : State} {k w : List Logged}
    (x : Ctx C g v m past s k w) (p f : ℕ) → 1 ≤ p → f < 16 → (frame_row s f).page ≡ p
    → holder s p ≡ suc f
holder-of {C} {g} {v} {m} {past} {s} {k} {w} x p f lo b e =
    let h : held s p ≡ true = is_held s p f (omega (arith, x.al.frames.size)) e in
    let fd = found-frame x p lo (rw h) in
    let q : fd.row ≡ f = one-row x f fd.row b (omega (arith, fd.in_table, x.al.memory.high)) (λ z. omega (arith, sym e ∙ z))
    (fd.page-is ∙ sym e) in
    fd.holder-is ∙ ap suc q

pub page-high : {C : Type 0} {g : Geometry} {v m : List ℕ} {past : List StoredItem} {s : State} {k w : List Logged}
    (x : Ctx C g v m past s k w) (p f : ℕ) → 1 ≤ p → f < 16 → (frame_row s f).page ≡ p
    → p ≤ g.pages
page-high {C} {g} {v} {m} {past} {s} {k} {w} x p f lo b e =
    let nz : (frame_row s f).page ≢ 0 = λ z. omega (arith, sym e ∙ z) in
    rw e at (x.al.frames.each f (x.al.frames.inside f b nz) nz).high

-- a page without a change is in no frame
pub no-page : {C : Type 0} {g : Geometry} {v m : List ℕ} {past : List StoredItem} {s : State} {k : List Logged}
    (x : Ctx C g v m past s k []) (p j : ℕ) → 1 ≤ p → j < 16 → count_of p k ≡ 0 → (frame_row s j).page ≢ p
no-page {C} {g} {v} {m} {past} {s} {k} x p j lo b z e =
    let nz : (frame_row s j).page ≢ 0 = λ y. omega (arith, sym e ∙ y) in
    let fr = x.al.frames.each j (x.al.frames.inside j b nz) nz in
    let q : last_of (frame_row s j).page x.all ≡ 0 = rw (e, all-is x) (count_none p k (length k) z) in
    omega (arith, fr.some)

-- a Begin that is taken has its page in range
pub begin-high : {C : Type 0} {g : Geometry} {v m : List ℕ} {past : List StoredItem} {s : State} {k w : List Logged}
    (x : Ctx C g v m past s k w) (p f : ℕ) → first_of (begin_rows v m s p f) ≡ 0 → p ≤ g.pages
unfolding begin_rows
begin-high {C} {g} {v} {m} {past} {s} {k} {w} x p f e =
    let t = passed (begin_rows v m s p f) (omega arith) e in
    let r : (1 ≤ p) × (p ≤ g.pages) = rw (geo x) at (in-range (geometry_of v).pages p t.1.1.1.0) in
    r.1

module _ (C : Type 0) (g : Geometry) (t : Settings) (F16 : t.frames ≤ 16) (K1 : 1 ≤ t.every) (events : List ℕ) (ms : List FrameUse)
    (f p n : ℕ) (low' : f < t.frames) (lo : 1 ≤ p) (hi : p ≤ g.pages) (p64 : p ≤ 64)
    (l : List Figures) (size : length l ≡ 64) (count : (page_row l p).records ≡ n) (k : List Logged) where
  abbrev more : List Figures
  more = set_row l p (with_record (page_row l p))

  abbrev final : List Figures
  final = set_row l p (with_change t.every (page_row l p))

  abbrev Done' : List ℕ → State → Type 0
  Done' v s = Arrived t events ms g v s k f p true × Rows (set_row l p (with_change t.every (page_row l p))) k

  next-count : (with_record (page_row l p)).records ≡ suc n
  next-count = ap (λ (y : ℕ). y + 1) count ∙ add-one n

  settled : (v : List ℕ) (s : State) → Changed t events ms g v s k f p n → suc n % t.every ≢ 0 → Arrived t events ms g v s k f p true
  settled v s h ne =
      record {
        sim = h.sim;
        backs = λ q a b. elim (ℕ_discrete q p)
            [ yes z ↦ rw (z, h.count) (omega (arith, h.before, mod-more n t.every K1 ne)) | no z ↦ h.others q a b z ];
        quiet = h.quiet;
        row_is = h.row_is;
        alone = h.alone;
        mine = mine-dirty t.victim g v k p;
      }

  pub backed : (r : Played) (c : Choice)
      → Stage C g r more k [] (λ v s. Changed t events ms g v s k f p n × Rows (set_row l p (with_record (page_row l p))) k)
      → (play_calls r (back_up t c p (suc n))).refused ≡ false → Stage C g (play_calls r (back_up t c p (suc n))) final k [] Done'
  unfolding with_change play_calls
  backed r c a nr = by_cases (eqb (suc n % t.every) 0)
      (λ z.
      let nr₁ : (play_call (play_call r (Backup p c.slot, no_payload)) (Note, no_payload)).refused ≡ false = rw z at nr in
      let b = backup-step a.ctx t events ms f p c.slot n low' F16 lo hi more a.holds.1 a.holds.0
      (eqb-true (suc n % t.every) 0 z)
      (subst (λ (y : Played). (play_call (play_call y (Backup p c.slot, no_payload)) (Note, no_payload)).refused ≡ false) a.run_is nr₁) in
      let q : set_row more p (with_backup (page_row more p)) ≡ set_row l p
      (cond (eqb ((with_record (page_row l p)).records % t.every) 0) (with_backup (with_record (page_row l p))) (with_record (page_row l p))) =
      row-twice l p lo p64 size with_record with_backup ∙ rw (next-count, z) in
      rw z (stage-as (ap (λ (y : Played). play_call (play_call y (Backup p c.slot, no_payload)) (Note, no_payload)) a.run_is) q
      (record {
        volume = b.volume;
        memory = b.memory;
        past = b.past;
        state = b.state;
        run_is = b.run_is;
        ctx = b.ctx;
        holds = (b.holds.0, subst (λ (y : List Figures). Rows y k) q b.holds.1);
      })))
      (λ z.
      let q : more ≡ set_row l p (cond (eqb ((with_record (page_row l p)).records % t.every) 0) (with_backup (with_record (page_row l p)))
      (with_record (page_row l p))) = rw (next-count, z) in
      rw z (stage-as refl q
      (record {
        volume = a.volume;
        memory = a.memory;
        past = a.past;
        state = a.state;
        run_is = a.run_is;
        ctx = a.ctx;
        holds = (
          settled a.volume a.state a.holds.0 (eqb-false (suc n % t.every) 0 z),
          subst (λ (y : List Figures). Rows y k) q a.holds.1,
        );
      })))

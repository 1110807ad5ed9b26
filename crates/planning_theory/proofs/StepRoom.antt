-- Room for the parts of an event: a page makes way, a record is added, a page is backed up.
use mathlib.Core.Path.{◌≡◌, refl, sym, ap, ◌∙◌, subst}
use mathlib.Core.Logic.{◌≢◌}
use mathlib.Core.Bool.{Bool, true, false, cond}
use mathlib.Core.List.{List, [], ◌∷◌}
use Prim.Native.Nat.{ℕ, suc, ◌+◌, ◌%◌, ◌≤◌, ◌<◌}
use native.Mathlib.Omega.{arith}
use lib.ListN.{length}
use lib.Dec.{eqb}
use Rattle.laws.proofs.Tables.{by_cases, true-not-false}
use Rattle.model.specs.State.{frame_row}
use Rattle.model.specs.Outcome.{StoredItem}
use Rattle.model.specs.Calls.{Call, no_payload}
use Rattle.model.specs.declared.{geometry.Geometry.Geometry, state.State.State}
use Rattle.model.specs.declared.command.Command.TheVariants.{Write, Release}
use Rattle.model.specs.declared.command.Command.TheVariants.{Backup, Note}
use Rattle.model.specs.AbstractLog.{Logged}
use Rattle.planning.specs.Rehearsal.{use_row, page_row, set_row, with_record, with_image, with_backup, with_change, evicted, total_of}
use Rattle.planning.specs.RehearsalRun.{Choice, eviction_calls, back_up, Played, play_call, play_calls}
use Rattle.planning.specs.declared.rehearsal.Victim.{Victim}
use Rattle.planning.specs.declared.rehearsal.Victim.TheVariants.{Written, Released}
use Rattle.planning.specs.declared.rehearsal.Settings.{Settings}
use Rattle.planning.specs.declared.rehearsal.FrameUse.{FrameUse}
use Rattle.planning.specs.declared.rehearsal.Figures.{Figures}
use Rattle.planning.specs.declared.rehearsal.Rehearsal.{Rehearsal}
use Rattle.history.proofs.Context.{Ctx, sized}
use Rattle.planning_theory.proofs.Searches.{stamped}
use Rattle.planning_theory.proofs.Play.{Run, Stage}
use Rattle.planning_theory.proofs.Relation.{Rows, row-twice}
use Rattle.planning_theory.proofs.ChangeStep.{Changed}
use Rattle.planning_theory.proofs.Taken.{write-free, backup-free, release-free}
use Rattle.planning_theory.proofs.Totals.{notes-set, records-set, records-total}
use Rattle.planning_theory.proofs.Tally.{Tally, tally-any}
use Rattle.planning_theory.proofs.Going.{Going, going, going-any, tally-of, release-goes, write_goes, backup-goes, note-goes}
use Rattle.model.specs.Types.{None}

-- ---- the page of a frame makes way

module _ {C : Type 0} {g : Geometry} {v m : List ℕ} {past : List StoredItem} {s : State} {k : List Logged} (x : Ctx C g v m past s k [])
    (t : Settings) (F16 : t.frames ≤ 16) (events : List ℕ) (mo : Rehearsal)
    (f : ℕ) (low : f < t.frames) (al : use_row mo.frames f ≡ stamped events (frame_row s f)) (quiet : s.note ≡ None) (b : ℕ)
    (y : Tally t b m s mo.pages)
    (room : (total_of (evicted t mo f) 64).notes ≤ g.notes) where
  abbrev run : Played
  run = Run v m past s mo.pages

  calls-as : (cs : List Call) → eviction_calls t (frame_row s f) ≡ cs → Going C g t b (play_calls (Run v m past s mo.pages) cs)
      → Going C g t b (play_calls (Run v m past s mo.pages) (eviction_calls t (frame_row s f)))
  calls-as cs e = subst (λ (l : List Call). Going C g t b (play_calls run l)) (sym e)

  pub way-goes : (d : Bool) → (frame_row s f).dirty ≡ d → (w : Victim) → t.victim ≡ w
      → Going C g t b (play_calls (Run v m past s mo.pages) (eviction_calls t (frame_row s f)))
  unfolding play_calls evicted
  way-goes false dd w tv = calls-as [] (rw dd) (going x t b mo.pages y)
  way-goes true dd w tv =
      let f16 : f < 16 = omega arith in
      let nz : (frame_row s f).page ≢ 0 = λ z. true-not-false dd (x.al.frames.idle f f16 z) in
      let fr = x.al.frames.each f (x.al.frames.inside f f16 nz) nz in
      go w tv f16 fr.low fr.high
    where
      go : (w : Victim) → t.victim ≡ w → f < 16 → 1 ≤ (frame_row s f).page → (frame_row s f).page ≤ g.pages
          → Going C g t b (play_calls (Run v m past s mo.pages) (eviction_calls t (frame_row s f)))
      go Written tv f16 lo hi =
          let q = (frame_row s f).page in
          let r : (total_of (set_row mo.pages (frame_row s f).page (with_image (page_row mo.pages (frame_row s f).page)))
          64).notes ≤ g.notes =
          rw (al, dd, tv) at room in
          let n = notes-set mo.pages q lo (omega (arith, (sized x).p-high)) y.size (with_image (page_row mo.pages q)) in
          calls-as ((Write q, no_payload) ∷ (Note, no_payload) ∷ []) (rw (dd, tv)) (note-goes
          (write_goes x t b mo.pages y q (write-free x q f lo hi f16 refl quiet (omega (arith, n, y.notes)))))
      go Released tv f16 lo hi =
          let q = (frame_row s f).page in calls-as ((Release q, no_payload) ∷ []) (rw (dd, tv))
          (release-goes x t b mo.pages y q (release-free x q f lo hi f16 refl))

-- ---- a record more, and a backup

-- a change adds one record, and a note where it is backed up
module _ (k : ℕ) (r : Figures) where
  pub change-record : (with_change k r).records ≡ r.records + 1
  unfolding with_change
  change-record = by_cases (eqb ((with_record r).records % k) 0) (λ z. rw z) (λ z. rw z)

module _ (C : Type 0) (g : Geometry) (t : Settings) (events : List ℕ) (ms : List FrameUse) (f p : ℕ) (f16 : f < 16) (lo : 1 ≤ p)
    (p64 : p ≤ 64) (l : List Figures) (k : List Logged) where
  abbrev more : List Figures
  more = set_row l p (with_record (page_row l p))

  -- room for the record
  pub record-room : {v m : List ℕ} {past : List StoredItem} {s : State} (x : Ctx C g v m past s k []) → Rows l k
      → (total_of (set_row l p (with_change t.every (page_row l p))) 64).records ≤ g.records → length k < g.records
  record-room x rows room =
      let total = records-total l k rows (λ i b. ((x.hs.fair i b).low, omega (arith, (x.hs.fair i b).high, (sized x).p-high))) in
      omega (
        arith,
        total,
        records-set l p lo p64 rows.size (with_change t.every (page_row l p)),
        change-record t.every
            (page_row l p),
      )

  -- the backup, where it is one in so many
  pub backed-goes : (r : Played) (c : Choice) (n : ℕ) → (page_row l p).records ≡ n → length l ≡ 64
      → Stage C g r more k [] (λ v s. Changed t events ms g v s k f p n × Rows (set_row l p (with_record (page_row l p))) k)
      → Going C g t c.slot r → 1 ≤ c.slot → c.slot ≤ g.slots → p ≤ g.pages
      → (total_of (set_row l p (with_change t.every (page_row l p))) 64).notes ≤ g.notes
      → Going C g t 0 (play_calls r (back_up t c p (suc n)))
  unfolding play_calls with_change
  backed-goes r c n count size a go slo shi hi room = by_cases (eqb (suc n % t.every) 0)
      (λ z.
      let y = tally-of go a.volume a.memory a.past a.state more a.run_is in
      let nx : (page_row l p).records + 1 ≡ suc n = omega arith in
      let q : set_row more p (with_backup (page_row more p)) ≡ set_row l p
      (cond (eqb ((with_record (page_row l p)).records % t.every) 0) (with_backup (with_record (page_row l p))) (with_record (page_row l p))) =
      row-twice l p lo p64 size with_record with_backup ∙ rw (nx, z) in
      let top : (total_of (set_row more p (with_backup (page_row more p))) 64).notes ≤ g.notes =
      subst (λ (u : List Figures). (total_of u 64).notes ≤ g.notes) (sym q) room in
      let one = notes-set more p lo p64 y.size (with_backup (page_row more p)) in
      let taken = backup-free a.ctx p f c.slot lo hi f16 (ap (λ u. u.page) a.holds.0.row_is) slo shi a.holds.0.quiet
      (omega (arith, one, y.notes)) (y.spare (λ u. omega arith)) in
      rw z (subst (λ (u : Played). Going C g t 0
      (play_call (play_call u (Backup p c.slot, no_payload)) (Note, no_payload))) (sym a.run_is)
      (note-goes (backup-goes a.ctx t more (tally-any y) p c.slot taken))))
      (λ z. rw z (going-any go))

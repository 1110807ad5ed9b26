-- A page's change and its Force: Begin, or Change with a put.
use mathlib.Core.Path.{◌≡◌, refl, ap, ◌∙◌, subst}
use mathlib.Core.Logic.{◌≢◌, ◌⊎◌, inl}
use mathlib.Core.Bool.{true, false}
use mathlib.Core.List.{List, [], ◌∷◌, ◌++◌}
use Prim.Native.Nat.{ℕ, suc, ◌+◌, ◌-◌, ◌%◌, ◌≤◌, ◌<◌}
use native.Mathlib.Omega.{arith}
use native.Mathlib.Decide.{dec_lt}
use native.Mathlib.Nat.{suc-mod, mod-lt, mod-eq_of_lt, mod_self}
use lib.ListN.{length, get_or, replicate, get_or-append}
use lib.Seq.{get_or-set_same, get_or-set_other}
use lib.Dec.{eqb}
use borrow.Author.Tests.{eq-eqb}
use Rattle.model.specs.Tables.{first_of}
use Rattle.model.specs.Change.{kind_of, apply_change}
use Rattle.model.specs.Geometry.{page_at, item}
use Rattle.model.specs.Item.{image_body, frame_image}
use Rattle.model.specs.Index.{entry_of, with_last}
use Rattle.model.specs.State.{empty_frame, frame_row, frame_bytes, holder, last_number}
use Rattle.model.specs.Refusals.{begin_rows, change_rows}
use Rattle.model.specs.Outcome.{StoredItem, nothing, Outcome, volume_after, decided}
use Rattle.model.specs.Effects.{appended_state, appended_memory, changed_image, begin_done, change_done}
use Rattle.model.specs.Calls.{begin_of, change_call, no_payload}
use Rattle.model.specs.declared.{geometry.Geometry.Geometry, answer.Answer.TheVariants.Done, change.Change.Change}
use Rattle.model.specs.declared.{change.Change.TheVariants.Put, state.Entry.Entry, state.Frame.Frame}
use Rattle.model.specs.declared.{state.State.State}
use Rattle.model.specs.declared.command.Command.TheVariants.{Begin, Force}
use Rattle.model.specs.AbstractLog.{Logged, logged_change, step_call}
use Rattle.planning.specs.Rehearsal.{page_row, set_row, with_record}
use Rattle.planning.specs.RehearsalRun.{Played, play_call}
use Rattle.model.specs.declared.change.Change.TheVariants.{Format}
use Rattle.planning.specs.declared.rehearsal.Victim.{Victim}
use Rattle.planning.specs.declared.rehearsal.Victim.TheVariants.{Written, Released}
use Rattle.planning.specs.declared.rehearsal.Settings.{Settings}
use Rattle.planning.specs.declared.rehearsal.FrameUse.{FrameUse}
use Rattle.planning.specs.declared.rehearsal.Figures.{Figures}
use Rattle.history.proofs.Logs.{no_logged, at, last_of, last-le, last-append, len_a, at_a, last_n, number-miss}
use Rattle.history.proofs.Marks.{mark-ok}
use Rattle.history.proofs.Context.{Ctx, sized, entry-is}
use Rattle.planning_theory.proofs.Counts.{count_at, count_of, count-append, count-new, count-other}
use Rattle.planning_theory.proofs.Chain.{Begun}
use Rattle.planning_theory.proofs.Play.{Run, Stage, rows_none, run-as, ctx-as}
use Rattle.planning_theory.proofs.Relation.{OnDisk, Mine, Sim, BackedAt, Backups, Rows, rows_more, backup-same, sim-keep}
use Rattle.planning_theory.proofs.StoreSteps.{Forced, force-step}
use Rattle.model.specs.declared.command.Command.TheVariants.{Change as ChangeCall}
use Rattle.model.specs.Types.{None}

-- ---- lists with one change more

begun_more : (k : List Logged) (c : Logged) → Begun k → (eqb (kind_of c.change) 1 ≡ true → last_of c.page k ≡ 0) → Begun (k ++ (c ∷ []))
begun_more k c f first i b t = elim (dec_lt i (length k)) [
  | yes y ↦
      let e : at (k ++ (c ∷ [])) i ≡ at k i = get_or-append k (c ∷ []) no_logged i y in
      rw (e, last-append (at k i).page k (c ∷ []) i (omega arith)) (f i y (rw e at t))
  | no z ↦
      let q : i ≡ length k = omega (arith, len_a k c) in
      rw (q, at_a k c, last_n k c c.page) (first (rw (q, at_a k c) at t))
]

pub sim-grow : (t : Settings) (events : List ℕ) (ms : List FrameUse) (g : Geometry) (v : List ℕ) (s : State) (k : List Logged) (f p : ℕ)
    (c : Logged) → c.page ≡ p
    → (eqb (kind_of c.change) 1 ≡ true → last_of c.page k ≡ 0) → Sim t events ms g v s k f p → Sim t events ms g v s (k ++ (c ∷ [])) f p
sim-grow t events ms g v s k f p c cp first x =
    record { frames = x.frames; inside = x.inside; begun = begun_more k c x.begun first; disk = go t.victim x.disk }
  where
    go : (w : Victim) → OnDisk w g v s k f p → OnDisk w g v s (k ++ (c ∷ [])) f p
    go Written h = λ q lo hi ne some. let e : last_of q (k ++ (c ∷ [])) ≡ last_of q k = number-miss k c q (λ z. ne (z ∙ cp)) in
        rw e (h q lo hi ne (rw e at some))
    go Released h = h

pub mine-dirty : (w : Victim) (g : Geometry) (v : List ℕ) (k : List Logged) (p : ℕ) → Mine w g v k p true
mine-dirty Written g v k p = inl refl
mine-dirty Released g v k p = refl

-- a remainder that does not come back to 0 goes up by one
pub mod-more : (n k : ℕ) → 1 ≤ k → suc n % k ≢ 0 → suc n % k ≡ n % k + 1
mod-more n k lo ne =
    let l : n % k < k = mod-lt n lo in
    elim (dec_lt (suc (n % k)) k) [
      | yes y ↦ suc-mod n k ∙ (mod-eq_of_lt y ∙ omega arith)
      | no z ↦ let e : suc (n % k) ≡ k = omega arith in absurd (ne (suc-mod n k ∙ (ap (λ (y : ℕ). y % k) e ∙ mod_self k)))
    ]

-- ---- the state with a record pending

module _ (s : State) (p f : ℕ) (size : length s.frames ≡ 16) (b : f < 16) where
  pub appended-row : frame_row (appended_state s p (suc f)) f ≡ record { page = p; dirty = true }
  unfolding appended_state
  appended-row = let row : suc f - 1 ≡ f = omega arith in
      rw row (get_or-set_same s.frames f (record { page = p; dirty = true }) empty_frame (omega arith))

  pub appended-other : (j : ℕ) → j ≢ f → frame_row (appended_state s p (suc f)) j ≡ frame_row s j
  unfolding appended_state
  appended-other j n = let row : suc f - 1 ≡ f = omega arith in
      rw row (get_or-set_other s.frames f j (record { page = p; dirty = true }) empty_frame n)

  appended-backups : (q : ℕ) → (entry_of (appended_state s p (suc f)).index q).backup ≡ (entry_of s.index q).backup
  unfolding appended_state
  appended-backups q = backup-same s.index p (with_last (entry_of s.index p) (last_number s + 1)) refl q

  appended-note : (appended_state s p (suc f)).note ≡ s.note
  unfolding appended_state
  appended-note = refl

-- ---- the two calls

-- a page has a change more, and its noted backup is as it was
pub record Changed (t : Settings) (events : List ℕ) (ms : List FrameUse) (g : Geometry) (v : List ℕ) (s : State) (k : List Logged)
    (f p n : ℕ) : Type 0 where
  pub sim : Sim t events ms g v s k f p
  pub quiet : s.note ≡ None
  pub row_is : frame_row s f ≡ record { page = p; dirty = true }
  pub alone : (j : ℕ) → j < 16 → j ≢ f → (frame_row s j).page ≢ p
  pub others : (q : ℕ) → 1 ≤ q → q ≤ g.pages → q ≢ p → BackedAt t s k q
  pub before : count_at p k (entry_of s.index p).backup + n % t.every ≡ n
  pub count : count_of p k ≡ suc n

pub backup-low : {C : Type 0} {g : Geometry} {v m : List ℕ} {past : List StoredItem} {s : State} {k w : List Logged}
    (x : Ctx C g v m past s k w) (p : ℕ) → 1 ≤ p → p ≤ g.pages
    → (entry_of s.index p).backup ≤ length k
backup-low {C} {g} {v} {m} {past} {s} {k} {w} x p lo hi =
    let e = ap (λ (y : Entry). y.backup) (entry-is x p lo hi) in
    omega (arith, (mark-ok g.pages g.slots k x.ns x.no.fit p (length x.ns) (omega arith)).backs, last-le p k (length k))

module _ {C : Type 0} {g : Geometry} {v m : List ℕ} {past : List StoredItem} {s : State} {k : List Logged} (x : Ctx C g v m past s k [])
    (t : Settings) (events : List ℕ) (ms : List FrameUse)
    (f p but : ℕ) (low : f < t.frames) (few : t.frames ≤ 16) (lo : 1 ≤ p) (hi : p ≤ g.pages) (fs : List Figures) (rows : Rows fs k)
    (sim : Sim t events ms g v s k f but) (within-but : (q : ℕ) → q ≢ p → q ≢ but ⊎ (q ≡ 0)) (bk : Backups t g s k)
    (quiet : s.note ≡ None)
    (alone : (j : ℕ) → j < 16 → j ≢ f → (frame_row s j).page ≢ p)
    (c : Logged) (cp : c.page ≡ p) (first : eqb (kind_of c.change) 1 ≡ true → last_of c.page k ≡ 0) where
  abbrev k' : List Logged
  k' = k ++ (c ∷ [])

  abbrev fs' : List Figures
  fs' = set_row fs p (with_record (page_row fs p))

  -- after the call that adds the record comes the Force
  pub changed-step : (r : Played) → Stage C g r fs k (c ∷ []) (λ v₁ s₁. (v₁ ≡ v) × (s₁ ≡ appended_state s p (suc f)))
      → (play_call r (Force, no_payload)).refused ≡ false
      → Stage C g (play_call r (Force, no_payload)) fs' k' [] (λ v' s'. Changed t events ms g v' s' k' f p (count_of p k) × Rows fs' k')
  changed-step r a nr =
      let no₁ : (play_call (Run a.volume a.memory a.past a.state fs) (Force, no_payload)).refused ≡ false = rw a.run_is at nr in
      let b = force-step c a.ctx fs no₁ in
      record {
        volume = b.volume;
        memory = b.memory;
        past = b.past;
        state = b.state;
        run_is = ap (λ (y : Played). play_call y (Force, no_payload)) a.run_is
            ∙ (b.run_is ∙ ap (λ (q : ℕ). Run b.volume b.memory b.past b.state (set_row fs q (with_record (page_row fs q)))) cp);
        ctx = b.ctx;
        holds = (
          after a.volume b.volume a.state b.state a.holds.0 a.holds.1 b.holds,
          rows_more fs p lo (omega (arith, (sized x).p-high)) rows.size k c cp (with_record (page_row fs p)) refl rows,
        );
      }
    where
      size : length s.frames ≡ 16
      size = x.al.frames.size

      f16 : f < 16
      f16 = omega arith

      same_count : (q : ℕ) → 1 ≤ q → q ≤ g.pages
          → count_at q (k ++ (c ∷ [])) (entry_of s.index q).backup ≡ count_at q k (entry_of s.index q).backup
      same_count q a b = count-append q k (c ∷ []) (entry_of s.index q).backup (backup-low x q a b)

      after : (v₁ v₂ : List ℕ) (s₁ s₂ : State) → v₁ ≡ v → s₁ ≡ appended_state s p (suc f) → Forced g v₁ v₂ s₁ s₂
          → Changed t events ms g v₂ s₂ (k ++ (c ∷ [])) f p (count_of p k)
      after v₁ v₂ s₁ s₂ ev es h =
          let rowj : (j : ℕ) → frame_row s₂ j ≡ frame_row (appended_state s p (suc f)) j =
          λ j. ap (λ (l : List Frame). get_or l j empty_frame) (h.frames-stay ∙ ap (λ (y : State). y.frames) es) in
          let bkup : (q : ℕ) → (entry_of s₂.index q).backup ≡ (entry_of s.index q).backup =
          λ q. h.backups-stay q ∙ (ap (λ (y : State). (entry_of y.index q).backup) es ∙ appended-backups s p f size f16 q) in
          record {
            sim = sim-grow t events ms g v₂ s₂ k f p c cp first
                (sim-keep t events ms g v v₂ s s₂ k f but p low (λ j b n. rowj j ∙ appended-other s p f size f16 j n)
                (λ q l u. h.pages-stay q l u ∙ ap (λ (y : List ℕ). item g y (page_at q)) ev) within-but sim);
            quiet = h.note-stays ∙ (ap (λ (y : State). y.note) es ∙ (appended-note s p f size f16 ∙ quiet));
            row_is = rowj f ∙ appended-row s p f size f16;
            alone = λ j b n. rw (rowj j ∙ appended-other s p f size f16 j n) (alone j b n);
            others = λ q l u ne. rw (bkup q, same_count q l u, count-other k c q (λ z. ne (z ∙ cp))) (bk q l u);
            before = rw (bkup p, same_count p lo hi) (bk p lo hi);
            count = subst (λ (q : ℕ). count_of q (k ++ (c ∷ [])) ≡ suc (count_of q k)) cp (count-new k c);
          }

-- ---- the call that adds the record

begin-done : (v m : List ℕ) (s : State) (p f fill : ℕ) → first_of (begin_rows v m s p f) ≡ 0
    → begin_of v m s p f fill
    ≡ record {
      answer = Done;
      state = appended_state s p f;
      memory = appended_memory m s p (Format fill) [] f (frame_image p (last_number s + 1) (replicate 244 fill));
      stored = nothing;
    }
unfolding decided begin_done
begin-done v m s p f fill e = rw e

change-done : (v m : List ℕ) (s : State) (p : ℕ) (c : Change) (payload : List ℕ) → first_of (change_rows v m s p c) ≡ 0
    → change_call v m s p c payload
    ≡ record {
      answer = Done;
      state = appended_state s p (holder s p);
      memory = appended_memory m s p c payload (holder s p)
          (changed_image (frame_bytes m (holder s p)) (last_number s + 1) (apply_change c payload (image_body (frame_bytes m (holder s p)))));
      stored = nothing;
    }
unfolding decided change_done
change-done v m s p c payload e = rw e

module _ {C : Type 0} {g : Geometry} {v m : List ℕ} {past : List StoredItem} {s : State} {k : List Logged} (x : Ctx C g v m past s k [])
    (fs : List Figures) (p f : ℕ) where
  pub begin-step : (fill : ℕ) → (play_call (Run v m past s fs) (Begin p (suc f) fill, no_payload)).refused ≡ false
      → Stage C g (play_call (Run v m past s fs) (Begin p (suc f) fill, no_payload)) fs k (logged_change p (Format fill) [] ∷ [])
      (λ v₁ s₁. (v₁ ≡ v) × (s₁ ≡ appended_state s p (suc f)))
  unfolding volume_after step_call
  begin-step fill nr =
      record {
        volume = v;
        memory = done.memory;
        past = nothing ∷ past;
        state = done.state;
        run_is = run-as v m past s fs (Begin p (suc f) fill, no_payload) nr refl done done-is;
        ctx = ctx-as v m past s fs (Begin p (suc f) fill, no_payload) nr x refl refl done done-is k
            (logged_change p (Format fill) [] ∷ []) refl;
        holds = (refl, refl);
      }
    where
      done : Outcome
      done =
          record {
            answer = Done;
            state = appended_state s p (suc f);
            memory = appended_memory m s p (Format fill) [] (suc f) (frame_image p (last_number s + 1) (replicate 244 fill));
            stored = nothing;
          }

      done-is : begin_of v m s p (suc f) fill ≡ done
      done-is = begin-done v m s p (suc f) fill (rows_none v m past s fs (Begin p (suc f) fill, no_payload) nr)

  pub put_step : holder s p ≡ suc f → (o n : ℕ) (payload : List ℕ) → length payload ≡ 44
      → (play_call (Run v m past s fs) (ChangeCall p (Put o n), payload)).refused ≡ false
      → Stage C g (play_call (Run v m past s fs) (ChangeCall p (Put o n), payload)) fs k (logged_change p (Put o n) payload ∷ [])
      (λ v₁ s₁. (v₁ ≡ v) × (s₁ ≡ appended_state s p (suc f)))
  unfolding volume_after step_call
  put_step h o n payload size nr =
      record {
        volume = v;
        memory = done.memory;
        past = nothing ∷ past;
        state = done.state;
        run_is = run-as v m past s fs (ChangeCall p (Put o n), payload) nr refl done done-is;
        ctx = ctx-as v m past s fs (ChangeCall p (Put o n), payload) nr x refl (eq-eqb (length payload) 44 size) done done-is k
            (logged_change p (Put o n) payload ∷ []) refl;
        holds = (refl, ap (appended_state s p) h);
      }
    where
      done : Outcome
      done =
          record {
            answer = Done;
            state = appended_state s p (holder s p);
            memory = appended_memory m s p (Put o n) payload (holder s p)
                (changed_image (frame_bytes m (holder s p)) (last_number s + 1)
                (apply_change (Put o n) payload (image_body (frame_bytes m (holder s p)))));
            stored = nothing;
          }

      done-is : change_call v m s p (Put o n) payload ≡ done
      done-is = change-done v m s p (Put o n) payload (rows_none v m past s fs (ChangeCall p (Put o n), payload) nr)

-- Start, Restamp and Finish keep the invariant, whole or cut short by a crash, under the tag that they leave.
use mathlib.Core.Path.{◌≡◌, refl, sym, ap, ◌∙◌, subst}
use mathlib.Core.Logic.{◌≢◌}
use mathlib.Core.Bool.{Bool, true, false, cond, not}
use mathlib.Core.List.{List, []}
use Prim.Native.Nat.{ℕ, ◌<◌}
use lib.ListN.{length}
use lib.Dec.{eqb, ltb}
use borrow.Author.Tests.{eqb-true, ltb-true}
use Rattle.laws.proofs.Tables.{by_cases, and_left, and_right, not-true, true-not-false}
use Rattle.laws.proofs.Carrying.{carrying}
use Rattle.laws.proofs.Carry.{image-in}
use Rattle.laws.proofs.Restamped.{opened, found-old, stored_is, stored-none}
use Rattle.laws.proofs.Progress.{finishes}
use Rattle.model.specs.Tables.{first_of}
use Rattle.model.specs.Checksum.{seal_image, image_sealed}
use Rattle.model.specs.Geometry.{tag_of, carry_tag, geometry_of, with_tag, Place, page_at, slot_at, record_at, note_at, item, store}
use Rattle.model.specs.Index.{slot_used}
use Rattle.model.specs.Passes.{is_image, only_old, image_count, image_place, old_at, first_old}
use Rattle.model.specs.Refusals.{start_carry_rows, restamp_rows, finish_carry_rows}
use Rattle.model.specs.Outcome.{StoredItem, nothing, one_item, new_heading, volume_after, decided}
use Rattle.model.specs.Effects.{restamp_done}
use Rattle.model.specs.Calls.{start_carry_of, restamp_of, finish_carry_of, Call, rows_of, outcome_of, no_payload}
use Rattle.model.specs.declared.{geometry.Geometry.Geometry, geometry.Heading.TheVariants.Second, state.Entry.Entry}
use Rattle.model.specs.declared.state.State.{State}
use Rattle.model.specs.declared.command.Command.TheVariants.{StartCarry, Restamp, FinishCarry}
use Rattle.model.specs.declared.answer.Answer.TheVariants.{Refused, Nothing}
use Rattle.model.specs.Carry.{carries}
use Rattle.model.specs.AbstractLog.{Logged, AbstractLog, Left, old, new, torn, left_new, forget, step_call, step_cut}
use Rattle.model.specs.History.{Power, on, off, is_start_carry, past_after, left_volume, left_past, start_fits, carriable, torn_fits}
use Rattle.history.proofs.Inv.{Inv}
use Rattle.history.proofs.Context.{Ctx, geo, keep_same}
use Rattle.history.proofs.Events.{inv-crash-between}
use Rattle.history.proofs.CarryKeeps.{start-tag, keep-started, keep-finished, keep-restamped, torn-restamp}

-- a tag that only a Start, or a Finish of what a Start began, makes another
abbrev pub Turns : Bool → Geometry → ℕ → Type 0
Turns start g tag = start ≡ false → g.tag ≢ carry_tag → tag ≡ g.tag

-- the invariant under such a tag, with the same counts
abbrev pub Tagged : Type 0 → Bool → Geometry → List ℕ → List StoredItem → Power → AbstractLog → Type 0
Tagged C start g v past y b = (tag : ℕ) × Turns start g tag × Inv C (with_tag g tag) v past y b

abbrev is_slot : Place → Bool
is_slot (page_at p) = false
is_slot (slot_at b) = true
is_slot (record_at n) = false
is_slot (note_at n) = false

-- the call's image, where the volume is torn, is not a noted backup's
abbrev pub in_noted : List Entry → StoredItem → Bool
in_noted index nothing = false
in_noted index (one_item (page_at p) xs) = false
in_noted index (one_item (slot_at b) xs) = slot_used b index
in_noted index (one_item (record_at n) xs) = false
in_noted index (one_item (note_at n) xs) = false
in_noted index (new_heading tag) = false

module _ {C : Type 0} {g : Geometry} {v m : List ℕ} {past : List StoredItem} {s : State} {k w : List Logged}
    (x : Ctx C g v m past s k w) where
  abbrev log : AbstractLog
  log = record { durable = k; pending = w }

  abbrev first : ℕ
  first = first_old g v s.index

  abbrev Carried : Call → Type 0
  Carried c = Tagged C (is_start_carry c) g (volume_after v (outcome_of c v m s).stored) (past_after c v (outcome_of c v m s).stored past)
      (on (outcome_of c v m s).memory (outcome_of c v m s).state)
      (cond (not (eqb (first_of (rows_of c v m s)) 0)) log (step_call log c))

  start-carried : start_fits (on m s) v (StartCarry, no_payload) ≡ true → Carried (StartCarry, no_payload)
  unfolding decided step_call volume_after
  start-carried f = by_cases (eqb (first_of (start_carry_rows v m s)) 0)
      (λ t.
      let fit : carriable g v s ≡ true = rw (geo x) at (rw t at f) in
      rw t (carry_tag, (λ z. absurd (true-not-false refl z)), keep-started x (start-tag x (eqb-true _ _ t)) fit))
      (λ t. rw t (g.tag, (λ z ne. refl), keep_same x (Refused (first_of (start_carry_rows v m s)))))

  finish-carried : Carried (FinishCarry, no_payload)
  unfolding decided step_call volume_after
  finish-carried = by_cases (eqb (first_of (finish_carry_rows v m s)) 0)
      (λ t.
      let q = finishes v m s (eqb-true _ _ t) in
      let tag : g.tag ≡ carry_tag = sym (ap (λ (y : Geometry). y.tag) (geo x)) ∙ q.tag in
      let none : (i : ℕ) → i < image_count g → old_at g v s.index i ≡ false = rw (geo x) at q.none in
      rw t (tag_of Second, (λ z ne. absurd (ne tag)), keep-finished x tag none))
      (λ t. rw t (g.tag, (λ z ne. refl), keep_same x (Refused (first_of (finish_carry_rows v m s)))))

  -- what a Restamp that finds an image has
  pub record Finds : Type 0 where
    pub tag : g.tag ≡ carry_tag
    pub found : first_old g v s.index < image_count g
    pub here : is_image g (image_place g (first_old g v s.index)) ≡ true
    pub was : only_old g s.index (image_place g (first_old g v s.index)) (item g v (image_place g (first_old g v s.index))) ≡ true

  pub finds : first_of (restamp_rows v m s) ≡ 0 → ltb first (image_count g) ≡ true → Finds
  finds h t =
      let b : first_old g v s.index < image_count g = ltb-true first (image_count g) t in
      let found : first_old (geometry_of v) v s.index < image_count (geometry_of v) = rw (geo x) b in
      record {
        tag = sym (ap (λ (y : Geometry). y.tag) (geo x)) ∙ (opened v m s h).tag;
        found = b;
        here = image-in g first b;
        was = rw (geo x) at (found-old v m s found);
      }

  restamp-carried : Carried (Restamp, no_payload)
  unfolding decided restamp_done step_call volume_after
  restamp-carried = by_cases (eqb (first_of (restamp_rows v m s)) 0)
      (λ t. rw (t, geo x) (by_cases (ltb first (image_count g))
      (λ u. let f = finds (eqb-true _ _ t) u in
      rw (u, geo x) (g.tag, (λ z ne. refl), keep-restamped x f.tag (image_place g first) f.here f.was))
      (λ u. rw u (g.tag, (λ z ne. refl), keep_same x Nothing))))
      (λ t. rw t (g.tag, (λ z ne. refl), keep_same x (Refused (first_of (restamp_rows v m s)))))

  pub inv-carry : (c : Call) → carries c ≡ true → start_fits (on m s) v c ≡ true → Carried c
  unfolding step_call
  inv-carry = carrying (λ c. start_fits (on m s) v c ≡ true → Carried c) (λ y. start-carried) (λ y t. restamp-carried)
      (λ y t. finish-carried)

  -- ---- cut

  abbrev Cut : Call → Left → Type 0
  Cut c l = Tagged C (is_start_carry c) g (left_volume v (outcome_of c v m s).stored l) (left_past c v (outcome_of c v m s).stored l past) off
      (forget (cond (not (eqb (first_of (rows_of c v m s)) 0)) log (step_cut log c l)))

  cut-old : {start : Bool} → Tagged C start g v past off (record { durable = k; pending = [] })
  cut-old = (g.tag, (λ z ne. refl), record { ns = x.ns; holds = x.hs; noted = x.no; past-ok = x.ps; live = tt })

  either : (t : Bool) (P : AbstractLog → Type 0) → P (forget log) → P (forget (cond t log log))
  either true P h = h
  either false P h = h

  cut-new : (c : Call) → (step_cut log c new ≡ step_call log c) → Carried c → Cut c new
  cut-new c e r = (
    r.0,
    r.1,
    rw e (inv-crash-between (with_tag g r.0) (volume_after v (outcome_of c v m s).stored) (past_after c v (outcome_of c v m s).stored past)
        (on (outcome_of c v m s).memory (outcome_of c v m s).state) _ r.2),
  )

  pub start-cut : (y : List ℕ) (l : Left) → (left_new l ≡ true → start_fits (on m s) v (StartCarry, y) ≡ true)
      → torn_fits (geometry_of v) (start_carry_of v m s).stored l ≡ true → Cut (StartCarry, y) l
  unfolding decided step_cut step_call
  start-cut y old f t = either (not (eqb (first_of (start_carry_rows v m s)) 0)) (λ b. Tagged C true g v past off b) cut-old
  start-cut y new f t = cut-new (StartCarry, y) refl (start-carried (f refl))
  start-cut y (torn xs) f t = by_cases (eqb (first_of (start_carry_rows v m s)) 0)
      (λ u. absurd (true-not-false (rw u at t) refl))
      (λ u. rw u cut-old)

  pub finish-cut : (y : List ℕ) (l : Left) → torn_fits (geometry_of v) (finish_carry_of v m s).stored l ≡ true → Cut (FinishCarry, y) l
  unfolding decided step_cut step_call
  finish-cut y old t = either (not (eqb (first_of (finish_carry_rows v m s)) 0)) (λ b. Tagged C false g v past off b) cut-old
  finish-cut y new t = cut-new (FinishCarry, y) refl finish-carried
  finish-cut y (torn xs) t = by_cases (eqb (first_of (finish_carry_rows v m s)) 0)
      (λ u. absurd (true-not-false (rw u at t) refl))
      (λ u. rw u cut-old)

  -- a torn restamp, of an image that is no noted backup's where C is claimed
  torn-cut : (at : Place) (ys zs : List ℕ) → Finds → at ≡ image_place g first → torn_fits g (one_item at zs) (torn ys) ≡ true
      → (C → in_noted s.index (one_item at zs) ≡ false)
      → Inv C g (store g v at ys) past off (record { durable = k; pending = [] })
  torn-cut at ys zs f e t un = go at e t un
    where
      go : (y : Place) → y ≡ image_place g first → torn_fits g (one_item y zs) (torn ys) ≡ true
          → (C → in_noted s.index (one_item y zs) ≡ false)
          → Inv C g (store g v y ys) past off (record { durable = k; pending = [] })
      go (page_at p) e t un =
          torn-restamp x f.tag (page_at p) (subst (λ (a : Place). is_image g a ≡ true) (sym e) f.here)
          (subst (λ (a : Place). only_old g s.index a (item g v a) ≡ true) (sym e) f.was) ys
          (eqb-true (length ys) 256 (and_left (eqb (length ys) 256) (not (image_sealed g ys)) t))
          (not-true (image_sealed g ys) (and_right (eqb (length ys) 256) (not (image_sealed g ys)) t)) (λ c b q. absurd (apart b q))
        where
          apart : (b : ℕ) → page_at p ≡ slot_at b → ⊥
          apart b q = true-not-false refl (sym (ap is_slot q))
      go (slot_at b) e t un =
          torn-restamp x f.tag (slot_at b) (subst (λ (a : Place). is_image g a ≡ true) (sym e) f.here)
          (subst (λ (a : Place). only_old g s.index a (item g v a) ≡ true) (sym e) f.was) ys
          (eqb-true (length ys) 256 (and_left (eqb (length ys) 256) (not (image_sealed g ys)) t))
          (not-true (image_sealed g ys) (and_right (eqb (length ys) 256) (not (image_sealed g ys)) t))
          (λ c n q. subst (λ (y : Place). in_noted s.index (one_item y zs) ≡ false) q (un c))
      go (record_at n) e t un = absurd (true-not-false (subst (λ (a : Place). is_image g a ≡ true) (sym e) f.here) refl)
      go (note_at n) e t un = absurd (true-not-false (subst (λ (a : Place). is_image g a ≡ true) (sym e) f.here) refl)

  cut-found : (ys : List ℕ) → first_of (restamp_rows v m s) ≡ 0 → ltb first (image_count g) ≡ true
      → torn_fits (geometry_of v) (restamp_of v m s).stored (torn ys) ≡ true
      → (C → in_noted s.index (restamp_of v m s).stored ≡ false)
      → Tagged C false g (left_volume v (restamp_of v m s).stored (torn ys)) past off (record { durable = k; pending = [] })
  unfolding volume_after
  cut-found ys h z t un =
      let found : ltb (first_old (geometry_of v) v s.index) (image_count (geometry_of v)) ≡ true = rw (geo x) z in
      let st : (restamp_of v m s).stored ≡ one_item (image_place g first) (seal_image g (item g v (image_place g first))) =
      rw (geo x) at (stored_is v m s h found) in
      rw (st, geo x) (
        g.tag,
        (λ z ne. refl),
        torn-cut (image_place g first) ys (seal_image g (item g v (image_place g first))) (finds h z) refl
            (rw (st, geo x) at t) (λ c. rw st at (un c)),
      )

  cut-none : (ys : List ℕ) → first_of (restamp_rows v m s) ≡ 0 → ltb first (image_count g) ≡ false
      → Tagged C false g (left_volume v (restamp_of v m s).stored (torn ys)) past off (record { durable = k; pending = [] })
  cut-none ys h z =
      let none : ltb (first_old (geometry_of v) v s.index) (image_count (geometry_of v)) ≡ false = rw (geo x) z in
      rw (stored-none v m s h none) cut-old

  pub stored_refused : eqb (first_of (restamp_rows v m s)) 0 ≡ false → (restamp_of v m s).stored ≡ nothing
  unfolding decided restamp_done
  stored_refused t = rw t

  pub restamp-cut : (y : List ℕ) (l : Left) → torn_fits (geometry_of v) (restamp_of v m s).stored l ≡ true
      → (C → (xs : List ℕ) → l ≡ torn xs → in_noted s.index (restamp_of v m s).stored ≡ false) → Cut (Restamp, y) l
  unfolding step_cut step_call
  restamp-cut y old t un = either (not (eqb (first_of (restamp_rows v m s)) 0)) (λ b. Tagged C false g v past off b) cut-old
  restamp-cut y new t un = cut-new (Restamp, y) refl restamp-carried
  restamp-cut y (torn ys) t un = by_cases (eqb (first_of (restamp_rows v m s)) 0)
      (λ u. rw u (by_cases (ltb first (image_count g))
      (λ z. cut-found ys (eqb-true _ _ u) z t (λ c. un c ys refl))
      (λ z. cut-none ys (eqb-true _ _ u) z)))
      (λ u. rw (u, stored_refused u) cut-old)

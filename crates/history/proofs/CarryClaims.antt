-- What carrying a volume over promises of histories: every inspection stays the same, the heading alone is blamed, and the same bodies and
-- numbers are found as if no carrying had begun.
use mathlib.Core.Path.{◌≡◌, refl, sym, ap, ◌∙◌, subst}
use mathlib.Core.Logic.{◌≢◌, ◌⊎◌, inl, inr, ◌↔◌}
use mathlib.Core.Bool.{Bool, true, false, cond, ◌&&◌, not}
use mathlib.Core.List.{List, [], append-nil}
use Prim.Native.Nat.{ℕ, ◌≤◌, ◌<◌}
use native.Mathlib.Omega.{arith}
use native.Mathlib.Decide.{ℕ_discrete}
use lib.ListN.{length}
use lib.Dec.{eqb, ltb}
use borrow.Author.Tests.{eqb-true}
use Rattle.laws.proofs.Tables.{by_cases, and_left, and_right, within-bounds, within-holds, true-not-false}
use Rattle.laws.proofs.Carrying.{carrying}
use Rattle.laws.proofs.Headings.{headed-tag, tag-headed, no-ring}
use Rattle.laws.proofs.Carry.{words_hold, bytes_hold, placed, only-old, image-place}
use Rattle.laws.proofs.Restamped.{image-number, images-apart, stored_is, stored-none}
use Rattle.laws.proofs.Progress.{finishes}
use Rattle.laws.proofs.Places.{In, item-length}
use Rattle.laws.proofs.Items.{seal_image-length}
use Rattle.model.specs.Tables.{first_of}
use Rattle.model.specs.Checksum.{seal_image}
use Rattle.model.specs.Geometry.{tag_of, carry_tag, headed, geometry_of, Place, page_at, slot_at, record_at, note_at, width}
use Rattle.model.specs.Geometry.{start, item, store, store_heading, ring, log_slot}
use Rattle.model.specs.Item.{image_lsn, valid_image}
use Rattle.model.specs.Passes.{is_image, image_count, image_place, old_at, first_old, old_left}
use Rattle.model.specs.Refusals.{start_carry_rows, restamp_rows, finish_carry_rows}
use Rattle.model.specs.Outcome.{StoredItem, new_heading, volume_after, refusal_of, decided}
use Rattle.model.specs.Calls.{start_carry_of, restamp_of, finish_carry_of, Call, outcome_of, no_payload}
use Rattle.model.specs.Restart.{inspect_of}
use Rattle.model.specs.declared.{geometry.Geometry.Geometry, state.State.State}
use Rattle.model.specs.declared.command.Command.TheVariants.{StartCarry, Restamp, FinishCarry}
use Rattle.model.specs.declared.geometry.Heading.TheVariants.{First, Second}
use Rattle.model.specs.AbstractLog.{Logged}
use Rattle.model.specs.History.{Power, on, payload_fits, start_fits, carriable, is_on, allowed}
use Rattle.model.specs.Claim.{History, Legal, reached, durable_of, Begins}
use Rattle.model.specs.Health.{Same}
use Rattle.model.specs.Carry.{carries, CarrySame, OnlyHeading, AsIfNotBegun, CarryHistory}
use Rattle.history.proofs.Marks.{mark_at, mark-ok}
use Rattle.history.proofs.Sections.{volume-size, store_same, store_other}
use Rattle.history.proofs.Context.{Ctx, sized, geo}
use Rattle.history.proofs.Turn.{SameImages, turn_holds, turn-noted}
use Rattle.history.proofs.Carry.{restamp-lsn, restamp-judged}
use Rattle.history.proofs.CarryKeeps.{start-tag, started-images, finished-images, restamped-holds, restamped-noted}
use Rattle.history.proofs.CarryCalls.{Finds, finds, stored_refused}
use Rattle.history.proofs.CarrySame.{Alike, inspections-same, log-in, heading-alike}
use Rattle.history.proofs.WellFormed.{volume-ok}
use Rattle.history.proofs.Refusals.{call-refusal, own_rows, rows_are, call-ordinary}
use Rattle.history.proofs.Reached.{live}
use Rattle.history.proofs.Theorem.{demand3}

-- row 1, before others
one-by : (t : Bool) (rest : ℕ) → rest ≢ 1 → {n : ℕ} {P : Type 0} → n ≡ cond (not t) 1 rest → (t ≡ false) ↔ P → (n ≡ 1) ↔ P
one-by true rest ne e f = ((λ z. absurd (ne (sym e ∙ z))), (λ p. absurd (true-not-false refl (f.1 p))))
one-by false rest ne e f = ((λ z. f.0 refl), (λ p. e))

same_refl : (v : List ℕ) (p : ℕ) (buffer : List ℕ) → Same (inspect_of v p buffer) (inspect_of v p buffer)
same_refl v p buffer = record { answer = refl; bytes = λ z. refl }

module _ {C : Type 0} {g : Geometry} {v m : List ℕ} {past : List StoredItem} {s : State} {k w : List Logged}
    (x : Ctx C g v m past s k w) where
  abbrev SameAfter : StoredItem → Type 0
  SameAfter i = (p : ℕ) (buffer : List ℕ) → Same (inspect_of (volume_after v i) p buffer) (inspect_of v p buffer)

  -- ---- Start and Finish

  heading-same : (tag : ℕ) (plain : ring g ≡ false) (known : (tag ≡ carry_tag) ⊎ (tag ≡ tag_of Second)) (same : SameImages g tag v x.ns)
      → SameAfter (new_heading tag)
  unfolding volume_after
  heading-same tag plain known same p buffer =
      inspections-same g v k x.hs x.ns x.no plain tag (store_heading v tag)
      (turn_holds g v k x.hs x.ns x.no tag plain known same)
      (turn-noted g v k x.hs x.ns x.no tag plain known same)
      (heading-alike g v k x.hs x.ns x.no tag plain known same) p buffer

  start-same : start_fits (on m s) v (StartCarry, no_payload) ≡ true → SameAfter (start_carry_of v m s).stored
  unfolding decided volume_after
  start-same f = by_cases (eqb (first_of (start_carry_rows v m s)) 0)
      (λ t.
      let fit : carriable g v s ≡ true = rw (geo x) at (rw t at f) in
      let tag : g.tag ≡ tag_of First = start-tag x (eqb-true _ _ t) in
      rw t (heading-same carry_tag (no-ring g (rw tag refl)) (inl refl) (started-images x tag fit)))
      (λ t. rw t (same_refl v))

  finish-same : SameAfter (finish_carry_of v m s).stored
  unfolding decided volume_after
  finish-same = by_cases (eqb (first_of (finish_carry_rows v m s)) 0)
      (λ t.
      let q = finishes v m s (eqb-true _ _ t) in
      let tag : g.tag ≡ carry_tag = sym (ap (λ (y : Geometry). y.tag) (geo x)) ∙ q.tag in
      let none : (i : ℕ) → i < image_count g → old_at g v s.index i ≡ false = rw (geo x) at q.none in
      rw t (heading-same (tag_of Second) (no-ring g (rw tag refl)) (inr refl) (finished-images x tag none)))
      (λ t. rw t (same_refl v))

  -- ---- Restamp

  module _ (f : Finds x) where
    abbrev at : Place
    at = image_place g (first_old g v s.index)

    abbrev stamped : List ℕ
    stamped = seal_image g (item g v (image_place g (first_old g v s.index)))

    abbrev after : List ℕ
    after = store g v at stamped

    in_place : In g at
    in_place = (image-place g at f.here).0

    wide : width at ≡ 256
    wide = (image-place g at f.here).1

    old-size : length (item g v at) ≡ 256
    old-size = item-length g v (volume-size g v x.hs.vol) at in_place ∙ wide

    new-size : length stamped ≡ width at
    new-size = seal_image-length g (item g v at) old-size ∙ sym wide

    words : words_hold (item g v at) ≡ true
    words = and_left (words_hold (item g v at)) (not (bytes_hold (item g v at)) && placed g.pages s.index at (item g v at))
        (sym (only-old g s.index at (item g v at) f.here) ∙ f.was)

    abbrev Judged : Place → ℕ → Type 0
    Judged a q = (valid_image g q (item g after a) ≡ valid_image g q (item g v a)) × (image_lsn (item g after a) ≡ image_lsn (item g v a))

    here-judged : (q : ℕ) → Judged at q
    here-judged q =
        let e = store_same g v x.hs.vol at stamped in_place new-size in (
          ap (valid_image g q) e ∙ restamp-judged g f.tag (item g v at) old-size words q,
          ap image_lsn e ∙ restamp-lsn g f.tag (item g v at) old-size,
        )

    judged : (a : Place) → is_image g a ≡ true → (q : ℕ) → Judged a q
    judged a i q =
        let n = image-number g a i in
        subst (λ (y : Place). Judged y q) n.place_is (elim (ℕ_discrete n.number (first_old g v s.index)) [
          | yes e ↦ rw e (here-judged q)
          | no e ↦
              let o = store_other g v x.hs.vol at stamped in_place new-size (image_place g n.number)
              (subst (In g) (sym n.place_is) (image-place g a i).0)
              (images-apart g n.number (first_old g v s.index) n.below f.found e) in
              (ap (valid_image g q) o, ap image_lsn o)
        ])

    record_apart : (a : Place) → is_image g a ≡ true → (j : ℕ) → 1 ≤ j → start g (record_at j) ≢ start g a
    record_apart (page_at p) i j lo e = let w = within-bounds g.pages p i in omega arith
    record_apart (slot_at b) i j lo e = let w = within-bounds g.slots b i in omega arith
    record_apart (record_at n) i j lo e = true-not-false i refl
    record_apart (note_at n) i j lo e = true-not-false i refl

    restamp-alike : Alike g v k x.ns g.tag after
    restamp-alike =
        record {
          own = λ p lo hi. judged (page_at p) (within-holds g.pages p lo hi) p;
          copy = λ p lo hi nz.
              let high = (mark-ok g.pages g.slots k x.ns x.no.fit p (length x.ns) (omega arith)).slots in
              judged (slot_at (mark_at p x.ns (length x.ns)).slot)
              (within-holds g.slots (mark_at p x.ns (length x.ns)).slot (omega arith) high) p;
          log = λ n.
              let i = log-in g (sized x).l-low n in
              store_other g v x.hs.vol at stamped in_place new-size (log_slot g n) i (record_apart at f.here _ i.0);
        }

    found-same : (p : ℕ) (buffer : List ℕ) → Same (inspect_of after p buffer) (inspect_of v p buffer)
    found-same p buffer =
        inspections-same g v k x.hs x.ns x.no (no-ring g (rw f.tag refl)) g.tag after
        (restamped-holds x f.tag at f.here f.was)
        (restamped-noted x f.tag at f.here f.was) restamp-alike p buffer

  restamp-same : SameAfter (restamp_of v m s).stored
  unfolding volume_after
  restamp-same = by_cases (eqb (first_of (restamp_rows v m s)) 0)
      (λ t. by_cases (ltb (first_old g v s.index) (image_count g))
      (λ u.
      let found : ltb (first_old (geometry_of v) v s.index) (image_count (geometry_of v)) ≡ true = rw (geo x) u in
      rw (stored_is v m s (eqb-true _ _ t) found, geo x) (found-same (finds x (eqb-true _ _ t) u)))
      (λ u.
      let none : ltb (first_old (geometry_of v) v s.index) (image_count (geometry_of v)) ≡ false = rw (geo x) u in
      rw (stored-none v m s (eqb-true _ _ t) none) (same_refl v)))
      (λ t. rw (stored_refused x t) (same_refl v))

  call_same : (c : Call) → carries c ≡ true → start_fits (on m s) v c ≡ true → SameAfter (outcome_of c v m s).stored
  call_same =
      carrying (λ c. start_fits (on m s) v c ≡ true → SameAfter (outcome_of c v m s).stored) (λ y. start-same)
      (λ y t. restamp-same) (λ y t. finish-same)

  -- ---- 1 exactly

  not-headed : (tag : ℕ) → (headed tag v ≡ false) ↔ ((geometry_of v).tag ≢ tag)
  not-headed tag = (
    λ f e. true-not-false (tag-headed tag v (volume-ok x) e) f,
    λ ne. by_cases (headed tag v) (λ t. absurd (ne (headed-tag tag v t))) (λ t. t),
  )

  start-one : (refusal_of (start_carry_of v m s).answer ≡ 1) ↔ ((geometry_of v).tag ≢ tag_of First)
  unfolding own_rows
  start-one =
      let e : refusal_of (start_carry_of v m s).answer ≡ cond (not (headed (tag_of First) v)) 1 0 = call-refusal (StartCarry, no_payload) v m s
      ∙ rows_are x (StartCarry, no_payload) in
      one-by (headed (tag_of First) v) 0 (λ z. omega arith) e (not-headed (tag_of First))

  restamp-one : (refusal_of (restamp_of v m s).answer ≡ 1) ↔ ((geometry_of v).tag ≢ carry_tag)
  unfolding own_rows
  restamp-one =
      let e : refusal_of (restamp_of v m s).answer ≡ cond (not (headed carry_tag v)) 1 0 = call-refusal (Restamp, no_payload) v m s ∙ rows_are x (Restamp, no_payload) in
      one-by (headed carry_tag v) 0 (λ z. omega arith) e (not-headed carry_tag)

  finish-one : (refusal_of (finish_carry_of v m s).answer ≡ 1) ↔ ((geometry_of v).tag ≢ carry_tag)
  unfolding own_rows
  finish-one =
      let left : ℕ = cond (old_left (geometry_of v) v s.index) 20 0 in
      let e : refusal_of (finish_carry_of v m s).answer ≡ cond (not (headed carry_tag v)) 1 left = call-refusal (FinishCarry, no_payload) v m s
      ∙ rows_are x (FinishCarry, no_payload) in
      one-by (headed carry_tag v) left (by_cases (old_left (geometry_of v) v s.index) (λ t. rw t (λ z. omega arith))
      (λ t. rw t (λ z. omega arith))) e (not-headed carry_tag)

-- ---- every legal history

carry_same : CarrySame
unfolding allowed
carry_same h legal m s e c o t p buffer =
    let on-s = subst (λ (y : Power). (is_on y && (payload_fits c && start_fits y (reached h).volume c)) ≡ true) e t in
    call_same (live h legal m s e) c o (and_right (payload_fits c) (start_fits (on m s) (reached h).volume c) on-s) p buffer

only-heading : (h : History) → Legal h → (m : List ℕ) (s : State) → (reached h).power ≡ on m s → OnlyHeading h m s
only-heading h legal m s e =
    let x = live h legal m s e in
    record { start = start-one x; restamp = restamp-one x; finish = finish-one x; others = λ c o. (call-ordinary x c o).not-volume }

-- demand 3's direction from equal kept lists
as-if-not-begun : AsIfNotBegun
as-if-not-begun h k lh lk same sth stk sh sk e x y sx sy =
    let b : Begins (durable_of h) (durable_of h) = ([], append-nil (durable_of h)) in
    let c : Begins (durable_of k) (durable_of h) = ([], append-nil (durable_of k) ∙ sym e) in
    (demand3 h k lh lk same sh sk (durable_of h) b c x y sx sy).1 (ap length e)

pub carry-history : CarryHistory
carry-history = record { same = carry_same; heading = only-heading; as_if_not_begun = as-if-not-begun }

-- Carrying a volume over, on any volume, memory and state: each Restamp that is done leaves one image less, then comes Nothing, and only
-- then Finish; neither drops an image.
use mathlib.Core.Path.{◌≡◌, refl, sym, ◌∙◌, subst}
use mathlib.Core.Logic.{◌≢◌, ◌↔◌}
use mathlib.Core.Bool.{Bool, true, false, cond, ◌&&◌, ◌||◌, not}
use mathlib.Core.List.{List, [], ◌∷◌}
use Prim.Native.Nat.{ℕ, zero, suc, ◌<◌}
use native.Mathlib.Omega.{arith}
use lib.Dec.{eqb, ltb}
use lib.ListN.{length, take}
use borrow.Author.Tests.{eqb-false, ltb-true, not-false}
use Rattle.laws.proofs.Tables.{by_cases, none-at}
use Rattle.laws.proofs.Headings.{headed-tag, item-tag, item-heading, geometry-heading}
use Rattle.laws.proofs.Search.{count_most, count_none, count-some}
use Rattle.laws.proofs.Carry.{words_hold, bytes_hold, placed, passes-split, sealed-bytes, sealed-either, only-old, image-place}
use Rattle.laws.proofs.WellFormed.{ready-behind}
use Rattle.laws.proofs.Decided.{number_is}
use Rattle.model.specs.Tables.{Row, first_of}
use Rattle.model.specs.Geometry.{tag_of, carry_tag, headed, geometry_of, valid_volume, Place, page_at, slot_at, record_at, note_at, item}
use Rattle.model.specs.Passes.{is_image, by_byte_sum, only_old, image_count, old_at, first_old, old_left}
use Rattle.model.specs.State.{frame_count, valid_memory, well_formed}
use Rattle.model.specs.Refusals.{restamp_rows, finish_carry_rows}
use Rattle.model.specs.Outcome.{new_heading, volume_after, storing, refusal_of, decided}
use Rattle.model.specs.Effects.{restamp_done}
use Rattle.model.specs.Calls.{restamp_of, finish_carry_of}
use Rattle.model.specs.Carry.{old_count, restamps, AllDone, Progress, passes_on, DropsNone}
use Rattle.model.specs.declared.{geometry.Heading.TheVariants.Second, state.State.State}
use Rattle.model.specs.declared.answer.Answer.TheVariants.{Refused, Nothing, Done}
use Rattle.laws.proofs.Restamped.{is_done, not_done, is_nothing, not-nothing, image-number, opened, left-found}
use Rattle.laws.proofs.Restamped.{found-old, found_none, answer-found, done-rows, stored_is, stored-none}
use Rattle.laws.proofs.Restamped.{same-geometry, one_less, after-passes, after_front, rows-again}

-- ---- progress

lowers : (v m : List ℕ) (s : State) → (restamp_of v m s).answer ≡ Done
    → old_count v s ≡ suc (old_count (volume_after v (restamp_of v m s).stored) s)
unfolding volume_after
lowers v m s e =
    let d = done-rows v m s e in
    let b = ltb-true (first_old (geometry_of v) v s.index) (image_count (geometry_of v)) d.1 in
    let o = opened v m s d.0 in
    rw (stored_is v m s d.0 d.1, same-geometry v m s o b) (one_less v m s o b)

nothing_left : (v m : List ℕ) (s : State) → first_of (restamp_rows v m s) ≡ 0 → ((restamp_of v m s).answer ≡ Nothing) ↔ (old_count v s ≡ 0)
unfolding is_nothing
nothing_left v m s h =
    let n = image_count (geometry_of v) in
    let i = first_old (geometry_of v) v s.index in
    let a = answer-found v m s h in (
      λ e. by_cases (ltb i n)
          (λ t. absurd (not-nothing _ (rw (a, t) refl) e))
          (λ t. count_none (old_at (geometry_of v) v s.index) n (found_none v m s t)),
      λ z. by_cases (ltb i n)
          (λ t. absurd (let b = ltb-true i n t in
          let c = count-some (old_at (geometry_of v) v s.index) n i b (found-old v m s b) in omega (arith, c)))
          (λ t. rw (a, t)),
    )

some_left : (v m : List ℕ) (s : State) → first_of (restamp_rows v m s) ≡ 0 → old_count v s ≢ 0 → (restamp_of v m s).answer ≡ Done
some_left v m s h ne =
    let a = answer-found v m s h in
    by_cases (ltb (first_old (geometry_of v) v s.index) (image_count (geometry_of v)))
    (λ t. rw (a, t))
    (λ t. absurd (ne (count_none (old_at (geometry_of v) v s.index) (image_count (geometry_of v)) (found_none v m s t))))

ends : (k : ℕ) (v m : List ℕ) (s : State) → old_count v s ≡ k → first_of (restamp_rows v m s) ≡ 0
    → AllDone k v m s × ((restamp_of (restamps k v m s) m s).answer ≡ Nothing)
unfolding AllDone restamps volume_after
ends zero v m s e h = (tt, (nothing_left v m s h).1 e)
ends (suc k) v m s e h =
    let dn = some_left v m s h (λ z. omega arith) in
    let d = done-rows v m s dn in
    let o = opened v m s h in
    let b = ltb-true (first_old (geometry_of v) v s.index) (image_count (geometry_of v)) d.1 in
    let l : old_count (volume_after v (restamp_of v m s).stored) s ≡ k = let q = lowers v m s dn in omega arith in
    let r : first_of (restamp_rows (volume_after v (restamp_of v m s).stored) m s) ≡ 0 =
    rw (stored_is v m s h d.1, rows-again v m s o b) h in
    let x = ends k (volume_after v (restamp_of v m s).stored) m s l r in
    ((dn, x.0), x.1)

-- 20 and Done, by the tests of the rows
twenty : (a b c d t : Bool)
    → (first_of ((a, 1) ∷ (b, 1) ∷ (c, 2) ∷ (d, 2) ∷ (t, 20) ∷ []) ≡ 20)
    ↔ (cond (eqb (first_of ((a, 1) ∷ (b, 1) ∷ (c, 2) ∷ (d, 2) ∷ [])) 0) (cond t Done Nothing)
    (Refused (first_of ((a, 1) ∷ (b, 1) ∷ (c, 2) ∷ (d, 2) ∷ []))) ≡ Done)
unfolding is_done
twenty true b c d t = (λ e. absurd (eqb-false 1 20 refl e), λ e. absurd (not_done _ refl e))
twenty false true c d t = (λ e. absurd (eqb-false 1 20 refl e), λ e. absurd (not_done _ refl e))
twenty false false true d t = (λ e. absurd (eqb-false 2 20 refl e), λ e. absurd (not_done _ refl e))
twenty false false false true t = (λ e. absurd (eqb-false 2 20 refl e), λ e. absurd (not_done _ refl e))
twenty false false false false true = (λ e. refl, λ e. refl)
twenty false false false false false = (λ e. absurd (eqb-false 0 20 refl e), λ e. absurd (not_done _ refl e))

restamp-answer : (v m : List ℕ) (s : State) → (restamp_of v m s).answer
    ≡ cond (eqb (first_of (restamp_rows v m s)) 0) (cond (old_left (geometry_of v) v s.index) Done Nothing)
    (Refused (first_of (restamp_rows v m s)))
unfolding decided restamp_done
restamp-answer v m s = rw (left-found v m s) (by_cases (eqb (first_of (restamp_rows v m s)) 0)
    (λ t. rw t (by_cases (ltb (first_old (geometry_of v) v s.index) (image_count (geometry_of v))) (λ u. rw u) (λ u. rw u)))
    (λ t. rw t))

pub finish-refusal : (v m : List ℕ) (s : State) → refusal_of (finish_carry_of v m s).answer ≡ first_of (finish_carry_rows v m s)
unfolding decided
finish-refusal v m s = number_is (finish_carry_rows v m s) m s (storing (new_heading (tag_of Second)) m s) refl

finish-left : (v m : List ℕ) (s : State) → (refusal_of (finish_carry_of v m s).answer ≡ 20) ↔ ((restamp_of v m s).answer ≡ Done)
unfolding finish_carry_rows restamp_rows
finish-left v m s =
    rw (finish-refusal v m s, restamp-answer v m s)
    (twenty (not (headed carry_tag v)) (not (valid_volume v)) (not (valid_memory (length m)))
    (not (well_formed (geometry_of v) (frame_count (length m)) s)) (old_left (geometry_of v) v s.index))

pub progress : Progress
progress =
    record {
      lowers = lowers;
      few = λ v s. count_most (old_at (geometry_of v) v s.index) (image_count (geometry_of v));
      ends = λ v m s h. ends (old_count v s) v m s refl h;
      nothing = nothing_left;
      finish = finish-left;
    }

-- ---- no image is dropped

-- what a Finish that is not refused met
pub record Finishes (v m : List ℕ) (s : State) : Type 0 where
  pub volume : valid_volume v ≡ true
  pub tag : (geometry_of v).tag ≡ carry_tag
  pub none : (i : ℕ) → i < image_count (geometry_of v) → old_at (geometry_of v) v s.index i ≡ false
  pub stored : (finish_carry_of v m s).stored ≡ new_heading (tag_of Second)

pub finishes : (v m : List ℕ) (s : State) → first_of (finish_carry_rows v m s) ≡ 0 → Finishes v m s
unfolding decided finish_carry_rows
finishes v m s h =
    let rest : List Row = (old_left (geometry_of v) v s.index, 20) ∷ [] in
    let r = ready-behind (not (headed carry_tag v)) v m s rest h in
    let n = none-at rest (eqb-false 20 0 refl, tt) r.1.rest 0 in
    record {
      volume = r.1.volume;
      tag = headed-tag carry_tag v (not-false _ r.0);
      none = found_none v m s (sym (left-found v m s) ∙ n);
      stored = rw h;
    }

finish-drops : (v m : List ℕ) (s : State) → refusal_of (finish_carry_of v m s).answer ≡ 0 → (at : Place) → is_image (geometry_of v) at ≡ true
    → passes_on (volume_after v (finish_carry_of v m s).stored) s at ≡ passes_on v s at
unfolding volume_after
finish-drops v m s z at i =
    let f = finishes v m s (sym (finish-refusal v m s) ∙ z) in
    let g = geometry_of v in
    let k = image-number g at i in
    let q = image-place g at i in
    let x = item g v at in
    let same : item (by_byte_sum g) (volume_after v (new_heading (tag_of Second))) at ≡ x =
    item-tag g (tag_of Second) (volume_after v (new_heading (tag_of Second))) at ∙ item-heading v f.volume (tag_of Second) g at q.0 in
    let no : (words_hold x && (not (bytes_hold x) && placed g.pages s.index at x)) ≡ false =
    sym (only-old g s.index at x i)
    ∙ subst (λ (p : Place). only_old g s.index p (item g v p) ≡ false) k.place_is (f.none k.number k.below) in
    rw (f.stored, geometry-heading v f.volume (tag_of Second), same)
    (rw (
      passes-split (by_byte_sum g) s.index at x (tagged at i),
      passes-split g s.index at x i,
      sealed-bytes g x,
      sealed-either g x f.tag,
    )
    (both (words_hold x) (bytes_hold x) (placed g.pages s.index at x) no))
  where
    both : (w b c : Bool) → (w && (not b && c)) ≡ false → (b && c) ≡ ((w || b) && c)
    both true true c h = refl
    both true false c h = sym h
    both false b c h = refl

    tagged : (at : Place) → is_image (geometry_of v) at ≡ true → is_image (by_byte_sum (geometry_of v)) at ≡ true
    tagged (page_at p) i = i
    tagged (slot_at b) i = i
    tagged (record_at n) i = i
    tagged (note_at n) i = i

pub restamp-refusal : (v m : List ℕ) (s : State) → refusal_of (restamp_of v m s).answer ≡ first_of (restamp_rows v m s)
unfolding decided restamp_done
restamp-refusal v m s = number_is (restamp_rows v m s) m s _
    (by_cases (ltb (first_old (geometry_of v) v s.index) (image_count (geometry_of v))) (λ t. rw t) (λ t. rw t))

restamp-drops : (v m : List ℕ) (s : State) → refusal_of (restamp_of v m s).answer ≡ 0 → (at : Place) → is_image (geometry_of v) at ≡ true
    → (passes_on (volume_after v (restamp_of v m s).stored) s at ≡ passes_on v s at)
    × (take 252 (item (geometry_of v) (volume_after v (restamp_of v m s).stored) at) ≡ take 252 (item (geometry_of v) v at))
unfolding volume_after
restamp-drops v m s z at i =
    let h : first_of (restamp_rows v m s) ≡ 0 = sym (restamp-refusal v m s) ∙ z in
    let k = image-number (geometry_of v) at i in
    by_cases (ltb (first_old (geometry_of v) v s.index) (image_count (geometry_of v)))
    (λ t.
    let o = opened v m s h in
    let b = ltb-true (first_old (geometry_of v) v s.index) (image_count (geometry_of v)) t in
    rw (stored_is v m s h t, same-geometry v m s o b, ← k.place_is)
    (after-passes v m s o b k.number k.below, after_front v m s o b k.number k.below))
    (λ t. rw (stored-none v m s h t) (refl, refl))

pub drops-none : DropsNone
drops-none = record { finish = finish-drops; restamp = restamp-drops }

-- What the definitions of Start, Restamp and Finish say in each of their cases.
use mathlib.Core.Path.{◌≡◌, refl, sym, ap, ◌∙◌}
use mathlib.Core.Bool.{true, false}
use mathlib.Core.List.{List, []}
use Prim.Native.Nat.{ℕ, ◌+◌, ◌-◌, ◌≤◌, ◌<◌}
use native.Mathlib.Omega.{arith}
use lib.Dec.{ltb}
use lib.ListN.{length, take, drop}
use borrow.Author.Tests.{lt-ltb, ltb-true}
use borrow.Rule.Slice.PartMut.{put_mid}
use Rattle.laws.proofs.Tables.{by_cases, when_true, when_false}
use Rattle.laws.proofs.Gives.{Gives, gives-is, refused, passed, idle}
use Rattle.laws.proofs.Parts.{put_item, part-lent, part_length}
use Rattle.laws.proofs.Items.{seal_image-length}
use Rattle.model.specs.Tables.{Row, first_of}
use Rattle.model.specs.Refused.{refusal_number}
use Rattle.model.specs.Bytes.{part, splice}
use Rattle.model.specs.Checksum.{seal_image}
use Rattle.model.specs.Geometry.{tag_of, carry_tag, start, item, store, store_heading, geometry_of}
use Rattle.model.specs.Passes.{image_count, image_place, first_old}
use Rattle.model.specs.Refusals.{start_carry_rows, restamp_rows, finish_carry_rows}
use Rattle.model.specs.Outcome.{Outcome, one_item, new_heading, unchanged, decided, storing, volume_after}
use Rattle.model.specs.Effects.{restamp_done}
use Rattle.model.specs.Calls.{start_carry_of, restamp_of, finish_carry_of}
use Rattle.model.specs.declared.{geometry.Geometry.Geometry, state.State.State, answer.Answer.Answer, answer.Refusal.Refusal}
use Rattle.model.specs.declared.geometry.Heading.TheVariants.{First, Second}
use Rattle.model.specs.declared.answer.Answer.TheVariants.{Refused, Nothing, Done}
use Rattle.laws.proofs.Refused.{refusal-some}
use Rattle.convert.proofs.Rows.{heading_rows}
use Rattle.convert.proofs.Places.{image-read}

headed-done : (v m : List ℕ) (s : State) (tag : ℕ) (w : List ℕ) → w ≡ store_heading v tag → Gives v Done s w (storing (new_heading tag) m s)
unfolding volume_after
headed-done v m s tag w e = (refl, e)

module _ (v m : List ℕ) (s : State) where
  -- a call that its rows refuse
  refused-by : (rows : List Row) (done : Outcome) (a : Answer) (r : Refusal) → a ≡ Refused (refusal_number r)
      → refusal_number r ≡ first_of rows → Gives v a s v (decided rows m s done)
  refused-by rows done a r ea e = rw ea (refused v m s rows done (refusal_number r) e (refusal-some r))

  -- ---- Start
  pub start-refused : (a : Answer) (r : Refusal) → a ≡ Refused (refusal_number r)
      → refusal_number r ≡ first_of (heading_rows (tag_of First) v m s []) → Gives v a s v (start_carry_of v m s)
  unfolding decided start_carry_rows
  start-refused = refused-by (start_carry_rows v m s) _

  pub start-done : (w : List ℕ) → first_of (heading_rows (tag_of First) v m s []) ≡ 0 → w ≡ store_heading v carry_tag
      → Gives v Done s w (start_carry_of v m s)
  unfolding decided start_carry_rows
  start-done w e ew = gives-is v Done s w _ _ (passed v m s (start_carry_rows v m s) _ e) (headed-done v m s carry_tag w ew)

  -- ---- Finish
  pub finish-refused : (a : Answer) (r : Refusal) → a ≡ Refused (refusal_number r)
      → refusal_number r ≡ first_of (finish_carry_rows v m s) → Gives v a s v (finish_carry_of v m s)
  unfolding decided
  finish-refused = refused-by (finish_carry_rows v m s) _

  pub finish-done : (w : List ℕ) → first_of (finish_carry_rows v m s) ≡ 0 → w ≡ store_heading v (tag_of Second)
      → Gives v Done s w (finish_carry_of v m s)
  unfolding decided
  finish-done w e ew = gives-is v Done s w _ _ (passed v m s (finish_carry_rows v m s) _ e) (headed-done v m s (tag_of Second) w ew)

  -- ---- Restamp
  pub restamp-refused : (a : Answer) (r : Refusal) → a ≡ Refused (refusal_number r)
      → refusal_number r ≡ first_of (heading_rows carry_tag v m s []) → Gives v a s v (restamp_of v m s)
  unfolding decided restamp_done restamp_rows
  restamp-refused = refused-by (restamp_rows v m s) _

  abbrev first : ℕ
  first = first_old (geometry_of v) v s.index

  -- the definition in its two cases
  none_is : first_of (heading_rows carry_tag v m s []) ≡ 0 → ltb first (image_count (geometry_of v)) ≡ false
      → restamp_of v m s ≡ unchanged Nothing m s
  unfolding decided restamp_done restamp_rows
  none_is e t = sym (passed v m s (restamp_rows v m s) _ e) ∙ when_false _ _ t

  one-is : first_of (heading_rows carry_tag v m s []) ≡ 0 → ltb first (image_count (geometry_of v)) ≡ true
      → restamp_of v m s ≡ storing (one_item (image_place (geometry_of v) first)
      (seal_image (geometry_of v) (item (geometry_of v) v (image_place (geometry_of v) first)))) m s
  unfolding decided restamp_done restamp_rows
  one-is e t = sym (passed v m s (restamp_rows v m s) _ e) ∙ when_true _ _ t

  module _ (g : Geometry) (i : ℕ) (e : first_of (heading_rows carry_tag v m s []) ≡ 0) (eg : g ≡ geometry_of v)
      (ei : i ≡ first_old g v s.index) where
    test-is : ltb first (image_count (geometry_of v)) ≡ ltb i (g.pages + g.slots)
    test-is = rw (ei, eg)

    pub restamp-idle : i ≡ image_count g → Gives v Nothing s v (restamp_of v m s)
    unfolding volume_after
    restamp-idle b =
        let t : ltb i (g.pages + g.slots) ≡ false = by_cases (ltb i (g.pages + g.slots))
        (λ t. absurd (let l : i < g.pages + g.slots = ltb-true i (g.pages + g.slots) t in omega arith)) (λ t. t) in
        gives-is v Nothing s v (unchanged Nothing m s) _ (sym (none_is e (test-is ∙ t))) (idle v m s)

    -- the image that the code sets the sum of, as it lies in the volume
    image-put : (at : ℕ) (x : List ℕ) → i < image_count g → at ≡ start g (image_place g i) → at + 256 ≤ length v
        → x ≡ seal_image g (take (at + 256 - at) (drop at v))
        → put_mid at (at + 256 - at) v x ≡ store g v (image_place g i) (seal_image g (item g v (image_place g i)))
    unfolding store
    image-put at x b ea fit ex =
        let y = seal_image g (part v at 256) in
        let l : length y ≡ 256 = seal_image-length g (part v at 256) (part_length v at 256 fit) in
        put_item v at 256 x y l (ex ∙ ap (seal_image g) (part-lent v at 256 (at + 256) refl))
        ∙ ap (splice v at) (ap (seal_image g) (image-read g v i at b ea)) ∙ ap
        (λ (k : ℕ). splice v k (seal_image g (item g v (image_place g i)))) ea

    stored_is : (w : List ℕ) → w ≡ store g v (image_place g i) (seal_image g (item g v (image_place g i)))
        → w ≡ store (geometry_of v) v (image_place (geometry_of v) first)
        (seal_image (geometry_of v) (item (geometry_of v) v (image_place (geometry_of v) first)))
    stored_is w ew = ew ∙ rw (ei, eg)

    pub restamp-done : (at : ℕ) (x w : List ℕ) → i < image_count g → at ≡ start g (image_place g i) → at + 256 ≤ length v
        → x ≡ seal_image g (take (at + 256 - at) (drop at v)) → w ≡ put_mid at (at + 256 - at) v x → Gives v Done s w (restamp_of v m s)
    unfolding volume_after
    restamp-done at x w b ea fit ex ew =
        gives-is v Done s w _ _ (sym (one-is e (test-is ∙ lt-ltb i (g.pages + g.slots) b)))
        (refl, stored_is w (ew ∙ image-put at x b ea fit ex))

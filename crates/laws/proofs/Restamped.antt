-- What a Restamp that is not refused finds and leaves: the first image that passes only the old sum, and every other as it was.
use mathlib.Core.Path.{◌≡◌, refl, sym, ap, ◌∙◌}
use mathlib.Core.Logic.{◌≢◌}
use mathlib.Core.Bool.{Bool, true, false, cond, ◌&&◌, ◌||◌, not, and-false}
use mathlib.Core.List.{List, []}
use Prim.Native.Nat.{ℕ, suc, ◌+◌, ◌-◌, ◌<◌}
use native.Mathlib.Omega.{arith}
use native.Mathlib.Decide.{dec_lt, ℕ_discrete}
use lib.Dec.{eqb, ltb}
use lib.ListN.{length, take}
use borrow.Author.Tests.{eqb-true, eqb-false, lt-ltb, ltb-true, le-ltb, not-false}
use Rattle.laws.proofs.Tables.{by_cases, within-bounds, true-not-false}
use Rattle.laws.proofs.Places.{In, valid-facts, item-length, item-store-same, item-store-other, geometry-store, valid-store}
use Rattle.laws.proofs.Headings.{headed-tag, tag-headed}
use Rattle.laws.proofs.Search.{first-from, found_some, count_less}
use Rattle.laws.proofs.Items.{seal_image-length}
use Rattle.laws.proofs.Carry.{words_hold, bytes_hold, placed, passes-split, sealed-either, only-old, restamp-bytes}
use Rattle.laws.proofs.Carry.{restamp-front, restamp-placed, image-in, image-place}
use Rattle.laws.proofs.WellFormed.{ready-behind}
use Rattle.model.specs.Tables.{first_of}
use Rattle.model.specs.Checksum.{seal_image}
use Rattle.model.specs.Geometry.{tag_of, carry_tag, headed, geometry_of, valid_volume, Place, page_at, slot_at, record_at}
use Rattle.model.specs.Geometry.{note_at, width, start, item, store}
use Rattle.model.specs.Passes.{passes_at, is_image, only_old, image_count, image_place, old_at, first_old, old_left}
use Rattle.model.specs.Refusals.{restamp_rows}
use Rattle.model.specs.Outcome.{nothing, one_item, decided}
use Rattle.model.specs.Effects.{restamp_done}
use Rattle.model.specs.Calls.{restamp_of}
use Rattle.model.specs.Carry.{count_of}
use Rattle.model.specs.declared.{geometry.Geometry.Geometry, geometry.Heading.TheVariants.First, state.State.State}
use Rattle.model.specs.declared.answer.Answer.{Answer}
use Rattle.model.specs.declared.answer.Answer.TheVariants.{Refused, Nothing, Done, Repaired}

-- ---- answers

unfoldable pub is_done : Answer → Bool
is_done (Refused n) = false
is_done Nothing = false
is_done Done = true
is_done (Repaired r) = false

pub not_done : (a : Answer) → is_done a ≡ false → a ≡ Done → ⊥
unfolding is_done
not_done a f e = true-not-false (ap is_done e) f

unfoldable pub is_nothing : Answer → Bool
is_nothing (Refused n) = false
is_nothing Nothing = true
is_nothing Done = false
is_nothing (Repaired r) = false

pub not-nothing : (a : Answer) → is_nothing a ≡ false → a ≡ Nothing → ⊥
unfolding is_nothing
not-nothing a f e = true-not-false (ap is_nothing e) f

-- ---- the places of images, by number

-- places of different numbers start differently
pub images-apart : (g : Geometry) (i j : ℕ) → i < image_count g → j < image_count g → i ≢ j
    → start g (image_place g i) ≢ start g (image_place g j)
images-apart g i j a b ne = elim (dec_lt i g.pages) [
  | yes y ↦ rw (lt-ltb i g.pages y) (elim (dec_lt j g.pages) [
    | yes z ↦ rw (lt-ltb j g.pages z) (λ e. ne (omega arith))
    | no z ↦ rw (le-ltb j g.pages (omega arith)) (λ e. omega arith)
  ])
  | no y ↦ rw (le-ltb i g.pages (omega arith)) (elim (dec_lt j g.pages) [
    | yes z ↦ rw (lt-ltb j g.pages z) (λ e. omega arith)
    | no z ↦ rw (le-ltb j g.pages (omega arith)) (λ e. ne (omega arith))
  ])
]

-- every place of an image has a number
pub record Numbered (g : Geometry) (at : Place) : Type 0 where
  pub number : ℕ
  pub below : number < image_count g
  pub place_is : image_place g number ≡ at

pub image-number : (g : Geometry) (at : Place) → is_image g at ≡ true → Numbered g at
image-number g (page_at p) i =
    let w = within-bounds g.pages p i in
    let l : p - 1 < g.pages = omega arith in
    let s : suc (p - 1) ≡ p = omega arith in
    record { number = p - 1; below = omega arith; place_is = rw (lt-ltb (p - 1) g.pages l, s) refl }
image-number g (slot_at b) i =
    let w = within-bounds g.slots b i in
    let n : ltb (g.pages + (b - 1)) g.pages ≡ false =
    by_cases (ltb (g.pages + (b - 1)) g.pages)
    (λ t. absurd (let l : g.pages + (b - 1) < g.pages = ltb-true (g.pages + (b - 1)) g.pages t in omega arith)) (λ t. t) in
    let s : suc (g.pages + (b - 1) - g.pages) ≡ b = omega arith in
    record { number = g.pages + (b - 1); below = omega arith; place_is = rw (n, s) refl }
image-number g (record_at n) i = absurd (true-not-false i refl)
image-number g (note_at n) i = absurd (true-not-false i refl)

-- ---- a Restamp that is not refused

module _ (v m : List ℕ) (s : State) where
  abbrev g : Geometry
  g = geometry_of v

  abbrev first : ℕ
  first = first_old (geometry_of v) v s.index

  abbrev at : Place
  at = image_place (geometry_of v) (first_old (geometry_of v) v s.index)

  abbrev stamped : List ℕ
  stamped = seal_image (geometry_of v) (item (geometry_of v) v (image_place (geometry_of v) (first_old (geometry_of v) v s.index)))

  -- what rows 1 and 2 let through
  pub record Open : Type 0 where
    pub volume : valid_volume v ≡ true
    pub tag : (geometry_of v).tag ≡ carry_tag

  pub opened : first_of (restamp_rows v m s) ≡ 0 → Open
  unfolding restamp_rows
  opened h =
      let r = ready-behind (not (headed carry_tag v)) v m s [] h in
      record { volume = r.1.volume; tag = headed-tag carry_tag v (not-false _ r.0) }

  -- one is left exactly if it is found
  pub left-found : old_left (geometry_of v) v s.index ≡ ltb first (image_count g)
  unfolding old_left first_old
  left-found = found_some (old_at g v s.index) (image_count g)

  pub found-old : first < image_count g → old_at g v s.index first ≡ true
  unfolding first_old
  found-old b = (first-from (old_at g v s.index) (image_count g) 0).hit (omega arith)

  pub found_none : ltb first (image_count g) ≡ false → (i : ℕ) → i < image_count g → old_at g v s.index i ≡ false
  unfolding first_old
  found_none t i b =
      let r = first-from (old_at g v s.index) (image_count g) 0 in
      r.before i (omega arith)
      (elim (dec_lt first (image_count g)) [ yes y ↦ absurd (true-not-false (lt-ltb first (image_count g) y) t) | no z ↦ omega arith ])

  -- by answer
  pub answer-found : first_of (restamp_rows v m s) ≡ 0 → (restamp_of v m s).answer ≡ cond (ltb first (image_count g)) Done Nothing
  unfolding decided restamp_done
  answer-found h = rw h (by_cases (ltb first (image_count g)) (λ t. rw t) (λ t. rw t))

  pub done-rows : (restamp_of v m s).answer ≡ Done → (first_of (restamp_rows v m s) ≡ 0) × (ltb first (image_count g) ≡ true)
  unfolding decided restamp_done is_done
  done-rows e = by_cases (eqb (first_of (restamp_rows v m s)) 0)
      (λ t. (eqb-true _ _ t, by_cases (ltb first (image_count g)) (λ u. u) (λ u. absurd (not_done _ (rw (t, u) refl) e))))
      (λ t. absurd (not_done _ (rw t refl) e))

  pub stored_is : first_of (restamp_rows v m s) ≡ 0 → ltb first (image_count g) ≡ true → (restamp_of v m s).stored ≡ one_item at stamped
  unfolding decided restamp_done
  stored_is h t = rw (h, t)

  pub stored-none : first_of (restamp_rows v m s) ≡ 0 → ltb first (image_count g) ≡ false → (restamp_of v m s).stored ≡ nothing
  unfolding decided restamp_done
  stored-none h t = rw (h, t)

  -- the volume after it
  module _ (o : Open) (b : first_old (geometry_of v) v s.index < image_count (geometry_of v)) where
    abbrev after : List ℕ
    after = store (geometry_of v) v at stamped

    here : is_image g at ≡ true
    here = image-in g first b

    in_place : In g at
    in_place = (image-place g at here).0

    wide : width at ≡ 256
    wide = (image-place g at here).1

    old-size : length (item g v at) ≡ 256
    old-size = item-length g v (valid-facts v o.volume).size at in_place ∙ wide

    new-size : length stamped ≡ width at
    new-size = seal_image-length g (item g v at) old-size ∙ sym wide

    not_first : g.tag ≡ tag_of First → ⊥
    not_first e = eqb-false carry_tag (tag_of First) refl (sym o.tag ∙ e)

    pub same-geometry : geometry_of after ≡ g
    same-geometry = geometry-store v o.volume at stamped in_place new-size

    pub still-valid : valid_volume after ≡ true
    still-valid = valid-store v o.volume at stamped in_place new-size

    pub read-new : item g after at ≡ stamped
    read-new = item-store-same g v (valid-facts v o.volume).size at stamped in_place new-size

    pub read-other : (j : ℕ) → j < image_count g → j ≢ first → item g after (image_place g j) ≡ item g v (image_place g j)
    read-other j l ne =
        item-store-other g v (valid-facts v o.volume).size at stamped in_place new-size (image_place g j)
        (image-place g (image_place g j) (image-in g j l)).0 (images-apart g j first l b ne)

    -- the image was one for its place, by words and not by bytes
    was-old : (words_hold (item g v at) && (not (bytes_hold (item g v at)) && placed g.pages s.index at (item g v at))) ≡ true
    was-old = sym (only-old g s.index at (item g v at) here) ∙ found-old b

    now-new : old_at g after s.index first ≡ false
    now-new = ap (only_old g s.index at) read-new
        ∙ (only-old g s.index at stamped here ∙ rw (restamp-bytes g (item g v at) old-size not_first) (and-false (words_hold stamped)))

    pub one_less : count_of (image_count g) (old_at g v s.index) ≡ suc (count_of (image_count g) (old_at g after s.index))
    one_less = count_less (old_at g v s.index) (old_at g after s.index) (image_count g) first b (found-old b) now-new
        (λ i l ne. ap (only_old g s.index (image_place g i)) (sym (read-other i l ne)))

    -- it passes as it did
    stays-passing : passes_at g s.index at stamped ≡ passes_at g s.index at (item g v at)
    stays-passing =
        rw (
          passes-split g s.index at stamped here,
          passes-split g s.index at (item g v at) here,
          sealed-either g stamped o.tag,
          sealed-either g (item g v at) o.tag,
          restamp-bytes g (item g v at) old-size not_first,
          restamp-placed g (item g v at) old-size not_first g.pages s.index at,
        ) (both (words_hold stamped) (words_hold (item g v at)) (bytes_hold (item g v at))
        (placed g.pages s.index at (item g v at)) was-old)
      where
        both : (w a b c : Bool) → (a && (not b && c)) ≡ true → ((w || true) && c) ≡ ((a || b) && c)
        both true true b c h = refl
        both false true b c h = refl
        both w false b c h = absurd (true-not-false h refl)

    pub after-passes : (j : ℕ) → j < image_count g → passes_at g s.index (image_place g j) (item g after (image_place g j))
        ≡ passes_at g s.index (image_place g j) (item g v (image_place g j))
    after-passes j l = elim (ℕ_discrete j first) [
      | yes e ↦ rw e (ap (passes_at g s.index at) read-new ∙ stays-passing)
      | no ne ↦ ap (passes_at g s.index (image_place g j)) (read-other j l ne)
    ]

    pub after_front : (j : ℕ) → j < image_count g → take 252 (item g after (image_place g j)) ≡ take 252 (item g v (image_place g j))
    after_front j l = elim (ℕ_discrete j first) [
      | yes e ↦ rw e (ap (take 252) read-new ∙ restamp-front g (item g v at) old-size not_first)
      | no ne ↦ ap (take 252) (read-other j l ne)
    ]

  pub rows-again : (o : Open) (b : first_old (geometry_of v) v s.index < image_count (geometry_of v))
      → restamp_rows (after o b) m s ≡ restamp_rows v m s
  unfolding restamp_rows
  rows-again o b =
      let gw = same-geometry o b in
      let hw : headed carry_tag (after o b) ≡ true =
      tag-headed carry_tag (after o b) (still-valid o b) (ap (λ (x : Geometry). x.tag) gw ∙ o.tag) in
      rw (hw, still-valid o b, gw, tag-headed carry_tag v o.volume o.tag, o.volume)

-- The images of a volume in order: their places, the search for the first that passes only the old sum, and the index gone through for a
-- slot.
use mathlib.Core.Path.{◌≡◌, refl, sym, ap, ◌∙◌}
use mathlib.Core.Bool.{Bool, true, false, ◌&&◌, not}
use mathlib.Core.List.{List}
use mir.Val.{bool_byte}
use Prim.Native.Nat.{ℕ, suc, ◌+◌, ◌-◌, ◌≤◌, ◌<◌}
use native.Mathlib.Numerals.{add-one}
use native.Mathlib.Omega.{arith}
use lib.Dec.{eqb, ltb}
use lib.ListN.{length, drop, get_or, drop_of_length-le}
use lib.Seq.{drop-cons}
use borrow.Author.Tests.{lt-ltb, ltb-true}
use Rattle.laws.proofs.Tables.{by_cases}
use Rattle.laws.proofs.Places.{valid-facts, place-fits, total}
use Rattle.laws.proofs.Carry.{image-in, image-place}
use Rattle.model.specs.Bytes.{part}
use Rattle.model.specs.Geometry.{tag_of, with_tag, Place, page_at, slot_at, start, item, geometry_of, valid_volume}
use Rattle.model.specs.Item.{valid_image}
use Rattle.model.specs.Index.{empty_entry}
use Rattle.model.specs.Passes.{valid_as_noted, passes_at, only_old, image_count, image_place, old_at, first_from, first_old}
use Rattle.model.specs.Carry.{count_of}
use Rattle.model.specs.declared.{geometry.Geometry.Geometry, state.Entry.Entry, state.State.State}
use Rattle.model.specs.declared.geometry.Heading.TheVariants.{First, Second}
use Rattle.convert.specs.Failing.{failing_in, failing_count}

-- ---- places

pub page-place : (g : Geometry) (i : ℕ) → i < g.pages → image_place g i ≡ page_at (i + 1)
page-place g i h = rw (lt-ltb i g.pages h, add-one)

pub slot-place : (g : Geometry) (i : ℕ) → g.pages ≤ i → image_place g i ≡ slot_at (i - g.pages + 1)
slot-place g i h =
    let n : ltb i g.pages ≡ false =
    by_cases (ltb i g.pages) (λ t. absurd (let l : i < g.pages = ltb-true i g.pages t in omega arith)) (λ t. t) in
    rw (n, add-one)

pub page-passes : (g : Geometry) (index : List Entry) (i : ℕ) (x : List ℕ) (r : Bool) → i < g.pages → r ≡ valid_image g (i + 1) x
    → r ≡ passes_at g index (image_place g i) x
page-passes g index i x r h e = e ∙ ap (λ (at : Place). passes_at g index at x) (sym (page-place g i h))

pub slot-passes : (g : Geometry) (index : List Entry) (i : ℕ) (x : List ℕ) (r : Bool) → g.pages ≤ i
    → r ≡ passes_at g index (slot_at (i - g.pages + 1)) x → r ≡ passes_at g index (image_place g i) x
slot-passes g index i x r h e = e ∙ ap (λ (at : Place). passes_at g index at x) (sym (slot-place g i h))

pub few : (v : List ℕ) (g : Geometry) → valid_volume v ≡ true → g ≡ geometry_of v → g.pages + g.slots ≤ 192
few v g ok eg = rw eg (let f = valid-facts v ok in omega (arith, f.p-high, f.b-high))

pub image-fits : (v : List ℕ) (g : Geometry) (i : ℕ) → valid_volume v ≡ true → g ≡ geometry_of v → i < image_count g
    → start g (image_place g i) + 256 ≤ length v
image-fits v g i ok eg b =
    let p = image-place g (image_place g i) (image-in g i b) in
    let size : length v ≡ total g = rw eg (valid-facts v ok).size in
    let f = place-fits g v size (image_place g i) p.0 in
    omega (arith, f, p.1)

-- the bytes read there
pub image-read : (g : Geometry) (v : List ℕ) (i at : ℕ) → i < image_count g → at ≡ start g (image_place g i)
    → part v at 256 ≡ item g v (image_place g i)
unfolding item
image-read g v i at b ea =
    ap (λ (k : ℕ). part v k 256) ea ∙ ap (part v (start g (image_place g i))) (sym (image-place g (image_place g i) (image-in g i b)).1)

-- the two tests of an image
pub old-is : (g u w : Geometry) (v x : List ℕ) (index : List Entry) (i : ℕ) (a b : Bool) → x ≡ item g v (image_place g i)
    → u ≡ with_tag g (tag_of First) → w ≡ with_tag g (tag_of Second)
    → a ≡ passes_at u index (image_place u i) x → b ≡ passes_at w index (image_place w i) x → (a && not b) ≡ old_at g v index i
unfolding only_old
old-is g u w v x index i a b e eu ew pa pb = rw (pa, pb, eu, ew, e)

-- the same counts under another tag
pub under-count : (u g : Geometry) (t i : ℕ) → u ≡ with_tag g t → i < image_count g → g.pages + g.slots ≤ 192
    → (i < image_count u) × (image_count u < 4294967295)
under-count u g t i e b h = rw e (b, omega (arith, h))

-- ---- the search

pub first-start : (g : Geometry) (v : List ℕ) (index : List Entry)
    → first_from (g.pages + g.slots - 0) (old_at g v index) 0 ≡ first_old g v index
unfolding first_old
first-start g v index = let z : g.pages + g.slots - 0 ≡ g.pages + g.slots = omega arith in rw z

-- ---- the index gone through

module _ (g : Geometry) (b : ℕ) (x : List ℕ) (l : List Entry) (i : ℕ) where
  pub noted_here : i < length l → (eqb (get_or l i empty_entry).slot b && valid_image g (i + 1) x) ≡ true
      → valid_as_noted g b x i (drop i l) ≡ true
  unfolding valid_as_noted
  noted_here h t =
      let u : (eqb (get_or l i empty_entry).slot b && valid_image g (suc i) x) ≡ true = rw add-one at t in
      rw (drop-cons l i empty_entry, u)

  pub noted-on : i < length l → (eqb (get_or l i empty_entry).slot b && valid_image g (i + 1) x) ≡ false
      → valid_as_noted g b x i (drop i l) ≡ valid_as_noted g b x (i + 1) (drop (i + 1) l)
  unfolding valid_as_noted
  noted-on h f =
      let u : (eqb (get_or l i empty_entry).slot b && valid_image g (suc i) x) ≡ false = rw add-one at f in
      rw (add-one, drop-cons l i empty_entry, u)

  pub noted-end : length l ≤ i → valid_as_noted g b x i (drop i l) ≡ false
  unfolding valid_as_noted
  noted-end h = rw (drop_of_length-le l h)

-- ---- how many fail

pub count-on : (p : ℕ → Bool) (i n k : ℕ) (t : Bool) → n ≡ count_of i p → t ≡ p i → k ≡ bool_byte t → n + k ≡ count_of (i + 1) p
unfolding count_of
count-on p i n k t en et ek = by_cases t (λ u. rw (add-one, ek, ← et, u, en)) (λ u. rw (add-one, ek, ← et, u, en))

pub count-start : (p : ℕ → Bool) → 0 ≡ count_of 0 p
unfolding count_of
count-start p = refl

pub failing-none : (v : List ℕ) (s : State) → valid_volume v ≡ false → 0 ≡ failing_count v s
unfolding failing_count
failing-none v s f = rw f

pub failing-some : (v w : List ℕ) (s : State) (g : Geometry) (r : ℕ) → w ≡ v → valid_volume w ≡ true → g ≡ geometry_of w
    → r ≡ failing_in g w s.index → r ≡ failing_count v s
unfolding failing_count
failing-some v w s g r ew ok eg er = er ∙ rw (← ew, ok, eg)

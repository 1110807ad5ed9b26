-- Laws of images under the three tags: what passes by which sum, and an image that is given the byte sum.
use mathlib.Core.Path.{◌≡◌, refl, sym, ◌∙◌}
use mathlib.Core.Bool.{Bool, true, false, cond, ◌&&◌, ◌||◌, not}
use mathlib.Core.List.{List, [], ◌∷◌}
use Prim.Native.Nat.{ℕ, zero, suc, ◌+◌, ◌-◌, ◌≤◌, ◌<◌}
use native.Mathlib.Omega.{arith}
use native.Mathlib.Decide.{dec_lt}
use lib.Dec.{eqb, lit≤}
use lib.ListN.{length, take, get_or}
use lib.Seq.{length-take-le}
use borrow.Author.Tests.{eqb-true, eqb-false, eq-eqb, lt-ltb, le-ltb}
use Rattle.laws.proofs.Tables.{by_cases, and_left, and_right, and_both, or_left, or_right, within-bounds}
use Rattle.laws.proofs.Tables.{within-holds, true-not-false}
use Rattle.laws.proofs.Checksums.{take-with, sum-holds, byte_sum-most}
use Rattle.laws.proofs.Items.{by-words, by_bytes, by-either, bytes-set, seal_image-field}
use Rattle.laws.proofs.Places.{In}
use Rattle.model.specs.Tables.{within}
use Rattle.model.specs.Bytes.{field}
use Rattle.model.specs.Checksum.{checksum, byte_sum, sum_holds, image_sum, seal_image, image_sealed}
use Rattle.model.specs.Geometry.{tag_of, carry_tag, with_tag, Place, page_at, slot_at, record_at, note_at, width}
use Rattle.model.specs.Item.{image_page, valid_image, valid_somewhere}
use Rattle.model.specs.Index.{empty_entry, slot_used}
use Rattle.model.specs.Passes.{valid_as_noted, passes_at, is_image, by_words, by_byte_sum, only_old, only_new, image_count, image_place}
use Rattle.model.specs.declared.{geometry.Geometry.Geometry, state.Entry.Entry}
use Rattle.model.specs.declared.geometry.Heading.TheVariants.{First, Second}

-- ---- a sum, and the rest of what it is to pass

-- the two sums of an image
abbrev pub words_hold : List ℕ → Bool
words_hold x = sum_holds checksum 252 x

abbrev pub bytes_hold : List ℕ → Bool
bytes_hold x = sum_holds byte_sum 252 x

-- the image names page p, and its bytes 2 and 3 are zero
abbrev pub named : ℕ → List ℕ → Bool
named p x = eqb (image_page x) p && eqb (field 2 2 x) 0

-- it names a page that the index gives slot b; rows from page p + 1 on
unfoldable pub named_noted : ℕ → List ℕ → ℕ → List Entry → Bool
named_noted b x p [] = false
named_noted b x p (e ∷ es) = (eqb e.slot b && named (suc p) x) || named_noted b x (suc p) es

-- whatever its sum, the image is one for its place
abbrev pub placed : ℕ → List Entry → Place → List ℕ → Bool
placed pages index (page_at p) x = named p x
placed pages index (slot_at b) x = cond (slot_used b index) (named_noted b x 0 index) (within pages (image_page x) && named (image_page x) x)
placed pages index (record_at n) x = true
placed pages index (note_at n) x = true

pub valid-split : (g : Geometry) (p : ℕ) (x : List ℕ) → valid_image g p x ≡ (image_sealed g x && named p x)
unfolding valid_image
valid-split g p x = refl

-- a test that goes through a disjunction
through : (a s m r : Bool) → ((a && (s && m)) || (s && r)) ≡ (s && ((a && m) || r))
through true true m r = refl
through false true m r = refl
through true false m r = refl
through false false m r = refl

exchange : (a s m : Bool) → (a && (s && m)) ≡ (s && (a && m))
exchange true true m = refl
exchange false true m = refl
exchange true false m = refl
exchange false false m = refl

noted-split : (g : Geometry) (b : ℕ) (x : List ℕ) (p : ℕ) (es : List Entry)
    → valid_as_noted g b x p es ≡ (image_sealed g x && named_noted b x p es)
unfolding valid_as_noted named_noted
noted-split g b x p [] = by_cases (image_sealed g x) (λ t. rw t) (λ t. rw t)
noted-split g b x p (e ∷ es) =
    rw (valid-split g (suc p) x, noted-split g b x (suc p) es)
    (through (eqb e.slot b) (image_sealed g x) (named (suc p) x) (named_noted b x (suc p) es))

pub passes-split : (g : Geometry) (index : List Entry) (at : Place) (x : List ℕ) → is_image g at ≡ true
    → passes_at g index at x ≡ (image_sealed g x && placed g.pages index at x)
unfolding valid_somewhere
passes-split g index (page_at p) x i = valid-split g p x
passes-split g index (slot_at b) x i = by_cases (slot_used b index)
    (λ t. rw t (noted-split g b x 0 index))
    (λ t. rw (t, valid-split g (image_page x) x) (exchange (within g.pages (image_page x)) (image_sealed g x) (named (image_page x) x)))
passes-split g index (record_at n) x i = absurd (true-not-false i refl)
passes-split g index (note_at n) x i = absurd (true-not-false i refl)

-- ---- the sums by tag

pub sealed-words : (g : Geometry) (x : List ℕ) → image_sealed (by_words g) x ≡ words_hold x
sealed-words g x = by-words (by_words g) x refl

pub sealed-bytes : (g : Geometry) (x : List ℕ) → image_sealed (by_byte_sum g) x ≡ bytes_hold x
sealed-bytes g x = by_bytes (by_byte_sum g) x refl

pub sealed-either : (g : Geometry) (x : List ℕ) → g.tag ≡ carry_tag → image_sealed g x ≡ (words_hold x || bytes_hold x)
sealed-either g x e =
    by-either g x (λ z. eqb-false carry_tag (tag_of First) refl (sym e ∙ z)) (λ z. eqb-false carry_tag (tag_of Second) refl (sym e ∙ z))

only-cases : (w b pl : Bool) → ((w && pl) && not (b && pl)) ≡ (w && (not b && pl))
only-cases true true true = refl
only-cases true true false = refl
only-cases true false true = refl
only-cases true false false = refl
only-cases false b pl = refl

-- it passes only the old sum: by words, not by bytes, and it is one for its place
pub only-old : (g : Geometry) (index : List Entry) (at : Place) (x : List ℕ) → is_image g at ≡ true
    → only_old g index at x ≡ (words_hold x && (not (bytes_hold x) && placed g.pages index at x))
unfolding only_old
only-old g index at x i =
    rw (
      passes-split (by_words g) index at x (image-tag (tag_of First) at i),
      passes-split (by_byte_sum g) index at x (image-tag (tag_of Second) at i),
      sealed-words g x,
      sealed-bytes g x,
    )
    (only-cases (words_hold x) (bytes_hold x) (placed g.pages index at x))
  where
    image-tag : (tag : ℕ) (at : Place) → is_image g at ≡ true → is_image (with_tag g tag) at ≡ true
    image-tag tag (page_at p) i = i
    image-tag tag (slot_at b) i = i
    image-tag tag (record_at n) i = i
    image-tag tag (note_at n) i = i

-- ---- an image with the byte sum set

module _ (g : Geometry) (x : List ℕ) (size : length x ≡ 256) (ne : (g.tag ≡ tag_of First → ⊥)) where
  pub restamp-bytes : bytes_hold (seal_image g x) ≡ true
  restamp-bytes = rw (bytes-set g x ne)
      (sum-holds byte_sum 252 (take 252 x) (length-take-le 252 x (omega arith)) (omega (arith, byte_sum-most (take 252 x))))

  pub restamp-front : take 252 (seal_image g x) ≡ take 252 x
  restamp-front = take-with (image_sum g) 252 (take 252 x) (length-take-le 252 x (omega arith))

  pub restamp-named : (p : ℕ) → named p (seal_image g x) ≡ named p x
  restamp-named p = rw (seal_image-field g x size 2 0 (lit≤ tt), seal_image-field g x size 2 2 (lit≤ tt))

  noted-same : (b p : ℕ) (es : List Entry) → named_noted b (seal_image g x) p es ≡ named_noted b x p es
  unfolding named_noted
  noted-same b p [] = refl
  noted-same b p (e ∷ es) = rw (restamp-named (suc p), noted-same b (suc p) es)

  pub restamp-placed : (pages : ℕ) (index : List Entry) (at : Place) → placed pages index at (seal_image g x) ≡ placed pages index at x
  restamp-placed pages index (page_at p) = restamp-named p
  restamp-placed pages index (slot_at b) = by_cases (slot_used b index) (λ t. rw t (noted-same b 0 index))
      (λ t. rw (t, seal_image-field g x size 2 0 (lit≤ tt), seal_image-field g x size 2 2 (lit≤ tt)))
  restamp-placed pages index (record_at n) = refl
  restamp-placed pages index (note_at n) = refl

-- ---- the places of images

pub image-place : (g : Geometry) (at : Place) → is_image g at ≡ true → In g at × (width at ≡ 256)
image-place g (page_at p) i = (within-bounds g.pages p i, refl)
image-place g (slot_at b) i = (within-bounds g.slots b i, refl)
image-place g (record_at n) i = absurd (true-not-false i refl)
image-place g (note_at n) i = absurd (true-not-false i refl)

pub image-in : (g : Geometry) (i : ℕ) → i < image_count g → is_image g (image_place g i) ≡ true
image-in g i b = elim (dec_lt i g.pages) [
  | yes y ↦ rw (lt-ltb i g.pages y) (within-holds g.pages (suc i) (omega arith) (omega arith))
  | no z ↦ rw (le-ltb i g.pages (omega arith)) (within-holds g.slots (suc (i - g.pages)) (omega arith) (omega arith))
]

-- an image that names a page to which the index gives the slot is one for it
pub named-noted : (b : ℕ) (x : List ℕ) (index : List Entry) (n i : ℕ) → i < length index → (get_or index i empty_entry).slot ≡ b
    → named (suc (n + i)) x ≡ true
    → named_noted b x n index ≡ true
unfolding named_noted
named-noted b x [] n i c e t = absurd (omega arith)
named-noted b x (y ∷ index) n zero c e t =
    let q : n + 0 ≡ n = omega arith in
    let u : named (suc n) x ≡ true = rw q at t in
    or_left (named_noted b x (suc n) index) (and_both (eq-eqb y.slot b e) u)
named-noted b x (y ∷ index) n (suc i) c e t =
    let q : n + suc i ≡ suc n + i = omega arith in
    or_right (eqb y.slot b && named (suc n) x) (named-noted b x index (suc n) i (omega arith) e (rw q at t))

-- and so is one that names any page in range, in a slot outside the index
pub named-outside : (pages : ℕ) (index : List Entry) (b q : ℕ) (x : List ℕ) → slot_used b index ≡ false → 1 ≤ q
    → q ≤ pages → named q x ≡ true
    → placed pages index (slot_at b) x ≡ true
named-outside pages index b q x u lo hi t =
    let e : image_page x ≡ q = eqb-true (image_page x) q (and_left (eqb (image_page x) q) (eqb (field 2 2 x) 0) t) in
    let z = and_right (eqb (image_page x) q) (eqb (field 2 2 x) 0) t in
    rw (u, e) (and_both (within-holds pages q lo hi) (and_both (eq-eqb q q refl) z))

-- ---- an image that is valid under two tags alike

start-alike : (w b n : Bool) → ((b && n) && not (w && n)) ≡ false → ((w || b) && n) ≡ (w && n)
start-alike true b n h = refl
start-alike false true true h = absurd (true-not-false refl h)
start-alike false true false h = refl
start-alike false false n h = refl

-- under the first heading, and while the volume is carried over, where it is not valid by bytes alone
pub alike-started : (g : Geometry) (p : ℕ) (x : List ℕ) → g.tag ≡ tag_of First → only_new g p x ≡ false
    → valid_image (with_tag g carry_tag) p x ≡ valid_image g p x
alike-started g p x e h =
    let h' : ((bytes_hold x && named p x) && not (words_hold x && named p x)) ≡ false =
    rw (valid-split (by_byte_sum g) p x, valid-split (by_words g) p x, sealed-bytes g x, sealed-words g x) at h in
    rw (valid-split (with_tag g carry_tag) p x, valid-split g p x, sealed-either (with_tag g carry_tag) x refl, by-words g x e)
    (start-alike (words_hold x) (bytes_hold x) (named p x) h')

finish-alike : (w b n pl : Bool) → (n ≡ true → pl ≡ true) → (w && (not b && pl)) ≡ false → (b && n) ≡ ((w || b) && n)
finish-alike true true n pl f h = refl
finish-alike true false true pl f h = absurd (true-not-false (f refl) h)
finish-alike true false false pl f h = refl
finish-alike false b n pl f h = refl

-- while it is carried over, and under the second heading, where it does not pass the old sum alone
pub alike-finished : (g : Geometry) (index : List Entry) (at : Place) (p : ℕ) (x : List ℕ) → g.tag ≡ carry_tag → is_image g at ≡ true
    → (named p x ≡ true → placed g.pages index at x ≡ true) → only_old g index at x ≡ false
    → valid_image (with_tag g (tag_of Second)) p x ≡ valid_image g p x
alike-finished g index at p x e i f h =
    rw (valid-split (by_byte_sum g) p x, valid-split g p x, sealed-bytes g x, sealed-either g x e)
    (finish-alike (words_hold x) (bytes_hold x) (named p x) (placed g.pages index at x) f (sym (only-old g index at x i) ∙ h))

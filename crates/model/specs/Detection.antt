-- What the byte sum detects, as types. States of document 02, §3: "A change within one 16-bit word of such an
-- image, ahead of the check, must now always be caught". Stronger than asked: the two bytes may stand at any place,
-- even or odd, and in an item of any size. The values of these types are proved in the crate `laws`.
--
-- It says nothing of changes in two words (three bytes changed by +1, -2, +1 leave both sums), nor of the word sum,
-- under which a word of 0000 and one of FFFF weigh alike: `cases` computes an example of each.
use Rattle.std.specs.Prelude.{ℕ, ◌+◌, ◌≤◌, ◌<◌, length, replicate}
use mathlib.Core.{Path.◌≡◌, Logic.◌≢◌, Bool.true, Bool.false, List.List, List.[], List.◌∷◌}
use Rattle.model.specs.Bytes.{byte_at, splice}
use Rattle.model.specs.Geometry.{Place, tag_of, geometry_of}
use Rattle.model.specs.Checksum.{checksum, byte_sum, sum_holds, image_sealed}
use Rattle.model.specs.Item.{valid_image}
use Rattle.model.specs.Repair.{View, class_in}
use Rattle.model.specs.Passes.{is_image}
use Rattle.model.specs.History.{Machine, damage, allowed}
use Rattle.model.specs.Types.{Geometry, Second, Failed}

-- an item with the word at a place, two adjacent bytes, replaced
abbrev pub with_word : List ℕ → ℕ → ℕ → ℕ → List ℕ
with_word x at u w = splice x at (u ∷ w ∷ [])

-- bytes u, w in place of the two at `at`, ahead of the check that stands behind the first n bytes, are an error:
-- something changed
pub record WordError (n : ℕ) (x : List ℕ) (at u w : ℕ) : Type 0 where
  pub size : n ≤ length x
  pub ahead : at + 2 ≤ n
  pub was_bytes : (byte_at x at < 256) × (byte_at x (at + 1) < 256)
  pub are_bytes : (u < 256) × (w < 256)
  pub changed : with_word x at u w ≢ x

-- an image of a volume with the second heading, its sum right, in which one word was changed
pub record ImageError (g : Geometry) (x : List ℕ) (at u w : ℕ) : Type 0 where
  pub tag : g.tag ≡ tag_of Second
  pub size : length x ≡ 256
  pub right : image_sealed g x ≡ true
  pub error : WordError 252 x at u w

pub record Detection : Type 0 where
  -- the check of an item of any size
  pub item : (n : ℕ) (x : List ℕ) (at u w : ℕ) → WordError n x at u w → sum_holds byte_sum n x ≡ true
      → sum_holds byte_sum n (with_word x at u w) ≡ false
  -- the image: its sum is wrong, it is valid as no page's, its class is Failed whatever the index says, and a history
  -- allows it as damage
  pub image : (g : Geometry) (x : List ℕ) (at u w : ℕ) → ImageError g x at u w
      → image_sealed g (with_word x at u w) ≡ false
  pub invalid : (g : Geometry) (x : List ℕ) (at u w : ℕ) → ImageError g x at u w
      → (p : ℕ) → valid_image g p (with_word x at u w) ≡ false
  pub class : (g : Geometry) (x : List ℕ) (at u w : ℕ) → ImageError g x at u w
      → (p : ℕ) (v : View) → v.own ≡ with_word x at u w → class_in g p v ≡ Failed
  pub damages : (m : Machine) (x : List ℕ) (at u w : ℕ) → ImageError (geometry_of m.volume) x at u w
      → (place : Place) → is_image (geometry_of m.volume) place ≡ true
      → allowed m (damage place (with_word x at u w)) ≡ true
  -- an erased item, all FF, fails both sums, whatever its size
  pub erased : (n m : ℕ) → n + 4 ≤ m
      → (sum_holds checksum n (replicate m 0xFF) ≡ false) × (sum_holds byte_sum n (replicate m 0xFF) ≡ false)
  pub erased_image : (g : Geometry) → image_sealed g (replicate 256 0xFF) ≡ false

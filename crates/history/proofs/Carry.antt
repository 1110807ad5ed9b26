-- An image in its place replaced by another: what the volume's part of the invariant asks of it; and that a restamped image meets it.
use mathlib.Core.Path.{◌≡◌, refl, sym, ap, ◌∙◌, subst}
use mathlib.Core.Bool.{Bool, true, false, cond, ◌&&◌, ◌||◌}
use mathlib.Core.List.{List, ◌∷◌}
use Prim.Native.Nat.{ℕ, ◌≤◌}
use native.Mathlib.Omega.{arith}
use native.Mathlib.Decide.{ℕ_discrete}
use lib.ListN.{length}
use lib.Dec.{lit≤}
use borrow.Author.Tests.{eqb-false}
use Rattle.laws.proofs.Tables.{by_cases, and_right, and_both, or_right, within-bounds, true-not-false}
use Rattle.laws.proofs.Items.{seal_image-field, seal_image-part}
use Rattle.laws.proofs.Carry.{words_hold, named, valid-split, sealed-either, restamp-bytes, restamp-named}
use Rattle.model.specs.Checksum.{seal_image, image_sealed}
use Rattle.model.specs.Geometry.{tag_of, carry_tag, Place, page_at, slot_at, record_at, note_at, item, store}
use Rattle.model.specs.Item.{image_lsn, valid_image, is_written}
use Rattle.model.specs.Passes.{is_image}
use Rattle.model.specs.Outcome.{StoredItem, one_item}
use Rattle.model.specs.AbstractLog.{Logged}
use Rattle.model.specs.History.{stored_before}
use Rattle.model.specs.declared.{geometry.Geometry.Geometry, geometry.Heading.TheVariants.First, item.Note.Note}
use Rattle.history.proofs.Marks.{mark_at}
use Rattle.history.proofs.Records.{ReplayOf, Faithful}
use Rattle.history.proofs.Disk.{Holds, Noted, Copy}
use Rattle.history.proofs.Inv.{Image, Past, past-cons, PendingOk}
use Rattle.history.proofs.Stores.{page-holds, page-noted, page-slots, slot-holds, slot-noted, slot_same, slot-other, pending-keep}
use Rattle.model.specs.Types.{PendingNote, None, Some}

-- ---- an image in the place of another

module _ {C : Type 0} (g : Geometry) (v : List ℕ) (k : List Logged) (h : Holds g v k) (ns : List Note) (o : Noted C g v k ns)
    (at : Place) (xs : List ℕ) (five : length xs ≡ 256) (keeps : (q : ℕ) → Faithful g q k (item g v at) → Faithful g q k xs) where
  -- a slot that the notes give a page
  slot-faithful : (b q : ℕ) → at ≡ slot_at b → 1 ≤ b → 1 ≤ q → q ≤ g.pages → (mark_at q ns (length ns)).slot ≡ b → Faithful g q k xs
  slot-faithful b q e one lo hi z =
      keeps q (subst (λ (y : Place). Faithful g q k (item g v y)) (sym e)
      (subst (λ (n : ℕ). Faithful g q k (item g v (slot_at n))) z (o.backups q lo hi (λ y. omega arith))))

  pub image_holds : is_image g at ≡ true → Holds g (store g v at xs) k
  image_holds i = go at refl i
    where
      go : (y : Place) → at ≡ y → is_image g y ≡ true → Holds g (store g v y xs) k
      go (page_at p) e i =
          let w = within-bounds g.pages p i in
          page-holds g v k h ns o p xs w.0 w.1 five
          (keeps p (subst (λ (y : Place). Faithful g p k (item g v y)) (sym e) (h.images p w.0 w.1)))
      go (slot_at b) e i = let w = within-bounds g.slots b i in slot-holds g v k h ns o b xs w.0 w.1 five
      go (record_at n) e i = absurd (true-not-false i refl)
      go (note_at n) e i = absurd (true-not-false i refl)

  pub image-noted : is_image g at ≡ true
      → (C → (b q : ℕ) → at ≡ slot_at b → 1 ≤ q → q ≤ g.pages → (mark_at q ns (length ns)).slot ≡ b
      → (valid_image g q xs ≡ true) × (image_lsn xs ≡ (mark_at q ns (length ns)).backup))
      → Noted C g (store g v at xs) k ns
  image-noted i copies = go at refl i
    where
      go : (y : Place) → at ≡ y → is_image g y ≡ true → Noted C g (store g v y xs) k ns
      go (page_at p) e i =
          let w = within-bounds g.pages p i in
          page-noted g v k h ns o p xs w.0 w.1 five
          (keeps p (subst (λ (y : Place). Faithful g p k (item g v y)) (sym e) (h.images p w.0 w.1)))
      go (slot_at b) e i =
          let w = within-bounds g.slots b i in
          slot-noted g v k h ns o b xs w.0 w.1 five (λ q lo hi z. slot-faithful b q e w.0 lo hi z)
          (λ c q lo hi z. copies c b q e lo hi z)
      go (record_at n) e i = absurd (true-not-false i refl)
      go (note_at n) e i = absurd (true-not-false i refl)

  -- the pending note's slot
  pub image-pending : is_image g at ≡ true
      → (C → (q : ℕ) → valid_image g q (item g v at) ≡ true → (valid_image g q xs ≡ true) × (image_lsn xs ≡ image_lsn (item g v at)))
      → (y : PendingNote) → PendingOk C g v k ns y → PendingOk C g (store g v at xs) k ns y
  image-pending i stands y t = go at refl i y t
    where
      go : (a : Place) → at ≡ a → is_image g a ≡ true → (y : PendingNote) → PendingOk C g v k ns y → PendingOk C g (store g v a xs) k ns y
      go (page_at p) e i y t =
          let w = within-bounds g.pages p i in
          let f = keeps p (subst (λ (y : Place). Faithful g p k (item g v y)) (sym e) (h.images p w.0 w.1)) in
          pending-keep C g v (store g v (page_at p) xs) k k ns y (λ q z f. f) (λ z f. f)
          (page-slots g v k h ns o p xs w.0 w.1 five f) t
      go (slot_at b) e i None t = tt
      go (slot_at b) e i (Some y) t = (
        t.0,
        t.1,
        (λ z. faithful z (ℕ_discrete y.slot b)),
        t.3,
        (λ c z. copied c z (ℕ_discrete y.slot b)),
      )
        where
          w : (1 ≤ b) × (b ≤ g.slots)
          w = within-bounds g.slots b i

          faithful : is_written y ≡ false → Dec (y.slot ≡ b) → Faithful g y.page k (item g (store g v (slot_at b) xs) (slot_at y.slot))
          faithful z (yes q) =
              rw (q, slot_same g v k h ns o b xs w.0 w.1 five)
              (keeps y.page (subst (λ (a : Place). Faithful g y.page k (item g v a)) (sym e)
              (subst (λ (n : ℕ). Faithful g y.page k (item g v (slot_at n))) q (t.2 z))))
          faithful z (no q) =
              let bk = t.0.backed z in
              rw (slot-other g v k h ns o b xs w.0 w.1 five (slot_at y.slot) (bk.low, bk.high)
              (omega (arith, bk.low, w.0))) (t.2 z)

          copied : C → is_written y ≡ false → Dec (y.slot ≡ b) → Copy g (store g v (slot_at b) xs) y.page y.slot y.lsn
          copied c z (yes q) =
              let old : Copy g v y.page b y.lsn = subst (λ (n : ℕ). Copy g v y.page n y.lsn) q (t.4 c z) in
              let here : item g v at ≡ item g v (slot_at b) = ap (item g v) e in
              let s = stands c y.page (ap (valid_image g y.page) here ∙ old.0) in
              rw (q, slot_same g v k h ns o b xs w.0 w.1 five) (s.0, s.1 ∙ (ap image_lsn here ∙ old.1))
          copied c z (no q) =
              let bk = t.0.backed z in
              rw (slot-other g v k h ns o b xs w.0 w.1 five (slot_at y.slot) (bk.low, bk.high)
              (omega (arith, bk.low, w.0))) (t.4 c z)
      go (record_at n) e i y t = absurd (true-not-false i refl)
      go (note_at n) e i y t = absurd (true-not-false i refl)

-- ---- a restamped image: the same first 252 bytes keep a replay

module _ (g : Geometry) (tag : g.tag ≡ carry_tag) (x : List ℕ) (size : length x ≡ 256) where
  not_first : g.tag ≡ tag_of First → ⊥
  not_first e = eqb-false carry_tag (tag_of First) refl (sym tag ∙ e)

  pub restamp-lsn : image_lsn (seal_image g x) ≡ image_lsn x
  restamp-lsn = seal_image-field g x size 4 4 (lit≤ tt)

  pub restamp-replay : (p : ℕ) (k : List Logged) → ReplayOf p k x → ReplayOf p k (seal_image g x)
  restamp-replay p k r =
      record {
        place = r.place;
        lsn-is = restamp-lsn ∙ r.lsn-is;
        below = r.below;
        page-is = r.page-is;
        body_is = seal_image-part g x size 8 244 (lit≤ tt) ∙ r.body_is;
      }

  -- valid as before
  pub restamp-valid : (p : ℕ) → valid_image g p x ≡ true → valid_image g p (seal_image g x) ≡ true
  restamp-valid p t =
      let n : named p x ≡ true = and_right (image_sealed g x) (named p x) (sym (valid-split g p x) ∙ t) in
      rw (
        valid-split g p (seal_image g x),
        sealed-either g (seal_image g x) tag,
        restamp-bytes g x size not_first,
        restamp-named g x size not_first p,
      )
      (and_both (or_right (words_hold (seal_image g x)) refl) n)

  -- and only so
  pub restamp-faithful : words_hold x ≡ true → (p : ℕ) (k : List Logged) → Faithful g p k x → Faithful g p k (seal_image g x)
  restamp-faithful w p k f t =
      let n : named p (seal_image g x) ≡ true =
      and_right (image_sealed g (seal_image g x)) (named p (seal_image g x)) (sym (valid-split g p (seal_image g x)) ∙ t) in
      restamp-replay p k (f (rw (valid-split g p x, sealed-either g x tag, w) (sym (restamp-named g x size not_first p) ∙ n)))

  -- exactly as before, where its words hold
  pub restamp-judged : words_hold x ≡ true → (p : ℕ) → valid_image g p (seal_image g x) ≡ valid_image g p x
  restamp-judged w p =
      rw (
        valid-split g p (seal_image g x),
        valid-split g p x,
        sealed-either g (seal_image g x) tag,
        sealed-either g x tag,
        restamp-bytes g x size not_first,
        restamp-named g x size not_first p,
        w,
      ) (ap (λ (b : Bool). b && named p x) (either (words_hold (seal_image g x))))
    where
      either : (b : Bool) → (b || true) ≡ true
      either true = refl
      either false = refl

  -- what was stored, restamped
  pub restamp-image : (k : List Logged) → Image g k x → Image g k (seal_image g x)
  restamp-image k i =
      record {
        page = i.page;
        low = i.low;
        high = i.high;
        number = seal_image-field g x size 2 0 (lit≤ tt) ∙ i.number;
        good = restamp-replay i.page k i.good;
      }

-- it counts as stored exactly if the image that it restamps does
pub restamp-past : (g : Geometry) (v : List ℕ) (k : List Logged) (past : List StoredItem) (at : Place) (ys : List ℕ) → is_image g at ≡ true
    → (Image g k (item g v at) → Image g k ys) → Past g k past
    → Past g k (cond (stored_before at (item g v at) past) (one_item at ys ∷ past) past)
restamp-past g v k past at ys i f ps = by_cases (stored_before at (item g v at) past)
    (λ t. rw t (past-cons g k past (one_item at ys) (λ z. f (ps at (item g v at) i t)) ps))
    (λ t. rw t ps)

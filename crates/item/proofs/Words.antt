-- Laws of a record's layout by words: the fields in a word of four bytes, the rule by the word of offset, fill and byte 15.
use mathlib.Core.Path.{◌≡◌, refl, sym, ◌∙◌}
use mathlib.Core.Bool.{Bool, true, false, ◌&&◌, and_assoc}
use mathlib.Core.Logic.{◌⊎◌}
use mathlib.Core.List.{List}
use Prim.Native.Nat.{ℕ, ◌+◌, ◌-◌, ◌*◌, ◌/◌, ◌%◌, ◌≤◌, ◌<◌}
use native.Mathlib.Omega.{arith}
use lib.Dec.{eqb, leb}
use lib.ListN.{get_or}
use borrow.Author.Tests.{eqb-true, eq-eqb, ne_eqb, leb-true, leb-false, le-leb}
use Rattle.codec.proofs.Stores.{field-two}
use Rattle.laws.proofs.Changes.{fits-facts}
use Rattle.laws.proofs.Fields.{field-add}
use Rattle.laws.proofs.Tables.{and_left, by_cases}
use Rattle.item.proofs.Rules.{no_kind, ranged-is}
use Rattle.model.specs.Bytes.{Octets, field, byte_at, part, all_zero}
use Rattle.model.specs.Change.{change_fits}
use Rattle.model.specs.Item.{record_of, record_layout}
use Rattle.model.specs.Tables.{within}

-- ---- the rule by the word w of offset, fill and byte 15

-- the rule and byte 15
abbrev pub ruled_by : ℕ → ℕ → ℕ → Bool
ruled_by k n w = change_fits k n (w % 65536) (w / 65536 % 256) && eqb (w / 16777216) 0

-- a word is a right offset exactly where its two low bytes are and the others are 0
one-test : (w m : ℕ) → m ≤ 244 → leb w m ≡ (leb (w % 65536) m && (eqb (w / 65536 % 256) 0 && eqb (w / 16777216) 0))
one-test w m h =
    by_cases (leb w m)
    (λ t.
    let b : w ≤ m = leb-true w m t in
    let o : leb (w % 65536) m ≡ true = le-leb (w % 65536) m (omega (arith, b)) in
    let f : eqb (w / 65536 % 256) 0 ≡ true = eq-eqb (w / 65536 % 256) 0 (omega (arith, b)) in
    let z : eqb (w / 16777216) 0 ≡ true = eq-eqb (w / 16777216) 0 (omega (arith, b)) in
    rw (t, o, f, z))
    (λ t.
    let b : m < w = leb-false w m t in
    rw t
    (by_cases (leb (w % 65536) m)
    (λ o. by_cases (eqb (w / 65536 % 256) 0)
    (λ f.
    let o' : w % 65536 ≤ m = leb-true _ _ o in
    let f' : w / 65536 % 256 ≡ 0 = eqb-true _ _ f in
    let z : eqb (w / 16777216) 0 ≡ false = ne_eqb (w / 16777216) 0 (λ e. omega (arith, b, o', f', e)) in
    rw (o, f, z))
    (λ f. rw (o, f)))
    (λ o. rw o)))

module _ (k n w : ℕ) where
  pub ruled-format : k ≡ 1 → (eqb n 0 && (eqb (w % 65536) 0 && eqb (w / 16777216) 0)) ≡ ruled_by k n w
  unfolding change_fits
  ruled-format e = rw e (sym (and_assoc (eqb n 0) (eqb (w % 65536) 0) (eqb (w / 16777216) 0)))

  pub ruled-none : (k ≡ 1 → ⊥) → (k ≡ 2 → ⊥) → (k ≡ 3 → ⊥) → false ≡ ruled_by k n w
  ruled-none a b c = rw (← no_kind k n (w % 65536) (w / 65536 % 256) a b c)

  pub ruled-ranged : (k ≡ 2) ⊎ (k ≡ 3) → ((leb 1 n && leb n 44) && leb w (244 - n)) ≡ ruled_by k n w
  ruled-ranged kind =
      rw (← ranged-is k n (w % 65536) (w / 65536 % 256) kind)
      (by_cases (within 44 n)
      (λ t. rw t (one-test w (244 - n) (omega arith)
      ∙ sym (and_assoc (leb (w % 65536) (244 - n)) (eqb (w / 65536 % 256) 0) (eqb (w / 16777216) 0))))
      (λ t. rw t))

  -- at most 44 bytes
  pub ruled-length : ruled_by k n w ≡ true → n ≤ 44
  ruled-length h = (fits-facts k n (w % 65536) (w / 65536 % 256) (and_left _ _ h)).length

-- ---- the fields in a word of four bytes

pub record Word (w half third last : ℕ) : Type 0 where
  pub half_is : w % 65536 ≡ half
  pub third-is : w / 65536 % 256 ≡ third
  pub last-is : w / 16777216 ≡ last

word : (a b c d w : ℕ) → a < 256 → b < 256 → c < 256 → d < 256 → w ≡ a + 256 * b + 65536 * (c + 256 * d) → Word w (a + 256 * b) c d
word a b c d w ha hb hc hd e =
    record { half_is = omega arith; third-is = omega arith; last-is = omega arith }

word_at : (at : ℕ) (xs : List ℕ) → Octets xs → Word (field 4 at xs) (field 2 at xs) (byte_at xs (at + 2)) (byte_at xs (at + 2 + 1))
word_at at xs o =
    rw (field-two at xs)
    (word (get_or xs at 0) (get_or xs (at + 1) 0) (get_or xs (at + 2) 0) (get_or xs (at + 2 + 1) 0) (field 4 at xs) (o at) (o (at + 1)) (o (at + 2))
    (o (at + 2 + 1)) (field-add 2 2 at xs ∙ rw (field-two at xs, field-two (at + 2) xs)))

-- ---- the layout

-- a record's bytes, its two words, and what the rule by them gives
pub record Judged (r : List ℕ) (v w : ℕ) (b : Bool) : Type 0 where
  pub octets : Octets r
  pub first : v ≡ field 4 8 r
  pub second : w ≡ field 4 12 r
  pub rule : b ≡ ruled_by (v / 65536 % 256) (v / 16777216) w

module _ (r : List ℕ) (v w : ℕ) (b : Bool) (j : Judged r v w b) where
  joined : (p : Bool) → p ≡ all_zero (part r (16 + v / 16777216) (44 - v / 16777216)) → (b && p) ≡ record_layout r
  unfolding record_layout record_of
  joined p ep =
      let x = word_at 8 r j.octets in
      let y = word_at 12 r j.octets in
      rw (j.rule, ep, j.first, j.second, x.third-is, x.last-is, y.half_is, y.third-is, y.last-is)
      (and_assoc (change_fits (byte_at r 10) (byte_at r 11) (field 2 12 r) (byte_at r 14)) (eqb (byte_at r 15) 0)
      (all_zero (part r (16 + byte_at r 11) (44 - byte_at r 11))))

  pub words-unfit : b ≡ false → false ≡ record_layout r
  words-unfit h = let e = joined _ refl in rw h at e

  -- the payload past the length
  pub words-padded : (p : Bool) → b ≡ true → p ≡ all_zero (part r (16 + v / 16777216) (44 - v / 16777216)) → p ≡ record_layout r
  words-padded p h ep = let e = joined p ep in rw h at e

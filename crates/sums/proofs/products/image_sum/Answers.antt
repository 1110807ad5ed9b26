-- `products::image_sum`: the loop keeps the sums of the parts so far.
use mathlib.Core.Path.{◌≡◌, sym, ap, ◌∙◌}
use mathlib.Core.List.{List}
use Prim.Native.Nat.{ℕ, ◌+◌, ◌*◌, ◌-◌, ◌≤◌}
use native.Mathlib.Omega.{arith}
use Rattle.laws.proofs.Fields.{Bytes, bytes-part}
use Rattle.model.specs.Bytes.{field, part}
use Rattle.sums.specs.Products.{low, high, place_of, quarter}
use Rattle.sums.proofs.Images.{no-parts, no-parts-high, part-low-most, part-high-most, term-most, lows-most}
use Rattle.sums.proofs.Images.{highs-most, lows-next, highs-next, lows-all, highs-all, image-checksum}
use Rattle.sums.proofs.products.image_sum.Goals.{After-loop-k, After-sums_at-t}
use Rattle.sums.proofs.products.image_sum.Goals as goal

pub loop-k-init : goal.loop-k-init
loop-k-init c =
    let s = c.args.s.now in
    (no-parts s, no-parts-high s)

pub sums_at-t-requires : goal.sums_at-t-requires
sums_at-t-requires c = omega (arith, c.place.ensures.1)

-- a part's sums
module _ (c : goal.After-sums_at-t) where
  abbrev bytes_of : List ℕ
  bytes_of = c.args.s.now

  abbrev k-of : ℕ
  k-of = c.loop-k.k

  abbrev quarter-of : List ℕ
  quarter-of = quarter bytes_of k-of

  known : Bytes bytes_of
  known i = (c.type_inv.s i).fits

  known-part : Bytes quarter-of
  known-part = bytes-part bytes_of (place_of k-of) 64 known

  is-low : c.sums_at-t.result.a ≡ low quarter-of 32
  is-low = c.sums_at-t.ensures.0 ∙ ap (λ (p : ℕ). low (part bytes_of p 64) 32) c.place.ensures.0

  is-high : c.sums_at-t.result.b ≡ high quarter-of 32
  is-high = c.sums_at-t.ensures.1 ∙ ap (λ (p : ℕ). high (part bytes_of p 64) 32) c.place.ensures.0

  low-few : c.sums_at-t.result.a ≤ 2097120
  low-few = omega (arith, is-low, part-low-most quarter-of known-part)

  high-few : c.sums_at-t.result.b ≤ 34602480
  high-few = omega (arith, is-high, part-high-most quarter-of known-part)

pub overflow_add-a : goal.overflow_add-a
overflow_add-a c =
    let w = (goal.at.overflow_add-a c).After-sums_at-t in
    omega (arith, low-few w, lows-most (bytes_of w) (known w) (k-of w))

pub overflow_mul-b : goal.overflow_mul-b
overflow_mul-b c =
    omega (arith, term-most c.above.result c.sums_at-t.result.a c.above.ensures.1 (low-few (goal.at.overflow_mul-b c).After-sums_at-t))

pub overflow_add-b : goal.overflow_add-b
overflow_add-b c =
    let w = (goal.at.overflow_add-b c).After-sums_at-t in
    let u = c.above in
    omega (arith, high-few w, term-most u.result c.sums_at-t.result.a u.ensures.1 (low-few w))

pub overflow_add-b-in-loop-k : goal.overflow_add-b-in-loop-k
overflow_add-b-in-loop-k c =
    let w = (goal.at.overflow_add-b-in-loop-k c).After-sums_at-t in
    let u = c.above in
    omega (
      arith,
      high-few w,
      highs-most (bytes_of w) (known w) (k-of w),
      term-most u.result c.sums_at-t.result.a u.ensures.1 (low-few w),
    )

pub loop-k-preserved : goal.loop-k-preserved
loop-k-preserved c =
    let w = (goal.at.loop-k-preserved c).After-sums_at-t in
    let u = c.above in
    let l = c.loop-k in
    let r = c.sums_at-t.result in (
      lows-next (bytes_of w) (k-of w) l.a l.b r.a r.b u.result (is-low w) l.invariant.0,
      highs-next (bytes_of w) (k-of w) l.a l.b r.a r.b u.result (is-low w) (is-high w) u.ensures.0 l.invariant.1,
    )

-- after the last part
module _ (c : goal.After-loop-k) where
  abbrev image : List ℕ
  image = c.args.s.now

  last : c.loop-k.k ≡ 4
  last = omega arith

  first_word : c.from-v.result ≡ field 2 188 image
  first_word = c.from-v.ensures ∙ c.two.ensures

  second_word : c.from-w.result ≡ field 2 190 image
  second_word = c.from-w.ensures ∙ c.two-2.ensures

  sum_low : c.loop-k.a ≡ 1 + low image 126 + field 2 188 image + field 2 190 image
  sum_low = let e = rw last at c.loop-k.invariant.0 in omega (arith, e, lows-all image)

  sum-high : c.loop-k.b ≡ 126 + high image 126 + 32 * field 2 188 image + 31 * field 2 190 image
  sum-high = let e = rw last at c.loop-k.invariant.1 in omega (arith, e, highs-all image)

  few : c.loop-k.b ≤ 1073741824
  few =
      let b : Bytes image = λ i. (c.type_inv.s i).fits in
      omega (arith, highs-most image b c.loop-k.k)

  few-low : c.loop-k.a ≤ 1073741824
  few-low =
      let b : Bytes image = λ i. (c.type_inv.s i).fits in
      omega (arith, lows-most image b c.loop-k.k)

pub overflow_sub-b : goal.overflow_sub-b
overflow_sub-b c = omega (arith, first_word c, sum-high c)

pub overflow_sub-b-2 : goal.overflow_sub-b-2
overflow_sub-b-2 c = omega (arith, first_word c, second_word c, sum-high c)

pub folded-requires : goal.folded-requires
folded-requires c = omega (arith, few c)

pub overflow_mul-result : goal.overflow_mul-result
overflow_mul-result c = omega (arith, c.folded.ensures.1)

pub overflow_sub-a : goal.overflow_sub-a
overflow_sub-a c =
    let w = (goal.at.overflow_sub-a c).After-loop-k in omega (arith, first_word w, sum_low w)

pub overflow_sub-a-2 : goal.overflow_sub-a-2
overflow_sub-a-2 c =
    let w = (goal.at.overflow_sub-a-2 c).After-loop-k in omega (arith, first_word w, second_word w, sum_low w)

pub folded-requires-2 : goal.folded-requires-2
folded-requires-2 c = omega (arith, few-low (goal.at.folded-requires-2 c).After-loop-k)

pub overflow_add-result : goal.overflow_add-result
overflow_add-result c = omega (arith, c.folded.ensures.1, c.folded-2.ensures.1)

pub returns : goal.returns
returns c =
    let k = (goal.at.returns c).After-loop-k in
    let l = c.loop-k in
    let v = c.from-v.result in
    let w = c.from-w.result in
    let e : l.a - v - w ≡ 1 + low (image k) 126 = omega (arith, first_word k, second_word k, sum_low k) in
    let f : l.b - 32 * v - 31 * w ≡ 126 + high (image k) 126 = omega (arith, first_word k, second_word k, sum-high k) in
    rw (c.folded.ensures.0, c.folded-2.ensures.0, e, f)
    (sym (image-checksum (image k) c.requires))

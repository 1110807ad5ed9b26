-- Claims at their edge, where a text that says a little less would let another thing pass: a volume that differs in one byte more than an
-- item has is left by no call; two images of different bodies are judged alike, so that the forecast is the same; and rows out of the
-- documents' order, an exception taken back too, are no table's.
use Prim.Native.Nat.{ℕ, suc, ◌+◌, ◌≤◌, ◌<◌}
use mathlib.Core.Path.{◌≡◌, refl, sym, ap, ◌∙◌}
use mathlib.Core.Logic.{◌≢◌, ◌⊎◌, inl, inr}
use mathlib.Core.Bool.{true, false}
use mathlib.Core.List.{List, [], ◌∷◌, map}
use native.Mathlib.Omega.{arith}
use native.Mathlib.Decide.{dec_lt}
use lib.Dec.{eqb→eq}
use lib.ListN.{length, get_or, replicate, length-replicate}
use Rattle.laws.proofs.Parts.{splice-length, splice_at, splice-before, splice-after}
use Rattle.reports_laws.proofs.Forecast.{forecast}
use Rattle.laws.proofs.Demand1.{demand1}
use Rattle.model.specs.Tables.{Row, within}
use Rattle.model.specs.Bytes.{field, splice}
use Rattle.model.specs.Checksum.{seal_image, image_sealed}
use Rattle.model.specs.Geometry.{Place, page_at, slot_at, record_at, note_at, item_of, width, start, geometry_of, valid_volume}
use Rattle.model.specs.Geometry.{empty_volume, item, store}
use Rattle.model.specs.Item.{image_page, image_lsn, valid_image, frame_image}
use Rattle.model.specs.Outcome.{volume_after}
use Rattle.model.specs.Calls.{Call, outcome_of}
use Rattle.model.specs.Claim.{reached}
use Rattle.model.specs.Demand1.{DiffersAt, AtMostOneItem, Arrays}
use Rattle.reports.specs.Forecast.{forecast_of, JudgedAlike}
use Rattle.model.specs.Precedence.{inspect_exceptions, ordered}
use Rattle.reports.specs.ReportsOrdered.{archive_exceptions}
use Rattle.model.specs.declared.state.State.{State}
use Rattle.model.specs.declared.geometry.Heading.TheVariants.{First, Second}
use Rattle.cases.specs.Opened.{opened}
use Rattle.cases.specs.Worked.{history_of}
use Rattle.cases.specs.Histories.{forces_cut}
use Rattle.cases.proofs.Tests.{holds}

-- ---- one item, and one byte more

-- the bytes right before and right behind a stored item, of every kind, are as they were
pub before_same : (v w : List ℕ) (at : Place) → DiffersAt v w at → (i : ℕ) → suc i ≡ start (geometry_of v) at → get_or w i 0 ≡ get_or v i 0
before_same v w at d i e = d.outside i (inl (omega (arith, e)))

pub behind-same : (v w : List ℕ) (at : Place) → DiffersAt v w at
    → get_or w (start (geometry_of v) at + width at) 0 ≡ get_or v (start (geometry_of v) at + width at) 0
behind-same v w at d = d.outside (start (geometry_of v) at + width at) (inr (omega arith))

width-most : (at : Place) → width at ≤ 256
width-most (page_at i) = omega arith
width-most (slot_at i) = omega arith
width-most (record_at i) = omega arith
width-most (note_at i) = omega arith

-- no item has two bytes that stand 256 apart
far_apart : (v w : List ℕ) (a : ℕ) → a ≢ 3 → get_or w a 0 ≢ get_or v a 0 → get_or w (a + 256) 0 ≢ get_or v (a + 256) 0
    → AtMostOneItem v w → ⊥
far_apart v w a ne d e (inl q) = d (ap (λ (x : List ℕ). get_or x a 0) q)
far_apart v w a ne d e (inr (inl (at, x))) = elim (dec_lt a (start (geometry_of v) at)) [
  | yes l ↦ d (x.outside a (inl l))
  | no l ↦ e (x.outside (a + 256) (inr (omega (arith, width-most at))))
]
far_apart v w a ne d e (inr (inr x)) = d (x.outside a ne)

-- a fresh volume of two pages, and n bytes from page 1's image on written over
abbrev fresh : List ℕ
fresh = empty_volume Second 2 1 2 2

abbrev ones : ℕ → List ℕ
ones n = replicate n 1

abbrev over : ℕ → List ℕ
over n = splice fresh 8 (ones n)

fresh-length : length fresh ≡ 948
unfolding opened
fresh-length = eqb→eq (length fresh) 948 tt

over-fits : (n : ℕ) → n ≤ 257 → 8 + length (ones n) ≤ length fresh
over-fits n h = omega (arith, fresh-length, length-replicate {A = ℕ} n 1)

page-one : item_of (geometry_of fresh) (page_at 1) ≡ true
unfolding opened
page-one = holds (item_of (geometry_of fresh) (page_at 1)) tt

-- 256 bytes are page 1's image
pub one-item : DiffersAt fresh (over 256) (page_at 1)
one-item =
    let f = over-fits 256 (omega arith) in
    record {
      item = page-one;
      size = splice-length fresh 8 (ones 256) f;
      outside = apart f;
    }
  where
    apart : 8 + length (ones 256) ≤ length fresh → (i : ℕ)
        → (i < start (geometry_of fresh) (page_at 1)) ⊎ (start (geometry_of fresh) (page_at 1) + width (page_at 1) ≤ i)
        → get_or (over 256) i 0 ≡ get_or fresh i 0
    apart f i (inl l) = splice-before fresh 8 (ones 256) f i l
    apart f i (inr l) = splice-after fresh 8 (ones 256) f i (omega (arith, l, length-replicate {A = ℕ} 256 1))

-- 257 are no item
zero-there : (get_or fresh 8 0 ≡ 0) × (get_or fresh 264 0 ≡ 0)
unfolding opened
zero-there = (eqb→eq (get_or fresh 8 0) 0 tt, eqb→eq (get_or fresh 264 0) 0 tt)

one-there : (i : ℕ) → i < 257 → get_or (over 257) (8 + i) 0 ≡ get_or (ones 257) i 0
one-there i l =
    splice_at fresh 8 (ones 257) (over-fits 257 (omega arith)) i (omega (arith, l, length-replicate {A = ℕ} 257 1))

pub one-byte-more : AtMostOneItem fresh (over 257) → ⊥
one-byte-more =
    let a : get_or (over 257) 8 0 ≡ 1 = one-there 0 (omega arith) in
    let b : get_or (over 257) 264 0 ≡ 1 = one-there 256 (omega arith) in
    far_apart fresh (over 257) 8 (λ e. omega (arith, e)) (λ e. omega (arith, e, a, zero-there.0)) (λ e. omega (arith, e, b, zero-there.1))

-- so by demand 1 no call on the state leaves it
pub no-call-leaves : (c : Call) (m : List ℕ) (s : State) → Arrays s → volume_after fresh (outcome_of c fresh m s).stored ≢ over 257
no-call-leaves c m s a e =
    let k = (demand1.calls c fresh m s a).one_item in
    let q : AtMostOneItem fresh (over 257) = rw e at k in
    one-byte-more q

-- ---- two images that differ

-- the volume of a worked history, page 1's image there, and one of another body
abbrev v : List ℕ
v = (reached (history_of (forces_cut First))).volume

abbrev own : List ℕ
own = item (geometry_of v) v (page_at 1)

abbrev other : List ℕ
other = seal_image (geometry_of v) (frame_image 1 2 (replicate 244 9))

alike : (x y : List ℕ) → image_sealed (geometry_of v) x ≡ image_sealed (geometry_of v) y → image_page x ≡ image_page y
    → field 2 2 x ≡ field 2 2 y → image_lsn x ≡ image_lsn y → JudgedAlike v x y
unfolding valid_image
alike x y a b c d = record { valid = λ p. rw (a, b, c); number = d }

sealed-both : (image_sealed (geometry_of v) other ≡ true) × (image_sealed (geometry_of v) own ≡ true)
unfolding opened
sealed-both = (holds (image_sealed (geometry_of v) other) tt, holds (image_sealed (geometry_of v) own) tt)

page-both : (image_page other ≡ 1) × (image_page own ≡ 1)
unfolding opened
page-both = (eqb→eq (image_page other) 1 tt, eqb→eq (image_page own) 1 tt)

zeros-both : (field 2 2 other ≡ 0) × (field 2 2 own ≡ 0)
unfolding opened
zeros-both = (eqb→eq (field 2 2 other) 0 tt, eqb→eq (field 2 2 own) 0 tt)

number-both : (image_lsn other ≡ 2) × (image_lsn own ≡ 2)
unfolding opened
number-both = (eqb→eq (image_lsn other) 2 tt, eqb→eq (image_lsn own) 2 tt)

body-both : (get_or other 8 0 ≡ 9) × (get_or own 8 0 ≡ 0x41)
unfolding opened
body-both = (eqb→eq (get_or other 8 0) 9 tt, eqb→eq (get_or own 8 0) 0x41 tt)

pub judged-alike : JudgedAlike v other own
judged-alike =
    alike other own (sealed-both.0 ∙ sym sealed-both.1) (page-both.0 ∙ sym page-both.1) (zeros-both.0 ∙ sym zeros-both.1)
    (number-both.0 ∙ sym number-both.1)

pub images-differ : other ≢ own
images-differ e =
    let q : get_or other 8 0 ≡ get_or own 8 0 = ap (λ (x : List ℕ). get_or x 8 0) e in
    omega (arith, q, body-both.0, body-both.1)

taken : (valid_volume v ≡ true) × (within (geometry_of v).pages 1 ≡ true) × (length other ≡ 256)
unfolding opened
taken = (holds (valid_volume v) tt, holds (within (geometry_of v).pages 1) tt, eqb→eq (length other) 256 tt)

pub same-forecast : forecast_of (store (geometry_of v) v (page_at 1) other) ≡ forecast_of v
same-forecast = forecast.page v other 1 taken.0 taken.1 taken.2 judged-alike

-- ---- rows out of order

abbrev numbered : List ℕ → List Row
numbered ns = map (λ n. (false, n)) ns

-- a number above a later one, next to it or not; and an exception, which must be as it is said and holds of no other table
pub out_of_order : (ordered [] (numbered (13 ∷ 15 ∷ 14 ∷ [])) ≡ false) × (ordered [] (numbered (14 ∷ 15 ∷ 13 ∷ [])) ≡ false)
    × (ordered inspect_exceptions (numbered (7 ∷ 17 ∷ 18 ∷ [])) ≡ false)
    × (ordered inspect_exceptions (numbered (18 ∷ 7 ∷ 17 ∷ [])) ≡ false)
    × (ordered archive_exceptions (numbered (21 ∷ 24 ∷ [])) ≡ false) × (ordered [] (numbered (24 ∷ 21 ∷ [])) ≡ false)
out_of_order = (refl, refl, refl, refl, refl, refl)

pub in_order : (ordered [] (numbered (1 ∷ 2 ∷ 2 ∷ 13 ∷ 14 ∷ [])) ≡ true)
    × (ordered inspect_exceptions (numbered (3 ∷ 17 ∷ 18 ∷ 7 ∷ 23 ∷ [])) ≡ true)
    × (ordered archive_exceptions (numbered (18 ∷ 24 ∷ 21 ∷ [])) ≡ true)
in_order = (refl, refl, refl)

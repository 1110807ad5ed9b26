-- Laws of the log's one pass: a record's tests as the pass makes them, where the pass stands, and what it leaves where it stops.
use mathlib.Core.Path.{◌≡◌, refl, sym, ap, ◌∙◌}
use mathlib.Core.Bool.{Bool, true, false, ◌&&◌, ◌||◌}
use mathlib.Core.List.{List}
use Prim.Native.Nat.{ℕ, ◌+◌, ◌-◌, ◌*◌, ◌/◌, ◌%◌, ◌≤◌, ◌<◌}
use native.Mathlib.Nat.{mod-lt, mod-add-mod}
use native.Mathlib.Omega.{arith}
use native.Mathlib.Decide.{ℕ_discrete}
use lib.Dec.{eqb, leb}
use lib.ListN.{length, take, drop, get_or, set, replicate}
use borrow.Author.Tests.{eq-eqb, ne_eqb, lt-leb, le-leb}
use Rattle.laws.proofs.Tables.{and_left, and_right, and_both, within-bounds}
use Rattle.laws.proofs.Fields.{Bytes, field-add, field-one, field_below}
use Rattle.laws.proofs.Parts.{part-lent}
use Rattle.model.specs.Bytes.{field, part}
use Rattle.model.specs.Checksum.{sealed}
use Rattle.model.specs.Geometry.{start, record_at, log_slot, item}
use Rattle.model.specs.Item.{record_of, record_layout}
use Rattle.model.specs.Tables.{within}
use Rattle.model.specs.declared.geometry.Geometry.{Geometry}
use Rattle.section.proofs.SectionLaws.{after_last, after-other}
use Rattle.section.specs.Sweep.{Guessed}
use Rattle.section.specs.declared.guess.Guess.{Guess}
use Rattle.log_scan.specs.LogPassed.{LogPassed, right_of, links_to}
use Rattle.log_scan.specs.Rows.{row_of}
use Rattle.log_scan.specs.LogSection.{Sized, log_section, record_follows}
use Rattle.log_scan.proofs.RowLaws.{row_is}
use Rattle.log_scan.proofs.Located.{record-here, record-fits, record-length}
use Rattle.log_scan.proofs.LogPass.{Judged, judged-none, judged-more}

-- ---- the chain's test

below-links : (a b t k : Bool) → (a && (b && t)) ≡ ((a && (b && t)) && (k || b))
below-links false b t k = refl
below-links true false t k = refl
below-links true true false k = refl
below-links true true true true = refl
below-links true true true false = refl

module _ (prev last below kind : ℕ) where
  pub links-below : (prev ≡ last → ⊥) → (eqb last 0 && within below prev) ≡ links_to prev last below kind
  links-below h = rw (ne_eqb prev last h) (below-links (eqb last 0) (leb 1 prev) (leb prev below) (eqb kind 1))

  pub links-first : prev ≡ last → prev ≡ 0 → eqb kind 1 ≡ links_to prev last below kind
  links-first h z = rw (eq-eqb prev last h, lt-leb 1 prev (omega arith)) (last-false (eqb kind 1))
    where
      last-false : (k : Bool) → k ≡ (k || false)
      last-false true = refl
      last-false false = refl

  pub links-last : prev ≡ last → (prev ≡ 0 → ⊥) → true ≡ links_to prev last below kind
  links-last h z = rw (eq-eqb prev last h, le-leb 1 prev (omega (arith, z))) (last-true (eqb kind 1))
    where
      last-true : (k : Bool) → true ≡ (k || true)
      last-true true = refl
      last-true false = refl

-- ---- a record's fields and tests, as the pass reads them

pub right-page : (r : List ℕ) (n page pages : ℕ) → right_of r n page pages ≡ true → (1 ≤ page) × (page ≤ pages)
right-page r n page pages t =
    within-bounds pages page
    (and_right (eqb (field 4 0 r) n) (within pages page) (and_left (eqb (field 4 0 r) n && within pages page) (record_layout r) t))

-- as the code tests it, with the number read
module _ (r : List ℕ) (n page pages a : ℕ) (ea : a ≡ field 4 0 r) where
  pub right-fails : (eqb a n && within pages page) ≡ false → false ≡ right_of r n page pages
  right-fails e = rw (← ea, e)

  pub right-holds : (l : Bool) → (eqb a n && within pages page) ≡ true → l ≡ record_layout r → l ≡ right_of r n page pages
  right-holds l e q = rw (← ea, e) q

module _ (r : List ℕ) (b : Bytes r) (x : ℕ) (ex : x ≡ field 4 8 r) where
  pub page-is : x % 65536 ≡ (record_of r).page
  unfolding record_of
  page-is = omega (arith, field-add 2 2 8 r, field_below 2 8 r b)

  pub kind-is : x / 65536 % 256 ≡ (record_of r).kind
  unfolding record_of
  kind-is = omega (arith, field-add 2 2 8 r, field_below 2 8 r b, field-add 1 1 10 r, field-one 10 r, b 10)

-- a record that the pass takes fits
module _ (r : List ℕ) (page kind : ℕ) (page-read : page ≡ (record_of r).page) (kind-read : kind ≡ (record_of r).kind) where
  pub follows : (pages below was n : ℕ) → sealed 60 r ≡ true → right_of r n page pages ≡ true
      → links_to (field 4 4 r) was below kind ≡ true
      → record_follows (sealed 60 r) (record_layout r) (record_of r) pages below was n ≡ true
  unfolding record_of
  follows pages below was n w t l =
      let h = and_left (eqb (field 4 0 r) n && within pages page) (record_layout r) t in
      and_both w (and_both (and_right (eqb (field 4 0 r) n && within pages page) (record_layout r) t)
      (and_both (and_left (eqb (field 4 0 r) n) (within pages page) h)
      (and_both (ap (within pages) (sym page-read) ∙ and_right (eqb (field 4 0 r) n) (within pages page) h)
      (ap (links_to (field 4 4 r) was below) (sym kind-read) ∙ l))))

-- ---- where the pass stands

-- records from f to the one before n passed, and record n's slot at `from`
pub record Going (g : Geometry) (v : List ℕ) (f n from : ℕ) (last : List ℕ) : Type 0 where
  pub low : f ≤ n
  pub most : n ≤ f + g.records
  pub place : from ≡ start g (record_at 1) + 64 * ((n - 1) % g.records)
  pub judged : Judged g v f (n - f) last

-- the place behind that of number n, of L slots
next_place : (at L n from end stop r : ℕ) → 1 ≤ n → 1 ≤ L → from ≡ at + 64 * ((n - 1) % L) → end ≡ from + 64 → stop ≡ at + 64 * L
    → (end ≡ stop → r ≡ at) × ((end ≡ stop → ⊥) → r ≡ end) → r ≡ at + 64 * ((n + 1 - 1) % L)
next_place at L n from end stop r low some ef ee es h =
    let m : (n - 1) % L < L = mod-lt (n - 1) some in
    let z : n - 1 + 1 ≡ n + 1 - 1 = omega arith in
    let q : ((n - 1) % L + 1) % L ≡ (n + 1 - 1) % L = mod-add-mod (n - 1) L 1 ∙ ap (λ (y : ℕ). y % L) z in
    elim (ℕ_discrete end stop) [
      | yes e ↦ let t : (n - 1) % L + 1 ≡ L = omega arith in omega (arith, h.0 e, after_last ((n - 1) % L) L t)
      | no e ↦ omega (arith, h.1 e, after-other ((n - 1) % L) L m (λ t. e (omega arith)))
    ]

module _ (g : Geometry) (v : List ℕ) (sized : Sized g v) where
  pub going-none : (u : Guess) → Guessed (log_section g) u → (at from : ℕ) → at ≡ start g (record_at 1) → from ≡ at + 64 * u.slot
      → (last : List ℕ) → last ≡ replicate 64 0 → Going g v u.first u.first from last
  going-none u h at from ea ef last e =
      let z : u.first - u.first ≡ 0 = omega arith in
      let p : u.slot ≡ (u.first - 1) % g.records = h.place sized.some in
      record { low = omega arith; most = omega arith; place = omega arith; judged = rw z (judged-none g v u.first last e) }

  module _ (f n from : ℕ) (last : List ℕ) (w : Going g v f n from last) where
    pub going-room : from + 64 ≤ length v
    going-room = omega (arith, w.place, record-fits g v sized n)

    -- the slice that is read is the number's record
    pub going-here : take (from + 64 - from) (drop from v) ≡ item g v (log_slot g n)
    going-here =
        record-here g v (log_section g) n ((n - 1) % g.records) (take (from + 64 - from) (drop from v))
        (part-lent v from 64 (from + 64) refl ∙ ap (λ (y : ℕ). part v y 64) w.place) refl refl

    pub going-length : length (take (from + 64 - from) (drop from v)) ≡ 64
    going-length = ap length going-here ∙ record-length g v sized n

    -- the slot is not whole
    pub going-stops : sealed 60 (take (from + 64 - from) (drop from v)) ≡ false → LogPassed g v f n last
    going-stops t =
        record {
          order = w.low;
          few = w.most;
          fit = w.judged.held;
          last-is = w.judged.same;
          torn = λ z. ap (sealed 60) (sym going-here) ∙ t;
        }

    -- every slot is passed
    pub going-ends : f + g.records ≤ n → LogPassed g v f n last
    going-ends h =
        record {
          order = w.low;
          few = w.most;
          fit = w.judged.held;
          last-is = w.judged.same;
          torn = λ z. absurd (omega (arith, w.low));
        }

    -- one more record
    module _ (r : List ℕ) (er : r ≡ item g v (log_slot g n)) (page kind : ℕ) (page-read : page ≡ (record_of r).page)
        (kind-read : kind ≡ (record_of r).kind) (below : ℕ) (below-is : below ≡ f - 1) (some : 1 ≤ f) (left : n < f + g.records) where
      pub going_on : sealed 60 r ≡ true → right_of r n page g.pages ≡ true
          → links_to (field 4 4 r) (get_or last (page - 1) 0) below kind ≡ true
          → (at end stop y : ℕ) → at ≡ start g (record_at 1) → end ≡ from + 64 → stop ≡ at + 64 * g.records
          → (end ≡ stop → y ≡ at) × ((end ≡ stop → ⊥) → y ≡ end) → Going g v f (n + 1) y (set last (page - 1) n)
      going_on sw t l at end stop y ea ee es h =
          let q : page - 1 ≡ row_of (record_of r).page =
          ap (λ (z : ℕ). z - 1) page-read
          ∙ sym (row_is (record_of r).page (omega (arith, right-page r n page g.pages t, sized.pages))) in
          let z : n + 1 - f ≡ n - f + 1 = omega (arith, w.low) in
          record {
            low = omega (arith, w.low);
            most = omega arith;
            place = next_place (start g (record_at 1)) g.records n from end stop y (omega (arith, w.low)) sized.some w.place ee
                (omega arith) (rw (sym ea) h);
            judged = rw z (judged-more g v sized.pages f (n - f) last w.judged.same n (omega (arith, w.low)) below below-is r er
                (record_of r) refl (page - 1) q (sealed 60 r) (record_layout r)
                (record_follows (sealed 60 r) (record_layout r) (record_of r) g.pages below (get_or last (page - 1) 0) n) refl refl refl
                w.judged (follows r page kind page-read kind-read g.pages below (get_or last (page - 1) 0) n sw t l));
          }

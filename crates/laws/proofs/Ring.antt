-- The ring by numbers alone: slots, the run of a section, how it moves when the next item is stored whole or torn, the run start that the
-- scan computes, the highest number, and the walk's key lemma. Places i are counted from 0: the item of number suc i. The log and the notes
-- are two instances.
use mathlib.Core.Path.{◌≡◌, refl, sym, ap, ◌∙◌}
use mathlib.Core.Logic.{◌≢◌, ◌⊎◌, inl, inr, ⊎_elim}
use mathlib.Core.Bool.{Bool, true, false, cond}
use mathlib.Core.List.{List}
use Prim.Native.Nat.{ℕ, zero, suc, ◌+◌, ◌-◌, ◌%◌, ◌≤◌, ◌<◌}
use native.Mathlib.Nat.{mod-lt, mod-eq_of_lt, mod-add-mod, add-mod_right, mod-eq-sub-mod}
use native.Mathlib.Omega.{arith}
use native.Mathlib.Decide.{dec_lt, ℕ_discrete}
use lib.Dec.{leb}
use borrow.Author.Tests.{leb-true, leb-false}
use Rattle.laws.proofs.Tables.{by_cases, true-not-false}
use Rattle.model.specs.Tables.{larger}
use Rattle.model.specs.Bytes.{field}
use Rattle.model.specs.Checksum.{sealed}
use Rattle.model.specs.Geometry.{slot_of}
use Rattle.model.specs.Scan.{highest}

-- ---- slots

-- numbers at most L stay where they are
pub slot-low : (L i : ℕ) → i < L → slot_of L (suc i) ≡ suc i
slot-low L i b = let e : suc i - 1 ≡ i = omega arith in rw e (ap suc (mod-eq_of_lt b))

pub slot_is : (L i : ℕ) → slot_of L (suc i) ≡ suc (i % L)
slot_is L i = let e : suc i - 1 ≡ i = omega arith in rw e

pub slot-in : (L i : ℕ) → 1 ≤ L → (1 ≤ slot_of L (suc i)) × (slot_of L (suc i) ≤ L)
slot-in L i b = let m : i % L < L = mod-lt i b in rw (slot_is L i) (omega arith, omega arith)

-- slot(n + L) = slot(n)
pub slot-again : (L i : ℕ) → slot_of L (suc (i + L)) ≡ slot_of L (suc i)
slot-again L i = rw (slot_is L (i + L), slot_is L i, add-mod_right i L)

rest-apart : (L i d : ℕ) → 1 ≤ d → d < L → (i + d) % L ≢ i % L
rest-apart L i d a b e =
    let r : i % L < L = mod-lt i (omega arith) in
    let s : (i % L + d) % L ≡ i % L = mod-add-mod i L d ∙ e in
    elim (dec_lt (i % L + d) L) [
      | yes y ↦ let t : (i % L + d) % L ≡ i % L + d = mod-eq_of_lt y in omega arith
      | no z ↦
          let t : (i % L + d) % L ≡ (i % L + d - L) % L = mod-eq-sub-mod (omega arith) in
          let u : (i % L + d - L) % L ≡ i % L + d - L = mod-eq_of_lt (omega arith) in
          omega arith
    ]

-- injective within L consecutive numbers
pub slot_apart : (L i j : ℕ) → i < j → j < i + L → slot_of L (suc i) ≢ slot_of L (suc j)
slot_apart L i j a b e =
    let s : j ≡ i + (j - i) = omega arith in
    let q : i % L ≡ j % L = let z : suc (i % L) ≡ suc (j % L) = rw (slot_is L i, slot_is L j) at e in omega arith in
    rest-apart L i (j - i) (omega arith) (omega arith) (sym (rw (← s) q))

-- every slot is that of one of the last L numbers
pub record Seat (L n s : ℕ) : Type 0 where
  pub place : ℕ
  pub below : place < n
  pub near : n ≤ place + L
  pub slot-of : slot_of L (suc place) ≡ suc s

pub seat : (L s : ℕ) → s < L → (d : ℕ) → Seat L (L + d) s
seat L s b zero = record { place = s; below = omega arith; near = omega arith; slot-of = slot-low L s b }
seat L s b (suc d) =
    let o = seat L s b d in
    elim (dec_lt (o.place + L) (L + suc d)) [
      | yes y ↦ record {
        place = o.place + L;
        below = omega (arith, o.below, o.near);
        near = omega (arith, o.near);
        slot-of = slot-again L o.place ∙ o.slot-of;
      }
      | no z ↦ record { place = o.place; below = omega (arith, o.below); near = omega arith; slot-of = o.slot-of }
    ]

-- ---- the run of a section: n items in L slots

-- Whole i: place i stands in its slot. Torn i: its slot is not whole. Spare i: it is not needed.
pub record Run (ring : Bool) (L n : ℕ) (Whole Torn Spare : ℕ → Type 0) : Type 0 where
  -- what the next store does not touch
  pub held : (i : ℕ) → i < n → n < i + L → Whole i
  -- what it is to displace: torn only by a store cut there
  pub oldest : (i : ℕ) → i < n → n ≡ i + L → Whole i ⊎ ((ring ≡ true) × Torn i × Spare i)
  -- LOST
  pub lost : (i : ℕ) → i + L < n → Spare i

-- DISPLACED: n kept, t in all
abbrev pub Displaced : ℕ → ℕ → ℕ → (ℕ → Type 0) → Type 0
Displaced L n t Spare = (i : ℕ) → i + L < t → (i < n) × Spare i

module _ (ring : Bool) (L n : ℕ) (W T S W' T' S' : ℕ → Type 0) (up : (i : ℕ) → i < n → S i → S' i) (r : Run ring L n W T S) where
  -- nothing of the section changes, and what is spare stays so
  pub run-keep : ((i : ℕ) → i < n → n ≤ i + L → W i → W' i) → ((i : ℕ) → i < n → n ≤ i + L → T i → T' i) → Run ring L n W' T' S'
  run-keep w t =
      record {
        held = λ i a b. w i a (omega arith) (r.held i a b);
        oldest = λ i b e. ⊎_elim (λ h. inl (w i b (omega arith) h))
            (λ h. inr (h.0, t i b (omega arith) h.1, up i b h.2)) (r.oldest i b e);
        lost = λ i a. up i (omega arith) (r.lost i a);
      }

  -- the next item is stored whole
  pub run-new : ((i : ℕ) → i < n → n < i + L → W i → W' i) → W' n → ((i : ℕ) → i < suc n → n ≡ i + L → S' i) → Run ring L (suc n) W' T' S'
  run-new w here spare =
      record {
        held = λ i a b. held i a (omega arith);
        oldest = λ i b e. inl (held i b (omega arith));
        lost = λ i a. elim (ℕ_discrete n (i + L)) [ yes e ↦ spare i (omega arith) e | no z ↦ up i (omega arith) (r.lost i (omega arith)) ];
      }
    where
      held : (i : ℕ) → i < suc n → n < i + L → W' i
      held i a b = elim (dec_lt i n) [
        | yes y ↦ w i y b (r.held i y b)
        | no z ↦ let e : i ≡ n = omega arith in rw e here
      ]

  -- the next item's slot is left torn
  pub run-torn : ((i : ℕ) → i < n → n < i + L → W i → W' i) → ((i : ℕ) → i < n → n ≡ i + L → (ring ≡ true) × T' i)
      → ((i : ℕ) → i < n → n ≡ i + L → S' i) → Run ring L n W' T' S'
  run-torn w torn spare =
      record {
        held = λ i a b. w i a b (r.held i a b);
        oldest = λ i b e. inr ((torn i b e).0, (torn i b e).1, spare i b e);
        lost = λ i a. up i (omega arith) (r.lost i a);
      }

-- a section that is no ring is also one of a ring (§4: Finish may come at any live moment); DISPLACED is empty there
pub run-plain : (ring : Bool) (L n : ℕ) (W T S : ℕ → Type 0) → Run false L n W T S → Run ring L n W T S
run-plain ring L n W T S r =
    record { held = r.held; oldest = λ i b e. ⊎_elim inl (λ h. absurd (true-not-false h.0 refl)) (r.oldest i b e); lost = r.lost }

-- DISPLACED: one more joins, the first that waits is kept, and a restart
module _ (L n t : ℕ) (S S' : ℕ → Type 0) (up : (i : ℕ) → i < n → S i → S' i) where
  pub displaced-more : Displaced L n t S → ((i : ℕ) → t ≡ i + L → (i < n) × S i) → Displaced L n (suc t) S'
  displaced-more d new i a = elim (ℕ_discrete t (i + L)) [
    | yes e ↦ let q = new i e in (q.0, up i q.0 q.1)
    | no z ↦ let q = d i (omega arith) in (q.0, up i q.0 q.1)
  ]

  pub displaced-keep : (n' : ℕ) → n ≤ n' → Displaced L n t S → Displaced L n' t S'
  displaced-keep n' h d i a = let q = d i a in (omega (arith, q.0), up i q.0 q.1)

pub displaced-restart : (ring : Bool) (L n : ℕ) (W T S : ℕ → Type 0) → Run ring L n W T S → Displaced L n n S
displaced-restart ring L n W T S r i a = (omega arith, r.lost i a)

-- what is asked of the place that the next number would displace gives that it is spare: it is whole, or the run says so
pub run-asked : (ring : Bool) (L n : ℕ) (W T S : ℕ → Type 0) → Run ring L n W T S → (i : ℕ) → i < n → (W i → S i) → S i
run-asked ring L n W T S r i b f = elim (dec_lt n (i + L)) [
  | yes y ↦ f (r.held i b y)
  | no z ↦ elim (ℕ_discrete n (i + L)) [ yes e ↦ ⊎_elim f (λ h. h.2) (r.oldest i b e) | no u ↦ r.lost i (omega arith) ]
]

-- ---- the run start

pub record Start (L n f : ℕ) (Whole Spare : ℕ → Type 0) : Type 0 where
  pub held : (i : ℕ) → i < n → f ≤ i → Whole i
  pub lost : (i : ℕ) → i < n → i < f → Spare i
  pub near : n ≤ f + L
  pub inside : 1 ≤ n → f ≤ n
  pub ends : (L ≤ n) ⊎ ((n ≡ 0) ⊎ (f ≡ 0))

-- f + 1 is the run start that the scan computes; `whole` is the check of slot(max(1, n − L + 1))
abbrev pub start_from : Bool → Bool → ℕ → ℕ → ℕ
start_from ring whole L n = cond ring (cond whole (suc (n - L)) (suc (suc (n - L)))) 1

pub run-start : (ring whole : Bool) (L n : ℕ) (W T S : ℕ → Type 0) → (1 ≤ n → 1 ≤ L) → Run ring L n W T S → (ring ≡ false → n ≤ L)
    → (1 ≤ n → W (n - L) → whole ≡ true) → (1 ≤ n → T (n - L) → whole ≡ false)
    → (f : ℕ) × (start_from ring whole L n ≡ suc f) × Start L n f W S
run-start ring whole L n W T S low r room is_whole is-torn = by_cases ring in-ring no-ring
  where
    no-ring : ring ≡ false → (f : ℕ) × (start_from ring whole L n ≡ suc f) × Start L n f W S
    no-ring e = (
      0,
      rw e refl,
      record {
        held = λ i a b. elim (dec_lt n (i + L)) [
          | yes y ↦ r.held i a y
          | no z ↦ ⊎_elim (λ h. h) (λ h. absurd (true-not-false h.0 e)) (r.oldest i a (omega (arith, room e)))
        ];
        lost = λ i a b. absurd (omega arith);
        near = omega (arith, room e);
        inside = λ a. omega arith;
        ends = inr (inr refl);
      },
    )

    -- whole: the run starts at n − L
    at-whole : (1 ≤ n → W (n - L)) → 1 ≤ n → Start L n (n - L) W S
    at-whole w some =
        record {
          held = λ i a b. elim (dec_lt n (i + L)) [ yes y ↦ r.held i a y | no z ↦ let e : n - L ≡ i = omega arith in rw e at (w some) ];
          lost = λ i a b. r.lost i (omega arith);
          near = omega arith;
          inside = λ a. omega arith;
          ends = elim (dec_lt n L) [ yes y ↦ inr (inr (omega arith)) | no z ↦ inl (omega arith) ];
        }

    none : (f : ℕ) → n ≡ 0 → Start L n f W S
    none f z =
        record {
          held = λ i a b. absurd (omega arith);
          lost = λ i a b. absurd (omega arith);
          near = omega arith;
          inside = λ a. absurd (omega arith);
          ends = inr (inl z);
        }

    in-ring : ring ≡ true → (f : ℕ) × (start_from ring whole L n ≡ suc f) × Start L n f W S
    in-ring e = elim (ℕ_discrete n 0) [
      | yes z ↦ by_cases whole (λ t. (n - L, rw (e, t) refl, none (n - L) z)) (λ t. (suc (n - L), rw (e, t) refl, none (suc (n - L)) z))
      | no nz ↦ elim (dec_lt n L) [
        | yes y ↦ let lo : 1 ≤ L = low (omega arith) in let w : W (n - L) = r.held (n - L) (omega arith) (omega arith) in
            (n - L, rw (e, is_whole (omega arith) w) refl, at-whole (λ a. w) (omega arith))
        | no z ↦ let lo : 1 ≤ L = low (omega arith) in ⊎_elim
            (λ w. (n - L, rw (e, is_whole (omega arith) w) refl, at-whole (λ a. w) (omega arith)))
            (λ h. (
              suc (n - L),
              rw (e, is-torn (omega arith) h.1) refl,
              record {
                held = λ i a b. r.held i a (omega arith);
                lost = λ i a b. elim
                    (ℕ_discrete n (i + L)) [ yes q ↦ let u : n - L ≡ i = omega arith in rw u at h.2 | no q ↦ r.lost i (omega arith) ];
                near = omega arith;
                inside = λ a. omega arith;
                ends = inl (omega arith);
              },
            ))
            (r.oldest (n - L) (omega arith) (omega arith))
      ]
    ]

-- ---- the highest number

pub highest-le : (c : ℕ) (slot : ℕ → List ℕ) (m n : ℕ)
    → ((s : ℕ) → s < n → sealed c (slot (suc s)) ≡ true → field 4 0 (slot (suc s)) ≤ m) → highest c slot n ≤ m
unfolding highest
highest-le c slot m zero h = omega arith
highest-le c slot m (suc n) h =
    let ih : highest c slot n ≤ m = highest-le c slot m n (λ s b. h s (omega arith)) in
    by_cases (sealed c (slot (suc n)))
    (λ t. rw t (let q : field 4 0 (slot (suc n)) ≤ m = h n (omega arith) t in most-of (highest c slot n) (field 4 0 (slot (suc n))) ih q))
    (λ t. rw t (most-of (highest c slot n) 0 ih (omega arith)))
  where
    most-of : (a b : ℕ) → a ≤ m → b ≤ m → larger a b ≤ m
    most-of a b x y = by_cases (leb a b) (λ t. rw t y) (λ t. rw t x)

larger-left : (a b : ℕ) → a ≤ larger a b
larger-left a b = by_cases (leb a b) (λ t. rw t (leb-true a b t)) (λ t. rw t (omega arith))

larger-right : (a b : ℕ) → b ≤ larger a b
larger-right a b = by_cases (leb a b) (λ t. rw t (omega arith)) (λ t. rw t (let l : b < a = leb-false a b t in omega arith))

pub highest-ge : (c : ℕ) (slot : ℕ → List ℕ) (n s : ℕ) → s < n → sealed c (slot (suc s)) ≡ true
    → field 4 0 (slot (suc s)) ≤ highest c slot n
unfolding highest
highest-ge c slot zero s b t = absurd (omega arith)
highest-ge c slot (suc n) s b t = elim (ℕ_discrete s n) [
  | yes e ↦ let u : sealed c (slot (suc n)) ≡ true = rw e at t in rw (e, u) (larger-right (highest c slot n) (field 4 0 (slot (suc n))))
  | no z ↦
      let ih : field 4 0 (slot (suc s)) ≤ highest c slot n = highest-ge c slot n s (omega arith) t in
      omega (arith, larger-left (highest c slot n) (cond (sealed c (slot (suc n))) (field 4 0 (slot (suc n))) 0))
]

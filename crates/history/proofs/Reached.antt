-- Every legal history keeps the invariant, from Make on.
use mathlib.Core.Path.{◌≡◌, refl, sym, ap, ◌∙◌, subst}
use mathlib.Core.Logic.{◌≢◌}
use mathlib.Core.Bool.{true, false, ◌&&◌}
use mathlib.Core.List.{List, []}
use Prim.Native.Nat.{ℕ}
use native.Mathlib.Omega.{arith}
use lib.ListN.{length, replicate}
use lib.Dec.{eqb}
use borrow.Author.Tests.{eqb-false}
use Rattle.laws.proofs.Tables.{by_cases, and_left, true-not-false}
use Rattle.laws.proofs.Zeros.{zero-replicate, zero-fails, zero-image-fails}
use Rattle.laws.proofs.EmptyVolume.{empty-geometry, empty-valid, empty-item}
use Rattle.model.specs.Checksum.{image_sealed}
use Rattle.model.specs.Geometry.{tag_of, carry_tag, Place, page_at, record_at, note_at, geometry_of, valid_counts, length_for}
use Rattle.model.specs.Geometry.{empty_volume, item, with_tag}
use Rattle.model.specs.Item.{valid_image}
use Rattle.model.specs.Refusals.{make_rows}
use Rattle.model.specs.Outcome.{refusal_of}
use Rattle.model.specs.Restart.{make_of}
use Rattle.model.specs.AbstractLog.{empty_log}
use Rattle.model.specs.History.{Power, off, on, stored_before, fresh_machine}
use Rattle.model.specs.Carry.{starts_in}
use Rattle.model.specs.Claim.{History, Legal, fresh, reached, log_of, durable_of}
use Rattle.model.specs.declared.{geometry.Geometry.Geometry, geometry.Heading.Heading, state.State.State}
use Rattle.model.specs.declared.geometry.Heading.TheVariants.{First, Second}
use Rattle.history.proofs.Marks.{Mark, mark-zero}
use Rattle.history.proofs.Leaf.{valid-sealed}
use Rattle.history.proofs.Inv.{Inv}
use Rattle.history.proofs.Context.{Ctx}
use Rattle.history.proofs.Steps.{unharmed, Tied, TiedTo, context, all-steps}

-- ---- Make

abbrev pub geometry_for : Heading → ℕ → ℕ → ℕ → ℕ → Geometry
geometry_for h p b l n = record { tag = tag_of h; pages = p; slots = b; records = l; notes = n }

module _ (h : Heading) (p b l n : ℕ) (ok : valid_counts p b l n ≡ true) where
  abbrev g : Geometry
  g = geometry_for h p b l n

  zero-image : (q : ℕ) (at : Place) → item g (empty_volume h p b l n) at ≡ replicate 256 0
      → valid_image g q (item g (empty_volume h p b l n) at) ≡ true → ⊥
  zero-image q at e t =
      let z : image_sealed g (item g (empty_volume h p b l n) at) ≡ false = rw e (zero-image-fails g) in
      true-not-false (valid-sealed g q (item g (empty_volume h p b l n) at) t) z

  fresh-tied : {C : Type 0} → Inv C (geometry_for h p b l n) (empty_volume h p b l n) [] off empty_log
  unfolding stored_before
  fresh-tied =
      record {
        ns = [];
        holds = record {
          vol = record { geo = empty-geometry h p b l n ok; ok = empty-valid h p b l n ok };
          room = omega arith;
          fair = λ i h. absurd (omega arith);
          tail = record {
            gap = λ j. rw (empty-item h p b l n g refl refl refl refl (record_at 1) (omega arith)) (zero-fails 60 64 (omega arith));
            rest = λ i j z. rw (empty-item h p b l n g refl refl refl refl (record_at i) (omega arith)) (zero-replicate 64);
          };
          images = λ q lo hi t. absurd (zero-image q (page_at q) (empty-item h p b l n g refl refl refl refl (page_at q) (lo, hi)) t);
        };
        noted = record {
          few = omega arith;
          run = record { held = λ i a b. absurd (omega arith); oldest = λ i a b. absurd (omega arith); lost = λ i a. absurd (omega arith) };
          notes = record {
            held = λ i a b. absurd (omega arith);
            oldest = λ i a b. absurd (omega arith);
            lost = λ i a. absurd (omega arith);
          };
          tail = record {
            gap = λ j. rw (empty-item h p b l n g refl refl refl refl (note_at 1) (omega arith)) (zero-fails 12 16 (omega arith));
            rest = λ i j z. rw (empty-item h p b l n g refl refl refl refl (note_at i) (omega arith)) (zero-replicate 16);
          };
          fit = λ i h. absurd (omega arith);
          backups = λ q lo hi z. absurd (z (ap (λ (k : Mark). k.slot) (mark-zero q [])));
          copies = λ c q lo hi z. absurd (z (ap (λ (k : Mark). k.slot) (mark-zero q [])));
        };
        past-ok = λ at xs i e. absurd (none at xs e);
        live = tt;
      }
    where
      none : (at : Place) (xs : List ℕ) → stored_before at xs [] ≡ true → ⊥
      none at xs e = true-not-false e refl

-- a Make that is not refused
pub record Made (h : Heading) (found : List ℕ) (p b l n : ℕ) : Type 0 where
  pub counts : valid_counts p b l n ≡ true
  pub volume-is : (make_of h found p b l n).volume ≡ empty_volume h p b l n

made : (h : Heading) (found : List ℕ) (p b l n : ℕ) → refusal_of (make_of h found p b l n).answer ≡ 0 → Made h found p b l n
unfolding make_of make_rows
made h found p b l n e = by_cases (valid_counts p b l n && eqb (length found) (length_for p b l n))
    (λ t. record { counts = and_left (valid_counts p b l n) (eqb (length found) (length_for p b l n)) t; volume-is = rw t })
    (λ t. absurd (let z : 1 ≡ 0 = rw t at e in omega arith))

-- ---- a legal history

-- the geometry that Make was given
abbrev pub made_with : History → Geometry
made_with h = geometry_for h.heading h.pages h.slots h.records h.notes

-- and its counts under the tag that the volume has now: a history may change the heading
abbrev pub present : History → Geometry
present h = with_tag (made_with h) (geometry_of (reached h).volume).tag

-- no image was damaged, and no Restamp of a noted backup was left torn
abbrev pub Undamaged : History → Type 0
Undamaged h = unharmed (fresh h) h.events ≡ true

module _ (h : History) (legal : Legal h) where
  mk : Made h.heading h.found h.pages h.slots h.records h.notes
  mk = made h.heading h.found h.pages h.slots h.records h.notes legal.make

  start-tied : Tied (Undamaged h) (made_with h) (fresh h) empty_log
  unfolding fresh_machine
  start-tied = rw mk.volume-is (fresh-tied h.heading h.pages h.slots h.records h.notes mk.counts)

  some-tied : TiedTo (Undamaged h) (starts_in h.events) (made_with h) (reached h) (log_of h)
  unfolding reached log_of
  some-tied = all-steps (Undamaged h) h.events (made_with h) (fresh h) empty_log start-tied (λ c. c) legal.events

  tag_is : (geometry_of (reached h).volume).tag ≡ some-tied.0
  tag_is = ap (λ (g : Geometry). g.tag) some-tied.2.holds.vol.geo

  pub tied : Tied (Undamaged h) (present h) (reached h) (log_of h)
  tied = subst (λ (t : ℕ). Tied (Undamaged h) (with_tag (made_with h) t) (reached h) (log_of h)) (sym tag_is) some-tied.2

  -- without a Start the heading is Make's
  pub uncarried : starts_in h.events ≡ false → present h ≡ made_with h
  uncarried z = ap (with_tag (made_with h)) (tag_is ∙ some-tied.1 z (not-carry h.heading))
    where
      not-carry : (x : Heading) → tag_of x ≢ carry_tag
      not-carry First = eqb-false (tag_of First) carry_tag refl
      not-carry Second = eqb-false (tag_of Second) carry_tag refl

  -- the machine that is on
  pub live : (m : List ℕ) (s : State) → (reached h).power ≡ on m s
      → Ctx (Undamaged h) (present h) (reached h).volume m (reached h).past s (durable_of h) (log_of h).pending
  live m s e = context (present h) (reached h).volume m (reached h).past s (log_of h)
      (subst (λ (y : Power). Inv (Undamaged h) (present h) (reached h).volume (reached h).past y (log_of h)) e tied)

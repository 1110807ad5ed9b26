-- What the report of a call for C tells, by its outcome.
use Prim.Native.Nat.{ℕ}
use mathlib.Core.Path.{◌≡◌, refl}
use mathlib.Core.List.{List}
use native.Mathlib.Omega.{arith}
use lib.ListN.{length}
use Rattle.laws.proofs.Parts.{part-splice}
use Rattle.model.specs.Bytes.{part}
use Rattle.model.specs.Geometry.{Place, start, magic_of, geometry_of, store, store_heading}
use Rattle.model.specs.Outcome.{StoredItem, nothing, one_item, new_heading, volume_after}
use Rattle.model.specs.Demand1.{StoresItem}
use Rattle.model.specs.declared.answer.Answer.{Answer}
use Rattle.model.specs.declared.answer.Answer.TheVariants.{Refused, Nothing, Done, Repaired}
use Rattle.face.specs.Face.{told_range, report_after}
use Rattle.face.specs.Claim.{RangeTold, Reported}
use Rattle.called.proofs.Claims.{item-fits, heading-fits}

never : {A : Type 0} → ◌≡◌ {A = ℕ} 0 1 → A
never e = absurd (omega (arith, e))

-- ---- the range

item-stands : (v : List ℕ) (at : Place) (xs : List ℕ) → StoresItem v (one_item at xs)
    → part (volume_after v (one_item at xs)) (start (geometry_of v) at) (length xs) ≡ xs
unfolding volume_after store
item-stands v at xs st = part-splice v (start (geometry_of v) at) xs (item-fits v at xs st)

heading-stands : (v : List ℕ) (tag : ℕ) → StoresItem v (new_heading tag)
    → part (volume_after v (new_heading tag)) 0 4 ≡ magic_of tag
unfolding volume_after store_heading
heading-stands v tag st = part-splice v 0 (magic_of tag) (heading-fits v st.0)

range-told : (v : List ℕ) (x : StoredItem) → StoresItem v x
    → RangeTold (geometry_of v) (volume_after v x) x (told_range (geometry_of v) x).0 (told_range (geometry_of v) x).1
range-told v nothing st =
    record { item = λ at xs e. never (cc); heading = λ tag e. never (cc); none = λ e. (refl, refl) }
range-told v (one_item at xs) st =
    record {
      item = λ at' xs' e. (
        let p : at ≡ at' = cc in rw p,
        let q : xs ≡ xs' = cc in rw q,
        let q : xs ≡ xs' = cc in rw (← q) (item-stands v at xs st),
      );
      heading = λ tag e. never (cc);
      none = λ e. never (cc);
    }
range-told v (new_heading tag) st =
    record {
      item = λ at xs e. never (cc);
      heading = λ tag' e. (refl, refl, let p : tag ≡ tag' = cc in rw (← p) (heading-stands v tag st));
      none = λ e. never (cc);
    }

-- ---- the report

module _ (v : List ℕ) (x : StoredItem) (st : StoresItem v x) (old : List ℕ) where
  pub reported : (a : Answer)
      → Reported (geometry_of v) (volume_after v x) a x old (report_after a (told_range (geometry_of v) x) old)
  reported (Refused n) = record { refused = λ k e. refl; told = λ f. absurd (f n refl) }
  reported Nothing =
      record {
        refused = λ n e. never (cc);
        told = λ f. record {
          size = refl;
          repair = record { repaired = λ r e. never (cc); none = λ g. (refl, refl, refl) };
          range = range-told v x st;
        };
      }
  reported Done =
      record {
        refused = λ n e. never (cc);
        told = λ f. record {
          size = refl;
          repair = record { repaired = λ r e. never (cc); none = λ g. (refl, refl, refl) };
          range = range-told v x st;
        };
      }
  reported (Repaired r) =
      record {
        refused = λ n e. never (cc);
        told = λ f. record {
          size = refl;
          repair = record {
            repaired = λ q e. let p : r ≡ q = cc in rw p (refl, refl, refl);
            none = λ g. absurd (g r refl);
          };
          range = range-told v x st;
        };
      }

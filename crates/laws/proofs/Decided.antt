-- A call that is decided by a table of refusals: its answer's number is the table's, a refusal changes nothing, and what it stores fits its
-- place.
use mathlib.Core.Path.{◌≡◌, refl, sym, ap, ◌∙◌, subst}
use mathlib.Core.Logic.{◌≢◌, inl, inr, ⊎_elim}
use mathlib.Core.Bool.{Bool, true, false, cond}
use mathlib.Core.List.{List, [], ◌∷◌}
use Prim.Native.Nat.{ℕ, zero, suc, ◌+◌, ◌≤◌, ◌<◌}
use native.Mathlib.Nat.{le_of_suc-le-suc, not-suc-le-zero}
use native.Mathlib.Omega.{arith}
use lib.Dec.{eqb}
use lib.ListN.{length, get_or}
use borrow.Author.Tests.{eqb-true, eqb-false, ne_eqb}
use Rattle.laws.proofs.Tables.{Numbered, when_true, when_false, by_cases}
use Rattle.laws.proofs.Parts.{splice-length, splice-before, splice-after}
use Rattle.laws.proofs.Places.{In, in_item, item_in, place-fits, valid-facts, geometry-store}
use Rattle.laws.proofs.Headings.{geometry-heading, differs-in-tag}
use Rattle.model.specs.Tables.{Row, first_of}
use Rattle.model.specs.Geometry.{Place, width, start, store, geometry_of, with_tag, valid_volume}
use Rattle.model.specs.Refusals.{state_rows}
use Rattle.model.specs.Outcome.{StoredItem, nothing, one_item, new_heading, Outcome, volume_after, unchanged, decided, refusal_of}
use Rattle.model.specs.Demand1.{Decides, ByTable, StoresItem, AtMostOneItem}
use Rattle.model.specs.declared.{geometry.Geometry.Geometry, state.State.State, answer.Answer.TheVariants.Refused}

-- ---- tables

-- a row behind another
pub later : (r : Row) (rs : List Row) (n : ℕ) → r.0 ≡ false → Decides rs n → Decides (r ∷ rs) n
later r rs n f d =
    record {
      at = suc d.at;
      within = omega (arith, d.within);
      holds = d.holds;
      number = d.number;
      first = go;
    }
  where
    go : (i : ℕ) → i < suc d.at → (get_or (r ∷ rs) i (false, 0)).0 ≡ false
    go zero l = f
    go (suc i) l = d.first i (le_of_suc-le-suc l)

-- where a number is given, a row gives it
decides : (rs : List Row) → first_of rs ≢ 0 → Decides rs (first_of rs)
decides [] h = absurd (h refl)
decides (r ∷ rs) h =
    by_cases r.0
    (λ t. record {
      at = 0;
      within = omega arith;
      holds = t;
      number = sym (when_true r.1 (first_of rs) t);
      first = λ i l. absurd (not-suc-le-zero l);
    })
    (λ f.
    let e : first_of (r ∷ rs) ≡ first_of rs = when_false r.1 (first_of rs) f in
    subst (λ (k : ℕ). Decides (r ∷ rs) k) (sym e) (later r rs (first_of rs) f (decides rs (λ z. h (e ∙ z)))))

-- the first row that holds gives the number
gives : (rs : List Row) (n k : ℕ) → k < length rs → (get_or rs k (false, 0)).0 ≡ true → (get_or rs k (false, 0)).1 ≡ n
    → ((i : ℕ) → i < k → (get_or rs i (false, 0)).0 ≡ false) → first_of rs ≡ n
gives [] n k l h e f = absurd (not-suc-le-zero l)
gives (r ∷ rs) n zero l h e f = when_true _ _ h ∙ e
gives (r ∷ rs) n (suc k) l h e f =
    when_false _ _ (f 0 (omega arith)) ∙ gives rs n k (le_of_suc-le-suc l) h e (λ i q. f (suc i) (omega arith))

numbered-at : (rs : List Row) → Numbered rs → (k : ℕ) → k < length rs → (get_or rs k (false, 0)).1 ≢ 0
numbered-at [] h k l = absurd (not-suc-le-zero l)
numbered-at (r ∷ rs) h zero l = h.0
numbered-at (r ∷ rs) h (suc k) l = numbered-at rs h.1 k (le_of_suc-le-suc l)

-- a call that answers the table's number
pub by-table : (rs : List Row) → Numbered rs → (n : ℕ) → n ≡ first_of rs → ByTable rs n
by-table rs h n e =
    record {
      refused = λ z. subst (λ (k : ℕ). Decides rs k) (sym e) (decides rs (λ q. z (e ∙ q)));
      only = λ k d. e ∙ gives rs k d.at d.within d.holds d.number d.first;
      numbered = λ k d z. numbered-at rs h d.at d.within (d.number ∙ z);
    }

-- ---- a call by its table

module _ (rows : List Row) (m : List ℕ) (s : State) (done : Outcome) (accepted : refusal_of done.answer ≡ 0) where
  -- its answer's number is the table's
  pub number_is : refusal_of (decided rows m s done).answer ≡ first_of rows
  unfolding decided
  number_is =
      by_cases (eqb (first_of rows) 0) (λ t. rw t (accepted ∙ sym (eqb-true _ _ t))) (λ t. rw t)

  -- refused, it changes nothing
  refused-is : refusal_of (decided rows m s done).answer ≢ 0 → decided rows m s done ≡ unchanged (Refused (first_of rows)) m s
  unfolding decided
  refused-is h = when_false _ _ (ne_eqb _ _ (λ z. h (number_is ∙ z)))

  -- what it stores
  pub stores : (P : StoredItem → Type 0) → P nothing → (first_of rows ≡ 0 → P done.stored) → P (decided rows m s done).stored
  unfolding decided
  stores P a b = by_cases (eqb (first_of rows) 0) (λ t. rw t (b (eqb-true _ _ t))) (λ t. rw t a)

-- one item stored in its place
pub stored-within : (v : List ℕ) → valid_volume v ≡ true → (at : Place) (xs : List ℕ) → In (geometry_of v) at → length xs ≡ width at
    → StoresItem v (one_item at xs)
stored-within v ok at xs h e = (ok, item_in (geometry_of v) at h, e)

-- it is all that differs
pub at_most_one : (v : List ℕ) (x : StoredItem) → StoresItem v x → AtMostOneItem v (volume_after v x)
unfolding volume_after store
at_most_one v nothing h = inl refl
at_most_one v (one_item at xs) h =
    let g = geometry_of v in
    let f : start g at + width at ≤ length v = place-fits g v (valid-facts v h.0).size at (in_item g at h.1) in
    let e : length xs ≡ width at = h.2 in
    let k : start g at + length xs ≤ length v = omega arith in
    inr (inl (
      at,
      record {
        item = h.1;
        size = splice-length v (start g at) xs k;
        outside = λ i d. ⊎_elim (λ l. splice-before v (start g at) xs k i l) (λ l. splice-after v (start g at) xs k i (omega arith)) d;
      },
    ))
at_most_one v (new_heading tag) h = inr (inr (differs-in-tag v h.0 tag))

-- and the geometry stays, but for the tag of a heading that is stored
abbrev pub geometry_with : Geometry → StoredItem → Geometry
geometry_with g nothing = g
geometry_with g (one_item at xs) = g
geometry_with g (new_heading tag) = with_tag g tag

pub geometry-after : (v : List ℕ) (x : StoredItem) → StoresItem v x → geometry_of (volume_after v x) ≡ geometry_with (geometry_of v) x
unfolding volume_after
geometry-after v nothing h = refl
geometry-after v (one_item at xs) h = geometry-store v h.0 at xs (in_item (geometry_of v) at h.1) h.2
geometry-after v (new_heading tag) h = geometry-heading v h.0 tag

-- what holds of an outcome that is decided by a table
pub record KeepsBy (rows : List Row) (v m : List ℕ) (s : State) (o : Outcome) : Type 0 where
  pub table : ByTable rows (refusal_of o.answer)
  pub state : refusal_of o.answer ≢ 0 → o.state ≡ s
  pub memory : refusal_of o.answer ≢ 0 → o.memory ≡ m
  pub volume : refusal_of o.answer ≢ 0 → volume_after v o.stored ≡ v
  pub stored : StoresItem v o.stored

pub keeps-by : (rows : List Row) (v m : List ℕ) (s : State) (done : Outcome) → Numbered rows → refusal_of done.answer ≡ 0
    → (first_of rows ≡ 0 → StoresItem v done.stored) → KeepsBy rows v m s (decided rows m s done)
unfolding volume_after
keeps-by rows v m s done h a one =
    let same : refusal_of (decided rows m s done).answer ≢ 0 → decided rows m s done ≡ unchanged (Refused (first_of rows)) m s =
    refused-is rows m s done a in
    record {
      table = by-table rows h (refusal_of (decided rows m s done).answer) (number_is rows m s done a);
      state = λ r. ap (λ (o : Outcome). o.state) (same r);
      memory = λ r. ap (λ (o : Outcome). o.memory) (same r);
      volume = λ r. ap (λ (o : Outcome). volume_after v o.stored) (same r);
      stored = stores rows m s done a (StoresItem v) tt one;
    }

-- the rows 1 and 2 have numbers
pub numbered-state : (v m : List ℕ) (s : State) (rows : List Row) → Numbered rows → Numbered (state_rows v m s rows)
numbered-state v m s rows h = (eqb-false 1 0 refl, (eqb-false 2 0 refl, (eqb-false 2 0 refl, h)))

-- an outcome that goes by a test
pub either : (t : Bool) (a b : Outcome) (P : Outcome → Type 0) → (t ≡ true → P a) → (t ≡ false → P b) → P (cond t a b)
either true a b P f g = f refl
either false a b P f g = g refl

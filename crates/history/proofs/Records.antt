-- Changes that the calls let join, the record of each, and images that are a replay.
use mathlib.Core.Path.{◌≡◌, refl}
use mathlib.Core.Bool.{true}
use mathlib.Core.List.{List, [], ◌∷◌, ◌++◌}
use Prim.Native.Nat.{ℕ, zero, suc, ◌≤◌, ◌<◌}
use native.Mathlib.Omega.{arith}
use native.Mathlib.Decide.{dec_lt}
use lib.ListN.{length, length-append, length-replicate, get_or-append}
use lib.Dec.{eqb}
use borrow.Author.Tests.{eqb-true}
use Rattle.laws.proofs.Tables.{by_cases}
use Rattle.model.specs.declared.geometry.Geometry.{Geometry}
use Rattle.model.specs.Geometry.{top_number}
use Rattle.model.specs.Change.{kind_of, length_of, fits}
use Rattle.model.specs.Item.{image_lsn, image_body, valid_image, encode_change}
use Rattle.model.specs.AbstractLog.{Logged}
use Rattle.history.proofs.Logs.{no_logged, at, last_at, replay_at, last-append, replay-append, last-le, len_a, at_a, last_n, last_of}
use Rattle.laws.proofs.Changes.{apply-length}
use Rattle.history.proofs.Leaf.{RecordIs, record_is}

-- what the calls let join: a page in range, a change that obeys its rule, and a page's first change is a format
pub record Fair (P : ℕ) (l : List Logged) (i : ℕ) : Type 0 where
  pub low : 1 ≤ (at l i).page
  pub high : (at l i).page ≤ P
  pub fit : fits (at l i).change ≡ true
  pub whole : length (at l i).bytes ≡ length_of (at l i).change
  pub first : last_at (at l i).page l i ≡ 0 → eqb (kind_of (at l i).change) 1 ≡ true

abbrev pub AllFair : ℕ → List Logged → Type 0
AllFair P l = (i : ℕ) → i < length l → Fair P l i

-- the record of the change at place i
unfoldable pub rec_of : List Logged → ℕ → List ℕ
rec_of l i = encode_change (suc i) (last_at (at l i).page l i) (at l i).page (at l i).change (at l i).bytes

pub rec_of-is : (P : ℕ) (l : List Logged) (i : ℕ) → P ≤ 64 → i < top_number → Fair P l i
    → RecordIs (rec_of l i) (suc i) (last_at (at l i).page l i) (at l i).page (at l i).change (at l i).bytes
unfolding rec_of
rec_of-is P l i p b f =
    record_is (suc i) (last_at (at l i).page l i) (at l i).page (at l i).change (at l i).bytes b
    (omega (arith, last-le (at l i).page l i)) (omega (arith, f.high)) f.fit f.whole

pub rec_of-append : (l r : List Logged) (i : ℕ) → i < length l → rec_of (l ++ r) i ≡ rec_of l i
unfolding rec_of
rec_of-append l r i h = rw (get_or-append l r no_logged i h, last-append (at l i).page l r i (omega arith))

pub rec_of-new : (all : List Logged) (c : Logged) (e : ℕ) → e ≡ last_of c.page all
    → encode_change (suc (length all)) e c.page c.change c.bytes ≡ rec_of (all ++ (c ∷ [])) (length all)
unfolding rec_of
rec_of-new all c e q = rw (at_a all c, last_n all c c.page, q)

-- fairness of a longer list and of a beginning
module _ (P : ℕ) (l r : List Logged) (i : ℕ) (h : i < length l) where
  same : at (l ++ r) i ≡ at l i
  same = get_or-append l r no_logged i h

  pub fair-append : Fair P l i → Fair P (l ++ r) i
  fair-append f =
      record {
        low = rw same f.low;
        high = rw same f.high;
        fit = rw same f.fit;
        whole = rw same f.whole;
        first = rw (same, last-append (at l i).page l r i (omega arith)) f.first;
      }

  pub fair-prefix : Fair P (l ++ r) i → Fair P l i
  fair-prefix f =
      record {
        low = rw same at f.low;
        high = rw same at f.high;
        fit = rw same at f.fit;
        whole = rw same at f.whole;
        first = rw (same, last-append (at l i).page l r i (omega arith)) at f.first;
      }

-- one more fair change
pub fair-more : (P : ℕ) (l : List Logged) (c : Logged) → AllFair P l → Fair P (l ++ (c ∷ [])) (length l) → AllFair P (l ++ (c ∷ []))
fair-more P l c f new i h = elim (dec_lt i (length l)) [
  | yes y ↦ fair-append P l (c ∷ []) i y (f i y)
  | no z ↦ let q : i ≡ length l = omega (arith, len_a l c) in rw q new
]

-- a replay is a body
pub length-replay : (P p : ℕ) (l : List Logged) (n : ℕ) → n ≤ length l → AllFair P l → length (replay_at p l n) ≡ 244
unfolding replay_at
length-replay P p l zero h f = length-replicate {A = ℕ} 244 0
length-replay P p l (suc n) h f =
    let ih : length (replay_at p l n) ≡ 244 = length-replay P p l n (omega arith) f in
    let c = f n h in
    by_cases (eqb (at l n).page p)
    (λ e. rw e (apply-length (at l n).change (at l n).bytes (replay_at p l n) c.fit (omega (arith, c.whole)) ih))
    (λ e. rw e ih)

-- a page past the last has no change
pub last-past : (P p : ℕ) (l : List Logged) → AllFair P l → P < p → (n : ℕ) → n ≤ length l → last_at p l n ≡ 0
unfolding last_at
last-past P p l f b zero h = refl
last-past P p l f b (suc n) h =
    by_cases (eqb (at l n).page p)
    (λ t. absurd (omega (arith, (f n h).high, eqb-true (at l n).page p t)))
    (λ t. rw t (last-past P p l f b n (omega arith)))

-- ---- images that are a replay

-- the image x is page p's at one of its changes in l
pub record ReplayOf (p : ℕ) (l : List Logged) (x : List ℕ) : Type 0 where
  pub place : ℕ
  pub lsn-is : image_lsn x ≡ suc place
  pub below : place < length l
  pub page-is : (at l place).page ≡ p
  pub body_is : image_body x ≡ replay_at p l (suc place)

-- where the image is valid as page p's, it is a replay of p
abbrev pub Faithful : Geometry → ℕ → List Logged → List ℕ → Type 0
Faithful g p l x = valid_image g p x ≡ true → ReplayOf p l x

-- a replay stays one as the list grows
pub replay-grows : (p : ℕ) (l r : List Logged) (x : List ℕ) → ReplayOf p l x → ReplayOf p (l ++ r) x
replay-grows p l r x v =
    let b : v.place < length l = v.below in
    record {
      place = v.place;
      lsn-is = v.lsn-is;
      below = simp length-append (omega arith);
      page-is = rw (get_or-append l r no_logged v.place) v.page-is;
      body_is = rw (replay-append p l r (suc v.place) b) v.body_is;
    }

pub valid-append : (g : Geometry) (p : ℕ) (l r : List Logged) (x : List ℕ) → Faithful g p l x → Faithful g p (l ++ r) x
valid-append g p l r x f t = replay-grows p l r x (f t)

-- An archive's bytes, whatever volume they are of: segments are cut back from their bytes, an archive that is taken is the bytes of its
-- segments, and it fits one number of pages only.
use mathlib.Core.Path.{◌≡◌, refl, sym, ap, ◌∙◌, subst}
use mathlib.Core.Logic.{◌≢◌, ◌↔◌}
use mathlib.Core.Bool.{true, false}
use mathlib.Core.List.{List, [], ◌∷◌, ◌++◌, append_assoc}
use Prim.Native.Nat.{ℕ, zero, suc, ◌+◌, ◌-◌, ◌*◌, ◌≤◌, ◌<◌}
use native.Mathlib.Omega.{arith}
use lib.Dec.{eqb, leb}
use lib.ListN.{length, take, drop, get_or, length-append, length-drop, take-append-drop}
use lib.Seq.{take_at, drop_at, take-add}
use borrow.Author.Tests.{eqb-true, ne_eqb, leb-true, le-leb}
use Rattle.laws.proofs.Tables.{by_cases, all-at, and_left, and_right, and_both, true-not-false}
use Rattle.laws.proofs.Fields.{bytes_of-length, read_back, write-back, bytes_drop}
use Rattle.model.specs.Tables.{all}
use Rattle.model.specs.Bytes.{le, bytes_of, Octets}
use Rattle.reports.specs.Archive.{joined, segment_bytes, archive_bytes, valid_segment, records_from, front_segment}
use Rattle.reports.specs.Archive.{past_segment, segment_fits, valid_from, parted_from, valid_segments, pages_from}
use Rattle.reports.specs.Archive.{archive_pages, cut_into}

-- ---- one number of pages

-- the tests of one segment and what is behind it
pub fits-left : (a : List ℕ) → segment_fits a ≡ true → (4 ≤ length a) × (64 * le 4 a ≤ length a - 4)
fits-left a t = (
  leb-true 4 (length a) (and_left (leb 4 (length a)) (leb (64 * le 4 a) (length a - 4)) t),
  leb-true (64 * le 4 a) (length a - 4) (and_right (leb 4 (length a)) (leb (64 * le 4 a) (length a - 4)) t),
)

module _ (k p : ℕ) (a : List ℕ) (h : valid_from (suc k) p a ≡ true) where
  tests : all (segment_fits a ∷ valid_segment p 0 (front_segment a) ∷ valid_from k (suc p) (past_segment a) ∷ []) ≡ true
  unfolding valid_from
  tests = h

  pub here-fits : segment_fits a ≡ true
  here-fits = all-at (segment_fits a ∷ valid_segment p 0 (front_segment a) ∷ valid_from k (suc p) (past_segment a) ∷ []) 0 tests

  pub here-valid : valid_segment p 0 (front_segment a) ≡ true
  here-valid = all-at (segment_fits a ∷ valid_segment p 0 (front_segment a) ∷ valid_from k (suc p) (past_segment a) ∷ []) 1 tests

  pub rest-valid : valid_from k (suc p) (past_segment a) ≡ true
  rest-valid = all-at (segment_fits a ∷ valid_segment p 0 (front_segment a) ∷ valid_from k (suc p) (past_segment a) ∷ []) 2 tests

pub valid-cut : (k p : ℕ) (a : List ℕ) → valid_from k p a ≡ true → cut_into k a ≡ true
unfolding cut_into valid_from
valid-cut zero p a h = h
valid-cut (suc k) p a h = and_both (here-fits k p a h) (valid-cut k (suc p) (past_segment a) (rest-valid k p a h))

-- a segment that fits is not empty
full : (a : List ℕ) → segment_fits a ≡ true → eqb (length a) 0 ≡ false
full a t = ne_eqb (length a) 0 (λ z. omega (arith, (fits-left a t).0))

pub cuts-one : (j k : ℕ) (a : List ℕ) → cut_into j a ≡ true → cut_into k a ≡ true → j ≡ k
unfolding cut_into
cuts-one zero zero a x y = refl
cuts-one zero (suc k) a x y = absurd (true-not-false x (full a (and_left (segment_fits a) (cut_into k (past_segment a)) y)))
cuts-one (suc j) zero a x y = absurd (true-not-false y (full a (and_left (segment_fits a) (cut_into j (past_segment a)) x)))
cuts-one (suc j) (suc k) a x y =
    ap suc (cuts-one j k (past_segment a) (and_right (segment_fits a) (cut_into j (past_segment a)) x)
    (and_right (segment_fits a) (cut_into k (past_segment a)) y))

pub pages-one : (j k p : ℕ) (a : List ℕ) → valid_from j p a ≡ true → valid_from k p a ≡ true → j ≡ k
pages-one j k p a x y = cuts-one j k a (valid-cut j p a x) (valid-cut k p a y)

-- ---- the number of pages, counted

counts_up : (s k j : ℕ) (a : List ℕ) → cut_into j a ≡ true → j ≤ s → pages_from s k a ≡ k + j
unfolding pages_from cut_into
counts_up zero k zero a h b = rw h (omega arith)
counts_up zero k (suc j) a h b = absurd (omega arith)
counts_up (suc s) k zero a h b = rw h (omega arith)
counts_up (suc s) k (suc j) a h b =
    let t = and_left (segment_fits a) (cut_into j (past_segment a)) h in
    let ih : pages_from s (suc k) (past_segment a) ≡ suc k + j =
    counts_up s (suc k) j (past_segment a) (and_right (segment_fits a) (cut_into j (past_segment a)) h) (omega arith) in
    rw (full a t, t, ih) (omega arith)

-- a number that is not 0 is that of a cut
counts-cut : (s k : ℕ) (a : List ℕ) → pages_from s k a ≢ 0 → (j : ℕ) × (pages_from s k a ≡ k + j) × (cut_into j a ≡ true)
unfolding pages_from cut_into
counts-cut zero k a = by_cases (eqb (length a) 0) (λ t. rw t (λ ne. (0, omega arith, t))) (λ t. rw t (λ ne. absurd (ne refl)))
counts-cut (suc s) k a =
    let ih = counts-cut s (suc k) (past_segment a) in
    by_cases (eqb (length a) 0) (λ t. rw t (λ ne. (0, omega arith, t)))
    (λ t. rw t (by_cases (segment_fits a)
    (λ u. rw u (λ ne. let r = ih ne in (suc r.0, r.1 ∙ omega arith, and_both u r.2)))
    (λ u. rw u (λ ne. absurd (ne refl)))))

pub counted-cut : (k : ℕ) (a : List ℕ) → 1 ≤ k → k ≤ 64 → (archive_pages a ≡ k) ↔ (cut_into k a ≡ true)
counted-cut k a low high = (
  λ e.
      let r = counts-cut 64 0 a (λ z. omega (arith, e, z, low)) in
      let q : r.0 ≡ k = omega (arith, e, r.1) in
      subst (λ (j : ℕ). cut_into j a ≡ true) q r.2,
  λ h. counts_up 64 0 k a h high ∙ omega arith,
)

-- ---- the bytes of segments are cut into the same segments

-- records of 64 bytes, so many that their count fits its four bytes
pub record Laid (rs : List (List ℕ)) : Type 0 where
  pub size : (i : ℕ) → i < length rs → length (get_or rs i []) ≡ 64
  pub few : length rs < 4294967296

joined_length : (rs : List (List ℕ)) → ((i : ℕ) → i < length rs → length (get_or rs i []) ≡ 64) → length (joined rs) ≡ 64 * length rs
joined_length [] h = refl
joined_length (r ∷ rs) h =
    let e : length r ≡ 64 = h 0 (omega arith) in
    let k : length (joined rs) ≡ 64 * length rs = joined_length rs (λ i l. h (suc i) (omega (arith, l))) in
    length-append r (joined rs) ∙ omega (arith, e, k)

cut-back : (rs : List (List ℕ)) → ((i : ℕ) → i < length rs → length (get_or rs i []) ≡ 64) → (rest : List ℕ)
    → records_from (length rs) (joined rs ++ rest) ≡ rs
unfolding records_from
cut-back [] h rest = refl
cut-back (r ∷ rs) h rest =
    let e : length r ≡ 64 = h 0 (omega arith) in
    let a : r ++ joined rs ++ rest ≡ r ++ (joined rs ++ rest) = append_assoc r (joined rs) rest in
    ap (λ (l : List ℕ). take 64 l ∷ records_from (length rs) (drop 64 l)) a
    ∙ ap (λ (l : List ℕ). l ∷ records_from (length rs) (drop 64 (r ++ (joined rs ++ rest)))) (take_at r (joined rs ++ rest) 64 e)
    ∙ ap (λ (l : List ℕ). r ∷ records_from (length rs) l) (drop_at r (joined rs ++ rest) 64 e)
    ∙ ap (λ (l : List (List ℕ)). r ∷ l) (cut-back rs (λ i l. h (suc i) (omega (arith, l))) rest)

module _ (rs : List (List ℕ)) (h : Laid rs) (rest : List ℕ) where
  laid : segment_bytes rs ++ rest ≡ bytes_of 4 (length rs) ++ (joined rs ++ rest)
  unfolding segment_bytes
  laid = append_assoc (bytes_of 4 (length rs)) (joined rs) rest

  count-back : le 4 (segment_bytes rs ++ rest) ≡ length rs
  count-back = ap (le 4) laid ∙ read_back 4 (length rs) (joined rs ++ rest) h.few

  pub segment-length : length (segment_bytes rs) ≡ 4 + 64 * length rs
  unfolding segment_bytes
  segment-length =
      length-append (bytes_of 4 (length rs)) (joined rs)
      ∙ omega (arith, bytes_of-length 4 (length rs), joined_length rs h.size)

  front-back : front_segment (segment_bytes rs ++ rest) ≡ rs
  front-back =
      ap (λ (n : ℕ). records_from n (drop 4 (segment_bytes rs ++ rest))) count-back
      ∙ ap (λ (l : List ℕ). records_from (length rs) (drop 4 l)) laid
      ∙ ap (λ (l : List ℕ). records_from (length rs) l)
      (drop_at (bytes_of 4 (length rs)) (joined rs ++ rest) 4 (bytes_of-length 4 (length rs)))
      ∙ cut-back rs h.size rest

  past_back : past_segment (segment_bytes rs ++ rest) ≡ rest
  past_back =
      ap (λ (n : ℕ). drop (4 + 64 * n) (segment_bytes rs ++ rest)) count-back
      ∙ drop_at (segment_bytes rs) rest (4 + 64 * length rs) segment-length

  all-length : length (segment_bytes rs ++ rest) ≡ 4 + 64 * length rs + length rest
  all-length = length-append (segment_bytes rs) rest ∙ omega (arith, segment-length)

  fits-back : segment_fits (segment_bytes rs ++ rest) ≡ true
  fits-back =
      let a : List ℕ = segment_bytes rs ++ rest in
      and_both (le-leb 4 (length a) (omega (arith, all-length)))
      (le-leb (64 * le 4 a) (length a - 4) (omega (arith, all-length, count-back)))

pub parted-back : (ss : List (List (List ℕ))) → ((i : ℕ) → i < length ss → Laid (get_or ss i []))
    → parted_from (length ss) (archive_bytes ss) ≡ ss
unfolding parted_from archive_bytes
parted-back [] h = refl
parted-back (rs ∷ ss) h =
    let k = h 0 (omega arith) in
    ap (λ (l : List (List ℕ)). l ∷ parted_from (length ss) (past_segment (segment_bytes rs ++ archive_bytes ss)))
    (front-back rs k (archive_bytes ss))
    ∙ ap (λ (a : List ℕ). rs ∷ parted_from (length ss) a) (past_back rs k (archive_bytes ss))
    ∙ ap (λ (l : List (List (List ℕ))). rs ∷ l) (parted-back ss (λ i l. h (suc i) (omega (arith, l))))

pub valid-back : (p : ℕ) (ss : List (List (List ℕ))) → ((i : ℕ) → i < length ss → Laid (get_or ss i [])) → valid_segments p ss ≡ true
    → valid_from (length ss) p (archive_bytes ss) ≡ true
unfolding valid_from archive_bytes valid_segments
valid-back p [] h v = refl
valid-back p (rs ∷ ss) h v =
    let k = h 0 (omega arith) in
    let a : List ℕ = segment_bytes rs ++ archive_bytes ss in
    let here : valid_segment p 0 (front_segment a) ≡ true =
    ap (λ (l : List (List ℕ)). valid_segment p 0 l) (front-back rs k (archive_bytes ss))
    ∙ and_left (valid_segment p 0 rs) (valid_segments (suc p) ss) v in
    let rest : valid_from (length ss) (suc p) (past_segment a) ≡ true =
    ap (λ (b : List ℕ). valid_from (length ss) (suc p) b) (past_back rs k (archive_bytes ss))
    ∙ valid-back (suc p) ss (λ i l. h (suc i) (omega (arith, l))) (and_right (valid_segment p 0 rs) (valid_segments (suc p) ss) v) in
    and_both (fits-back rs k (archive_bytes ss)) (and_both here rest)

-- ---- an archive that is taken is the bytes of its segments

records-joined : (n : ℕ) (a : List ℕ) → 64 * n ≤ length a → joined (records_from n a) ≡ take (64 * n) a
unfolding records_from
records-joined zero a l = refl
records-joined (suc n) a l =
    let e : 64 + 64 * n ≡ 64 * suc n = omega arith in
    let d : length (drop 64 a) ≡ length a - 64 = length-drop 64 a in
    ap (λ (x : List ℕ). take 64 a ++ x) (records-joined n (drop 64 a) (omega (arith, l, d)))
    ∙ sym (take-add 64 (64 * n) a) ∙ ap (λ (i : ℕ). take i a) e

records-length : (n : ℕ) (a : List ℕ) → length (records_from n a) ≡ n
unfolding records_from
records-length zero a = refl
records-length (suc n) a = ap suc (records-length n (drop 64 a))

segment-only : (a : List ℕ) → Octets a → 4 ≤ length a → 64 * le 4 a ≤ length a - 4 → segment_bytes (front_segment a) ++ past_segment a ≡ a
unfolding segment_bytes
segment-only a o four most =
    let n = le 4 a in
    let d : length (drop 4 a) ≡ length a - 4 = length-drop 4 a in
    let count : bytes_of 4 (length (records_from n (drop 4 a))) ≡ take 4 a = ap (bytes_of 4) (records-length n (drop 4 a))
    ∙ write-back 4 a four o in
    let body : joined (records_from n (drop 4 a)) ≡ take (64 * n) (drop 4 a) = records-joined n (drop 4 a) (omega (arith, most, d)) in
    ap (λ (x : List ℕ). x ++ joined (records_from n (drop 4 a)) ++ drop (4 + 64 * n) a) count
    ∙ ap (λ (x : List ℕ). take 4 a ++ x ++ drop (4 + 64 * n) a) body
    ∙ ap (λ (x : List ℕ). x ++ drop (4 + 64 * n) a) (sym (take-add 4 (64 * n) a))
    ∙ take-append-drop (4 + 64 * n) a

nil : (a : List ℕ) → length a ≡ 0 → [] ≡ a
nil [] e = refl
nil (x ∷ xs) e = absurd (omega (arith, e))

pub only : (k p : ℕ) (a : List ℕ) → Octets a → valid_from k p a ≡ true
    → (archive_bytes (parted_from k a) ≡ a) × (length (parted_from k a) ≡ k) × (valid_segments p (parted_from k a) ≡ true)
unfolding valid_from parted_from archive_bytes valid_segments
only zero p a o h = (nil a (eqb-true (length a) 0 h), refl, refl)
only (suc k) p a o h =
    let f = fits-left a (here-fits k p a h) in
    let r = only k (suc p) (past_segment a) (bytes_drop (4 + 64 * le 4 a) a o) (rest-valid k p a h) in (
      ap (λ (x : List ℕ). segment_bytes (front_segment a) ++ x) r.0 ∙ segment-only a o f.0 f.1,
      ap suc r.1,
      and_both (here-valid k p a h) r.2,
    )

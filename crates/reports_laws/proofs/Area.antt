-- The area that the reader fills: image p is that of segment p, whatever archive is taken.
use mathlib.Core.Path.{◌≡◌, refl, sym, ap, ◌∙◌}
use mathlib.Core.Bool.{true, not}
use mathlib.Core.List.{List, [], ◌∷◌, ◌++◌}
use Prim.Native.Nat.{ℕ, zero, suc, ◌+◌, ◌-◌, ◌*◌, ◌/◌, ◌≤◌, ◌<◌}
use native.Mathlib.Omega.{arith}
use lib.Dec.{eqb, ltb}
use lib.ListN.{length, take, drop, get_or, length-append, length-take, length-drop, length-replicate}
use lib.Seq.{take_at, drop_at, drop-drop}
use borrow.Author.Tests.{eq-eqb, not-false}
use Rattle.laws.proofs.Tables.{by_cases, all-at, none-at, and_left, and_right, within-holds}
use Rattle.laws.proofs.Parts.{part_length}
use Rattle.laws.proofs.Items.{frame_image-length}
use Rattle.laws.proofs.Changes.{Fits, fits-facts}
use Rattle.reports_laws.proofs.ArchiveSegments.{here-fits, here-valid, rest-valid, fits-left}
use Rattle.reports_laws.proofs.Archive.{filled-done}
use Rattle.model.specs.Tables.{Row}
use Rattle.model.specs.Bytes.{le, part, all_zero, byte_at}
use Rattle.model.specs.Checksum.{sealed}
use Rattle.model.specs.Change.{zero_body, change_of, change_fits, apply_change}
use Rattle.model.specs.Item.{record_of, record_layout, payload_of, apply_record}
use Rattle.model.specs.Scan.{linked}
use Rattle.reports.specs.Archive.{in_segment, valid_segment, records_from, front_segment, past_segment, valid_from}
use Rattle.reports.specs.Archive.{parted_from, replay_records, last_number_in, segment_image, area_from, valid_area, read_rows}
use Rattle.reports.specs.Archive.{read_of, image_at}
use Rattle.model.specs.declared.answer.Answer.TheVariants.{Done}

-- ---- the length of an image

-- a change of these numbers keeps the body's length
apply-long : (k n o f : ℕ) (xs body : List ℕ) → Fits k n o → n ≤ length xs → length body ≡ 244
    → length (apply_change (change_of k n o f) xs body) ≡ 244
unfolding change_of apply_change
apply-long k n o f xs body h b e =
    let r = h.room in
    by_cases (eqb k 1) (λ t. rw t (length-replicate {A = ℕ} 244 f))
    (λ t. rw t (by_cases (eqb k 2)
    (λ u. rw u (simp (length-append, length-take, length-drop) (omega arith)))
    (λ u. rw u (simp (length-append, length-take, length-drop) (omega arith)))))

record-long : (r body : List ℕ) → record_layout r ≡ true → length r ≡ 64 → length body ≡ 244 → length (apply_record r body) ≡ 244
unfolding record_layout apply_record
record-long r body h l e =
    let x = record_of r in
    let f = fits-facts x.kind x.length x.offset x.fill
    (all-at (change_fits x.kind x.length x.offset x.fill ∷ eqb (byte_at r 15) 0
    ∷ all_zero (part r (16 + x.length) (44 - x.length)) ∷ []) 0 h) in
    let n : length (payload_of r) ≡ 44 = part_length r 16 44 (omega arith) in
    apply-long x.kind x.length x.offset x.fill (payload_of r) body f (omega (arith, f.length)) e

-- records of 64 bytes
abbrev pub Sized : List (List ℕ) → Type 0
Sized rs = (i : ℕ) → i < length rs → length (get_or rs i []) ≡ 64

replay-long : (p last : ℕ) (rs : List (List ℕ)) (body : List ℕ) → valid_segment p last rs ≡ true → Sized rs → length body ≡ 244
    → length (replay_records rs body) ≡ 244
unfolding valid_segment replay_records
replay-long p last [] body h s e = e
replay-long p last (r ∷ rs) body h s e =
    let x = record_of r in
    let t = and_left (in_segment p last r) (valid_segment p x.lsn rs) h in
    let l = all-at (sealed 60 r ∷ record_layout r ∷ eqb x.page p ∷ linked 1 last x ∷ ltb last x.lsn ∷ []) 1 t in
    replay-long p x.lsn rs (apply_record r body) (and_right (in_segment p last r) (valid_segment p x.lsn rs) h)
    (λ i b. s (suc i) (omega arith)) (record-long r body l (s 0 (omega arith)) e)

segment-long : (p : ℕ) (rs : List (List ℕ)) → valid_segment p 0 rs ≡ true → Sized rs → length (segment_image p rs) ≡ 256
segment-long p [] h s = length-replicate {A = ℕ} 256 0
segment-long p (r ∷ rs) h s =
    frame_image-length p (last_number_in 0 (r ∷ rs)) (replay_records (r ∷ rs) zero_body)
    (replay-long p 0 (r ∷ rs) zero_body h s (length-replicate {A = ℕ} 244 0))

records-sized : (n : ℕ) (a : List ℕ) → 64 * n ≤ length a → Sized (records_from n a)
unfolding records_from
records-sized zero a l i b = absurd (omega arith)
records-sized (suc n) a l zero b = simp length-take (omega arith)
records-sized (suc n) a l (suc i) b = records-sized n (drop 64 a) (simp length-drop (omega arith)) i (omega arith)

-- ---- the images in the area

part-behind : (x rest : List ℕ) (k : ℕ) → length x ≡ 256 → part (x ++ rest) (256 + k) 256 ≡ part rest k 256
unfolding part
part-behind x rest k e = ap (take 256) (sym (drop-drop k 256 (x ++ rest)) ∙ ap (drop k) (drop_at x rest 256 e))

part-front : (x rest : List ℕ) → length x ≡ 256 → part (x ++ rest) 0 256 ≡ x
unfolding part
part-front x rest e = take_at x rest 256 e

-- image i of an area whose segments' images have their length
area-at : (q : ℕ) (ss : List (List (List ℕ))) → ((i : ℕ) → i < length ss → length (segment_image (q + i) (get_or ss i [])) ≡ 256)
    → (i : ℕ) → i < length ss → part (area_from q ss) (256 * i) 256 ≡ segment_image (q + i) (get_or ss i [])
unfolding area_from
area-at q [] h i b = absurd (omega arith)
area-at q (rs ∷ ss) h zero b =
    let z : q + 0 ≡ q = omega arith in
    let e : length (segment_image q rs) ≡ 256 = rw z at (h 0 (omega arith)) in
    rw z (part-front (segment_image q rs) (area_from (suc q) ss) e)
area-at q (rs ∷ ss) h (suc i) b =
    let z : q + 0 ≡ q = omega arith in
    let m : 256 * suc i ≡ 256 + 256 * i = omega arith in
    let s : q + suc i ≡ suc q + i = omega arith in
    let e : length (segment_image q rs) ≡ 256 = rw z at (h 0 (omega arith)) in
    rw (m, s) (part-behind (segment_image q rs) (area_from (suc q) ss) (256 * i) e
    ∙ area-at (suc q) ss (λ j c. let t : q + suc j ≡ suc q + j = omega arith in rw t at (h (suc j) (omega arith))) i (omega arith))

parted-long : (k p : ℕ) (a : List ℕ) → valid_from k p a ≡ true → (i : ℕ) → i < k
    → length (segment_image (p + i) (get_or (parted_from k a) i [])) ≡ 256
unfolding parted_from
parted-long zero p a h i b = absurd (omega arith)
parted-long (suc k) p a h zero b =
    let z : p + 0 ≡ p = omega arith in
    let f = fits-left a (here-fits k p a h) in
    rw z (segment-long p (front_segment a) (here-valid k p a h)
    (records-sized (le 4 a) (drop 4 a) (simp length-drop (omega (arith, f.0, f.1)))))
parted-long (suc k) p a h (suc i) b =
    let s : p + suc i ≡ suc p + i = omega arith in
    rw s (parted-long k (suc p) (past_segment a) (rest-valid k p a h) i (omega arith))

pub parted-length : (k : ℕ) (a : List ℕ) → length (parted_from k a) ≡ k
unfolding parted_from
parted-length zero a = refl
parted-length (suc k) a = ap suc (parted-length k (past_segment a))

-- ---- a reader that is not refused

-- the area is k images, the archive is of k pages, and the area holds them
module _ (k : ℕ) (a area : List ℕ) (size : length area ≡ 256 * k) where
  pages-are : length area / 256 ≡ k
  pages-are = omega arith

  pub read_done : 1 ≤ k → k ≤ 64 → valid_from k 1 a ≡ true → (read_of a area).answer ≡ Done
  unfolding read_of read_rows
  read_done low high h = rw (pages-are, within-holds 64 k low high, eq-eqb (length area) (256 * k) size, h)

  pub read-valid : (read_of a area).answer ≡ Done → (valid_from k 1 a ≡ true) × ((read_of a area).buffer ≡ area_from 1 (parted_from k a))
  unfolding read_of read_rows
  read-valid e =
      let rows : List Row = (not (valid_area (length area)), 2) ∷ (not (valid_from (length area / 256) 1 a), 22) ∷ [] in
      let d = filled-done rows (omega arith) area (area_from 1 (parted_from (length area / 256) a)) e in
      let none = none-at rows (omega arith) d.0 in
      let v : valid_from (length area / 256) 1 a ≡ true = not-false _ (none 1) in
      (rw pages-are at v, d.1 ∙ ap (λ (j : ℕ). area_from 1 (parted_from j a)) pages-are)

  -- image p is that of segment p
  pub read-image : (read_of a area).answer ≡ Done → (p : ℕ) → 1 ≤ p → p ≤ k
      → image_at (read_of a area).buffer p ≡ segment_image p (get_or (parted_from k a) (p - 1) [])
  read-image e p low high =
      let r = read-valid e in
      let m : 1 + (p - 1) ≡ p = omega arith in
      let n = parted-length k a in
      rw r.1 (rw m at (area-at 1 (parted_from k a) (λ i b. parted-long k 1 a r.0 i (omega (arith, n, b))) (p - 1)
      (omega (arith, n, low, high))))

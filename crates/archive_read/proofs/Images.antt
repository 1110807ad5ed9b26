-- Laws of a page rebuilt from its segment: the replay as a loop makes it, and the image around the body.
use mathlib.Core.Path.{◌≡◌, refl, sym, ap, ◌∙◌, subst}
use mathlib.Core.Bool.{true, ◌&&◌}
use mathlib.Core.List.{List, [], ◌∷◌}
use Prim.Native.Nat.{ℕ, zero, suc, ◌+◌, ◌-◌, ◌*◌, ◌≤◌, ◌<◌}
use native.Mathlib.Omega.{arith}
use lib.Dec.{eqb, ltb}
use lib.ListN.{length, take, drop, length-replicate}
use borrow.Rule.Slice.PartMut.{put_mid}
use Rattle.laws.proofs.Tables.{all-at, and_left, and_right}
use Rattle.laws.proofs.Parts.{put-part}
use Rattle.laws.proofs.Zeros.{zeros, part-zeros}
use Rattle.model.specs.Bytes.{field, part}
use Rattle.model.specs.Change.{zero_body}
use Rattle.model.specs.Checksum.{sealed}
use Rattle.model.specs.Item.{record_of, record_layout, apply_record, frame_image}
use Rattle.model.specs.Scan.{linked}
use Rattle.reports.specs.Archive.{in_segment, valid_segment, records_from, front_segment, replay_records, last_number_in, segment_image}
use Rattle.archive_read.specs.Judged.{Judged}
use Rattle.archive_read.proofs.Records.{lsn-is, next-is, next-none, front-is}

-- ---- records that were judged

module _ (r : List ℕ) (rs : List (List ℕ)) (j : Judged (r ∷ rs)) where
  both : (in_segment j.page j.last r && valid_segment j.page (record_of r).lsn rs) ≡ true
  unfolding valid_segment
  both = j.valid

  judged-layout : record_layout r ≡ true
  judged-layout =
      let e = record_of r in
      all-at (sealed 60 r ∷ record_layout r ∷ eqb e.page j.page ∷ linked 1 j.last e ∷ ltb j.last e.lsn ∷ []) 1
      (and_left (in_segment j.page j.last r) (valid_segment j.page e.lsn rs) both)

  judged-rest : Judged rs
  judged-rest =
      record {
        page = j.page;
        last = (record_of r).lsn;
        valid = and_right (in_segment j.page j.last r) (valid_segment j.page (record_of r).lsn rs) both;
      }

-- those of a valid segment
pub judged-front : (p : ℕ) (a : List ℕ) (at n : ℕ) → n ≡ field 4 at a → valid_segment p 0 (front_segment (drop at a)) ≡ true
    → Judged (records_from n (drop (at + 4) a))
judged-front p a at n e v = record { page = p; last = 0; valid = ap (valid_segment p 0) (front-is a at n e) ∙ v }

-- ---- the loop that replays them

-- what is left, made on the body, gives the whole: so many records from a place on, behind the number `last`
pub record Replaying (a : List ℕ) (rs : List (List ℕ)) (body₀ body : List ℕ) (left from last : ℕ) : Type 0 where
  pub room : from + 64 * left ≤ length a
  pub judged : Judged (records_from left (drop from a))
  pub size : length body ≡ 244
  pub number : last_number_in last (records_from left (drop from a)) ≡ last_number_in 0 rs
  pub made : replay_records (records_from left (drop from a)) body ≡ replay_records rs body₀

pub replaying-all : (a : List ℕ) (at n : ℕ) (body : List ℕ) → at + 64 * n ≤ length a → Judged (records_from n (drop at a))
    → length body ≡ 244 → Replaying a (records_from n (drop at a)) body body n at 0
replaying-all a at n body h j size = record { room = h; judged = j; size = size; number = refl; made = refl }

module _ (a : List ℕ) (rs : List (List ℕ)) (body₀ body : List ℕ) (left from last : ℕ) (h : Replaying a rs body₀ body left from last) where
  module _ (some : 0 < left) where
    pub replaying-room : from + 64 ≤ length a
    replaying-room = omega (arith, h.room, some)

    judged-here : Judged (part a from 64 ∷ records_from (left - 1) (drop (from + 64) a))
    judged-here = subst Judged (next-is a from left some) h.judged

    -- the next record is r
    module _ (r : List ℕ) (r-is : r ≡ part a from 64) where
      pub replaying-layout : record_layout r ≡ true
      replaying-layout = rw r-is (judged-layout _ _ judged-here)

      pub replaying-on : (x : List ℕ) → x ≡ apply_record r body → length x ≡ length body → (n : ℕ) → n ≡ field 4 0 r
          → Replaying a rs body₀ x (left - 1) (from + 64) n
      unfolding replay_records last_number_in
      replaying-on x x-is l n n-is =
          let rest : List (List ℕ) = records_from (left - 1) (drop (from + 64) a) in
          let e : n ≡ (record_of (part a from 64)).lsn = n-is ∙ lsn-is r ∙ ap (λ (y : List ℕ). (record_of y).lsn) r-is in
          let m : x ≡ apply_record (part a from 64) body = x-is ∙ ap (λ (y : List ℕ). apply_record y body) r-is in
          record {
            room = omega (arith, h.room, some);
            judged = judged-rest _ _ judged-here;
            size = l ∙ h.size;
            number = ap (λ (k : ℕ). last_number_in k rest) e ∙ sym (ap (last_number_in last) (next-is a from left some)) ∙ h.number;
            made = ap (replay_records rest) m ∙ sym (ap (λ (l : List (List ℕ)). replay_records l body) (next-is a from left some)) ∙ h.made;
          }

  pub replaying-next : (n i at : ℕ) → left ≡ n - i - 1 → from ≡ at + 64 * i + 64
      → Replaying a rs body₀ body (n - (i + 1)) (at + 64 * (i + 1)) last
  replaying-next n i at el ef =
      let x : left ≡ n - (i + 1) = omega (arith, el) in
      let y : from ≡ at + 64 * (i + 1) = omega (arith, ef) in
      rw (x, y) at h

  pub replaying-first : (n at : ℕ) → left ≡ n → from ≡ at → Replaying a rs body₀ body (n - 0) (at + 64 * 0) last
  replaying-first n at el ef =
      let x : left ≡ n - 0 = omega (arith, el) in
      let y : from ≡ at + 64 * 0 = omega (arith, ef) in
      rw (x, y) at h

  pub replaying-end : left ≤ 0 → (last ≡ last_number_in 0 rs) × (body ≡ replay_records rs body₀)
  unfolding replay_records last_number_in
  replaying-end z =
      let e = next-none a from left (omega arith) in
      (sym (ap (last_number_in last) e) ∙ h.number, sym (ap (λ (l : List (List ℕ)). replay_records l body) e) ∙ h.made)

-- ---- the image

body-zeros : (n : ℕ) → 252 ≤ n → take 244 (drop 8 (zeros n)) ≡ zero_body
unfolding part
body-zeros n h = part-zeros n 8 244 (omega arith)

zeros-long : (n : ℕ) → length (zeros n) ≡ n
zeros-long n = length-replicate {A = ℕ} n 0

module _ (p : ℕ) (a : List ℕ) (at n : ℕ) (n-is : n ≡ field 4 at a) where
  -- no record: a blank page
  pub image-blank : n ≡ 0 → (x : List ℕ) (size : ℕ) → x ≡ zeros size → size ≡ 256 → x ≡ segment_image p (front_segment (drop at a))
  image-blank z x size x-is s =
      x-is ∙ ap zeros s ∙ sym (ap (segment_image p) (sym (front-is a at n n-is) ∙ next-none a (at + 4) n z))

  some-image : (k : ℕ) (b : List ℕ) → 0 < k
      → frame_image p (last_number_in 0 (records_from k b)) (replay_records (records_from k b) zero_body) ≡ segment_image p (records_from k b)
  unfolding records_from
  some-image zero b h = absurd (omega arith)
  some-image (suc k) b h = refl

  -- the image built around the body that was replayed on zeros
  pub image-built : 0 < n → (x body out : List ℕ) (size last : ℕ) → x ≡ zeros size → size ≡ 256 → length body ≡ length (take 244 (drop 8 x))
      → last ≡ last_number_in 0 (records_from n (drop (at + 4) a))
      → body ≡ replay_records (records_from n (drop (at + 4) a)) (take 244 (drop 8 x))
      → out ≡ frame_image p last (part (put_mid 8 244 x body) 8 244) → out ≡ segment_image p (front_segment (drop at a))
  image-built some x body out size last x-is s len l-is b-is o_is =
      let rs : List (List ℕ) = records_from n (drop (at + 4) a) in
      let z : take 244 (drop 8 x) ≡ zero_body = ap (λ (y : List ℕ). take 244 (drop 8 y)) x-is ∙ body-zeros size (omega (arith, s)) in
      let long : length x ≡ 256 = ap length x-is ∙ zeros-long size ∙ s in
      let n244 : length body ≡ 244 = len ∙ ap length z ∙ zeros-long 244 in
      let b : part (put_mid 8 244 x body) 8 244 ≡ replay_records rs zero_body =
      put-part x 8 244 body n244 (omega (arith, long)) ∙ b-is ∙ ap (replay_records rs) z in
      o_is ∙ ap (frame_image p last) b ∙ ap (λ (k : ℕ). frame_image p k (replay_records rs zero_body)) l-is
      ∙ some-image n (drop (at + 4) a) some ∙ ap (segment_image p) (front-is a at n n-is)

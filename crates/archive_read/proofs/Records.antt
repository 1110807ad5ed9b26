-- Laws of a segment's records, from a place of the archive on: one record judged, and then all of them.
use mathlib.Core.Path.{◌≡◌, refl, sym, ap, ◌∙◌}
use mathlib.Core.Bool.{Bool, true, false, ◌&&◌, ◌||◌}
use mathlib.Core.List.{List, [], ◌∷◌}
use Prim.Native.Nat.{ℕ, zero, suc, ◌+◌, ◌-◌, ◌*◌, ◌≤◌, ◌<◌}
use native.Mathlib.Omega.{arith}
use lib.Dec.{eqb, leb, ltb}
use lib.ListN.{length, take, drop}
use lib.Seq.{drop-drop}
use borrow.Author.Tests.{leb-true, lt-leb}
use Rattle.laws.proofs.Tables.{by_cases}
use Rattle.laws.proofs.Parts.{part_length}
use Rattle.reports_laws.proofs.ArchiveSegments.{fits-left}
use Rattle.model.specs.Bytes.{field, part}
use Rattle.model.specs.Checksum.{sealed}
use Rattle.model.specs.Item.{record_of, record_layout, first_is_format}
use Rattle.model.specs.Scan.{linked}
use Rattle.reports.specs.Archive.{in_segment, valid_segment, records_from, front_segment, segment_fits}
use Rattle.model.specs.declared.item.LogRecord.{LogRecord}
use Rattle.archive_read.proofs.Cuts.{left_is}

-- ---- one record

-- no number is below the first
none_below : (p : ℕ) → (leb 1 p && leb p 0) ≡ false
none_below p = by_cases (leb 1 p) (λ t. let b = leb-true 1 p t in rw (t, lt-leb p 0 b)) (λ t. rw t)

no_other : (a b c : Bool) → c ≡ false → a ≡ (a || (b && c))
no_other true b c e = refl
no_other false true c e = sym e
no_other false false c e = refl

-- in a run from 1 on, a record names the one before
link-is : (last : ℕ) (e : LogRecord) → (eqb e.prev last && first_is_format e) ≡ linked 1 last e
link-is last e =
    ap (λ (t : Bool). t && first_is_format e)
    (no_other (eqb e.prev last) (eqb last 0) (leb 1 e.prev && leb e.prev 0) (none_below e.prev))

pub follows_is : (r : List ℕ) (p last : ℕ) (e : LogRecord) (s l : Bool) → e ≡ record_of r → s ≡ sealed 60 r → l ≡ record_layout r
    → (s && (l && (eqb e.page p && ((eqb e.prev last && first_is_format e) && ltb last e.lsn)))) ≡ in_segment p last r
follows_is r p last e s l ee es el =
    rw (ee, es, el)
    (ap (λ (t : Bool). sealed 60 r && (record_layout r && (eqb (record_of r).page p && (t && ltb last (record_of r).lsn))))
    (link-is last (record_of r)))

-- the number of the record that was read
pub lsn-is : (r : List ℕ) → field 4 0 r ≡ (record_of r).lsn
unfolding record_of
lsn-is r = refl

-- ---- the next records

pub part-long : (a r : List ℕ) (from : ℕ) → r ≡ part a from 64 → from + 64 ≤ length a → length r ≡ 64
part-long a r from e h = ap length e ∙ part_length a from 64 h

module _ (a : List ℕ) (from : ℕ) where
  pub next-is : (n : ℕ) → 0 < n → records_from n (drop from a) ≡ part a from 64 ∷ records_from (n - 1) (drop (from + 64) a)
  unfolding records_from part
  next-is zero h = absurd (omega arith)
  next-is (suc n) h =
      let e : suc n - 1 ≡ n = omega arith in
      rw e (ap (λ (l : List ℕ). take 64 (drop from a) ∷ records_from n l) (drop-drop 64 from a))

  pub next-none : (n : ℕ) → n ≡ 0 → records_from n (drop from a) ≡ []
  unfolding records_from
  next-none n e = rw e

  -- those of the segment at a place
  pub front-is : (n : ℕ) → n ≡ field 4 from a → records_from n (drop (from + 4) a) ≡ front_segment (drop from a)
  front-is n e = rw e (ap (records_from (field 4 from a)) (sym (drop-drop 4 from a)))

  pub front-room : from ≤ length a → segment_fits (drop from a) ≡ true → (n : ℕ) → n ≡ field 4 from a → from + 4 + 64 * n ≤ length a
  front-room b t n e = let f = fits-left (drop from a) t in omega (arith, e, f.0, f.1, left_is a from, b)

-- ---- the loop that judges them

-- what is left decides: so many records from a place on, behind the number `last`
pub record Judging (a : List ℕ) (p : ℕ) (rs : List (List ℕ)) (left from last : ℕ) : Type 0 where
  pub room : from + 64 * left ≤ length a
  pub same : valid_segment p last (records_from left (drop from a)) ≡ valid_segment p 0 rs

pub judging-all : (a : List ℕ) (p at n : ℕ) → at ≤ length a → segment_fits (drop at a) ≡ true → n ≡ field 4 at a
    → Judging a p (front_segment (drop at a)) n (at + 4) 0
judging-all a p at n b t e = record { room = front-room a at b t n e; same = ap (valid_segment p 0) (front-is a at n e) }

module _ (a : List ℕ) (p : ℕ) (rs : List (List ℕ)) (left from last : ℕ) (j : Judging a p rs left from last) where
  pub judging-room : 0 < left → from + 64 ≤ length a
  judging-room h = omega (arith, j.room, h)

  -- the next record is r
  module _ (some : 0 < left) (r : List ℕ) (r-is : r ≡ part a from 64) where
    whole : (in_segment p last r && valid_segment p (record_of r).lsn (records_from (left - 1) (drop (from + 64) a))) ≡ valid_segment p 0 rs
    unfolding valid_segment
    whole = rw r-is (sym (ap (valid_segment p last) (next-is a from left some)) ∙ j.same)

    pub judging-not : in_segment p last r ≡ false → false ≡ valid_segment p 0 rs
    judging-not t = rw t at whole

    pub judging-on : in_segment p last r ≡ true → (n : ℕ) → n ≡ field 4 0 r → Judging a p rs (left - 1) (from + 64) n
    judging-on t n e =
        let w : valid_segment p (record_of r).lsn (records_from (left - 1) (drop (from + 64) a)) ≡ valid_segment p 0 rs = rw t at whole in
        record { room = omega (arith, j.room, some); same = rw (e, lsn-is r) w }

  -- one record less, 64 bytes on
  pub judging-next : (n i at : ℕ) → left ≡ n - i - 1 → from ≡ at + 64 * i + 64 → Judging a p rs (n - (i + 1)) (at + 64 * (i + 1)) last
  judging-next n i at el ef =
      let x : left ≡ n - (i + 1) = omega (arith, el) in
      let y : from ≡ at + 64 * (i + 1) = omega (arith, ef) in
      rw (x, y) at j

  pub judging-first : (n at : ℕ) → left ≡ n → from ≡ at → Judging a p rs (n - 0) (at + 64 * 0) last
  judging-first n at el ef =
      let x : left ≡ n - 0 = omega (arith, el) in
      let y : from ≡ at + 64 * 0 = omega (arith, ef) in
      rw (x, y) at j

  pub judging-end : left ≤ 0 → true ≡ valid_segment p 0 rs
  unfolding valid_segment
  judging-end h = sym (ap (valid_segment p last) (next-none a from left (omega arith))) ∙ j.same

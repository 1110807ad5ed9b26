-- The archive after a history: each segment is the page's kept changes, so what is rebuilt from it is the page's replay, as inspection
-- shows.
use mathlib.Core.Path.{◌≡◌, refl, sym, ap, ◌∙◌}
use mathlib.Core.Logic.{◌≢◌}
use mathlib.Core.Bool.{false}
use mathlib.Core.List.{List, [], ◌∷◌, ◌++◌, append-nil}
use Prim.Native.Nat.{ℕ, zero, suc, ◌+◌, ◌-◌, ◌*◌, ◌≤◌, ◌<◌}
use native.Mathlib.Omega.{arith}
use lib.ListN.{length, take, replicate, length-append}
use lib.Seq.{take_at, drop_at}
use lib.Dec.{eqb}
use borrow.Author.Tests.{eqb-true, eqb-false}
use Rattle.laws.proofs.Tables.{by_cases, true-not-false}
use Rattle.laws.proofs.Places.{valid-facts}
use Rattle.laws.proofs.Items.{frame_image-page}
use Rattle.laws.proofs.Tabulated.{tabulate-at}
use Rattle.reports_laws.proofs.Archive.{Whole, held-is, wrote, written_back, last_snoc}
use Rattle.reports_laws.proofs.Area.{read_done, read-image}
use Rattle.model.specs.Bytes.{bytes_of, part}
use Rattle.model.specs.Geometry.{geometry_of, item, log_slot}
use Rattle.model.specs.Change.{zero_body}
use Rattle.model.specs.Item.{frame_image, record_of, apply_record}
use Rattle.model.specs.Scan.{log_record, gone}
use Rattle.reports.specs.Reading.{page_records, held_records}
use Rattle.model.specs.AbstractLog.{Logged, last_place, replay}
use Rattle.model.specs.Claim.{History, Legal, reached, durable_of, inspection, Gone, Inspects}
use Rattle.reports.specs.Archive.{archive_bytes, segments_of, archive_of, replay_records, last_number_in, segment_image}
use Rattle.reports.specs.Archive.{read_of, image_at, Rebuilds, ArchiveHistory}
use Rattle.model.specs.declared.{geometry.Geometry.Geometry, item.LogRecord.LogRecord, item.Note.Note}
use Rattle.model.specs.declared.answer.Answer.TheVariants.{Done}
use Rattle.history.proofs.Logs.{at, last_at, replay_at, last-hit, last-miss, replay-hit, replay-miss, replay-is, last-is}
use Rattle.history.proofs.Records.{rec_of, length-replay}
use Rattle.history.proofs.Disk.{Holds, Noted}
use Rattle.history.proofs.LogScan.{first, started, rec-at, durable-count, not-gone}
use Rattle.history.proofs.Reached.{present, tied}
use Rattle.history.proofs.Theorem.{demand2}

-- ---- a segment with one record more

replay_snoc : (xs : List (List ℕ)) (r body : List ℕ) → replay_records (xs ++ (r ∷ [])) body ≡ apply_record r (replay_records xs body)
unfolding replay_records
replay_snoc [] r body = refl
replay_snoc (x ∷ xs) r body = replay_snoc xs r (apply_record x body)

-- what page p's first c changes make of its records
pub record Replayed (p : ℕ) (k : List Logged) (c : ℕ) (rs : List (List ℕ)) : Type 0 where
  pub body_is : replay_records rs zero_body ≡ replay_at p k c
  pub last-of : last_number_in 0 rs ≡ last_at p k c
  pub none : last_at p k c ≡ 0 → length rs ≡ 0
  pub some : last_at p k c ≢ 0 → 1 ≤ length rs

module _ {C : Type 0} (g : Geometry) (v : List ℕ) (k : List Logged) (h : Holds g v k) (ns : List Note) (o : Noted C g v k ns)
    (here : gone g v ≡ false) where
  -- record 1 is there: every change stands in its slot
  pub stands : (c : ℕ) → c < length k → item g v (log_slot g (suc c)) ≡ rec_of k c
  stands c b =
      let z : first g v k h ns o ≡ 0 = not-gone g v k h ns o here (omega arith) in
      (started g v k h ns o).held c b (omega arith)

  pub page-read : (c : ℕ) → c < length k → (log_record g v (suc c)).page ≡ (at k c).page
  page-read c b = rw (stands c b) (ap (λ (e : LogRecord). e.page) (rec-at g v k h ns o c b).fields)

  pub replayed : (p c : ℕ) → c ≤ length k → Replayed p k c (page_records g v p 1 c)
  unfolding page_records replay_records last_number_in last_at replay_at
  replayed p zero b = record { body_is = refl; last-of = refl; none = λ z. refl; some = λ z. absurd (z refl) }
  replayed p (suc c) b =
      let s : 1 + c ≡ suc c = omega arith in
      let xs : List (List ℕ) = page_records g v p 1 c in
      let r : List ℕ = rec_of k c in
      let i = replayed p c (omega arith) in
      let ri = rec-at g v k h ns o c (omega arith) in
      let n : (record_of r).lsn ≡ suc c = ap (λ (e : LogRecord). e.lsn) ri.fields in
      rw (s, page-read c (omega arith), stands c (omega arith)) (by_cases (eqb (at k c).page p)
      (λ t.
      let q = eqb-true (at k c).page p t in
      let l : last_at p k (suc c) ≡ suc c = last-hit p k c q in
      rw t (record {
        body_is = replay_snoc xs r zero_body ∙ ri.applied (replay_records xs zero_body) ∙ rw i.body_is (sym (replay-hit p k c q));
        last-of = last_snoc 0 xs r ∙ n ∙ sym l;
        none = λ z. absurd (omega (arith, z, l));
        some = λ z. rw (length-append xs (r ∷ [])) (omega arith);
      }))
      (λ t.
      let q = eqb-false (at k c).page p t in
      let l : last_at p k (suc c) ≡ last_at p k c = last-miss p k c q in
      rw (t, append-nil xs) (record {
        body_is = i.body_is ∙ sym (replay-miss p k c q);
        last-of = i.last-of ∙ sym l;
        none = λ z. i.none (sym l ∙ z);
        some = λ z. i.some (λ e. z (l ∙ e));
      })))

-- the image of a segment that is empty, and of one that is not
image-none : (p : ℕ) (rs : List (List ℕ)) → length rs ≡ 0 → segment_image p rs ≡ replicate 256 0
image-none p [] e = refl
image-none p (r ∷ rs) e = absurd (omega arith)

image-some : (p : ℕ) (rs : List (List ℕ)) → 1 ≤ length rs → segment_image p rs ≡ frame_image p (last_number_in 0 rs) (replay_records rs zero_body)
image-some p [] e = absurd (omega arith)
image-some p (r ∷ rs) e = refl

-- ---- a page's image as a frame holds it

module _ (p n : ℕ) (body : List ℕ) (size : length body ≡ 244) where
  frame-zeros : part (frame_image p n body) 2 2 ≡ 0 ∷ 0 ∷ []
  unfolding frame_image bytes_of part
  frame-zeros = refl

  frame-shown : part (frame_image p n body) 4 248 ≡ bytes_of 4 n ++ body
  unfolding frame_image bytes_of part
  frame-shown = ap (λ (xs : List ℕ). bytes_of 4 n ++ xs) (take_at body (replicate 4 0) 244 size)

  frame-check : part (frame_image p n body) 252 4 ≡ replicate 4 0
  unfolding frame_image bytes_of part
  frame-check = ap (take 4) (drop_at body (replicate 4 0) 244 size)

-- ---- a history

module _ (h : History) (legal : Legal h) (x : List ℕ) (done : (archive_of (reached h).volume x).answer ≡ Done) where
  written : Whole (reached h).volume × ((archive_of (reached h).volume x).buffer ≡ archive_bytes (segments_of (reached h).volume))
  written = wrote (reached h).volume x done

  heading : geometry_of (reached h).volume ≡ present h
  heading = (tied h legal).holds.vol.geo

  -- page p's segment holds its changes
  segment-is : (p : ℕ) → Replayed p (durable_of h) (length (durable_of h)) (held_records (reached h).volume p)
  segment-is p =
      let i = tied h legal in
      let w : gone (present h) (reached h).volume ≡ false = rw heading at written.0.here in
      let n = durable-count (present h) (reached h).volume (durable_of h) i.holds i.ns i.noted in
      rw (held-is (reached h).volume written.0 p, heading, n)
      (replayed (present h) (reached h).volume (durable_of h) i.holds i.ns i.noted w p (length (durable_of h)) (omega arith))

  module _ (area : List ℕ) (size : length area ≡ 256 * h.pages) where
    sized : length area ≡ 256 * (geometry_of (reached h).volume).pages
    sized = rw heading size

    pub reads : (read_of (archive_of (reached h).volume x).buffer area).answer ≡ Done
    reads =
        let f = valid-facts (reached h).volume written.0.volume in
        rw written.1 (read_done (geometry_of (reached h).volume).pages
        (archive_bytes (segments_of (reached h).volume)) area sized f.p-low f.p-high
        (written_back (reached h).volume written.0).0)

    module _ (p : ℕ) (lo : 1 ≤ p) (hi : p ≤ h.pages) where
      image-is : image_at (read_of (archive_of (reached h).volume x).buffer area).buffer p
          ≡ segment_image p (held_records (reached h).volume p)
      image-is =
          let w = (reached h).volume in
          let P = (geometry_of w).pages in
          let hi' : p ≤ (geometry_of w).pages = rw heading hi in
          let m : suc (p - 1) ≡ p = omega arith in
          let b = written_back w written.0 in
          read-image P (archive_of w x).buffer area sized reads p lo hi'
          ∙ rw (written.1, b.1, tabulate-at P (p - 1) (λ i. held_records w (suc i)) [] (omega (arith, lo, hi')), m)

      blank-image : last_place p (durable_of h) ≡ 0
          → image_at (read_of (archive_of (reached h).volume x).buffer area).buffer p ≡ replicate 256 0
      blank-image z = image-is ∙ image-none p (held_records (reached h).volume p) ((segment-is p).none (sym (last-is p (durable_of h)) ∙ z))

      durable-image : last_place p (durable_of h) ≢ 0
          → image_at (read_of (archive_of (reached h).volume x).buffer area).buffer p
          ≡ frame_image p (last_place p (durable_of h)) (replay p (durable_of h))
      durable-image z =
          let s = segment-is p in
          image-is
          ∙ (image-some p (held_records (reached h).volume p) (s.some (λ e. z (last-is p (durable_of h) ∙ e)))
          ∙ rw (s.body_is, s.last-of, last-is p (durable_of h), replay-is p (durable_of h)))

      module _ (buffer : List ℕ) (long : length buffer ≡ 256) where
        ins : Inspects h p buffer
        ins = demand2.inspects h legal p lo hi buffer long

        here : Gone h → ⊥
        here g = true-not-false g written.0.here

        body-long : length (replay p (durable_of h)) ≡ 244
        body-long = rw (replay-is p (durable_of h))
            (length-replay h.pages p (durable_of h) (length (durable_of h)) (omega arith) (tied h legal).holds.fair)

        shows : inspection h p buffer ≡ 0 → last_place p (durable_of h) ≢ 0
        shows e z = let s = ins.blank.1 z in omega (arith, s, e)

        pub rebuilds : Rebuilds h (image_at (read_of (archive_of (reached h).volume x).buffer area).buffer p) p buffer
        rebuilds =
            record {
              blank = λ e. blank-image (ins.blank.0 e);
              shows = λ e.
                  let z = shows e in
                  let f = valid-facts (reached h).volume written.0.volume in
                  let hi' : p ≤ (geometry_of (reached h).volume).pages = rw heading hi in
                  let g = ins.granted z (λ y. absurd (here y)) in
                  rw (durable-image z) (
                    frame_image-page p (last_place p (durable_of h)) (replay p (durable_of h)) body-long (omega (arith, hi', f.p-high)),
                    frame-zeros p (last_place p (durable_of h)) (replay p (durable_of h)) body-long,
                    frame-shown p (last_place p (durable_of h)) (replay p (durable_of h)) body-long ∙ sym g.1,
                    frame-check p (last_place p (durable_of h)) (replay p (durable_of h)) body-long,
                  );
              answered = λ ne. (ins.granted (λ z. ne (ins.blank.1 z)) (λ y. absurd (here y))).0;
            }

pub archive : ArchiveHistory
archive h legal x done area size =
    (reads h legal x done area size, λ p lo hi buffer long. rebuilds h legal x done area size p lo hi buffer long)

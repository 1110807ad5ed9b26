-- Two records with one number that stand in two logs: they are the same change exactly where the logged changes are the
-- same.
use mathlib.Core.Path.{◌≡◌, sym, ap, ◌∙◌}
use mathlib.Core.Bool.{true}
use mathlib.Core.List.{List, ◌∷◌, ◌++◌}
use Prim.Native.Nat.{ℕ, suc, ◌≤◌, ◌<◌}
use native.Mathlib.Omega.{arith}
use lib.ListN.{length, take}
use lib.Seq.{take_all}
use Rattle.laws.proofs.Parts.{same_bytes, bytes_same}
use Rattle.laws.proofs.Checksums.{with_sum-length}
use Rattle.laws.proofs.Items.{with_part}
use Rattle.laws.proofs.Changes.{fits-facts, change-back, padded-bytes, Encodes, encoded-length, encoded-back}
use Rattle.laws.proofs.Changes.{encoded-payload}
use Rattle.reports_laws.proofs.Mirror.{field-same, byte-same, payload_same}
use Rattle.model.specs.Bytes.{bytes_of, part}
use Rattle.model.specs.Checksum.{checksum, with_checksum}
use Rattle.model.specs.Geometry.{top_number}
use Rattle.model.specs.Change.{kind_of, length_of, offset_of, fill_of}
use Rattle.model.specs.Item.{record_of, record_for, payload_of, padded, record_bytes, encode_change}
use Rattle.model.specs.AbstractLog.{Logged}
use Rattle.reports.specs.Mirror.{same_change}
use Rattle.model.specs.declared.{change.Change.Change, item.LogRecord.LogRecord}
use Rattle.history.proofs.Logs.{at, last_at, last-le}
use Rattle.history.proofs.Records.{Fair, rec_of}

-- bytes 8 to 59 hold what stands behind the two numbers
front-part : (n m : ℕ) (rest : List ℕ) → length (with_checksum (bytes_of 4 n ++ (bytes_of 4 m ++ rest))) ≡ 64
    → part (with_checksum (bytes_of 4 n ++ (bytes_of 4 m ++ rest))) 8 52 ≡ take 52 rest
unfolding part bytes_of
front-part n m rest e =
    let xs : List ℕ = bytes_of 4 n ++ (bytes_of 4 m ++ rest) in
    let l : length xs ≡ 60 = omega (arith, with_sum-length checksum xs, e) in
    with_part checksum 8 52 60 xs l (omega arith)

encode-part : (n m m' p : ℕ) (c : Change) (bytes : List ℕ) → length (encode_change n m p c bytes) ≡ 64
    → length (encode_change n m' p c bytes) ≡ 64
    → part (encode_change n m p c bytes) 8 52 ≡ part (encode_change n m' p c bytes) 8 52
unfolding encode_change record_bytes
encode-part n m m' p c bytes e e' =
    let rest : List ℕ = bytes_of 2 p ++ (kind_of c ∷ length_of c ∷ (bytes_of 2 (offset_of c) ++ (fill_of c ∷ 0 ∷ padded (length_of c) bytes))) in
    front-part n m rest e ∙ sym (front-part n m' rest e')

module _ (P : ℕ) (few : P ≤ 64) (l : List Logged) (i : ℕ) (low : i < top_number) (f : Fair P l i) (m : ℕ) (below : m ≤ i) where
  encodes : Encodes (suc i) m (at l i).page (at l i).change (at l i).bytes
  encodes = record { lsn = omega arith; prev = omega arith; page = omega (arith, f.high); obeys = f.fit; bytes = omega (arith, f.whole) }

  long : length (encode_change (suc i) m (at l i).page (at l i).change (at l i).bytes) ≡ 64
  long = encoded-length (suc i) m (at l i).page (at l i).change (at l i).bytes encodes

  fields : record_of (encode_change (suc i) m (at l i).page (at l i).change (at l i).bytes) ≡ record_for (suc i) m
      (at l i).page (at l i).change
  fields = encoded-back (suc i) m (at l i).page (at l i).change (at l i).bytes encodes

  own-bytes : take (length_of (at l i).change)
      (payload_of (encode_change (suc i) m (at l i).page (at l i).change (at l i).bytes)) ≡ (at l i).bytes
  own-bytes =
      let c = (at l i).change in
      let k = fits-facts (kind_of c) (length_of c) (offset_of c) (fill_of c) f.fit in
      rw (encoded-payload (suc i) m (at l i).page c (at l i).bytes encodes)
      (padded-bytes (length_of c) (at l i).bytes k.length (omega (arith, f.whole))
      ∙ take_all (length_of c) (at l i).bytes (omega (arith, f.whole)))

-- two records that hold the same change hold the same logged change
module _ (P Q : ℕ) (few_p : P ≤ 64) (few_q : Q ≤ 64) (l k : List Logged) (i : ℕ) (low : i < top_number) (f : Fair P l i) (g : Fair Q k i) where
  last-low : (l : List Logged) → last_at (at l i).page l i ≤ i
  last-low l = last-le (at l i).page l i

  pub logged-same : same_change (rec_of l i) (rec_of k i) ≡ true → at l i ≡ at k i
  unfolding rec_of record_of
  logged-same t =
      let m = last_at (at l i).page l i in
      let n = last_at (at k i).page k i in
      let r : List ℕ = encode_change (suc i) m (at l i).page (at l i).change (at l i).bytes in
      let s : List ℕ = encode_change (suc i) n (at k i).page (at k i).change (at k i).bytes in
      let e : part r 8 52 ≡ part s 8 52 = same_bytes (part r 8 52) (part s 8 52) t in
      let a : record_of r ≡ record_for (suc i) m (at l i).page (at l i).change = fields P few_p l i low f m (last-low l) in
      let b : record_of s ≡ record_for (suc i) n (at k i).page (at k i).change = fields Q few_q k i low g n (last-low k) in
      let page : (at l i).page ≡ (at k i).page =
      sym (ap (λ (x : LogRecord). x.page) a) ∙ field-same r s e 2 0 (omega arith) ∙ ap (λ (x : LogRecord). x.page) b in
      let kind : kind_of (at l i).change ≡ kind_of (at k i).change =
      sym (ap (λ (x : LogRecord). x.kind) a) ∙ byte-same r s e 2 (omega arith) ∙ ap (λ (x : LogRecord). x.kind) b in
      let size : length_of (at l i).change ≡ length_of (at k i).change =
      sym (ap (λ (x : LogRecord). x.length) a) ∙ byte-same r s e 3 (omega arith) ∙ ap (λ (x : LogRecord). x.length) b in
      let offset : offset_of (at l i).change ≡ offset_of (at k i).change =
      sym (ap (λ (x : LogRecord). x.offset) a) ∙ field-same r s e 2 4 (omega arith) ∙ ap (λ (x : LogRecord). x.offset) b in
      let fill : fill_of (at l i).change ≡ fill_of (at k i).change =
      sym (ap (λ (x : LogRecord). x.fill) a) ∙ byte-same r s e 6 (omega arith) ∙ ap (λ (x : LogRecord). x.fill) b in
      let change : (at l i).change ≡ (at k i).change = sym (change-back (at l i).change)
      ∙ rw (kind, size, offset, fill) (change-back (at k i).change) in
      let bytes : (at l i).bytes ≡ (at k i).bytes =
      sym (own-bytes P few_p l i low f m (last-low l)) ∙ rw (size, payload_same r s e) (own-bytes Q few_q k i low g n (last-low k)) in
      λ j. record { page = page j; change = change j; bytes = bytes j }

  pub change-same : at l i ≡ at k i → same_change (rec_of l i) (rec_of k i) ≡ true
  unfolding rec_of
  change-same e =
      let m = last_at (at l i).page l i in
      let n = last_at (at l i).page k i in
      let c = at l i in
      let d : at k i ≡ c = sym e in
      let q : length (encode_change (suc i) n (at l i).page (at l i).change (at l i).bytes) ≡ 64 =
      long P few_p l i low f n (last-le (at l i).page k i) in
      rw (d, encode-part (suc i) m n c.page c.change c.bytes (long P few_p l i low f m (last-low l)) q)
      (bytes_same (part (encode_change (suc i) n c.page c.change c.bytes) 8 52))

-- Laws of the items that are built: what the fields, written one after the other, come to.
use mathlib.Core.Path.{◌≡◌, refl, sym, ap, ◌∙◌}
use mathlib.Core.Bool.{true}
use mathlib.Core.List.{List, [], ◌∷◌, ◌++◌}
use Prim.Native.Nat.{ℕ, ◌+◌, ◌-◌, ◌≤◌}
use native.Mathlib.Omega.{arith}
use lib.ListN.{length, take, drop, set, replicate, length-append, length-take, length-drop, length-replicate}
use lib.Seq.{length-take-le}
use borrow.Rule.Slice.PartMut.{put_mid}
use Rattle.laws.proofs.Parts.{splice-append, splice-length, put-splice}
use Rattle.laws.proofs.Changes.{fits-facts, padded-length}
use Rattle.item.proofs.Covers.{next, next-byte, take-spliced, cover-ends}
use Rattle.item.specs.Record.{head_of}
use Rattle.model.specs.Bytes.{bytes_of, part, splice}
use Rattle.model.specs.Checksum.{seal, with_checksum}
use Rattle.model.specs.Change.{kind_of, length_of, offset_of, fill_of, fits}
use Rattle.model.specs.Item.{frame_image, record_for, padded, record_bytes, encode_change, note_bytes}
use Rattle.model.specs.declared.{change.Change.Change, item.LogRecord.LogRecord, item.Note.Note}

-- ---- an image

pub image-is : (x x₁ x₂ x₃ x₄ : List ℕ) (page lsn : ℕ) → length x ≡ 256
    → x₁ ≡ splice x 0 (bytes_of 2 page)
    → x₂ ≡ splice x₁ 2 (bytes_of 2 0)
    → x₃ ≡ splice x₂ 4 (bytes_of 4 lsn)
    → x₄ ≡ splice x₃ 252 (bytes_of 4 0)
    → x₄ ≡ frame_image page lsn (part x 8 244)
unfolding frame_image bytes_of
image-is x x₁ x₂ x₃ x₄ page lsn l p₁ p₂ p₃ p₄ =
    let q₂ = next x (bytes_of 2 page) (bytes_of 2 0) 2 p₁ p₂ refl (omega arith) in
    let q₃ = next x (bytes_of 2 page ++ bytes_of 2 0) (bytes_of 4 lsn) 4 q₂ p₃ refl (omega arith) in
    p₄
    ∙ ap (λ (l : List ℕ). splice l 252 (bytes_of 4 0)) q₃
    ∙ cover-ends x ((bytes_of 2 page ++ bytes_of 2 0) ++ bytes_of 4 lsn) (bytes_of 4 0) 8 244 refl (omega arith)

-- ---- a log record

-- the fields before the payload
pub fields-is : (x x₁ x₂ x₃ x₄ : List ℕ) (e : LogRecord) → length x ≡ 64
    → x₁ ≡ splice x 0 (bytes_of 4 e.lsn)
    → x₂ ≡ splice x₁ 4 (bytes_of 4 e.prev)
    → x₃ ≡ splice x₂ 8 (bytes_of 2 e.page)
    → x₄ ≡ splice (set (set x₃ 10 e.kind) 11 e.length) 12 (bytes_of 2 e.offset)
    → set (set x₄ 14 e.fill) 15 0 ≡ splice x 0 (head_of e)
unfolding head_of bytes_of
fields-is x x₁ x₂ x₃ x₄ e l p₁ p₂ p₃ p₄ =
    let b₂ = bytes_of 4 e.lsn ++ bytes_of 4 e.prev in
    let b₃ = b₂ ++ bytes_of 2 e.page in
    let b₅ = (b₃ ++ (e.kind ∷ [])) ++ (e.length ∷ []) in
    let b₆ = b₅ ++ bytes_of 2 e.offset in
    let q₂ = next x (bytes_of 4 e.lsn) (bytes_of 4 e.prev) 4 p₁ p₂ refl (omega arith) in
    let q₃ = next x b₂ (bytes_of 2 e.page) 8 q₂ p₃ refl (omega arith) in
    let q₄ = next-byte x b₃ 10 e.kind q₃ refl (omega arith) in
    let q₅ = next-byte x (b₃ ++ (e.kind ∷ [])) 11 e.length q₄ refl (omega arith) in
    let q₆ = next x b₅ (bytes_of 2 e.offset) 12 q₅ p₄ refl (omega arith) in
    next-byte x (b₆ ++ (e.fill ∷ [])) 15 0 (next-byte x b₆ 14 e.fill q₆ refl (omega arith)) refl (omega arith)

-- the payload, n bytes of it and zeros behind them
pub pad-is : (x x₁ z p : List ℕ) (n : ℕ) → length x ≡ 64 → n ≤ 44 → length p ≡ 44
    → x₁ ≡ splice x 16 (take n p)
    → z ≡ replicate (length (take (60 - (16 + n)) (drop (16 + n) x₁))) 0
    → put_mid (16 + n) (60 - (16 + n)) x₁ z ≡ splice x 16 (padded n p)
pad-is x x₁ z p n l few lp e₁ ez =
    let lt : length (take n p) ≡ n = length-take-le n p (omega arith) in
    let l₁ : length x₁ ≡ 64 = ap length e₁ ∙ splice-length x 16 (take n p) (omega arith) ∙ l in
    let k : length (take (60 - (16 + n)) (drop (16 + n) x₁)) ≡ 44 - n = simp (length-take, length-drop) (omega arith) in
    let z' : z ≡ replicate (44 - n) 0 = ez ∙ ap (λ (i : ℕ). replicate i 0) k in
    let lz : length z ≡ 60 - (16 + n) = ap length z' ∙ length-replicate (44 - n) 0 ∙ omega arith in
    let lr : length {A = ℕ} (replicate (44 - n) 0) ≡ 44 - n = length-replicate (44 - n) 0 in
    put-splice x₁ (16 + n) (60 - (16 + n)) z lz
    ∙ ap (λ (i : ℕ). splice x₁ (16 + i) z) (sym lt)
    ∙ ap (splice x₁ (16 + length (take n p))) z'
    ∙ ap (λ (y : List ℕ). splice y (16 + length (take n p)) (replicate (44 - n) 0)) e₁
    ∙ splice-append x 16 (take n p) (replicate (44 - n) 0) (omega arith)

module _ (lsn prev page : ℕ) (c : Change) (e : LogRecord) (he : e ≡ record_for lsn prev page c) (h : fits c ≡ true) where
  pub length-few : e.length ≤ 44
  length-few = omega (arith, ap (λ (d : LogRecord). d.length) he, (fits-facts (kind_of c) (length_of c) (offset_of c) (fill_of c) h).length)

  -- the record, its checksum set
  pub encode-is : (x x₁ x₂ x₃ p : List ℕ) → length x ≡ 64 → length p ≡ 44
      → x₁ ≡ splice x 0 (head_of e)
      → x₂ ≡ splice x₁ 16 (padded e.length p)
      → x₃ ≡ seal 60 x₂
      → x₃ ≡ encode_change lsn prev page c p
  unfolding encode_change record_bytes head_of bytes_of
  encode-is x x₁ x₂ x₃ p l lp e₁ e₂ e₃ =
      let n = e.length in
      let m : length (padded n p) ≡ 44 = padded-length n p length-few (omega (arith, length-few)) in
      let q = next x (head_of e) (padded n p) 16 e₁ e₂ refl (omega arith) in
      let k : length (head_of e ++ padded n p) ≡ 60 = length-append (head_of e) (padded n p) ∙ ap (λ (i : ℕ). 16 + i) m in
      e₃
      ∙ ap (λ (y : List ℕ). with_checksum (take 60 y)) q
      ∙ ap with_checksum (take-spliced x (head_of e ++ padded n p) 60 k (omega arith))
      ∙ ap (λ (d : LogRecord). with_checksum (head_of d ++ padded d.length p)) he

-- ---- a note

pub note-is : (x x₁ x₂ x₃ x₄ : List ℕ) (e : Note) → length x ≡ 16
    → x₁ ≡ splice x 0 (bytes_of 4 e.number)
    → x₂ ≡ splice x₁ 4 (bytes_of 2 e.page)
    → x₃ ≡ splice (set (set x₂ 6 e.kind) 7 e.slot) 8 (bytes_of 4 e.lsn)
    → x₄ ≡ seal 12 x₃
    → x₄ ≡ note_bytes e
unfolding note_bytes bytes_of
note-is x x₁ x₂ x₃ x₄ e l p₁ p₂ p₃ p₄ =
    let b₂ = bytes_of 4 e.number ++ bytes_of 2 e.page in
    let b₄ = (b₂ ++ (e.kind ∷ [])) ++ (e.slot ∷ []) in
    let q₂ = next x (bytes_of 4 e.number) (bytes_of 2 e.page) 4 p₁ p₂ refl (omega arith) in
    let q₃ = next-byte x b₂ 6 e.kind q₂ refl (omega arith) in
    let q₄ = next-byte x (b₂ ++ (e.kind ∷ [])) 7 e.slot q₃ refl (omega arith) in
    let q₅ = next x b₄ (bytes_of 4 e.lsn) 8 q₄ p₃ refl (omega arith) in
    p₄ ∙ ap (λ (y : List ℕ). with_checksum (take 12 y)) q₅
    ∙ ap with_checksum (take-spliced x (b₄ ++ bytes_of 4 e.lsn) 12 refl (omega arith))

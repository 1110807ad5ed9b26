-- Laws of Make: headings written over zeros are the empty volume, and what is answered.
use mathlib.Core.Path.{◌≡◌, refl, sym, ap, ◌∙◌}
use mathlib.Core.Bool.{Bool, true, false, ◌&&◌}
use mathlib.Core.List.{List, [], ◌++◌, append-nil}
use Prim.Native.Nat.{ℕ, ◌+◌, ◌-◌, ◌*◌}
use native.Mathlib.Omega.{arith}
use borrow.Author.Tests.{eqb-true}
use lib.Dec.{eqb}
use lib.ListN.{length, take, drop, length-replicate}
use lib.Seq.{take-append-le, drop-append-le}
use Rattle.laws.proofs.Tables.{and_right}
use Rattle.laws.proofs.Fields.{bytes_of-length}
use Rattle.laws.proofs.Zeros.{zeros, take-zeros, drop-zeros}
use Rattle.model.specs.Bytes.{bytes_of, splice}
use Rattle.model.specs.Geometry.{magic, slot_count_at, record_count_at, note_count_at, length_for, valid_counts, empty_volume}
use Rattle.model.specs.Refusals.{make_rows}
use Rattle.model.specs.Restart.{make_of}
use Rattle.model.specs.declared.geometry.Heading.{Heading}
use Rattle.model.specs.declared.answer.Answer.TheVariants.{Refused, Done}

-- bytes written over k zeros and then m zeros: the bytes stand between them
over_zeros : (k m n : ℕ) (ys r : List ℕ) → n ≡ k + length ys + m → splice (zeros n ++ r) k ys ≡ zeros k ++ (ys ++ (zeros m ++ r))
unfolding splice
over_zeros k m n ys r e =
    let z : length (zeros n) ≡ n = length-replicate n 0 in
    let head : take k (zeros n ++ r) ≡ zeros k = take-append-le k (zeros n) r (omega arith) ∙ take-zeros k n (omega arith) in
    let rest : n - (k + length ys) ≡ m = omega arith in
    let tail : drop (k + length ys) (zeros n ++ r) ≡ zeros m ++ r =
    drop-append-le (k + length ys) (zeros n) r (omega arith)
    ∙ ap (λ (l : List ℕ). l ++ r) (drop-zeros (k + length ys) n (omega arith) ∙ ap zeros rest) in
    rw (head, tail)

-- a count of four bytes
count-over : (k m n c : ℕ) (r : List ℕ) → n ≡ k + 4 + m → splice (zeros n ++ r) k (bytes_of 4 c) ≡ zeros k ++ (bytes_of 4 c ++ (zeros m ++ r))
count-over k m n c r e = over_zeros k m n (bytes_of 4 c) r (rw bytes_of-length e)

-- zeros, and then each heading from the last one down
pub fresh : (h : Heading) (p b l n k : ℕ) (v₀ v₁ v₂ v₃ v₄ v₅ : List ℕ) → k ≡ length_for p b l n → v₀ ≡ zeros k
    → v₁ ≡ splice v₀ (note_count_at p b l) (bytes_of 4 n)
    → v₂ ≡ splice v₁ (record_count_at p b) (bytes_of 4 l) → v₃ ≡ splice v₂ (slot_count_at p) (bytes_of 4 b) → v₄ ≡ splice v₃ 4 (bytes_of 4 p)
    → v₅ ≡ splice v₄ 0 (magic h)
    → v₅ ≡ empty_volume h p b l n
unfolding empty_volume
fresh h p b l n k v₀ v₁ v₂ v₃ v₄ v₅ ek e₀ e₁ e₂ e₃ e₄ e₅ =
    let notes : List ℕ = bytes_of 4 n ++ zeros (16 * n) in
    let records : List ℕ = bytes_of 4 l ++ (zeros (64 * l) ++ notes) in
    let slots : List ℕ = bytes_of 4 b ++ (zeros (256 * b) ++ records) in
    let pages : List ℕ = bytes_of 4 p ++ (zeros (256 * p) ++ slots) in
    let s₁ : v₁ ≡ zeros (note_count_at p b l) ++ notes =
    e₁ ∙ ap (λ (v : List ℕ). splice v (note_count_at p b l) (bytes_of 4 n)) (e₀ ∙ sym (append-nil (zeros k)))
    ∙ count-over (note_count_at p b l) (16 * n) k n [] (omega arith)
    ∙ ap (λ (r : List ℕ). zeros (note_count_at p b l) ++ (bytes_of 4 n ++ r)) (append-nil (zeros (16 * n))) in
    let s₂ : v₂ ≡ zeros (record_count_at p b) ++ records =
    e₂ ∙ ap (λ (v : List ℕ). splice v (record_count_at p b) (bytes_of 4 l)) s₁
    ∙ count-over (record_count_at p b) (64 * l) (note_count_at p b l) l notes (omega arith) in
    let s₃ : v₃ ≡ zeros (slot_count_at p) ++ slots =
    e₃ ∙ ap (λ (v : List ℕ). splice v (slot_count_at p) (bytes_of 4 b)) s₂
    ∙ count-over (slot_count_at p) (256 * b) (record_count_at p b) b records (omega arith) in
    let s₄ : v₄ ≡ zeros 4 ++ pages =
    e₄ ∙ ap (λ (v : List ℕ). splice v 4 (bytes_of 4 p)) s₃ ∙ count-over 4 (256 * p) (slot_count_at p) p slots (omega arith) in
    e₅ ∙ ap (λ (v : List ℕ). splice v 0 (magic h)) s₄ ∙ over_zeros 0 0 4 (magic h) pages refl

-- what is answered, by the test that Make computes from c and k
module _ (v : List ℕ) (h : Heading) (p b l n : ℕ) (c : Bool) (k : ℕ) (ec : c ≡ valid_counts p b l n) (ek : k ≡ length_for p b l n) where
  tested : (c && eqb (length v) k) ≡ (valid_counts p b l n && eqb (length v) (length_for p b l n))
  tested = rw (ec, ek)

  pub make-refused : (c && eqb (length v) k) ≡ false → (Refused 1 ≡ (make_of h v p b l n).answer) × (v ≡ (make_of h v p b l n).volume)
  unfolding make_of make_rows
  make-refused t =
      let e : (valid_counts p b l n && eqb (length v) (length_for p b l n)) ≡ false = sym tested ∙ t in
      (rw e, rw e)

  pub make-fits : (c && eqb (length v) k) ≡ true → length v ≡ length_for p b l n
  make-fits t = eqb-true _ _ (and_right c (eqb (length v) k) t) ∙ ek

  pub make-done : (c && eqb (length v) k) ≡ true
      → (Done ≡ (make_of h v p b l n).answer) × (empty_volume h p b l n ≡ (make_of h v p b l n).volume)
  unfolding make_of make_rows
  make-done t =
      let e : (valid_counts p b l n && eqb (length v) (length_for p b l n)) ≡ true = sym tested ∙ t in
      (rw e, rw e)

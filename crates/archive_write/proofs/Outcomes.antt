-- What the definitions of the length and the writer say in each of their cases, and what the code needs to know once it is not refused.
use mathlib.Core.Path.{◌≡◌, refl, sym, ap, ◌∙◌}
use mathlib.Core.Bool.{Bool, true, false, cond, not}
use mathlib.Core.List.{List, [], ◌∷◌}
use Prim.Native.Nat.{ℕ, zero, suc, ◌≤◌}
use native.Mathlib.Omega.{arith}
use lib.Dec.{eqb}
use lib.ListN.{length}
use Rattle.std.specs.Prelude.{Ok, Err}
use borrow.Author.Tests.{eq-eqb, ne_eqb, eqb-true, not-false}
use Rattle.laws.proofs.Tables.{by_cases, none-at}
use Rattle.laws.proofs.Places.{valid-facts}
use Rattle.laws.proofs.Scanned.{whole-few}
use Rattle.reports_laws.proofs.Archive.{Whole, held-is, long-as-told}
use Rattle.model.specs.Tables.{first_of, tabulate}
use Rattle.model.specs.Geometry.{geometry_of, valid_volume}
use Rattle.model.specs.Scan.{durable_count, gone, valid_log, valid_notes}
use Rattle.reports.specs.Reading.{whole_rows, page_records, held_records}
use Rattle.reports.specs.Archive.{archive_bytes, segments_of, archive_length, size_of, size_refusal, archive_rows, archive_of}
use Rattle.model.specs.Outcome.{refusal_of}
use Rattle.model.specs.declared.answer.Answer.TheVariants.{Done}
use Rattle.index.specs.Scanned.{scan_rows, scan_refusal, counts_of, gone_in}
use Rattle.index.specs.declared.Counts.{Counts}
use Rattle.model.specs.declared.geometry.Geometry.{Geometry}
use Rattle.archive_write.specs.declared.Extent.{Extent}
use Rattle.archive_write.specs.Copied.{segments_to}
use Rattle.archive_write.specs.Extent.{whole_refusal, extent_of, size_number}

-- the scan's number, then the call's own test
first-kept : (a b c t : Bool) → (◌≡◌ {A = ℕ} (cond a 1 (cond b 17 (cond c 18 0))) 0 → ⊥)
    → ◌≡◌ {A = ℕ} (cond a 1 (cond b 17 (cond c 18 0))) (cond a 1 (cond b 17 (cond c 18 (cond t 24 0))))
first-kept true b c t h = refl
first-kept false true c t h = refl
first-kept false false true t h = refl
first-kept false false false t h = absurd (h refl)

first-passed : (a b c t : Bool) → ◌≡◌ {A = ℕ} (cond a 1 (cond b 17 (cond c 18 0))) 0
    → ◌≡◌ {A = ℕ} (cond t 24 0) (cond a 1 (cond b 17 (cond c 18 (cond t 24 0))))
first-passed true b c t h = absurd (omega (arith, h))
first-passed false true c t h = absurd (omega (arith, h))
first-passed false false true t h = absurd (omega (arith, h))
first-passed false false false t h = refl

-- then the writer's
then-longer : (a b c d t : Bool)
    → cond a 1 (cond b 17 (cond c 18 (cond d 24 (cond t 21 0))))
    ≡ (let r = cond a 1 (cond b 17 (cond c 18 (cond d 24 0))) in cond (not (eqb r 0)) r (cond t 21 0))
then-longer true b c d t = refl
then-longer false true c d t = refl
then-longer false false true d t = refl
then-longer false false false true t = refl
then-longer false false false false t = refl

tabulate-same : {A : Type 0} (n : ℕ) (f k : ℕ → A) → ((i : ℕ) → f i ≡ k i) → tabulate n f ≡ tabulate n k
unfolding tabulate
tabulate-same zero f k h = refl
tabulate-same {A} (suc n) f k h =
    ap (λ (x : A). x ∷ tabulate n (λ i. f (suc i))) (h 0)
    ∙ ap (λ (l : List A). k 0 ∷ l) (tabulate-same n (λ i. f (suc i)) (λ i. k (suc i)) (λ i. h (suc i)))

module _ (v : List ℕ) where
  -- ---- the scan

  -- refused by the scan, or by the call's own test of a clean one
  pub scan-refused : (n : ℕ) → n ≡ scan_refusal v → (n ≡ 0 → ⊥) → n ≡ whole_refusal v
  unfolding scan_rows
  scan-refused n e ne =
      e ∙ first-kept (not (valid_volume v)) (not (valid_log (geometry_of v) v)) (not (valid_notes (geometry_of v) v))
      (gone (geometry_of v) v) (λ z. ne (e ∙ z))

  pub scan-clean : (c : Counts) → 0 ≡ scan_refusal v → c ≡ counts_of v → (t : Bool) → gone_in c ≡ t → cond t 24 0 ≡ whole_refusal v
  unfolding scan_rows gone
  scan-clean c e ec t et =
      rw (← et, ec)
      (first-passed (not (valid_volume v)) (not (valid_log (geometry_of v) v)) (not (valid_notes (geometry_of v) v)) _ (sym e))

  -- a volume with an archive
  pub whole : 0 ≡ whole_refusal v → Whole v
  whole h =
      let none = none-at (whole_rows v []) (omega arith) (sym h) in
      record { volume = not-false _ (none 0); log = not-false _ (none 1); notes = not-false _ (none 2); here = none 3 }

  -- ---- the extent

  -- no sum wraps
  module _ (h : 0 ≡ whole_refusal v) where
    pub durable-few : (c : Counts) → c ≡ counts_of v → c.durable ≤ 1024
    durable-few c ec =
        rw ec (omega (arith, whole-few (geometry_of v) v (whole h).here, (valid-facts v (whole h).volume).l-high))

    -- ---- the length

    size-told : size_of v ≡ Ok (archive_length v)
    unfolding size_of
    size-told = rw (eq-eqb (whole_refusal v) 0 (sym h))

    pub size-measured : (e : Extent) → e ≡ extent_of v → size_of v ≡ Ok e.size
    size-measured e ee = size-told ∙ sym (ap (λ (x : Extent). Ok x.size) ee)

  pub size-none : (n : ℕ) → n ≡ whole_refusal v → (n ≡ 0 → ⊥) → Err n ≡ size_of v
  unfolding size_of
  size-none n e ne = rw (ne_eqb (whole_refusal v) 0 (λ z. ne (e ∙ z))) (ap Err e)

  pub size-refused : size_refusal (size_of v) ≡ whole_refusal v
  unfolding size_of
  size-refused = by_cases (eqb (whole_refusal v) 0) (λ t. rw t (sym (eqb-true (whole_refusal v) 0 t))) (λ t. rw t)

  -- 0 stands for a refusal only: every length is at least 4
  pub length_some : size_refusal (size_of v) ≡ 0 → 4 ≤ size_number (size_of v)
  length_some z =
      let h : 0 ≡ whole_refusal v = sym z ∙ size-refused in
      rw (size-told h) (omega (arith, (valid-facts v (whole h).volume).p-low))

  -- ---- the writer

  module _ (b : List ℕ) where
    rows-are : first_of (archive_rows v (length b))
        ≡ (let r = whole_refusal v in cond (not (eqb r 0)) r (cond (not (eqb (length b) (archive_length v))) 21 0))
    unfolding archive_rows
    rows-are =
        then-longer (not (valid_volume v)) (not (valid_log (geometry_of v) v)) (not (valid_notes (geometry_of v) v))
        (gone (geometry_of v) v) (not (eqb (length b) (archive_length v)))

    -- a refusal
    refused-by : (n : ℕ) → n ≡ first_of (archive_rows v (length b)) → (n ≡ 0 → ⊥)
        → (n ≡ refusal_of (archive_of v b).answer) × (b ≡ (archive_of v b).buffer)
    unfolding archive_of
    refused-by n e ne = rw (ne_eqb (first_of (archive_rows v (length b))) 0 (λ z. ne (e ∙ z))) (e, refl)

    pub write-refused : (n : ℕ) → n ≡ whole_refusal v → (n ≡ 0 → ⊥)
        → (n ≡ refusal_of (archive_of v b).answer) × (b ≡ (archive_of v b).buffer)
    write-refused n e ne =
        refused-by n (rw (rows-are, ne_eqb (whole_refusal v) 0 (λ z. ne (e ∙ z))) e) ne

    module _ (h : 0 ≡ whole_refusal v) where
      pub write-other : (e : Extent) → e ≡ extent_of v → (length b ≡ e.size → ⊥)
          → (21 ≡ refusal_of (archive_of v b).answer) × (b ≡ (archive_of v b).buffer)
      write-other e ee ne =
          let other : length b ≡ archive_length v → ⊥ = λ z. ne (z ∙ sym (ap (λ (x : Extent). x.size) ee)) in
          refused-by 21 (rw (rows-are, eq-eqb (whole_refusal v) 0 (sym h), ne_eqb (length b) (archive_length v) other) refl)
          (λ z. absurd (omega (arith, z)))

      segments-are : segments_to (geometry_of v) v (durable_count (geometry_of v) v) (geometry_of v).pages ≡ segments_of v
      segments-are =
          tabulate-same (geometry_of v).pages (λ i. page_records (geometry_of v) v (suc i) 1 (durable_count (geometry_of v) v))
          (λ i. held_records v (suc i)) (λ i. sym (held-is v (whole h) (suc i)))

      -- with the volume beside its geometry
      module _ (e : Extent) (ee : e ≡ extent_of v) (long : length b ≡ e.size) (w : List ℕ) (ew : w ≡ v) (g : Geometry)
          (eg : g ≡ geometry_of w) where
        bytes-are : archive_bytes (segments_to g w e.durable g.pages) ≡ archive_bytes (segments_of v)
        bytes-are = rw (eg, ew, ap (λ (x : Extent). x.durable) ee) (ap archive_bytes segments-are)

        right : length b ≡ archive_length v
        right = long ∙ ap (λ (x : Extent). x.size) ee

        pub write-ready : length b ≡ length (archive_bytes (segments_to g w e.durable g.pages))
        write-ready = right ∙ sym (ap length bytes-are ∙ long-as-told v (whole h))

        pub write_done : (c : List ℕ) → c ≡ archive_bytes (segments_to g w e.durable g.pages)
            → (0 ≡ refusal_of (archive_of v b).answer) × (c ≡ (archive_of v b).buffer)
        unfolding archive_of
        write_done c ec =
            let none : first_of (archive_rows v (length b)) ≡ 0 =
            rw (rows-are, eq-eqb (whole_refusal v) 0 (sym h), eq-eqb (length b) (archive_length v) right) refl in
            rw (eq-eqb (first_of (archive_rows v (length b))) 0 none) (refl, ec ∙ bytes-are)

    -- the answer of a number
    module _ (n : ℕ) (en : n ≡ refusal_of (archive_of v b).answer) where
      pub answer-done : n ≡ 0 → Done ≡ (archive_of v b).answer
      unfolding archive_of
      answer-done z = by_cases (eqb (first_of (archive_rows v (length b))) 0)
          (λ t. rw t)
          (λ t.
          let q : n ≡ first_of (archive_rows v (length b)) = rw t at en in
          let f : eqb (first_of (archive_rows v (length b))) 0 ≡ true = eq-eqb _ 0 (sym q ∙ z) in
          let w : ◌≡◌ {A = ℕ} 0 1 = cc in absurd (omega arith))

-- Two volumes that restart and have the same page: what inspection answers is the same, and the page's segment of the archive. The end of
-- the proof of `NeighboursClaim`.
use mathlib.Core.Path.{◌≡◌, sym, ap, ◌∙◌}
use mathlib.Core.Logic.{◌≢◌, inl, inr, ◌↔◌}
use mathlib.Core.Bool.{Bool, true, false, cond, not}
use mathlib.Core.List.{List, [], ◌∷◌}
use Prim.Native.Nat.{ℕ, suc, ◌-◌, ◌≤◌}
use native.Mathlib.Omega.{arith}
use lib.Dec.{eqb, ltb}
use lib.ListN.{length, get_or}
use borrow.Author.Tests.{eqb-true, eqb-false, eq-eqb, ne_eqb, le-ltb, lt-ltb}
use Rattle.laws.proofs.Tables.{by_cases, within-bounds}
use Rattle.laws.proofs.Places.{valid-facts}
use Rattle.laws.proofs.Tabulated.{tabulate-at}
use Rattle.reports_laws.proofs.Forecast.{scanned, answer-is}
use Rattle.reports_laws.proofs.Archive.{wrote, written_back}
use Rattle.reports_laws.proofs.Area.{read-image}
use Rattle.reports_laws.proofs.SameRepair.{durable-same, walk_same, repair-same, image-same}
use Rattle.model.specs.Tables.{Row, first_of, within}
use Rattle.model.specs.Checksum.{seal_image}
use Rattle.model.specs.Geometry.{geometry_of}
use Rattle.model.specs.Scan.{durable_count, gone}
use Rattle.model.specs.Repair.{Walk, walk_of, rebuilt, is_below}
use Rattle.model.specs.Refusals.{inspect_rows}
use Rattle.reports.specs.Reading.{whole_rows, Restarts, page_view, held_records}
use Rattle.model.specs.Outcome.{refusal_of}
use Rattle.model.specs.Restart.{inspect_of}
use Rattle.reports.specs.Archive.{archive_length, size_of, size_refusal, archive_rows, archive_of, parted_from}
use Rattle.reports.specs.Neighbours.{SamePage, lowest_held, SameLowest, NeighboursClaim}
use Rattle.model.specs.declared.answer.Answer.{Answer}
use Rattle.model.specs.declared.answer.Answer.TheVariants.{Refused, Done}

-- ---- the call

-- the number that an inspection of a volume that restarts gives, for a buffer of n bytes
abbrev told : ℕ → ℕ → ℕ → ℕ → Walk → ℕ
told p n pages d k = cond (not (eqb n 256)) 2 (cond (not (within pages p)) 3 (cond (eqb d 0) 7 (cond (is_below k.stop) 23 0)))

number_is : (u : List ℕ) → Restarts u → (p n : ℕ)
    → first_of (inspect_rows u p n) ≡ told p n (geometry_of u).pages (page_view u p).durable (walk_of (geometry_of u) p (page_view u p))
unfolding inspect_rows
number_is u h p n = let s = scanned u h in rw (s.volume, s.log, s.notes)

buffer-is : (v : List ℕ) (p : ℕ) (x : List ℕ)
    → (inspect_of v p x).buffer ≡ cond (eqb (first_of (inspect_rows v p (length x))) 0)
    (seal_image (geometry_of v) (rebuilt (geometry_of v) p (page_view v p))) x
unfolding inspect_of
buffer-is v p x = by_cases (eqb (first_of (inspect_rows v p (length x))) 0) (λ t. rw t) (λ t. rw t)

module _ (v w : List ℕ) (hv : Restarts v) (hw : Restarts w) (p : ℕ) (same : SamePage v w p) (x y : List ℕ)
    (size : length x ≡ length y) where
  in-range : within (geometry_of w).pages p ≡ true → (1 ≤ p) × (p ≤ 64)
  in-range t =
      let b = within-bounds (geometry_of w).pages p t in
      let f = valid-facts w (scanned w hw).volume in
      (b.0, omega (arith, b.1, f.p-high))

  outside : (pages n d d' : ℕ) (k k' : Walk) → within pages p ≡ false → told p n pages d k ≡ told p n pages d' k'
  outside pages n d d' k k' t = rw t

  same_number : first_of (inspect_rows v p (length x)) ≡ first_of (inspect_rows w p (length y))
  same_number =
      let P = (geometry_of w).pages in
      let d = (page_view v p).durable in
      let k = walk_of (geometry_of v) p (page_view v p) in
      number_is v hv p (length x) ∙ ap (λ (n : ℕ). told p n (geometry_of v).pages d k) size
      ∙ ap (λ (q : ℕ). told p (length y) q d k) same.pages
      ∙ by_cases (within P p)
      (λ t.
      let b = in-range t in
      ap (λ (c : ℕ). told p (length y) P c k) (durable-same v w hv hw p b.0 b.1 same)
      ∙ ap (λ (c : Walk). told p (length y) P (page_view w p).durable c) (walk_same v w hv hw p b.0 b.1 same))
      (λ t. outside P (length y) d (page_view w p).durable k (walk_of (geometry_of w) p (page_view w p)) t)
      ∙ sym (number_is w hw p (length y))

  -- an inspection that is not refused has its page in range
  done-range : first_of (inspect_rows w p (length y)) ≡ 0 → (1 ≤ p) × (p ≤ 64)
  done-range e = by_cases (within (geometry_of w).pages p) in-range
      (λ t. absurd (by_cases (eqb (length y) 256)
      (λ u. let q : 3 ≡ 0 = sym (number_is w hw p (length y) ∙ rw (u, t)) ∙ e in omega arith)
      (λ u. let q : 2 ≡ 0 = sym (number_is w hw p (length y) ∙ rw u) ∙ e in omega arith)))

  pub answers : (inspect_of v p x).answer ≡ (inspect_of w p y).answer
  answers =
      let k = first_of (inspect_rows w p (length y)) in
      answer-is v p x ∙ rw same_number (by_cases (eqb k 0)
      (λ t. let b = done-range (eqb-true k 0 t) in rw (t, repair-same v w hv hw p b.0 b.1 same) (sym (answer-is w p y ∙ rw t)))
      (λ t. rw t (sym (answer-is w p y ∙ rw t))))

  pub buffers : refusal_of (inspect_of v p x).answer ≡ 0 → (inspect_of v p x).buffer ≡ (inspect_of w p y).buffer
  buffers e =
      let k = first_of (inspect_rows w p (length y)) in
      buffer-is v p x ∙ rw same_number (by_cases (eqb k 0)
      (λ t. let b = done-range (eqb-true k 0 t) in rw (t, image-same v w hv hw p b.0 b.1 same) (sym (buffer-is w p y ∙ rw t)))
      (λ t. absurd (eqb-false k 0 t
      (let q : refusal_of (inspect_of v p x).answer ≡ k = ap refusal_of (answers ∙ answer-is w p y) ∙ rw t in sym q ∙ e))))

-- ---- the archive's refusals

-- record 1 has left exactly where the lowest held number is above 1
gone-is : (v : List ℕ) → gone (geometry_of v) v ≡ ltb 1 (lowest_held v)
unfolding gone
gone-is v =
    let n = durable_count (geometry_of v) v in
    by_cases (eqb n 0)
    (λ t. rw (t, le-ltb 0 n (omega (arith, eqb-true n 0 t)), le-ltb 1 0 (omega arith)))
    (λ t. let some : n ≢ 0 = eqb-false n 0 t in rw (t, lt-ltb 0 n (omega arith)))

gone_same : (v w : List ℕ) → SameLowest v w → gone (geometry_of v) v ≡ gone (geometry_of w) w
gone_same v w low = by_cases (gone (geometry_of v) v)
    (λ t. gone-is v ∙ (ap (ltb 1) (low (inl t)) ∙ sym (gone-is w)))
    (λ t. by_cases (gone (geometry_of w) w) (λ u. gone-is v ∙ (ap (ltb 1) (low (inr u)) ∙ sym (gone-is w))) (λ u. t ∙ sym u))

-- the number of a call that wants the whole history of a volume that restarts
whole-number : (v : List ℕ) → Restarts v → (rows : List Row)
    → first_of (whole_rows v rows) ≡ cond (gone (geometry_of v) v) 24 (first_of rows)
whole-number v h rows = let s = scanned v h in rw (s.volume, s.log, s.notes)

size_number : (v : List ℕ) → size_refusal (size_of v) ≡ first_of (whole_rows v [])
unfolding size_of
size_number v = by_cases (eqb (first_of (whole_rows v [])) 0) (λ t. rw t (sym (eqb-true (first_of (whole_rows v [])) 0 t))) (λ t. rw t)

abbrev answered : ℕ → Answer
answered n = cond (eqb n 0) Done (Refused n)

writer-answer : (v x : List ℕ) → (archive_of v x).answer ≡ answered (first_of (archive_rows v (length x)))
unfolding archive_of
writer-answer v x =
    by_cases (eqb (first_of (archive_rows v (length x))) 0) (λ t. rw t) (λ t. rw t)

writer-number : (v x : List ℕ) → Restarts v
    → first_of (archive_rows v (length x)) ≡ cond (gone (geometry_of v) v) 24 (cond (not (eqb (length x) (archive_length v))) 21 0)
unfolding archive_rows
writer-number v x h = whole-number v h ((not (eqb (length x) (archive_length v)), 21) ∷ [])

eqb_same : (a b c d : ℕ) → (a ≡ b) ↔ (c ≡ d) → eqb a b ≡ eqb c d
eqb_same a b c d e = by_cases (eqb a b)
    (λ t. t ∙ sym (eq-eqb c d (e.0 (eqb-true a b t))))
    (λ t. t ∙ sym (ne_eqb c d (λ z. eqb-false a b t (e.1 z))))

module _ (v w : List ℕ) (hv : Restarts v) (hw : Restarts w) (low : SameLowest v w) where
  sizes-alike : size_refusal (size_of v) ≡ size_refusal (size_of w)
  sizes-alike =
      size_number v ∙ (whole-number v hv [] ∙ (ap (λ (t : Bool). cond t 24 0) (gone_same v w low)
      ∙ (sym (whole-number w hw []) ∙ sym (size_number w))))

  writers-alike : (x y : List ℕ) → (length x ≡ archive_length v) ↔ (length y ≡ archive_length w)
      → (archive_of v x).answer ≡ (archive_of w y).answer
  writers-alike x y e =
      let q : first_of (archive_rows v (length x)) ≡ first_of (archive_rows w (length y)) =
      writer-number v x hv ∙ (rw (gone_same v w low, eqb_same (length x) (archive_length v) (length y) (archive_length w) e)
      (sym (writer-number w y hw))) in
      writer-answer v x ∙ (ap answered q ∙ sym (writer-answer w y))

-- ---- its segments

-- segment p as it is cut from what the writer wrote
segment-cut : (v x : List ℕ) (p : ℕ) → 1 ≤ p → p ≤ (geometry_of v).pages → (archive_of v x).answer ≡ Done
    → get_or (parted_from (geometry_of v).pages (archive_of v x).buffer) (p - 1) [] ≡ held_records v p
segment-cut v x p lo hi e =
    let q = wrote v x e in
    let m : suc (p - 1) ≡ p = omega arith in
    rw (q.1, (written_back v q.0).1, tabulate-at (geometry_of v).pages (p - 1) (λ i. held_records v (suc i)) [] (omega arith), m)

pub neighbours : NeighboursClaim
neighbours =
    record {
      inspect = λ v w hv hw p same x y size. (answers v w hv hw p same x y size, buffers v w hv hw p same x y size);
      refusals = λ v w hv hw p same low. (sizes-alike v w hv hw low, writers-alike v w hv hw low);
      segment = λ v w p same lo hi x y a b.
          let hi' : p ≤ (geometry_of w).pages = rw same.pages at hi in
          segment-cut v x p lo hi a ∙ same.chain ∙ sym (segment-cut w y p lo hi' b);
      image = λ j k p a b area room sa sb da db lo hj hk e.
          read-image j a area sa da p lo hj ∙ rw e (sym (read-image k b room sb db p lo hk));
    }

-- Two volumes that restart and have the same page: the walk, the repair and the image rebuilt are the same.
use mathlib.Core.Path.{◌≡◌, refl, sym, ap, ◌∙◌, subst}
use mathlib.Core.Logic.{inl, inr}
use mathlib.Core.Bool.{Bool, true, false, ◌&&◌, cond}
use mathlib.Core.List.{List, reverse}
use Prim.Native.Nat.{ℕ, zero, suc, ◌-◌, ◌≤◌}
use native.Mathlib.Omega.{arith}
use native.Mathlib.Decide.{ℕ_discrete}
use lib.Dec.{eqb, ltb, lit<}
use lib.ListN.{length, get_or, take}
use lib.Seq.{get_or-take}
use borrow.Author.Tests.{eqb-true, eq-eqb, ne_eqb}
use Rattle.laws.proofs.Tables.{by_cases, cond_same, true-not-false}
use Rattle.laws.proofs.Places.{valid-facts}
use Rattle.laws.proofs.Walks.{step, named}
use Rattle.reports_laws.proofs.Forecast.{Scanned, scanned}
use Rattle.laws.proofs.Scanned.{down, first_lsn, held_low, log-fits}
use Rattle.laws.proofs.Noted.{Entered, entered}
use Rattle.reports_laws.proofs.Neighbours.{down_is, walk_l, taken_l, replay_l, Meets, down-none, walk-list}
use Rattle.reports_laws.proofs.Neighbours.{replay-list}
use Rattle.model.specs.Checksum.{image_sum, seal_image, image_sealed}
use Rattle.model.specs.Geometry.{geometry_of}
use Rattle.model.specs.Item.{record_of, is_format, valid_image, image_lsn, image_body, frame_image}
use Rattle.model.specs.Index.{entry_of}
use Rattle.model.specs.Scan.{durable_count, first_held, index_of}
use Rattle.model.specs.Repair.{Walk, chain_record, walk_from, walk_of, replay_chain, start_body, rebuilt_body, rebuilt}
use Rattle.model.specs.Repair.{class_of, class_in, own_start, backup_start, start_of, repair_of}
use Rattle.reports.specs.Reading.{Restarts, page_view, held_records}
use Rattle.reports.specs.Neighbours.{SamePage}
use Rattle.model.specs.declared.{geometry.Geometry.Geometry, answer.Class.Class, answer.Stop.Stop, answer.Repair.Repair}
use Rattle.model.specs.declared.answer.Stop.TheVariants.{Broken, Below}
use Rattle.model.specs.declared.answer.Stop.TheVariants.{Own, Backup, Format}

-- ---- one volume that restarts

module _ (v : List ℕ) (h : Restarts v) (p : ℕ) (low : 1 ≤ p) (high : p ≤ 64) where
  abbrev g : Geometry
  g = geometry_of v

  abbrev n : ℕ
  n = durable_count (geometry_of v) v

  abbrev f : ℕ
  f = first_held (geometry_of v) v (durable_count (geometry_of v) v)

  s : Scanned v
  s = scanned v h

  few : g.pages ≤ 64
  few = (valid-facts v s.volume).p-high

  -- the page's records, the newest first
  records : List (List ℕ)
  records = down g v p f (suc n - f)

  records-are : records ≡ reverse (held_records v p)
  unfolding records
  records-are = sym (down_is g v p f (suc n - f))

  entry : Entered g v p (down g v p f (suc n - f)) (entry_of (index_of g v) p)
  entry = entered g v few s.log s.notes p low high

  backup-is : (page_view v p).backup ≡ (entry_of (index_of g v) p).backup
  backup-is = by_cases (eqb (entry_of (index_of g v) p).slot 0)
      (λ t. rw t (sym (entry.unslotted (eqb-true _ _ t))))
      (λ t. rw t)

  durable-is : (page_view v p).durable ≡ cond (eqb (first_lsn records) 0) (page_view v p).backup (first_lsn records)
  unfolding records
  durable-is = rw backup-is entry.durable-is

  meets : (d : ℕ) → (page_view v p).durable ≡ d → 1 ≤ d
      → Meets g v f (held_low g v n) few (suc n - f) (log-fits g v s.log) p low (suc n - f) d
  meets d e one =
      let L = first_lsn (down g v p f (suc n - f)) in
      elim (ℕ_discrete L 0) [
        | yes z ↦
            let q : d ≡ (entry_of (index_of g v) p).backup = sym e ∙ (entry.durable-is ∙ rw (eq-eqb L 0 z)) in
            inl (
              down-none g v f (held_low g v n) few (suc n - f) (log-fits g v s.log) p low (suc n - f) (omega arith) z,
              rw q (entry.below z (λ y. omega (arith, q, y))),
            )
        | no z ↦
            let q : d ≡ L = sym e ∙ (entry.durable-is ∙ rw (ne_eqb L 0 z)) in
            inr (omega arith, q)
      ]

  walk_is : (d own b : ℕ) → (page_view v p).durable ≡ d → 1 ≤ d
      → walk_from d (page_view v p).log (page_view v p).first p own b d ≡ walk_l p own b d records
  unfolding records
  walk_is d own b e one =
      walk-list g v f (held_low g v n) few (suc n - f) (log-fits g v s.log) p low (suc n - f) (omega arith) d own b d
      (omega arith) one (meets d e one)

  replay-is : (d own b : ℕ) (body : List ℕ) → (page_view v p).durable ≡ d → 1 ≤ d
      → replay_chain (page_view v p).log (walk_l p own b d records).chain body ≡ replay_l (taken_l p own b d records) body
  unfolding records
  replay-is d own b body e one =
      replay-list g v f (held_low g v n) few (suc n - f) (log-fits g v s.log) p low (suc n - f)
      (omega arith) own b d body one (meets d e one)

-- ---- a walk without a backup does not stop at one

is_backup : Stop → Bool
is_backup Own = false
is_backup Backup = true
is_backup Format = false
is_backup Broken = false
is_backup Below = false

step-backup : (t l c f : Bool) (n : ℕ) (x : Walk) → (c ≡ true → f ≡ false → is_backup x.stop ≡ false)
    → is_backup (step t false l c f n x).stop ≡ false
unfolding step is_backup
step-backup true l c f n x h = refl
step-backup false true c f n x h = refl
step-backup false false false f n x h = refl
step-backup false false true true n x h = refl
step-backup false false true false n x h = h refl refl

no-backup : (s : ℕ) (log : ℕ → List ℕ) (first p own n : ℕ) → 1 ≤ n → is_backup (walk_from s log first p own 0 n).stop ≡ false
unfolding walk_from step is_backup
no-backup zero log first p own n o = refl
no-backup (suc s) log first p own n o =
    let r : List ℕ = log n in
    let u : eqb 0 n ≡ false = ne_eqb 0 n (λ e. omega (arith, e, o)) in
    subst
    (λ (t : Bool). is_backup (step (eqb own n) t (ltb n first) (chain_record p n r) (is_format (record_of r)) n
    (walk_from s log first p own 0 (record_of r).prev)).stop ≡ false)
    (sym u)
    (step-backup (eqb own n) (ltb n first) (chain_record p n r) (is_format (record_of r)) n (walk_from s log first p own 0 (record_of r).prev)
    (λ c f. no-backup s log first p own (record_of r).prev (named p n r c f)))

never-backup : (d : ℕ) (log : ℕ → List ℕ) (first p own : ℕ) → is_backup (walk_from d log first p own 0 d).stop ≡ false
unfolding walk_from is_backup
never-backup zero log first p own = refl
never-backup (suc d) log first p own = no-backup (suc d) log first p own (suc d) (omega arith)

-- ---- what an image is judged by

-- volumes with the same first four bytes judge and seal images alike
heading-tag : (v w : List ℕ) → take 4 v ≡ take 4 w → (geometry_of v).tag ≡ (geometry_of w).tag
unfolding geometry_of
heading-tag v w e = sym (get_or-take 4 v 3 0 (lit< tt)) ∙ ap (λ (l : List ℕ). get_or l 3 0) e ∙ get_or-take 4 w 3 0 (lit< tt)

valid-tag : (g g' : Geometry) (p : ℕ) (x : List ℕ) → g.tag ≡ g'.tag → valid_image g p x ≡ valid_image g' p x
unfolding valid_image image_sealed
valid-tag g g' p x e = rw e

sum_tag : (g g' : Geometry) → g.tag ≡ g'.tag → image_sum g ≡ image_sum g'
unfolding image_sum
sum_tag g g' e = rw e

seal-tag : (g g' : Geometry) (x : List ℕ) → g.tag ≡ g'.tag → seal_image g x ≡ seal_image g' x
seal-tag g g' x e = rw (sum_tag g g' e)

-- where no backup is noted, none starts the replay
no_start : (u : List ℕ) (p : ℕ) → (page_view u p).backup ≡ 0 → backup_start (geometry_of u) p (page_view u p) ≡ 0
no_start u p e =
    let t = valid_image (geometry_of u) p (page_view u p).copy && eqb (image_lsn (page_view u p).copy) (page_view u p).backup in
    ap (λ (b : ℕ). cond t b 0) e ∙ cond_same t 0

-- ---- two volumes

module _ (v w : List ℕ) (hv : Restarts v) (hw : Restarts w) (p : ℕ) (low : 1 ≤ p) (high : p ≤ 64) (same : SamePage v w p) where
  tags : (geometry_of v).tag ≡ (geometry_of w).tag
  tags = heading-tag v w same.heading

  records-same : records v hv p low high ≡ records w hw p low high
  records-same = records-are v hv p low high ∙ ap reverse same.chain ∙ sym (records-are w hw p low high)

  pub durable-same : (page_view v p).durable ≡ (page_view w p).durable
  durable-same = durable-is v hv p low high ∙ rw (records-same, same.backup) (sym (durable-is w hw p low high))

  own_same : own_start (geometry_of v) p (page_view v p) ≡ own_start (geometry_of w) p (page_view w p)
  own_same = rw (same.own, valid-tag (geometry_of v) (geometry_of w) p (page_view w p).own tags)

  backup-same : backup_start (geometry_of v) p (page_view v p) ≡ backup_start (geometry_of w) p (page_view w p)
  backup-same =
      elim (ℕ_discrete (page_view v p).backup 0) [
        | yes z ↦ no_start v p z ∙ sym (no_start w p (sym same.backup ∙ z))
        | no z ↦
            ap (λ (x : List ℕ). cond (valid_image (geometry_of v) p x && eqb (image_lsn x) (page_view v p).backup)
            (page_view v p).backup 0) (same.copy z)
            ∙ ap (λ (b : ℕ). cond
            (valid_image (geometry_of v) p (page_view w p).copy && eqb (image_lsn (page_view w p).copy) b) b 0) same.backup
            ∙ ap (λ (t : Bool). cond (t && eqb (image_lsn (page_view w p).copy) (page_view w p).backup) (page_view w p).backup 0)
            (valid-tag (geometry_of v) (geometry_of w) p (page_view w p).copy tags)
      ]

  from-same : (d own b : ℕ) → (page_view v p).durable ≡ d
      → walk_from d (page_view v p).log (page_view v p).first p own b d ≡ walk_from d (page_view w p).log (page_view w p).first p own b d
  unfolding walk_from
  from-same zero own b e = refl
  from-same (suc d) own b e =
      walk_is v hv p low high (suc d) own b e (omega arith) ∙ ap (λ (l : List (List ℕ)). walk_l p own b (suc d) l) records-same
      ∙ sym (walk_is w hw p low high (suc d) own b (sym durable-same ∙ e) (omega arith))

  pub walk_same : walk_of (geometry_of v) p (page_view v p) ≡ walk_of (geometry_of w) p (page_view w p)
  unfolding walk_of
  walk_same =
      let d = (page_view v p).durable in
      let o = own_start (geometry_of w) p (page_view w p) in
      let b = backup_start (geometry_of w) p (page_view w p) in
      ap (λ (i : ℕ). walk_from d (page_view v p).log (page_view v p).first p i (backup_start (geometry_of v) p (page_view v p)) d) own_same
      ∙ ap (λ (i : ℕ). walk_from d (page_view v p).log (page_view v p).first p o i d) backup-same ∙ from-same d o b refl
      ∙ ap (λ (i : ℕ). walk_from i (page_view w p).log (page_view w p).first p o b i) durable-same

  class_same : class_in (geometry_of v) p (page_view v p) ≡ class_in (geometry_of w) p (page_view w p)
  class_same =
      ap (λ (x : List ℕ). class_of (valid_image (geometry_of v) p x) (image_lsn x) (page_view v p).durable (page_view v p).written) same.own
      ∙ ap (λ (t : Bool). class_of t (image_lsn (page_view w p).own) (page_view v p).durable (page_view v p).written)
      (valid-tag (geometry_of v) (geometry_of w) p (page_view w p).own tags)
      ∙ ap (λ (d : ℕ). class_of (valid_image (geometry_of w) p (page_view w p).own) (image_lsn (page_view w p).own) d
      (page_view v p).written) durable-same
      ∙ ap (λ (d : ℕ). class_of (valid_image (geometry_of w) p (page_view w p).own) (image_lsn (page_view w p).own)
      (page_view w p).durable d) same.written

  abbrev made_of : Class → Walk → Repair
  made_of c k = record { class = c; start = start_of k.stop; count = length k.chain }

  pub repair-same : repair_of (geometry_of v) p (page_view v p) ≡ repair_of (geometry_of w) p (page_view w p)
  unfolding repair_of
  repair-same =
      ap (λ (c : Class). made_of c (walk_of (geometry_of v) p (page_view v p))) class_same
      ∙ ap (λ (k : Walk). made_of (class_in (geometry_of w) p (page_view w p)) k) walk_same

  -- the body on which the replay starts
  start-case : (s : Stop) → (is_backup s ≡ true → (page_view v p).copy ≡ (page_view w p).copy)
      → start_body s (page_view v p) ≡ start_body s (page_view w p)
  unfolding is_backup
  start-case Own h = ap image_body same.own
  start-case Backup h = ap image_body (h refl)
  start-case Format h = refl
  start-case Broken h = refl
  start-case Below h = refl

  start-same : start_body (walk_of (geometry_of v) p (page_view v p)).stop (page_view v p)
      ≡ start_body (walk_of (geometry_of v) p (page_view v p)).stop (page_view w p)
  unfolding walk_of
  start-same =
      let x = page_view v p in
      start-case (walk_of (geometry_of v) p (page_view v p)).stop
      (λ t.
      elim (ℕ_discrete (page_view v p).backup 0) [
        | yes y ↦
            absurd
            (true-not-false t
            (ap (λ (b : ℕ). is_backup
            (walk_from x.durable x.log x.first p (own_start (geometry_of v) p x) b x.durable).stop) (no_start v p y)
            ∙ never-backup x.durable x.log x.first p (own_start (geometry_of v) p x)))
        | no z ↦ same.copy z
      ])

  -- the replay of a walk with these starts
  replays : (d own b : ℕ) (body : List ℕ) → (page_view v p).durable ≡ d
      → replay_chain (page_view v p).log (walk_from d (page_view v p).log (page_view v p).first p own b d).chain body
      ≡ replay_chain (page_view w p).log (walk_from d (page_view v p).log (page_view v p).first p own b d).chain body
  unfolding walk_from replay_chain
  replays zero own b body e = refl
  replays (suc d) own b body e =
      let k = walk_is v hv p low high (suc d) own b e (omega arith) in
      ap (λ (x : Walk). replay_chain (page_view v p).log x.chain body) k ∙ replay-is v hv p low high (suc d) own b body e (omega arith)
      ∙ ap (λ (l : List (List ℕ)). replay_l (taken_l p own b (suc d) l) body) records-same
      ∙ sym (replay-is w hw p low high (suc d) own b body (sym durable-same ∙ e) (omega arith))
      ∙ ap (λ (l : List (List ℕ)). replay_chain (page_view w p).log (walk_l p own b (suc d) l).chain body) (sym records-same)
      ∙ ap (λ (x : Walk). replay_chain (page_view w p).log x.chain body) (sym k)

  body_same : rebuilt_body (geometry_of v) p (page_view v p) ≡ rebuilt_body (geometry_of w) p (page_view w p)
  unfolding rebuilt_body walk_of
  body_same =
      let k = walk_of (geometry_of v) p (page_view v p) in
      replays (page_view v p).durable (own_start (geometry_of v) p (page_view v p)) (backup_start (geometry_of v) p (page_view v p))
      (start_body k.stop (page_view v p)) refl
      ∙ ap (λ (x : List ℕ). replay_chain (page_view w p).log k.chain x) start-same
      ∙ ap (λ (x : Walk). replay_chain (page_view w p).log x.chain (start_body x.stop (page_view w p))) walk_same

  pub image-same : seal_image (geometry_of v) (rebuilt (geometry_of v) p (page_view v p))
      ≡ seal_image (geometry_of w) (rebuilt (geometry_of w) p (page_view w p))
  image-same =
      seal-tag (geometry_of v) (geometry_of w) (rebuilt (geometry_of v) p (page_view v p)) tags
      ∙ ap (λ (d : ℕ). seal_image (geometry_of w) (frame_image p d (rebuilt_body (geometry_of v) p (page_view v p)))) durable-same
      ∙ ap (λ (x : List ℕ). seal_image (geometry_of w) (frame_image p (page_view w p).durable x)) body_same

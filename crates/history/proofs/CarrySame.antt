-- Each of the three calls that carry a volume over leaves every inspection the same, class, start and count included.
use mathlib.Core.Path.{◌≡◌, refl, sym, ap, ◌∙◌}
use mathlib.Core.Logic.{◌≢◌, ◌⊎◌, inl, inr}
use mathlib.Core.Bool.{Bool, true, false, cond, ◌&&◌}
use mathlib.Core.List.{List}
use Prim.Native.Nat.{ℕ, suc, ◌-◌, ◌%◌, ◌≤◌, ◌<◌}
use native.Mathlib.Nat.{mod-lt}
use native.Mathlib.Omega.{arith}
use lib.ListN.{length}
use lib.Dec.{eqb}
use borrow.Author.Tests.{eqb-true, eqb-false, eq-eqb}
use Rattle.laws.proofs.Tables.{by_cases, within-bounds}
use Rattle.laws.proofs.Places.{In}
use Rattle.model.specs.Tables.{within}
use Rattle.model.specs.Bytes.{part}
use Rattle.model.specs.Checksum.{sealed}
use Rattle.model.specs.Geometry.{tag_of, carry_tag, with_tag, page_at, slot_at, item, store_heading, ring, log_slot}
use Rattle.model.specs.Item.{image_lsn, valid_image}
use Rattle.model.specs.Index.{entry_of}
use Rattle.model.specs.Scan.{first_held, index_of, first_in}
use Rattle.model.specs.Repair.{View, view_of, class_in, own_start, backup_start, walk_of, is_below, repair_of}
use Rattle.model.specs.Refusals.{inspect_rows}
use Rattle.model.specs.Outcome.{refusal_of}
use Rattle.model.specs.Restart.{inspect_of}
use Rattle.model.specs.AbstractLog.{Logged}
use Rattle.model.specs.Health.{Same}
use Rattle.model.specs.declared.{geometry.Geometry.Geometry, geometry.Heading.TheVariants.Second, item.Note.Note}
use Rattle.model.specs.declared.answer.Answer.TheVariants.{Refused, Repaired}
use Rattle.history.proofs.Logs.{last_of, last-le}
use Rattle.history.proofs.Marks.{mark_at, mark-ok}
use Rattle.history.proofs.Entries.{entry_from}
use Rattle.history.proofs.Sections.{volume-sized}
use Rattle.history.proofs.Disk.{Holds, Noted}
use Rattle.history.proofs.NoteIndex.{valid-notes, index_is}
use Rattle.history.proofs.LogScan.{first, first-is, started, rec-at, durable-count, valid-log}
use Rattle.history.proofs.Turn.{SameImages, turn-item}
use Rattle.history.proofs.Inspection.{inspect-durable}

-- ---- a repair depends on the images' validity and number alone

-- what two views of a page have alike
pub record ViewsAlike (g g' : Geometry) (p : ℕ) (w w' : View) : Type 0 where
  pub valid : valid_image g' p w'.own ≡ valid_image g p w.own
  pub number : image_lsn w'.own ≡ image_lsn w.own
  pub copy : backup_start g' p w' ≡ backup_start g p w
  pub durable : w'.durable ≡ w.durable
  pub written : w'.written ≡ w.written
  pub log : (n : ℕ) → w'.log n ≡ w.log n
  pub first : w'.first ≡ w.first

module _ (g g' : Geometry) (p : ℕ) (w w' : View) (a : ViewsAlike g g' p w w') where
  own-alike : own_start g' p w' ≡ own_start g p w
  own-alike = rw (a.valid, a.number)

  log-alike : ◌≡◌ {A = ℕ → List ℕ} w'.log w.log
  log-alike = λ i n. a.log n i

  pub walk-alike : walk_of g' p w' ≡ walk_of g p w
  unfolding walk_of
  walk-alike = rw (own-alike, a.copy, a.durable, a.first, log-alike)

  class-alike : class_in g' p w' ≡ class_in g p w
  class-alike = rw (a.valid, a.number, a.durable, a.written)

  pub repair-alike : repair_of g' p w' ≡ repair_of g p w
  unfolding repair_of
  repair-alike = rw (class-alike, walk-alike)

-- ---- the answer of an inspection

abbrev view_in : Geometry → List ℕ → List Logged → List Note → ℕ → View
view_in g v k ns p = view_of g v (first_held g v (length k)) (entry_from (last_of p k) (last_of p k) (mark_at p ns (length ns))) p

module _ {C : Type 0} (g : Geometry) (v : List ℕ) (k : List Logged) (h : Holds g v k) (ns : List Note) (o : Noted C g v k ns)
    (p : ℕ) (buffer : List ℕ) where
  wrong_size : eqb (length buffer) 256 ≡ false → (inspect_of v p buffer).answer ≡ Refused 2
  unfolding inspect_of inspect_rows
  wrong_size t = rw (h.vol.ok, t)

  wrong-page : eqb (length buffer) 256 ≡ true → within g.pages p ≡ false → (inspect_of v p buffer).answer ≡ Refused 3
  unfolding inspect_of inspect_rows
  wrong-page t u = rw (h.vol.geo, h.vol.ok, t, u)

  asked-page : eqb (length buffer) 256 ≡ true → within g.pages p ≡ true
      → (inspect_of v p buffer).answer
      ≡ cond (eqb (last_of p k) 0) (Refused 7)
      (cond (is_below (walk_of g p (view_in g v k ns p)).stop) (Refused 23) (Repaired (repair_of g p (view_in g v k ns p))))
  unfolding inspect_of inspect_rows
  asked-page t u =
      let w = within-bounds g.pages p u in
      let e : entry_of (index_of g v) p ≡ entry_from (last_of p k) (last_of p k) (mark_at p ns (length ns)) =
      (index_is g v k h ns o).entry p w.0 (omega (arith, w.1, (volume-sized g v h.vol).p-high)) in
      rw (h.vol.geo, h.vol.ok, t, u, valid-log g v k h ns o, valid-notes g v k h ns o, e, durable-count g v k h ns o)
      (by_cases (eqb (last_of p k) 0)
      (λ z. rw z)
      (λ z. rw z (by_cases (is_below (walk_of g p (view_in g v k ns p)).stop) (λ b. rw b) (λ b. rw b))))

-- ---- two volumes whose images are alike

pub record Alike (g : Geometry) (v : List ℕ) (k : List Logged) (ns : List Note) (tag : ℕ) (v' : List ℕ) : Type 0 where
  pub own : (p : ℕ) → 1 ≤ p → p ≤ g.pages
      → (valid_image (with_tag g tag) p (item (with_tag g tag) v' (page_at p)) ≡ valid_image g p (item g v (page_at p)))
      × (image_lsn (item (with_tag g tag) v' (page_at p)) ≡ image_lsn (item g v (page_at p)))
  pub copy : (p : ℕ) → 1 ≤ p → p ≤ g.pages → (mark_at p ns (length ns)).slot ≢ 0
      → (valid_image (with_tag g tag) p (item (with_tag g tag) v' (slot_at (mark_at p ns (length ns)).slot))
      ≡ valid_image g p (item g v (slot_at (mark_at p ns (length ns)).slot)))
      × (image_lsn (item (with_tag g tag) v' (slot_at (mark_at p ns (length ns)).slot))
      ≡ image_lsn (item g v (slot_at (mark_at p ns (length ns)).slot)))
  pub log : (n : ℕ) → item (with_tag g tag) v' (log_slot g n) ≡ item g v (log_slot g n)

module _ {C : Type 0} (g : Geometry) (v : List ℕ) (k : List Logged) (h : Holds g v k) (ns : List Note) (o : Noted C g v k ns)
    (plain : ring g ≡ false) (tag : ℕ) (v' : List ℕ)
    (h' : Holds (with_tag g tag) v' k) (o' : Noted C (with_tag g tag) v' k ns) (same : Alike g v k ns tag v') where
  -- the run starts at 1 in both
  first_plain : first_held g v (length k) ≡ 1
  unfolding first_held first_in
  first_plain = rw plain

  few : length k ≤ g.records
  few = let r = h.room in rw plain at r

  first-whole : 1 ≤ length k → sealed 60 (item g v (log_slot g 1)) ≡ true
  first-whole b =
      let z : first g v k h ns o ≡ 0 = let q = first-is g v k h ns o in omega (arith, first_plain, q) in
      rw ((started g v k h ns o).held 0 b (omega arith)) (rec-at g v k h ns o 0 b).sealed-is

  first-turned : 1 ≤ length k → first_held (with_tag g tag) v' (length k) ≡ 1
  unfolding first_held first_in
  first-turned b =
      let e : suc (length k - g.records) ≡ 1 = omega (arith, few) in
      rw (e, same.log 1, first-whole b) (once (ring (with_tag g tag)))
    where
      once : (t : Bool) → ◌≡◌ {A = ℕ} (cond t 1 1) 1
      once true = refl
      once false = refl

  module _ (p : ℕ) (lo : 1 ≤ p) (hi : p ≤ g.pages) (nz : last_of p k ≢ 0) where
    abbrev view : View
    view = view_in g v k ns p

    abbrev view' : View
    view' = view_in (with_tag g tag) v' k ns p

    -- where no slot is given the backup's number is 0, and that is no start
    copy-alike : backup_start (with_tag g tag) p view' ≡ backup_start g p view
    copy-alike = by_cases (eqb (mark_at p ns (length ns)).slot 0)
        (λ t. rw t (none (valid_image (with_tag g tag) p view'.copy && eqb (image_lsn view'.copy) 0)
        (valid_image g p view.copy && eqb (image_lsn view.copy) 0)))
        (λ t. let c = same.copy p lo hi (eqb-false (mark_at p ns (length ns)).slot 0 t) in rw (c.0, c.1))
      where
        none : (a b : Bool) → ◌≡◌ {A = ℕ} (cond a 0 0) (cond b 0 0)
        none true true = refl
        none true false = refl
        none false true = refl
        none false false = refl

    views-alike : ViewsAlike g (with_tag g tag) p view view'
    views-alike =
        let b : 1 ≤ length k = omega (arith, last-le p k (length k)) in
        record {
          valid = (same.own p lo hi).0;
          number = (same.own p lo hi).1;
          copy = copy-alike;
          durable = refl;
          written = refl;
          log = same.log;
          first = first-turned b ∙ sym first_plain;
        }

  same_answer : (p : ℕ) (buffer : List ℕ) → (inspect_of v' p buffer).answer ≡ (inspect_of v p buffer).answer
  same_answer p buffer = by_cases (eqb (length buffer) 256)
      (λ t. by_cases (within g.pages p)
      (λ u.
      let w = within-bounds g.pages p u in
      asked-page (with_tag g tag) v' k h' ns o' p buffer t u ∙ (by_cases (eqb (last_of p k) 0)
      (λ z. rw z)
      (λ z.
      let a = views-alike p w.0 w.1 (eqb-false (last_of p k) 0 z) in
      rw (
        walk-alike g (with_tag g tag) p (view_in g v k ns p) (view_in (with_tag g tag) v' k ns p) a,
        repair-alike g (with_tag g tag) p (view_in g v k ns p) (view_in (with_tag g tag) v' k ns p) a,
      ))
      ∙ sym (asked-page g v k h ns o p buffer t u)))
      (λ u. wrong-page (with_tag g tag) v' k h' ns o' p buffer t u ∙ sym (wrong-page g v k h ns o p buffer t u)))
      (λ t. wrong_size (with_tag g tag) v' k h' ns o' p buffer t ∙ sym (wrong_size g v k h ns o p buffer t))

  same_bytes : (p : ℕ) (buffer : List ℕ) → refusal_of (inspect_of v' p buffer).answer ≡ 0
      → part (inspect_of v' p buffer).buffer 4 248 ≡ part (inspect_of v p buffer).buffer 4 248
  same_bytes p buffer e = by_cases (eqb (length buffer) 256)
      (λ t. by_cases (within g.pages p)
      (λ u.
      let w = within-bounds g.pages p u in
      let five = eqb-true (length buffer) 256 t in
      let e₀ : refusal_of (inspect_of v p buffer).answer ≡ 0 = sym (ap refusal_of (same_answer p buffer)) ∙ e in
      let nz : last_of p k ≢ 0 = λ z.
      let q : (inspect_of v p buffer).answer ≡ Refused 7 = rw (eq-eqb (last_of p k) 0 z) at (asked-page g v k h ns o p buffer t u) in
      let r = ap refusal_of q in omega arith in
      shows (inspect-durable (with_tag g tag) v' k h' ns o' p w.0 w.1 buffer five nz) e
      ∙ sym (shows (inspect-durable g v k h ns o p w.0 w.1 buffer five nz) e₀))
      (λ u. absurd (let q = ap refusal_of (wrong-page (with_tag g tag) v' k h' ns o' p buffer t u) in omega arith)))
      (λ t. absurd (let q = ap refusal_of (wrong_size (with_tag g tag) v' k h' ns o' p buffer t) in omega arith))
    where
      shows : {n : ℕ} {x y : List ℕ} → ((n ≡ 0) × (x ≡ y)) ⊎ (n ≡ 23) → n ≡ 0 → x ≡ y
      shows (inl s) e = s.1
      shows (inr s) e = absurd (omega arith)

  pub inspections-same : (p : ℕ) (buffer : List ℕ) → Same (inspect_of v' p buffer) (inspect_of v p buffer)
  inspections-same p buffer = record { answer = same_answer p buffer; bytes = same_bytes p buffer }

-- ---- a heading stored

-- a log slot is one of the volume's, whatever the number
pub log-in : (g : Geometry) → 1 ≤ g.records → (n : ℕ) → In g (log_slot g n)
log-in g low n = let m : (n - 1) % g.records < g.records = mod-lt (n - 1) low in (omega arith, omega arith)

pub heading-alike : {C : Type 0} (g : Geometry) (v : List ℕ) (k : List Logged) (h : Holds g v k) (ns : List Note) (o : Noted C g v k ns)
    (tag : ℕ) (plain : ring g ≡ false)
    (known : (tag ≡ carry_tag) ⊎ (tag ≡ tag_of Second)) (same : SameImages g tag v ns) → Alike g v k ns tag (store_heading v tag)
heading-alike g v k h ns o tag plain known same =
    record {
      own = λ p lo hi. let e = turn-item g v k h ns o tag plain known same (page_at p) (lo, hi) in
          (ap (valid_image (with_tag g tag) p) e ∙ same.own p lo hi, ap image_lsn e);
      copy = λ p lo hi nz.
          let high = (mark-ok g.pages g.slots k ns o.fit p (length ns) (omega arith)).slots in
          let e = turn-item g v k h ns o tag plain known same (slot_at (mark_at p ns (length ns)).slot) (omega arith, high) in
          (ap (valid_image (with_tag g tag) p) e ∙ same.copy p lo hi nz, ap image_lsn e);
      log = λ n. turn-item g v k h ns o tag plain known same (log_slot g n) (log-in g (volume-sized g v h.vol).l-low n);
    }

-- Laws of the log's scan: one record as it was judged and entered, and what the whole log comes to.
use mathlib.Core.Path.{◌≡◌, sym, ap, ◌∙◌, subst}
use mathlib.Core.Bool.{Bool, true, false, ◌&&◌, ◌||◌}
use mathlib.Core.List.{List, [], ◌∷◌}
use Prim.Native.Nat.{ℕ, suc, ◌+◌, ◌-◌, ◌%◌, ◌≤◌, ◌<◌}
use native.Mathlib.Numerals.{add-one}
use native.Mathlib.Omega.{arith}
use lib.Dec.{eqb}
use lib.ListN.{length, get_or, set, replicate, length-set, length-replicate, get_or-map}
use Rattle.laws.proofs.Tables.{all-at, within-bounds, every-none, every_more, every-fails}
use Rattle.laws.proofs.Scanned.{held_low}
use Rattle.model.specs.Tables.{every, within}
use Rattle.model.specs.Checksum.{sealed}
use Rattle.model.specs.Geometry.{log_slot, item}
use Rattle.model.specs.Item.{record_of, record_layout, first_is_format}
use Rattle.model.specs.Index.{empty_entry, entry_of}
use Rattle.model.specs.Scan.{log_record, durable_count, first_held, log_index, indexed_run, record_fits, ends_in, valid_log}
use Rattle.model.specs.declared.{geometry.Geometry.Geometry, item.LogRecord.LogRecord, state.Entry.Entry}
use Rattle.log_scan.specs.Rows.{row_of, lasts}
use Rattle.log_scan.specs.LogSection.{log_section, log_run, record_follows}
use Rattle.section.specs.Section.{slots_in, front_in}
use Rattle.section.specs.declared.Run.{Run}
use Rattle.section.specs.declared.Extent.{Extent}
use Rattle.log_scan.proofs.RowLaws.{column-set, log-none, row_is}
use Rattle.log_scan.proofs.Located.{record-known, log-section}
use Rattle.log_scan.proofs.Conjunctions.{guarded}

module _ (g : Geometry) (v : List ℕ) where
  breaks : (i : ℕ) → let n = durable_count g v in let f = first_held g v n in
      i < suc n - f → record_fits g v f (log_index g v f i) (f + i) ≡ false → valid_log g v ≡ false
  unfolding valid_log
  breaks i b h =
      let n = durable_count g v in
      let f = first_held g v n in
      rw (every-fails (λ j. record_fits g v f (log_index g v f j) (f + j)) (suc n - f) i b h)

  ends : let n = durable_count g v in let f = first_held g v n in
      every (suc n - f) (λ j. record_fits g v f (log_index g v f j) (f + j)) ≡ true → ends_in v (slots_in v (log_section g)) f n ≡ valid_log g v
  unfolding valid_log
  ends h = rw (h, log-section g v)

  -- the first i records of a run from f on fit, and gave the column of last numbers
  pub record Judged (f i : ℕ) (last : List ℕ) : Type 0 where
    pub held : every i (λ j. record_fits g v f (log_index g v f j) (f + j)) ≡ true
    pub same : last ≡ lasts (log_index g v f i)
    pub long : length last ≡ 64

  pub judged-none : (f : ℕ) (last : List ℕ) → last ≡ replicate 64 0 → Judged f 0 last
  judged-none f last e =
      record { held = every-none _; same = e ∙ sym (log-none g v f); long = ap length e ∙ length-replicate {A = ℕ} 64 0 }

  -- the log's run
  module _ (r : Run) (er : r ≡ log_run g v) where
    pub run-low : 1 ≤ r.first
    run-low = rw er (held_low g v (durable_count g v))

    -- a record at the whole front
    pub log-known : (n slot : ℕ) (x : List ℕ) → x ≡ item g v (log_slot g n) → slot ≡ (n - 1) % g.records
        → slot < r.front → sealed 60 x ≡ true
    log-known n slot x ex e h =
        let q : r.front ≡ front_in v (log_section g) = ap (λ (y : Run). y.front) er in
        ap (sealed 60) ex ∙ record-known g v n (omega (arith, e, q))

    -- a record does not fit
    pub log-breaks : (i : ℕ) → i < suc r.count - r.first
        → record_fits g v r.first (log_index g v r.first i) (r.first + i) ≡ false → valid_log g v ≡ false
    log-breaks =
        subst (λ (x : Run). (i : ℕ) → i < suc x.count - x.first
        → record_fits g v x.first (log_index g v x.first i) (x.first + i) ≡ false → valid_log g v ≡ false)
        (sym er) breaks

    -- all fit
    pub log-ends : (i : ℕ) (last : List ℕ) → Judged r.first i last → i ≡ suc r.count - r.first
        → (s : Extent) → s ≡ log_section g → (b : Bool)
        → b ≡ ends_in v (slots_in v s) r.first r.count → b ≡ valid_log g v
    log-ends i last j ei s es b eb =
        eb ∙ ap (λ (x : Extent). ends_in v (slots_in v x) r.first r.count) es
        ∙ subst (λ (x : Run). every (suc x.count - x.first)
        (λ k. record_fits g v x.first (log_index g v x.first k) (x.first + k)) ≡ true
        → ends_in v (slots_in v (log_section g)) x.first x.count ≡ valid_log g v) (sym er) ends (rw ei at j.held)

    pub log-columns : (i : ℕ) (last : List ℕ) → Judged r.first i last → i ≡ suc r.count - r.first → last ≡ lasts (indexed_run g v)
    log-columns i last j ei = j.same ∙ ap (λ (k : ℕ). lasts (log_index g v r.first k)) ei
        ∙ ap (λ (x : Run). lasts (log_index g v x.first (suc x.count - x.first))) er

  -- record n = f + i as it was read and judged, after records that gave the column of last numbers
  module _ (few : g.pages ≤ 64) (f i : ℕ) (last : List ℕ) (same : last ≡ lasts (log_index g v f i)) (n : ℕ) (n-is : n ≡ f + i)
      (below : ℕ) (below-is : below ≡ f - 1) (r : List ℕ) (er : r ≡ item g v (log_slot g n)) (e : LogRecord) (ee : e ≡ record_of r)
      (k : ℕ) (ek : k ≡ row_of e.page) (whole layout ok : Bool) (ew : whole ≡ sealed 60 r) (el : layout ≡ record_layout r)
      (eo : ok ≡ record_follows whole layout e g.pages below (get_or last k 0) n) where
    inside : within g.pages e.page ≡ true → k ≡ e.page - 1
    inside t = ek ∙ row_is e.page (omega (arith, within-bounds g.pages e.page t))

    last-at : within g.pages e.page ≡ true → get_or last k 0 ≡ (entry_of (log_index g v f i) e.page).last
    last-at t =
        ap (λ (l : List ℕ). get_or l k 0) same
        ∙ ap (λ (x : ℕ). get_or (lasts (log_index g v f i)) x 0) (inside t)
        ∙ get_or-map (λ (x : Entry). x.last) (log_index g v f i) (e.page - 1) empty_entry

    abbrev link : ℕ → ℕ → Bool
    link b l = (eqb e.prev l || (eqb l 0 && within b e.prev)) && first_is_format e

    pub log-judged : ok ≡ record_fits g v f (log_index g v f i) (f + i)
    unfolding record_fits
    log-judged =
        eo
        ∙ ap (λ (t : Bool). whole && t)
        (guarded layout (eqb e.lsn n) (within g.pages e.page) (link below (get_or last k 0))
        (link below (entry_of (log_index g v f i) e.page).last)
        (λ t. ap (link below) (last-at t)))
        ∙ rw (ew, el, ee, er, n-is, below-is)

    log-enters : ok ≡ true → set last k n ≡ lasts (log_index g v f (i + 1))
    unfolding log_index
    log-enters t =
        let w : within g.pages e.page ≡ true =
        all-at (whole ∷ layout ∷ eqb e.lsn n ∷ within g.pages e.page ∷ link below (get_or last k 0) ∷ []) 3 (sym eo ∙ t) in
        let q : e ≡ log_record g v (f + i) = ee ∙ ap record_of er ∙ ap (λ (x : ℕ). log_record g v x) n-is in
        rw (inside w, same, add-one i, q, n-is) (sym (column-set (λ (x : Entry). x.last) (log_index g v f i) _ _))

    pub judged-more : Judged f i last → ok ≡ true → Judged f (i + 1) (set last k n)
    judged-more j t =
        record {
          held = every_more (λ x. record_fits g v f (log_index g v f x) (f + x)) i j.held (sym log-judged ∙ t);
          same = log-enters t;
          long = length-set last k n ∙ j.long;
        }
